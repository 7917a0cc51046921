use Rattle.std.proofs.Common.{subst, sym, ◌≤◌, length, arith}
use Rattle.std.proofs.lemmas.Result.{err_from_is_err_and}
use Rattle.path_lex.specs.Spelling.{views}
use Rattle.path_decl.specs.Grammar.{IsFile}
use Rattle.path_decl.specs.Text.{IsDeclarationText}
use Rattle.path_read.specs.Inner.Reading.{told}
use Rattle.path_read.specs.Inner.Building.{drafted}
use Rattle.path_read.proofs.Whole.{is_read, no_file_text, refuses_then, short_enough}
use Rattle.path_read.proofs.Following.{no_value, no_fault, same_fault}
use Rattle.path_read.proofs.reader.read.Goals as goal

pub returns-in_err-draft-clause-err : goal.returns-in_err-draft-clause-err
returns-in_err-draft-clause-err g c =
    let p = err_from_is_err_and c.from_residual-in_err-draft.result c.from_residual-in_err-draft.ensures.1 in
    rw (p.1, p.2) (refuses_then c.args.text.now _ (λ none. no_file_text _ (views c.in_ok-tokens.tokens.items) c.in_ok-tokens.ensures.only (λ rs f. none rs (subst (λ x. IsFile (told x) rs) (sym c.deref.ensures.value) f))) c.in_err-draft.ensures.none)

pub finish-requires : goal.finish-requires
finish-requires g c =
    let f = c.in_ok-draft.ensures.found in (c.args.text.now, is_read c.args.text.now (views c.in_ok-tokens.tokens.items) f.0 (drafted c.in_ok-draft.draft) c.in_ok-tokens.ensures.ok (subst (λ x. IsFile (told x) f.0) c.deref.ensures.value f.1) f.2 f.3)

pub returns-clause-ok : goal.returns-clause-ok
returns-clause-ok g c =
    let f = c.in_ok-draft.ensures.found in
    subst (λ x. IsDeclarationText c.args.text.now x) (sym c.in_ok-decl.ensures) (is_read c.args.text.now (views c.in_ok-tokens.tokens.items) f.0 (drafted c.in_ok-draft.draft) c.in_ok-tokens.ensures.ok (subst (λ x. IsFile (told x) f.0) c.deref.ensures.value f.1) f.2 f.3)

pub returns-clause-bad_byte : goal.returns-clause-bad_byte
returns-clause-bad_byte g c = λ at le bad. no_fault c.in_ok-tokens.tokens _ _ _ (c.in_ok-tokens.ensures.bad_byte at le bad)

pub returns-in_err-tokens-clause-word_too_long : goal.returns-in_err-tokens-clause-word_too_long
returns-in_err-tokens-clause-word_too_long g c = λ at le long. same_fault c.from_residual.result _ _ _ c.from_residual.ensures.1 (c.in_err-tokens.ensures.word_too_long at le long)

pub returns-in_err-draft-clause-word_too_long : goal.returns-in_err-draft-clause-word_too_long
returns-in_err-draft-clause-word_too_long g c = λ at le long. no_fault c.in_ok-tokens.tokens _ _ _ (c.in_ok-tokens.ensures.word_too_long at le long)

pub returns-clause-word_too_long : goal.returns-clause-word_too_long
returns-clause-word_too_long g c = λ at le long. no_fault c.in_ok-tokens.tokens _ _ _ (c.in_ok-tokens.ensures.word_too_long at le long)

pub returns-in_err-tokens-clause-number_too_long : goal.returns-in_err-tokens-clause-number_too_long
returns-in_err-tokens-clause-number_too_long g c = λ at le long. same_fault c.from_residual.result _ _ _ c.from_residual.ensures.1 (c.in_err-tokens.ensures.number_too_long at le long)

pub returns-in_err-draft-clause-number_too_long : goal.returns-in_err-draft-clause-number_too_long
returns-in_err-draft-clause-number_too_long g c = λ at le long. no_fault c.in_ok-tokens.tokens _ _ _ (c.in_ok-tokens.ensures.number_too_long at le long)

pub returns-clause-number_too_long : goal.returns-clause-number_too_long
returns-clause-number_too_long g c = λ at le long. no_fault c.in_ok-tokens.tokens _ _ _ (c.in_ok-tokens.ensures.number_too_long at le long)

pub returns-in_err-tokens-clause-ok : goal.returns-in_err-tokens-clause-ok
returns-in_err-tokens-clause-ok g c = no_value c.from_residual.result _ _ c.from_residual.ensures.1

pub returns-in_err-draft-clause-ok : goal.returns-in_err-draft-clause-ok
returns-in_err-draft-clause-ok g c = no_value c.from_residual-in_err-draft.result _ _ c.from_residual-in_err-draft.ensures.1

pub returns-in_err-decl-clause-ok : goal.returns-in_err-decl-clause-ok
returns-in_err-decl-clause-ok g c = no_value c.from_residual-in_err-decl.result _ _ c.from_residual-in_err-decl.ensures.1

pub returns-in_err-tokens-clause-bad_byte : goal.returns-in_err-tokens-clause-bad_byte
returns-in_err-tokens-clause-bad_byte g c = λ at le bad. same_fault c.from_residual.result _ _ _ c.from_residual.ensures.1 (c.in_err-tokens.ensures.bad_byte at le bad)

pub returns-in_err-draft-clause-bad_byte : goal.returns-in_err-draft-clause-bad_byte
returns-in_err-draft-clause-bad_byte g c = λ at le bad. no_fault c.in_ok-tokens.tokens _ _ _ (c.in_ok-tokens.ensures.bad_byte at le bad)

pub returns-in_err-decl-clause-bad_byte : goal.returns-in_err-decl-clause-bad_byte
returns-in_err-decl-clause-bad_byte g c = λ at le bad. no_fault c.in_ok-tokens.tokens _ _ _ (c.in_ok-tokens.ensures.bad_byte at le bad)

pub returns-in_err-decl-clause-word_too_long : goal.returns-in_err-decl-clause-word_too_long
returns-in_err-decl-clause-word_too_long g c = λ at le long. no_fault c.in_ok-tokens.tokens _ _ _ (c.in_ok-tokens.ensures.word_too_long at le long)

pub returns-in_err-decl-clause-number_too_long : goal.returns-in_err-decl-clause-number_too_long
returns-in_err-decl-clause-number_too_long g c = λ at le long. no_fault c.in_ok-tokens.tokens _ _ _ (c.in_ok-tokens.ensures.number_too_long at le long)

pub overflow_cast-text : goal.overflow_cast-text
overflow_cast-text g c =
    let short : length c.args.text.now ≤ 65536 = short_enough c.in_ok-tokens.tokens (length c.args.text.now) c.in_ok-tokens.ensures.too_long.1 in
    omega (arith, short)
