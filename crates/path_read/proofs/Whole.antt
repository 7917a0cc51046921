-- What is read of a whole text.
use Rattle.std.proofs.Common.{◌≡◌, ℕ, ◌<◌, ◌≤◌, List, [], Bool, true, false, nat_lt, Ok, refl, sym, ap, ◌∙◌, subst, arith}
use Rattle.std.specs.Result.{IsErrOf}
use Rattle.std.proofs.lemmas.Bool.Decides.{nat_tests}
use Rattle.path_model.specs.Declarations.{Resource, Operation, Path, Declaration}
use Rattle.path_lex.specs.declared.fault.DeclFault.{DeclFault}
use Rattle.path_lex.specs.declared.fault.DeclFault.TheVariants as faults
use Rattle.path_lex.specs.Spelling.{Piece, Placed, pieces, AreTokensOf}
use Rattle.path_decl.specs.Forms.{ResourceForm}
use Rattle.path_decl.specs.Grammar.{IsFile}
use Rattle.path_read.specs.Inner.Parts.{file_parts}
use Rattle.path_read.specs.Inner.Reading.{Fails}
use Rattle.path_read.specs.Refused.{Refuses}
use Rattle.path_decl.specs.Text.{IsDeclarationText}
use Rattle.path_decl.specs.Lawful.{Lawful}
use Rattle.path_read.specs.Inner.Building.{Drafted, nothing, declared_by, AllAllowed, after_all}
use Rattle.path_read.proofs.Lists.{file_once}
use Rattle.path_read.proofs.Greedy.{reads_file}
use Rattle.path_read.proofs.Files.{after_file, file_kept}
use Rattle.path_read.proofs.Ruled.{rules_kept, rules_allow, made_declares}
use Rattle.path_read.proofs.Made.{good_names, made, made_lawful}
use Rattle.path_read.proofs.FromLawful.{forms_keep_rules}

pub same_lists : (r r' : List Resource) (o o' : List Operation) (p p' : List Path) → r ≡ r' → o ≡ o' → p ≡ p' → ◌≡◌ {A = Declaration} (record { resources = r; operations = o; paths = p }) (record { resources = r'; operations = o'; paths = p' })
same_lists r r' o o' p p' e f g = cc

-- what is built of a text is what the text declares
pub is_read : (s : List ℕ) (ts : List Placed) (rs : List ResourceForm) (d : Drafted) → AreTokensOf s ts → IsFile (pieces ts) rs → AllAllowed (file_parts rs) nothing → d ≡ after_all (file_parts rs) nothing
    → IsDeclarationText s (declared_by d)
is_read s ts rs d t f allowed is =
    let rules = rules_kept rs allowed in
    let kept = file_kept rs [] [] [] 0 (omega arith) allowed in
    let m = after_file rs [] [] [] 0 in
    let whole : declared_by d ≡ made rs = same_lists _ _ _ _ _ _ (ap (λ x. x.resources) is ∙ m.resources) (ap (λ x. x.operations) is ∙ m.operations) (ap (λ x. x.paths) is ∙ m.paths) in
    let names = good_names s ts rs t f in
    record {
      tokens = ts;
      cut = t;
      forms = rs;
      file = f;
      declares = made_declares rs d allowed is;
      lawful = subst Lawful (sym whole) (made_lawful rs rules kept.paths names.0 names.1);
    }

-- tokens that are no file are no file whose parts keep the rules
pub no_file_kept : (ts : List Piece) → ((rs : List ResourceForm) → IsFile ts rs → ⊥) → (rs : List ResourceForm) → IsFile ts rs → AllAllowed (file_parts rs) nothing → ⊥
no_file_kept ts none rs f a = none rs f

-- parts that break a rule, of tokens that are a file in one way
pub broken_file : (ts : List Piece) (rs : List ResourceForm) → IsFile ts rs → (AllAllowed (file_parts rs) nothing → ⊥) → (qs : List ResourceForm) → IsFile ts qs → AllAllowed (file_parts qs) nothing → ⊥
broken_file ts rs f none qs g a = none (subst (λ x. AllAllowed (file_parts x) nothing) (file_once (reads_file g) (reads_file f)) a)

-- tokens that are no file whose parts keep the rules
pub no_file_text : (s : List ℕ) (ts : List Placed) → ((us : List Placed) → AreTokensOf s us → us ≡ ts) → ((rs : List ResourceForm) → IsFile (pieces ts) rs → AllAllowed (file_parts rs) nothing → ⊥) → (d : Declaration) → IsDeclarationText s d → ⊥
no_file_text s ts only none d t =
    none t.forms (subst (λ x. IsFile (pieces x) t.forms) (only t.tokens t.cut) t.file) (rules_allow t.forms (forms_keep_rules t.forms d t.declares t.lawful))

pub refuses_then : (s : List ℕ) (e : DeclFault) {P : Type 0} → (P → (d : Declaration) → IsDeclarationText s d → ⊥) → Fails e P → Refuses s e
refuses_then s faults.OutOfMemory f h = tt
refuses_then s faults.TooLong f h = absurd h
refuses_then s (faults.BadByte at) f h = absurd h
refuses_then s (faults.WordTooLong at) f h = absurd h
refuses_then s (faults.NumberTooLong at) f h = absurd h
refuses_then s _ f h = f h

not_above : {T : Type 0} (v : T) (n : ℕ) (b : Bool) → b ≡ nat_lt 65536 n → (65536 < n → IsErrOf {E = DeclFault} (Ok v) faults.TooLong) → n ≤ 65536
not_above v n true e h =
    let above : 65536 < n = grind (arith, nat_tests) in
    absurd (cc (h above))
not_above v n false e h = grind (arith, nat_tests)

-- the length of a text that isn't too long
pub short_enough : {T : Type 0} (v : T) (n : ℕ) → (65536 < n → IsErrOf {E = DeclFault} (Ok v) faults.TooLong) → n ≤ 65536
short_enough v n h = not_above v n (nat_lt 65536 n) refl h
