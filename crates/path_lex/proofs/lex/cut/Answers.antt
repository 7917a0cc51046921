use Rattle.std.proofs.Common.{◌≡◌, ◌+◌, true, [], ◌∷◌, ◌++◌, drop, refl, sym, ap, subst, ◌∙◌, arith, get_or, inl, inr}
use Rattle.std.proofs.lemmas.List.{map_push}
use Rattle.path_lex.specs.declared.token.Class.TheVariants as classes
use Rattle.path_lex.specs.Bytes.{class_of, begins_none}
use Rattle.path_lex.specs.Spelling.{word_len, number_len, view, views}
use Rattle.path_lex.proofs.Cut.{Reached, past_space, past_mark, past_word, past_number, clean_one, clean_word, clean_number, is_stuck, is_first_bad, all_of, only_these, rest_whole, none_bad, word_ascii}
use Rattle.path_lex.proofs.lex.cut.Goals as goal

pub loop-at-preserved-in-Space : goal.loop-at-preserved-in-Space
loop-at-preserved-in-Space g c =
    let e : class_of (get_or c.args.text.now c.loop-at.at 0) ≡ classes.Space = sym c.in-Space.ensures in
    let i = c.loop-at.invariant in
    record {
      within = omega arith;
      reached = past_space _ _ _ c.loop-at-test.true e i.reached;
      clean = clean_one _ _ (rw e refl) (rw e refl) i.clean;
    }

pub loop-at-preserved-in-Sign : goal.loop-at-preserved-in-Sign
loop-at-preserved-in-Sign g c =
    let e : class_of (get_or c.args.text.now c.loop-at.at 0) ≡ classes.Sign c.in-Sign.sign = sym c.in-Sign.ensures in
    let i = c.loop-at.invariant in
    let p = ap views c.in_ok-push-in-Sign.ensures.items ∙ map_push view c.loop-at.tokens.items _ in
    record {
      within = omega arith;
      reached = subst (λ ts. Reached c.args.text.now ts (c.loop-at.at + 1)) (sym p) (past_mark _ _ _ _ c.loop-at-test.true e i.reached);
      clean = clean_one _ _ (rw e refl) (rw e refl) i.clean;
    }

pub loop-at-preserved-in-Letter : goal.loop-at-preserved-in-Letter
loop-at-preserved-in-Letter g c =
    let e : class_of (get_or c.args.text.now c.loop-at.at 0) ≡ classes.Letter = sym c.in-Letter.ensures in
    let i = c.loop-at.invariant in
    let ends : c.loop-at.at + 1 + c.word_part.result ≡ c.loop-at.at + 1 + word_len (drop (c.loop-at.at + 1) c.args.text.now) = ap (λ n. c.loop-at.at + 1 + n) (c.word_part.ensures.part ∙ ap word_len (rest_whole c.args.text.now (c.loop-at.at + 1))) in
    let p = ap views c.in_ok-push-in-Letter.ensures.items ∙ map_push view c.loop-at.tokens.items _ ∙ ap (λ x. views c.loop-at.tokens.items ++ x ∷ []) c.word_token.ensures in
    record {
      within = omega (arith, c.word_part.ensures.within);
      reached = subst (λ ts. Reached c.args.text.now ts (c.loop-at.at + 1 + c.word_part.result)) (sym p) (past_word _ _ _ _ _ c.loop-at-test.true e ends refl i.reached);
      clean = clean_word _ _ _ c.loop-at-test.true e ends i.clean;
    }

pub loop-at-preserved : goal.loop-at-preserved
loop-at-preserved g c =
    let e : class_of (get_or c.args.text.now c.loop-at.at 0) ≡ classes.Digit = sym c.in-Digit.ensures in
    let i = c.loop-at.invariant in
    let ends : c.loop-at.at + 1 + c.number_part.result ≡ c.loop-at.at + 1 + number_len (drop (c.loop-at.at + 1) c.args.text.now) = ap (λ n. c.loop-at.at + 1 + n) (c.number_part.ensures.part ∙ ap number_len (rest_whole c.args.text.now (c.loop-at.at + 1))) in
    let p = ap views c.in_ok-push-in-Digit.ensures.items ∙ map_push view c.loop-at.tokens.items _ in
    record {
      within = omega (arith, c.number_part.ensures.within);
      reached = subst (λ ts. Reached c.args.text.now ts (c.loop-at.at + 1 + c.number_part.result)) (sym p) (past_number _ _ _ _ _ c.loop-at-test.true e ends refl i.reached);
      clean = clean_number _ _ _ c.loop-at-test.true e ends i.clean;
    }

pub returns-in-Underscore-clause-err : goal.returns-in-Underscore-clause-err
returns-in-Underscore-clause-err g c =
    let i = c.loop-at.invariant in
    let e = c.class.ensures in
    let f = c.in-Underscore.is in
    let none : begins_none (class_of (get_or c.args.text.now c.loop-at.at 0)) ≡ true = elim f [ inl u ↦ rw (← e, u) refl | inr o ↦ rw (← e, o) refl ] in
    (is_first_bad _ _ c.loop-at-test.true none i.clean, is_stuck _ _ _ c.loop-at-test.true none i.reached)

pub returns-clause-ok : goal.returns-clause-ok
returns-clause-ok g c = all_of _ _ _ (omega arith) c.loop-at.invariant.reached

pub returns-clause-only : goal.returns-clause-only
returns-clause-only g c = only_these _ _ _ (omega arith) c.loop-at.invariant.reached

pub returns-clause-good : goal.returns-clause-good
returns-clause-good g c = none_bad _ _ (omega arith) c.loop-at.invariant.clean

pub word_token-requires : goal.word_token-requires
word_token-requires g c =
    let e : class_of (get_or c.args.text.now c.loop-at.at 0) ≡ classes.Letter = sym c.in-Letter.ensures in
    word_ascii c.args.text.now c.loop-at.at _ c.loop-at-test.true e (c.word_part.ensures.part ∙ ap word_len (rest_whole c.args.text.now (c.loop-at.at + 1)))
