-- What was written into an empty text is the answer's output.
use Rattle.std.proofs.Common.{◌≡◌, ◌≢◌, ℕ, List, [], ◌++◌, inl, inr, sym, ap, ◌∙◌, subst}
use Rattle.std.specs.Prelude.{Some}
use Rattle.tell_base.specs.declared.status.Status.{Status}
use Rattle.tell_base.specs.declared.status.Status.TheVariants.{StreamFailed, NoMemory}
use Rattle.tell_base.specs.Ends.{Ends, Wrote}
use Rattle.page_answers.specs.Answers.{Answers}

module _ (table : Status → List ℕ → Type 0) where
  written : (s : Status) (wrote : List ℕ) → s ≢ StreamFailed → Wrote table (Some []) (Some wrote) s → Answers table s wrote
  written NoMemory wrote flowed (bytes, inl none, is) = inl (is ∙ none)
  written NoMemory wrote flowed (bytes, inr (rest, p), is) = inr (rest, subst (λ x. (s : Status) × table s (x ++ rest)) (sym is) p)
  written StreamFailed wrote flowed w = absurd (flowed (λ i. StreamFailed))
  written s wrote flowed (bytes, p, is) = subst (table s) (sym is) p

  -- a stream that failed is want of memory, and each other end is as it was written
  pub answered : (s told : Status) (before wrote out : List ℕ) → before ≡ [] → Ends table (Some before) (Some wrote) s
      → (s ≢ StreamFailed → (told ≡ s) × (out ≡ wrote)) → (s ≡ StreamFailed → (told ≡ NoMemory) × (out ≡ [])) → Answers table told out
  answered StreamFailed told before wrote out empty e kept failed =
      let f = failed (λ i. StreamFailed) in
      subst (λ t. Answers table t out) (sym f.0) (inl f.1)
  answered s told before wrote out empty e kept failed =
      let same = kept (λ is. cc) in
      subst (λ t. Answers table t out) (sym same.0)
      (subst (Answers table s) (sym same.1) (written s wrote (λ is. cc) (subst (λ x. Wrote table (Some x) (Some wrote) s) empty e.wrote)))

  -- the same, of an answer with the status and the output of that one
  pub answered_on : (s told then : Status) (before wrote out passed : List ℕ) → before ≡ [] → Ends table (Some before) (Some wrote) s
      → (s ≢ StreamFailed → (told ≡ s) × (out ≡ wrote)) → (s ≡ StreamFailed → (told ≡ NoMemory) × (out ≡ []))
      → then ≡ told → passed ≡ out → Answers table then passed
  answered_on s told then before wrote out passed empty e kept failed same_status same_out =
      subst (λ t. Answers table t passed) (sym same_status)
      (subst (Answers table told) (sym same_out) (answered s told before wrote out empty e kept failed))
