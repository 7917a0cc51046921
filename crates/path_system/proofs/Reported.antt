-- A report by the gate and the ledger is the report of the journal.
use Rattle.std.proofs.Common.{◌≡◌, ℕ, ◌+◌, ◌<◌, Bool, List, [], ◌∷◌, ◌++◌, length, length-append, arith, refl, ap, sym, subst, ◌∙◌, Option, Some, None, Result, Ok, Err, inl, inr}
use Rattle.std.specs.Prelude.{IfOk}
use Rattle.std.proofs.lemmas.Bool.{cases_eq}
use Rattle.path_model.specs.declared.ids.OpId.{OpId}
use Rattle.path_model.specs.declared.ids.PathId.{PathId}
use Rattle.path_model.specs.declared.history.Event.{Event}
use Rattle.path_model.specs.declared.history.Event.TheVariants.{Began}
use Rattle.path_model.specs.declared.journal.Line.{Line}
use Rattle.path_model.specs.declared.journal.Activation.{Activation}
use Rattle.path_model.specs.Trees.{Tree}
use Rattle.path_model.specs.Legal as legal
use Rattle.path_model.specs.Declarations.{Declaration, paths_of}
use Rattle.path_model.specs.Journals as journals
use Rattle.path_step.specs.Presents.{IsLeftBy}
use Rattle.path_system.specs.Inner.Parts.{PartsValue, AreSound, contents}
use Rattle.path_system.specs.Reports.{Meets, MeetsAt, IsSorting, IsReport, IsReportAt}
use Rattle.path_system.proofs.Agreed.{legal_now}

module _ (P : OpId → Option PathId → Type 0) where
  -- none is sorted
  pub sorted_none : (startable : List OpId) (blocked : List (OpId × PathId)) → startable ≡ [] → blocked ≡ [] → IsSorting P 0 startable blocked
  sorted_none startable blocked s b = rw (s, b) IsSorting.none

  -- one more that can be started
  pub sorted_free : (a : OpId) (startable new : List OpId) (blocked kept : List (OpId × PathId)) → IsSorting P a.0 startable blocked → P a None
      → new ≡ startable ++ a ∷ [] → kept ≡ blocked → IsSorting P (a.0 + 1) new kept
  sorted_free a startable new blocked kept rest m s b = rw (s, b) (IsSorting.free a startable blocked rest m)

  -- one more that can't
  pub sorted_held : (a : OpId) (p : PathId) (startable kept : List OpId) (blocked new : List (OpId × PathId)) → IsSorting P a.0 startable blocked → P a (Some p)
      → kept ≡ startable → new ≡ blocked ++ (a, p) ∷ [] → IsSorting P (a.0 + 1) kept new
  sorted_held a p startable kept blocked new rest m s b = rw (s, b) (IsSorting.held a p startable blocked rest m)

  -- what each operation meets may be said in other words
  sorted_along : (Q : OpId → Option PathId → Type 0) → ((a : OpId) (o : Option PathId) → P a o → Q a o) → (n : ℕ) (startable : List OpId) (blocked : List (OpId × PathId))
      → IsSorting P n startable blocked → IsSorting Q n startable blocked
  sorted_along Q to n startable blocked IsSorting.none = IsSorting.none
  sorted_along Q to n startable blocked (IsSorting.free a s b rest m) = IsSorting.free a s b (sorted_along Q to a.0 s b rest) (to a None m)
  sorted_along Q to n startable blocked (IsSorting.held a p s b rest m) = IsSorting.held a p s b (sorted_along Q to a.0 s b rest) (to a (Some p) m)

-- where a path forbids a start, it doesn't keep the history legal
first_legal : (xs : List (ℕ × Tree)) (h : List Event) (a : OpId) (p : ℕ) → legal.First (legal.Forbids h a) xs p → legal.Legal xs (h ++ Began a ∷ []) → ⊥
first_legal [] h a p f l = f
first_legal (x ∷ xs) h a p (inl f) l = f.0.1 l.0
first_legal (x ∷ xs) h a p (inr f) l = first_legal xs h a p f.1 l.1

module _ (d : Declaration) (h : List Event) where
  -- where none can be started, no start keeps the history legal
  none_free : (n : ℕ) (startable : List OpId) (blocked : List (OpId × PathId)) → IsSorting (Meets d h) n startable blocked → startable ≡ []
      → (a : OpId) → a.0 < n → legal.Legal (paths_of d) (h ++ Began a ∷ []) → ⊥
  none_free n startable blocked IsSorting.none e a within l = omega arith
  none_free n startable blocked (IsSorting.free b s bs rest m) e a within l = (let k = ap length e in let j = length-append s (b ∷ []) in omega (arith, k, j))
  none_free n startable blocked (IsSorting.held b p s bs rest m) e a within l = elim (cases_eq a.0 b.0) [
    | inl same ↦ (let one : a ≡ b = ap (λ (k : ℕ). record { 0 = k }) same in first_legal (paths_of d) h b p.0 m (subst (λ x. legal.Legal (paths_of d) (h ++ Began x ∷ [])) one l))
    | inr other ↦ none_free b.0 s bs rest e a (omega arith) l
  ]

  -- and the other way round
  all_held : (n : ℕ) (startable : List OpId) (blocked : List (OpId × PathId)) → IsSorting (Meets d h) n startable blocked
      → ((a : OpId) → a.0 < n → legal.Legal (paths_of d) (h ++ Began a ∷ []) → ⊥) → startable ≡ []
  all_held n startable blocked IsSorting.none f = refl
  all_held n startable blocked (IsSorting.free b s bs rest m) f = absurd (f b (omega arith) m)
  all_held n startable blocked (IsSorting.held b p s bs rest m) f = all_held b.0 s bs rest (λ a within l. f a (omega arith) l)

module _ (parts : PartsValue) (room lines : ℕ) (s : AreSound parts room lines) (openings : List (List ℕ)) (journal : List Line) (left : IsLeftBy parts.present (contents parts.devices) parts.declaration openings journal) where
  meets : (a : OpId) (o : Option PathId) → MeetsAt parts.present.standing a o → Meets parts.declaration (journals.admitted_history journal) a o
  meets a None m =
      subst (λ xs. legal.Legal xs (journals.admitted_history journal ++ Began a ∷ [])) left.paths (m (journals.admitted_history journal) (legal_now parts room lines s openings journal left) left.at)
  meets a (Some p) m =
      subst (λ xs. legal.First (legal.Forbids (journals.admitted_history journal) a) xs p.0) left.paths (m (journals.admitted_history journal) (legal_now parts room lines s openings journal left) left.at)

  pub reported : (n : ℕ) (startable : List OpId) (blocked : List (OpId × PathId)) (live : List Activation) (frozen : Bool) → n ≡ length parts.declaration.operations
      → IsReportAt parts.present.standing n parts.present.register.live startable blocked live frozen → IsReport parts.declaration journal startable blocked live frozen
  reported n startable blocked live frozen count r =
      let h : List Event = journals.admitted_history journal in
      let m : ℕ = length parts.declaration.operations in
      let sorted : IsSorting (Meets parts.declaration h) m startable blocked =
      subst (λ k. IsSorting (Meets parts.declaration h) k startable blocked) count
      (sorted_along (MeetsAt parts.present.standing) (Meets parts.declaration h) meets n startable blocked r.sorted) in
      let told : live ≡ journals.live journal = r.live_is ∙ left.live in
      record {
        sorted = sorted;
        live_is = told;
        frozen_is = (
          λ f. record {
            nothing_live = sym told ∙ (r.frozen_is.0 f).1;
            nothing_startable = λ a s. none_free parts.declaration h m startable blocked sorted (r.frozen_is.0 f).0 a s.declared s.legal;
          },
          λ f. r.frozen_is.1 (all_held parts.declaration h m startable blocked sorted (λ a within l. f.nothing_startable a (record { declared = within; legal = l })), told ∙ f.nothing_live),
        );
      }

-- what holds of a result holds of it in other words
pub if_ok : {X E : Type 0} (P Q : X → Type 0) (r : Result X E) → ((x : X) → P x → Q x) → IfOk r P → IfOk r Q
if_ok P Q (Ok x) to h = to x h
if_ok P Q (Err e) to h = tt
