-- The lines so far, and the first that is wrong.
use Rattle.std.proofs.Common.{◌≡◌, ℕ, zero, suc, ◌+◌, ◌<◌, ◌≤◌, List, [], ◌∷◌, ◌++◌, All, length, get_or, take, drop, arith, refl, ap, sym, subst, ◌∙◌, inl, inr, Result, Ok, Err, Vec}
use Rattle.std.specs.Prelude.{◌↔◌, map, IsErr, IfErr}
use Rattle.std.specs.Result.{IsErrAnd}
use Rattle.std.proofs.lemmas.Bool.{cases_lt}
use Rattle.std.proofs.lemmas.List.{take-append-drop, take-take, get_or-map}
use Rattle.path_model.specs.declared.journal.Attempt.TheVariants.{Start}
use Rattle.path_model.specs.declared.journal.Reply.{Reply}
use Rattle.path_model.specs.declared.journal.Reply.TheVariants.{Started}
use Rattle.path_model.specs.declared.journal.Line.{Line}
use Rattle.path_model.specs.declared.resource.Law.{Law}
use Rattle.path_model.specs.Declarations.{Declaration, law_of}
use Rattle.path_model.specs.Devices.{Fits}
use Rattle.path_model.specs.Owed.{AreSame}
use Rattle.path_model.specs.Honest.{IsHonest}
use Rattle.path_model.proofs.CallerLemmas.{fronts_are_honest}
use Rattle.path_audit.specs.declared.auditor.AuditFault.{AuditFault}
use Rattle.path_audit.specs.declared.auditor.AuditFault.TheVariants.{OutOfMemory}
use Rattle.path_audit.specs.declared.journals.Verdict.{Verdict}
use Rattle.path_audit.specs.declared.journals.Verdict.TheVariants.{Sound, WrongLine}
use Rattle.path_step.specs.Steps.{Register}
use Rattle.path_audit.specs.Inner.Replays.{ReplayValue, IsReplayOf, IsOpened, says_failed}
use Rattle.path_audit.specs.Verdicts.{IsFirstWrong, IsVerdict, FitsAt}
use Rattle.path_audit.specs.Inner.Outcomes.{IsLike}

-- the replay of no lines
pub opened_is : (d : Declaration) (replay : ReplayValue) (room : ℕ) (openings : List (List ℕ)) → length openings ≡ length d.resources → IsOpened replay d openings
    → IsReplayOf replay d room openings []
opened_is d replay room openings counted o = record {
  honest = tt;
  paths = o.paths;
  at = o.at;
  admitted = o.admitted;
  live = ap (λ (r : Register). r.live) o.register;
  begun = ap (λ (r : Register). r.begun) o.register;
  declared = subst (λ (r : Register). All (λ a. a.op.0 < length d.operations) r.live) (sym o.register) (λ k a h. absurd (omega arith));
  one_each = ap length o.contents ∙ counted;
  held = λ r within. ap (λ c. get_or c r []) (sym o.contents);
}

-- the owed reply and that of a line are equal if they agree on whether the device failed
pub told_apart : (owed told : Reply) → IsLike (says_failed told) owed → AreSame owed told → owed ≡ told
told_apart owed told like (inl same) = same
told_apart owed told like (inr (inl (x, used, failed))) = absurd (let no = like.used x used in let yes = ap says_failed failed in cc)
told_apart owed told like (inr (inr (x, failed, used))) = absurd (let yes = like.failed failed in let no = ap says_failed used in cc)

-- what stands past the end
abbrev pub nothing : Line
nothing = record { worker = 0; attempt = Start (record { 0 = 0 }); reply = Started (record { 0 = 0 }) }

-- a line within is the same whatever stands past the end
pub line_at : (lines : List Line) (n : ℕ) (x y : Line) → n < length lines → get_or lines n x ≡ get_or lines n y
line_at [] n x y within = absurd (omega arith)
line_at (l ∷ lines) zero x y within = refl
line_at (l ∷ lines) (suc n) x y within = line_at lines n x y (omega arith)

module _ (d : Declaration) (room : ℕ) (openings : List (List ℕ)) (lines : List Line) where
  -- what comes first in an honest journal
  honest_take : (n : ℕ) → IsHonest d room openings lines → IsHonest d room openings (take n lines)
  honest_take n honest = fronts_are_honest d room openings (take n lines) (drop n lines) (subst (IsHonest d room openings) (sym (take-append-drop n lines)) honest)

  shorter : (m n : ℕ) → m ≤ n → IsHonest d room openings (take n lines) → IsHonest d room openings (take m lines)
  shorter m n le honest =
      fronts_are_honest d room openings (take m lines) (drop m (take n lines))
      (subst (IsHonest d room openings) (sym (take-append-drop m (take n lines)) ∙ ap (λ xs. xs ++ drop m (take n lines)) (take-take m n lines le)) honest)

  -- the first wrong line is one
  one_first : (m n : ℕ) → IsFirstWrong d room openings lines m → IsFirstWrong d room openings lines n → m ≡ n
  one_first m n v w = elim (cases_lt m n) [
    | inl below ↦ absurd (v.wrong (shorter (m + 1) n (omega arith) w.honest))
    | inr above ↦ elim (cases_lt n m) [
      | inl over ↦ absurd (w.wrong (shorter (n + 1) m (omega arith) v.honest))
      | inr same ↦ omega arith
    ]
  ]

  pub sound_exactly : (v : Verdict) → IsVerdict d room openings lines v → (v ≡ Sound) ↔ IsHonest d room openings lines
  sound_exactly Sound honest = (λ e. honest, λ h. refl)
  sound_exactly (WrongLine n) w = (λ e. absurd (cc), λ h. absurd (w.wrong (honest_take (n + 1) h)))

  pub wrong_exactly : (v : Verdict) → IsVerdict d room openings lines v → (n : ℕ) → (v ≡ WrongLine n) ↔ IsFirstWrong d room openings lines n
  wrong_exactly Sound honest n = (λ e. absurd (cc), λ w. absurd (w.wrong (honest_take (n + 1) honest)))
  wrong_exactly (WrongLine m) v n = (λ e. (let same : m ≡ n = cc in subst (IsFirstWrong d room openings lines) same v), λ w. ap WrongLine (one_first m n v w))

-- if allocation fails, that is the fault
pub wanting_fault : (r : Result Verdict AuditFault) (P : AuditFault → Type 0) → IsErr r × IsErrAnd r (λ fault. fault ≡ OutOfMemory) → P OutOfMemory → IfErr r P
wanting_fault (Ok v) P is wanting = tt
wanting_fault (Err f) P is wanting = subst P (sym is.1) wanting

-- one opening more fits
pub fits_more : {Z : Type 0} (d : Declaration) (rows : List (Vec ℕ Z)) (i : ℕ) (row : Vec ℕ Z) (law : Law) → ((r : ℕ) → r < i → FitsAt d (map (λ opening. opening.items) rows) r)
    → i < length rows → row ≡ get_or rows i row → law ≡ law_of d i → Fits law row.items → (r : ℕ) → r < i + 1 → FitsAt d (map (λ opening. opening.items) rows) r
fits_more d rows i row law so_far within is of fits r l = elim (cases_lt r i) [
  | inl before ↦ so_far r before
  | inr past ↦
      let here : r ≡ i = omega (arith, l, past) in
      let numbers : get_or (map (λ opening. opening.items) rows) i [] ≡ row.items = get_or-map (λ opening. opening.items) rows i row [] within ∙ ap (λ opening. opening.items) (sym is) in
      rw (here, numbers, ← of) fits
]
