-- What a search writes.
use Rattle.std.proofs.Common.{◌≡◌, ◌<◌, ◌≤◌, ◌+◌, ℕ, zero, suc, Bool, true, false, List, [], ◌∷◌, ◌++◌, length, get_or, drop, arith, refl, ap, sym, subst, ◌∙◌, inl, inr, Option, add-one, drop-cons}
use Rattle.path_model.specs.Declarations.{Declaration}
use Rattle.path_decl.specs.Text.{IsDeclarationText}
use Rattle.search_histories.specs.declared.reached.Reached.{Reached}
use Rattle.search_histories.specs.declared.reached.Reached.TheVariants.{Goes, Freezes, FreezesLate, Undecided}
use Rattle.search_histories.specs.Outcomes.{AreMore, EachGoes, IsReached}
use Rattle.tell_base.specs.declared.status.Status.{Status}
use Rattle.tell_base.specs.Ends.{UnderText}
use Rattle.tell_base.specs.Refusals.{Under}
use Rattle.tell_base.proofs.CallerLemmas.{ends_so, ends_under}
use Rattle.cmd_explore.specs.declared.searched.Searched.{Searched}
use Rattle.cmd_explore.specs.declared.searched.Searched.TheVariants.{Ended}
use Rattle.cmd_explore.specs.declared.searched.Searched.TheVariants as searches
use Rattle.cmd_explore.specs.Searches.{HasSearched}
use Rattle.cmd_explore.specs.Reaches.{never_line, never_lines, states_line, Tells, Says, IsOpen, FewMarks, OfReach}

-- the marks that are left begin with the next one
pub never_left : (d : Declaration) (begins : List Bool) (i : ℕ) (b : Bool) → i < length begins → b ≡ get_or begins i b → never_lines d i (drop i begins) ≡ never_line d i b ++ never_lines d (i + 1) (drop (i + 1) begins)
never_left d begins i b within is =
    ap (never_lines d i) (drop-cons begins i b within ∙ ap (λ x. x ∷ drop (suc i) begins) (sym is) ∙ ap (λ n. b ∷ drop n begins) (sym (add-one i)))

-- without lines each operation is marked
none_never : (d : Declaration) (n : ℕ) (begins : List Bool) → never_lines d n begins ≡ [] → (i : ℕ) → i < length begins → get_or begins i false ≡ true
none_never d n [] none i l = absurd (omega (arith, l))
none_never d n (true ∷ rest) none zero l = refl
none_never d n (true ∷ rest) none (suc i) l = none_never d (n + 1) rest none i (omega (arith, l))
none_never d n (false ∷ rest) none i l = absurd (let e = ap length none in omega (arith, e))

-- what is told where nothing freezes is what a search writes
goes_so : (d : Declaration) (n states : ℕ) (begins : List Bool) → EachGoes d n states begins → (text : List ℕ) → text ≡ never_lines d 0 begins
    → (t : Status) (out : List ℕ) → Tells states text t out → OfReach d n t out
goes_so d n states begins goes [] is t out w =
    subst (λ x. OfReach d n x out) (sym w.0) (record {
      states = states;
      begins = begins;
      goes = goes;
      each_begins = λ a l. (goes.told a l).0 (none_never d 0 begins (sym is) a.0 (let e = goes.one_each in omega (arith, l, e)));
      spelled = w.1;
    })
goes_so d n states begins goes (b ∷ bs) is t out w =
    subst (λ x. OfReach d n x out) (sym w.0) (inl (record {
      states = states;
      begins = begins;
      goes = goes;
      some = (let e = ap length is in omega (arith, e));
      spelled = w.1 ∙ ap (λ x. x ++ states_line states) is;
    }))

module _ {Y : Type 0} (d : Declaration) (n most : ℕ) where
  pub few_marks : length d.operations ≤ 256 → (reached : Reached Y) → IsReached d n most reached → FewMarks reached
  few_marks few (Goes states begins) is = let e = is.one_each in omega (arith, e, few)
  few_marks few (Freezes lines) is = tt
  few_marks few FreezesLate is = tt
  few_marks few (Undecided states) is = tt

  -- what is said of what a search came to is what a search writes
  pub says_so : (reached : Reached Y) → IsReached d n most reached → (t : Status) (out : List ℕ) → Says d reached t out → OfReach d n t out
  says_so (Goes states begins) is t out w = goes_so d n states begins.items is (never_lines d 0 begins.items) refl t out w
  says_so (Freezes lines) is t out w = subst (λ x. OfReach d n x out) (sym w.0) (inr (inl (record { lines = lines.items; shortest = is; spelled = w.1 })))
  says_so FreezesLate is t out w = subst (λ x. OfReach d n x out) (sym w.0) (inr (inr (record { late = is; none = w.1 })))
  says_so (Undecided states) is t out w = absurd w

  -- without an answer there are more states
  pub open_so : (reached : Reached Y) → IsReached d n most reached → IsOpen reached → AreMore d n most
  open_so (Goes states begins) is none = absurd none
  open_so (Freezes lines) is none = absurd none
  open_so FreezesLate is none = absurd none
  open_so (Undecided states) is none = is.1

-- what one table has the other has, too
pub has_so : (P Q : Status → List ℕ → Type 0) (A B : Type 0) (old new : Option (List ℕ)) (s : Searched) → ((t : Status) (out : List ℕ) → P t out → Q t out) → (A → B) → HasSearched P A old new s → HasSearched Q B old new s
has_so P Q A B old new (Ended status) so is h = ends_so P Q so old new status h
has_so P Q A B old new searches.Undecided so is h = (h.0, is h.1)

-- under the declaration in a text
pub has_under : (text : List ℕ) (n most : ℕ) (d : Declaration) (old new : Option (List ℕ)) (s : Searched) → IsDeclarationText text d → HasSearched (OfReach d n) (AreMore d n most) old new s
    → HasSearched (UnderText text (λ d. OfReach d n)) (Under text (λ d. AreMore d n most)) old new s
has_under text n most d old new (Ended status) declares h = ends_under text (λ d. OfReach d n) d old new status declares (λ out none. none) h
has_under text n most d old new searches.Undecided declares h = (h.0, (d, declares, h.1))
