-- Another device for a resource that nothing live uses, and whose device no line asked.
use Rattle.std.proofs.Common.{◌≡◌, ◌≢◌, ℕ, ◌<◌, ◌≤◌, false, Option, Some, None, refl, List, [], ◌∷◌, ◌++◌, length, get_or, arith, ap, sym, subst, ◌∙◌, inl, inr}
use Rattle.std.specs.Prelude.{Any}
use Rattle.std.proofs.Math.ListN.{set}
use Rattle.std.proofs.lemmas.Bool.{cases_eq}
use Rattle.std.proofs.lemmas.List.{get_or-set_same, get_or-set_other, length-map, length-set, map-set}
use Rattle.path_model.specs.declared.resource.Law.{Law}
use Rattle.path_model.specs.declared.journal.Line.{Line}
use Rattle.path_model.specs.declared.journal.Activation.{Activation}
use Rattle.path_model.specs.Declarations.{Declaration, resource_of, law_of}
use Rattle.path_model.specs.Asked.{IsAsked}
use Rattle.path_model.specs.Segments.{joined}
use Rattle.path_model.proofs.CallerLemmas.{unasked_devices_may_be_replaced, segments_over}
use Rattle.path_shelf.specs.States.{State, state_at}
use Rattle.path_shelf.proofs.CallerLemmas.{laws_replaced}
use Rattle.path_step.proofs.CallerLemmas.{with_contents}
use Rattle.path_state.specs.States as path
use Rattle.path_system.specs.Accounts.{contents_of}
use Rattle.path_system.specs.Before.{LeadTo, WasAsked}
use Rattle.path_system.specs.declared.fault.ReplaceFault.{ReplaceFault}
use Rattle.path_system.specs.declared.fault.ReplaceFault.TheVariants.{Busy, Used, OtherLaw}
use Rattle.path_system.specs.Faults.{IsBusy, IsReplaceFaultBehind, MayReplace}
use Rattle.path_system.specs.Inner.Openings.{Row, row_at, places_of, numbers_of}
use Rattle.path_system.specs.Inner.Pasts.{Lines}
use Rattle.path_system.specs.Inner.Parts.{PartsValue, AreTrueTo, IsTold, IsLiveAt, IsFreeAt, IsPartsFault, MayReplacePart, contents, with_state}
use Rattle.path_system.proofs.Agreed.{states_count, law_is}
use Rattle.path_system.proofs.Controlled.{none_before}
use Rattle.path_system.proofs.Rows.{places_written}
use Rattle.path_system.proofs.Opened.{same_for}

-- where a device wasn't asked, no lines came before that aren't known
none_came : (d : Declaration) (opened : Option path.State) (lines : List Line) (r : ℕ) → (WasAsked d opened lines r → ⊥) → opened ≡ None
none_came d None lines r unasked = refl
none_came d (Some state) lines r unasked = absurd (unasked tt)

module _ (old : PartsValue) (room : ℕ) (rows : List Row) (past : Lines) (count : ℕ) (t : IsTold old room rows past count) (r : ℕ) (within : r < length old.declaration.resources) where
  abbrev own : List Line
  own = joined past.earlier ++ past.present

  -- what is live by the ledger is live by the lines
  busy_behind : IsLiveAt old r → (openings : List (List ℕ)) (before : List Line) → LeadTo old.declaration past.opened (numbers_of rows) openings before
      → IsBusy old.declaration ((before ++ joined past.earlier) ++ past.present) r
  busy_behind live openings before leads = subst (Any (λ (a : Activation). resource_of old.declaration a.op.0 ≡ r)) (t.behind openings before leads).left.live live

  idle_behind : (IsLiveAt old r → ⊥) → (openings : List (List ℕ)) (before : List Line) → LeadTo old.declaration past.opened (numbers_of rows) openings before
      → IsBusy old.declaration ((before ++ joined past.earlier) ++ past.present) r → ⊥
  idle_behind idle openings before leads busy = idle (subst (Any (λ (a : Activation). resource_of old.declaration a.op.0 ≡ r)) (sym (t.behind openings before leads).left.live) busy)

  unasked_is : get_or old.devices.asked r false ≡ false → WasAsked old.declaration past.opened own r → ⊥
  unasked_is unmarked asked = let marked = (t.marked r within).1 asked in cc

  first_is : get_or old.devices.asked r false ≡ false → past.opened ≡ None
  first_is unmarked = none_came old.declaration past.opened own r (unasked_is unmarked)

  unasked_first : get_or old.devices.asked r false ≡ false → IsAsked old.declaration own r → ⊥
  unasked_first unmarked = subst (λ (o : Option path.State). WasAsked old.declaration o own r → ⊥) (first_is unmarked) (unasked_is unmarked)

  -- so it may be replaced, or a refusal applies
  pub may_replace : (law : Law) → MayReplacePart old r law → (past.opened ≡ None) × MayReplace old.declaration own r law
  may_replace law may = (
    first_is may.0.1,
    (
      (λ busy. may.0.0 (subst (Any (λ (a : Activation). resource_of old.declaration a.op.0 ≡ r)) (sym (none_before old room rows past count t (first_is may.0.1)).left.live) busy), unasked_first may.0.1),
      may.1 ∙ law_is old room count t.sound r within,
    ),
  )

  pub replace_fault : (failures : List ℕ) (law : Law) (fault : ReplaceFault) → IsPartsFault old r law fault
      → IsReplaceFaultBehind (record { declaration = old.declaration; room = room; opened = past.opened; openings = numbers_of rows; earlier = past.earlier; journal = past.present; failures = failures }) r law fault
  replace_fault failures law Busy is = busy_behind is
  replace_fault failures law Used is = (idle_behind is.0, (t.marked r within).0 is.1)
  replace_fault failures law OtherLaw is = (idle_behind is.0.0, unasked_is is.0.1, λ same. is.1 (same ∙ sym (law_is old room count t.sound r within)))

  module _ (state : State) (may : MayReplacePart old r state.law) where
    abbrev others : List (List ℕ)
    others = set (numbers_of rows) r state.contents

    opened_in : r < length (numbers_of rows)
    opened_in = let k = length-map rows (λ (x : Row). x.numbers) in let all = t.roomy.count in omega (arith, within, k, all)

    -- the parts agree with all lines, over other opening contents
    true_replaced : AreTrueTo (with_state old r state) room others [] past
    true_replaced =
        let was = none_before old room rows past count t (first_is may.0.1) in
        let elsewhere : (q : ℕ) → q ≢ r → get_or others q [] ≡ get_or (numbers_of rows) q [] = λ q other. get_or-set_other (numbers_of rows) r q state.contents _ other in
        let law = unasked_devices_may_be_replaced old.declaration was.left.honest.0 (numbers_of rows) others own r elsewhere was.left.honest.1 (unasked_first may.0.1) in
        let count_is = states_count old room count t.sound in
        let here : r < length old.devices.states = omega (arith, count_is, within) in
        let numbers = map-set (λ (x : State). x.contents) old.devices.states r state in
        let counted = length-map old.devices.states (λ (x : State). x.contents) in
        record {
          left = with_contents old.present (contents old.devices) old.declaration (numbers_of rows) own was.left (contents_of (set old.devices.states r state)) others (was.left.honest.0, law.0)
              (ap length numbers ∙ length-set (contents old.devices) r state.contents ∙ was.left.one_each)
              (λ q inside. elim (cases_eq q r) [
                | inl same ↦ rw same (law.1 ∙ get_or-set_same (numbers_of rows) r state.contents _ opened_in ∙ sym (get_or-set_same (contents old.devices) r state.contents _ (omega (arith, here, counted))) ∙ sym (ap (λ c. get_or c r []) numbers))
                | inr other ↦ law.2 q other ∙ was.left.held q inside ∙ sym (get_or-set_other (contents old.devices) r q state.contents _ other) ∙ sym (ap (λ c. get_or c q []) numbers)
              ]);
          segments = segments_over old.declaration room (numbers_of rows) others past.earlier past.present r elsewhere was.segments (unasked_first may.0.1);
        }

    -- and the row has its numbers
    pub told_replaced : IsTold (with_state old r state) room (set rows r (record { numbers = state.contents; places = (row_at rows r).places })) past count
    told_replaced =
        let row : Row = record { numbers = state.contents; places = (row_at rows r).places } in
        let numbers : numbers_of (set rows r row) ≡ others = map-set (λ (x : Row). x.numbers) rows r row in
        record {
          sound = record {
            lawful = t.sound.lawful;
            paths = t.sound.paths;
            together = t.sound.together;
            few = t.sound.few;
            places = t.sound.places;
            laws = laws_replaced old.devices.states r state may.1 ∙ t.sound.laws;
            marks = t.sound.marks;
          };
          marked = t.marked;
          behind = λ openings before leads.
              let none = subst (λ (o : Option path.State). LeadTo old.declaration o (numbers_of (set rows r row)) openings before) (first_is may.0.1) leads in
              subst (λ b. AreTrueTo (with_state old r state) room openings b past) (sym none.1)
              (subst (λ o. AreTrueTo (with_state old r state) room o [] past) (sym (none.0 ∙ numbers)) true_replaced);
          good_room = t.good_room;
          counted = t.counted;
          roomy = same_for (set rows r row) rows old.declaration (places_written rows r state.contents) t.roomy;
        }

module _ (old : PartsValue) (room : ℕ) (rows : List Row) (past : Lines) (count : ℕ) (t : IsTold old room rows past count)
    (r : ℕ) (state : State) (within : r < length old.declaration.resources) (states : List State) (replaced : states ≡ set old.devices.states r state) where
  here : r < length old.devices.states
  here = let k = states_count old room count t.sound in omega (arith, k, within)

  -- the device stands there, and finds its places
  pub replaced_in : r < length states
  replaced_in = let k = here in let e = ap length replaced in let l = length-set old.devices.states r state in omega (arith, k, e, l)

  pub replaced_state : state_at states r ≡ state
  replaced_state = ap (λ xs. state_at xs r) replaced ∙ get_or-set_same old.devices.states r state _ here

  pub replaced_places : MayReplacePart old r state.law → places_of (state_at states r).law ≤ (row_at rows r).places
  replaced_places may =
      let law : (state_at states r).law ≡ law_of old.declaration r =
      ap (λ (x : State). x.law) replaced_state ∙ may.1 ∙ law_is old room count t.sound r within in
      rw law (t.roomy.places r within)
