-- Two lists of lines with one state: the same is owed behind both, and behind one more line they have one state again.
use Rattle.std.proofs.Common.{◌≡◌, ◌≢◌, ◌==◌, ◌<◌, ◌≤◌, ◌+◌, ◌↔◌, ℕ, zero, suc, max, Bool, true, false, cond, List, [], ◌∷◌, ◌++◌, length, Option, Some, None, refl, sym, ap, ◌∙◌, subst, inl, inr, arith, length-append}
use Rattle.std.proofs.Math.Nat.{max_comm, max-eq_left, max-eq_right, le-max_left}
use Rattle.std.proofs.lemmas.Bool.{cases_lt, ne_eqb, cond-false}
use Rattle.std.proofs.lemmas.List.Elements.{All-get_or}
use Rattle.path_model.specs.declared.ids.OpId.{OpId}
use Rattle.path_model.specs.declared.ids.ActId.{ActId}
use Rattle.path_model.specs.declared.history.Event.{Event}
use Rattle.path_model.specs.declared.history.Event.TheVariants.{Began, Ended}
use Rattle.path_model.specs.declared.journal.Verb.{Verb}
use Rattle.path_model.specs.declared.journal.Attempt.{Attempt}
use Rattle.path_model.specs.declared.journal.Attempt.TheVariants.{Start, Apply, Finish}
use Rattle.path_model.specs.declared.journal.Reply.{Reply}
use Rattle.path_model.specs.declared.journal.Reply.TheVariants.{Started, Blocked, UnknownOperation, Used, DeviceFailed, Finished, Stale, NotYours, NoRoom}
use Rattle.path_model.specs.declared.journal.Line.{Line}
use Rattle.path_model.specs.declared.journal.Activation.{Activation}
use Rattle.path_model.specs.Trees.{Tree, WellFormed}
use Rattle.path_model.specs.Projection.{LegalOn}
use Rattle.path_model.specs.Legal as legal
use Rattle.path_model.specs.Declarations.{Declaration, paths_of, resource_of, law_of}
use Rattle.path_model.specs.Devices.{outcome_of}
use Rattle.path_model.specs.Journals.{starts, begun_in, live, activation_of, without, admitted_history, IsQuiet}
use Rattle.path_model.specs.Contents.{verb_applied, line_applied, contents_after}
use Rattle.path_model.specs.Owed.{taken, by_words, IsOwn, outcome_for, OwedToStart, OwedToUse, OwedToFinish, Owed}
use Rattle.path_model.specs.JournalGuarantees.{live_among}
use Rattle.path_model.proofs.CallerLemmas.{each_honest_journal_is_legal, live_activations_are_counted, more_room_keeps_honest, every_map, every_both, first_same, none_same, begun_more, live_quiet, history_quiet, contents_more, quiet_use, line_of, honest_more, live_started, live_finished, live_found, history_started, history_finished}
use Rattle.path_state.specs.States.{highest_worker, AreOfResources, WereOwed}
use Rattle.path_state.proofs.Alike.{Alike, alike_sym}
use Rattle.path_state.proofs.Standings.{event_same}

-- what is live is of declared operations
among_above : (n : ℕ) (x : Activation) (xs : List Activation) → n ≤ x.op.0 → live_among n (x ∷ xs) ≡ live_among n xs
among_above zero x xs l = refl
among_above (suc n) x xs l = omega (arith, among_above n x xs (omega (arith, l)), cond-false {A = ℕ} (x.op.0 == n) 1 0 (ne_eqb x.op.0 n (λ e. omega (arith, e, l))))

at_most_one : (b : Bool) → cond b 1 0 ≤ 1
at_most_one true = omega arith
at_most_one false = omega arith

among_more : (n : ℕ) (x : Activation) (xs : List Activation) → live_among n (x ∷ xs) ≤ live_among n xs + 1
among_more zero x xs = omega arith
among_more (suc n) x xs = elim (cases_lt x.op.0 n) [
  | inl l ↦ omega (arith, among_more n x xs, cond-false {A = ℕ} (x.op.0 == n) 1 0 (ne_eqb x.op.0 n (λ e. omega (arith, e, l))))
  | inr l ↦ omega (arith, among_above n x xs l, at_most_one (x.op.0 == n))
]

among_none : (n : ℕ) → live_among n [] ≡ 0
among_none zero = refl
among_none (suc n) = omega (arith, among_none n)

among_few : (n : ℕ) (xs : List Activation) → live_among n xs ≤ length xs
among_few n [] = omega (arith, among_none n)
among_few n (x ∷ xs) = omega (arith, among_more n x xs, among_few n xs)

declared_live : (n : ℕ) (xs : List Activation) → length xs ≡ live_among n xs → (k : ActId) (a : Activation) → activation_of k xs ≡ Some a → a.op.0 < n
declared_live n [] c k a e = absurd (cc)
declared_live n (x ∷ xs) c k a e = go (x.act.0 == k.0) (declared_live n xs (omega (arith, c, among_more n x xs, among_few n xs)) k a) e
  where
    go : (b : Bool) → (activation_of k xs ≡ Some a → a.op.0 < n) → cond b (Some x) (activation_of k xs) ≡ Some a → a.op.0 < n
    go true f g =
        let same : x ≡ a = cc in
        elim (cases_lt x.op.0 n) [ inl l ↦ subst (λ y. y.op.0 < n) same l | inr l ↦ absurd (omega (arith, c, among_above n x xs l, among_few n xs)) ]
    go false f g = f g

-- the highest worker of one line more
max_of_three : (a b c : ℕ) → max a (max b c) ≡ max (max a b) c
max_of_three a b c = elim (cases_lt a b) [
  | inl p ↦ max-eq_right (omega (arith, p, le-max_left b c)) ∙ ap (λ x. max x c) (sym (max-eq_right (omega (arith, p))))
  | inr p ↦ elim (cases_lt b c) [
    | inl q ↦ ap (max a) (max-eq_right (omega (arith, q))) ∙ ap (λ x. max x c) (sym (max-eq_left p))
    | inr q ↦ ap (max a) (max-eq_left q) ∙ max-eq_left p ∙ sym (max-eq_left (omega (arith, p, q))) ∙ ap (λ x. max x c) (sym (max-eq_left p))
  ]
]

highest_more : (ls : List Line) (l : Line) → highest_worker (ls ++ l ∷ []) ≡ max (highest_worker ls) l.worker
highest_more [] l = max_comm l.worker 0
highest_more (k ∷ ls) l = ap (max k.worker) (highest_more ls l) ∙ max_of_three k.worker (highest_worker ls) l.worker

-- what is owed is owed in more room
module _ (d : Declaration) (room more : ℕ) (openings : List (List ℕ)) (wider : room ≤ more) (ls : List Line) (w : ℕ) where
  start_in_more : (a : OpId) (r : Reply) → OwedToStart (by_words d) d room ls a r → r ≢ NoRoom → OwedToStart (by_words d) d more ls a r
  start_in_more a _ (OwedToStart.no_room l) some = absurd (some refl)
  start_in_more a _ (OwedToStart.unknown l k) some = OwedToStart.unknown (omega (arith, l, wider)) k
  start_in_more a _ (OwedToStart.blocked p l k f) some = OwedToStart.blocked p (omega (arith, l, wider)) k f
  start_in_more a _ (OwedToStart.started n l k f e) some = OwedToStart.started n (omega (arith, l, wider)) k f e

  use_in_more : (n : ActId) (verb : Verb) (r : Reply) → OwedToUse d room openings ls w n verb r → r ≢ NoRoom → OwedToUse d more openings ls w n verb r
  use_in_more n verb _ (OwedToUse.no_room l) some = absurd (some refl)
  use_in_more n verb _ (OwedToUse.stale l k) some = OwedToUse.stale (omega (arith, l, wider)) k
  use_in_more n verb _ (OwedToUse.not_yours a l k o) some = OwedToUse.not_yours a (omega (arith, l, wider)) k o
  use_in_more n verb _ (OwedToUse.refused a r l k o) some = OwedToUse.refused a r (omega (arith, l, wider)) k o
  use_in_more n verb _ (OwedToUse.served a x rest l k o) some = OwedToUse.served a x rest (omega (arith, l, wider)) k o
  use_in_more n verb _ (OwedToUse.failed a x rest l k o) some = OwedToUse.failed a x rest (omega (arith, l, wider)) k o

  finish_in_more : (n : ActId) (r : Reply) → OwedToFinish d room ls w n r → r ≢ NoRoom → OwedToFinish d more ls w n r
  finish_in_more n _ (OwedToFinish.finished a k) some = OwedToFinish.finished a k
  finish_in_more n _ (OwedToFinish.no_room k l) some = absurd (some refl)
  finish_in_more n _ (OwedToFinish.stale l k) some = OwedToFinish.stale (omega (arith, l, wider)) k
  finish_in_more n _ (OwedToFinish.not_yours a l k o) some = OwedToFinish.not_yours a (omega (arith, l, wider)) k o

  owed_in_more : (attempt : Attempt) (r : Reply) → Owed d room openings ls w attempt r → r ≢ NoRoom → Owed d more openings ls w attempt r
  owed_in_more (Start a) r o some = start_in_more a r o some
  owed_in_more (Apply n verb) r o some = use_in_more n verb r o some
  owed_in_more (Finish n) r o some = finish_in_more n r o some

-- one more line that was owed, whatever room it had
were_more : (d : Declaration) (openings : List (List ℕ)) (ls : List Line) → WereOwed d openings ls → (room w : ℕ) (attempt : Attempt) (r : Reply) → Owed d room openings ls w attempt r → r ≢ NoRoom → WereOwed d openings (ls ++ line_of w attempt r ∷ [])
were_more d openings ls k room w attempt r o some = (
  k.0 + room,
  honest_more d (k.0 + room) openings ls (line_of w attempt r) (more_room_keeps_honest d k.0 (k.0 + room) openings ls (omega arith) k.1)
      (owed_in_more d room (k.0 + room) openings (omega arith) ls w attempt r o some) some,
)

-- what a state says is the same of both
pub record Twins (d : Declaration) (openings others : List (List ℕ)) (xs ys : List Line) : Type 0 where
  pub first : WereOwed d openings xs
  pub second : WereOwed d others ys
  pub lines : length xs ≡ length ys
  pub begun : begun_in xs ≡ begun_in ys
  pub highest : highest_worker xs ≡ highest_worker ys
  pub live_same : live xs ≡ live ys
  pub contents : (r : ℕ) → r < length d.resources → contents_after d openings xs r ≡ contents_after d others ys r
  pub paths : legal.Every (λ s. Alike s (admitted_history xs) (admitted_history ys)) (paths_of d)

pub twins_sym : (d : Declaration) (openings others : List (List ℕ)) (xs ys : List Line) → Twins d openings others xs ys → Twins d others openings ys xs
twins_sym d openings others xs ys t = record {
  first = t.second;
  second = t.first;
  lines = sym t.lines;
  begun = sym t.begun;
  highest = sym t.highest;
  live_same = sym t.live_same;
  contents = λ r l. sym (t.contents r l);
  paths = every_map {P = λ s. Alike s (admitted_history xs) (admitted_history ys)} {Q = λ s. Alike s (admitted_history ys) (admitted_history xs)}
      (λ s x. alike_sym s (admitted_history xs) (admitted_history ys) x) (paths_of d) t.paths;
}

-- both histories are legal on the path, which can't tell them apart
abbrev pub Together : List Event → List Event → Tree → Type 0
Together h g s = WellFormed s × LegalOn s h × LegalOn s g × Alike s h g

forbids_same : (h g : List Event) (a : OpId) (s : Tree) → Together h g s → legal.Forbids h a s ↔ legal.Forbids g a s
forbids_same h g a s t = (
  (λ f. (f.0, λ l. f.1 (event_same s t.0 g h t.2 t.1 (alike_sym s h g t.3) (Began a) l).0)),
  (λ f. (f.0, λ l. f.1 (event_same s t.0 h g t.1 t.2 t.3 (Began a) l).0)),
)

module _ (d : Declaration) (wf : legal.Every WellFormed (paths_of d)) (own : AreOfResources d) (openings others : List (List ℕ)) (xs ys : List Line) (t : Twins d openings others xs ys) where
  legal_first : legal.Every (λ s. LegalOn s (admitted_history xs)) (paths_of d)
  legal_first = each_honest_journal_is_legal d t.first.0 openings wf xs t.first.1

  legal_second : legal.Every (λ s. LegalOn s (admitted_history ys)) (paths_of d)
  legal_second = each_honest_journal_is_legal d t.second.0 others wf ys t.second.1

  pub together : legal.Every (Together (admitted_history xs) (admitted_history ys)) (paths_of d)
  together =
      every_both {P = λ s. WellFormed s × LegalOn s (admitted_history xs)} {Q = λ s. LegalOn s (admitted_history ys) × Alike s (admitted_history xs) (admitted_history ys)} {R = Together (admitted_history xs) (admitted_history ys)}
      (λ s p q. (p.0, p.1, q.0, q.1)) (paths_of d)
      (every_both {P = WellFormed} {Q = λ s. LegalOn s (admitted_history xs)} {R = λ s. WellFormed s × LegalOn s (admitted_history xs)} (λ s p q. (p, q)) (paths_of d) wf legal_first)
      (every_both {P = λ s. LegalOn s (admitted_history ys)} {Q = λ s. Alike s (admitted_history xs) (admitted_history ys)} {R = λ s. LegalOn s (admitted_history ys) × Alike s (admitted_history xs) (admitted_history ys)}
      (λ s p q. (p, q)) (paths_of d) legal_second t.paths)

  each_forbids : (a : OpId) → legal.Every (λ s. legal.Forbids (admitted_history xs) a s ↔ legal.Forbids (admitted_history ys) a s) (paths_of d)
  each_forbids a = every_map {P = Together (admitted_history xs) (admitted_history ys)} {Q = λ s. legal.Forbids (admitted_history xs) a s ↔ legal.Forbids (admitted_history ys) a s}
      (λ s x. forbids_same (admitted_history xs) (admitted_history ys) a s x) (paths_of d) together

  taken_same : taken xs ≡ taken ys
  taken_same = omega (arith, t.lines, ap length t.live_same)

  found_same : (n : ActId) (o : Option Activation) → activation_of n (live xs) ≡ o → activation_of n (live ys) ≡ o
  found_same n o e = subst (λ l. activation_of n l ≡ o) t.live_same e

  own_same : (w : ℕ) (n : ActId) (a : Activation) → IsOwn xs w n a → IsOwn ys w n a
  own_same w n a k = record { found = found_same n (Some a) k.found; own = k.own }

  its_resource : (w : ℕ) (n : ActId) (a : Activation) → IsOwn xs w n a → resource_of d a.op.0 < length d.resources
  its_resource w n a k =
      let declared = declared_live (length d.operations) (live xs) (live_activations_are_counted d t.first.0 openings xs t.first.1) n a k.found in
      All-get_or (λ o. o.resource < length d.resources) d.operations a.op.0 (record { name = []; resource = 0 }) declared own

  outcome_same : (w : ℕ) (n : ActId) (verb : Verb) (a : Activation) → IsOwn xs w n a → outcome_for d openings xs verb a ≡ outcome_for d others ys verb a
  outcome_same w n verb a k = ap (outcome_of (law_of d (resource_of d a.op.0)) verb) (t.contents (resource_of d a.op.0) (its_resource w n a k))

  -- the same is owed
  start_owed : (room : ℕ) (a : OpId) (r : Reply) → OwedToStart (by_words d) d room xs a r → OwedToStart (by_words d) d room ys a r
  start_owed room a _ (OwedToStart.no_room l) = OwedToStart.no_room (omega (arith, l, taken_same))
  start_owed room a _ (OwedToStart.unknown l k) = OwedToStart.unknown (omega (arith, l, taken_same)) k
  start_owed room a _ (OwedToStart.blocked p l k f) =
      OwedToStart.blocked p (omega (arith, l, taken_same)) k (first_same (legal.Forbids (admitted_history xs) a) (legal.Forbids (admitted_history ys) a) (paths_of d) (each_forbids a) p.0 f)
  start_owed room a _ (OwedToStart.started n l k f e) =
      OwedToStart.started n (omega (arith, l, taken_same)) k (none_same (legal.Forbids (admitted_history xs) a) (legal.Forbids (admitted_history ys) a) (paths_of d) (each_forbids a) f) (omega (arith, e, t.begun))

  use_owed : (room w : ℕ) (n : ActId) (verb : Verb) (r : Reply) → OwedToUse d room openings xs w n verb r → OwedToUse d room others ys w n verb r
  use_owed room w n verb _ (OwedToUse.no_room l) = OwedToUse.no_room (omega (arith, l, taken_same))
  use_owed room w n verb _ (OwedToUse.stale l k) = OwedToUse.stale (omega (arith, l, taken_same)) (found_same n None k)
  use_owed room w n verb _ (OwedToUse.not_yours a l k o) = OwedToUse.not_yours a (omega (arith, l, taken_same)) (found_same n (Some a) k) o
  use_owed room w n verb _ (OwedToUse.refused a r l k o) = OwedToUse.refused a r (omega (arith, l, taken_same)) (own_same w n a k) (sym (outcome_same w n verb a k) ∙ o)
  use_owed room w n verb _ (OwedToUse.served a x rest l k o) = OwedToUse.served a x rest (omega (arith, l, taken_same)) (own_same w n a k) (sym (outcome_same w n verb a k) ∙ o)
  use_owed room w n verb _ (OwedToUse.failed a x rest l k o) = OwedToUse.failed a x rest (omega (arith, l, taken_same)) (own_same w n a k) (sym (outcome_same w n verb a k) ∙ o)

  finish_owed : (room w : ℕ) (n : ActId) (r : Reply) → OwedToFinish d room xs w n r → OwedToFinish d room ys w n r
  finish_owed room w n _ (OwedToFinish.finished a k) = OwedToFinish.finished a (own_same w n a k)
  finish_owed room w n _ (OwedToFinish.no_room k l) =
      OwedToFinish.no_room (λ a o. k a (record { found = subst (λ ls. activation_of n ls ≡ Some a) (sym t.live_same) o.found; own = o.own })) (omega (arith, l, taken_same))
  finish_owed room w n _ (OwedToFinish.stale l k) = OwedToFinish.stale (omega (arith, l, taken_same)) (found_same n None k)
  finish_owed room w n _ (OwedToFinish.not_yours a l k o) = OwedToFinish.not_yours a (omega (arith, l, taken_same)) (found_same n (Some a) k) o

  pub owed_same : (room w : ℕ) (attempt : Attempt) (r : Reply) → Owed d room openings xs w attempt r → Owed d room others ys w attempt r
  owed_same room w (Start a) r o = start_owed room a r o
  owed_same room w (Apply n verb) r o = use_owed room w n verb r o
  owed_same room w (Finish n) r o = finish_owed room w n r o

  -- behind a line that both owe, they are twins again
  module _ (room w : ℕ) (attempt : Attempt) (r : Reply) (o : Owed d room openings xs w attempt r) (some : r ≢ NoRoom) where
    first_more : WereOwed d openings (xs ++ line_of w attempt r ∷ [])
    first_more = were_more d openings xs t.first room w attempt r o some

    second_more : WereOwed d others (ys ++ line_of w attempt r ∷ [])
    second_more = were_more d others ys t.second room w attempt r (owed_same room w attempt r o) some

    -- if what is live, contents and histories are the same again
    more : live (xs ++ line_of w attempt r ∷ []) ≡ live (ys ++ line_of w attempt r ∷ [])
        → ((q : ℕ) → q < length d.resources → line_applied d q xs attempt r (contents_after d openings xs q) ≡ line_applied d q ys attempt r (contents_after d others ys q))
        → legal.Every (λ s. Alike s (admitted_history (xs ++ line_of w attempt r ∷ [])) (admitted_history (ys ++ line_of w attempt r ∷ []))) (paths_of d)
        → Twins d openings others (xs ++ line_of w attempt r ∷ []) (ys ++ line_of w attempt r ∷ [])
    more l c p = record {
      first = first_more;
      second = second_more;
      lines = omega (arith, t.lines, length-append xs (line_of w attempt r ∷ []), length-append ys (line_of w attempt r ∷ []));
      begun = omega (arith, t.begun, begun_more xs (line_of w attempt r), begun_more ys (line_of w attempt r));
      highest = highest_more xs (line_of w attempt r) ∙ ap (λ k. max k w) t.highest ∙ sym (highest_more ys (line_of w attempt r));
      live_same = l;
      contents = λ q k. contents_more d openings xs (line_of w attempt r) q ∙ c q k ∙ sym (contents_more d others ys (line_of w attempt r) q);
      paths = p;
    }

    quiet_more : IsQuiet w attempt r → ((q : ℕ) → q < length d.resources → line_applied d q xs attempt r (contents_after d openings xs q) ≡ line_applied d q ys attempt r (contents_after d others ys q))
        → Twins d openings others (xs ++ line_of w attempt r ∷ []) (ys ++ line_of w attempt r ∷ [])
    quiet_more q c = more (live_quiet xs (line_of w attempt r) q ∙ t.live_same ∙ sym (live_quiet ys (line_of w attempt r) q)) c
        (subst (λ h. legal.Every (λ s. Alike s h (admitted_history (ys ++ line_of w attempt r ∷ []))) (paths_of d)) (sym (history_quiet xs (line_of w attempt r) q))
        (subst (λ g. legal.Every (λ s. Alike s (admitted_history xs) g) (paths_of d)) (sym (history_quiet ys (line_of w attempt r) q)) t.paths))

    -- an event of both
    paths_more : (e : Event) → admitted_history (xs ++ line_of w attempt r ∷ []) ≡ admitted_history xs ++ e ∷ [] → admitted_history (ys ++ line_of w attempt r ∷ []) ≡ admitted_history ys ++ e ∷ []
        → legal.Every (λ s. Alike s (admitted_history (xs ++ line_of w attempt r ∷ [])) (admitted_history (ys ++ line_of w attempt r ∷ []))) (paths_of d)
    paths_more e p q =
        let next = each_honest_journal_is_legal d first_more.0 openings wf (xs ++ line_of w attempt r ∷ []) first_more.1 in
        every_both {P = Together (admitted_history xs) (admitted_history ys)} {Q = λ s. LegalOn s (admitted_history (xs ++ line_of w attempt r ∷ []))}
        {R = λ s. Alike s (admitted_history (xs ++ line_of w attempt r ∷ [])) (admitted_history (ys ++ line_of w attempt r ∷ []))}
        (λ s x l.
        subst (λ h. Alike s h (admitted_history (ys ++ line_of w attempt r ∷ []))) (sym p) (subst (λ g. Alike s (admitted_history xs ++ e ∷ []) g) (sym q)
        (event_same s x.0 (admitted_history xs) (admitted_history ys) x.1 x.2 x.3 e (subst (LegalOn s) p l)).1)) (paths_of d) together next

  -- what a use leaves in a device
  used_same : (w : ℕ) (n : ActId) (verb : Verb) (a : Activation) → IsOwn xs w n a → (q : ℕ) → q < length d.resources
      → verb_applied d q verb (activation_of n (starts xs)) (contents_after d openings xs q) ≡ verb_applied d q verb (activation_of n (starts ys)) (contents_after d others ys q)
  used_same w n verb a k q l =
      ap (λ o. verb_applied d q verb o (contents_after d openings xs q)) (live_found xs n a k.found ∙ sym (live_found ys n a (found_same n (Some a) k.found)))
      ∙ ap (λ held. verb_applied d q verb (activation_of n (starts ys)) held) (t.contents q l)

  any_use : (w : ℕ) (n : ActId) (verb : Verb) (r : Reply) (a : Activation) → IsOwn xs w n a → (q : ℕ) → q < length d.resources
      → line_applied d q xs (Apply n verb) r (contents_after d openings xs q) ≡ line_applied d q ys (Apply n verb) r (contents_after d others ys q)
  any_use w n verb (Used x) a k q l = used_same w n verb a k q l
  any_use w n verb r a k q l = t.contents q l

  start_more : (room w : ℕ) (a : OpId) (r : Reply) → OwedToStart (by_words d) d room xs a r → r ≢ NoRoom → Twins d openings others (xs ++ line_of w (Start a) r ∷ []) (ys ++ line_of w (Start a) r ∷ [])
  start_more room w a _ (OwedToStart.no_room l) some = absurd (some refl)
  start_more room w a _ (OwedToStart.unknown l k) some =
      quiet_more room w (Start a) UnknownOperation (OwedToStart.unknown l k) some (record { starts_none = refl; finishes_none = λ m. refl; no_events = λ before. refl }) t.contents
  start_more room w a _ (OwedToStart.blocked p l k f) some =
      quiet_more room w (Start a) (Blocked p) (OwedToStart.blocked p l k f) some (record { starts_none = refl; finishes_none = λ m. refl; no_events = λ before. refl }) t.contents
  start_more room w a _ (OwedToStart.started n l k f e) some =
      more room w (Start a) (Started n) (OwedToStart.started n l k f e) some
      (live_started d t.first.0 openings xs t.first.1 w a n e ∙ ap (λ ls. ls ++ record { act = n; worker = w; op = a } ∷ []) t.live_same ∙ sym (live_started d t.second.0 others ys t.second.1 w a n (omega (arith, e, t.begun))))
      t.contents
      (paths_more room w (Start a) (Started n) (OwedToStart.started n l k f e) some (Began a) (history_started xs w a n) (history_started ys w a n))

  use_more : (room w : ℕ) (n : ActId) (verb : Verb) (r : Reply) → OwedToUse d room openings xs w n verb r → r ≢ NoRoom → Twins d openings others (xs ++ line_of w (Apply n verb) r ∷ []) (ys ++ line_of w (Apply n verb) r ∷ [])
  use_more room w n verb _ (OwedToUse.no_room l) some = absurd (some refl)
  use_more room w n verb _ (OwedToUse.stale l k) some = quiet_more room w (Apply n verb) Stale (OwedToUse.stale l k) some (quiet_use w n verb Stale) t.contents
  use_more room w n verb _ (OwedToUse.not_yours a l k o) some = quiet_more room w (Apply n verb) NotYours (OwedToUse.not_yours a l k o) some (quiet_use w n verb NotYours) t.contents
  use_more room w n verb _ (OwedToUse.refused a r l k o) some = quiet_more room w (Apply n verb) r (OwedToUse.refused a r l k o) some (quiet_use w n verb r) (any_use w n verb r a k)
  use_more room w n verb _ (OwedToUse.served a x rest l k o) some = quiet_more room w (Apply n verb) (Used x) (OwedToUse.served a x rest l k o) some (quiet_use w n verb (Used x)) (any_use w n verb (Used x) a k)
  use_more room w n verb _ (OwedToUse.failed a x rest l k o) some = quiet_more room w (Apply n verb) DeviceFailed (OwedToUse.failed a x rest l k o) some (quiet_use w n verb DeviceFailed) t.contents

  finish_more : (room w : ℕ) (n : ActId) (r : Reply) → OwedToFinish d room xs w n r → r ≢ NoRoom → Twins d openings others (xs ++ line_of w (Finish n) r ∷ []) (ys ++ line_of w (Finish n) r ∷ [])
  finish_more room w n _ (OwedToFinish.finished a k) some =
      more room w (Finish n) Finished (OwedToFinish.finished a k) some
      (live_finished xs w n ∙ ap (λ ls. without n ls) t.live_same ∙ sym (live_finished ys w n))
      t.contents
      (paths_more room w (Finish n) Finished (OwedToFinish.finished a k) some (Ended a.op) (history_finished xs w n a k.found) (history_finished ys w n a (found_same n (Some a) k.found)))
  finish_more room w n _ (OwedToFinish.no_room k l) some = absurd (some refl)
  finish_more room w n _ (OwedToFinish.stale l k) some =
      quiet_more room w (Finish n) Stale (OwedToFinish.stale l k) some (record { starts_none = refl; finishes_none = λ m. refl; no_events = λ before. refl }) t.contents
  finish_more room w n _ (OwedToFinish.not_yours a l k o) some =
      quiet_more room w (Finish n) NotYours (OwedToFinish.not_yours a l k o) some (record { starts_none = refl; finishes_none = λ m. refl; no_events = λ before. refl }) t.contents

  pub twins_more : (room w : ℕ) (attempt : Attempt) (r : Reply) → Owed d room openings xs w attempt r → r ≢ NoRoom → Twins d openings others (xs ++ line_of w attempt r ∷ []) (ys ++ line_of w attempt r ∷ [])
  twins_more room w (Start a) r o some = start_more room w a r o some
  twins_more room w (Apply n verb) r o some = use_more room w n verb r o some
  twins_more room w (Finish n) r o some = finish_more room w n r o some
