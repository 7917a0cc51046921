-- Processes that stalled are blocked after the whole journal.
use Rattle.std.proofs.Common.{◌≡◌, inl, inr, ℕ, ◌+◌, ◌-◌, ◌<◌, suc, List, [], ◌∷◌, ◌++◌, length, take, drop, get_or, Bool, true, refl, sym, ap, ◌∙◌, subst, arith, length-append, length-drop, drop-cons, add-one}
use Rattle.std.specs.Prelude.{Some, ◌&&◌, ◌==◌}
use Rattle.std.proofs.lemmas.Bool.Decides.{nat_tests}
use Rattle.std.proofs.lemmas.List.{append_assoc, get_or-drop, take-append-drop}
use Rattle.std.proofs.Math.Seq.{get_or-append_seam}
use Rattle.path_model.specs.declared.ids.OpId.{OpId}
use Rattle.path_model.specs.declared.ids.ActId.{ActId}
use Rattle.path_model.specs.declared.ids.PathId.{PathId}
use Rattle.path_model.specs.declared.journal.Attempt.{Attempt}
use Rattle.path_model.specs.declared.journal.Attempt.TheVariants.{Start}
use Rattle.path_model.specs.declared.journal.Reply.{Reply}
use Rattle.path_model.specs.declared.journal.Reply.TheVariants.{Started, Blocked, Finished}
use Rattle.path_model.specs.declared.journal.Line.{Line}
use Rattle.path_model.specs.Trees.{WellFormed}
use Rattle.path_model.specs.Legal as legal
use Rattle.path_model.specs.Declarations.{Declaration, paths_of}
use Rattle.path_model.specs.Journals.{admitted_history}
use Rattle.path_model.specs.Owed.{by_words}
use Rattle.path_model.specs.Honest.{IsHonest}
use Rattle.path_model.specs.Segments.{joined, room_behind}
use Rattle.path_model.specs.Stuck.{HasFinishLine, blocked_line}
use Rattle.path_model.proofs.CallerLemmas.{segments_are_one_journal}
use Rattle.path_system.specs.Accounts.{Account, IsSystem, all_lines}
use Rattle.path_workers.specs.declared.answer.Receipt.{Receipt}
use Rattle.path_workers.specs.Attempts.{Held}
use Rattle.path_workers.specs.Settled.{same_attempt, same_reply, is_copy, IsSettled}
use Rattle.path_workers.proofs.CallerLemmas.{each_receipt_is_a_line}
use Rattle.path_script.specs.declared.script.Step.{Step}
use Rattle.path_script.specs.Scripts.{Plan}
use Rattle.path_run.specs.declared.outcome.End.{End}
use Rattle.path_run.specs.declared.outcome.End.TheVariants as ends
use Rattle.path_run.specs.Runs.{note, IsRun, EachRuns}
use Rattle.path_run.specs.Lines.{HasNoFinish, IsCurrent, EachIsOrderly, IsBlockedNow, EachIsBlockedNow}
use Rattle.path_run.proofs.Blocking.{still_blocked}

-- the last receipt of a process that stalled
abbrev EndsBlocked : OpId → List Receipt → Type 0
EndsBlocked op rs = (first : List Receipt) × (place : ℕ) × (path : PathId) × (rs ≡ first ++ note place (Start op) (Blocked path) ∷ [])

more : (op : OpId) (r : Receipt) (rs : List Receipt) → EndsBlocked op rs → EndsBlocked op (r ∷ rs)
more op r rs e = (r ∷ e.0, e.1, e.2, ap (λ (xs : List Receipt). r ∷ xs) e.3)

ends_blocked : (steps : List Step) (held : List ActId) (rs : List Receipt) (op : OpId) → IsRun steps held rs (ends.Stalled op) → EndsBlocked op rs
ends_blocked _ _ _ op (IsRun.entered a steps held place act rs end run) = more op (note place (Start a) (Started act)) rs (ends_blocked steps (act ∷ held) rs op run)
ends_blocked _ _ _ op (IsRun.blocked a steps held place path rs end run) = more op _ rs (ends_blocked _ held rs op run)
ends_blocked _ _ _ op (IsRun.used verb steps act held place x rs end run) = more op _ rs (ends_blocked steps (act ∷ held) rs op run)
ends_blocked _ _ _ op (IsRun.left steps act held place rs end run) = more op _ rs (ends_blocked steps held rs op run)
ends_blocked _ _ _ op (IsRun.stalled a steps held place path) = ([], place, path, refl)
ends_blocked _ _ _ op (IsRun.gave_up step steps held rs end gives fin) = cc

-- a copy of a blocked start is a blocked start
same_start : (x : Attempt) (op : OpId) → same_attempt x (Start op) ≡ true → x ≡ Start op
same_start (Start a) op e = ap (λ (n : ℕ). Start (record { 0 = n })) (grind (arith, nat_tests, e))
same_start x op e = cc

same_blocked : (y : Reply) (p : PathId) → same_reply y (Blocked p) ≡ true → y ≡ Blocked p
same_blocked (Blocked q) p e = ap (λ (n : ℕ). Blocked (record { 0 = n })) (grind (arith, nat_tests, e))
same_blocked y p e = cc

and_both : (x y z : Bool) → x && (y && z) ≡ true → (y ≡ true) × (z ≡ true)
and_both true true true e = (refl, refl)
and_both x y z e = cc

-- a line of a finish has a number
finish_at : (y : List Line) → HasFinishLine y → (k : ℕ) × (k < length y) × ((d : Line) → (get_or y k d).reply ≡ Finished)
finish_at [] f = absurd f
finish_at (l ∷ y) f = elim f [
  | inl e ↦ (0, omega arith, λ d. e)
  | inr g ↦ (let k = finish_at y g in (suc k.0, omega (arith, k.1), k.2))
]

a_line : Line
a_line = record { worker = 0; attempt = Start (record { 0 = 0 }); reply = Finished }

-- the receipt is a copy of the line at its place
abbrev IsLine : List Line → Receipt → Type 0
IsLine lines r = (r.place < length lines) × (is_copy r.place (get_or lines r.place a_line) r ≡ true)

module _ (d : Declaration) (room : ℕ) (openings : List (List ℕ)) (wf : legal.Every WellFormed (paths_of d)) (earlier lines : List Line) (honest : IsHonest d room openings (earlier ++ lines)) where
  -- a blocked start with no finish after it is blocked after all lines
  blocked_at : (place w : ℕ) (op : OpId) (path : PathId) → place < length lines → get_or lines place a_line ≡ blocked_line w op path → HasNoFinish lines place (length lines)
      → (q : PathId) × by_words d (admitted_history (earlier ++ lines)) op (Some q)
  blocked_at place w op path within is none =
      let x : List Line = take place lines in
      let y : List Line = drop (place + 1) lines in
      let here : drop place lines ≡ blocked_line w op path ∷ y = rw (add-one, drop-cons lines place a_line) (ap (λ (l : Line). l ∷ drop (suc place) lines) is) in
      let split : (earlier ++ x) ++ blocked_line w op path ∷ y ≡ earlier ++ lines =
      append_assoc earlier x (blocked_line w op path ∷ y) ∙ ap (λ (ls : List Line). earlier ++ ls) (ap (λ (ls : List Line). x ++ ls) (sym here) ∙ take-append-drop place lines) in
      let free : HasFinishLine y → ⊥ = λ f.
      (let k = finish_at y f in
      let len = length-drop (place + 1) lines in
      none (place + 1 + k.0) a_line (omega arith) (omega (arith, k.1, len)) (omega (arith, k.1, len)) (ap (λ (l : Line). l.reply) (sym (get_or-drop (place + 1) lines k.0 a_line)) ∙ k.2 a_line)) in
      let found = still_blocked d room openings wf (earlier ++ x) y w op path (subst (λ (ls : List Line). IsHonest d room openings ls) (sym split) honest) free in
      (found.0, subst (λ (ls : List Line). by_words d (admitted_history ls) op (Some found.0)) split found.1)

  blocked_now : (rs : List Receipt) (op : OpId) → ((j : ℕ) (e : Receipt) → j < length rs → IsLine lines (get_or rs j e)) → EndsBlocked op rs
      → ((e : Receipt) → 0 < length rs → HasNoFinish lines (get_or rs (length rs - 1) e).place (length lines)) → (q : PathId) × by_words d (admitted_history (earlier ++ lines)) op (Some q)
  blocked_now rs op copied last none =
      let first : List Receipt = last.0 in
      let r : Receipt = note last.1 (Start op) (Blocked last.2) in
      let long : length rs ≡ length first + 1 = ap (λ (xs : List Receipt). length xs) last.3 ∙ length-append first (r ∷ []) in
      let at : get_or rs (length first) r ≡ r = ap (λ (xs : List Receipt). get_or xs (length first) r) last.3 ∙ get_or-append_seam first r [] r in
      let line : IsLine lines r = subst (λ (q : Receipt). IsLine lines q) at (copied (length first) r (omega arith)) in
      let l : Line = get_or lines last.1 a_line in
      let both = and_both (last.1 == last.1) (same_attempt l.attempt (Start op)) (same_reply l.reply (Blocked last.2)) line.1 in
      let attempt : l.attempt ≡ Start op = same_start l.attempt op both.0 in
      let reply : l.reply ≡ Blocked last.2 = same_blocked l.reply last.2 both.1 in
      let is : l ≡ blocked_line l.worker op last.2 = ap (λ (a : Attempt). record { worker = l.worker; attempt = a; reply = l.reply }) attempt ∙ ap (λ (q : Reply). record { worker = l.worker; attempt = Start op; reply = q }) reply in
      let end : length rs - 1 ≡ length first = omega arith in
      let final : (get_or rs (length rs - 1) r).place ≡ last.1 = ap (λ (k : ℕ). (get_or rs k r).place) end ∙ ap (λ (q : Receipt). q.place) at in
      blocked_at last.1 l.worker op last.2 line.0 is (subst (λ (k : ℕ). HasNoFinish lines k (length lines)) final (none r (omega arith)))

  by_end : (steps : List Step) (rs : List Receipt) (end : End) → ((j : ℕ) (e : Receipt) → j < length rs → IsLine lines (get_or rs j e)) → IsRun steps [] rs end → IsCurrent lines rs end → IsBlockedNow d (earlier ++ lines) end
  by_end steps rs (ends.Stalled op) copied run none = blocked_now rs op copied (ends_blocked steps [] rs op run) none
  by_end steps rs end copied run none = tt

  -- what each stalled process waits for is blocked after the whole journal
  pub stays_blocked : (plans : List Plan) (b : ℕ) (hs : List Held) (es : List End) → length hs ≡ length plans → length es ≡ length plans → IsSettled b lines hs → EachIsOrderly lines hs es → EachRuns plans hs es → EachIsBlockedNow d (earlier ++ lines) es
  stays_blocked plans b hs es passes ends settled orderly runs i e lt =
      let p : Plan = record { name = []; steps = [] } in
      let h : Held = record { worker = 0; receipts = [] } in
      let run = runs i p h e (omega arith) in
      let current = orderly i h e (omega arith) in
      by_end (get_or plans i p).steps (get_or hs i h).receipts (get_or es i e)
      (λ j r in_range. let line = each_receipt_is_a_line b lines hs settled i j h r a_line (omega arith) in_range in (line.1, line.2)) run.1 current.1

-- and after all lines of a system, where earlier ones were given away
pub blocked_behind : (a : Account) → IsSystem a → (plans : List Plan) (b : ℕ) (hs : List Held) (es : List End) → length hs ≡ length plans → length es ≡ length plans
    → IsSettled b a.journal hs → EachIsOrderly a.journal hs es → EachRuns plans hs es → EachIsBlockedNow a.declaration (all_lines a) es
blocked_behind a system plans b hs es passes ends settled orderly runs =
    stays_blocked a.declaration (room_behind (joined a.earlier) a.room) a.openings system.lawful.well_formed (joined a.earlier) a.journal
    (segments_are_one_journal a.declaration a.room a.openings a.earlier a.journal system.honest) plans b hs es passes ends settled orderly runs
