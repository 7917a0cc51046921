-- No line says that a device failed if its devices never fail, as the own ones.
use Rattle.std.proofs.Common.{◌≡◌, ℕ, Bool, List, subst}
use Rattle.path_model.specs.declared.journal.Line.{Line}
use Rattle.path_model.specs.Declarations.{Declaration}
use Rattle.path_model.specs.Rooms.{IsBadRoom}
use Rattle.path_lines.specs.AttemptTexts.{Entry}
use Rattle.path_shelf.specs.Own.{own_state}
use Rattle.path_shelf.specs.States.{State, MayFail}
use Rattle.path_system.specs.Accounts.{Account, account_of}
use Rattle.tell_base.specs.declared.status.Status.{Status}
use Rattle.tell_base.specs.declared.status.Status.TheVariants.{Done}
use Rattle.tell_base.specs.Ends.{AtDone, OfAttempts}
use Rattle.tell_base.specs.Own.{own_states}
use Rattle.tell_base.specs.Refusals.{HasAttempts, IsBadAttempts, IsUnopened}
use Rattle.tell_base.proofs.CallerLemmas.{own_room, text_so, unfailing}
use Rattle.cmd_trace.specs.Traces.{Traced, at_end, answers, IsTraceBy, IsToldBy, IsTraceOf}

-- what is traced so is traced so wherever devices may fail
traced_so : {d : Declaration} {room : ℕ} {openings : List (List ℕ)} {earlier : List Line} {may might : Type 0} {ls end : List Line} {es : List Entry} {bytes : List ℕ}
    → (may → might) → Traced d room openings earlier may ls es end bytes → Traced d room openings earlier might ls es end bytes
traced_so so at_end = at_end
traced_so so (answers owed failed rest) = answers owed (λ e. so (failed e)) (traced_so so rest)

trace_so : {may might : Type 0} {system : Account} {text : List ℕ} {journal : List Line} {bytes : List ℕ}
    → (may → might) → IsTraceBy may system text journal bytes → IsTraceBy might system text journal bytes
trace_so so t = record { entries = t.entries; attempts = t.attempts; traced = traced_so so t.traced }

pub told_so : (may might : Type 0) (system : Account) (report : Bool) (text bytes : List ℕ) → (may → might)
    → IsToldBy may system report text bytes → IsToldBy might system report text bytes
told_so may might system report text bytes so t = record { journal = t.journal; trace = t.trace; traced = trace_so so t.traced; report = t.report }

-- over the own devices, which never fail, only the room is refused
module _ (Y : Type 0) (d : Declaration) (states : List State) (room : ℕ) (report : Bool) (text : List ℕ) (own : states ≡ own_states d) where
  own_trace : (t : Status) (bytes : List ℕ) → AtDone (IsTraceOf d states (MayFail (own_state {Y = Y})) room report text) t bytes → AtDone (IsTraceOf d (own_states d) ⊥ room report text) t bytes
  own_trace Done bytes t =
      told_so (MayFail (own_state {Y = Y})) ⊥ (account_of d room (own_states d)) report text bytes unfailing
      (subst (λ ss. IsTraceOf d ss (MayFail (own_state {Y = Y})) room report text bytes) own t)
  own_trace s bytes t = absurd t

  pub own_so : (t : Status) (out : List ℕ) → OfAttempts (IsTraceOf d states (MayFail (own_state {Y = Y})) room report text) (IsUnopened d states room) d text t out
      → OfAttempts (IsTraceOf d (own_states d) ⊥ room report text) (IsBadRoom room) d text t out
  own_so = text_so _ _ (HasAttempts d text × IsUnopened d states room) (HasAttempts d text × IsBadRoom room) _ _ own_trace (λ p. (p.0, own_room d states room own p.1)) (λ x. x)
