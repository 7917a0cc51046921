-- With which status a run ends, and what it has written then.
use Rattle.std.proofs.Common.{◌≡◌, ◌≢◌, ◌⊎◌, inl, inr, ◌∙◌, ap, subst, sym, refl, ℕ, List, [], ◌++◌}
use Rattle.std.specs.Prelude.{Option, Some, All}
use Rattle.std.specs.Io.KnownBytes.{Appends}
use Rattle.std.proofs.lemmas.List.{append-nil}
use Rattle.std.proofs.lemmas.List.Elements.{All-weaker}
use Rattle.path_model.specs.declared.journal.Line.{Line}
use Rattle.path_model.specs.Declarations.{Declaration}
use Rattle.path_journal.specs.JournalTexts.{journal_text}
use Rattle.path_shelf.specs.States.{State}
use Rattle.path_script.specs.declared.fault.ScriptFault.{ScriptFault}
use Rattle.path_script.specs.declared.fault.ScriptFault.TheVariants as scripts
use Rattle.path_script.specs.Scripts.{Plan}
use Rattle.path_script.specs.ScriptTexts.{IsScriptText, IsNoScriptText}
use Rattle.path_script.specs.ScriptFaults.{IsScriptFault}
use Rattle.path_run.specs.declared.outcome.End.{End}
use Rattle.path_run.specs.declared.outcome.End.TheVariants as ends
use Rattle.tell_base.specs.declared.status.Status.{Status}
use Rattle.tell_base.specs.declared.status.Status.TheVariants.{Done, CommandRefused, StreamFailed, NoMemory, Unsound}
use Rattle.tell_base.specs.Ends.{Ends, MayEnd, RefusesText, Writes, Wrote}
use Rattle.tell_base.specs.Own.{own_states}
use Rattle.tell_base.specs.Refusals.{IsUnopened}
use Rattle.tell_base.specs.Statuses.{script_status}
use Rattle.cmd_run.specs.Ends.{AllDone, NotAllDone, NoneLackedMemory, IsStatusOf, WritesRun}
use Rattle.cmd_run.specs.RunTexts.{IsBadScript, IsRunOf, IsRunText, IsUnrun, RunEnds, WritesRunOf}

-- a script that is refused
pub refuses_script : (refused : Type 0) (d : Declaration) (text : List ℕ) (fault : ScriptFault) → IsScriptFault d text fault
    → (fault ≢ scripts.TooLong → fault ≢ scripts.OutOfMemory → IsNoScriptText d text) → RefusesText refused (IsBadScript d text) (script_status fault)
refuses_script refused d text scripts.TooLong is none = record { may = (inl is, refl) }
refuses_script refused d text scripts.OutOfMemory is none = record { may = tt }
refuses_script refused d text fault is none = record { may = (inr (none (λ same. cc) (λ same. cc)), refl) }

-- why nothing ran
pub may_unrun : (d : Declaration) (states : List State) (room : ℕ) (script : List ℕ) (s : Status) → IsUnrun d states room s → MayEnd (RunEnds d states room script (IsUnopened d states room)) s
may_unrun d states room script CommandRefused is = record { may = (is, refl) }
may_unrun d states room script Unsound is = record { may = inl refl }
may_unrun d states room script NoMemory is = record { may = tt }
may_unrun d states room script s is = absurd is

all_had : (es : List End) → AllDone es → NoneLackedMemory es
all_had = All-weaker (λ e. e ≡ ends.Done) (λ e. e ≢ ends.NoMemory) (λ e done lacked. let other : ends.Done ≡ ends.NoMemory = sym done ∙ lacked in cc)

module _ (es : List End) (bytes : List ℕ) (old new : Option (List ℕ)) where
  -- whichever processes are done, a run may write its journal
  may_write : (s : Status) → IsStatusOf es s → (t : Status) × WritesRun es bytes t bytes
  may_write Done all = (Done, (all, refl))
  may_write Unsound some = (Unsound, (some.0, refl))
  may_write NoMemory lacked = (Unsound, ((λ all. lacked (all_had es all)), refl))
  may_write s none = absurd none

  wrote_as : (s : Status) → IsStatusOf es s → Appends old new bytes → Ends (WritesRun es bytes) old new s
  wrote_as Done all wrote = record { wrote = (bytes, (all, refl), wrote) }
  wrote_as Unsound some wrote = record { wrote = (bytes, (some.0, refl), wrote) }
  wrote_as NoMemory lacked wrote = record { wrote = (bytes, inr ([], (Unsound, ((λ all. lacked (all_had es all)), append-nil bytes))), wrote) }
  wrote_as s none wrote = absurd none

  -- all of it was written, and how the processes ended was told
  pub ends_run : (s r : Status) → IsStatusOf es s → (r ≡ s) ⊎ (r ≡ StreamFailed) → Appends old new bytes → Ends (WritesRun es bytes) old new r
  ends_run s r is (inl e) wrote = subst (Ends (WritesRun es bytes) old new) (sym e) (wrote_as s is wrote)
  ends_run s r is (inr e) wrote = subst (Ends (WritesRun es bytes) old new) (sym e) (record { wrote = tt })

  unwritten : (s r : Status) (told : List ℕ) → IsStatusOf es s → told ≡ bytes → r ≢ Done → Wrote (Writes Done told) old new r → Wrote (WritesRun es bytes) old new r
  unwritten s Done told is same failed wrote = absurd (failed refl)
  unwritten s StreamFailed told is same failed wrote = tt
  unwritten s NoMemory told is same failed (out, inl none, wrote) = (out, inl none, wrote)
  unwritten s NoMemory told is same failed (out, inr (rest, (t, w)), wrote) =
      let may = may_write s is in
      (out, inr (rest, (may.0, subst (WritesRun es bytes may.0) (sym (w.1 ∙ same)) may.1)), wrote)
  unwritten s r told is same failed (out, w, wrote) = absurd (let other = w.0 in cc)

  -- it wasn't
  pub ends_unwritten : (s r : Status) (told : List ℕ) → IsStatusOf es s → told ≡ bytes → r ≢ Done → Ends (Writes Done told) old new r → Ends (WritesRun es bytes) old new r
  ends_unwritten s r told is same failed e = record { wrote = unwritten s r told is same failed e.wrote }

-- the journal of a run
module _ (d other : Declaration) (states : List State) (room : ℕ) (script : List ℕ) (plans : List Plan) (lines : List Line) (es : List End) (same : other ≡ d) (read : IsScriptText d script plans)
    (run : IsRunOf d states room plans lines es) where
  run_text : (ended : List End → Type 0) (out : List ℕ) → ended es → out ≡ journal_text other (Some room) lines → IsRunText d states room script ended out
  run_text ended out so is = record {
    plans = plans;
    lines = lines;
    ends = es;
    read = read;
    run = run;
    so = so;
    spelled = is ∙ ap (λ (x : Declaration). journal_text x (Some room) lines) same;
  }

  pub run_so : (unopened : Type 0) (t : Status) (out : List ℕ) → WritesRun es (journal_text other (Some room) lines) t out → RunEnds d states room script unopened t out
  run_so unopened Done out w = run_text AllDone out w.0 w.1
  run_so unopened Unsound out w = inr (run_text NotAllDone out w.0 w.1)
  run_so unopened t out w = absurd w

-- over the program's own devices
pub own_run : (d : Declaration) (states : List State) (room : ℕ) (script : List ℕ) → states ≡ own_states d → (t : Status) (out : List ℕ) → WritesRunOf d states room script t out → WritesRunOf d (own_states d) room script t out
own_run d states room script own t out = subst (λ (ss : List State). WritesRunOf d ss room script t out) own
