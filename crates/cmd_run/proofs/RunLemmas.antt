-- A run from the opening of its system on.
use Rattle.std.proofs.Common.{◌≡◌, ℕ, List, [], ◌∷◌, ◌++◌, length, ap, ◌∙◌, subst, refl, sym}
use Rattle.path_model.specs.declared.journal.Line.{Line}
use Rattle.path_model.specs.Declarations.{Declaration}
use Rattle.path_model.specs.Honest.{IsHonest}
use Rattle.path_model.specs.Segments.{joined, AreHonest}
use Rattle.path_model.proofs.CallerLemmas.{one_segment_is_a_journal}
use Rattle.path_shelf.specs.States.{State}
use Rattle.path_system.specs.Accounts.{Account, IsSystem, account_of, all_lines, contents_of}
use Rattle.path_system.specs.Faults.{IsOpenFault}
use Rattle.path_system.specs.declared.fault.OpenFault.{OpenFault}
use Rattle.path_system.specs.declared.fault.OpenFault.TheVariants as openings
use Rattle.tell_base.specs.declared.status.Status.{Status}
use Rattle.tell_base.specs.declared.status.Status.TheVariants.{NoMemory, Unsound}
use Rattle.tell_base.specs.Statuses.{open_status}
use Rattle.path_workers.specs.Attempts.{Held}
use Rattle.path_workers.specs.Later.{IsLater}
use Rattle.path_workers.specs.Settled.{IsSettled}
use Rattle.path_script.specs.Scripts.{Plan}
use Rattle.path_run.specs.declared.outcome.End.{End}
use Rattle.path_run.specs.declared.outcome.RunFault.{RunFault}
use Rattle.path_run.specs.declared.outcome.RunFault.TheVariants as runs
use Rattle.path_workers.specs.declared.settle.SettleFault.{SettleFault}
use Rattle.path_run.specs.Runs.{EachRuns}
use Rattle.path_run.specs.Lines.{EachIsOrderly, EachIsBlockedNow}
use Rattle.cmd_run.specs.RunTexts.{IsRunOf, IsUnrun}

-- a system that can't be opened runs nothing
pub open_refused : (d : Declaration) (states : List State) (room : ℕ) (f : OpenFault) → IsOpenFault room states d f → IsUnrun d states room (open_status f)
open_refused d states room openings.BadRoom is = (openings.BadRoom, (λ e. cc), is)
open_refused d states room openings.WrongCount is = (openings.WrongCount, (λ e. cc), is)
open_refused d states room (openings.WrongDevice r) is = (openings.WrongDevice r, (λ e. cc), is)
open_refused d states room openings.OutOfMemory is = tt

-- a run without an outcome wrote nothing, for want of memory or since its journal doesn't match
pub no_outcome_so : {S : Type 0} (d : Declaration) (states : List State) (room : ℕ) (f : RunFault S) (told : Status) → ((left : S) → f ≡ runs.OutOfMemory left → told ≡ NoMemory)
    → ((why : SettleFault) (left : S) → f ≡ runs.Unsettled why left → told ≡ Unsound) → IsUnrun d states room told
no_outcome_so d states room (runs.OutOfMemory left) told memory unsettled = subst (IsUnrun d states room) (sym (memory left refl)) tt
no_outcome_so d states room (runs.Unsettled why left) told memory unsettled = subst (IsUnrun d states room) (sym (unsettled why left refl)) tt

-- what a run leaves over a system that was just opened
module _ (d : Declaration) (states : List State) (room : ℕ) (opened last : Account) (new : opened ≡ account_of d room states) (later : IsLater opened last) where
  pub declared : last.declaration ≡ d
  declared = later.declaration ∙ ap (λ (a : Account). a.declaration) new

  pub ran_so : (plans : List Plan) (passes : List Held) (es : List End) → length passes ≡ length plans → length es ≡ length plans
      → IsSystem last → IsSettled (length opened.journal) last.journal passes → EachRuns plans passes es
      → EachIsOrderly last.journal passes es → EachIsBlockedNow last.declaration (all_lines last) es → IsRunOf d states room plans last.journal es
  ran_so plans passes es count ends system settled runs orderly blocked =
      let whole : last.earlier ≡ [] = later.earlier ∙ ap (λ (a : Account). a.earlier) new in
      let honest : IsHonest last.declaration last.room last.openings last.journal =
      (one_segment_is_a_journal last.declaration last.room last.openings last.journal).0
      (subst (λ (ss : List (List Line)). AreHonest last.declaration last.room last.openings (ss ++ last.journal ∷ [])) whole system.honest) in
      let rooms : last.room ≡ room = later.room ∙ ap (λ (a : Account). a.room) new in
      let openings : last.openings ≡ contents_of states = later.openings ∙ ap (λ (a : Account). a.openings) new in
      record {
        passes = passes;
        as_many = (count, ends);
        honest = subst (λ (x : Declaration). IsHonest x room (contents_of states) last.journal) declared
            (subst (λ (n : ℕ). IsHonest last.declaration n (contents_of states) last.journal) rooms
            (subst (λ (xs : List (List ℕ)). IsHonest last.declaration last.room xs last.journal) openings honest));
        settled = subst (λ (n : ℕ). IsSettled n last.journal passes) (ap (λ (a : Account). length a.journal) new) settled;
        runs = runs;
        orderly = orderly;
        blocked = subst (λ (x : Declaration). EachIsBlockedNow x last.journal es) declared
            (subst (λ (ss : List (List Line)). EachIsBlockedNow last.declaration (joined ss ++ last.journal) es) whole blocked);
      }
