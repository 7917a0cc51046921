-- What a search writes.
use Rattle.std.proofs.Common.{◌≢◌, ℕ, List, Option, refl, sym, subst, inl, inr}
use Rattle.path_model.specs.Declarations.{Declaration}
use Rattle.path_script.specs.declared.fault.ScriptFault.{ScriptFault}
use Rattle.path_script.specs.declared.fault.ScriptFault.TheVariants as scripts
use Rattle.path_script.specs.ScriptFaults.{IsScriptFault}
use Rattle.path_script.specs.ScriptTexts.{IsScriptText, IsNoScriptText}
use Rattle.path_script.specs.Scripts.{Plan}
use Rattle.search_schedules.specs.declared.explored.Explored.{Explored}
use Rattle.search_schedules.specs.declared.explored.Explored.TheVariants.{AllDone, Stalls, Faults, Undecided}
use Rattle.search_schedules.specs.Outcomes.{IsExplored}
use Rattle.tell_base.specs.declared.status.Status.{Status}
use Rattle.tell_base.specs.Ends.{RefusesText}
use Rattle.tell_base.specs.Refusals.{Under}
use Rattle.tell_base.specs.Statuses.{script_status}
use Rattle.tell_base.proofs.CallerLemmas.{ends_so, ends_under}
use Rattle.path_decl.specs.Text.{IsDeclarationText}
use Rattle.cmd_explore.specs.declared.searched.Searched.{Searched}
use Rattle.cmd_explore.specs.declared.searched.Searched.TheVariants.{Ended}
use Rattle.cmd_explore.specs.declared.searched.Searched.TheVariants as searches
use Rattle.cmd_explore.specs.Searches.{HasSearched, IsBadScript, IsOpen, IsUndecided, OfSearch, Says, SearchEnds}

-- a script that is refused
pub refuses_script : (refused : Type 0) (d : Declaration) (text : List ℕ) (fault : ScriptFault) → IsScriptFault d text fault
    → (fault ≢ scripts.TooLong → fault ≢ scripts.OutOfMemory → IsNoScriptText d text) → RefusesText refused (IsBadScript d text) (script_status fault)
refuses_script refused d text scripts.TooLong is none = record { may = (inl is, refl) }
refuses_script refused d text scripts.OutOfMemory is none = record { may = tt }
refuses_script refused d text fault is none = record { may = (inr (none (λ same. cc) (λ same. cc)), refl) }

-- what is said of what a search came to is what a search writes
pub says_so : {Y : Type 0} (d : Declaration) (script : List ℕ) (plans : List Plan) (most : ℕ) → IsScriptText d script plans → (explored : Explored Y) → IsExplored d plans most explored
    → (t : Status) (out : List ℕ) → Says d explored t out → OfSearch d script t out
says_so d script plans most read (AllDone states) is t out w =
    subst (λ x. OfSearch d script x out) (sym w.0) (record { plans = plans; read = read; go_on = is.0; states = states; all_states = is.1; spelled = w.1 })
says_so d script plans most read (Stalls lines) is t out w =
    subst (λ x. OfSearch d script x out) (sym w.0) (record { plans = plans; read = read; lines = lines.items; shortest = inl is; spelled = w.1 })
says_so d script plans most read (Faults lines) is t out w =
    subst (λ x. OfSearch d script x out) (sym w.0) (record { plans = plans; read = read; lines = lines.items; shortest = inr is; spelled = w.1 })
says_so d script plans most read (Undecided states) is t out w = absurd w

-- without an answer there are more schedules
pub open_so : {Y : Type 0} (d : Declaration) (script : List ℕ) (plans : List Plan) (most : ℕ) → IsScriptText d script plans → (explored : Explored Y) → IsExplored d plans most explored → IsOpen explored → IsUndecided script most d
open_so d script plans most read (AllDone states) is none = absurd none
open_so d script plans most read (Stalls lines) is none = absurd none
open_so d script plans most read (Faults lines) is none = absurd none
open_so d script plans most read (Undecided states) is none = (plans, read, is.1)

-- what one table has the other has, too
pub has_so : (P Q : Status → List ℕ → Type 0) (A B : Type 0) (old new : Option (List ℕ)) (s : Searched) → ((t : Status) (out : List ℕ) → P t out → Q t out) → (A → B)
    → HasSearched P A old new s → HasSearched Q B old new s
has_so P Q A B old new (Ended status) so is h = ends_so P Q so old new status h
has_so P Q A B old new searches.Undecided so is h = (h.0, is h.1)

-- under the declaration in a text
pub has_under : (text script : List ℕ) (most : ℕ) (d : Declaration) (old new : Option (List ℕ)) (s : Searched) → IsDeclarationText text d
    → HasSearched (OfSearch d script) (IsUndecided script most d) old new s → HasSearched (SearchEnds text script) (Under text (IsUndecided script most)) old new s
has_under text script most d old new (Ended status) declares h = ends_under text (λ d. OfSearch d script) d old new status declares (λ out none. none) h
has_under text script most d old new searches.Undecided declares h = (h.0, (d, declares, h.1))
