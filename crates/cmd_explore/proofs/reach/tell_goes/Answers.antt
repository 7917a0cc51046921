-- Memory ran out, or the text is written.
use Rattle.tell_base.specs.declared.status.Status.TheVariants.{NoMemory}
use Rattle.tell_base.proofs.CallerLemmas.{ends_told}
use Rattle.cmd_explore.proofs.reach.tell_goes.Goals as goal

pub returns-in-Err : goal.returns-in-Err
returns-in-Err g c = ends_told _ _ NoMemory _ (record { may = tt }) c.tell.ensures
