use Rattle.tell_waiting.proofs.Steps.{until_a_finish}
use Rattle.tell_waiting.proofs.waiting_lasts_until_a_finish.Goals as goal

pub returns : goal.returns
returns c = record { lasts = until_a_finish }
