use Rattle.path_model.proofs.theorems.each_refusal_has_a_reason.Goals as goal
use Rattle.path_model.proofs.Refusals.{each_refusal_has_a_reason}

pub returns : goal.returns
returns c = each_refusal_has_a_reason
