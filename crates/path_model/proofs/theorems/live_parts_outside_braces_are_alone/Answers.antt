use Rattle.path_model.proofs.theorems.live_parts_outside_braces_are_alone.Goals as goal
use Rattle.path_model.proofs.JournalGuarantees.{live_parts_outside_braces_are_alone}

pub returns : goal.returns
returns c = live_parts_outside_braces_are_alone
