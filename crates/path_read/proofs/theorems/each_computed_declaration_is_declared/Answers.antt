use Rattle.path_read.proofs.Computed.{is_text}
use Rattle.path_read.proofs.theorems.each_computed_declaration_is_declared.Goals as goal

pub returns : goal.returns
returns c = is_text
