use Rattle.path_read.proofs.Unique.{declares_once}
use Rattle.path_read.proofs.theorems.each_text_declares_once.Goals as goal

pub returns : goal.returns
returns c = declares_once
