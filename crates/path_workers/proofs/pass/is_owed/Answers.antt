use Rattle.std.proofs.Common.{arith}
use Rattle.std.proofs.lemmas.Grind.{common_steps}
use Rattle.path_workers.proofs.Opens.{is_open_push}
use Rattle.path_workers.proofs.pass.is_owed.Goals as goal

pub loop-receipt-preserved : goal.loop-receipt-preserved
loop-receipt-preserved c = grind (arith, common_steps, is_open_push)
