use Rattle.std.proofs.Common.{refl}
use Rattle.path_store.proofs.Left.{has_some}
use Rattle.path_store.proofs.theorems.lines_need_no_checksum.Goals as goal

pub returns : goal.returns
returns c = λ d room synced fresh left names is fits marked image. has_some d names room synced fresh _ _ left is refl refl fits marked image
