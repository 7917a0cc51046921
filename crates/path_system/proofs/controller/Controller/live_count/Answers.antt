-- There are no more live activations than the room has places.
use Rattle.std.proofs.Common.{length, ap, arith}
use Rattle.path_system.proofs.controller.Controller.live_count.Goals as goal

pub overflow_cast-result : goal.overflow_cast-result
overflow_cast-result g c =
    let k = c.self.invariant.sound.few in
    let l = ap length c.live.ensures in
    let m = c.self.invariant.good_room.1 in
    omega (arith, k, l, m)
