-- The number of a `bool` is at most 1.
use Rattle.std.proofs.Common.{◌≤◌, Bool, true, false, ltb, arith}
use mir.Val.{bool_byte}
use Rattle.path_workers.proofs.merge.lower_of_two.Goals as goal

at_most_one : (b : Bool) → bool_byte b ≤ 1
at_most_one true = omega arith
at_most_one false = omega arith

pub next_in-requires : goal.next_in-requires
next_in-requires g c κs = λ within. within

pub next_in-requires-2 : goal.next_in-requires-2
next_in-requires-2 g c κs = λ within. within

pub from-requires : goal.from-requires
from-requires g c = tt

pub overflow_add-left : goal.overflow_add-left
overflow_add-left g c = record { fits = omega arith }

pub overflow_add-result : goal.overflow_add-result
overflow_add-result g c = record { fits = omega (arith, c.from.ensures, at_most_one (ltb c.next_in.result c.next_in-2.result)) }

pub returns : goal.returns
returns g c = (omega arith, omega (arith, c.from.ensures, at_most_one (ltb c.next_in.result c.next_in-2.result)))
