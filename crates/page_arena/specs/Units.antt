-- Memory that a host hands in, as a type of the logic.
use Rattle.std.specs.Prelude.{ℕ}
use mir.Syntax.{Ty, w128, ty_int, ty_array}

-- 16 bytes, at a multiple of 16
abbrev pub a_unit : Ty
a_unit = ty_int w128

-- k of them
abbrev pub Units : ℕ → Ty
Units k = ty_array a_unit k
