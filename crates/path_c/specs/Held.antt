-- What a handle owns: what a box of a service owns, or nothing.
use mathlib.Core.Bool.{Bool, true, false}
use base.Fml.{Fml, ftrue}
use base.Stored.{Coded}
use denote.RattleType.{RattleType}
use denote.RawPtr.{Ptr}
use Rattle.std.specs.Box.Ownership.{box_owns}
use Rattle.std.specs.Global.{Global}
use Rattle.std_heap.specs.contracts.GlobalAllocator.TheImpl.{ghosts}
use Rattle.path_service.specs.contracts.service.Service as service

-- a service whose memory is the program's
abbrev pub service_row : RattleType
service_row = service.the_row

abbrev pub held_owns : Bool → Global → Ptr → service_row.Denot → Fml
held_owns true alloc at seen = box_owns (ghosts.dealloc_token alloc) service_row at seen
held_owns false alloc at seen = ftrue

abbrev pub service_coded : Coded service_row.Denot
service_coded = service_row.coded
