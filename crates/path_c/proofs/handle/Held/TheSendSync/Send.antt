-- The box of a service may be given back by any thread, and where nothing is held there is nothing to give.
use mathlib.Core.Bool.{Bool, true, false}
use mir.Raw.{raw}
use base.Shift.{Keyless}
use denote.Memory.{lone}
use denote.RawPtr.{Ptr}
use denote.Struct.Struct.{exits_of}
use denote.Struct.Owning.{shape, fields, to}
use denote.Param.Send.{IsSend, AllSend, owning_send, struct_send, sendable}
use Rattle.std.proofs.Crossing as heap
use Rattle.std.specs.Global.{Global}
use Rattle.std_alloc.proofs.SendSync.{quiet, lies}
use Rattle.std_heap.proofs.Global.TheSendSync as handle
use Rattle.path_service.proofs.CallerLemmas.{service_send}
use Rattle.path_c.specs.Held.{held_owns, service_row}
use Rattle.path_c.specs.contracts.handle.Held.{the_row, the_type}

held_keyless : (full : Bool) (alloc : Global) (at : Ptr) (seen : service_row.Denot) → Keyless (held_owns full alloc at seen)
held_keyless true alloc at seen = (lies service_row service_send at seen, heap.frees.frees alloc (raw (lone service_row.mir)) at)
held_keyless false alloc at seen = tt

pub send : IsSend the_row
send =
    let all : AllSend (fields the_type) = (search sendable, (handle.the_field_send, tt)) in
    owning_send the_type all (λ d. held_keyless d.full d.alloc d.at d.service)
    (λ k. quiet (to the_type) (exits_of k (fields the_type)) ((struct_send (shape the_type) all).leaving k))
