-- A slot goes to another thread as a box of its member does.
use base.Shift.{Keyless}
use mir.Raw.{raw}
use denote.Memory.{lone}
use denote.Param.Send.{IsSend, AllSend, owning_send, struct_send, sendable}
use denote.RawPtr.{Ptr}
use denote.Struct.Owning.{shape, fields, to}
use denote.Struct.Struct.{exits_of}
use Rattle.std.proofs.Common.{Option, Some, None}
use Rattle.std.proofs.Crossing as heap
use Rattle.std.specs.Global.{Global}
use Rattle.std_alloc.proofs.SendSync.{quiet, lies}
use Rattle.std_heap.proofs.Global.TheSendSync as handle
use Rattle.swim_library.proofs.Crosses.{Running-send}
use Rattle.swim_library.specs.Handle.{slot_owns}
use Rattle.swim_library.specs.contracts.handle.slot.HandleSlot.{the_row, the_type}
use Rattle.swim_library.specs.contracts.running.Running as Running

pub owned : (alloc : Global) (at : Ptr) (kept : Option Running.the_row.Denot) → Keyless (slot_owns alloc at kept)
owned alloc at None = tt
owned alloc at (Some running) = (lies Running.the_row Running-send at running, heap.frees.frees alloc (raw (lone Running.the_row.mir)) at)

pub send : IsSend the_row
send =
    let all : AllSend (fields the_type) = (search sendable, (handle.the_field_send, tt)) in
    owning_send the_type all (λ slot. owned slot.alloc slot.at slot.kept)
    (λ k. quiet (to the_type) (exits_of k (fields the_type)) ((struct_send (shape the_type) all).leaving k))
