use mir.Raw.{raw}
use denote.Memory.{lone}
use denote.Struct.Struct.{exits_of}
use denote.Struct.Owning.{shape, fields, to}
use denote.Param.Send.{IsSend, AllSend, owning_send, struct_send, sendable}
use base.Shift.{Keyless}
use denote.RawPtr.{Ptr}
use Rattle.std.specs.Prelude.{Option, Some, None}
use Rattle.std.specs.Global.{Global}
use Rattle.sillarnica.specs.inner.Owned.{pointer_owns}
use Rattle.std.proofs.Crossing as heap
use Rattle.std_alloc.proofs.SendSync.{quiet, lies}
use Rattle.std_heap.proofs.Global.TheSendSync as handle
use Rattle.class_loops.specs.contracts.held.HeldClass as Class
use Rattle.class_loops.proofs.held.HeldClass.TheSendSync.{the_send as class}
use Rattle.sillarnica.specs.contracts.pointer.ClassPointer.{the_row, the_type}

-- what a pointer owns goes to another thread: nothing, or a class and the right to free its block
owned_goes : (alloc : Global) (p : Ptr) (held : Option Class.the_row.Denot) → Keyless (pointer_owns alloc p held)
owned_goes alloc p None = tt
owned_goes alloc p (Some x) = (lies Class.the_row class p x, heap.frees.frees alloc (raw (lone Class.the_row.mir)) p)

-- and so do its two fields
fields_go : AllSend (fields the_type)
fields_go = (search sendable, (handle.the_field_send, tt))

pub send : IsSend the_row
send = owning_send the_type fields_go (λ d. owned_goes d.alloc d.at d.class)
    (λ kept. quiet (to the_type) (exits_of kept (fields the_type)) ((struct_send (shape the_type) fields_go).leaving kept))
