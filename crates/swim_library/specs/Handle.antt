-- What a handle owns.
use base.Fml.{Fml, ftrue}
use base.Stored.{Coded}
use denote.RawPtr.{Ptr}
use Rattle.std.specs.Coded.{coded_option}
use Rattle.std.specs.Prelude.{Option, Some, None}
use Rattle.std.specs.Box.Ownership.{box_owns}
use Rattle.std.specs.Global.{Global}
use Rattle.std_heap.specs.contracts.GlobalAllocator.TheImpl.{ghosts}
use Rattle.swim_library.specs.contracts.running.Running.{the_row}

-- what a slot owns: what a box of its member owns, or nothing
abbrev pub slot_owns : Global → Ptr → Option the_row.Denot → Fml
slot_owns alloc p None = ftrue
slot_owns alloc p (Some running) = box_owns (ghosts.dealloc_token alloc) the_row p running

abbrev pub kept_coded : Coded (Option the_row.Denot)
kept_coded = coded_option the_row.coded
