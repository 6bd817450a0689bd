-- A member that is owned, at the types of `Box<Running>`: what a slot, its parts and a box own is the same.
use mir.Syntax.{impl, tnil, dnil}
use mathlib.Core.List.{[]}
use denote.Signature.{Slot, plain}
use Rattle.std.proofs.Common.{◌≡◌, Option, Some, None, refl}
use Rattle.std_alloc.proofs.BoxSteps.Form.{Bx}
use Rattle.std_heap.specs.contracts.Global as Heap
use Rattle.std_heap.specs.contracts.GlobalAllocator.TheImpl.{ghosts, dict}
use Rattle.std_heap.proofs.Global.TheLaws as heap
use Rattle.swim_library.specs.contracts.running.Running as Held
use Rattle.swim_library.proofs.running.Running.TheLaws as running
use Rattle.swim_library.specs.contracts.handle.parts.Parts as Parts
use Rattle.swim_library.specs.contracts.handle.slot.HandleSlot as Slots

abbrev pub E : Bx
E = record { row = Held.the_row; laws = running.the_row_laws; al = record { row = Heap.the_row; laws = heap.the_row_laws; g = ghosts; d = dict; drops = impl [] tnil dnil } }

-- the types by which a member is handed over
abbrev pub PartsType : Slot 0
PartsType = plain (λ _. Parts.the_row Held.the_row Heap.the_row ghosts)

abbrev pub SlotType : Slot 0
SlotType = plain (λ _. Slots.the_row)

-- what is there is something
pub something : {X : Type 0} → (x : Option X) → (x ≡ None → ⊥) → (y : X) × (x ≡ Some y)
something None some = absurd (some refl)
something (Some y) some = (y, refl)
