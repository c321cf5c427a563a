-- What is held, and its parts, own what a box of a room owns.
use mathlib.Core.Path.{◌≡◌, refl}
use mathlib.Core.List.{[]}
use mathlib.Core.Bool.{false≢true}
use mir.Syntax.{impl, tnil, dnil}
use Rattle.std.specs.Prelude.{Option, Some, None, IsSome}
use Rattle.std_alloc.proofs.BoxSteps.Form.{Bx}
use Rattle.std_heap.specs.contracts.Global as heap
use Rattle.std_heap.specs.contracts.GlobalAllocator.TheImpl.{ghosts, dict}
use Rattle.std_heap.proofs.Global.TheLaws as heap_laws
use Rattle.wb_c.specs.contracts.room.Room as room
use Rattle.wb_c.proofs.room.Room.TheLaws as room_laws
use denote.Signature.{Slot, plain}
use Rattle.wb_c.specs.contracts.parts.Parts as parts
use Rattle.wb_c.specs.contracts.held.Held as held

abbrev pub E : Bx
E = record { row = room.the_row; laws = room_laws.the_row_laws; al = record { row = heap.the_row; laws = heap_laws.the_row_laws; g = ghosts; d = dict; drops = impl [] tnil dnil } }

pub some_of : {A : Type 0} (o : Option A) → IsSome o → (x : A) × (o ≡ Some x)
some_of (Some x) is = (x, refl)
some_of None is = absurd (false≢true is)

abbrev pub FromParts : Slot 0
FromParts = plain (λ _. parts.the_row room.the_row heap.the_row ghosts)

abbrev pub FromHeld : Slot 0
FromHeld = plain (λ _. held.the_row)

abbrev pub FromHeap : Slot 0
FromHeap = plain (λ _. heap.the_row)
