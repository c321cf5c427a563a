-- What the place of a room owns.
use Rattle.std.specs.Prelude.{Option, Some, None}
use Rattle.std.specs.Coded.{Coded, coded_option}
use base.Fml.{Fml, ftrue}
use denote.RawPtr.{Ptr}
use Rattle.std.specs.Box.Ownership.{box_owns}
use Rattle.std.specs.Global.{Global}
use Rattle.std_heap.specs.contracts.GlobalAllocator.TheImpl.{ghosts}
use Rattle.wb_c.specs.contracts.room.Room.{the_row}

-- a room is owned as a box of it is, and none is nothing
abbrev pub owns_room : Global → Ptr → Option the_row.Denot → Fml
owns_room alloc at (Some room) = box_owns (ghosts.dealloc_token alloc) the_row at room
owns_room alloc at None = ftrue

abbrev pub room_coded : Coded (Option the_row.Denot)
room_coded = coded_option the_row.coded
