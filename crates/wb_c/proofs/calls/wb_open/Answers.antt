use Rattle.std.proofs.Common.{◌≡◌, false, Option, Some, None, refl, sym, ◌∙◌}
use Rattle.std.specs.Prelude.{is_some}
use Rattle.wb_c.specs.Calls.{Opens}
use Rattle.wb_c.specs.declared.room.Room.{Room as RoomValue}
use Rattle.wb_c.proofs.calls.wb_open.Goals as goal

-- without memory one that is closed stays closed
stays_closed : (room : Option RoomValue) → is_some room ≡ false → Opens room room 4
stays_closed None is = refl
stays_closed (Some room) is = absurd cc

pub returns : goal.returns
returns c = stays_closed c.args.host.now.held.room (sym c.is_open.ensures ∙ c.if-is_open.false)
