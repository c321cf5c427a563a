use Rattle.std.proofs.Common.{refl, ap}
use Rattle.wb_dialog.specs.Doing.{DialogValue, kept_in}
use Rattle.wb_c.specs.Performing.{Answers}
use Rattle.wb_c.proofs.Served.{at_none, member_did}
use Rattle.wb_c.specs.declared.room.Room.{Room as RoomValue}
use Rattle.wb_c.proofs.room.Room.answers_kept.Goals as goal

pub returns-in_default : goal.returns-in_default
returns-in_default c =
    let room : RoomValue = c.args.self.now in
    let after : RoomValue = record { dialog = c.take_kept.new.self; block = room.block; events = room.events } in
    at_none (Answers c.args.query) room after 7 (kept_in room.dialog.host) c.in_default.ensures.kept (refl, ap (λ (d : DialogValue). record { dialog = d; block = room.block; events = room.events }) (c.in_default.ensures.none refl))

pub returns : goal.returns
returns c =
    let room : RoomValue = c.args.self.now in
    let after : RoomValue = record { dialog = c.put_kept.new.self; block = room.block; events = c.ask-status.new.events } in
    member_did (Answers c.args.query) room after c.ask-status.result c.take_kept.new.self c.in-Some.kept c.ask-status.new.kept c.in-Some.ensures.kept (c.in-Some.ensures.some c.in-Some.kept refl) c.put_kept.ensures refl c.ask-status.ensures
