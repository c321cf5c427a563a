use Rattle.std.proofs.Common.{refl, ap}
use Rattle.wb_dialog.specs.Doing.{DialogValue, judged_in}
use Rattle.wb_c.proofs.Served.{at_not_judged, judged_did}
use Rattle.wb_c.specs.declared.room.Room.{Room as RoomValue}
use Rattle.wb_c.proofs.room.Room.judge.Goals as goal

pub returns-in_default : goal.returns-in_default
returns-in_default c =
    let room : RoomValue = c.args.self.now in
    let after : RoomValue = record { dialog = c.take_member.new.self; block = room.block; events = room.events } in
    at_not_judged c.args.call.now room after 16 (judged_in room.dialog.host) c.in_default.ensures.member (refl, ap (λ (d : DialogValue). record { dialog = d; block = room.block; events = room.events }) (c.in_default.ensures.none refl))

pub returns : goal.returns
returns c =
    let room : RoomValue = c.args.self.now in
    let after : RoomValue = record { dialog = c.put_member.new.self; block = room.block; events = c.perform-status.new.events } in
    judged_did c.args.call.now room after c.perform-status.result c.take_member.new.self c.in-Some.member c.perform-status.new.member c.in-Some.ensures.member (c.in-Some.ensures.some c.in-Some.member refl) c.put_member.ensures refl c.perform-status.ensures
