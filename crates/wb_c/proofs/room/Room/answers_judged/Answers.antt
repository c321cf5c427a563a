use Rattle.std.proofs.Common.{refl, ap, ◌∙◌}
use Rattle.wb_dialog.specs.Doing.{DialogValue, judged_in, with_member}
use Rattle.wb_judging.specs.Performing.{JudgedValue}
use Rattle.wb_c.specs.Performing.{Answers}
use Rattle.wb_c.proofs.Served.{at_not_own, own_did}
use Rattle.wb_c.specs.declared.room.Room.{Room as RoomValue}
use Rattle.wb_c.proofs.room.Room.answers_judged.Goals as goal

pub returns-in_default : goal.returns-in_default
returns-in_default c =
    let room : RoomValue = c.args.self.now in
    let after : RoomValue = record { dialog = c.take_member.new.self; block = room.block; events = room.events } in
    at_not_own (Answers c.args.query) room after 7 (judged_in room.dialog.host) c.in_default.ensures.member (refl, ap (λ (d : DialogValue). record { dialog = d; block = room.block; events = room.events }) (c.in_default.ensures.none refl))

pub returns : goal.returns
returns c =
    let room : RoomValue = c.args.self.now in
    let after : RoomValue = record { dialog = c.put_member.new.self; block = room.block; events = c.ask-status.new.events } in
    own_did (Answers c.args.query) room after c.ask-status.result c.take_member.new.self c.in-Some.member c.into_parts-kept.result.0 c.ask-status.new.kept c.into_parts-kept.result.1 c.into_parts-kept.ensures.kept c.into_parts-kept.ensures.judge c.in-Some.ensures.member (c.in-Some.ensures.some c.in-Some.member refl)
    (c.put_member.ensures ∙ ap (λ (m : JudgedValue). with_member m c.take_member.new.self) c.of_parts.ensures) refl c.ask-status.ensures
