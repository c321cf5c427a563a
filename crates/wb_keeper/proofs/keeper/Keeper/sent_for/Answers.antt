use Rattle.std.proofs.Common.{◌∙◌, sym, ap}
use Rattle.std.specs.Option.{option_map}
use Rattle.wb_names.specs.Values.{DrawopValue}
use Rattle.wb_codec.specs.declared.datagram.Datagram.{Datagram}
use Rattle.wb_codec.specs.declared.datagram.Datagram.TheVariants.{Draw}
use Rattle.wb_keeper.specs.Ticks.{sent_for}
use Rattle.wb_keeper.proofs.FoundDrawops.{found_member, found_none}
use Rattle.wb_keeper.proofs.keeper.Keeper.sent_for.Goals as goal

pub returns-in-Some : goal.returns-in-Some
returns-in-Some c =
    let seen = c.args.desk.now.seen in
    sym (ap (sent_for c.args.self.now.me seen) c.in-Answer.is ∙ ap (option_map {T = DrawopValue} {U = Datagram} Draw) (found_member seen c.in-Answer.name c.in-Some.drawop.now c.requires.history c.in-Some.ensures.0 c.in-Some.ensures.1))

pub returns-in-None : goal.returns-in-None
returns-in-None c =
    let seen = c.args.desk.now.seen in
    sym (ap (sent_for c.args.self.now.me seen) c.in-Answer.is ∙ ap (option_map {T = DrawopValue} {U = Datagram} Draw) (found_none seen c.in-Answer.name c.in-None.ensures))
