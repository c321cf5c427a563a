use Rattle.std.proofs.Common.{rules, ◌≡◌, None, Some}
use Rattle.wb_lines.specs.Progress.{reached}
use Rattle.wb_script.proofs.Reading.{first_arrives, next_arrives}
use Rattle.wb_script.proofs.arriving.next_arrival.Goals as goal

pub returns-in-Some : goal.returns-in-Some
returns-in-Some g c =
    let is : c.args.first.now ≡ Some c.in-Some.drawop = search rules in
    let none : c.take.new.self ≡ None = search rules in
    first_arrives (reached g.R.Source g.W.Sink c.args.progress.now c.args.source.now c.args.sink.now) c.args.first.now c.take.new.self c.in-Some.drawop is none

pub returns-in-None : goal.returns-in-None
returns-in-None g c =
    let none : c.args.first.now ≡ None = search rules in
    let none' : c.take.new.self ≡ None = search rules in
    next_arrives (reached g.R.Source g.W.Sink c.args.progress.now c.args.source.now c.args.sink.now)
    (reached g.R.Source g.W.Sink c.read_on.new.progress c.read_on.new.source c.read_on.new.sink) c.args.first.now c.take.new.self c.read_on.result none none' c.read_on.ensures
