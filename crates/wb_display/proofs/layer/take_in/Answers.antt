use Rattle.std.proofs.Common.{sym}
use Rattle.wb_display.proofs.Layers.{took_in, took_in_alone}
use Rattle.wb_display.proofs.layer.take_in.Goals as goal

pub returns-in-Some-clause-kept : goal.returns-in-Some-clause-kept
returns-in-Some-clause-kept c here new kept =
    let held = c.hold.ensures.held here new kept.held in
    (took_in c.args.words.now c.hold.new.words c.args.drawops.now.entries c.hold.new.drawops.entries c.args.drawop.now c.hold.ensures.page kept.held held.0 held.1 c.args.shown.now.items c.set_shown.new.list.items c.in-Some.affected c.is_shown.result kept.view (sym c.in-Some.ensures.affected) c.is_shown.ensures c.set_shown.ensures, held.1)

pub returns-in_default-clause-kept : goal.returns-in_default-clause-kept
returns-in_default-clause-kept c here new kept =
    let held = c.hold.ensures.held here new kept.held in
    (took_in_alone c.args.words.now c.hold.new.words c.args.drawops.now.entries c.hold.new.drawops.entries c.args.drawop.now c.hold.ensures.page kept.held held.0 held.1 c.args.shown.now.items kept.view (sym c.in_default.ensures.affected), held.1)
