use Rattle.wb_display.proofs.NameIndex.{index_more, stands_once, stands_twice}
use Rattle.wb_display.proofs.view.is_history.Goals as goal

pub loop-drawop-preserved : goal.loop-drawop-preserved
loop-drawop-preserved c = record {
  once = stands_once c.args.list.now _ c.drawop-item.result c.name.result _ c.in_ok-insert.field-0 c.loop-drawop-test.true c.drawop-item.is c.name.ensures c.loop-drawop.invariant.names c.in_ok-insert.ensures.added c.if-not-branch.false c.loop-drawop.invariant.once;
  names = index_more c.args.list.now _ c.drawop-item.result c.name.result _ c.in_ok-insert.field-0 c.loop-drawop-test.true c.drawop-item.is c.name.ensures c.loop-drawop.invariant.names c.in_ok-insert.ensures.added c.if-not-branch.false _ c.in_ok-insert.ensures.keys;
}

pub returns-then-not-branch : goal.returns-then-not-branch
returns-then-not-branch c = ((λ e. cc), (λ names. absurd (stands_twice c.args.list.now _ c.drawop-item.result c.name.result _ c.in_ok-insert.field-0 c.loop-drawop-test.true c.drawop-item.is c.name.ensures c.loop-drawop.invariant.names c.in_ok-insert.ensures.added c.if-not-branch.true names)))
