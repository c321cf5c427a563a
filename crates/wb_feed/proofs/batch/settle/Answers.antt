use Rattle.std.proofs.Common.{rules, ◌≡◌, ◌∙◌, get_or, None}
use Rattle.wb_feed.proofs.Rows.{one_more_loses}
use Rattle.wb_feed.proofs.Drawops.{nothing}
use Rattle.wb_feed.proofs.Filing.{rest_more, rest_filed, rest_keeps}
use Rattle.wb_feed.proofs.batch.settle.Goals as goal

pub returns-in_err-take_one-clause-kept : goal.returns-in_err-take_one-clause-kept
returns-in_err-take_one-clause-kept c = one_more_loses _ _ _ _ _ c.index-arrived-i.result c.loop-i-test.true c.index-arrived-i.is (rest_keeps _ _ _ _ _ _ c.loop-i.invariant) c.take_one.ensures.kept

pub returns-clause-kept : goal.returns-clause-kept
returns-clause-kept c = rest_keeps _ _ _ _ _ _ c.loop-i.invariant

pub loop-i-preserved-in-Some : goal.loop-i-preserved-in-Some
loop-i-preserved-in-Some c = rest_filed _ _ _ _ _ _ _ _ nothing c.loop-i-test.true c.requires.filed (search rules) c.loop-i.invariant c.count.ensures

pub loop-i-preserved : goal.loop-i-preserved
loop-i-preserved c =
    let free : get_or c.args.filed.now c.loop-i.i None ≡ None = search rules in
    rest_more _ _ _ _ _ _ _ _ c.index-arrived-i.result c.loop-i-test.true c.requires.filed free c.index-arrived-i.is c.loop-i.invariant c.in_ok-take_one.ensures.ok

pub take_one-requires-clause-desk : goal.take_one-requires-clause-desk
take_one-requires-clause-desk c = (rest_keeps _ _ _ _ _ _ c.loop-i.invariant).kept.same.0 ∙ c.requires.desk
