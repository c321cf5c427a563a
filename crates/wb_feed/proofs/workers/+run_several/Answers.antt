use Rattle.std.proofs.Common.{rules, arith, ◌≡◌, ◌-◌, ◌*◌, suc, Err, refl, ap, subst}
use Rattle.crossbeam_channel.specs.Claims.{view}
use Rattle.wb_board.specs.Desks.{PassValue, IsSplit}
use Rattle.wb_feed.specs.declared.workers.WorkFault.TheVariants.{Start}
use Rattle.wb_feed.specs.declared.channel.ChannelView.{ChannelView}
use Rattle.wb_feed.specs.Inside.Serving.{Served}
use Rattle.wb_feed.proofs.Rows.{loses_is}
use Rattle.wb_feed.proofs.TakingBack.{kept_whole, several_kept, several_fed, several_worked, nobody_all, refused_back, fed_none}
use Rattle.wb_feed.proofs.workers.+run_several.Goals as goal

pub returns-then-left-eq0-clause-kept : goal.returns-then-left-eq0-clause-kept
returns-then-left-eq0-clause-kept g t c = kept_whole _ _ _ _ _ c.feed_all.ensures.every_row (loses_is _ _ _ refl)

pub returns-in-Err-Memory-clause-kept : goal.returns-in-Err-Memory-clause-kept
returns-in-Err-Memory-clause-kept g t c = kept_whole _ _ _ _ _ refl (loses_is _ _ _ c.in-Err-Memory.ensures.parts.0)

pub returns-then-left-eq0-clause-ok : goal.returns-then-left-eq0-clause-ok
returns-then-left-eq0-clause-ok g t c = nobody_all _ _ _ _ _ _ c.if-left-eq0.true c.feed_all.ensures.same.1 c.feed_all.ensures.none

pub returns-in-Ok-spawn_with-clause-kept : goal.returns-in-Ok-spawn_with-clause-kept
returns-in-Ok-spawn_with-clause-kept g t c =
    let parts : IsSplit c.args.root.now c.args.rows c.split.new.desk c.in-Ok.desk = c.in-Ok.ensures.parts in
    let same : c.in-Ok-spawn_with.child.promise.desk.value ≡ c.in-Ok.desk = search rules in
    let served : Served c.in-Ok.desk c.join.result.desk (view c.join.result.pass) c.join.result.told.replies.items c.join.result.failed =
    subst (λ (v : PassValue). Served v c.join.result.desk (view c.join.result.pass) c.join.result.told.replies.items c.join.result.failed) same c.join.ensures.1 in
    let next : c.args.left ≡ suc (c.args.left - 1) = omega (arith, c.if-left-eq0.false) in
    several_kept c.args.rows (c.args.left - 1) c.args.left _ _ _ _ c.in-Ok.desk c.join.result (view c.join.result.pass) _ _ next (ap (λ (v : ChannelView). v.got) c.take_back.ensures.pass.view) parts served
    c.run_several-others.result c.take_back.result c.run_several-others.ensures.kept c.take_back.ensures.back

pub returns-in-Ok-spawn_with-clause-ok : goal.returns-in-Ok-spawn_with-clause-ok
returns-in-Ok-spawn_with-clause-ok g t c =
    let parts : IsSplit c.args.root.now c.args.rows c.split.new.desk c.in-Ok.desk = c.in-Ok.ensures.parts in
    let same : c.in-Ok-spawn_with.child.promise.desk.value ≡ c.in-Ok.desk = search rules in
    let served : Served c.in-Ok.desk c.join.result.desk (view c.join.result.pass) c.join.result.told.replies.items c.join.result.failed =
    subst (λ (v : PassValue). Served v c.join.result.desk (view c.join.result.pass) c.join.result.told.replies.items c.join.result.failed) same c.join.ensures.1 in
    let next : c.args.left ≡ suc (c.args.left - 1) = omega (arith, c.if-left-eq0.false) in
    several_worked c.args.rows (c.args.left - 1) c.args.left _ _ _ _ c.in-Ok.desk c.join.result c.args.feeding.now c.cut-theirs.new.self c.run_several-others.new.feeding c.take_back.new.feeding c.run_several-others.result c.take_back.result next parts
    c.cut-theirs.ensures.left served c.run_several-others.ensures.ok c.take_back.ensures.pass c.take_back.ensures.back

pub returns-in-Err-clause-kept : goal.returns-in-Err-clause-kept
returns-in-Err-clause-kept g t c =
    let parts : IsSplit c.args.root.now c.args.rows c.split.new.desk c.in-Ok.desk = c.in-Ok.ensures.parts in
    let served : Served c.in-Ok.desk c.work.result.desk (view c.work.result.pass) c.work.result.told.replies.items c.work.result.failed = search rules in
    let next : c.args.left ≡ suc (c.args.left - 1) = omega (arith, c.if-left-eq0.false) in
    several_kept c.args.rows (c.args.left - 1) c.args.left _ c.split.new.desk c.split.new.desk _ c.in-Ok.desk c.work.result (view c.work.result.pass) (view c.end_all-in-Err.new.self.pass).got _ next (ap (λ (v : ChannelView). v.got) c.take_back-in-Err.ensures.pass.view) parts served
    (Err Start) c.take_back-in-Err.result (kept_whole (c.args.rows * (c.args.left - 1)) _ c.split.new.desk c.split.new.desk (Err Start) refl (loses_is _ c.split.new.desk c.split.new.desk refl)) c.take_back-in-Err.ensures.back

pub returns-in-Err-clause-fed : goal.returns-in-Err-clause-fed
returns-in-Err-clause-fed g t c =
    several_fed _ _ _ _ _ _ _ _ _ _ _ _ _ c.args.rows c.work.result (Err Start) _ c.cut-theirs.ensures.left
    (fed_none _ _ _ _ _ _ _ c.end_all-in-Err.ensures.channel (ap (λ d. d.items) c.end_all-in-Err.ensures.arrived) (g.met.S.Arrivals.gives_none _) tt)
    c.take_back-in-Err.ensures.pass c.take_back-in-Err.ensures.back

pub returns-in-Err-clause-ok : goal.returns-in-Err-clause-ok
returns-in-Err-clause-ok g t c = refused_back _ _ c.args.rows c.work.result _ Start _ c.take_back-in-Err.ensures.back
