use Rattle.std.proofs.Common.{rules, ap, sym, subst, take, ◌≡◌, length, refl}
use mathlib.Core.List.{IsPrefix}
use Rattle.crossbeam_channel.specs.Claims.{view}
use Rattle.wb_feed.specs.declared.channel.ChannelView.{ChannelView}
use Rattle.wb_feed.specs.Inside.Filing.{Files, Settles}
use Rattle.wb_feed.specs.Inside.Working.{lost_in}
use Rattle.wb_feed.proofs.Prefixes.{take_prefix}
use Rattle.wb_feed.proofs.Rows.{loses_is}
use Rattle.wb_feed.proofs.Batching.{AllWorked, settles, kept_since}
use Rattle.wb_feed.proofs.batch.take_batch.Goals as goal

pub returns-in_err-told-clause-kept : goal.returns-in_err-told-clause-kept
returns-in_err-told-clause-kept g c =
    let same : lost_in c.from_residual.result ≡ lost_in c.run_all-told.result = search rules in
    kept_since _ _ _ _ _ _ _ c.run_all-told.result _ c.learn_all.ensures.all c.learn_all.ensures.same.view c.learn_all.new.self.sent.first same c.run_all-told.ensures.kept (loses_is _ _ _ refl)

pub returns-in_default-clause-kept : goal.returns-in_default-clause-kept
returns-in_default-clause-kept g c =
    kept_since _ _ _ _ _ _ _ c.run_all-told.result _ c.learn_all.ensures.all c.learn_all.ensures.same.view c.learn_all.new.self.sent.first (sym (ap lost_in c.in_ok-told.was)) c.run_all-told.ensures.kept (loses_is _ _ _ refl)

pub returns-in-Ok-settle-clause-kept : goal.returns-in-Ok-settle-clause-kept
returns-in-Ok-settle-clause-kept g c =
    kept_since _ _ _ _ _ _ _ c.run_all-told.result _ c.learn_all.ensures.all c.learn_all.ensures.same.view c.learn_all.new.self.sent.first (sym (ap lost_in c.in_ok-told.was)) c.run_all-told.ensures.kept (search rules)

pub returns-clause-kept : goal.returns-clause-kept
returns-clause-kept g c =
    kept_since _ _ _ _ _ _ _ c.run_all-told.result _ c.learn_all.ensures.all c.learn_all.ensures.same.view c.learn_all.new.self.sent.first (sym (ap lost_in c.in_ok-told.was)) c.run_all-told.ensures.kept (search rules)

pub returns-in-Ok-settle-clause-settled : goal.returns-in-Ok-settle-clause-settled
returns-in-Ok-settle-clause-settled g c =
    let arrived = c.learn_all.new.self.arrived.items in
    let done : AllWorked c.args.shared.workers c.args.desk.now c.run_all-told.new.root (view c.args.feeding.now.pass) (view c.run_all-told.new.feeding.pass) c.in_ok-told.told.replies.items = rw c.in_ok-told.was at c.run_all-told.ensures.ok in
    let files : Files c.in_ok-told.told.replies.items (length arrived) c.in-Ok.filed.items = search rules in
    let settled : Settles c.run_all-told.new.root c.in-Ok.filed.items arrived c.settle.new.desk c.in-Ok-settle.batch = search rules in
    let sent : IsPrefix (view c.run_all-told.new.feeding.pass).sent arrived =
    take_prefix _ _ (subst (λ (h : ChannelView). take (length h.sent) arrived ≡ h.sent) c.learn_all.ensures.same.view c.learn_all.new.self.sent.first) in
    settles _ _ _ _ _ _ _ arrived _ _ done (ap (λ (h : ChannelView). h.got) c.requires.first.0) c.learn_all.ensures.all sent files settled c.rows_left.ensures.sound
