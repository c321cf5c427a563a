use Rattle.std.proofs.Common.{Bool, cond, ◌∙◌, ap, sym}
use Rattle.wb_keeping.specs.Kept.{still, end, ends_full}
use Rattle.wb_keeping.specs.Performing.{DoesQuietly, sees}
use Rattle.wb_keeping.proofs.Performed.{at_inside, quiet_as}
use Rattle.wb_keeping.proofs.kept_member.KeptMember.end_where_full.Goals as goal

pub returns-in_ok-end-clause-does : goal.returns-in_ok-end-clause-does
returns-in_ok-end-clause-does c =
    let did : DoesQuietly end c.args.self.now c.end.new.self = c.in_ok-end.ensures.does in
    quiet_as ends_full end (λ k at. ap (λ (b : Bool). cond b (end (sees k.host) k.policy) (still (sees k.host) k.policy)) (sym (c.is_full.ensures k.host (at_inside k c.self.view_is at).member) ∙ c.if-is_full.true)) did
