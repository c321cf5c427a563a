use Rattle.std.proofs.Common.{◌≡◌, ◌∙◌, [], ap}
use Rattle.wb_policy.specs.Choices.{have_answered, soonest}
use Rattle.wb_policy.specs.Policy.{Policy}
use Rattle.wb_policy.specs.declared.limits.TheConstants.{MOST_FIRSTS}
use Rattle.wb_keeping.specs.Performing.{view_of}
use Rattle.wb_keeping.specs.Views.{is_known}
use Rattle.wb_keeping.proofs.Performed.{at_inside}
use Rattle.wb_keeping.proofs.kept_member.KeptMember.firsts.Goals as goal

pub returns : goal.returns
returns c = λ k at.
    let known = is_known (view_of k.host) in
    let from : c.echoed-from.result ≡ k.policy.echoed = c.echoed-from.ensures ∙ ap (λ (p : Policy). p.echoed) (at_inside k c.self.view_is at).policy in
    let answered : c.deref.result.now ≡ have_answered known c.args.all.now = c.deref.ensures.value ∙ c.in_ok-answered.ensures k at in
    c.in_ok-firsts.ensures ∙ (λ i. soonest [] (from i) MOST_FIRSTS (answered i))
