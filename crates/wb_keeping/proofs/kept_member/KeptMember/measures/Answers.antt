use Rattle.std.proofs.Common.{◌≡◌, ◌∙◌, ap}
use Rattle.std.specs.Prelude.{Some}
use Rattle.wb_member.specs.declared.calls.Call.TheVariants.{SetDelay}
use Rattle.wb_keeping.specs.Kept.{performs, measures, Calls}
use Rattle.wb_keeping.specs.Performing.{KeptValue, sees}
use Rattle.wb_policy.specs.Policy.{after_echo}
use Rattle.wb_keeping.proofs.Performed.{at_inside, quiet_by}
use Rattle.wb_keeping.proofs.Wanted as wanted
use Rattle.wb_keeping.proofs.kept_member.KeptMember.measures.Goals as goal

pub returns-clause-does : goal.returns-clause-does
returns-clause-does c =
    let told : Some c.in-Some.micros ≡ c.args.delay = cc in
    let line = performs (Calls (SetDelay c.args.sender c.measure-near.result)) in
    quiet_by (measures c.args.sender c.args.delay) line
    (λ k at. (
      after_echo c.in-Some.micros k.policy,
      c.measure-near.ensures.usual ∙ ap (after_echo c.in-Some.micros) (at_inside k c.self.view_is at).policy,
      wanted.measured c.args.sender c.args.delay c.in-Some.micros c.measure-near.result (sees k.host) k.policy told c.measure-near.ensures.bounded c.if-near-micros.false,
    ))
    (ap (λ (v : KeptValue). v.member) c.self.view_is) c.in_ok-set_delay.ensures.does
