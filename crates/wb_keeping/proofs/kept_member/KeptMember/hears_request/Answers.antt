use Rattle.std.proofs.Common.{◌≡◌, ◌∙◌, sym}
use Rattle.wb_codec.specs.declared.datagram.Datagram.TheVariants.{Request}
use Rattle.wb_member.specs.declared.calls.Call.TheVariants.{Hear}
use Rattle.wb_keeping.specs.Kept.{Calls, hears_request, of_other}
use Rattle.wb_keeping.specs.Performing.{IsKeptAt, Keeping, sees}
use Rattle.wb_keeping.specs.Steps.{lends_for}
use Rattle.wb_keeping.proofs.LeftSome.{left_as, on_err}
use Rattle.wb_keeping.proofs.Lending.{heard_so}
use Rattle.wb_keeping.proofs.Performed.{at_inside, quiet_as}
use Rattle.std.proofs.lemmas.Bool.{ne_eqb}
use Rattle.wb_keeping.proofs.kept_member.KeptMember.hears_request.Goals as goal
use Rattle.wb_keeping.proofs.kept_member.KeptMember.hears_request.Goals.{After-hear_by}

hearing : (c : After-hear_by) (k : Keeping) → IsKeptAt c.args.self.now k
    → of_other c.args.asker (hears_request c.args.asker c.args.name) (sees k.host) k.policy
    ≡ lends_for c.answered_to-source.result c.lent_to-lent.result (Calls (Hear (Request c.args.asker c.args.name))) (sees k.host) k.policy
hearing c k at =
    let me : c.me.result ≡ k.host.is.number = c.me.ensures k.host (at_inside k c.self.view_is at).member in
    heard_so c.args.asker c.answered_to-source.result c.args.name c.lent_to-lent.result k (ne_eqb c.args.asker k.host.is.number (λ e. c.if-asker-me.false (e ∙ sym me)))
    (c.answered_to-source.ensures k at) (c.lent_to-lent.ensures.lent k at)

pub returns-clause-does : goal.returns-clause-does
returns-clause-does c =
    let here = (goal.at.returns-clause-does c).After-hear_by in
    quiet_as (of_other c.args.asker (hears_request c.args.asker c.args.name)) (lends_for c.answered_to-source.result c.lent_to-lent.result (Calls (Hear (Request c.args.asker c.args.name)))) (hearing here) c.in_ok-hear_by.ensures.does

pub returns-in_err-hear_by-clause-left : goal.returns-in_err-hear_by-clause-left
returns-in_err-hear_by-clause-left c = on_err _ (
    let here = (goal.at.returns-in_err-hear_by-clause-left c).After-hear_by in
    left_as (of_other c.args.asker (hears_request c.args.asker c.args.name)) (lends_for c.answered_to-source.result c.lent_to-lent.result (Calls (Hear (Request c.args.asker c.args.name)))) (hearing here) c.in_err-hear_by.ensures.left)
