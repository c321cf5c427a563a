use Rattle.std.proofs.Common.{true, ◌∙◌, ap, sym}
use Rattle.wb_names.specs.Values.{NameValue}
use Rattle.wb_policy.specs.Turns.{name_in}
use Rattle.wb_policy.specs.Policy.{Policy, after_turn}
use Rattle.wb_keeping.specs.Kept.{want}
use Rattle.wb_keeping.specs.Performing.{KeptValue, sees}
use Rattle.wb_keeping.specs.Steps.{want_in}
use Rattle.wb_keeping.proofs.Performed.{at_inside}
use Rattle.wb_keeping.proofs.LeftSome.{begins_by}
use Rattle.wb_keeping.proofs.kept_member.KeptMember.want_in.Goals as goal

pub returns : goal.returns
returns c = λ counted filled.
    let hole = c.args.hole in
    begins_by (want_in hole) (want c.take_turn-name.result true)
    (λ k at.
    let policy = (at_inside k c.self.view_is at).policy in (
      after_turn hole k.policy,
      c.take_turn-name.ensures.turn ∙ ap (after_turn hole) policy,
      ap (λ (n : NameValue). want n true (sees k.host) (after_turn hole k.policy)) (sym (c.take_turn-name.ensures.name ∙ ap (λ (p : Policy). name_in p.turns hole) policy)),
    ))
    (ap (λ (v : KeptValue). v.member) c.self.view_is) c.want.result (record { begun = c.want.ensures.begun; does = c.want.ensures.does; left = c.want.ensures.left })
