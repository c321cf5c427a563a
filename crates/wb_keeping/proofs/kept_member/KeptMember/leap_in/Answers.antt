use Rattle.std.proofs.Common.{true, ◌∙◌, ap, sym}
use Rattle.wb_names.specs.Values.{NameValue}
use Rattle.wb_policy.specs.Leaps.{far_name}
use Rattle.wb_policy.specs.Policy.{Policy, after_leaping}
use Rattle.wb_keeping.specs.Kept.{want}
use Rattle.wb_keeping.specs.Performing.{KeptValue, sees}
use Rattle.wb_keeping.specs.Steps.{leap_in}
use Rattle.wb_keeping.proofs.Performed.{at_inside}
use Rattle.wb_keeping.proofs.LeftSome.{begins_by}
use Rattle.wb_keeping.proofs.kept_member.KeptMember.leap_in.Goals as goal

pub returns : goal.returns
returns c = λ counted filled.
    let hole = c.args.hole in
    begins_by (leap_in hole) (want c.leap-name.result true)
    (λ k at.
    let policy = (at_inside k c.self.view_is at).policy in (
      after_leaping hole k.policy,
      c.leap-name.ensures.turn ∙ ap (after_leaping hole) policy,
      ap (λ (n : NameValue). want n true (sees k.host) (after_leaping hole k.policy)) (sym (c.leap-name.ensures.name ∙ ap (λ (p : Policy). far_name p.leaps hole) policy)),
    ))
    (ap (λ (v : KeptValue). v.member) c.self.view_is) c.want.result (record { begun = c.want.ensures.begun; does = c.want.ensures.does; left = c.want.ensures.left })
