use Rattle.std.proofs.Common.{◌≡◌, ◌∙◌, Bool, ap, cond, refl, subst, sym}
use Rattle.wb_names.specs.Values.{NameValue}
use Rattle.wb_codec.specs.declared.datagram.Datagram.TheVariants.{Draw}
use Rattle.wb_member.specs.Holding.{IsOpenAt, MemberValue}
use Rattle.wb_keeping.specs.Kept.{Says, draws, drew, performs}
use Rattle.wb_keeping.specs.Performing.{IsKeptAt, Keeping, sees, view_of}
use Rattle.wb_keeping.specs.Views.{is_asked}
use Rattle.wb_keeping.proofs.Performed.{does_by}
use Rattle.wb_keeping.proofs.LeftSome.{left_by, on_err}
use Rattle.wb_policy.specs.Policy.{Policy, after_drawing}
use Rattle.wb_keeping.proofs.kept_member.KeptMember.take_drawing.Goals as goal
use Rattle.wb_keeping.proofs.kept_member.KeptMember.take_drawing.Goals.{After-draw}

-- it says the drawing, from the policy that was paid
paid : (c : After-draw) (k : Keeping) → IsKeptAt c.args.self.now k
    → (p : Policy) × (c.pay_drawing.new.self.policy ≡ p) × (draws c.args.drawop.now (sees k.host) k.policy ≡ performs (Says (Draw c.args.drawop.now)) (sees k.host) p)
paid c k at = (
  drew c.args.drawop.now (view_of k.host) k.policy,
  c.pay_drawing.ensures.policy
      ∙ ap (λ (p : Policy). cond c.is_asked-was_asked.result (after_drawing p) p) at.policy
      ∙ ap (λ (b : Bool). cond b (after_drawing k.policy) k.policy) (c.is_asked-was_asked.ensures k at)
      ∙ ap (λ (n : NameValue). cond (is_asked (view_of k.host) n) (after_drawing k.policy) k.policy) c.name.ensures,
  refl,
)

pub returns-clause-became : goal.returns-clause-became
returns-clause-became c = λ k at.
    let p = paid (goal.at.returns-clause-became c).After-draw k at in
    c.in_ok-reply.ensures.became (record { host = k.host; policy = p.0 }) (record { member = subst (λ (m : MemberValue). IsOpenAt m k.host) (sym c.pay_drawing.ensures.member) at.member; policy = p.1 })

pub returns-clause-does : goal.returns-clause-does
returns-clause-does c =
    let here = (goal.at.returns-clause-does c).After-draw in
    does_by (draws c.args.drawop.now) (performs (Says (Draw c.args.drawop.now))) (paid here) c.pay_drawing.ensures.member c.in_ok-reply.ensures.does

pub returns-in_err-reply-clause-left : goal.returns-in_err-reply-clause-left
returns-in_err-reply-clause-left c = on_err _ (
    let here = (goal.at.returns-in_err-reply-clause-left c).After-draw in
    left_by (draws c.args.drawop.now) (performs (Says (Draw c.args.drawop.now))) (paid here) c.pay_drawing.ensures.member c.in_err-reply.ensures.left)
