use Rattle.std.proofs.Common.{◌≡◌, ◌∙◌, ap, subst, sym}
use Rattle.wb_keeping.specs.Kept.{and_then, end, learned, paid_for, turn_if, want_near}
use Rattle.wb_keeping.specs.Performing.{IsKeptAt, Keeping, KeptValue, sees, view_of}
use Rattle.wb_keeping.specs.Steps.{AreNear}
use Rattle.wb_policy.specs.Policy.{Policy}
use Rattle.wb_keeping.proofs.Performed.{at_inside, quiet_as, quiet_by, quiet_then}
use Rattle.wb_keeping.proofs.LeftSome.{on_err, left_by, left_first, left_later}
use Rattle.wb_keeping.proofs.Wanted as wanted
use Rattle.wb_keeping.proofs.kept_member.KeptMember.learned.Goals as goal
use Rattle.wb_keeping.proofs.kept_member.KeptMember.learned.Goals.{After-want_near}

pub returns-then-is_full-clause-does : goal.returns-then-is_full-clause-does
returns-then-is_full-clause-does c = quiet_as (learned c.args.name.now c.args.was_asked) end (λ k at. wanted.learned_full c.args.name.now c.args.was_asked (sees k.host) k.policy (sym (c.is_full.ensures k.host (at_inside k c.self.view_is at).member) ∙ c.if-is_full.true)) c.in_ok-end.ensures.does

-- with room for more it does the rest, from the policy that was paid
rest : (c : After-want_near) (k : Keeping) → IsKeptAt c.args.self.now k
    → (p : Policy) × (c.pay.new.self.policy ≡ p) × (learned c.args.name.now c.args.was_asked (sees k.host) k.policy ≡ and_then (want_near c.deref.result.now) (turn_if c.args.was_asked) (sees k.host) p)
rest c k at =
    let was = c.args.was_asked in (
      paid_for was k.policy,
      c.pay.ensures.policy ∙ ap (λ (v : KeptValue). paid_for was v.policy) c.near.ensures.same ∙ ap (paid_for was) at.policy,
      wanted.learns c.args.name.now was c.deref.result.now (sees k.host) k.policy (sym (c.is_full.ensures k.host (at_inside k c.self.view_is at).member) ∙ c.if-is_full.false)
          (subst (AreNear (view_of k.host) c.args.name.now) (sym c.deref.ensures.value) (c.in_ok-near.ensures.near k at)),
    )

stays : (c : After-want_near) → c.pay.new.self.member ≡ c.args.self.now.member
stays c = c.pay.ensures.member ∙ ap (λ (v : KeptValue). v.member) c.near.ensures.same

pub returns-clause-does : goal.returns-clause-does
returns-clause-does c =
    let here = (goal.at.returns-clause-does c).After-want_near in
    let one = want_near c.deref.result.now in
    let two = turn_if c.args.was_asked in
    quiet_by (learned c.args.name.now c.args.was_asked) (and_then one two) (rest here) (stays here) (quiet_then one two c.in_ok-want_near.ensures.does c.in_ok-turn_if.ensures.does)

pub returns-in_err-want_near-clause-left : goal.returns-in_err-want_near-clause-left
returns-in_err-want_near-clause-left c = on_err _ (
    let here = (goal.at.returns-in_err-want_near-clause-left c).After-want_near in
    let one = want_near c.deref.result.now in
    let two = turn_if c.args.was_asked in
    left_by (learned c.args.name.now c.args.was_asked) (and_then one two) (rest here) (stays here) (left_first one two c.in_err-want_near.ensures.left))

pub returns-in_err-turn_if-clause-left : goal.returns-in_err-turn_if-clause-left
returns-in_err-turn_if-clause-left c = on_err _ (
    let here = (goal.at.returns-in_err-turn_if-clause-left c).After-want_near in
    let one = want_near c.deref.result.now in
    let two = turn_if c.args.was_asked in
    left_by (learned c.args.name.now c.args.was_asked) (and_then one two) (rest here) (stays here) (left_later one two c.in_ok-want_near.ensures.does c.in_err-turn_if.ensures.left))
