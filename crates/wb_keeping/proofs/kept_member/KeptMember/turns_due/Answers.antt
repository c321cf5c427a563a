use Rattle.std.proofs.Common.{◌≡◌, ℕ, Bool, true, cond, ◌∙◌, ap, sym}
use Rattle.std.specs.Prelude.{nat_le}
use Rattle.wb_keeping.specs.Kept.{still, turn, turn_by_clock, turns_due}
use Rattle.wb_keeping.specs.Performing.{KeptValue, sees}
use Rattle.wb_policy.specs.Policy.{Policy, after_beat}
use Rattle.wb_keeping.proofs.Performed.{at_inside, quiet_by}
use Rattle.wb_keeping.proofs.LeftSome.{on_err, left_by}
use Rattle.wb_member.specs.Opened.{present}
use Rattle.wb_keeping.proofs.kept_member.KeptMember.turns_due.Goals as goal

pub returns-clause-does : goal.returns-clause-does
returns-clause-does c = quiet_by turns_due turn
    (λ k at.
    let inside = at_inside k c.self.view_is at in
    let now : c.moment-now.result ≡ present k.host = c.moment-now.ensures.moment k.host inside.member in
    let due : nat_le k.policy.pace.due (present k.host) ≡ true = ap (λ (p : Policy). nat_le p.pace.due (present k.host)) (sym inside.policy) ∙ ap (nat_le c.self.inside.policy.pace.due) (sym now) ∙ sym c.if-not-is_turn.ensures in (
      after_beat (present k.host) k.policy,
      c.beat.ensures.after ∙ ap (after_beat c.moment-now.result) inside.policy ∙ ap (λ (now : ℕ). after_beat now k.policy) now,
      ap (λ (b : Bool). cond b (turn_by_clock (sees k.host) k.policy) (still (sees k.host) k.policy)) due,
    ))
    (ap (λ (v : KeptValue). v.member) c.self.view_is) c.in_ok-turn.ensures.does

pub returns-in_err-turn-clause-left : goal.returns-in_err-turn-clause-left
returns-in_err-turn-clause-left c = on_err _ (left_by turns_due turn
    (λ k at.
    let inside = at_inside k c.self.view_is at in
    let now : c.moment-now.result ≡ present k.host = c.moment-now.ensures.moment k.host inside.member in
    let due : nat_le k.policy.pace.due (present k.host) ≡ true = ap (λ (p : Policy). nat_le p.pace.due (present k.host)) (sym inside.policy) ∙ ap (nat_le c.self.inside.policy.pace.due) (sym now) ∙ sym c.if-not-is_turn.ensures in (
      after_beat (present k.host) k.policy,
      c.beat.ensures.after ∙ ap (after_beat c.moment-now.result) inside.policy ∙ ap (λ (now : ℕ). after_beat now k.policy) now,
      ap (λ (b : Bool). cond b (turn_by_clock (sees k.host) k.policy) (still (sees k.host) k.policy)) due,
    ))
    (ap (λ (v : KeptValue). v.member) c.self.view_is) c.in_err-turn.ensures.left)
