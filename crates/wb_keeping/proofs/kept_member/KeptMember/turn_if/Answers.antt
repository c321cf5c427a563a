use Rattle.std.proofs.Common.{Bool, cond, ap}
use Rattle.wb_keeping.specs.Kept.{and_then, leaps_on, still, turn_if, turns_past}
use Rattle.wb_keeping.specs.Performing.{sees}
use Rattle.wb_keeping.proofs.Performed.{quiet_as, quiet_then}
use Rattle.wb_keeping.proofs.LeftSome.{on_err, left_as, left_first, left_later}
use Rattle.wb_keeping.proofs.kept_member.KeptMember.turn_if.Goals as goal

pub returns-clause-does : goal.returns-clause-does
returns-clause-does c =
    quiet_as (turn_if c.args.was_asked) (and_then (leaps_on 65) turns_past) (λ k at. ap (λ (b : Bool). cond b (and_then (leaps_on 65) turns_past (sees k.host) k.policy) (still (sees k.host) k.policy)) c.if-not-was_asked.false)
    (quiet_then (leaps_on 65) turns_past c.in_ok-leaps_on.ensures.does c.in_ok-turns_past.ensures.does)

pub returns-in_err-leaps_on-clause-left : goal.returns-in_err-leaps_on-clause-left
returns-in_err-leaps_on-clause-left c = on_err _ (
    left_as (turn_if c.args.was_asked) (and_then (leaps_on 65) turns_past) (λ k at. ap (λ (b : Bool). cond b (and_then (leaps_on 65) turns_past (sees k.host) k.policy) (still (sees k.host) k.policy)) c.if-not-was_asked.false)
    (left_first (leaps_on 65) turns_past c.in_err-leaps_on.ensures.left))

pub returns-in_err-turns_past-clause-left : goal.returns-in_err-turns_past-clause-left
returns-in_err-turns_past-clause-left c = on_err _ (
    left_as (turn_if c.args.was_asked) (and_then (leaps_on 65) turns_past) (λ k at. ap (λ (b : Bool). cond b (and_then (leaps_on 65) turns_past (sees k.host) k.policy) (still (sees k.host) k.policy)) c.if-not-was_asked.false)
    (left_later (leaps_on 65) turns_past c.in_ok-leaps_on.ensures.does c.in_err-turns_past.ensures.left))
