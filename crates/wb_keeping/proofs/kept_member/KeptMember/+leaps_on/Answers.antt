use Rattle.std.proofs.Common.{◌≡◌, ◌-◌, ℕ, suc, true, false, ◌∙◌, ap, arith, sym}
use Rattle.wb_keeping.specs.Kept.{and_then, still, leap, leaps_on}
use Rattle.wb_keeping.specs.Performing.{sees}
use Rattle.wb_keeping.proofs.Performed.{quiet_as, quiet_still, quiet_then}
use Rattle.wb_keeping.proofs.LeftSome.{on_err, left_leap, left_leaps}
use Rattle.wb_keeping.proofs.Wanted as wanted
use Rattle.wb_keeping.proofs.kept_member.KeptMember.+leaps_on.Goals as goal

pub returns-then-most-eq0-clause-does : goal.returns-then-most-eq0-clause-does
returns-then-most-eq0-clause-does t c =
    let none : c.args.most ≡ 0 = omega (arith, c.if-most-eq0.true) in
    quiet_as (leaps_on c.args.most) still (λ k at. ap (λ (most : ℕ). leaps_on most (sees k.host) k.policy) none ∙ wanted.no_leaps (sees k.host) k.policy) (quiet_still _)

pub returns-in_err-begun-clause-left : goal.returns-in_err-begun-clause-left
returns-in_err-begun-clause-left t c =
    let next : c.args.most ≡ suc (c.args.most - 1) = omega (arith, c.if-most-eq0.false) in
    on_err _ (left_leap (c.args.most - 1) c.args.most next c.in_err-begun.ensures.left)

pub returns-then-begun-clause-does : goal.returns-then-begun-clause-does
returns-then-begun-clause-does t c =
    let next : c.args.most ≡ suc (c.args.most - 1) = omega (arith, c.if-most-eq0.false) in
    let begun : c.in_ok-begun.begun ≡ true = c.if-begun.true in
    quiet_as (leaps_on c.args.most) leap
    (λ k at. ap (λ (most : ℕ). leaps_on most (sees k.host) k.policy) next ∙ wanted.leaps_end (c.args.most - 1) (sees k.host) k.policy (sym (c.in_ok-begun.ensures.begun k at) ∙ begun))
    c.in_ok-begun.ensures.does

pub returns-in_err-leaps_on-clause-left : goal.returns-in_err-leaps_on-clause-left
returns-in_err-leaps_on-clause-left t c =
    let next : c.args.most ≡ suc (c.args.most - 1) = omega (arith, c.if-most-eq0.false) in
    let begun : c.in_ok-begun.begun ≡ false = c.if-begun.false in
    on_err _ (left_leaps (c.args.most - 1) c.args.most next (λ k at. sym (c.in_ok-begun.ensures.begun k at) ∙ begun) c.in_ok-begun.ensures.does c.in_err-leaps_on.ensures.left)

pub returns-clause-does : goal.returns-clause-does
returns-clause-does t c =
    let next : c.args.most ≡ suc (c.args.most - 1) = omega (arith, c.if-most-eq0.false) in
    let begun : c.in_ok-begun.begun ≡ false = c.if-begun.false in
    quiet_as (leaps_on c.args.most) (and_then leap (leaps_on (c.args.most - 1)))
    (λ k at. ap (λ (most : ℕ). leaps_on most (sees k.host) k.policy) next ∙ wanted.leaps_go_on (c.args.most - 1) (sees k.host) k.policy (sym (c.in_ok-begun.ensures.begun k at) ∙ begun))
    (quiet_then leap (leaps_on (c.args.most - 1)) c.in_ok-begun.ensures.does c.in_ok-leaps_on.ensures.does)
