use Rattle.std.proofs.Common.{◌≡◌, true, false, List, ◌∙◌, ap, arith, subst, sym}
use Rattle.wb_names.specs.Values.{NameValue}
use Rattle.wb_keeping.specs.Kept.{want, want_near, is_begun, is_unasked}
use Rattle.wb_keeping.specs.Performing.{DoesQuietly, IsKeptAt, Keeping, LeavesSome, sees, view_of}
use Rattle.wb_keeping.proofs.Performed.{quiet_still}
use Rattle.wb_keeping.proofs.OneByOne as rows
use Rattle.wb_keeping.proofs.LeftSome.{on_err, near_begun_later, near_failed, near_passed_later}
use Rattle.wb_keeping.proofs.kept_member.KeptMember.want_near.Goals as goal

pub returns-then-not-begun-clause-does : goal.returns-then-not-begun-clause-does
returns-then-not-begun-clause-does c =
    let names = c.args.names.now in
    let n = c.name-item.result in
    let here = subst (λ (n : NameValue). DoesQuietly (want n false) c.loop-name.self c.want.new.self) c.name-item.is c.in_ok-begun.ensures.does in
    let ended : c.in_ok-begun.begun ≡ false = grind (arith, c.if-not-begun.true) in
    c.loop-name.invariant.0 c.want.new.self (rows.near_ended names c.loop-name.name-index n (omega arith)
    (λ k at. ap (λ (m : NameValue). is_unasked (view_of k.host) m) (sym c.name-item.is) ∙ sym (c.if-not-is_unasked.ensures k at))
    (λ k at. ap (λ (m : NameValue). is_begun (want m false (sees k.host) k.policy)) (sym c.name-item.is) ∙ sym (c.in_ok-begun.ensures.begun k at) ∙ ended)
    here)

pub loop-name-preserved-then-not-is_unasked : goal.loop-name-preserved-then-not-is_unasked
loop-name-preserved-then-not-is_unasked c =
    let names = c.args.names.now in
    let known = λ (k : Keeping) (at : IsKeptAt c.loop-name.self k). ap (λ (m : NameValue). is_unasked (view_of k.host) m) (sym c.name-item.is) ∙ sym (c.if-not-is_unasked.ensures k at) in (
      λ after rest. c.loop-name.invariant.0 after (rows.near_passed names c.loop-name.name-index c.name-item.result (omega arith) known rest),
      λ after left. c.loop-name.invariant.1 after (near_passed_later names c.loop-name.name-index c.name-item.result (omega arith) known left),
    )

pub loop-name-preserved : goal.loop-name-preserved
loop-name-preserved c =
    let names = c.args.names.now in
    let n = c.name-item.result in
    let here = subst (λ (n : NameValue). DoesQuietly (want n false) c.loop-name.self c.want.new.self) c.name-item.is c.in_ok-begun.ensures.does in
    let begun : c.in_ok-begun.begun ≡ true = grind (arith, c.if-not-begun.false) in
    let unknown = λ (k : Keeping) (at : IsKeptAt c.loop-name.self k). ap (λ (m : NameValue). is_unasked (view_of k.host) m) (sym c.name-item.is) ∙ sym (c.if-not-is_unasked.ensures k at) in
    let begins = λ (k : Keeping) (at : IsKeptAt c.loop-name.self k). ap (λ (m : NameValue). is_begun (want m false (sees k.host) k.policy)) (sym c.name-item.is) ∙ sym (c.in_ok-begun.ensures.begun k at) ∙ begun in (
      λ after rest. c.loop-name.invariant.0 after (rows.near_begun names c.loop-name.name-index n (omega arith) unknown begins here rest),
      λ after left. c.loop-name.invariant.1 after (near_begun_later names c.loop-name.name-index n (omega arith) unknown begins here left),
    )

pub returns-clause-does : goal.returns-clause-does
returns-clause-does c = c.loop-name.invariant.0 c.loop-name.self (rows.at_end (λ (ns : List NameValue). DoesQuietly (want_near ns) c.loop-name.self c.loop-name.self) c.args.names.now c.loop-name.name-index (omega arith) (quiet_still c.loop-name.self))

pub returns-in_err-begun-clause-left : goal.returns-in_err-begun-clause-left
returns-in_err-begun-clause-left c = on_err _ (
    let names = c.args.names.now in
    let n = c.name-item.result in
    let here = subst (λ (n : NameValue). LeavesSome (want n false) c.loop-name.self c.want.new.self) c.name-item.is c.in_err-begun.ensures.left in
    c.loop-name.invariant.1 c.want.new.self (near_failed names c.loop-name.name-index n (omega arith)
    (λ k at. ap (λ (m : NameValue). is_unasked (view_of k.host) m) (sym c.name-item.is) ∙ sym (c.if-not-is_unasked.ensures k at)) here))
