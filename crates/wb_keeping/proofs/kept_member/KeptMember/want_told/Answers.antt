use Rattle.std.proofs.Common.{true, List, arith, subst}
use Rattle.wb_names.specs.Values.{NameValue}
use Rattle.wb_keeping.specs.Kept.{want, want_told}
use Rattle.wb_keeping.specs.Performing.{DoesQuietly, LeavesSome}
use Rattle.wb_keeping.proofs.Performed.{quiet_still}
use Rattle.wb_keeping.proofs.OneByOne as rows
use Rattle.wb_keeping.proofs.LeftSome.{on_err, told_failed, told_later}
use Rattle.wb_keeping.proofs.kept_member.KeptMember.want_told.Goals as goal

pub loop-name-preserved : goal.loop-name-preserved
loop-name-preserved c =
    let names = c.args.names.now in
    let here = subst (λ (n : NameValue). DoesQuietly (want n true) c.loop-name.self c.want.new.self) c.name-item.is c.in_ok-want.ensures.does in (
      λ after rest. c.loop-name.invariant.0 after (rows.told_next names c.loop-name.name-index c.name-item.result (omega arith) here rest),
      λ after left. c.loop-name.invariant.1 after (told_later names c.loop-name.name-index c.name-item.result (omega arith) here left),
    )

pub returns-clause-does : goal.returns-clause-does
returns-clause-does c = c.loop-name.invariant.0 c.loop-name.self (rows.at_end (λ (ns : List NameValue). DoesQuietly (want_told ns) c.loop-name.self c.loop-name.self) c.args.names.now c.loop-name.name-index (omega arith) (quiet_still c.loop-name.self))

pub returns-in_err-want-clause-left : goal.returns-in_err-want-clause-left
returns-in_err-want-clause-left c = on_err _ (
    let names = c.args.names.now in
    let here = subst (λ (n : NameValue). LeavesSome (want n true) c.loop-name.self c.want.new.self) c.name-item.is c.in_err-want.ensures.left in
    c.loop-name.invariant.1 c.want.new.self (told_failed names c.loop-name.name-index c.name-item.result (omega arith) here))
