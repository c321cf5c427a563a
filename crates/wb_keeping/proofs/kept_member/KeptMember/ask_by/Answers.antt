use Rattle.std.proofs.Common.{ℕ, ap, subst}
use Rattle.wb_member.specs.declared.calls.Call.TheVariants.{Ask}
use Rattle.wb_keeping.specs.Kept.{Calls, and_then, performs}
use Rattle.wb_keeping.specs.Performing.{DoesQuietly, KeptValue, LeavesSome}
use Rattle.wb_keeping.specs.Steps.{back_lines, lends_for, performs_all, set_lines}
use Rattle.wb_keeping.proofs.LeftSome.{left_later, left_none, on_err}
use Rattle.wb_keeping.proofs.Performed.{quiet_then}
use Rattle.wb_keeping.proofs.kept_member.KeptMember.ask_by.Goals as goal

pub returns-clause-does : goal.returns-clause-does
returns-clause-does c =
    let source = c.source-source.result in
    let lends = performs_all (set_lines source c.args.lent) in
    let line = performs (Calls (Ask c.args.name.now)) in
    let back = performs_all (back_lines source c.args.lent) in
    subst (λ (s : ℕ). DoesQuietly (lends_for s c.args.lent (Calls (Ask c.args.name.now))) c.args.self.now c.take_back.new.self) c.source-source.ensures
    (quiet_then lends (and_then line back) c.in_ok-lend.ensures.does (quiet_then line back c.in_ok-ask.ensures.does c.in_ok-take_back.ensures.does))

pub returns-in_err-ask-clause-left : goal.returns-in_err-ask-clause-left
returns-in_err-ask-clause-left c = on_err _ (
    let source = c.source-source.result in
    let lends = performs_all (set_lines source c.args.lent) in
    let rest = and_then (performs (Calls (Ask c.args.name.now))) (performs_all (back_lines source c.args.lent)) in
    subst (λ (s : ℕ). LeavesSome (lends_for s c.args.lent (Calls (Ask c.args.name.now))) c.args.self.now c.ask.new.self) c.source-source.ensures
    (left_later lends rest c.in_ok-lend.ensures.does (left_none rest (ap (λ (v : KeptValue). v.member) c.in_err-ask.ensures.err))))

pub returns-in_err-take_back-clause-left : goal.returns-in_err-take_back-clause-left
returns-in_err-take_back-clause-left c = on_err _ (
    let source = c.source-source.result in
    let lends = performs_all (set_lines source c.args.lent) in
    let line = performs (Calls (Ask c.args.name.now)) in
    let back = performs_all (back_lines source c.args.lent) in
    subst (λ (s : ℕ). LeavesSome (lends_for s c.args.lent (Calls (Ask c.args.name.now))) c.args.self.now c.take_back.new.self) c.source-source.ensures
    (left_later lends (and_then line back) c.in_ok-lend.ensures.does (left_later line back c.in_ok-ask.ensures.does (left_none back (ap (λ (v : KeptValue). v.member) c.in_err-take_back.ensures.err)))))
