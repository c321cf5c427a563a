use Rattle.std.proofs.Common.{◌∙◌, sym, subst}
use Rattle.wb_keeper.proofs.StoppedTimers.{stopped_by_calls}
use Rattle.wb_member.specs.Board.{Held, held_of}
use Rattle.wb_member.specs.Holding.{MemberValue, IsOpenAt}
use Rattle.wb_member.specs.Opened.{ticked}
use Rattle.wb_member.proofs.Acts.{member, tick_done}
use Rattle.wb_member.proofs.Boards.{same_still, seen_still}
use Rattle.wb_member.proofs.member.Member.tick.Goals as goal

pub returns-clause-sent : goal.returns-clause-sent
returns-clause-sent c = λ host at.
    let v = c.self.inside in
    let there = subst (λ (s : MemberValue). IsOpenAt s host) (sym c.self.view_is) at in
    let seen = seen_still v.board v.desk c.tick.new.desk c.self.invariant c.tick.ensures.desk in
    let same = same_still v.board v.desk c.tick.new.desk c.self.invariant c.tick.ensures.desk in
    let done = tick_done (held_of v.desk) v.keeper c.tick.new.self v.words c.in_ok-words.rest host c.args.now c.due_count-count.result c.deref.result.now c.in_ok-sent.sent.items there
    (c.due_count-count.ensures.calls host.is.number host.is.constants host.is.calls there.keeper)
    (stopped_by_calls host.is.number host.is.constants host.is.calls v.keeper there.keeper host.is.held)
    (c.deref.ensures.value ∙ c.in_ok-words.ensures.0)
    c.in_ok-words.ensures.2
    (rw seen at c.in_ok-sent.ensures.sent host.is.number host.is.constants host.is.calls there.keeper)
    (rw seen at c.in_ok-sent.ensures.ok) in
    (done.0, subst (λ (b : Held). IsOpenAt (member b c.tick.new.self c.in_ok-words.rest) (ticked c.args.now host)) (sym same) done.1)
