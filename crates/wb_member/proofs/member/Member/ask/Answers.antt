use Rattle.std.proofs.Common.{sym, subst}
use Rattle.wb_member.specs.Board.{held_of}
use Rattle.wb_member.specs.Holding.{MemberValue, IsOpenAt}
use Rattle.wb_member.proofs.Acts.{ask_done}
use Rattle.wb_member.proofs.member.Member.ask.Goals as goal

pub returns-in-Ok-clause-asked : goal.returns-in-Ok-clause-asked
returns-in-Ok-clause-asked c = λ host at.
    let v = c.self.inside in
    let there = subst (λ (s : MemberValue). IsOpenAt s host) (sym c.self.view_is) at in
    ask_done (held_of v.desk) v.keeper c.notice.new.self v.words c.in_ok-word.rest host c.args.name.now c.in_ok-word.word c.moment-now.result there
    (sym (c.holds.ensures host at)) c.if-holds.false (sym c.is_timed.ensures) c.if-is_timed.false
    c.in_ok-word.ensures.0 c.in_ok-word.ensures.1 c.moment-now.ensures.moment c.in-Ok.ensures.ok
