use Rattle.std.proofs.Common.{sym, subst}
use Rattle.wb_member.specs.Board.{Held, held_of}
use Rattle.wb_member.specs.Holding.{MemberValue, IsOpenAt}
use Rattle.wb_member.specs.Opened.{reported}
use Rattle.wb_member.proofs.Acts.{member, session_done}
use Rattle.wb_member.proofs.Boards.{same_still, seen_still}
use Rattle.wb_member.proofs.member.Member.session.Goals.{in-Ok, in-Err-Memory}
use Rattle.wb_member.proofs.member.Member.session.Goals as goal

pub returns-clause-message : goal.returns-clause-message
returns-clause-message c =
    let v = c.self.inside in
    let q = c.session.new.desk in
    let seen = seen_still v.board v.desk q c.self.invariant c.session.ensures.desk in
    let same = same_still v.board v.desk q c.self.invariant c.session.ensures.desk in
    elim c.match-session.branch [
      | in-Ok w ↦ rw w.result-is (λ host at.
          let there = subst (λ (s : MemberValue). IsOpenAt s host) (sym c.self.view_is) at in
          let done = session_done (held_of v.desk) v.keeper c.session.new.self v.words host c.args.page c.moment-now.result w.in-Ok.message there c.moment-now.ensures.moment
          (rw seen at w.in-Ok.ensures.value host.is.number host.is.constants host.is.calls there.keeper) w.in-Ok.ensures.ok in
          (done.0, subst (λ (b : Held). IsOpenAt (member b c.session.new.self v.words) (reported c.args.page host)) (sym same) done.1))
      | in-Err-Memory w ↦ rw w.result-is tt
    ]
