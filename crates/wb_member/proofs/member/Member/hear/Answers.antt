use Rattle.std.proofs.Common.{◌≡◌, ◌∙◌, Bool, true, false, ap, sym, subst, cond}
use Rattle.wb_member.specs.Board.{Held, held_of}
use Rattle.wb_member.specs.Holding.{MemberValue, IsOpenAt}
use Rattle.wb_member.specs.Opened.{heard, takes_word}
use Rattle.wb_member.specs.Random.{word_of, after_words}
use Rattle.wb_member.proofs.Acts.{member}
use Rattle.wb_member.proofs.Boards.{same_still, seen_still}
use Rattle.wb_member.proofs.HeardActs.{hear_done, heard_all}
use Rattle.wb_member.proofs.member.Member.hear.Goals as goal

pub returns-then-takes_word-clause-sent : goal.returns-then-takes_word-clause-sent
returns-then-takes_word-clause-sent c = λ host at.
    let v = c.self.inside in
    let yes : takes_word c.args.datagram.now ≡ true = sym c.takes_word.ensures ∙ c.if-takes_word.true in
    let there = subst (λ (s : MemberValue). IsOpenAt s host) (sym c.self.view_is) at in
    let seen = seen_still v.board v.desk c.hear.new.desk c.self.invariant c.hear.ensures.desk in
    let same = same_still v.board v.desk c.hear.new.desk c.self.invariant c.hear.ensures.desk in
    let done = hear_done (held_of v.desk) v.keeper c.hear.new.self v.words c.in_ok-word.rest host c.args.datagram.now c.in_ok-word.word c.in_ok-sent.sent.items there
    (c.in_ok-word.ensures.0 ∙ sym (ap (λ (b : Bool). cond b (word_of v.words) 0) yes))
    (c.in_ok-word.ensures.1 ∙ sym (ap (λ (b : Bool). after_words v.words (cond b 1 0)) yes))
    (rw seen at c.in_ok-sent.ensures.answers) (rw (seen, c.moment-now.ensures.moment) at c.in_ok-sent.ensures.ok) in
    (done.0, subst (λ (b : Held). IsOpenAt (member b c.hear.new.self c.in_ok-word.rest) (heard c.args.datagram.now host)) (sym same) done.1)

pub returns-clause-sent : goal.returns-clause-sent
returns-clause-sent c =
    let v = c.self.inside in
    let plain : takes_word c.args.datagram.now ≡ false = sym c.takes_word.ensures ∙ c.if-takes_word.false in
    let seen = seen_still v.board v.desk c.hear-2.new.desk c.self.invariant c.hear-2.ensures.desk in
    let same = same_still v.board v.desk c.hear-2.new.desk c.self.invariant c.hear-2.ensures.desk in
    rw (sym c.self.view_is) (heard_all c.hear-2.result (λ x. x.items) (held_of v.desk) (held_of c.hear-2.new.desk) v.keeper c.hear-2.new.self v.words c.args.datagram.now plain same (rw seen at c.hear-2.ensures.answers) (rw (seen, c.moment-now.ensures.moment) at c.hear-2.ensures.ok))
