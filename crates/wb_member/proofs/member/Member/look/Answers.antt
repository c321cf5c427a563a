use Rattle.std.proofs.Common.{◌≡◌, ◌∙◌, ap, sym, subst, length, arith, inr}
use Rattle.wb_member.specs.Board.{Held, held_of}
use Rattle.wb_member.specs.Holding.{MemberValue, IsOpenAt}
use Rattle.wb_member.specs.Opened.{looked}
use Rattle.wb_member.specs.Random.{after_words, words_of}
use Rattle.wb_member.proofs.Acts.{member, look_done}
use Rattle.wb_member.proofs.Boards.{same_still, seen_still}
use Rattle.wb_member.proofs.member.Member.look.Goals as goal

pub returns-in-Ok-clause-looked : goal.returns-in-Ok-clause-looked
returns-in-Ok-clause-looked c =
    let v = c.self.inside in
    let many : c.len.result ≡ length c.deref.result.now = omega (arith, c.len.ensures, c.deref.ensures.len) in
    let again : c.len-in-Ok.result ≡ length c.deref.result.now = omega (arith, c.len-in-Ok.ensures, c.deref.ensures.len) in
    λ host at.
    let there = subst (λ (s : MemberValue). IsOpenAt s host) (sym c.self.view_is) at in
    let seen = seen_still v.board v.desk c.missing.new.desk c.self.invariant (inr c.missing.ensures.desk) in
    let same = same_still v.board v.desk c.missing.new.desk c.self.invariant (inr c.missing.ensures.desk) in
    let done = look_done (held_of v.desk) v.keeper c.notice.new.self v.words c.in_ok-words.rest host c.args.page c.deref.result.now c.deref-2.result.now c.moment-now.result there
    (c.deref.ensures.value ∙ rw seen at c.in_ok-names.ensures.value host.is.number host.is.constants host.is.calls there.keeper)
    (c.deref-2.ensures.value ∙ c.in_ok-words.ensures.0 ∙ ap (words_of v.words) many)
    (c.in_ok-words.ensures.2 ∙ ap (after_words v.words) many)
    c.moment-now.ensures.moment
    c.in-Ok.ensures.ok in
    (again ∙ done.0, subst (λ (b : Held). IsOpenAt (member b c.notice.new.self c.in_ok-words.rest) (looked c.args.page host)) (sym same) done.1)
