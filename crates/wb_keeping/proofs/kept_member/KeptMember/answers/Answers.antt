use Rattle.std.proofs.Common.{◌≡◌, ℕ, Bool, true, cond, List, ◌++◌, ◌∙◌, ap, arith, length, map, subst, sym}
use Rattle.std.specs.Prelude.{take}
use Rattle.wb_names.specs.declared.name.PageId.{PageId}
use Rattle.wb_codec.specs.declared.datagram.Datagram.{Datagram}
use Rattle.wb_member.specs.Holding.{IsOpenAt, MemberValue}
use Rattle.wb_member.specs.Opened.{Opened}
use Rattle.wb_keeping.specs.Kept.{Doing, still, answers, state_of}
use Rattle.wb_keeping.specs.Performing.{IsKeptAt, Keeping, KeptValue, sees, view_of}
use Rattle.wb_policy.specs.Policy.{Policy, after_answer}
use Rattle.wb_keeping.proofs.Performed.{at_inside, does_seen}
use Rattle.wb_keeping.proofs.LeftSome.{on_err, left_none}
use Rattle.wb_gaps.specs.Answers.{pages_of}
use Rattle.wb_policy.specs.Questions.{is_due}
use Rattle.wb_keeping.proofs.ToldParts.{first_told}
use Rattle.wb_keeping.proofs.Saying.{says, says_after, says_sent}
use Rattle.wb_keeping.proofs.kept_member.KeptMember.answers.Goals as goal

pub returns-clause-does : goal.returns-clause-does
returns-clause-does c = does_seen answers (λ k at.
    let v = view_of k.host in
    let inside = at_inside k c.self.view_is at in
    let now : c.moment-now.result ≡ v.now = c.moment-now.ensures.moment k.host inside.member in
    let due : is_due v.now k.policy.questions.answer ≡ true = ap (λ (p : Policy). is_due v.now p.questions.answer) (sym inside.policy) ∙ ap (λ (m : ℕ). is_due m c.self.inside.policy.questions.answer) (sym now) ∙ sym c.if-not-is_to_answer.ensures in
    let pages = take 64 (pages_of v.held) in
    let answered : Policy = after_answer v.now (length pages) k.policy in
    let d : Doing = record { policy = answered; lines = says v pages } in
    let before : KeptValue = record { member = c.pages_after.new.self; policy = c.self.inside.policy } in
    let at_before : IsKeptAt before k = record { member = subst (λ (m : MemberValue). IsOpenAt m k.host) (sym c.pages_after.ensures.same) inside.member; policy = inside.policy } in
    let told = at_inside k c.self-2.view_is (subst (λ (w : KeptValue). IsKeptAt w k) (sym c.tells_pages.ensures.same) at_before) in
    let first : c.in_ok-first.first.items ≡ pages = c.in_ok-first.ensures.pages k.host inside.member ∙ first_told v.held 64 in
    let counted : c.len.result ≡ length c.in_ok-first.first.items = omega (arith, c.len.ensures, c.in_ok-first.first.ok) in
    let policy : c.answered.new.self ≡ answered =
    c.answered.ensures ∙ ap (λ (m : ℕ). after_answer m c.len.result c.self-2.inside.policy) now ∙ ap (λ (n : ℕ). after_answer v.now n c.self-2.inside.policy) (counted ∙ ap length first) ∙ ap (after_answer v.now (length pages)) told.policy in
    let done : KeptValue = record { member = c.self-2.inside.member; policy = c.answered.new.self } in (
      d,
      ap (λ (b : Bool). cond b d (still (sees k.host) k.policy)) due,
      c.in_ok-tells_pages.ensures.sent k at_before ∙ ap (λ (ps : List PageId). c.args.sent.now.items ++ map (state_of v) ps) (c.deref.ensures.value ∙ first) ∙ ap (λ (ds : List Datagram). c.args.sent.now.items ++ ds) (sym (says_sent v pages k.host)),
      subst (λ (h : Opened). let k : Keeping = record { host = h; policy = answered } in IsKeptAt done k) (sym (says_after v pages k.host)) (record { member = told.member; policy = policy }),
    ))

pub returns-in_err-tells_pages-clause-left : goal.returns-in_err-tells_pages-clause-left
returns-in_err-tells_pages-clause-left c = on_err _ (
    left_none answers (ap (λ (v : KeptValue). v.member) c.tells_pages.ensures.same ∙ c.pages_after.ensures.same ∙ ap (λ (v : KeptValue). v.member) c.self.view_is))
