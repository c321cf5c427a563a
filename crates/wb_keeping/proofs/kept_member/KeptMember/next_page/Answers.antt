use Rattle.std.proofs.Common.{◌≡◌, ◌∙◌, ap, filter, subst, sym}
use Rattle.std.specs.Prelude.{Some, take}
use Rattle.wb_names.specs.declared.name.PageId.{PageId}
use Rattle.wb_gaps.specs.Answers.{pages_of}
use Rattle.wb_gaps.specs.Starts.{is_past}
use Rattle.wb_member.specs.Holding.{IsOpenAt, MemberValue}
use Rattle.wb_policy.specs.Policy.{Policy}
use Rattle.wb_policy.specs.declared.reports.Told.{Told}
use Rattle.wb_keeping.proofs.Performed.{at_inside}
use Rattle.wb_keeping.proofs.ToldParts.{first_told}
use Rattle.wb_keeping.proofs.kept_member.KeptMember.next_page.Goals as goal

pub returns-clause-next : goal.returns-clause-next
returns-clause-next c = λ k at.
    let inside = at_inside k c.self.view_is at in
    let pages = pages_of k.host.is.held in
    let told : c.told-told.result.page ≡ k.policy.told.page = ap (λ (t : Told). t.page) c.told-told.ensures ∙ ap (λ (p : Policy). p.told.page) inside.policy in
    let later = c.deref.ensures.value ∙ c.in_ok-later.ensures.pages k.host inside.member ∙ ap (λ (page : PageId). take 1 (filter (is_past (Some page)) pages)) told in
    let again = subst (λ (m : MemberValue). IsOpenAt m k.host) (sym c.in_ok-later.ensures.same) inside.member in
    let first = c.deref-2.ensures.value ∙ c.in_ok-first.ensures.pages k.host again ∙ first_told k.host.is.held 1 in
    c.page_after.ensures k.policy.told.page pages later first
