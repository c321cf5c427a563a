use Rattle.std.proofs.Common.{ℕ, ◌≤◌, inr, subst}
use Rattle.wb_names.specs.History.{IsHeld, highest}
use Rattle.wb_names.specs.declared.name.PageId.{PageId}
use Rattle.wb_gaps.specs.Greatest.{IsWholeFrom}
use Rattle.wb_keeping.specs.Performing.{view_of}
use Rattle.wb_keeping.proofs.NearNames.{near_held}
use Rattle.wb_keeping.proofs.Performed.{at_inside}
use Rattle.wb_keeping.proofs.kept_member.KeptMember.near.Goals as goal

pub returns-then-whole_from-lowest_near-clause-near : goal.returns-then-whole_from-lowest_near-clause-near
returns-then-whole_from-lowest_near-clause-near c = λ k at.
    let from = c.in_ok-whole_from.whole_from in
    let whole = c.in_ok-whole_from.ensures.number k.host (at_inside k c.self.view_is at).member in
    let of_page = subst (λ (page : PageId). IsWholeFrom (IsHeld k.host.is.held page c.source.result) (highest page c.source.result k.host.is.held) from) c.page.ensures whole in
    let of_source = subst (λ (source : ℕ). IsWholeFrom (IsHeld k.host.is.held c.args.name.now.page source) (highest c.args.name.now.page source k.host.is.held) from) c.source.ensures of_page in
    inr (c.new.ensures.items, near_held (view_of k.host) c.args.name.now from of_source (subst (λ (n : ℕ). from ≤ n) c.lowest_near.ensures c.if-whole_from-lowest_near.true))
