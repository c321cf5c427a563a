use Rattle.std.proofs.Common.{◌≡◌, ◌∙◌, ap, sym}
use Rattle.std.specs.Prelude.{Option}
use Rattle.wb_gaps.specs.Holes.{hole_after}
use Rattle.wb_gaps.specs.declared.holes.Hole.{Hole}
use Rattle.wb_member.specs.Holding.{IsOpenAt}
use Rattle.wb_member.specs.Opened.{Opened}
use Rattle.wb_policy.specs.Policy.{Policy}
use Rattle.wb_policy.specs.Turns.{nowhere}
use Rattle.wb_policy.specs.declared.leaps.Leaps.{Leaps}
use Rattle.wb_policy.proofs.FilledHoles.{hole_filled}
use Rattle.wb_keeping.specs.Kept.{leap, leap_to}
use Rattle.wb_keeping.specs.Performing.{IsKeptAt, Keeping, KeptValue, sees}
use Rattle.wb_keeping.specs.Steps.{leap_again, leap_in}
use Rattle.wb_keeping.proofs.Performed.{at_inside}
use Rattle.wb_keeping.proofs.LeftSome.{begins_by, begins_where}
use Rattle.wb_keeping.proofs.Wanted as wanted
use Rattle.wb_keeping.proofs.kept_member.KeptMember.leap.Goals as goal

-- the hole after the place of the policy
abbrev beside : Keeping → Option Hole
beside k = hole_after k.host.is.held k.policy.leaps.page k.policy.leaps.source k.policy.leaps.number

found : {v old : KeptValue} {place : Leaps} {next : Option Hole} → v ≡ old → place ≡ v.policy.leaps
    → ((host : Opened) → IsOpenAt v.member host → next ≡ hole_after host.is.held place.page place.source place.number) → (k : Keeping) → IsKeptAt old k → next ≡ beside k
found is placed next k at =
    let inside = at_inside k is at in
    next k.host inside.member ∙ ap (λ (p : Leaps). hole_after k.host.is.held p.page p.source p.number) (placed ∙ ap (λ (p : Policy). p.leaps) inside.policy)

pub returns-in-Some : goal.returns-in-Some
returns-in-Some c =
    let hole = c.in-Some.hole in
    let next = λ (k : Keeping) (at : IsKeptAt c.args.self.now k). sym c.in-Some.is ∙ found c.self.view_is c.leaps-leaps.ensures c.in_ok-next.ensures.hole k at in
    begins_where leap (λ k at. hole_filled k.host.is.held k.policy.leaps.page k.policy.leaps.source k.policy.leaps.number hole (sym (next k at))) c.leap_in.result (λ f.
    begins_by leap (leap_in hole) (λ k at. (k.policy, (at_inside k c.self.view_is at).policy, wanted.leap_next (sees k.host) k.policy hole (next k at)))
    (c.hole_after.ensures.same ∙ ap (λ (v : KeptValue). v.member) c.self.view_is) c.leap_in.result (c.leap_in.ensures f.counted f.filled))

pub returns-in-None : goal.returns-in-None
returns-in-None c =
    begins_by leap leap_again (λ k at.
    let next = sym c.in-None.is ∙ found c.self.view_is c.leaps-leaps.ensures c.in_ok-next.ensures.hole k at in
    (k.policy, (at_inside k c.self.view_is at).policy, ap (λ (o : Option Hole). leap_to o (hole_after k.host.is.held nowhere 0 0) (sees k.host) k.policy) (sym next)))
    (c.hole_after.ensures.same ∙ ap (λ (v : KeptValue). v.member) c.self.view_is) c.leap_again.result c.leap_again.ensures
