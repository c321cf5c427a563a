use Rattle.std.proofs.Common.{◌≡◌, ◌∙◌, ap, sym}
use Rattle.std.specs.Prelude.{Option}
use Rattle.wb_gaps.specs.Holes.{hole_after}
use Rattle.wb_gaps.specs.declared.holes.Hole.{Hole}
use Rattle.wb_member.specs.Holding.{IsOpenAt}
use Rattle.wb_member.specs.Opened.{Opened}
use Rattle.wb_policy.specs.Policy.{Policy}
use Rattle.wb_policy.specs.Turns.{nowhere}
use Rattle.wb_policy.specs.declared.turns.Turns.{Turns}
use Rattle.wb_policy.proofs.FilledHoles.{hole_filled}
use Rattle.wb_keeping.specs.Kept.{turn, turn_to}
use Rattle.wb_keeping.specs.Performing.{IsKeptAt, Keeping, KeptValue, sees}
use Rattle.wb_keeping.specs.Steps.{turn_again, want_in}
use Rattle.wb_keeping.proofs.Performed.{at_inside}
use Rattle.wb_keeping.proofs.LeftSome.{begins_by, begins_where}
use Rattle.wb_keeping.proofs.Wanted as wanted
use Rattle.wb_keeping.proofs.kept_member.KeptMember.turn.Goals as goal

-- the hole after the place of the policy
abbrev beside : Keeping → Option Hole
beside k = hole_after k.host.is.held k.policy.turns.page k.policy.turns.source k.policy.turns.number

found : {v old : KeptValue} {place : Turns} {next : Option Hole} → v ≡ old → place ≡ v.policy.turns
    → ((host : Opened) → IsOpenAt v.member host → next ≡ hole_after host.is.held place.page place.source place.number) → (k : Keeping) → IsKeptAt old k → next ≡ beside k
found is placed next k at =
    let inside = at_inside k is at in
    next k.host inside.member ∙ ap (λ (p : Turns). hole_after k.host.is.held p.page p.source p.number) (placed ∙ ap (λ (p : Policy). p.turns) inside.policy)

pub returns-in-Some : goal.returns-in-Some
returns-in-Some c =
    let hole = c.in-Some.hole in
    let next = λ (k : Keeping) (at : IsKeptAt c.args.self.now k). sym c.in-Some.is ∙ found c.self.view_is c.turns-turns.ensures c.in_ok-next.ensures.hole k at in
    begins_where turn (λ k at. hole_filled k.host.is.held k.policy.turns.page k.policy.turns.source k.policy.turns.number hole (sym (next k at))) c.want_in.result (λ f.
    begins_by turn (want_in hole) (λ k at. (k.policy, (at_inside k c.self.view_is at).policy, wanted.turn_next (sees k.host) k.policy hole (next k at)))
    (c.hole_after.ensures.same ∙ ap (λ (v : KeptValue). v.member) c.self.view_is) c.want_in.result (c.want_in.ensures f.counted f.filled))

pub returns-in-None : goal.returns-in-None
returns-in-None c =
    begins_by turn turn_again (λ k at.
    let next = sym c.in-None.is ∙ found c.self.view_is c.turns-turns.ensures c.in_ok-next.ensures.hole k at in
    (k.policy, (at_inside k c.self.view_is at).policy, ap (λ (o : Option Hole). turn_to o (hole_after k.host.is.held nowhere 0 0) (sees k.host) k.policy) (sym next)))
    (c.hole_after.ensures.same ∙ ap (λ (v : KeptValue). v.member) c.self.view_is) c.turn_again.result c.turn_again.ensures
