use Rattle.std.proofs.Common.{◌∙◌, ap, sym}
use Rattle.std.specs.Prelude.{Option, None}
use Rattle.wb_gaps.specs.declared.holes.Hole.{Hole}
use Rattle.wb_policy.specs.Policy.{in_next_round}
use Rattle.wb_policy.specs.Turns.{nowhere}
use Rattle.wb_policy.proofs.FilledHoles.{hole_filled}
use Rattle.wb_keeping.specs.Kept.{turn_to, is_begun, still}
use Rattle.wb_keeping.specs.Performing.{IsKeptAt, Keeping, KeptValue, sees}
use Rattle.wb_keeping.specs.Steps.{turn_again, want_in}
use Rattle.wb_keeping.proofs.Performed.{at_inside, quiet_by, quiet_still}
use Rattle.wb_keeping.proofs.LeftSome.{begins_by, begins_where}
use Rattle.wb_keeping.proofs.kept_member.KeptMember.turn_again.Goals as goal

pub returns-in-Some : goal.returns-in-Some
returns-in-Some c =
    let hole = c.in-Some.hole in
    let found = λ (k : Keeping) (at : IsKeptAt c.args.self.now k). sym c.in-Some.is ∙ c.in_ok-first.ensures.hole k.host (at_inside k c.self.view_is at).member in
    begins_where turn_again (λ k at. hole_filled k.host.is.held nowhere 0 0 hole (sym (found k at))) c.want_in.result (λ f.
    begins_by turn_again (want_in hole) (λ k at. (in_next_round k.policy, c.begin_round.ensures ∙ ap in_next_round (at_inside k c.self.view_is at).policy, ap (λ (o : Option Hole). turn_to None o (sees k.host) k.policy) (sym (found k at))))
    (c.hole_after.ensures.same ∙ ap (λ (v : KeptValue). v.member) c.self.view_is) c.want_in.result (c.want_in.ensures f.counted f.filled))

pub returns-in-None : goal.returns-in-None
returns-in-None c =
    let found = λ (k : Keeping) (at : IsKeptAt c.args.self.now k). sym c.in-None.is ∙ c.in_ok-first.ensures.hole k.host (at_inside k c.self.view_is at).member in
    record {
      begun = λ k at. sym (ap (λ (o : Option Hole). is_begun (turn_to None o (sees k.host) k.policy)) (sym (found k at)));
      does = quiet_by turn_again still (λ k at. (in_next_round k.policy, c.begin_round.ensures ∙ ap in_next_round (at_inside k c.self.view_is at).policy, ap (λ (o : Option Hole). turn_to None o (sees k.host) k.policy) (sym (found k at))))
          (c.hole_after.ensures.same ∙ ap (λ (v : KeptValue). v.member) c.self.view_is) (quiet_still _);
      left = tt;
    }
