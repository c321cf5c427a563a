-- A turn of a policy is that of the hole that comes next.
use Rattle.std.proofs.Common.{◌≡◌, Bool, true, false, cond, List, [], Option, Some, None, refl}
use Rattle.wb_names.specs.Values.{NameValue}
use Rattle.wb_gaps.specs.Holes.{hole_after}
use Rattle.wb_gaps.specs.declared.holes.Hole.{Hole}
use Rattle.wb_policy.specs.Fairness.{led_to}
use Rattle.wb_policy.specs.Policy.{Policy, after_turn as policy_after, after_wanting, in_next_round}
use Rattle.wb_policy.specs.Turns.{name_in, nowhere}
use Rattle.wb_keeping.specs.Fairness.{TurnsAreTaken}
use Rattle.wb_keeping.specs.Kept.{Line, still, turn_to, want}
use Rattle.wb_keeping.specs.Views.{View}
use Rattle.wb_keeping.proofs.EachStep.{doing}
use Rattle.wb_keeping.proofs.Wanted.{is_wanted_here, lines_wanted}

want_turns : (name : NameValue) (see : List Line → View) (p : Policy) → (want name true see p).policy.turns ≡ p.turns
want_turns name see p = by (is_wanted_here name true see p) where
  by : (b : Bool) → (cond b (doing (after_wanting (see []).now p) (lines_wanted name true see p)) (still see p)).policy.turns ≡ p.turns
  by true = refl
  by false = refl

turn_to_turns : (next first : Option Hole) (see : List Line → View) (p : Policy) → (turn_to next first see p).policy.turns ≡ led_to next first p.turns
turn_to_turns (Some h) first see p = want_turns (name_in p.turns h) see (policy_after h p)
turn_to_turns None (Some h) see p = want_turns (name_in (in_next_round p).turns h) see (policy_after h (in_next_round p))
turn_to_turns None None see p = refl

pub turns_are_taken : TurnsAreTaken
turns_are_taken see p = turn_to_turns (hole_after (see []).held p.turns.page p.turns.source p.turns.number) (hole_after (see []).held nowhere 0 0) see p
