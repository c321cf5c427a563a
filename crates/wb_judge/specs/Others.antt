-- The numbers that were heard, and from where.
use Rattle.std.specs.Prelude.{ℕ, ◌-◌, Bool, false, not, ◌&&◌, ◌||◌, List, [], ◌∷◌, ◌++◌, Option, Some, None, filter, is_none, is_some, length, nat_eq, nat_le, nat_lt, position, unwrap_or, if◌then◌else◌}
use Rattle.std.specs.List.{find, list_any, remove}
use Rattle.wb_judge.specs.Origins.{same_origin}
use Rattle.wb_judge.specs.declared.limits.TheConstants.{MOST_OTHERS, PATIENCE}
use Rattle.wb_judge.specs.declared.origin.Origin.{Origin}
use Rattle.wb_judge.specs.declared.others.Other.{Other}

abbrev pub other_of : ℕ → List Other → Option Other
other_of number others = find (λ x. nat_eq x.number number) others

-- some number speaks from there
abbrev pub has_speaker : Origin → List Other → Bool
has_speaker o others = list_any (λ x. same_origin x.origin o) others

-- it has answered us, and speaks from another origin: it was heard there lately, or that origin has an owner
abbrev pub is_elsewhere : Origin → ℕ → Option Other → Bool
is_elsewhere o now None = false
is_elsewhere o now (Some x) = (not (same_origin x.origin o) && is_some x.answered) && (nat_le (now - x.at) PATIENCE || is_some x.origin.owner)

unfoldable pub is_bound_elsewhere : ℕ → Origin → ℕ → List Other → Bool
is_bound_elsewhere number o now others = is_elsewhere o now (other_of number others)

-- A number that is heard: from an origin that is new for it, it has answered nobody.
abbrev pub heard_first : ℕ → Origin → ℕ → Other
heard_first number o now = record { number = number; origin = o; at = now; answered = None; fetched = None }

abbrev pub heard_again : ℕ → Origin → ℕ → Option Other → Other
heard_again number o now None = heard_first number o now
heard_again number o now (Some x) = if same_origin x.origin o then record x { at = now } else heard_first number o now

unfoldable pub spoken : ℕ → Origin → ℕ → List Other → Other
spoken number o now others = heard_again number o now (other_of number others)

abbrev pub without : ℕ → List Other → List Other
without number others = filter (λ x. not (nat_eq x.number number)) others

-- if there are too many: the first that has not answered us, else the first
abbrev pub first_to_go : List Other → ℕ
first_to_go others = unwrap_or (position (λ x. is_none x.answered) others) 0

abbrev pub with_place_for : List Other → List Other
with_place_for others = if nat_lt (length others) MOST_OTHERS then others else remove others (first_to_go others)

unfoldable pub other_with : Other → List Other → List Other
other_with x others = with_place_for (without x.number others) ++ x ∷ []

-- somebody has answered under it
abbrev pub was_answered : Option Other → Bool
was_answered None = false
was_answered (Some x) = is_some x.answered

-- What a record says: a number answered from there once. Whoever has answered since it began keeps the number.
abbrev pub answered_once : ℕ → Origin → Other
answered_once number o = record { number = number; origin = o; at = 0; answered = Some 0; fetched = None }

unfoldable pub recalled : ℕ → Origin → List Other → List Other
recalled number o others = if was_answered (other_of number others) then others else other_with (answered_once number o) others

-- heard so lately that it is still here
abbrev pub is_here : ℕ → Other → Bool
is_here now x = nat_le (now - x.at) PATIENCE

abbrev pub heard_lately : ℕ → List Other → List Other
heard_lately now others = filter (is_here now) others

-- whoever spoke from there is gone
abbrev pub gone_from : Origin → List Other → List Other
gone_from o others = filter (λ x. not (same_origin x.origin o)) others
