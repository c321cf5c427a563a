-- Origins that are known: a member answered us from there, and it was not silent for too long since.
use Rattle.std.specs.Prelude.{ℕ, ◌-◌, Bool, not, ◌&&◌, List, filter, nat_le, if◌then◌else◌}
use Rattle.std.specs.List.{list_any}
use Rattle.wb_judge.specs.Lists.{joined}
use Rattle.wb_judge.specs.Origins.{same_origin}
use Rattle.wb_judge.specs.declared.known.KnownOrigin.{KnownOrigin}
use Rattle.wb_judge.specs.declared.limits.TheConstants.{MOST_KNOWN, SILENCE}
use Rattle.wb_judge.specs.declared.origin.Origin.{Origin}

unfoldable pub is_known : Origin → ℕ → List KnownOrigin → Bool
is_known o now known = list_any (λ k. same_origin k.origin o && nat_le (now - k.at) SILENCE) known

-- whoever spoke from there is gone
abbrev pub left : Origin → List KnownOrigin → List KnownOrigin
left o known = filter (λ k. not (same_origin k.origin o)) known

-- Something came from there last. If there are too many, the one goes that was silent for longest.
unfoldable pub known_from : Origin → ℕ → List KnownOrigin → List KnownOrigin
known_from o now known = joined MOST_KNOWN (record { origin = o; at = now }) (left o known)

-- whatever comes from a known origin renews it
abbrev pub renewed : Origin → ℕ → List KnownOrigin → List KnownOrigin
renewed o now known = if is_known o now known then known_from o now known else known
