-- Whom a judge knows, and since when.
use Rattle.std.specs.Prelude.{◌≡◌, ℕ, ◌+◌, ◌<◌, ◌≤◌, Bool, true, false, ◌&&◌, List, Option, Some, None, filter, is_some, length, nat_le}
use Rattle.std.specs.List.{list_any}
use Rattle.wb_judge.specs.Judge.{Judge}
use Rattle.wb_judge.specs.Laws.{is_answer, speaker_in}
use Rattle.wb_judge.specs.Origins.{same_origin}
use Rattle.wb_judge.specs.Others.{other_of}
use Rattle.wb_judge.specs.declared.known.KnownOrigin.{KnownOrigin}
use Rattle.wb_judge.specs.declared.limits.TheConstants.{MOST_KNOWN, MOST_OTHERS, PATIENCE}
use Rattle.wb_judge.specs.declared.origin.Origin.{Origin}
use Rattle.wb_judge.specs.declared.others.Other.{Other}
use Rattle.wb_judging.specs.Judged.{Judged}
use Rattle.wb_judging.specs.declared.call.Call.{Call}
use Rattle.wb_judging.specs.declared.call.Call.TheVariants.{CameFrom, Held, Passed, UserDrew}
use Rattle.wb_judging.specs.News.{LeavesOrigin}
use Rattle.wb_judging.specs.Performing.{after_judged}

-- an origin is known, and something came from there at a moment or later
abbrev pub is_known_since : Origin → ℕ → List KnownOrigin → Bool
is_known_since o at known = list_any (λ k. same_origin k.origin o && nat_le at k.at) known

-- a number has answered from there, and was heard at a moment or later
abbrev pub is_heard_since : Origin → ℕ → Option Other → Bool
is_heard_since o at None = false
is_heard_since o at (Some x) = same_origin x.origin o && (is_some x.answered && nat_le at x.at)

-- A judge knows a number at an origin since a moment: it answered from there, and was heard from there at that moment or later.
pub record IsKnownSince (o : Origin) (number at : ℕ) (j : Judge) : Type 0 where
  pub known : is_known_since o at j.known ≡ true
  pub heard : is_heard_since o at (other_of number j.others) ≡ true

-- It knows fewer origins than it remembers, and fewer numbers have answered: so it forgets nobody for one more.
pub record HasRoom (j : Judge) : Type 0 where
  pub known : length j.known < MOST_KNOWN
  pub others : length (filter (λ x. is_some x.answered) j.others) < MOST_OTHERS

-- By a line nobody answers under the number from elsewhere, and whoever is gone is another. Anybody may send anything else, within 192 seconds of that moment.
abbrev pub LeavesKnown : Origin → (number at : ℕ) → Call → Judged → Type 0
LeavesKnown o number at (CameFrom now p v) h =
    (at ≤ now) × (now ≤ at + PATIENCE) × (speaker_in v ≡ Some number → is_answer v now h.judge ≡ true → same_origin p o ≡ true)
LeavesKnown o number at (Passed now news) h = LeavesOrigin o news
LeavesKnown o number at (UserDrew now page op) h = Unit {0}
LeavesKnown o number at (Held line) h = Unit {0}

-- Such a line leaves it known, if the judge has room.
abbrev pub StaysKnown : Type 0
StaysKnown = (line : Call) (h : Judged) (o : Origin) (number at : ℕ) → HasRoom h.judge → LeavesKnown o number at line h → IsKnownSince o number at h.judge
    → IsKnownSince o number at (after_judged line h).judge
