-- By when a session becomes whole while live hosts keep places filled: each round brings as many names as there are places.
use Rattle.std.specs.Prelude.{◌≡◌, ◌⊎◌, ℕ, ◌+◌, ◌*◌, ◌≤◌, true, false, List, ◌++◌, Contains, length, max}
use Rattle.wb_names.specs.Values.{NameValue}
use Rattle.wb_progress.specs.InTime.{AreApart, known_from, repairing}
use Rattle.wb_progress.specs.Turns.{Terms, settled_by}
use Rattle.wb_member.specs.Judged.{holds}
use Rattle.wb_member.specs.Opened.{asks_for}
use Rattle.wb_kept_progress.specs.Sessions.{Opening}
use Rattle.wb_kept_progress.specs.Timed.{AllKeptHoldBehind, At, performed, time_of, until}
use Rattle.wb_kept_progress.specs.Whole.{IsHeldBySome, IsLackedAt, IsTimelySession, NewAreKept, ReportWithin, WaitAtMost, request_span, there}
use Rattle.wb_keeping.specs.Laws.{KeptLine}

-- One live host lacks at most `most` names, once what was on its way has arrived.
abbrev pub OneLacksAtMost : (ℕ → Opening) → Terms → List (At KeptLine) → ℕ → Type 0
OneLacksAtMost hosts terms trace most = (i : ℕ) (names : List NameValue) → AreApart names
    → ((n : NameValue) → Contains names n → IsLackedAt hosts terms trace (until (settled_by terms) (performed hosts trace)) (record { place = i; name = n })) → length names ≤ most

-- After some calls a live host asks for `many` names that others hold, each once.
pub record AreAsked (hosts : ℕ → Opening) (terms : Terms) (trace calls : List (At KeptLine)) (i many : ℕ) : Type 0 where
  pub names : List NameValue
  pub apart : AreApart names
  pub count : length names ≡ many
  pub held : (n : NameValue) → Contains names n → IsHeldBySome hosts terms trace n
  pub asked : (n : NameValue) → Contains names n → asks_for n (there hosts calls i).host ≡ true

-- From a time on, after each call, a live host asks for each name that it lacks and another holds, or for `places` of them.
abbrev pub PlacesAreFilled : (ℕ → Opening) → Terms → List (At KeptLine) → (since places : ℕ) → Type 0
PlacesAreFilled hosts terms trace since places = (newer older : List (At KeptLine)) (i : ℕ) (n : NameValue) → trace ≡ newer ++ older → Contains terms.live i → since ≤ time_of older → IsHeldBySome hosts terms trace n → holds (there hosts older i).host n ≡ false
    → (asks_for n (there hosts older i).host ≡ true) ⊎ AreAsked hosts terms trace older i places

-- ---- spans, in microseconds

-- from where a name is asked for to where all hold it
abbrev pub coming : Terms → ℕ
coming terms = request_span terms + repairing terms

abbrev pub rounds_by : Terms → (since pause wait rounds : ℕ) → ℕ
rounds_by terms since pause wait rounds = max (known_from terms + wait + repairing terms) since + rounds * (pause + terms.late + coming terms)

-- Then each live host holds what one of them held after `rounds` rounds of `places` names, if it gives up none before its timer was backed off.
abbrev pub SessionsBecomeWholeByRounds : Type 0
SessionsBecomeWholeByRounds = (hosts : ℕ → Opening) (terms : Terms) (trace : List (At KeptLine)) (since pause wait most places rounds : ℕ) (n : NameValue)
    → IsTimelySession hosts terms trace → ReportWithin hosts terms trace since pause → WaitAtMost hosts terms trace wait → OneLacksAtMost hosts terms trace most
    → NewAreKept hosts terms trace since → PlacesAreFilled hosts terms trace since places → most ≤ rounds * places
    → IsHeldBySome hosts terms trace n → AllKeptHoldBehind hosts terms trace (rounds_by terms since pause wait rounds) n
