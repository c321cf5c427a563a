-- Members that know each other go on to do so, so a session of them becomes whole.
use Rattle.std.specs.Prelude.{◌≡◌, ◌≢◌, ℕ, ◌+◌, ◌-◌, ◌<◌, ◌≤◌, true, List, [], ◌∷◌, ◌++◌, Contains, Some, if◌then◌else◌, nat_le}
use Rattle.wb_names.specs.Values.{NameValue}
use Rattle.wb_codec.specs.declared.datagram.Datagram.{Datagram}
use Rattle.wb_judge.specs.Laws.{is_answer, speaker_in}
use Rattle.wb_judge.specs.Members.{IsFit}
use Rattle.wb_judge.specs.declared.limits.TheConstants.{PATIENCE}
use Rattle.wb_judge.specs.declared.origin.Origin.{Origin}
use Rattle.wb_policy.specs.declared.limits.TheConstants.{LONGEST_PAUSE}
use Rattle.wb_progress.specs.Turns.{Terms}
use Rattle.wb_member.specs.Judged.{holds}
use Rattle.wb_judging.specs.Handing.{facts_of}
use Rattle.wb_judging.specs.declared.call.Call.TheVariants.{CameFrom, Passed}
use Rattle.wb_judging.specs.declared.news.News.TheVariants.{Gone}
use Rattle.wb_kept_progress.specs.Since.{hosts_of, since}
use Rattle.wb_kept_progress.specs.Whole.{AreSoon, AreWithin, IsHeldBySome, LackAtMost, Sizes, WaitAtMost, minute, request_span, whole_by}
use Rattle.wb_judged_sessions.specs.Knowing.{HasRoom, IsKnownSince}
use Rattle.wb_judged_sessions.specs.Calls.{JudgedCall, Takes}
use Rattle.wb_judged_sessions.specs.Sessions.{At, judged_at, kept_calls}
use Rattle.wb_judged_sessions.specs.Timely.{IsTimely, IsTimelyBy}
use Rattle.wb_kept_progress.specs.Timed.{time_of}

-- the calls up to a time
abbrev pub until : ℕ → List (At JudgedCall) → List (At JudgedCall)
until s [] = []
until s (e ∷ older) = if nat_le e.time s then e ∷ older else until s older

-- A datagram comes to a place by a time from an origin, and is fit, as the judge there has it. Whether its sender is known there is not asked.
pub record Comes (numbers : ℕ → ℕ) (origin : Origin) (newer base : List (At JudgedCall)) (j by : ℕ) (v : Datagram) : Type 0 where
  pub later : List (At JudgedCall)
  pub call : At JudgedCall
  pub between : List (At JudgedCall)
  pub split : newer ≡ later ++ call ∷ between
  pub place : call.place ≡ j
  pub soon : call.time ≤ by
  pub now : ℕ
  pub is : call.event ≡ Takes (CameFrom now origin v)
  pub fit : let h = judged_at numbers (between ++ base) j in IsFit origin v (facts_of now v h.kept) h.judge

-- What one sends comes to each other one in time, from the origin that its place has there.
abbrev pub ComeInTime : (ℕ → ℕ) → (ℕ → ℕ → Origin) → Terms → List (At JudgedCall) → Type 0
ComeInTime numbers origins terms calls = IsTimelyBy (λ newer base i j by v. Comes numbers (origins j i) newer base j by v) numbers terms calls

-- A moment that the clock of a place may tell at a time, or an earlier one.
abbrev pub moment_by : Terms → (time place : ℕ) → ℕ
moment_by terms time place = time - (terms.lag place + terms.drift)

-- At `quiet` each live member knows each other one at its origin, where it was heard at the time `heard` or later. From then on nobody answers one of them
-- under the number of another from elsewhere, none is told that another is gone, and each judge has room. A report that is sent after `quiet` comes so soon
-- that none was silent for 192 seconds until then. Others may send whatever the judges drop.
pub record KnowEachOther (numbers : ℕ → ℕ) (origins : ℕ → ℕ → Origin) (terms : Terms) (heard : ℕ) (calls : List (At JudgedCall)) : Type 0 where
  pub before : heard ≤ terms.quiet
  pub lately : terms.quiet + LONGEST_PAUSE + terms.late + terms.delivery + terms.drift ≤ heard + PATIENCE
  pub known : (i j : ℕ) → Contains terms.live i → Contains terms.live j → i ≢ j → IsKnownSince (origins j i) (numbers i) (moment_by terms heard j) (judged_at numbers (until terms.quiet calls) j).judge
  pub fixed : (newer older : List (At JudgedCall)) (e : At JudgedCall) (now : ℕ) (o : Origin) (v : Datagram) (i : ℕ) → calls ≡ newer ++ e ∷ older → terms.quiet < e.time → e.event ≡ Takes (CameFrom now o v)
      → Contains terms.live i → i ≢ e.place → speaker_in v ≡ Some (numbers i) → is_answer v now (judged_at numbers older e.place).judge ≡ true → o ≡ origins e.place i
  pub stay : (newer older : List (At JudgedCall)) (e : At JudgedCall) (now : ℕ) (o : Origin) (i : ℕ) → calls ≡ newer ++ e ∷ older → terms.quiet < e.time → e.event ≡ Takes (Passed now (Gone o))
      → Contains terms.live i → i ≢ e.place → o ≢ origins e.place i
  pub room : (newer older : List (At JudgedCall)) (e : At JudgedCall) → calls ≡ newer ++ e ∷ older → terms.quiet < e.time → HasRoom (judged_at numbers older e.place).judge

-- ---- laws

-- So whatever one sends comes as a member's.
abbrev pub JudgedStayKnown : Type 0
JudgedStayKnown = (numbers : ℕ → ℕ) (origins : ℕ → ℕ → Origin) (terms : Terms) (heard : ℕ) (calls : List (At JudgedCall)) → ComeInTime numbers origins terms calls
    → KnowEachOther numbers origins terms heard calls → IsTimely numbers terms calls

-- And the session becomes whole.
abbrev pub KnownBecomeWhole : Type 0
KnownBecomeWhole = (numbers : ℕ → ℕ) (origins : ℕ → ℕ → Origin) (terms : Terms) (heard : ℕ) (calls newer later : List (At JudgedCall)) (sizes : Sizes) (wait most i : ℕ) (n : NameValue)
    → ComeInTime numbers origins terms calls → KnowEachOther numbers origins terms heard calls
    → let hosts = hosts_of numbers (kept_calls numbers calls) in
    let trace = since numbers (kept_calls numbers calls) in
    AreWithin hosts terms trace sizes → AreSoon hosts terms trace sizes most → WaitAtMost hosts terms trace wait → LackAtMost hosts terms trace most
    → request_span terms + terms.drift ≤ minute → IsHeldBySome hosts terms trace n
    → calls ≡ newer ++ later → whole_by terms sizes wait most < time_of later → Contains terms.live i → holds (judged_at numbers later i).kept.host n ≡ true
