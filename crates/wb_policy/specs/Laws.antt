-- Laws of a policy that know no host.
use Rattle.std.specs.Prelude.{◌≡◌, ◌≢◌, ◌⊎◌, ◌<◌, All, Bool, true, Contains, ℕ, ◌+◌, ◌-◌, ◌*◌, ◌≤◌, List, [], ◌∷◌, IsTrue, Option, length}
use Rattle.wb_names.specs.Ascending.{AreEchoes}
use Rattle.wb_names.specs.Values.{MarkValue}
use Rattle.wb_names.specs.declared.echo.Echo.{Echo}
use Rattle.wb_policy.specs.Choices.{echoed, firsts_of, have_answered, is_here, next_turn, numbers_near}
use Rattle.wb_policy.specs.Credit.{has_credit, repaid, spent}
use Rattle.wb_policy.specs.Pace.{hurried, next_pace}
use Rattle.wb_policy.specs.Reports.{report_bytes, slice_after}
use Rattle.wb_policy.specs.declared.limits.TheConstants.{COST, LONGEST_GAP, MOST_FIRSTS, MOST_MARKS, MOST_REPORT_BYTES, PAYS, PLACES, SHORTEST_GAP}
use Rattle.wb_policy.specs.declared.pace.Pace.{Pace}

-- ---- what is asked for

-- a name is asked for at a moment; one that was asked for comes
pub data Spending : Type 0 where
  Asks : (now : ℕ) → Spending
  Comes : Spending

-- what is owed after some of these, the newest first
abbrev pub owed_after : ℕ → List Spending → ℕ
owed_after owed [] = owed
owed_after owed (Asks now ∷ before) = spent (owed_after owed before) now
owed_after owed (Comes ∷ before) = repaid (owed_after owed before)

-- how many names were asked for, and how many came
abbrev pub asks_in : List Spending → ℕ
asks_in [] = 0
asks_in (Asks now ∷ before) = asks_in before + 1
asks_in (Comes ∷ before) = asks_in before

abbrev pub comes_in : List Spending → ℕ
comes_in [] = 0
comes_in (Asks now ∷ before) = comes_in before
comes_in (Comes ∷ before) = comes_in before + 1

-- names were asked for from one moment to another, each when there was credit
abbrev pub IsSpent : ℕ → ℕ → ℕ → List Spending → Type 0
IsSpent owed start end [] = start ≤ end
IsSpent owed start end (Asks now ∷ before) = (now ≤ end) × IsTrue (has_credit (owed_after owed before) now) × IsSpent owed start now before
IsSpent owed start end (Comes ∷ before) = IsSpent owed start end before

-- From one moment to another at most 64 names are asked for, one more for each quarter of a second, and two more for each that came.
abbrev pub FewAreAsked : Type 0
FewAreAsked = (owed start end : ℕ) (spending : List Spending) → IsSpent owed start end spending → asks_in spending * COST ≤ (PLACES + PAYS * comes_in spending) * COST + (end - start)

-- ---- when turns come

-- The next turn comes 1 to 16 seconds after one; and a second after it, once something that was asked for came since the turn before.
abbrev pub TurnsArePaced : Type 0
TurnsArePaced = (now : ℕ) (p : Pace) → (now + SHORTEST_GAP ≤ (next_pace now p).due) × ((next_pace now p).due ≤ now + LONGEST_GAP)

abbrev pub SuccessHurries : Type 0
SuccessHurries = (now : ℕ) (p : Pace) → (next_pace now (hurried p)).due ≡ now + SHORTEST_GAP

-- the pace after turns at some moments that brought nothing, the newest first
abbrev pub pace_after : Pace → List ℕ → Pace
pace_after p [] = p
pace_after p (now ∷ before) = next_pace now (pace_after p before)

-- After 513 turns that brought nothing they are 16 seconds apart.
abbrev pub IdleTurnsAreRare : Type 0
IdleTurnsAreRare = (p : Pace) (now : ℕ) (before : List ℕ) → 513 ≤ length before → (pace_after p (now ∷ before)).due ≡ now + LONGEST_GAP

-- ---- what is near

-- a number that is at most so far from n, below the greatest that is held
pub record IsNear (n top far m : ℕ) : Type 0 where
  pub counted : 1 ≤ m
  pub below : m < top
  pub above : n ≤ m + far
  pub under : m ≤ n + far

-- All numbers near one are such numbers, and all others that are such numbers are among them.
abbrev pub NumbersAreNear : Type 0
NumbersAreNear = (n top far : ℕ) → All (IsNear n top far) (numbers_near n top far)

abbrev pub NearIsAmong : Type 0
NearIsAmong = (n top far m : ℕ) → IsNear n top far m → m ≢ n → Contains (numbers_near n top far) m

-- ---- what is reported

-- a report or a page state has at most 64 marks, whatever is held
abbrev pub SlicesAreShort : Type 0
SlicesAreShort = (told : Option ℕ) (marks : List MarkValue) → length (slice_after told marks) ≤ MOST_MARKS

-- A report has at most 64 marks and 32 echoes, and so at most 1,184 bytes.
abbrev pub ReportsAreSmall : Type 0
ReportsAreSmall = (told : Option ℕ) (marks : List MarkValue) (known : ℕ → Bool) (from : ℕ) (echoes : List Echo) → AreEchoes echoes
    → report_bytes (slice_after told marks) (echoed known from echoes) ≤ MOST_REPORT_BYTES

-- Whoever has answered and was heard within 192 seconds is echoed in each report, if at most 24 such members are there.
abbrev pub AnswersAreEchoed : Type 0
AnswersAreEchoed = (known : ℕ → Bool) (from : ℕ) (es : List Echo) (e : Echo) → AreEchoes es → length (have_answered known es) ≤ MOST_FIRSTS → Contains (have_answered known es) e
    → Contains (echoed known from es) e

-- One source comes before another on the way round the numbers from where turns stand.
abbrev pub IsOnTheWay : ℕ → ℕ → ℕ → Type 0
IsOnTheWay from to at = ((from < at) × (at < to)) ⊎ ((to ≤ from) × ((from < at) ⊎ (at < to)))

-- Whoever was heard within 192 seconds waits for ever for no place: he is echoed, or turns go on towards his number.
abbrev pub TurnsReachEach : Type 0
TurnsReachEach = (known : ℕ → Bool) (from : ℕ) (es : List Echo) (e : Echo) → AreEchoes es → Contains es e → is_here e ≡ true
    → Contains (echoed known from es) e ⊎ IsOnTheWay from e.source (next_turn (firsts_of known from es) from (echoed known from es))
