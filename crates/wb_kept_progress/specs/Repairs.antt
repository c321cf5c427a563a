-- Lines that bring a drawop from a host that holds it to one that lacks it, if each is self-managing.
use Rattle.std.specs.Prelude.{◌≡◌, ◌<◌, ◌≤◌, ℕ, ◌+◌, ◌*◌, true, false, List, [], ◌∷◌, ◌++◌, Some, Contains, length, max}
use Rattle.wb_names.specs.History.{highest, name_of}
use Rattle.wb_names.specs.Values.{DrawopValue, MarkValue, NameValue}
use Rattle.wb_names.specs.declared.echo.Echo.{Echo}
use Rattle.wb_names.specs.declared.name.PageId.{PageId}
use Rattle.wb_codec.specs.declared.datagram.Datagram.TheVariants.{Draw, Request, Session}
use Rattle.wb_gaps.specs.Answers.{pages_of, report_of}
use Rattle.wb_gaps.specs.Gaps.{IsMissing}
use Rattle.wb_gaps.specs.Holes.{holes_of}
use Rattle.wb_gaps.specs.declared.holes.Hole.{Hole}
use Rattle.wb_progress.specs.Repairs.{asking_wait, answering_wait, quiet_wait}
use Rattle.wb_member.specs.Judged.{holds, is_full}
use Rattle.wb_member.specs.Opened.{Opened, asks_for, present}
use Rattle.wb_policy.specs.Credit.{has_credit}
use Rattle.wb_policy.specs.Fairness.{HaveAtMost, name_in_turn, slices_of, slices_on}
use Rattle.wb_policy.specs.Turns.{windows_in}
use Rattle.wb_names.specs.declared.name.TheConstants.{FIRST_FORGED}
use Rattle.wb_policy.specs.declared.limits.TheConstants.{LONGEST_PAUSE, MOST_MARKS, ROUND_LIMIT, WINDOW}
use Rattle.wb_keeping.specs.Fairness.{AnswersWhatIsHeld}
use Rattle.wb_keeping.specs.Kept.{turn}
use Rattle.wb_keeping.specs.Laws.{Came, KeptLine, Ticked}
use Rattle.wb_keeping.specs.Performing.{Keeping, after_doing}
use Rattle.wb_keeping.specs.Refusing.{is_unknown}
use Rattle.wb_kept_progress.specs.Sessions.{AreHosts, AreSent, AreTaken, At, Opening, at, kept_at, sent_since}

abbrev pub host_at : (ℕ → Opening) → List (At KeptLine) → ℕ → Opened
host_at hosts lines i = (kept_at hosts lines i).host

-- One host lacks a drawop that another holds, and has a free cell. It is none of its own number that would be refused as forged.
pub record IsLost (hosts : ℕ → Opening) (older : List (At KeptLine)) (i j : ℕ) (d : DrawopValue) : Type 0 where
  pub held : Contains (host_at hosts older j).is.held d
  pub lost : holds (host_at hosts older i) d.name ≡ false
  pub room : is_full (host_at hosts older i) ≡ false
  pub known : is_unknown d.name (host_at hosts older i) ≡ false

-- No line more is refused, and each brings only what these lines sent. After them the one holds the drawop beside what it held, and the other
-- what it held.
pub record IsBrought (hosts : ℕ → Opening) (newer older : List (At KeptLine)) (i j : ℕ) (d : DrawopValue) : Type 0 where
  pub taken : AreTaken hosts (newer ++ older)
  pub sent : AreSent hosts newer older
  pub held : (host_at hosts (newer ++ older) i).is.held ≡ (host_at hosts older i).is.held ++ d ∷ []
  pub kept : (host_at hosts (newer ++ older) j).is.held ≡ (host_at hosts older j).is.held

-- ---- a name that is asked for

-- The host that lacks the drawop gets a tick. The one that holds it gets two ticks, then the request, then a tick. Then the drawop
-- comes. The newest line is the first.
abbrev pub repair : ℕ → ℕ → Opened → Opened → DrawopValue → List (At KeptLine)
repair i j host other d =
    let asking = present host + asking_wait in
    let first = present other + answering_wait in
    let second = first + quiet_wait in
    at i (Came asking (Draw d))
    ∷ at j (Ticked (second + answering_wait))
    ∷ at j (Came second (Request host.is.number d.name))
    ∷ at j (Ticked second)
    ∷ at j (Ticked first)
    ∷ at i (Ticked asking)
    ∷ []

-- Whatever came in before: if its request timer stands, these lines bring it.
abbrev pub AskedCanCome : Type 0
AskedCanCome = (hosts : ℕ → Opening) (older : List (At KeptLine)) (i j : ℕ) (d : DrawopValue) → AreHosts hosts → AreTaken hosts older → IsLost hosts older i j d → asks_for d.name (host_at hosts older i) ≡ true
    → IsBrought hosts (repair i j (host_at hosts older i) (host_at hosts older j) d) older i j d

-- ---- a name below a top

-- lines that only hand a host the time
abbrev pub AreTicks : ℕ → List (At KeptLine) → Type 0
AreTicks i [] = Unit {0}
AreTicks i (e ∷ lines) = ((e.place ≡ i) × (now : ℕ) × (e.event ≡ Ticked now)) × AreTicks i lines

-- from when on the next report and the next turn are due, and all names that were asked for are paid for
abbrev pub ready_at : Keeping → ℕ
ready_at k = max (present k.host) (max (max k.policy.reports.due k.policy.pace.due) k.policy.owed)

-- By some ticks, of which none is refused, the request timer of a name comes to stand, and what the host holds stays. At each a report
-- and a turn are due, so that two of them are 96 seconds apart at most.
pub record ComesToAsk (hosts : ℕ → Opening) (newer older : List (At KeptLine)) (i : ℕ) (n : NameValue) : Type 0 where
  pub ticks : AreTicks i newer
  pub taken : AreTaken hosts (newer ++ older)
  pub soon : present (host_at hosts (newer ++ older) i) + LONGEST_PAUSE ≤ ready_at (kept_at hosts older i) + length newer * LONGEST_PAUSE
  pub same : (host_at hosts (newer ++ older) i).is.held ≡ (host_at hosts older i).is.held
  pub asked : asks_for n (host_at hosts (newer ++ older) i) ≡ true

-- While there is a hole, each turn is of a missing number. It has a request timer then, if the board has a free cell and a place of the credit is left.
abbrev pub TurnsAsk : Type 0
TurnsAsk = (k : Keeping) (hole : Hole) → AnswersWhatIsHeld k.host → Contains (holes_of k.host.is.held) hole → is_full k.host ≡ false → has_credit k.policy.owed (present k.host) ≡ true
    → (n : NameValue) × (name_in_turn k.host.is.held k.policy.turns ≡ Some n) × IsMissing k.host.is.held n.page [] n.source n.seq × (asks_for n (after_doing turn k).host ≡ true)

-- A number of a source that is missing below the greatest that a host holds of it comes to be asked for, if the board has a free cell.
abbrev pub MissingIsAsked : Type 0
MissingIsAsked = (hosts : ℕ → Opening) (older : List (At KeptLine)) (i : ℕ) (n : NameValue) → AreHosts hosts → AreTaken hosts older → IsMissing (host_at hosts older i).is.held n.page [] n.source n.seq → n.seq < FIRST_FORGED → is_full (host_at hosts older i) ≡ false
    → (newer : List (At KeptLine)) × ComesToAsk hosts newer older i n

-- While the rounds are counted with 32 bits, a number of one of R holes is asked for by 64 R ticks for each 64 of the numbers of its hole or part of these, and one
-- more, however many another hole has.
abbrev pub MissingIsAskedInTurn : Type 0
MissingIsAskedInTurn = (hosts : ℕ → Opening) (older : List (At KeptLine)) (i : ℕ) (hole : Hole) (number : ℕ) → AreHosts hosts → AreTaken hosts older → Contains (holes_of (host_at hosts older i).is.held) hole → hole.gap.first ≤ number → number ≤ hole.gap.last → is_full (host_at hosts older i) ≡ false
    → (kept_at hosts older i).policy.turns.round + windows_in hole.gap + 1 < ROUND_LIMIT
    → (newer : List (At KeptLine)) × ComesToAsk hosts newer older i (name_of hole.page hole.gap.source number) × (length newer ≤ windows_in hole.gap * length (holes_of (host_at hosts older i).is.held) * WINDOW + 1)

-- If none of these holes has more than n numbers, it is asked for by 2 R n ticks.
abbrev pub MissingIsAskedSoon : Type 0
MissingIsAskedSoon = (hosts : ℕ → Opening) (older : List (At KeptLine)) (i : ℕ) (hole : Hole) (number most : ℕ) → AreHosts hosts → AreTaken hosts older → Contains (holes_of (host_at hosts older i).is.held) hole → hole.gap.first ≤ number → number ≤ hole.gap.last → is_full (host_at hosts older i) ≡ false
    → HaveAtMost most (host_at hosts older i).is.held → (kept_at hosts older i).policy.turns.round + 2 * most < ROUND_LIMIT
    → (newer : List (At KeptLine)) × ComesToAsk hosts newer older i (name_of hole.page hole.gap.source number) × (length newer ≤ 2 * most * length (holes_of (host_at hosts older i).is.held))

-- So it can come from one that holds it.
abbrev pub MissingCanCome : Type 0
MissingCanCome = (hosts : ℕ → Opening) (older : List (At KeptLine)) (i j : ℕ) (d : DrawopValue) → AreHosts hosts → AreTaken hosts older → IsLost hosts older i j d → IsMissing (host_at hosts older i).is.held d.name.page [] d.name.source d.name.seq → d.name.seq < FIRST_FORGED
    → (newer : List (At KeptLine)) × IsBrought hosts newer older i j d

-- ---- any number that a report tells

-- No line more is refused, and each brings only what these lines sent. After them the host holds the drawop.
pub record HasCome (hosts : ℕ → Opening) (newer older : List (At KeptLine)) (i : ℕ) (d : DrawopValue) : Type 0 where
  pub taken : AreTaken hosts (newer ++ older)
  pub sent : AreSent hosts newer older
  pub held : Contains (host_at hosts (newer ++ older) i).is.held d

-- A mark of a board of S slices comes into a report: the host sends one that has it after at most twice S ticks, and twice as many more as
-- the page that it reported last in turn has slices.
pub record ComesToTell (hosts : ℕ → Opening) (newer older : List (At KeptLine)) (j : ℕ) (page : PageId) (m : MarkValue) : Type 0 where
  pub ticks : AreTicks j newer
  pub taken : AreTaken hosts (newer ++ older)
  pub soon : present (host_at hosts (newer ++ older) j) + LONGEST_PAUSE ≤ ready_at (kept_at hosts older j) + length newer * LONGEST_PAUSE
  pub same : (host_at hosts (newer ++ older) j).is.held ≡ (host_at hosts older j).is.held
  pub moment : ℕ
  pub marks : List MarkValue
  pub echoes : List Echo
  pub sent : Contains (sent_since hosts newer older) (Session (host_at hosts older j).is.number moment page marks echoes)
  pub among : Contains marks m
  pub few : length marks ≤ MOST_MARKS

abbrev pub MarksComeToBeTold : Type 0
MarksComeToBeTold = (hosts : ℕ → Opening) (older : List (At KeptLine)) (j : ℕ) (page : PageId) (m : MarkValue) → AreTaken hosts older → Contains (pages_of (host_at hosts older j).is.held) page → Contains (report_of (host_at hosts older j).is.held page) m
    → (newer : List (At KeptLine)) × ComesToTell hosts newer older j page m × (length newer ≤ 2 * (slices_of (host_at hosts older j).is.held + slices_on (host_at hosts older j).is.held (kept_at hosts older j).policy.told.page))

-- No loss is final. Whatever came in before, a drawop that one host lacks and another holds can come, if the one has two free cells and
-- the other holds no number of its source on its page that is 2^31 or more.
abbrev pub LostCanCome : Type 0
LostCanCome = (hosts : ℕ → Opening) (older : List (At KeptLine)) (i j : ℕ) (d : DrawopValue) → AreHosts hosts → AreTaken hosts older → 1 ≤ d.name.seq → Contains (host_at hosts older j).is.held d → holds (host_at hosts older i) d.name ≡ false
    → length (host_at hosts older i).is.held + 2 ≤ (host_at hosts older i).is.cells → highest d.name.page d.name.source (host_at hosts older j).is.held < FIRST_FORGED
    → (newer : List (At KeptLine)) × HasCome hosts newer older i d
