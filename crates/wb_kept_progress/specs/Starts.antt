-- No state is a dead end: lines that bring a lost drawop, whoever started anew before.
use Rattle.std.specs.Prelude.{◌≡◌, ℕ, ◌+◌, ◌<◌, ◌≤◌, false, List, [], ◌∷◌, ◌++◌, Contains, length, map}
use Rattle.wb_names.specs.History.{highest}
use Rattle.wb_names.specs.Values.{DrawopValue}
use Rattle.wb_codec.specs.declared.datagram.Datagram.{Datagram}
use Rattle.wb_member.specs.Judged.{holds}
use Rattle.wb_member.specs.Opened.{Opened}
use Rattle.wb_names.specs.declared.name.TheConstants.{FIRST_FORGED}
use Rattle.wb_keeping.specs.Laws.{KeptLine, doing_of}
use Rattle.wb_keeping.specs.Performing.{sent_by_doing}
use Rattle.wb_laws_machines.specs.Honest.{AreApart}
use Rattle.wb_laws_kept.specs.Sessions.{AreTaken, At, kept_at}
use Rattle.wb_kept_progress.specs.Sessions.{WasSent}
use Rattle.wb_laws_kept.specs.Calls.{Call, Handed}

-- lines as calls, at whatever time: no program starts by them
abbrev pub calls_of : ℕ → List (At KeptLine) → List (At Call)
calls_of time lines = map (λ e. record { time = time; place = e.place; event = Handed e.event }) lines

abbrev pub host_behind : (ℕ → ℕ) → ℕ → List (At KeptLine) → List (At Call) → ℕ → Opened
host_behind numbers time newer older i = (kept_at numbers (calls_of time newer ++ older) i).host

-- all that is sent by these lines
abbrev pub sent_since : (ℕ → ℕ) → ℕ → List (At KeptLine) → List (At Call) → List Datagram
sent_since numbers time [] older = []
sent_since numbers time (e ∷ newer) older = sent_by_doing (doing_of e.event) (kept_at numbers (calls_of time newer ++ older) e.place) ++ sent_since numbers time newer older

-- what they hand in was sent before by them: nothing that was on its way is needed
abbrev pub AreSent : (ℕ → ℕ) → ℕ → List (At KeptLine) → List (At Call) → Type 0
AreSent numbers time [] older = Unit {0}
AreSent numbers time (e ∷ newer) older = WasSent (sent_since numbers time newer older) e.event × AreSent numbers time newer older

-- No line more is refused, and each hands in only what these lines sent. After them the member holds the drawop.
pub record HasCome (numbers : ℕ → ℕ) (time : ℕ) (newer : List (At KeptLine)) (older : List (At Call)) (i : ℕ) (d : DrawopValue) : Type 0 where
  pub taken : AreTaken numbers (calls_of time newer ++ older)
  pub sent : AreSent numbers time newer older
  pub held : Contains (host_behind numbers time newer older i).is.held d

-- Whatever came in before, forged datagrams too, and whoever started anew: a drawop that one member lacks and another holds comes by some
-- lines, if the one has two free cells and the other holds no number of its source on its page that is 2^31 or more.
abbrev pub NoStateIsADeadEnd : Type 0
NoStateIsADeadEnd = (numbers : ℕ → ℕ) (time : ℕ) (older : List (At Call)) (i j : ℕ) (d : DrawopValue) → AreApart numbers → AreTaken numbers older → 1 ≤ d.name.seq
    → let one = (kept_at numbers older i).host in
    let other = (kept_at numbers older j).host in
    Contains other.is.held d → holds one d.name ≡ false → length one.is.held + 2 ≤ one.is.cells → highest d.name.page d.name.source other.is.held < FIRST_FORGED
    → (newer : List (At KeptLine)) × HasCome numbers time newer older i d
