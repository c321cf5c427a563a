-- Sessions of judged members, as people run them: one in which a judge stands in front of each
-- member. The program of a member starts, and is handed the lines of its record; then it is called.
-- It starts as often as one likes. A line that is refused changes nothing, so it is left out.
use Rattle.std.specs.Prelude.{◌≡◌, ℕ, List, [], ◌∷◌, Contains, map}
use Rattle.wb_names.specs.Values.{DrawopValue}
use Rattle.wb_codec.specs.declared.datagram.Datagram.{Datagram}
use Rattle.wb_keeping.specs.Kept.{came}
use Rattle.wb_keeping.specs.Laws.{KeptLine, Tuned}
use Rattle.wb_keeping.specs.Performing.{Keeping, sees}
use Rattle.wb_judging.specs.Handing.{handed}
use Rattle.wb_judging.specs.Judged.{Judged}
use Rattle.wb_judging.specs.declared.call.Call.TheVariants.{Held}
use Rattle.wb_judging.specs.Laws.{expanded}
use Rattle.wb_laws_kept.specs.Calls.{Begins, Call as KeptCall, Handed}
use Rattle.wb_laws_kept.specs.Sessions.{kept_at, steps_of}
use Rattle.wb_laws_machines.specs.Machines as of
pub use Rattle.wb_laws_machines.specs.Machines.{At}
use Rattle.wb_laws_machines.specs.Maps.{plain}
use Rattle.wb_laws_sessions.specs.Drawn.{drawn_at as drawn_by_steps}
use Rattle.wb_judged_sessions.specs.Calls.{JudgedCall, Starts, Takes, Tunes, plain_line, started}
use Rattle.wb_judged_sessions.specs.Judged.{judged}

-- the member at a place after some calls, of which the newest is the first
abbrev pub judged_at : (ℕ → ℕ) → List (At JudgedCall) → ℕ → Judged
judged_at = of.state_at judged

-- all that the member at a place drew, by all runs of its program, the newest first
abbrev pub drawn_at : (ℕ → ℕ) → List (At JudgedCall) → ℕ → List DrawopValue
drawn_at = of.drawn_at judged

-- its source drew it, just as it is
abbrev pub WasDrawn : (ℕ → ℕ) → List (At JudgedCall) → DrawopValue → Type 0
WasDrawn = of.WasDrawn judged

-- all that anyone sent
abbrev pub sent : (ℕ → ℕ) → List (At JudgedCall) → List Datagram
sent = of.sent judged

-- the member at a place holds it
abbrev pub Holds : (ℕ → ℕ) → List (At JudgedCall) → ℕ → DrawopValue → Type 0
Holds numbers calls i d = Contains (judged_at numbers calls i).kept.host.is.held d

-- some member held it after some of the calls
abbrev pub WasHeld : (ℕ → ℕ) → List (At JudgedCall) → DrawopValue → Type 0
WasHeld = of.WasHeld judged

-- ---- the same as a session of self-managing members

-- lines that are handed to the member at a place, one after the other
abbrev pub lines_then : ℕ → ℕ → List KeptLine → List (At KeptCall) → List (At KeptCall)
lines_then time place [] older = older
lines_then time place (line ∷ lines) older =
    lines_then time place lines (record { time = time; place = place; event = Handed line } ∷ older)

-- A start is one with an empty record, and then each line of the record is handed in. In the place
-- of a line the judge hands in that line or a tick: the network lost what the judge drops.
abbrev pub kept_then : ℕ → ℕ → JudgedCall → Judged → List (At KeptCall) → List (At KeptCall)
kept_then time place (Starts start given) h older =
    lines_then time place (expanded (map Held given) (started h.kept.host.is.number start))
    (record { time = time; place = place; event = Begins start.opening [] } ∷ older)
kept_then time place (Takes line) h older = lines_then time place (plain_line (handed line h) ∷ []) older
kept_then time place (Tunes constants) h older = lines_then time place (Tuned constants ∷ []) older

abbrev pub kept_calls : (ℕ → ℕ) → List (At JudgedCall) → List (At KeptCall)
kept_calls numbers [] = []
kept_calls numbers (e ∷ older) =
    kept_then e.time e.place e.event (judged_at numbers older e.place) (kept_calls numbers older)

-- ---- laws

-- Each judged member is the self-managing one at its place, and a judge. So its board, pages, gaps
-- and marks are that one's.
abbrev pub JudgedIsKept : Type 0
JudgedIsKept = (numbers : ℕ → ℕ) (calls : List (At JudgedCall)) (i : ℕ)
    → (judged_at numbers calls i).kept ≡ kept_at numbers (kept_calls numbers calls) i

-- It draws what that one draws.
abbrev pub DrawsAsKept : Type 0
DrawsAsKept = (numbers : ℕ → ℕ) (calls : List (At JudgedCall)) (i : ℕ)
    → drawn_at numbers calls i ≡ drawn_by_steps numbers (steps_of numbers (kept_calls numbers calls)) i

-- A self-managing member does the same for a datagram as for it without that echo.
abbrev pub PlainIsTheSame : Type 0
PlainIsTheSame = (now : ℕ) (v : Datagram) (k : Keeping)
    → came now v (sees k.host) k.policy ≡ came now (plain v) (sees k.host) k.policy
