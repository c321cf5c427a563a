-- What holds of sessions of judged members, through every start of their programs.
use Rattle.std.specs.Prelude.{◌≡◌, ◌≤◌, ◌<◌, ℕ, List, [], ◌∷◌, ◌++◌, Contains}
use Rattle.wb_names.specs.Arrivals.{history_after}
use Rattle.wb_names.specs.Ascending.{AreMarks}
use Rattle.wb_names.specs.History.{IsHistory, name_of}
use Rattle.wb_names.specs.Values.{DrawopValue, MarkValue}
use Rattle.wb_names.specs.declared.name.PageId.{PageId}
use Rattle.wb_codec.specs.declared.datagram.Datagram.{Datagram}
use Rattle.wb_keeper.specs.Hearing.{marks_in}
use Rattle.wb_member.specs.Opened.{last_number}
use Rattle.wb_names.specs.declared.name.TheConstants.{FIRST_FORGED}
use Rattle.wb_judge.specs.declared.origin.Origin.{Origin}
use Rattle.wb_keeping.specs.Laws.{Came}
use Rattle.wb_judging.specs.Handing.{handed}
use Rattle.wb_judging.specs.declared.call.Call.TheVariants.{CameFrom}
use Rattle.wb_judging.specs.Laws.{drawops_of}
use Rattle.wb_judging.specs.declared.record.RecordLine.{RecordLine}
use Rattle.wb_laws_kept.specs.Listening.{IsHeardWhole, TellsMark}
use Rattle.wb_laws_kept.specs.Restarts.{KnowTheirOwn as KeptKnowTheirOwn}
use Rattle.wb_laws_kept.specs.Sessions.{AreTaken as AreKeptTaken, DrawopsWereHeld as KeptDrawopsWereHeld, steps_of}
use Rattle.wb_laws_sessions.specs.Sessions.{sent as sent_by_steps}
use Rattle.wb_laws_machines.specs.Honest.{AreApart}
use Rattle.wb_judged_sessions.specs.Calls.{JudgedCall, Start, Starts, Takes}
use Rattle.wb_judged_sessions.specs.Sessions.{At, Holds, judged_at, kept_calls, sent, WasDrawn}
use Rattle.wb_laws_machines.specs.Maps.{plain}
use Rattle.wb_judged_sessions.specs.Terms.{AreTaken, DrawopsWereHeld, IsSession, KeepFiles, KnowTheirOwn, RecordsAreWhole, file_at}

-- ---- a session of self-managing members

-- Its calls keep to the terms of such a session.
pub record KeepsKeptTerms (numbers : ℕ → ℕ) (calls : List (At JudgedCall)) : Type 0 where
  pub taken : AreKeptTaken numbers (kept_calls numbers calls)
  pub held : KeptDrawopsWereHeld numbers (kept_calls numbers calls)
  pub know : KeptKnowTheirOwn numbers (kept_calls numbers calls)

abbrev pub JudgedKeepKeptTerms : Type 0
JudgedKeepKeptTerms = (numbers : ℕ → ℕ) (calls : List (At JudgedCall)) → IsSession numbers calls → KeepsKeptTerms numbers calls

-- What it sends is what that one sends, but for that echo.
abbrev pub SendsAsKept : Type 0
SendsAsKept = (numbers : ℕ → ℕ) (calls : List (At JudgedCall)) (v : Datagram) → AreTaken numbers calls
    → Contains (sent numbers calls) v
    → Contains (sent_by_steps numbers (steps_of numbers (kept_calls numbers calls))) (plain v)

-- ---- members know their own numbers

-- if each record has what its member drew,
abbrev pub RecordsTell : Type 0
RecordsTell = (numbers : ℕ → ℕ) (calls : List (At JudgedCall))
    → AreApart numbers → AreTaken numbers calls → DrawopsWereHeld numbers calls
    → RecordsAreWhole numbers calls → KnowTheirOwn numbers calls

-- and so if each program starts with its file.
abbrev pub FilesAreWhole : Type 0
FilesAreWhole = (numbers : ℕ → ℕ) (calls : List (At JudgedCall))
    → KeepFiles numbers calls → RecordsAreWhole numbers calls

-- What a member holds is what a board of its cells holds that takes the drawops of its file, in
-- their order, whatever came and however often its program started.
abbrev pub BoardsAreFiles : Type 0
BoardsAreFiles = (numbers : ℕ → ℕ) (calls : List (At JudgedCall)) (i : ℕ)
    → let is = (judged_at numbers calls i).kept.host.is in
    is.held ≡ history_after is.cells [] (drawops_of (file_at numbers calls i))

-- ---- nothing is invented

-- What a member holds its source drew, just as it is.
abbrev pub HeldWasDrawn : Type 0
HeldWasDrawn = (numbers : ℕ → ℕ) (calls : List (At JudgedCall)) → IsSession numbers calls
    → (i : ℕ) (d : DrawopValue) → Holds numbers calls i d → WasDrawn numbers calls d

-- No two drawops that were drawn have one name.
abbrev pub NamesMeanOne : Type 0
NamesMeanOne = (numbers : ℕ → ℕ) (calls : List (At JudgedCall)) → IsSession numbers calls
    → (d e : DrawopValue) → WasDrawn numbers calls d → WasDrawn numbers calls e
    → d.name ≡ e.name → d ≡ e

-- No name stands twice on a board, whatever came.
abbrev pub HeldOnce : Type 0
HeldOnce = (numbers : ℕ → ℕ) (calls : List (At JudgedCall)) (i : ℕ)
    → IsHistory (judged_at numbers calls i).kept.host.is.held

-- Each mark that is sent is of a drawop that was drawn.
abbrev pub MarksWereDrawn : Type 0
MarksWereDrawn = (numbers : ℕ → ℕ) (calls : List (At JudgedCall)) → IsSession numbers calls
    → (v : Datagram) (page : PageId) (m : MarkValue)
    → Contains (sent numbers calls) v → Contains (marks_in page v) m
    → (d : DrawopValue) × WasDrawn numbers calls d × (d.name ≡ name_of page m.source m.high)

-- ---- listening

-- the program at a place did not start by these calls
abbrev pub HasNotStarted : List (At JudgedCall) → ℕ → Type 0
HasNotStarted calls i = (e : At JudgedCall) (start : Start) (given : List RecordLine) → Contains calls e
    → e.place ≡ i → e.event ≡ Starts start given → ⊥

-- A mark of its own number, below 2^31, that a member hears while it listens, and that its judge
-- lets in, it knows until its program starts anew. The marks are in order, as those of each datagram
-- that was read.
abbrev pub ListeningTells : Type 0
ListeningTells =
    (numbers : ℕ → ℕ) (newer older : List (At JudgedCall)) (e : At JudgedCall)
    (now : ℕ) (o : Origin) (v : Datagram) (page : PageId) (m : MarkValue)
    → e.event ≡ Takes (CameFrom now o v) → handed (CameFrom now o v) (judged_at numbers older e.place) ≡ Came now v
    → now < (judged_at numbers older e.place).kept.policy.ready
    → AreMarks (marks_in page v) → TellsMark v (numbers e.place) page m
    → m.source ≡ numbers e.place → m.high < FIRST_FORGED
    → IsHeardWhole now v (judged_at numbers older e.place).kept → HasNotStarted newer e.place
    → m.high ≤ last_number page (judged_at numbers (newer ++ e ∷ older) e.place).kept.host
