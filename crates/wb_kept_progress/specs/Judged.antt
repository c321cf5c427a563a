-- How many drawops a judged member sends, and how many bytes, whatever comes in.
use Rattle.std.specs.Prelude.{ℕ, ◌+◌, ◌-◌, ◌*◌, ◌/◌, ◌≤◌, List, [], ◌∷◌, ◌++◌}
use Rattle.wb_codec.specs.declared.datagram.Datagram.{Datagram}
use Rattle.wb_judge.specs.Laws.{AreFrom}
use Rattle.wb_judge.specs.declared.limits.TheConstants.{ASKED_AHEAD, ASKED_PAUSE, REPAIRS_AHEAD, REPAIR_PAUSE}
use Rattle.wb_member.specs.Opened.{present}
use Rattle.wb_policy.specs.declared.limits.TheConstants.{ECHO_BYTES, FIRST_WAIT, MOST_REPORT_BYTES}
use Rattle.wb_judging.specs.Judged.{Judged}
use Rattle.wb_judging.specs.declared.call.Call.{Call}
use Rattle.wb_judging.specs.declared.call.Call.TheVariants.{CameFrom, Held, Passed, UserDrew}
use Rattle.wb_judging.specs.Laws.{after_all, expanded, sends_in}
use Rattle.wb_judging.specs.Performing.{after_judged, events_of}
use Rattle.wb_keeping.specs.Laws.{AreTaken}
use Rattle.wb_kept_progress.specs.Bytes.{AreFewBytes, AreShortTexts, BringShortTexts, byte_count, most_drawop_bytes}
use Rattle.wb_kept_progress.specs.Timed.{is_drawop}
use Rattle.wb_kept_progress.specs.Traffic.{answering_count, how_many}

-- all that it sends by some lines
abbrev pub sent_by_judged : List Call → Judged → List Datagram
sent_by_judged [] h = []
sent_by_judged (line ∷ lines) h = sends_in (events_of line h) ++ sent_by_judged lines (after_judged line h)

-- none of them is of a record
abbrev pub AreOfNow : List Call → Type 0
AreOfNow [] = Unit {0}
AreOfNow (Held line ∷ lines) = ⊥
AreOfNow (CameFrom now o v ∷ lines) = AreOfNow lines
AreOfNow (Passed now news ∷ lines) = AreOfNow lines
AreOfNow (UserDrew now page op ∷ lines) = AreOfNow lines

-- the moments at which datagrams came
abbrev pub came_at : List Call → List ℕ
came_at [] = []
came_at (CameFrom now o v ∷ lines) = now ∷ came_at lines
came_at (Passed now news ∷ lines) = came_at lines
came_at (UserDrew now page op ∷ lines) = came_at lines
came_at (Held line ∷ lines) = came_at lines

-- how often the user draws
abbrev pub drawing_count : List Call → ℕ
drawing_count [] = 0
drawing_count (UserDrew now page op ∷ lines) = 1 + drawing_count lines
drawing_count (CameFrom now o v ∷ lines) = drawing_count lines
drawing_count (Passed now news ∷ lines) = drawing_count lines
drawing_count (Held line ∷ lines) = drawing_count lines

-- how many requests a judge lets in from one moment to another: of members, and of strangers
abbrev pub for_members : ℕ → ℕ
for_members micros = (REPAIRS_AHEAD + REPAIR_PAUSE + micros) / REPAIR_PAUSE

abbrev pub for_strangers : ℕ → ℕ
for_strangers micros = (ASKED_AHEAD + ASKED_PAUSE + micros) / ASKED_PAUSE

-- By lines of which none is of a record, whatever comes from one moment to another, it sends one drawop at most for each drawing of its user, for each
-- answer timer that stood before, and for each request that its judge lets in: 512 of members at once, and then one in two milliseconds; and 64 of
-- strangers, and then one in a sixteenth of a second.
abbrev pub JudgedMembersSendFewDrawops : Type 0
JudgedMembersSendFewDrawops = (start end : ℕ) (lines : List Call) (h : Judged) → AreOfNow lines → AreFrom start end (came_at lines)
    → how_many is_drawop (sent_by_judged lines h) ≤ answering_count h.kept.host + drawing_count lines + for_members (end - start) + for_strangers (end - start)

-- It sends as few bytes as its kept member, if what that is handed is taken; but a report may have one echo more, of 20 bytes.
abbrev pub JudgedMembersSendFewBytes : Type 0
JudgedMembersSendFewBytes = (lines : List Call) (h : Judged) → FIRST_WAIT ≤ h.kept.policy.questions.wait → AreTaken (expanded lines h) h.kept
    → AreFewBytes (MOST_REPORT_BYTES + ECHO_BYTES) (sent_by_judged lines h) (present (after_all lines h).kept.host - present h.kept.host)

-- If no text that it holds or that its kept member is handed is longer than 64 bytes, n drawops that it sends have at most 102n bytes.
abbrev pub JudgedDrawopsAreShort : Type 0
JudgedDrawopsAreShort = (lines : List Call) (h : Judged) → AreShortTexts h.kept.host.is.held → BringShortTexts (expanded lines h) → AreTaken (expanded lines h) h.kept
    → byte_count is_drawop (sent_by_judged lines h) ≤ how_many is_drawop (sent_by_judged lines h) * most_drawop_bytes
