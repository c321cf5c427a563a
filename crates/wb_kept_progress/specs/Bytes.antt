-- How many bytes a self-managing host sends, whatever comes in.
use Rattle.std.specs.Prelude.{◌≡◌, ℕ, ◌+◌, ◌-◌, ◌*◌, ◌/◌, ◌≤◌, Bool, List, [], ◌∷◌, Contains, filter, length}
use Rattle.std.specs.List.{flat_map}
use Rattle.wb_names.specs.Drawing.{text_of}
use Rattle.wb_names.specs.Values.{DrawopValue, MarkValue}
use Rattle.wb_names.specs.declared.echo.Echo.{Echo}
use Rattle.wb_names.specs.declared.name.PageId.{PageId}
use Rattle.wb_names.specs.declared.text.TheConstants.Text.{MAX_LEN}
use Rattle.wb_codec.specs.Spelling.{spelling}
use Rattle.wb_codec.specs.declared.datagram.Datagram.{Datagram}
use Rattle.wb_codec.specs.declared.datagram.Datagram.TheVariants.{AskPages, Draw, PageState, Request, Session}
use Rattle.wb_member.specs.Opened.{present}
use Rattle.wb_policy.specs.Reports.{report_bytes}
use Rattle.wb_policy.specs.declared.limits.TheConstants.{FIRST_WAIT, MARK_BYTES, MOST_MARKS, MOST_PAGES, MOST_REPORT_BYTES, QUIET, SHORTEST_PAUSE}
use Rattle.wb_keeping.specs.Bounds.{is_request}
use Rattle.wb_keeping.specs.Laws.{Added, AreTaken, Came, KeptLine, Ticked, Tuned, after_kept, sent_by_kept}
use Rattle.wb_keeping.specs.Performing.{Keeping}
use Rattle.wb_kept_progress.specs.Timed.{is_drawop}
use Rattle.wb_kept_progress.specs.Traffic.{how_many, is_page_question, is_page_state, is_session}

-- the bytes of all datagrams of a kind, as they are spelled
abbrev pub byte_count : (Datagram → Bool) → List Datagram → ℕ
byte_count kind sent = length (flat_map spelling (filter kind sent))

-- ---- how long a datagram is

-- A policy reckons with the bytes that a report has as it is spelled.
abbrev pub ReportsAreReckoned : Type 0
ReportsAreReckoned = (sender sent : ℕ) (page : PageId) (marks : List MarkValue) (echoes : List Echo) → length (spelling (Session sender sent page marks echoes)) ≡ report_bytes marks echoes

abbrev pub question_bytes : ℕ
question_bytes = 12

abbrev pub request_bytes : ℕ
request_bytes = 28

-- a page state with 64 marks
abbrev pub most_state_bytes : ℕ
most_state_bytes = 22 + MARK_BYTES * MOST_MARKS

-- a drawop with a text of 64 bytes
abbrev pub most_drawop_bytes : ℕ
most_drawop_bytes = 38 + MAX_LEN

-- ---- reports, page states and questions

-- In `micros` microseconds reports take at most the bytes of a longest report and as many again each second, page states 64 times 534 bytes and as
-- many again each second, and questions for pages 12 bytes and as many again each half second.
pub record AreFewBytes (longest : ℕ) (sent : List Datagram) (micros : ℕ) : Type 0 where
  pub reports : byte_count is_session sent * SHORTEST_PAUSE ≤ longest * (SHORTEST_PAUSE + micros)
  pub states : byte_count is_page_state sent * QUIET ≤ most_state_bytes * (MOST_PAGES * (QUIET + micros))
  pub questions : byte_count is_page_question sent * (FIRST_WAIT / 2) ≤ question_bytes * (FIRST_WAIT / 2 + micros)

-- It sends no more of them by any lines, in the time from the moment before these to that after them. A longest report has 1,184 bytes.
abbrev pub FewBytesAreSent : Type 0
FewBytesAreSent = (lines : List KeptLine) (k : Keeping) → FIRST_WAIT ≤ k.policy.questions.wait → AreTaken lines k → AreFewBytes MOST_REPORT_BYTES (sent_by_kept lines k) (present (after_kept lines k).host - present k.host)

-- ---- requests and drawops

-- Any n requests have 28n bytes.
abbrev pub RequestsAreShort : Type 0
RequestsAreShort = (sent : List Datagram) → byte_count is_request sent ≡ how_many is_request sent * request_bytes

-- it has a text of 64 bytes or fewer, or none
abbrev pub HasShortText : DrawopValue → Type 0
HasShortText d = length (text_of d.op) ≤ MAX_LEN

abbrev pub AreShortTexts : List DrawopValue → Type 0
AreShortTexts held = (d : DrawopValue) → Contains held d → HasShortText d

-- no drawop with a longer text comes in
abbrev pub BringsShortText : KeptLine → Type 0
BringsShortText (Came now (Draw d)) = HasShortText d
BringsShortText (Came now (Session sender sent page marks echoes)) = Unit {0}
BringsShortText (Came now (Request asker name)) = Unit {0}
BringsShortText (Came now (AskPages asker)) = Unit {0}
BringsShortText (Came now (PageState sender page marks)) = Unit {0}
BringsShortText (Ticked now) = Unit {0}
BringsShortText (Added now page time op) = Unit {0}
BringsShortText (Tuned constants) = Unit {0}

abbrev pub BringShortTexts : List KeptLine → Type 0
BringShortTexts [] = Unit {0}
BringShortTexts (line ∷ lines) = BringsShortText line × BringShortTexts lines

-- If no text that it holds or that comes in is longer than 64 bytes, n drawops that it sends have at most 102n bytes, and it holds no longer text
-- afterwards.
abbrev pub DrawopsAreShort : Type 0
DrawopsAreShort = (lines : List KeptLine) (k : Keeping) → AreShortTexts k.host.is.held → BringShortTexts lines → AreTaken lines k
    → (byte_count is_drawop (sent_by_kept lines k) ≤ how_many is_drawop (sent_by_kept lines k) * most_drawop_bytes) × AreShortTexts (after_kept lines k).host.is.held
