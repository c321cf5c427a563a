-- What a keeper hears, and what it answers at once.
use Rattle.std.specs.Prelude.{◌≡◌, ℕ, ◌≤◌, Bool, true, false, not, ◌||◌, List, [], ◌∷◌, length, map, Option, nat_eq, nat_le, if◌then◌else◌}
use Rattle.wb_names.specs.Values.{DrawopValue, MarkValue}
use Rattle.wb_names.specs.Orders.{same_page}
use Rattle.wb_names.specs.Faults.{first_of, fault_unless}
use Rattle.wb_names.specs.declared.entries.TheConstants.{MAX_ENTRIES}
use Rattle.wb_names.specs.declared.name.PageId.{PageId}
use Rattle.wb_codec.specs.declared.datagram.Datagram.{Datagram}
use Rattle.wb_codec.specs.declared.datagram.Datagram.TheVariants.{Draw, Session, Request, AskPages, PageState}
use Rattle.wb_gaps.specs.Answers.{reports_of}
use Rattle.wb_gaps.specs.Joining.{joined}
use Rattle.wb_gaps.specs.Merging.{source_count}
use Rattle.wb_gaps.specs.PageReports.{AreReports}
use Rattle.wb_gaps.specs.declared.page_reports.PageReport.{PageReport}
use Rattle.wb_recovery.specs.Faults.{is_moment}
use Rattle.wb_board.specs.Counts.{MAX_CELLS}
use Rattle.wb_keeper.specs.Keeper.{KeeperCall, Hear, is_own, holds}
use Rattle.wb_keeper.specs.declared.keep_fault.KeepFault.{KeepFault}
use Rattle.wb_keeper.specs.declared.keep_fault.KeepFault.TheVariants.{BackInTime, Range, TooMany}

-- ---- the marks that were heard

-- the marks of a page that a datagram tells
abbrev pub marks_in : PageId → Datagram → List MarkValue
marks_in page (Session sender sent p marks echoes) = if same_page p page then marks else []
marks_in page (PageState sender p marks) = if same_page p page then marks else []
marks_in page (Draw d) = []
marks_in page (Request asker name) = []
marks_in page (AskPages asker) = []

abbrev pub marks_reported : ℕ → PageId → KeeperCall → List MarkValue
marks_reported me page (Hear now datagram word held) = if is_own me datagram then [] else marks_in page datagram
marks_reported me page call = []

-- the marks of a page that were heard from others, merged: of each source the greatest number
abbrev pub marks_heard : ℕ → List KeeperCall → PageId → List MarkValue
marks_heard me [] page = []
marks_heard me (call ∷ calls) page = joined (marks_reported me page call) (marks_heard me calls page)

-- ---- why a datagram is refused

-- a list of marks has room for the sources that the datagram tells of, besides those that were heard of its page
abbrev pub has_room : (PageId → List MarkValue) → Datagram → Bool
has_room heard (Session sender sent page marks echoes) = nat_le (source_count (heard page) marks) MAX_ENTRIES
has_room heard (PageState sender page marks) = nat_le (source_count (heard page) marks) MAX_ENTRIES
has_room heard (Draw d) = true
has_room heard (Request asker name) = true
has_room heard (AskPages asker) = true

-- the first fault of a datagram that is heard at a moment, after a call at the last moment
abbrev pub hear_fault : ℕ → ℕ → (PageId → List MarkValue) → ℕ → Datagram → Option KeepFault
hear_fault me last heard now datagram = first_of (
    fault_unless (nat_le last now) BackInTime
    ∷ fault_unless (is_moment now) Range
    ∷ fault_unless (is_own me datagram || has_room heard datagram) TooMany
    ∷ [])

-- ---- what is sent

-- the name that a request asks for is held
abbrev pub asks_for_held : List DrawopValue → Datagram → Bool
asks_for_held history (Request asker name) = holds history name
asks_for_held history (Draw d) = false
asks_for_held history (Session sender sent page marks echoes) = false
asks_for_held history (AskPages asker) = false
asks_for_held history (PageState sender page marks) = false

-- another member asks which pages there are
abbrev pub asks_for_pages : ℕ → Datagram → Bool
asks_for_pages me (AskPages asker) = not (nat_eq asker me)
asks_for_pages me (Draw d) = false
asks_for_pages me (Session sender sent page marks echoes) = false
asks_for_pages me (Request asker name) = false
asks_for_pages me (PageState sender page marks) = false

-- a page state of me for each page, ascending, with its report
abbrev pub ArePageStates : ℕ → List DrawopValue → List Datagram → Type 0
ArePageStates me history sent = (reports : List PageReport) × AreReports history reports × (sent ≡ map (λ r. PageState me r.page r.marks) reports)

-- if these are asked for; else nothing
abbrev pub AreAnswers : Bool → ℕ → List DrawopValue → List Datagram → Type 0
AreAnswers true me history sent = ArePageStates me history sent
AreAnswers false me history sent = sent ≡ []

-- what is sent at once
abbrev pub IsSent : ℕ → List DrawopValue → Datagram → List Datagram → Type 0
IsSent me history datagram sent = AreAnswers (asks_for_pages me datagram) me history sent

-- there is one such list
abbrev pub OneSent : Type 0
OneSent = (me : ℕ) (history : List DrawopValue) (datagram : Datagram) (a b : List Datagram) → IsSent me history datagram a → IsSent me history datagram b → a ≡ b

-- ---- the same as a function

-- a page state of me for each page, ascending, with its report
abbrev pub page_states : ℕ → List DrawopValue → List Datagram
page_states me history = map (λ r. PageState me r.page r.marks) (reports_of history)

-- what is sent at once
abbrev pub answers_to : ℕ → List DrawopValue → Datagram → List Datagram
answers_to me history datagram = if asks_for_pages me datagram then page_states me history else []

-- A history of at most 65,535 members has a report of each page, and this is the one list that is sent.
abbrev pub AnswersAreSent : Type 0
AnswersAreSent = (me : ℕ) (history : List DrawopValue) (datagram : Datagram) → length history ≤ MAX_CELLS → IsSent me history datagram (answers_to me history datagram)
