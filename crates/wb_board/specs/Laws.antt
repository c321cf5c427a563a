-- Laws of boards: what holds of any two histories.
use Rattle.std.specs.Prelude.{◌≡◌, ℕ, ◌≤◌, List, [], All, Contains, IsPermutation}
use Rattle.wb_names.specs.Values.{DrawopValue, MarkValue}
use Rattle.wb_names.specs.declared.name.PageId.{PageId}
use Rattle.wb_display.specs.Canvas.{canvas_text}
use Rattle.wb_board.specs.Board.{Call, Accept, AskGaps, AskReport, AskView, Answer, Gaps, Marks, Shown, IsAnswer}

-- any call but an arrival
abbrev pub IsQuestion : Call → Type 0
IsQuestion (Accept d) = ⊥
IsQuestion call = Unit {0}

-- Boards that hold the same drawops, in any order, give the same answer to each question.
abbrev pub AnswersConverge : Type 0
AnswersConverge = (one other : List DrawopValue) → IsPermutation one other → (call : Call) (a b : Answer) → IsQuestion call → IsAnswer one call a → IsAnswer other call b → a ≡ b

-- And what they show paints the same canvas, of every size.
abbrev pub CanvasesConverge : Type 0
CanvasesConverge = (one other : List DrawopValue) → IsPermutation one other → (page : PageId) (shown again : List DrawopValue) (w h : ℕ) → IsAnswer one (AskView page) (Shown shown) → IsAnswer other (AskView page) (Shown again) → canvas_text shown w h ≡ canvas_text again w h

-- each name on the page that both hold has one content in both
abbrev pub AgreeOnNames : List DrawopValue → List DrawopValue → PageId → Type 0
AgreeOnNames one other page = (d e : DrawopValue) → Contains one d → Contains other e → d.name.page ≡ page → d.name ≡ e.name → d ≡ e

-- the marks are its report of the page, and it has no gaps below them
abbrev pub HoldsAllOf : List DrawopValue → PageId → List MarkValue → Type 0
HoldsAllOf history page marks = IsAnswer history (AskReport page) (Marks marks) × IsAnswer history (AskGaps page marks) (Gaps [])

-- Two boards that have one report of a page, and no gaps below it, show the same there, if each name has one content in both.
abbrev pub ReportsAgree : Type 0
ReportsAgree = (one other : List DrawopValue) (page : PageId) (marks : List MarkValue) (shown again : List DrawopValue) → All (λ d. 1 ≤ d.name.seq) one → All (λ d. 1 ≤ d.name.seq) other → HoldsAllOf one page marks → HoldsAllOf other page marks → AgreeOnNames one other page → IsAnswer one (AskView page) (Shown shown) → IsAnswer other (AskView page) (Shown again) → shown ≡ again
