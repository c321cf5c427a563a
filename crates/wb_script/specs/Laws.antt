-- Laws of what a script's questions print: each is answered, and has no other answer.
use Rattle.std.specs.Prelude.{◌≡◌, ◌↔◌, ℕ, ◌≤◌, Bool, List, [], ◌∷◌, ◌++◌, length, Option, Some, Contains, IsPermutation}
use Rattle.wb_names.specs.Values.{DrawopValue, MarkValue}
use Rattle.wb_names.specs.History.{IsHistory}
use Rattle.wb_names.specs.Arrivals.{history_after}
use Rattle.wb_names.specs.declared.name.PageId.{PageId}
use Rattle.wb_board.specs.Counts.{MAX_CELLS}
use Rattle.wb_commands.specs.Answers.{answer_text}
use Rattle.wb_member.specs.Opened.{Opened, batched}
use Rattle.wb_member.specs.Questions.{answer_by}
use Rattle.wb_member.specs.declared.questions.Query.{Query}
use Rattle.wb_lines.specs.Input.{InputLine}
use Rattle.wb_member.specs.Holding.{MemberValue, IsOpenAt}
use Rattle.wb_script.specs.Hosts.{taken}
use Rattle.wb_script.specs.Script.{RunState, RunOutcome, IsOutcomeFrom}

-- what a board can hold
pub record IsBoardHistory (history : List DrawopValue) : Type 0 where
  pub once : IsHistory history
  pub few : length history ≤ MAX_CELLS

-- Members that hold the same drawops, whatever the order in which they came, answer each question the same, if they have one number
-- and heard the same.
abbrev pub AnswersAreFree : Type 0
AnswersAreFree = (number : ℕ) (marks : PageId → List MarkValue) (heard : List PageId) (one other : List DrawopValue) (query : Query) → IsBoardHistory one → IsBoardHistory other → IsPermutation one other
    → answer_by number marks heard one query ≡ answer_by number marks heard other query

-- no two of them are different drawops of one name
abbrev pub NoneClash : List DrawopValue → Type 0
NoneClash arrivals = (d e : DrawopValue) → Contains arrivals d → Contains arrivals e → d.name ≡ e.name → d ≡ e

-- there is a cell for each of their names: each history of them fits
abbrev pub HasCells : ℕ → List DrawopValue → Type 0
HasCells cells arrivals = (history : List DrawopValue) → IsHistory history → ((d : DrawopValue) → Contains history d → Contains arrivals d) → length history ≤ cells

-- It makes no difference where one batch ends and the next begins.
abbrev pub BatchesAreOne : Type 0
BatchesAreOne = (cells : ℕ) (held some more : List DrawopValue) → history_after cells held (some ++ more) ≡ history_after cells (history_after cells held some) more

-- Arrivals that do not clash lead to the same drawops in every order, if there are cells for their names.
abbrev pub ArrivalsAreFree : Type 0
ArrivalsAreFree = (cells : ℕ) (arrivals others : List DrawopValue) → IsPermutation arrivals others → NoneClash arrivals → HasCells cells arrivals → IsPermutation (history_after cells [] arrivals) (history_after cells [] others)

-- So what is then printed for a question is the same.
abbrev pub PrintsAreFree : Type 0
PrintsAreFree = (number : ℕ) (marks : PageId → List MarkValue) (heard : List PageId) (cells : ℕ) (arrivals others : List DrawopValue) (query : Query) → cells ≤ MAX_CELLS → IsPermutation arrivals others → NoneClash arrivals → HasCells cells arrivals
    → answer_text (answer_by number marks heard (history_after cells [] arrivals) query) ≡ answer_text (answer_by number marks heard (history_after cells [] others) query)

-- ---- what a batch tells the keeper

-- at a host, and no arrivals wait
abbrev pub at_host : Option ℕ → Opened → RunState
at_host workers host = record { host = Some host; workers = workers; waiting = [] }

-- Whatever lines follow, they have the same outcomes from both.
abbrev pub GoOnAlike : Opened → Opened → Type 0
GoOnAlike one other = (workers : Option ℕ) (cut : Bool) (n : ℕ) (lines : List InputLine) (o : RunOutcome) → IsOutcomeFrom cut n (at_host workers one) lines o ↔ IsOutcomeFrom cut n (at_host workers other) lines o

-- The keeper of the one holds what that of the other does, and both print the same.
pub record IsSameTold (one other : Opened) : Type 0 where
  pub keeper : (v : MemberValue) → IsOpenAt v one ↔ IsOpenAt v other
  pub outcomes : GoOnAlike one other

-- A batch that is taken in some order is the act of a member that takes it so and tells its keeper the names as the script has them.
abbrev pub BatchesAreToldAsSaid : Type 0
BatchesAreToldAsSaid = (host : Opened) (d : DrawopValue) (ds order : List DrawopValue) → IsPermutation (d ∷ ds) order → IsSameTold (batched (d ∷ ds) order host) (taken order host)
