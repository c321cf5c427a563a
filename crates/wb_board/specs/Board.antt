-- A whiteboard of one thread: its calls, their answers, and its runs.
use Rattle.std.specs.Prelude.{ℕ, List, [], ◌∷◌}
use Rattle.wb_names.specs.Values.{DrawopValue, MarkValue}
use Rattle.wb_names.specs.Arrivals.{history_with}
use Rattle.wb_names.specs.Marks.{IsReport}
use Rattle.wb_names.specs.declared.name.PageId.{PageId}
use Rattle.wb_names.specs.declared.gap.Gap.{Gap}
use Rattle.wb_gaps.specs.Gaps.{AreGaps}
use Rattle.wb_gaps.specs.Pages.{ArePages}
use Rattle.wb_display.specs.Display.{IsView}
use Rattle.wb_board.specs.Replies.{IsReply, outcome}
use Rattle.wb_board.specs.declared.reply.Reply.{Reply}

pub data Call : Type 0 where
  Accept : (d : DrawopValue) → Call
  AskGaps : (page : PageId) (marks : List MarkValue) → Call
  AskReport : (page : PageId) → Call
  AskPages : Call
  AskView : (page : PageId) → Call

pub data Answer : Type 0 where
  Replied : (reply : Reply) → Answer
  Gaps : (gaps : List Gap) → Answer
  Marks : (marks : List MarkValue) → Answer
  Pages : (pages : List PageId) → Answer
  Shown : (drawops : List DrawopValue) → Answer

-- the answer of a whiteboard that holds this history
abbrev pub IsAnswer : List DrawopValue → Call → Answer → Type 0
IsAnswer history (Accept d) (Replied reply) = IsReply history d reply
IsAnswer history (AskGaps page marks) (Gaps gaps) = AreGaps history page marks gaps
IsAnswer history (AskReport page) (Marks marks) = IsReport history page marks
IsAnswer history AskPages (Pages pages) = ArePages history pages
IsAnswer history (AskView page) (Shown drawops) = IsView history page drawops
IsAnswer history call answer = ⊥

-- the history after the call: only a new drawop extends it
abbrev pub after_call : List DrawopValue → Call → Answer → List DrawopValue
after_call history (Accept d) (Replied reply) = history_with history d (outcome reply)
after_call history call answer = history

-- one call of one caller, with its answer
pub record Step : Type 0 where
  pub caller : ℕ
  pub call : Call
  pub answer : Answer

-- each answer is that of the whiteboard at the history so far
abbrev pub IsLegalFrom : List DrawopValue → List Step → Type 0
IsLegalFrom history [] = Unit {0}
IsLegalFrom history (step ∷ steps) = IsAnswer history step.call step.answer × IsLegalFrom (after_call history step.call step.answer) steps
