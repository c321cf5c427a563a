-- What a line does to a member that is open, and what is printed. What a member is, and what each call does to it, is said where
-- the member is.
use Rattle.std.specs.Prelude.{ℕ, List, [], Option, Some, None}
use Rattle.wb_keeper.specs.declared.keep_fault.KeepFault.{KeepFault}
use Rattle.wb_member.specs.Calls.{after_call, fault_of as call_fault}
use Rattle.wb_member.specs.Opened.{Opened}
use Rattle.wb_member.specs.declared.calls.Call.{Call}
use Rattle.wb_commands.specs.declared.fault.LineFault.{LineFault}
use Rattle.wb_commands.specs.declared.fault.LineFault.TheVariants as faults
use Rattle.wb_commands.specs.declared.command.Command.{Command}
use Rattle.wb_commands.specs.declared.command.Command.TheVariants as lines
use Rattle.wb_member.specs.Questions.{answer_to}
use Rattle.wb_member.specs.declared.questions.Query.{Query}
use Rattle.wb_commands.specs.SentLines.{call_text}
use Rattle.wb_keeper.specs.declared.keep_fault.KeepFault.TheVariants as keeping
use Rattle.wb_commands.specs.Answers.{answer_text}

-- it prints a text and leads to a host; or it is refused
pub data Act : Type 0 where
  does : Opened → List ℕ → Act
  fails : LineFault → Act

-- An answer that has a text prints it; if no number is left, the question is refused.
abbrev pub tells : Opened → Option (List ℕ) → Act
tells host (Some text) = does host text
tells host None = fails faults.TooMany

abbrev pub question_act : Query → Opened → Act
question_act query host = tells host (answer_text (answer_to query host))

-- A call that the member refuses is not taken. If memory lacks, that says nothing of the line.
abbrev pub unless : Option KeepFault → Act → Act
unless None act = act
unless (Some keeping.BackInTime) act = fails faults.BackInTime
unless (Some keeping.Range) act = fails faults.Number
unless (Some keeping.TooMany) act = fails faults.TooMany
unless (Some keeping.Memory) act = act

abbrev pub called : Call → Opened → Act
called call host = unless (call_fault call host) (does (after_call call host) (call_text call host))

-- What a line does here. One that is skipped, that opens a board or that hands in an arrival does nothing here.
abbrev pub act : Command → Opened → Act
act (lines.Question query) host = question_act query host
act (lines.Call call) host = called call host
act line host = does host []
