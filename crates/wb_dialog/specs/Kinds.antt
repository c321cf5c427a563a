-- What a host of any kind does for a line of its driver, and what is written for the lines.
use Rattle.std.specs.Prelude.{ℕ, List, [], ◌∷◌, ◌++◌, Bool, Option, Some, None, Ok, Err}
use Rattle.std.specs.List.{concat}
use Rattle.std.specs.declared.convert.Infallible.{Infallible}
use Rattle.wb_recovery.specs.declared.tuning.Tuning.{Tuning}
use Rattle.wb_judge.specs.Judge.{Judge}
use Rattle.wb_judging.specs.Judged.{Judged}
use Rattle.wb_judging.specs.declared.call.Call.TheVariants.{Passed}
use Rattle.wb_judging.specs.declared.news.News.TheVariants.{Nothing}
use Rattle.wb_lines.specs.Input.{InputLine, input_lines, content}
use Rattle.wb_lines.specs.Handling.{Met, whole, too_long, Step, goes}
use Rattle.wb_lines.specs.Taking.{met}
use Rattle.wb_member.specs.declared.calls.Call.TheVariants as calls
use Rattle.wb_commands.specs.declared.command.Command.TheVariants as lines
use Rattle.wb_commands.specs.declared.fault.LineFault.TheVariants as faults
use Rattle.wb_dialog.specs.declared.fault.Refusal.{Refusal}
use Rattle.wb_dialog.specs.declared.fault.Refusal.TheVariants as refusals
use Rattle.wb_dialog.specs.declared.judged_line.JudgeLine.{JudgeLine}
use Rattle.wb_dialog.specs.declared.judged_line.JudgedLine.TheVariants.{Call as Calls}
use Rattle.wb_dialog.specs.declared.line.DriverLine.{DriverLine}
use Rattle.wb_dialog.specs.declared.line.DriverLine.TheVariants.{Script}
use Rattle.wb_dialog.specs.declared.said.Said.{Said}
use Rattle.wb_dialog.specs.declared.said.Said.TheVariants as saids
use Rattle.wb_dialog.specs.Dialog.{answered_lines, ok_line, refused_line}
use Rattle.wb_dialog.specs.Hosting.{Host, Driven, Kept, Reply, prints, denies, due_at, kept_reply, reply as unjudged_reply}
use Rattle.wb_dialog.specs.Judged.{Act, does, fails, act, begun}
use Rattle.wb_dialog.specs.Lines.{as_refusal, said_of, unjudged_line}

-- What a host is. It has no judge, and is closed, driven or kept; or it is judged.
pub data Kind : Type 0 where
  unjudged : Option Host → Kind
  judged : Judged → Kind

-- What a line does: it leads to a host, and a text is printed before its block is closed; or it is refused.
pub data Response : Type 0 where
  answers : Kind → List ℕ → Response
  rejects : Refusal → Response

abbrev pub as_unjudged : Reply → Response
as_unjudged (prints next text) = answers (unjudged next) text
as_unjudged (denies e) = rejects e

-- ---- a line

-- what a line does that is for a judged host alone
abbrev pub as_judged : Act → Response
as_judged (does h text) = answers (judged h) text
as_judged (fails e) = rejects e

-- A line that any host has is answered at a judged one as by its self-managing member, which stays one. So it refuses what is for its driver to
-- judge.
abbrev pub as_kept : Judge → Reply → Response
as_kept j (prints (Some (Kept k)) text) = answers (judged (record { kept = k; judge = j })) text
as_kept j (prints next text) = answers (unjudged next) text
as_kept j (denies e) = rejects e

-- a line that any host has; of a tick its judge hears too
abbrev pub tick_of : DriverLine → Option ℕ
tick_of (Script (lines.Call (calls.Tick now))) = Some now
tick_of line = None

abbrev pub common_by : Option ℕ → DriverLine → Judged → Response
common_by (Some now) line h = as_judged (act (Calls (Passed now Nothing)) h)
common_by None line h = as_kept h.judge (kept_reply line h.kept)

abbrev pub common_response : DriverLine → Judged → Response
common_response line h = common_by (tick_of line) line h

abbrev pub judged_response : Said → Judged → Response
judged_response (saids.Common (Ok line)) h = common_response line h
judged_response (saids.Common (Err e)) h = rejects (refusals.Line e)
judged_response (saids.Own (Ok line) other) h = as_judged (act line h)
judged_response (saids.Own (Err e) other) h = rejects (refusals.Line e)
judged_response (saids.Unjudged read other) h = rejects (refusals.Line other)
judged_response (saids.Judge line) h = rejects refusals.Kept

-- ---- a host without a judge

-- A line that begins to judge stands in the place of `keep`: it is refused as that is, so after a line that acts it is too late. The host begins
-- anew, as a judged member of the board that it opened.
abbrev pub judge_response : Tuning → JudgeLine → Option Host → Response
judge_response tuning line None = rejects (refusals.Line faults.NoBoard)
judge_response tuning line (Some (Driven host None)) = rejects refusals.TooLate
judge_response tuning line (Some (Driven host (Some b))) = answers (judged (begun tuning line b)) []
judge_response tuning line (Some (Kept k)) = rejects refusals.Kept

abbrev pub unjudged_response : Tuning → Said → Option Host → Response
unjudged_response tuning (saids.Judge line) s = judge_response tuning line s
unjudged_response tuning said s = as_unjudged (unjudged_reply tuning s (as_refusal (unjudged_line said)))

-- ---- one line

abbrev pub response_by : Tuning → Kind → Said → Response
response_by tuning (unjudged s) said = unjudged_response tuning said s
response_by tuning (judged h) said = judged_response said h

-- what a host answers to a line, which stands without its end
abbrev pub response_to : Tuning → Kind → List ℕ → Response
response_to tuning s line = response_by tuning s (said_of line)

-- ---- blocks

-- the next moment at which it has something to do
abbrev pub due_of : Kind → Option ℕ
due_of (unjudged s) = due_at s
due_of (judged h) = due_at (Some (Kept h.kept))

-- what is printed for a line, and one line more, which closes it
abbrev pub block_of : Response → List ℕ
block_of (answers s text) = text ++ ok_line (due_of s)
block_of (rejects e) = refused_line e

-- the host after a line: if it is refused, the one before
abbrev pub kind_after : Kind → Response → Kind
kind_after s (answers t text) = t
kind_after s (rejects e) = s

-- ---- a transcript

-- the constants of the timers of the board that will be opened, and the host
pub record Standing : Type 0 where
  pub tuning : Tuning
  pub kind : Kind

abbrev pub after : Standing → Response → Standing
after s r = record { tuning = s.tuning; kind = kind_after s.kind r }

-- what a host answers to a line of the input, unless it is too long
abbrev pub response_of : Standing → Met → Response
response_of s (whole line) = response_to s.tuning s.kind (content line)
response_of s too_long = rejects refusals.Endless

-- What is written for a line of the input is a block, whatever its number. No line stops a dialog.
unfoldable pub step : Standing → ℕ → Met → Step Standing Infallible
step s number m = goes (block_of (response_of s m)) (after s (response_of s m))

-- the blocks of lines, in their order, from a host on
abbrev pub blocks_from : Standing → List InputLine → List (List ℕ)
blocks_from s [] = []
blocks_from s (line ∷ lines) = block_of (response_of s (met line)) ∷ blocks_from (after s (response_of s (met line))) lines

-- the host after lines
abbrev pub standing_from : Standing → List InputLine → Standing
standing_from s [] = s
standing_from s (line ∷ lines) = standing_from (after s (response_of s (met line))) lines

-- no board is open
abbrev pub unopened : Tuning → Standing
unopened tuning = record { tuning = tuning; kind = unjudged None }

-- what is written for an input, which is cut off if reading fails after it
abbrev pub transcript : Tuning → Bool → List ℕ → List ℕ
transcript tuning cut input = concat (blocks_from (unopened tuning) (answered_lines cut (input_lines input)))
