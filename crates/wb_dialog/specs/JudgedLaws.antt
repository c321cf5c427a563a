-- Laws of judged hosts.
use Rattle.std.specs.Prelude.{◌≡◌, ℕ, List, [], ◌∷◌, ◌++◌, AllPairs, true, false, Some, map}
use Rattle.wb_recovery.specs.declared.tuning.Tuning.{Tuning}
use Rattle.wb_judge.specs.Adding.{own_echo}
use Rattle.wb_keeping.specs.Laws.{KeptLine, Added, Came as CameIn, Ticked, Tuned, sent_by_kept}
use Rattle.wb_judging.specs.Echoing.{echoing}
use Rattle.wb_judging.specs.Handing.{handed}
use Rattle.wb_judging.specs.Judged.{Judged, moment_of}
use Rattle.wb_judging.specs.declared.call.Call.{Call}
use Rattle.wb_judging.specs.Laws.{is_record, is_send, sends_in}
use Rattle.wb_judging.specs.Performing.{after_judged, events_of, judging}
use Rattle.wb_lines.specs.Input.{InputLine}
use Rattle.wb_member.specs.declared.calls.Call.TheVariants as calls
use Rattle.wb_commands.specs.SentLines.{sends_text}
use Rattle.wb_commands.specs.declared.command.Command.TheVariants as lines
use Rattle.wb_dialog.specs.declared.line.DriverLine.{DriverLine}
use Rattle.wb_dialog.specs.declared.line.DriverLine.TheVariants as driver
use Rattle.wb_dialog.specs.declared.judged_line.JudgedLine.TheVariants.{Call as Calls}
use Rattle.wb_dialog.specs.Hosting.{Kept, kept_reply, prints}
use Rattle.wb_dialog.specs.Judged.{act, does}
use Rattle.wb_dialog.specs.Kinds.{judged, standing_from, unopened}
use Rattle.wb_dialog.specs.Texts.{events_text}

-- ---- what a judged member does for a line

-- Its block has a line for each of some events, in which all that is to be recorded stands before all that is to be sent.
pub record RecordsFirst (call : Call) (h next : Judged) (text : List ℕ) : Type 0 where
  pub next_is : next ≡ after_judged call h
  pub text_is : text ≡ events_text (events_of call h)
  pub order : AllPairs (λ one other. is_send one ≡ true → is_record other ≡ false) (events_of call h)

abbrev pub RecordBeforeSend : Type 0
RecordBeforeSend = (call : Call) (h next : Judged) (text : List ℕ) → act (Calls call) h ≡ does next text → RecordsFirst call h next text

-- ---- a judged host is a self-managing one

-- the line with which a driver hands a self-managing host the same
abbrev pub line_of_kept : KeptLine → DriverLine
line_of_kept (CameIn now v) = driver.Came now v
line_of_kept (Ticked now) = driver.Script (lines.Call (calls.Tick now))
line_of_kept (Added now page time op) = driver.Add (record { moment = now; time = time; page = page; op = op })
line_of_kept (Tuned constants) = driver.Script (lines.Call (calls.Tune constants))

-- The self-managing host that is handed one line in its place, the same or a tick, comes to the same and sends the same, but for an echo that a
-- report has besides.
pub record AsKept (call : Call) (h next : Judged) : Type 0 where
  pub rest : List ℕ
  pub reply_is : kept_reply (line_of_kept (handed call h)) h.kept ≡ prints (Some (Kept next.kept)) (sends_text (sent_by_kept (handed call h ∷ []) h.kept) ++ rest)
  pub sends : sends_in (events_of call h) ≡ map (echoing (own_echo (moment_of call h) (judging call h))) (sent_by_kept (handed call h ∷ []) h.kept)

abbrev pub JudgedIsKept : Type 0
JudgedIsKept = (tuning : Tuning) (before : List InputLine) (call : Call) (h next : Judged) (text : List ℕ)
    → (standing_from (unopened tuning) before).kind ≡ judged h → act (Calls call) h ≡ does next text → AsKept call h next
