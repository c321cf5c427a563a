-- Which calls a judged member takes, and what it answers.
use Rattle.std.specs.Prelude.{◌≡◌, Bool, false, Option, Some, None, Result, Ok, Err, Vec, nat_lt}
use Rattle.std.specs.Option.{option_map}
use Rattle.wb_names.specs.Moments.{IsMoment}
use Rattle.wb_member.specs.Opened.{present}
use Rattle.wb_keeper.specs.declared.keep_fault.KeepFault.TheVariants.{Memory}
use Rattle.wb_keeping.specs.Refusing.{back_in_time}
use Rattle.wb_keeping.specs.declared.kept_fault.KeptFault.TheVariants.{Host}
use Rattle.wb_judging.specs.Judged.{Call, CameFrom, Held, Judged, Passed, UserDrew, moment_of}
use Rattle.wb_judging.specs.News.{IsTellable}
use Rattle.wb_judging.specs.Performing.{IsJudgedAt, JudgedValue, after_judged, events_of}
use Rattle.wb_judging.specs.Refusing.{draw_fault, held_fault}
use Rattle.wb_judging.specs.declared.event.Event.{Event}
use Rattle.wb_judging.specs.declared.judged_fault.JudgedFault.{JudgedFault}
use Rattle.wb_judging.specs.declared.judged_fault.JudgedFault.TheVariants.{Kept}

-- its moment is below 2^48, and what news carries is within its limits
abbrev pub IsWithin : Call → Type 0
IsWithin (CameFrom now o v) = IsMoment now
IsWithin (Passed now news) = IsMoment now × IsTellable news
IsWithin (UserDrew now page op) = IsMoment now
IsWithin (Held line) = Unit {0}

-- before the present moment, but for the user's drawings, whose other faults come first
abbrev pub is_early : Call → Judged → Bool
is_early (UserDrew now page op) h = false
is_early (Held line) h = false
is_early call h = nat_lt (moment_of call h) (present h.kept.host)

-- Why a call is refused, if it is. All but the user's drawings and the record are refused before the present moment, and for nothing else.
abbrev pub call_fault : Call → Judged → Option JudgedFault
call_fault (UserDrew now page op) h = draw_fault now page op h
call_fault (Held line) h = option_map Kept (held_fault line h)
call_fault call h = option_map Kept (back_in_time (moment_of call h) h.kept)

-- A refused call says why, and the member stays as it was. Any other gives its events, and the member is where it leads; or memory ran out.
abbrev pub AnswersBy : {A : Type 0} → Option JudgedFault → Call → Judged → JudgedValue → Result (Vec Event A) JudgedFault → JudgedValue → Type 0
AnswersBy (Some fault) call h old result new = (result ≡ Err fault) × (new ≡ old)
AnswersBy None call h old (Ok events) new = (events.items ≡ events_of call h) × IsJudgedAt new (after_judged call h)
AnswersBy None call h old (Err fault) new = fault ≡ Kept (Host Memory)

-- The same at each state at which the member may be.
abbrev pub Answers : {A : Type 0} → Call → JudgedValue → Result (Vec Event A) JudgedFault → JudgedValue → Type 0
Answers call old result new = (h : Judged) → IsJudgedAt old h → AnswersBy (call_fault call h) call h old result new
