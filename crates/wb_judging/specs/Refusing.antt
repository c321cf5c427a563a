-- Why a judged member refuses a call.
use Rattle.std.specs.Prelude.{◌≡◌, ℕ, ◌+◌, Bool, [], ◌∷◌, Option, Some, None, Result, Ok, Err, length, nat_lt}
use Rattle.std.specs.Option.{option_map}
use Rattle.wb_names.specs.Faults.{fault_unless, first_of}
use Rattle.wb_names.specs.declared.name.PageId.{PageId}
use Rattle.wb_names.specs.declared.name.TheConstants.{FIRST_FORGED}
use Rattle.wb_names.specs.declared.parts.Op.{Op}
use Rattle.wb_judge.specs.Adding.{adding_fault}
use Rattle.wb_judge.specs.Days.{time_of_day}
use Rattle.wb_judge.specs.Judging.{draws}
use Rattle.wb_keeper.specs.declared.keep_fault.KeepFault.TheVariants.{Memory}
use Rattle.wb_keeping.specs.Laws.{fault_of}
use Rattle.wb_keeping.specs.Refusing.{add_fault}
use Rattle.wb_keeping.specs.declared.kept_fault.KeptFault.{KeptFault}
use Rattle.wb_keeping.specs.declared.kept_fault.KeptFault.TheVariants.{Host, Numbers}
use Rattle.wb_member.specs.Opened.{Opened, last_number}
use Rattle.wb_judging.specs.Handing.{handed}
use Rattle.wb_judging.specs.Judged.{Held, Judged}
use Rattle.wb_judging.specs.declared.judged_fault.JudgedFault.{JudgedFault}
use Rattle.wb_judging.specs.declared.judged_fault.JudgedFault.TheVariants.{Judge, Kept}
use Rattle.wb_judging.specs.declared.record.RecordLine.{RecordLine}

-- A line of the record is refused only if it has a drawop of ours under a number that we would never reach.
abbrev pub held_fault : RecordLine → Judged → Option KeptFault
held_fault line h = fault_of (handed (Held line) h) h.kept

-- We have a number left on a page, below 2^31: a record is refused that has another of ours.
abbrev pub has_number : PageId → Opened → Bool
has_number page host = nat_lt (last_number page host + 1) FIRST_FORGED

-- The user draws: the fault of the judge, else that there are too many numbers, else that of the kept member.
abbrev pub draw_fault : ℕ → PageId → Op → Judged → Option JudgedFault
draw_fault now page op h = first_of (
    option_map Judge (adding_fault (draws op) (length h.kept.host.is.held) h.judge)
    ∷ fault_unless (has_number page h.kept.host) (Kept Numbers)
    ∷ option_map Kept (add_fault now page (time_of_day h.judge.clock now) op h.kept)
    ∷ [])

-- The result is the fault, or an answer if there is none, unless memory ran out.
abbrev pub IsRefusedAs : {X : Type 0} → Option JudgedFault → Result X JudgedFault → Type 0
IsRefusedAs (Some fault) result = result ≡ Err fault
IsRefusedAs None (Ok x) = Unit {0}
IsRefusedAs None (Err fault) = fault ≡ Kept (Host Memory)
