-- What a judged member gives for a call, by what it answered.
use Rattle.std.proofs.Common.{◌≡◌, ℕ, List, ◌++◌, true, false, Option, Some, None, Result, Ok, Err, Vec, Global, IfOk, MatchResult, sym, ap, ◌∙◌}
use Rattle.wb_keeper.specs.declared.keep_fault.KeepFault.TheVariants as keep_faults
use Rattle.wb_keeping.specs.declared.kept_fault.KeptFault.TheVariants as kept_faults
use Rattle.wb_judging.specs.Calling.{Answers, AnswersBy, call_fault}
use Rattle.wb_judging.specs.Judged.{Judged}
use Rattle.wb_judging.specs.declared.call.Call.{Call}
use Rattle.wb_judging.specs.Performing.{JudgedValue}
use Rattle.wb_judging.specs.declared.event.Event.{Event as JudgedEvent}
use Rattle.wb_judging.specs.declared.judged_fault.JudgedFault.{JudgedFault}
use Rattle.wb_judging.specs.declared.judged_fault.JudgedFault.TheVariants.{Kept}
use Rattle.wb_c.specs.Judging.{Denies, Gives, Judges, JudgesBy, given}
use Rattle.wb_c.specs.Statuses.{is_memory_at_judged, judged_status}
use Rattle.wb_c.specs.declared.event.Event.{Event}

not_memory : (e : JudgedFault) → is_memory_at_judged e ≡ false → e ≡ Kept (kept_faults.Host keep_faults.Memory) → ⊥
not_memory e is same = absurd (let both : true ≡ false = sym (ap is_memory_at_judged same) ∙ is in cc)

abbrev fault_in : {X F : Type 0} → F → Result X F → F
fault_in f (Ok x) = f
fault_in f (Err e) = e

module _ (call : Call) (old new : JudgedValue) (before after : List Event) (status : ℕ) (h : Judged) where
  judged_by : (fault : Option JudgedFault) (r : Result (Vec JudgedEvent Global) JudgedFault) → AnswersBy fault call h old r new
      → MatchResult r (λ (events : Vec JudgedEvent Global). (status ≡ 0) × (after ≡ before ++ given events.items)) (λ e. (after ≡ before) × ((is_memory_at_judged e ≡ false) × (status ≡ judged_status e)))
      → JudgesBy fault call h old new before after status
  judged_by None (Ok events) answers gives = (gives.0, answers.1, gives.1 ∙ ap (λ (es : List JudgedEvent). before ++ given es) answers.0)
  judged_by None (Err e) answers denies = absurd (not_memory e denies.1.0 answers)
  judged_by (Some f) (Ok events) answers gives = absurd (let bad = answers.0 in cc)
  judged_by (Some f) (Err e) answers denies = (denies.1.1 ∙ ap judged_status (ap (fault_in {X = Vec JudgedEvent Global} f) answers.0), answers.1, denies.0)

pub judges : {E : Type 0} (call : Call) (old new : JudgedValue) (r : Result (Vec JudgedEvent Global) JudgedFault) (before after : List Event) (result : Result ℕ E) → Answers call old r new
    → MatchResult r (λ (events : Vec JudgedEvent Global). Gives events.items before after result) (λ e. Denies e before after result) → IfOk result (Judges call old new before after)
judges call old new r before after (Ok status) answers told = λ h at. judged_by call old new before after status h (call_fault call h) r (answers h at) told
judges call old new r before after (Err e) answers told = tt
