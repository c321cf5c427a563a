-- What a judged member did for a line, by what its call answered.
use Rattle.std.proofs.Common.{◌≡◌, ℕ, List, Option, Some, None, Result, Ok, Err, Vec, Global, refl, sym, ap, subst, ◌∙◌}
use Rattle.std.specs.Prelude.{length}
use Rattle.wb_keeper.specs.declared.keep_fault.KeepFault.TheVariants as keep_faults
use Rattle.wb_keeping.specs.declared.kept_fault.KeptFault.{KeptFault}
use Rattle.wb_keeping.specs.declared.kept_fault.KeptFault.TheVariants as kept_faults
use Rattle.wb_judge.specs.declared.judge.AddFault.TheVariants as add_faults
use Rattle.wb_judge.specs.declared.pages.Listed.{Listed}
use Rattle.wb_judging.specs.Asking.{AreListed}
use Rattle.wb_judging.specs.Calling.{Answers, AnswersBy, call_fault}
use Rattle.wb_judging.specs.Judged.{Judged}
use Rattle.wb_judging.specs.declared.call.Call.{Call}
use Rattle.wb_judging.specs.Performing.{IsJudgedAt, JudgedValue}
use Rattle.wb_judging.specs.Since.{IsSince, hidden_since}
use Rattle.wb_judging.specs.declared.event.Event.{Event}
use Rattle.wb_judging.specs.declared.judged_fault.JudgedFault.{JudgedFault}
use Rattle.wb_judging.specs.declared.judged_fault.JudgedFault.TheVariants as judged_faults
use Rattle.wb_judging.specs.declared.since.ShownAt.{ShownAt}
use Rattle.wb_judging.specs.declared.since.Since.{Since}
use Rattle.wb_names.specs.declared.name.PageId.{PageId}
use Rattle.wb_names.specs.declared.parts.Target.{Target}
use Rattle.wb_dialog.specs.declared.judged_line.JudgedLine.TheVariants.{Call as Calls, List as Lists, Since as SinceThen}
use Rattle.wb_dialog.specs.declared.told.Told.{Told}
use Rattle.wb_dialog.specs.declared.told.Told.TheVariants as tolds
use Rattle.wb_dialog.specs.Doing.{DoesAct, DoesJudged, events_told, unanswered_by_judged, unanswered_of}
use Rattle.wb_dialog.specs.Hosting.{kept_refusal}
use Rattle.wb_dialog.specs.Judged.{act, did, does, drawn_target, fails, judged_refusal, since_of}
use Rattle.wb_dialog.specs.Listing.{listed_first}
use Rattle.wb_dialog.specs.Texts.{events_text, list_text, since_text}
use Rattle.wb_dialog.specs.Inside.Told.{Says}
use Rattle.wb_dialog.proofs.ListedPages.{listed_are}

-- ---- it was refused

abbrev fault_in : {X F : Type 0} → F → Result X F → F
fault_in f (Ok x) = f
fault_in f (Err e) = e

kept_denied : (h : Judged) (new : JudgedValue) (e : KeptFault) → IsJudgedAt new h → DoesAct h new (Err (unanswered_of drawn_target e)) (fails (kept_refusal drawn_target e))
kept_denied h new (kept_faults.Host keep_faults.Memory) at = tt
kept_denied h new (kept_faults.Host keep_faults.BackInTime) at = (refl, at)
kept_denied h new (kept_faults.Host keep_faults.Range) at = (refl, at)
kept_denied h new (kept_faults.Host keep_faults.TooMany) at = (refl, at)
kept_denied h new kept_faults.Listening at = (refl, at)
kept_denied h new kept_faults.Ours at = (refl, at)
kept_denied h new kept_faults.Numbers at = (refl, at)
kept_denied h new (kept_faults.Operation fault) at = (refl, at)

denied : (h : Judged) (new : JudgedValue) (e : JudgedFault) → IsJudgedAt new h → DoesAct h new (Err (unanswered_by_judged e)) (fails (judged_refusal e))
denied h new (judged_faults.Judge add_faults.Twin) at = (refl, at)
denied h new (judged_faults.Judge add_faults.Full) at = (refl, at)
denied h new (judged_faults.Kept e) at = kept_denied h new e at

-- ---- one call

module _ (call : Call) (old new : JudgedValue) (h : Judged) where
  called_by : (fault : Option JudgedFault) (events : Vec Event Global) → AnswersBy fault call h old (Ok events) new → DoesAct h new (Ok (tolds.Events events)) (did fault call h)
  called_by None events answers = (answers.1, sym (ap events_text answers.0))
  called_by (Some f) events answers = absurd (let bad = answers.0 in cc)

  denied_by : (fault : Option JudgedFault) (e : JudgedFault) → IsJudgedAt old h → AnswersBy {A = Global} fault call h old (Err e) new → DoesAct h new (Err (unanswered_by_judged e)) (did fault call h)
  denied_by None e at answers = subst (λ (f : JudgedFault). DoesAct h new (Err (unanswered_by_judged f)) (did None call h)) (sym answers) tt
  denied_by (Some f) e at answers =
      let fault : e ≡ f = ap (fault_in {X = Vec Event Global} f) answers.0 in
      subst (λ (g : JudgedFault). DoesAct h new (Err (unanswered_by_judged e)) (fails (judged_refusal g))) fault (denied h new e (subst (λ (v : JudgedValue). IsJudgedAt v h) (sym answers.1) at))

called : (call : Call) (old new : JudgedValue) (events : Vec Event Global) → Answers call old (Ok events) new → DoesJudged old new (Ok (tolds.Events events)) (act (Calls call))
called call old new events answers h at = called_by call old new h (call_fault call h) events (answers h at)

uncalled : (call : Call) (old new : JudgedValue) (e : JudgedFault) → Answers {A = Global} call old (Err e) new → DoesJudged old new (Err (unanswered_by_judged e)) (act (Calls call))
uncalled call old new e answers h at = denied_by call old new h (call_fault call h) e at (answers h at)

pub told_call : (call : Call) (old new : JudgedValue) (r : Result (Vec Event Global) JudgedFault) → Answers call old r new → DoesJudged old new (events_told r) (act (Calls call))
told_call call old new (Ok events) answers = called call old new events answers
told_call call old new (Err e) answers = uncalled call old new e answers

-- ---- a question

-- The member stayed as it was, and this is the text.
pub found : (old new : JudgedValue) (told : Told) (text : Judged → List ℕ) → new ≡ old → ((h : Judged) → IsJudgedAt old h → Says told (text h)) → DoesJudged old new (Ok told) (λ h. does h (text h))
found old new told text same says h at = (subst (λ (v : JudgedValue). IsJudgedAt v h) (sym same) at, says h at)

pub lists : (most : ℕ) (old new : JudgedValue) (pages : Vec Listed Global) → new ≡ old → ((h : Judged) → IsJudgedAt old h → AreListed most h pages.items) → DoesJudged old new (Ok (tolds.Pages pages)) (act (Lists most))
lists most old new pages same listed = found old new (tolds.Pages pages) (λ h. list_text (listed_first most h)) same (λ h at. sym (ap list_text (listed_are most h pages.items (listed h at))))

pub sinces : (page : PageId) (count : ℕ) (old new : JudgedValue) (since : Since) → new ≡ old → ((h : Judged) → IsJudgedAt old h → IsSince page count h.kept.host.is.held since)
    → DoesJudged old new (Ok (tolds.Since since)) (act (SinceThen page count))
sinces page count old new since same is =
    found old new (tolds.Since since) (λ h. since_of page count h.kept.host.is.held) same (λ h at. let s = is h at in
    sym (ap (λ (n : ℕ). since_text n since.hidden.items since.shown.items) s.held_now
    ∙ ap (λ (ts : List Target). since_text (length h.kept.host.is.held) ts since.shown.items) s.hidden
    ∙ ap (λ (ps : List ShownAt). since_text (length h.kept.host.is.held) (hidden_since page count h.kept.host.is.held) ps) s.shown))
