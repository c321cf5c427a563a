-- The user's drawing: what becomes of it, by what each part of the call does.
use Rattle.std.proofs.Common.{◌≡◌, ◌∙◌, ℕ, Bool, List, [], ◌∷◌, ◌++◌, None, ap, append-nil, drop, length, refl, subst, sym, true}
use Rattle.std.specs.Prelude.{IsTrue, Option, Some, Result, Err, is_some}
use Rattle.std.specs.Option.{option_map}
use Rattle.wb_names.specs.Faults.{fault_unless, first_of}
use Rattle.wb_names.specs.declared.name.PageId.{PageId}
use Rattle.wb_names.specs.declared.parts.Op.{Op}
use Rattle.wb_codec.specs.declared.datagram.Datagram.{Datagram}
use Rattle.wb_judge.specs.Adding.{adding_fault, own_echo}
use Rattle.wb_judge.specs.Days.{time_of_day}
use Rattle.wb_judge.specs.Judge.{Judge as JudgeState}
use Rattle.wb_judge.specs.Judging.{draws}
use Rattle.wb_judge.specs.declared.judge.AddFault.{AddFault}
use Rattle.wb_keeping.specs.Laws.{Added, KeptLine}
use Rattle.wb_keeping.specs.Performing.{IsKeptAt, Keeping, KeptValue}
use Rattle.wb_keeping.specs.Refusing.{IsRefusedBy, add_fault}
use Rattle.wb_keeping.specs.declared.kept_fault.KeptFault.{KeptFault}
use Rattle.wb_keeping.specs.declared.kept_fault.KeptFault.TheVariants.{Numbers}
use Rattle.wb_judging.specs.Events.{gain_events, told}
use Rattle.wb_judging.specs.Handing.{handed}
use Rattle.wb_judging.specs.Hearing.{after_sends}
use Rattle.wb_judging.specs.Judged.{Judged, UserDrew}
use Rattle.wb_judging.specs.Performing.{IsJudgedAt, JudgedValue, KeptDoes, after_judged, events_of}
use Rattle.wb_judging.specs.Recording.{gain_lines}
use Rattle.wb_judging.specs.Refusing.{IsRefusedAs, draw_fault, has_number}
use Rattle.wb_judging.specs.declared.event.Event.{Event}
use Rattle.wb_judging.specs.declared.event.Fate.{Fate}
use Rattle.wb_judging.specs.declared.judged_fault.JudgedFault.{JudgedFault}
use Rattle.wb_judging.specs.declared.judged_fault.JudgedFault.TheVariants.{Judge, Kept}
use Rattle.wb_judging.specs.declared.record.Giver.TheVariants.{User}
use Rattle.wb_judging.specs.declared.record.RecordLine.{RecordLine}
use Rattle.wb_judging.proofs.Handed.{alone}
use Rattle.wb_judging.proofs.Performed.{performed, went}

-- ---- refusals

-- the judge does not refuse it
pub drawn_fault : (now : ℕ) (page : PageId) (op : Op) (h : Judged) (drawing : Bool) (held : ℕ) (j : JudgeState) (r : Option AddFault) → r ≡ adding_fault drawing held j → r ≡ None
    → drawing ≡ draws op → held ≡ length h.kept.host.is.held → j ≡ h.judge → has_number page h.kept.host ≡ true → draw_fault now page op h ≡ option_map Kept (add_fault now page (time_of_day h.judge.clock now) op h.kept)
drawn_fault now page op h drawing held j r is none draws_it count judge few =
    let same = is ∙ ap (λ (b : Bool). adding_fault b held j) draws_it ∙ ap (λ (n : ℕ). adding_fault (draws op) n j) count ∙ ap (λ (j : JudgeState). adding_fault (draws op) (length h.kept.host.is.held) j) judge in
    ap (λ (f : Option AddFault). first_of (option_map Judge f ∷ fault_unless (has_number page h.kept.host) (Kept Numbers) ∷ option_map Kept (add_fault now page (time_of_day h.judge.clock now) op h.kept) ∷ [])) (sym same ∙ none)
    ∙ ap (λ (b : Bool). first_of (fault_unless b (Kept Numbers) ∷ option_map Kept (add_fault now page (time_of_day h.judge.clock now) op h.kept) ∷ [])) few
    ∙ alone (option_map Kept (add_fault now page (time_of_day h.judge.clock now) op h.kept))

pub refused_as : (X Y : Type 0) (f : Option KeptFault) (e : KeptFault) (r : Result Y JudgedFault) → IsRefusedBy {X = X} f (Err e) → r ≡ Err (Kept e) → IsRefusedAs {X = Y} (option_map Kept f) r
refused_as X Y None e r is gives = subst (λ (r : Result Y JudgedFault). IsRefusedAs {X = Y} None r) (sym gives) (ap (λ (e : KeptFault). Kept e) is)
refused_as X Y (Some g) e r is gives = let same : e ≡ g = cc in gives ∙ ap (λ (e : KeptFault). Err (Kept e)) same

pub some_in : (f : Option KeptFault) → IsTrue (is_some (option_map Kept f)) → IsTrue (is_some f)
some_in None some = some
some_in (Some g) some = some

pub none_of : (f : Option AddFault) → ((g : AddFault) → f ≡ Some g → ⊥) → f ≡ None
none_of None other = refl
none_of (Some g) other = absurd (other g refl)

-- ---- it draws

pub drew : (now : ℕ) (page : PageId) (op : Op) (h : Judged) (k0 k2 : KeptValue) (j0 : JudgeState) (time held : ℕ) (sent : List Datagram) (fate : Option Fate) (lines : List RecordLine) (e0 e2 : List Event) (new : JudgedValue)
    → IsJudgedAt (record { kept = k0; judge = j0 }) h → time ≡ time_of_day j0.clock now → KeptDoes (Added now page time op) k0 k2 held sent fate
    → lines ≡ [] → e0 ≡ [] → new.kept ≡ k2 → new.judge ≡ after_sends sent j0
    → ((k : Keeping) → IsKeptAt k2 k → e2 ≡ e0 ++ told (gain_events now (lines ++ gain_lines User j0.strange.given (drop held k.host.is.held)) (drop held k.host.is.held)) (own_echo now j0) sent fate)
    → (e2 ≡ events_of (UserDrew now page op) h) × IsJudgedAt new (after_judged (UserDrew now page op) h)
drew now page op h k0 k2 j0 time held sent fate lines e0 e2 new at clock draws_it none begun kept judge tells =
    let line = UserDrew now page op in
    let old : JudgedValue = record { kept = k0; judge = j0 } in
    let mid : JudgedValue = record { kept = k2; judge = j0 } in
    let there : Added now page time op ≡ handed line h = ap (λ (t : ℕ). Added now page t op) (clock ∙ ap (λ (j : JudgeState). time_of_day j.clock now) at.judge) in
    let does = subst (λ (l : KeptLine). KeptDoes l k0 k2 held sent fate) there draws_it in
    performed line h old old new lines e0 e2 e2 at refl at.judge none begun
    (went now lines User (handed line h) old mid new held sent fate e0 e2 does refl kept judge tells)
    (sym (append-nil e2))
