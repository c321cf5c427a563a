-- What a judged member answers to a call, by what each part of it does.
use Rattle.std.proofs.Common.{◌≡◌, ◌∙◌, ℕ, Bool, true, false, None, Vec, Global, IfOk, ap, arith, refl, subst, sym}
use Rattle.std.specs.Prelude.{IsTrue, Option, Result, Ok, Err, Some, is_some, nat_le, nat_lt}
use Rattle.std.specs.Option.{option_map}
use Rattle.std.proofs.lemmas.Bool.Decides.{nat_tests}
use Rattle.wb_names.specs.Faults.{fault_unless}
use Rattle.wb_keeper.specs.declared.keep_fault.KeepFault.TheVariants.{BackInTime}
use Rattle.wb_member.specs.Opened.{present}
use Rattle.wb_keeping.specs.Refusing.{back_in_time}
use Rattle.wb_keeping.specs.declared.kept_fault.KeptFault.TheVariants.{Host}
use Rattle.wb_judging.specs.Calling.{Answers, AnswersBy, call_fault, is_early}
use Rattle.wb_judging.specs.Judged.{Call, CameFrom, Held, Judged, Passed, UserDrew}
use Rattle.wb_judging.specs.Performing.{IsJudgedAt, JudgedValue, Performs}
use Rattle.wb_judging.specs.Refusing.{IsRefusedAs}
use Rattle.wb_judging.specs.declared.event.Event.{Event}
use Rattle.wb_judging.specs.declared.judged_fault.JudgedFault.{JudgedFault}
use Rattle.wb_judging.specs.declared.judged_fault.JudgedFault.TheVariants.{Kept}

-- a call that gives its events, or fails
abbrev pub Gives : Call → JudgedValue → Result (Vec Event Global) JudgedFault → JudgedValue → Type 0
Gives call old r new = IfOk r (λ (events : Vec Event Global). Performs call old events.items new)

answers_by : (fault : Option JudgedFault) (call : Call) (h : Judged) (old new : JudgedValue) (r : Result (Vec Event Global) JudgedFault) → IsJudgedAt old h → IsRefusedAs fault r → (IsTrue (is_some fault) → new ≡ old) → Gives call old r new
    → AnswersBy fault call h old r new
answers_by None call h old new (Ok events) at is same gives = gives h at
answers_by None call h old new (Err e) at is same gives = is
answers_by (Some f) call h old new r at is same gives = (is, same refl)

-- a call that is refused for what its part is refused for
pub answers_as : (call x : Call) (old new : JudgedValue) (r : Result (Vec Event Global) JudgedFault) → call ≡ x → ((h : Judged) → IsJudgedAt old h → IsRefusedAs (call_fault x h) r)
    → ((h : Judged) → IsJudgedAt old h → IsTrue (is_some (call_fault x h)) → new ≡ old) → Gives x old r new → Answers call old r new
answers_as call x old new r is refused same gives =
    subst (λ (c : Call). Answers c old r new) (sym is) (λ h at. answers_by (call_fault x h) x h old new r at (refused h at) (same h at) gives)

-- ---- moments

in_time : (now before : ℕ) → nat_lt now before ≡ false → nat_le before now ≡ true
in_time now before late = grind (arith, nat_tests)

too_early : (now before : ℕ) → nat_lt now before ≡ true → nat_le before now ≡ false
too_early now before early = grind (arith, nat_tests)

-- a call before the present moment
abbrev IsBack : ℕ → Call → Judged → JudgedValue → Bool → Type 0
IsBack now call h v b = AnswersBy {A = Global} (option_map Kept (fault_unless b (Host BackInTime))) call h v (Err (Kept (Host BackInTime))) v

back : (now : ℕ) (call : Call) (h : Judged) (v : JudgedValue) → nat_lt now (present h.kept.host) ≡ true → IsBack now call h v (nat_le (present h.kept.host) now)
back now call h v early = subst (IsBack now call h v) (sym (too_early now (present h.kept.host) early)) (refl, refl)

pub refused_early : (call : Call) (h : Judged) (v : JudgedValue) → is_early call h ≡ true → AnswersBy {A = Global} (call_fault call h) call h v (Err (Kept (Host BackInTime))) v
refused_early (CameFrom now o d) h v early = back now (CameFrom now o d) h v early
refused_early (Passed now news) h v early = back now (Passed now news) h v early
refused_early (UserDrew now page op) h v early = absurd cc
refused_early (Held line) h v early = absurd cc

-- a call that is refused for its moment alone, and is not before the present one
pub answers_in_time : (call x : Call) (now : ℕ) (old new : JudgedValue) (r : Result (Vec Event Global) JudgedFault) → call ≡ x
    → ((h : Judged) → call_fault x h ≡ option_map Kept (back_in_time now h.kept)) → ((h : Judged) → is_early x h ≡ nat_lt now (present h.kept.host))
    → ((h : Judged) → IsJudgedAt old h → is_early call h ≡ false) → ((h : Judged) → IsJudgedAt old h → nat_le (present h.kept.host) now ≡ true → IsRefusedAs None r)
    → Gives x old r new → Answers call old r new
answers_in_time call x now old new r is fault early late refused gives = subst (λ (c : Call). Answers c old r new) (sym is) by where
  by : (h : Judged) → IsJudgedAt old h → AnswersBy (call_fault x h) x h old r new
  by h at =
      let time = in_time now (present h.kept.host) (sym (early h) ∙ ap (λ (c : Call). is_early c h) (sym is) ∙ late h at) in
      let none : ◌≡◌ {A = Option JudgedFault} (call_fault x h) None = fault h ∙ ap (λ (b : Bool). option_map Kept (fault_unless b (Host BackInTime))) time in
      subst (λ (f : Option JudgedFault). AnswersBy f x h old r new) (sym none) (answers_by None x h old new r at (refused h at time) (λ some. absurd cc) gives)
