-- From the outcome of a driver to the answer of a check.
use Rattle.std.proofs.Common.{◌≡◌, ◌≢◌, ℕ, ◌+◌, ◌≤◌, Bool, true, false, cond, List, [], ◌∷◌, Result, Ok, Err, inl, inr, refl, sym, ap, ◌∙◌, nat_lt}
use Rattle.wb_lines.specs.declared.fault.DriveFault.{DriveFault}
use Rattle.wb_lines.specs.declared.fault.DriveFault.TheVariants as faults
use Rattle.wb_lines.specs.Input.{InputLine, input_lines}
use Rattle.wb_lines.specs.Handling.{Step, goes, stops, ends}
use Rattle.wb_lines.specs.Taking.{met, is_taken, is_passed}
use Rattle.wb_lines.specs.Driving.{Outcome, writes, rules_of, stop, proceed, outcome_from, outcome, IsStopped, Meets}
use Rattle.wb_commands.specs.declared.fault.LineFault.{LineFault}
use Rattle.wb_script.specs.declared.fault.RunFault.{RunFault}
use Rattle.wb_script.specs.declared.fault.RunFault.TheVariants as run_faults
use Rattle.wb_script.specs.Script.{most_lines}
use Rattle.wb_script.specs.Checking.{check_step, check_fault, check_answer, answer_at_end, Checks, IsCounted}
use Rattle.wb_script.proofs.Counted.{EndsCounted, counted_before, few_after, meets_counted}

-- ---- the number of a line that stops a check

counted_step : (number : ℕ) (step : Step (Unit {0}) LineFault) (rest : Unit {0} → Outcome LineFault) → number ≤ most_lines → ((next : Unit {0}) → EndsCounted (rest next)) → EndsCounted (proceed number step rest)
counted_step number (goes text next) rest few counted = counted_before text (rest next) (counted next)
counted_step number (stops text e) rest few counted = few
counted_step number (ends text) rest few counted = tt

counted_where : (b : Bool) (o p : Outcome LineFault) → (b ≡ true → EndsCounted o) → EndsCounted p → EndsCounted (cond b o p)
counted_where true o p h k = h refl
counted_where false o p h k = k

counted_end : (cut : Bool) (n : ℕ) → EndsCounted (stop (cond cut (Err faults.Read) (Ok n)))
counted_end true n = tt
counted_end false n = tt

ends_counted : (cut : Bool) (n : ℕ) (lines : List InputLine) → EndsCounted (outcome_from (rules_of check_step most_lines) cut n tt lines)
ends_counted cut n [] = counted_end cut n
ends_counted cut n (line ∷ lines) =
    let rest : Unit {0} → Outcome LineFault = λ next. cond (is_passed line) (outcome_from (rules_of check_step most_lines) cut (n + 1) next lines) (stop (Err faults.Endless)) in
    counted_where (nat_lt n most_lines) (cond (is_taken cut line) (proceed (n + 1) (check_step tt (n + 1) (met line)) rest) (stop (Err faults.Read))) (stop (Err faults.Endless))
    (λ few. counted_where (is_taken cut line) (proceed (n + 1) (check_step tt (n + 1) (met line)) rest) (stop (Err faults.Read))
    (λ taken. counted_step (n + 1) (check_step tt (n + 1) (met line)) rest (few_after n few)
    (λ next. counted_where (is_passed line) (outcome_from (rules_of check_step most_lines) cut (n + 1) next lines) (stop (Err faults.Endless)) (λ passed. ends_counted cut (n + 1) lines) tt)) tt) tt

pub is_counted : (cut : Bool) (input written : List ℕ) (e : DriveFault LineFault) → Meets (outcome (rules_of check_step most_lines) cut tt input) written (Err e) → IsCounted most_lines e
is_counted cut input written e m = meets_counted (outcome (rules_of check_step most_lines) cut tt input) written e (ends_counted cut 0 (input_lines input)) m

-- ---- the answer

checks_stopped : (cut : Bool) (input : List ℕ) (result : Result ℕ (DriveFault LineFault)) → result ≢ Err faults.Write → IsStopped result → Checks cut input (check_answer result)
checks_stopped cut input (Err faults.Write) unwritten h = absurd (unwritten refl)
checks_stopped cut input (Err faults.Memory) unwritten h = inr refl
checks_stopped cut input result unwritten h = absurd h

checks_met : (cut : Bool) (input written : List ℕ) (o : Outcome LineFault) (result : Result ℕ (DriveFault LineFault)) → outcome (rules_of check_step most_lines) cut tt input ≡ o → result ≢ Err faults.Write
    → Meets o written result → Checks cut input (check_answer result)
checks_met cut input written (writes text end) result is unwritten (inl m) = inl (ap check_answer m.1 ∙ ap answer_at_end (sym is))
checks_met cut input written (writes text end) result is unwritten (inr m) = checks_stopped cut input result unwritten m.0

pub checks : (cut : Bool) (input written : List ℕ) (result : Result ℕ (DriveFault LineFault)) → result ≢ Err faults.Write → Meets (outcome (rules_of check_step most_lines) cut tt input) written result → Checks cut input (check_answer result)
checks cut input written result unwritten m = checks_met cut input written (outcome (rules_of check_step most_lines) cut tt input) result refl unwritten m

-- ---- a check fails to read only where its driver does, and it writes nothing

pub same_fault : {X : Type 0} (e f : RunFault) (x y : Result X RunFault) → x ≡ Err e → y ≡ Err f → x ≡ y → e ≡ f
same_fault e f x y p q h = cc

pub fault_reads : (e : DriveFault LineFault) → check_fault e ≡ run_faults.Read → e ≡ faults.Read
fault_reads faults.Read h = refl
fault_reads e h = absurd cc

pub fault_writes : (e : DriveFault LineFault) → check_fault e ≡ run_faults.Write → e ≡ faults.Write
fault_writes faults.Write h = refl
fault_writes e h = absurd cc
