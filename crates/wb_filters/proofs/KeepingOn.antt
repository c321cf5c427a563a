-- A filter that keeps going refuses no line.
use Rattle.std.proofs.Common.{◌≡◌, ◌≢◌, ℕ, ◌+◌, Bool, true, false, cond, List, [], ◌∷◌, Result, Ok, Err, inl, inr, refl, sym, ap, subst, ◌∙◌, nat_lt}
use Rattle.wb_lines.specs.declared.fault.DriveFault.{DriveFault}
use Rattle.wb_lines.specs.declared.fault.DriveFault.TheVariants as faults
use Rattle.wb_lines.specs.Input.{InputLine, input_lines, content}
use Rattle.wb_lines.specs.Handling.{Met, whole, too_long, Step, goes, stops, ends}
use Rattle.wb_lines.specs.Taking.{met, is_taken, is_passed}
use Rattle.wb_lines.specs.Driving.{Outcome, writes, rules_of, before, stop, proceed, outcome_from, IsStopped, Meets}
use Rattle.wb_filters.specs.declared.fault.LineFault.{LineFault}
use Rattle.wb_filters.specs.declared.filtering.Filter.{Filter}
use Rattle.wb_filters.specs.Filtering.{turned, told_on, ending, ended_by, written, filter_step, most_filter_lines, filter_outcome}
use Rattle.wb_filters.specs.Laws.{NoLineIsRefused}

-- ---- one line

-- the filter goes on, or it ends, and no line is at fault
abbrev GoesOn : Step Filter LineFault → Type 0
GoesOn (goes text next) = next.keeps_going ≡ true
GoesOn (stops text e) = ⊥
GoesOn (ends text) = Unit {0}

told_kept : (keeps : Bool) (number : ℕ) (said : Result (List ℕ) LineFault) → keeps ≡ true → (text : List ℕ) × (told_on keeps number said ≡ Ok text)
told_kept true number (Ok text) k = (text, refl)
told_kept true number (Err e) k = (_, refl)
told_kept false number said k = absurd cc

keeps_step : (filter : Filter) (number : ℕ) (m : Met) → filter.keeps_going ≡ true → GoesOn (filter_step filter number m)
keeps_step filter number too_long k = tt
keeps_step filter number (whole line) k =
    let told = told_kept filter.keeps_going number (turned filter.direction (content line)) k in
    subst (λ (said : Result (List ℕ) LineFault). GoesOn (written filter (ended_by (ending line) said))) (sym told.1) k

-- ---- all lines

abbrev NoLine : Outcome LineFault → Type 0
NoLine o = (text : List ℕ) (number : ℕ) (e : LineFault) → o ≢ writes text (Err (faults.Line number e))

end_as : (text rest : List ℕ) (end other : Result ℕ (DriveFault LineFault)) → writes text end ≡ writes rest other → end ≡ other
end_as text rest end other e = cc

none_before : (front : List ℕ) (o : Outcome LineFault) → NoLine o → NoLine (before front o)
none_before front (writes rest end) none = λ text number e is. none rest number e (ap (writes rest) (end_as _ text end (Err (faults.Line number e)) is))

none_where : (b : Bool) (o p : Outcome LineFault) → NoLine o → NoLine p → NoLine (cond b o p)
none_where true o p h k = h
none_where false o p h k = k

none_endless : NoLine (stop (Err faults.Endless))
none_endless text number e is = absurd cc

none_read : NoLine (stop (Err faults.Read))
none_read text number e is = absurd cc

none_ok : (n : ℕ) → NoLine (stop (Ok n))
none_ok n text number e is = absurd cc

none_end : (cut : Bool) (n : ℕ) → NoLine (stop (cond cut (Err faults.Read) (Ok n)))
none_end true n = none_read
none_end false n = none_ok n

none_step : (number : ℕ) (step : Step Filter LineFault) (rest : Filter → Outcome LineFault) → GoesOn step → ((next : Filter) → next.keeps_going ≡ true → NoLine (rest next)) → NoLine (proceed number step rest)
none_step number (goes text next) rest on none = none_before text (rest next) (none next on)
none_step number (stops text e) rest on none = absurd on
none_step number (ends text) rest on none = none_before text (stop (Err faults.Endless)) none_endless

none_from : (cut : Bool) (n : ℕ) (filter : Filter) (lines : List InputLine) → filter.keeps_going ≡ true → NoLine (outcome_from (rules_of filter_step most_filter_lines) cut n filter lines)
none_from cut n filter [] k = none_end cut n
none_from cut n filter (line ∷ lines) k =
    let rest : Filter → Outcome LineFault = λ next. cond (is_passed line) (outcome_from (rules_of filter_step most_filter_lines) cut (n + 1) next lines) (stop (Err faults.Endless)) in
    let taken : Outcome LineFault = proceed (n + 1) (filter_step filter (n + 1) (met line)) rest in
    none_where (nat_lt n most_filter_lines) (cond (is_taken cut line) taken (stop (Err faults.Read))) (stop (Err faults.Endless))
    (none_where (is_taken cut line) taken (stop (Err faults.Read))
    (none_step (n + 1) (filter_step filter (n + 1) (met line)) rest (keeps_step filter (n + 1) (met line) k)
    (λ next kept. none_where (is_passed line) (outcome_from (rules_of filter_step most_filter_lines) cut (n + 1) next lines) (stop (Err faults.Endless)) (none_from cut (n + 1) next lines kept) none_endless)) none_read) none_endless

pub no_line_is_refused : NoLineIsRefused
no_line_is_refused filter cut input k = none_from cut 0 filter (input_lines input) k

-- ---- what the code answers

met_none : (o : Outcome LineFault) (text : List ℕ) (result : Result ℕ (DriveFault LineFault)) → NoLine o → Meets o text result → (number : ℕ) (e : LineFault) → result ≢ Err (faults.Line number e)
met_none (writes all end) text result none (inl m) number e is = none all number e (ap (writes all) (sym m.1 ∙ is))
met_none (writes all end) text result none (inr m) number e is = subst (λ (r : Result ℕ (DriveFault LineFault)). IsStopped r) is m.0

pub answers_no_line : (filter : Filter) (cut : Bool) (input text : List ℕ) (result : Result ℕ (DriveFault LineFault)) → Meets (filter_outcome filter cut input) text result → filter.keeps_going ≡ true
    → (number : ℕ) (e : LineFault) → result ≢ Err (faults.Line number e)
answers_no_line filter cut input text result m k = met_none (filter_outcome filter cut input) text result (no_line_is_refused filter cut input k) m
