-- Outcomes of items, and fronts of them.
use Rattle.std.proofs.Common.{◌≡◌, ℕ, ◌+◌, ◌<◌, ◌≤◌, true, false, List, [], ◌∷◌, ◌++◌, length, Result, Ok, Err, refl, sym, ap, subst, ◌∙◌, append_assoc, arith, nat_le, nat_lt}
use Rattle.std.proofs.lemmas.Bool.Decides.{nat_tests}
use Rattle.std.proofs.Math.Bool.{or-true}
use Rattle.wb_lines.specs.declared.handler.Stop.{Stop}
use Rattle.wb_lines.specs.declared.handler.Stop.TheVariants as handler_stops
use Rattle.wb_lines.specs.declared.fault.DriveFault.{DriveFault}
use Rattle.wb_lines.specs.declared.fault.DriveFault.TheVariants as faults
use Rattle.wb_lines.specs.Input.{InputLine, most_bytes, BeginsWith}
use Rattle.wb_lines.specs.Handling.{Met, whole, Step, goes, stops, ends, step_text}
use Rattle.wb_lines.specs.Taking.{most_passed}
use Rattle.wb_lines.specs.Driving.{Rules, Outcome, writes, before, stop, proceed, outcome_from}
use Rattle.wb_lines.specs.Items.{Items, over, group}
use Rattle.wb_lines.specs.Groups.{Steps, answer_of, IsOutcomeOf}
use Rattle.wb_lines.specs.Steps.{driver_fault, DoesOne, Begins, Answers}

-- ---- what was written before

pub before-nil : {F : Type 0} (o : Outcome F) → before [] o ≡ o
before-nil (writes text end) = refl

pub before-before : {F : Type 0} (x y : List ℕ) (o : Outcome F) → before x (before y o) ≡ before (x ++ y) o
before-before x y (writes text end) = ap (λ (t : List ℕ). writes t end) (sym (append_assoc x y text))

pub Begins-before : {F : Type 0} (o : Outcome F) (text written : List ℕ) → BeginsWith text written → Begins (before text o) written
Begins-before (writes rest end) text written b = (b.0 ++ rest, ap (λ (t : List ℕ). t ++ rest) b.1 ∙ append_assoc written b.0 rest)

pub Begins-more : {F : Type 0} (o : Outcome F) (x y : List ℕ) → Begins o y → Begins (before x o) (x ++ y)
Begins-more (writes text end) x y b = (b.0, ap (λ (t : List ℕ). x ++ t) b.1 ∙ sym (append_assoc x y b.0))

-- ---- lines that are taken one by one

pub few_lines : (most n : ℕ) → n < most → nat_lt n most ≡ true
few_lines most n few = grind (arith, nat_tests)

pub short_line : (line : List ℕ) → length line ≤ most_bytes → nat_le (length line) most_bytes ≡ true
short_line line short = grind (arith, nat_tests)

pub passed_line : (line : List ℕ) → length line ≤ most_bytes → nat_lt (length line) most_passed ≡ true
passed_line line short = grind (arith, nat_tests)

-- a line of an input that is not cut off
pub short_line_taken : {S F : Type 0} (rules : Rules S F) (n : ℕ) (s : S) (l : InputLine) (lines : List InputLine) → n < rules.most → length l.bytes ≤ most_bytes
    → outcome_from rules false n s (l ∷ lines) ≡ proceed (n + 1) (rules.step s (n + 1) (whole l)) (λ next. outcome_from rules false (n + 1) next lines)
short_line_taken rules n s l lines few short = rw (few_lines rules.most n few, short_line l.bytes short, passed_line l.bytes short, or-true l.ended) refl

-- ---- some outcome

-- something can always be done
abbrev pub Total : {S F : Type 0} → Steps S F → Type 0
Total Does = (s : _) (number : ℕ) (met : Met) (joined : List InputLine) → (one : Step _ _) × Does s number met joined one

pub record Some_outcome {S F : Type 0} (Does : Steps S F) (is : Items) (s : S) : Type 0 where
  pub o : Outcome F
  pub u : S
  pub is_one : IsOutcomeOf Does is s o u

pub some_outcome : {S F : Type 0} (Does : Steps S F) → Total Does → (is : Items) (s : S) → Some_outcome Does is s
some_outcome Does total (over end) s = record { o = stop (answer_of end); u = s; is_one = (refl, refl) }
some_outcome {S = S} {F = F} Does total (group number met joined rest) s = let one = total s number met joined in at one.0 one.1 (λ next. some_outcome Does total rest next) where
  at : (step : Step S F) → Does s number met joined step → ((next : S) → Some_outcome Does rest next) → Some_outcome Does (group number met joined rest) s
  at (goes text next) d more =
      let then_on = more next in
      record { o = before text then_on.o; u = then_on.u; is_one = (goes text next, d, (then_on.o, then_on.is_one, refl)) }
  at (stops text e) d more = record { o = before text (stop (Err (faults.Line number e))); u = s; is_one = (stops text e, d, refl) }
  at (ends text) d more = record { o = before text (stop (Err faults.Endless)); u = s; is_one = (ends text, d, refl) }

-- Of a step that may be done, of whose text a front was written.
pub begun_outcome : {S F : Type 0} (Does : Steps S F) → Total Does → (number : ℕ) (met : Met) (joined : List InputLine) (rest : Items) (s : S) (step : Step S F) (printed : List ℕ) → Does s number met joined step → BeginsWith (step_text step) printed
    → (o : Outcome F) × (u : S) × IsOutcomeOf Does (group number met joined rest) s o u × Begins o printed
begun_outcome Does total number met joined rest s (goes text next) printed d b =
    let then_on = some_outcome Does total rest next in
    (before text then_on.o, then_on.u, (goes text next, d, (then_on.o, then_on.is_one, refl)), Begins-before then_on.o text printed b)
begun_outcome Does total number met joined rest s (stops text e) printed d b =
    (before text (stop (Err (faults.Line number e))), s, (stops text e, d, refl), Begins-before (stop (Err (faults.Line number e))) text printed b)
begun_outcome {F = F} Does total number met joined rest s (ends text) printed d b =
    (before text (stop (Err faults.Endless)), s, (ends text, d, refl), Begins-before {F = F} (stop (Err faults.Endless)) text printed b)

-- ---- a handler that stops

pub halts : {S F : Type 0} (Does : Steps S F) (is_at : S → Type 0) → Total Does → (number : ℕ) (met : Met) (joined : List InputLine) (rest : Items) (s : S) (printed : List ℕ) (e : Stop F)
    → DoesOne {U = Unit {0}} is_at printed (Does s number met joined) (Err e) → Answers (IsOutcomeOf Does (group number met joined rest) s) printed s (Err (driver_fault number e))
halts Does is_at total number met joined rest s printed (handler_stops.Fault f) d = (stops printed f, d, refl)
halts Does is_at total number met joined rest s printed handler_stops.Endless d = (ends printed, d, refl)
halts Does is_at total number met joined rest s printed handler_stops.Memory d = begun_outcome Does total number met joined rest s d.0 printed d.1 d.2

-- ---- behind a text

-- an answer
pub answers_behind : {S F : Type 0} (A B : Outcome F → S → Type 0) (x y : List ℕ) (t : S) (result : Result ℕ (DriveFault F)) → ((o : Outcome F) (u : S) → A o u → B (before x o) u) → Answers A y t result → Answers B (x ++ y) t result
answers_behind {F = F} A B x y t result h a = at result a where
  plain : (end : Result ℕ (DriveFault F)) → A (before y (stop end)) t → B (before (x ++ y) (stop end)) t
  plain end a = subst (λ (o : Outcome F). B o t) (before-before x y (stop end)) (h (before y (stop end)) t a)

  at : (result : Result ℕ (DriveFault F)) → Answers A y t result → Answers B (x ++ y) t result
  at (Err faults.Memory) a = (before x a.0, a.1, h a.0 a.1 a.2, Begins-more a.0 x y a.3)
  at (Err faults.Write) a = (before x a.0, a.1, h a.0 a.1 a.2, Begins-more a.0 x y a.3)
  at (Err (faults.Line k e)) a = plain (Err (faults.Line k e)) a
  at (Err faults.Read) a = plain (Err faults.Read) a
  at (Err faults.Endless) a = plain (Err faults.Endless) a
  at (Ok n) a = plain (Ok n) a

-- a step that goes on
pub steps_behind : {S F : Type 0} (Does : Steps S F) (is_at : S → Type 0) (Whole : Outcome F → S → Type 0) (number : ℕ) (met : Met) (joined : List InputLine) (rest : Items) (x y : List ℕ) (s : S)
    → ((o : Outcome F) (u : S) → IsOutcomeOf Does (group number met joined rest) s o u → Whole (before x o) u) → ((next : S) × is_at next × Does s number met joined (goes y next))
    → (next : S) × is_at next × ((o : Outcome F) (u : S) → IsOutcomeOf Does rest next o u → Whole (before (x ++ y) o) u)
steps_behind {F = F} Does is_at Whole number met joined rest x y s h d =
    (d.0, d.1, λ o u one. subst (λ (p : Outcome F). Whole p u) (before-before x y o) (h (before y o) u (goes y d.0, d.2, (o, one, refl))))
