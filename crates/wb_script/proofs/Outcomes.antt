-- What a script does, one line after the other.
use Rattle.std.proofs.Common.{◌≡◌, ℕ, ◌+◌, Bool, false, cond, List, [], ◌∷◌, ◌++◌, length, Result, Ok, Err, refl, sym, ap, append_assoc, Option, Some, None, nat_le, nat_lt, ◌&&◌}
use Rattle.std.proofs.lemmas.List.Sorted.{IsPermutation-refl}
use Rattle.wb_names.specs.Values.{DrawopValue}
use Rattle.wb_script.specs.declared.fault.RunFault.{RunFault}
use Rattle.wb_script.specs.declared.fault.RunFault.TheVariants as run_faults
use Rattle.wb_script.specs.declared.running.Summary.{Summary}
use Rattle.wb_lines.specs.Input.{InputLine, content, most_bytes}
use Rattle.wb_script.specs.Script.{RunState, MayBeTaken, RunStep, moves_on, refused, step_of, RunOutcome, prints, printed_before, finish, follow_step, continue, most_lines, run_outcome_from, Finishes, Proceeds, fault_at, Continues, IsOutcomeFrom}

-- ---- what was written before

pub before-nil : (o : RunOutcome) → printed_before [] o ≡ o
before-nil (prints text end) = refl

pub before-before : (x y : List ℕ) (o : RunOutcome) → printed_before x (printed_before y o) ≡ printed_before (x ++ y) o
before-before x y (prints text end) = ap (λ (t : List ℕ). prints t end) (sym (append_assoc x y text))

pub text_of : (t u : List ℕ) (e f : Result Summary RunFault) → prints t e ≡ prints u f → t ≡ u
text_of t u e f h = cc

pub end_of : (t u : List ℕ) (e f : Result Summary RunFault) → prints t e ≡ prints u f → e ≡ f
end_of t u e f h = cc

-- ---- what one thread prints is an outcome

pub as_it_came : (workers : Option ℕ) (batch : List DrawopValue) → MayBeTaken workers batch batch
as_it_came workers batch = record { moved = IsPermutation-refl batch; alone = λ a. refl }

pub finishes : (s : RunState) (ending : Result ℕ RunFault) → Finishes s ending (finish s s.waiting ending)
finishes s ending = (s.waiting, as_it_came s.workers s.waiting, refl)

proceeds : (number : ℕ) (Rest : RunState → RunOutcome → Type 0) (rest : RunState → RunOutcome) (step : RunStep) → ((t : RunState) → Rest t (rest t)) → Proceeds number Rest (follow_step number step rest) step
proceeds number Rest rest (moves_on t text) all = (rest t, all t, refl)
proceeds number Rest rest (refused t text e) all = (finish t t.waiting (Err (run_faults.Line number e)), finishes t (Err (run_faults.Line number e)), refl)

continues : (fault : Option RunFault) (number : ℕ) (s : RunState) (bytes : List ℕ) (Rest : RunState → RunOutcome → Type 0) (rest : RunState → RunOutcome) → ((t : RunState) → Rest t (rest t)) → Continues fault number s bytes Rest (continue fault number s bytes rest)
continues None number s bytes Rest rest all = (s.waiting, as_it_came s.workers s.waiting, proceeds number Rest rest (step_of s s.waiting bytes) all)
continues (Some e) number s bytes Rest rest all = finishes s (Err e)

pub one_thread : (cut : Bool) (n : ℕ) (s : RunState) (lines : List InputLine) → IsOutcomeFrom cut n s lines (run_outcome_from cut n s lines)
one_thread cut n s [] = finishes s (cond cut (Err run_faults.Read) (Ok n))
one_thread cut n s (line ∷ lines) = continues (fault_at cut n line) (n + 1) s (content line) (λ t next. IsOutcomeFrom cut (n + 1) t lines next) (λ t. run_outcome_from cut (n + 1) t lines) (λ t. one_thread cut (n + 1) t lines)

-- ---- a line that is not taken

pub too_many : (cut : Bool) (n : ℕ) (s : RunState) (line : InputLine) (lines : List InputLine) → nat_lt n most_lines && nat_le (length line.bytes) most_bytes ≡ false → run_outcome_from cut n s (line ∷ lines) ≡ finish s s.waiting (Err run_faults.Endless)
too_many cut n s line lines e = rw e refl
