-- Two states that are alike before each line: each outcome from the one is what one thread prints from the other.
use Rattle.std.proofs.Common.{◌≡◌, ℕ, ◌+◌, Bool, cond, List, [], ◌∷◌, Result, Ok, Err, refl, ap, ◌∙◌, Option, Some, None}
use Rattle.wb_names.specs.Values.{DrawopValue}
use Rattle.wb_commands.specs.declared.fault.LineFault.{LineFault}
use Rattle.wb_script.specs.declared.fault.RunFault.{RunFault}
use Rattle.wb_script.specs.declared.fault.RunFault.TheVariants as run_faults
use Rattle.wb_lines.specs.Input.{InputLine, content}
use Rattle.wb_script.specs.Script.{RunState, MayBeTaken, part_in, RunStep, moves_on, refused, part_step, RunOutcome, printed_before, finish, follow_step, continue, run_outcome_from, Finishes, Proceeds, fault_at, Continues, IsOutcomeFrom}

-- A script that ends here prints the same and answers the same, in whatever order the one takes its batch.
abbrev pub EndsAlike : RunState → RunState → Type 0
EndsAlike s t = (order : List DrawopValue) → MayBeTaken s.workers s.waiting order → (ending : Result ℕ RunFault) → finish s order ending ≡ finish t t.waiting ending

-- Both go on alike, behind the same text; or both are refused alike.
abbrev pub StepsAlike : (RunState → RunState → Type 0) → RunStep → RunStep → Type 0
StepsAlike Alike (moves_on s text) (moves_on t text') = Alike s t × (text ≡ text')
StepsAlike Alike (refused s text e) (refused t text' e') = EndsAlike s t × (text ≡ text') × (e ≡ e')
StepsAlike Alike (moves_on s text) (refused t text' e) = ⊥
StepsAlike Alike (refused s text e) (moves_on t text') = ⊥

-- If they are alike, they end alike, and each line that is taken leads to states that are alike.
pub record Simulates (cut : Bool) (Alike : ℕ → List InputLine → RunState → RunState → Type 0) : Type 0 where
  pub ends : (n : ℕ) (lines : List InputLine) (s t : RunState) → Alike n lines s t → EndsAlike s t
  pub steps : (n : ℕ) (line : InputLine) (lines : List InputLine) (s t : RunState) (order : List DrawopValue) → Alike n (line ∷ lines) s t → fault_at cut n line ≡ None → MayBeTaken s.workers s.waiting order
      → StepsAlike (Alike (n + 1) lines) (part_step s order (part_in line)) (part_step t t.waiting (part_in line))

finishes : (s t : RunState) (ending : Result ℕ RunFault) (o : RunOutcome) → EndsAlike s t → Finishes s ending o → o ≡ finish t t.waiting ending
finishes s t ending o ends f = f.2 ∙ ends f.0 f.1 ending

proceeds : (number : ℕ) (Alike : RunState → RunState → Type 0) (Rest : RunState → RunOutcome → Type 0) (rest : RunState → RunOutcome) (o : RunOutcome) (step other : RunStep) → StepsAlike Alike step other
    → ((s t : RunState) (next : RunOutcome) → Alike s t → Rest s next → next ≡ rest t) → Proceeds number Rest o step → o ≡ follow_step number other rest
proceeds number Alike Rest rest o (moves_on s text) (moves_on t text') a on p = p.2 ∙ ap (λ (x : List ℕ). printed_before x p.0) a.1 ∙ ap (printed_before text') (on s t p.0 a.0 p.1)
proceeds number Alike Rest rest o (refused s text e) (refused t text' e') a on p =
    p.2 ∙ ap (λ (x : List ℕ). printed_before x p.0) a.1 ∙ ap (printed_before text') (finishes s t (Err (run_faults.Line number e)) p.0 a.0 p.1 ∙ ap (λ (f : LineFault). finish t t.waiting (Err (run_faults.Line number f))) a.2)
proceeds number Alike Rest rest o (moves_on s text) (refused t text' e) a on p = absurd a
proceeds number Alike Rest rest o (refused s text e) (moves_on t text') a on p = absurd a

module _ (cut : Bool) (Alike : ℕ → List InputLine → RunState → RunState → Type 0) (all : Simulates cut Alike) where
  continues : (fault : Option RunFault) (n : ℕ) (s t : RunState) (line : InputLine) (lines : List InputLine) (o : RunOutcome) → Alike n (line ∷ lines) s t → fault_at cut n line ≡ fault
      → Continues fault (n + 1) s (content line) (λ t next. IsOutcomeFrom cut (n + 1) t lines next) o
      → ((u v : RunState) (next : RunOutcome) → Alike (n + 1) lines u v → IsOutcomeFrom cut (n + 1) u lines next → next ≡ run_outcome_from cut (n + 1) v lines)
      → o ≡ continue fault (n + 1) t (content line) (λ t. run_outcome_from cut (n + 1) t lines)
  continues None n s t line lines o a free c on =
      proceeds (n + 1) (Alike (n + 1) lines) (λ t next. IsOutcomeFrom cut (n + 1) t lines next) (λ t. run_outcome_from cut (n + 1) t lines) o (part_step s c.0 (part_in line)) (part_step t t.waiting (part_in line))
      (all.steps n line lines s t c.0 a free c.1) on c.2
  continues (Some e) n s t line lines o a fault c on = finishes s t (Err e) o (all.ends n (line ∷ lines) s t a) c

  pub simulated : (n : ℕ) (s t : RunState) (lines : List InputLine) (o : RunOutcome) → Alike n lines s t → IsOutcomeFrom cut n s lines o → o ≡ run_outcome_from cut n t lines
  simulated n s t [] o a f = finishes s t (cond cut (Err run_faults.Read) (Ok n)) o (all.ends n [] s t a) f
  simulated n s t (line ∷ lines) o a c = continues (fault_at cut n line) n s t line lines o a refl c (λ u v next b h. simulated (n + 1) u v lines next b h)
