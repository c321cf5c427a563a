-- By one worker a script has one outcome: that of one thread.
use Rattle.std.proofs.Common.{◌≡◌, ℕ, ◌+◌, Bool, List, [], ◌∷◌, Result, Ok, Err, refl, sym, ap, subst, ◌∙◌, arith, Option, Some, None, unwrap_or}
use Rattle.wb_names.specs.Values.{DrawopValue}
use Rattle.wb_script.specs.declared.fault.RunFault.{RunFault}
use Rattle.wb_lines.specs.Input.{InputLine, input_lines}
use Rattle.wb_member.specs.Opened.{Opened, board_of, by_host}
use Rattle.wb_script.specs.Hosts.{taken, batch_text}
use Rattle.wb_commands.specs.Acts.{Act, does, fails, act}
use Rattle.wb_script.specs.Script.{RunState, run_start, IsAlone, Closing, Opens, Acts, Faulty, Part, Arrival, End, part_in, step_by, closing_step, part_step, finish, run_outcome}
use Rattle.wb_script.specs.ScriptLaws.{workers_on, first_known, workers_at_end, OneThreadIsOutcome, OneWorkerIsOneThread, OneThreadIsFree}
use Rattle.wb_script.proofs.Outcomes.{one_thread}
use Rattle.wb_script.proofs.ReorderedLines.{state}
use Rattle.wb_script.proofs.Simulations.{EndsAlike, StepsAlike, Simulates, simulated}

pub one_thread_is_outcome : OneThreadIsOutcome
one_thread_is_outcome workers cut input = one_thread cut 0 (run_start workers) (input_lines input)

-- ---- the number of workers that is known

-- a number that is known stays
alone_now : (k : Option ℕ) (lines : List InputLine) → IsAlone (workers_at_end k lines) → IsAlone k
alone_now None lines a = tt
alone_now (Some n) [] a = a
alone_now (Some n) (line ∷ lines) a = alone_now (Some n) lines a

alone_first : (k named : Option ℕ) (lines : List InputLine) → IsAlone (workers_at_end (first_known k named) lines) → IsAlone k
alone_first None named lines a = tt
alone_first (Some n) named lines a = alone_now (Some n) lines a

first_none : (k : Option ℕ) → k ≡ first_known k None
first_none None = refl
first_none (Some n) = refl

first_some : (k : Option ℕ) (n : ℕ) → Some (unwrap_or k n) ≡ first_known k (Some n)
first_some None n = refl
first_some (Some m) n = refl

-- ---- the same but for the numbers of workers, of which the one is at most 1

abbrev Alone : ℕ → List InputLine → RunState → RunState → Type 0
Alone n lines s t = IsAlone (workers_at_end s.workers lines) × (s.host ≡ t.host) × (s.waiting ≡ t.waiting)

same_end : (k j : Option ℕ) (host : Option Opened) (waiting : List DrawopValue) (ending : Result ℕ RunFault) → finish (state k host waiting) waiting ending ≡ finish (state j host waiting) waiting ending
same_end k j host waiting (Ok n) = refl
same_end k j host waiting (Err e) = refl

ends : (k j : Option ℕ) (host : Option Opened) (waiting : List DrawopValue) → IsAlone k → EndsAlike (state k host waiting) (state j host waiting)
ends k j host waiting alone = λ order may ending. ap (λ (order : List DrawopValue). finish (state k host waiting) order ending) (may.alone alone) ∙ same_end k j host waiting ending

module _ (k j : Option ℕ) (n : ℕ) (lines : List InputLine) where
  act_steps : (text : List ℕ) (a : Act) (host : Opened) → IsAlone (workers_at_end k lines) → StepsAlike (Alone n lines) (step_by k text a host) (step_by j text a host)
  act_steps text (does next printed) host alone = ((alone, refl, refl), refl)
  act_steps text (fails e) host alone = (ends k j (Some host) [] (alone_now k lines alone), refl, refl)

  -- by the host
  closes : (c : Closing) (host : Option Opened) (text : List ℕ) → IsAlone (workers_at_end (first_known k (workers_on (End c))) lines) → StepsAlike (Alone n lines) (closing_step (state k host []) text c) (closing_step (state j host []) text c)
  closes (Opens member cells workers seed) None text alone = ((subst (λ (k : Option ℕ). IsAlone (workers_at_end k lines)) (sym (first_some k workers)) alone, refl, refl), refl)
  closes (Opens member cells workers seed) (Some host) text alone = (ends k j (Some host) [] (alone_first k (Some workers) lines alone), refl, refl)
  closes (Acts line) None text alone = (ends k j None [] (alone_first k None lines alone), refl, refl)
  closes (Acts line) (Some host) text alone = act_steps text (act line host) host (subst (λ (k : Option ℕ). IsAlone (workers_at_end k lines)) (sym (first_none k)) alone)
  closes (Faulty e) host text alone = (ends k j host [] (alone_first k None lines alone), refl, refl)

  steps : (part : Part) (host : Option Opened) (waiting : List DrawopValue) → IsAlone (workers_at_end (first_known k (workers_on part)) lines)
      → StepsAlike (Alone n lines) (part_step (state k host waiting) waiting part) (part_step (state j host waiting) waiting part)
  steps (Arrival d) None waiting alone = (ends k j None waiting (alone_first k None lines alone), refl, refl)
  steps (End c) host waiting alone = closes c (by_host host None (λ host. Some (taken waiting host))) (by_host host [] (λ host. batch_text (board_of host) waiting)) alone
  steps part host waiting alone = ((subst (λ (k : Option ℕ). IsAlone (workers_at_end k lines)) (sym (first_none k)) alone, refl, refl), refl)

alone_simulates : (cut : Bool) → Simulates cut Alone
alone_simulates cut = record {
  ends = λ n lines s t a.
      subst (λ (host : Option Opened). EndsAlike s (state t.workers host t.waiting)) a.1
      (subst (λ (waiting : List DrawopValue). EndsAlike s (state t.workers s.host waiting)) a.2 (ends s.workers t.workers s.host s.waiting (alone_now s.workers lines a.0)));
  steps = λ n line lines s t order a free may.
      let same : order ≡ s.waiting = may.alone (alone_now s.workers (line ∷ lines) a.0) in
      subst (λ (order : List DrawopValue). StepsAlike (Alone (n + 1) lines) (part_step s order (part_in line)) (part_step t t.waiting (part_in line))) (sym same)
      (subst (λ (host : Option Opened). StepsAlike (Alone (n + 1) lines) (part_step s s.waiting (part_in line)) (part_step (state t.workers host t.waiting) t.waiting (part_in line))) a.1
      (subst (λ (waiting : List DrawopValue). StepsAlike (Alone (n + 1) lines) (part_step s s.waiting (part_in line)) (part_step (state t.workers s.host waiting) waiting (part_in line))) a.2
      (steps s.workers t.workers (n + 1) lines (part_in line) s.host s.waiting a.0)));
}

pub one_worker_is_one_thread : OneWorkerIsOneThread
one_worker_is_one_thread workers cut input o alone h = simulated cut Alone (alone_simulates cut) 0 (run_start workers) (run_start workers) (input_lines input) o (alone, refl, refl) h

-- ---- whatever the number that is handed in: one worker has the outcome of each

one_stays : (lines : List InputLine) → IsAlone (workers_at_end (Some 1) lines)
one_stays [] = omega arith
one_stays (line ∷ lines) = one_stays lines

as_one_worker : (workers : Option ℕ) (cut : Bool) (input : List ℕ) → run_outcome (Some 1) cut input ≡ run_outcome workers cut input
as_one_worker workers cut input =
    simulated cut Alone (alone_simulates cut) 0 (run_start (Some 1)) (run_start workers) (input_lines input) (run_outcome (Some 1) cut input) (one_stays (input_lines input), refl, refl) (one_thread_is_outcome (Some 1) cut input)

pub one_thread_is_free : OneThreadIsFree
one_thread_is_free workers others cut input = sym (as_one_worker workers cut input) ∙ as_one_worker others cut input
