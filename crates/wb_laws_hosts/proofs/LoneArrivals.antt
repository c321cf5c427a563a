-- A script in which each arrival is a batch of its own has one outcome, by any number of workers.
use Rattle.std.proofs.Common.{◌≡◌, ◌≤◌, ℕ, ◌+◌, Bool, List, [], ◌∷◌, ◌++◌, length, refl, sym, ap, subst, arith, length-append}
use Rattle.std.specs.Prelude.{Option, Some, None, All, IsPermutation}
use Rattle.std.proofs.lemmas.List.{nil_from_length}
use Rattle.std.proofs.lemmas.List.Elements.{All-nil, All-cons, All-head, All-tail}
use Rattle.std.proofs.lemmas.List.Sorted.{length_permutation, All-permutation}
use Rattle.wb_names.specs.Values.{DrawopValue}
use Rattle.wb_lines.specs.Input.{InputLine, input_lines, content}
use Rattle.wb_commands.specs.declared.fault.LineFault.TheVariants as faults
use Rattle.wb_script.specs.declared.fault.RunFault.{RunFault}
use Rattle.wb_member.specs.Opened.{Opened, by_host}
use Rattle.wb_commands.specs.Acts.{Act, does, fails, act}
use Rattle.wb_script.specs.Reordering.{part_unless, part_at, batches_with, batches_of}
use Rattle.wb_script.specs.Script.{RunState, run_start, closing_text, after_batch, Closing, Opens, Acts, Faulty, Part, Arrival, Nothing, End, part_in, RunStep, moves_on, refused, step_by, closing_step, part_step, finish}
use Rattle.wb_script.proofs.Simulations.{EndsAlike, StepsAlike, Simulates, simulated}
use Rattle.wb_laws_hosts.specs.RunLaws.{AloneIsOneOrder}

-- ---- one arrival has one order

same_one : (d e : DrawopValue) → IsPermutation (d ∷ []) (e ∷ []) → e ≡ d
same_one d e moved = let P : DrawopValue → Type 0 = λ x. x ≡ d in All-head P e [] (All-permutation P (d ∷ []) (e ∷ []) moved (All-cons P d [] refl (All-nil P)))

of_one : (d : DrawopValue) (order : List DrawopValue) → length order ≡ 1 → IsPermutation (d ∷ []) order → order ≡ d ∷ []
of_one d [] long moved = absurd (omega arith)
of_one d (e ∷ []) long moved = ap (λ (x : DrawopValue). x ∷ []) (same_one d e moved)
of_one d (e ∷ f ∷ more) long moved = absurd (omega arith)

one_order : (batch order : List DrawopValue) → length batch ≤ 1 → IsPermutation batch order → order ≡ batch
one_order [] order few moved = nil_from_length order (length_permutation [] order moved)
one_order (d ∷ []) order few moved = of_one d order (length_permutation (d ∷ []) order moved) moved
one_order (d ∷ e ∷ more) order few moved = absurd (omega arith)

-- ---- how many arrivals wait

-- after a line that is such a part of its batch, if n waited before it
abbrev pub waits_by : Option Part → ℕ → ℕ
waits_by (Some (Arrival d)) n = n + 1
waits_by (Some Nothing) n = n
waits_by (Some (End c)) n = 0
waits_by None n = 0

abbrev pub Waits : Part → ℕ → RunStep → Type 0
Waits part n (moves_on t text) = length t.waiting ≡ waits_by (Some part) n
Waits part n (refused t text e) = length t.waiting ≤ n

act_waits : (k : Option ℕ) (text : List ℕ) (a : Act) (host : Opened) (c : Closing) (n : ℕ) → Waits (End c) n (step_by k text a host)
act_waits k text (does next printed) host c n = refl
act_waits k text (fails e) host c n = omega arith

-- by the host
closes_wait : (k : Option ℕ) (host : Option Opened) (text : List ℕ) (c : Closing) (n : ℕ) → Waits (End c) n (closing_step (record { host = host; workers = k; waiting = [] }) text c)
closes_wait k None text (Opens member cells workers seed) n = refl
closes_wait k (Some host) text (Opens member cells workers seed) n = omega arith
closes_wait k None text (Acts line) n = omega arith
closes_wait k (Some host) text (Acts line) n = act_waits k text (act line host) host (Acts line) n
closes_wait k host text (Faulty e) n = omega arith

arrive_waits : (s : RunState) (d : DrawopValue) (host : Option Opened) → Waits (Arrival d) (length s.waiting) (by_host host (refused s [] faults.NoBoard) (λ h. moves_on (record { host = s.host; workers = s.workers; waiting = s.waiting ++ d ∷ [] }) []))
arrive_waits s d None = omega arith
arrive_waits s d (Some host) = length-append s.waiting (d ∷ [])

pub step_waits : (s : RunState) (part : Part) → Waits part (length s.waiting) (part_step s s.waiting part)
step_waits s Nothing = refl
step_waits s (Arrival d) = arrive_waits s d s.host
step_waits s (End c) = closes_wait s.workers (after_batch s s.waiting).host (closing_text s s.waiting) c (length s.waiting)

-- ---- batches of one arrival at most

abbrev pub Batches : Type 0
Batches = List (List (List ℕ))

abbrev pub HasOne : Batches → Type 0
HasOne [] = ⊥
HasOne (batch ∷ batches) = Unit {0}

has_with : (part : Option Part) (bytes : List ℕ) (batches : Batches) → HasOne batches → HasOne (batches_with part bytes batches)
has_with (Some (Arrival d)) bytes [] some = some
has_with (Some (Arrival d)) bytes (batch ∷ batches) some = tt
has_with (Some Nothing) bytes batches some = some
has_with (Some (End c)) bytes batches some = tt
has_with None bytes batches some = tt

pub has_batch : (cut : Bool) (n : ℕ) (lines : List InputLine) → HasOne (batches_of content cut n lines)
has_batch cut n [] = tt
has_batch cut n (line ∷ lines) = has_with (part_at cut n line) (content line) (batches_of content cut (n + 1) lines) (has_batch cut (n + 1) lines)

abbrev pub IsLone : List (List ℕ) → Type 0
IsLone batch = length batch ≤ 1

-- n arrivals wait, and belong to the first batch
abbrev pub Fits : ℕ → Batches → Type 0
Fits n [] = ⊥
Fits n (batch ∷ batches) = (n + length batch ≤ 1) × All IsLone batches

pub fits_all : (batches : Batches) → HasOne batches → All IsLone batches → Fits 0 batches
fits_all [] some lone = absurd some
fits_all (batch ∷ batches) some lone = let first : length batch ≤ 1 = All-head IsLone batch batches lone in (omega arith, All-tail IsLone batch batches lone)

pub fits_few : (n : ℕ) (batches : Batches) → Fits n batches → n ≤ 1
fits_few n [] fit = absurd fit
fits_few n (batch ∷ batches) fit = let first = fit.0 in omega arith

pub fits_after : (part : Option Part) (bytes : List ℕ) (n : ℕ) (batches : Batches) → HasOne batches → Fits n (batches_with part bytes batches) → Fits (waits_by part n) batches
fits_after (Some (Arrival d)) bytes n [] some fit = absurd some
fits_after (Some (Arrival d)) bytes n (batch ∷ batches) some fit = let first = fit.0 in (omega arith, fit.1)
fits_after (Some Nothing) bytes n batches some fit = fit
fits_after (Some (End c)) bytes n batches some fit = fits_all batches some fit.1
fits_after None bytes n batches some fit = fits_all batches some fit.1

-- none waits where an arrival comes
pub none_before : (d : DrawopValue) (bytes : List ℕ) (n : ℕ) (batches : Batches) → HasOne batches → Fits n (batches_with (Some (Arrival d)) bytes batches) → n ≡ 0
none_before d bytes n [] some fit = absurd some
none_before d bytes n (batch ∷ batches) some fit = let first = fit.0 in omega arith

-- ---- the one outcome

-- the same state, at which one arrival waits at most
abbrev Lone : Bool → ℕ → List InputLine → RunState → RunState → Type 0
Lone cut n lines s t = (s ≡ t) × Fits (length s.waiting) (batches_of content cut n lines)

ends_alone : (s t : RunState) → s ≡ t → length s.waiting ≤ 1 → EndsAlike s t
ends_alone s t same few = subst (EndsAlike s) same (λ order may ending. ap (λ (order : List DrawopValue). finish s order ending) (one_order s.waiting order few may.moved))

goes_alone : (cut : Bool) (n m : ℕ) (lines : List InputLine) (part : Part) (step : RunStep) → m ≤ 1 → Waits part m step → Fits (waits_by (Some part) m) (batches_of content cut n lines) → StepsAlike (Lone cut n lines) step step
goes_alone cut n m lines part (moves_on t text) few waits fit = ((refl, subst (λ (k : ℕ). Fits k (batches_of content cut n lines)) (sym waits) fit), refl)
goes_alone cut n m lines part (refused t text e) few waits fit = (ends_alone t t refl (omega (arith, waits, few)), refl, refl)

lone_simulates : (cut : Bool) → Simulates cut (Lone cut)
lone_simulates cut = record {
  ends = λ n lines s t a. ends_alone s t a.0 (fits_few (length s.waiting) (batches_of content cut n lines) a.1);
  steps = λ n line lines s t order a free may.
      let few = fits_few (length s.waiting) (batches_of content cut n (line ∷ lines)) a.1 in
      let here : part_at cut n line ≡ Some (part_in line) = ap (λ (f : Option RunFault). part_unless f line) free in
      let fit = fits_after (part_at cut n line) (content line) (length s.waiting) (batches_of content cut (n + 1) lines) (has_batch cut (n + 1) lines) a.1 in
      let after : Fits (waits_by (Some (part_in line)) (length s.waiting)) (batches_of content cut (n + 1) lines) = subst (λ (p : Option Part). Fits (waits_by p (length s.waiting)) (batches_of content cut (n + 1) lines)) here fit in
      subst (λ (u : RunState). StepsAlike (Lone cut (n + 1) lines) (part_step s order (part_in line)) (part_step u u.waiting (part_in line))) a.0
      (subst (λ (order : List DrawopValue). StepsAlike (Lone cut (n + 1) lines) (part_step s order (part_in line)) (part_step s s.waiting (part_in line))) (sym (one_order s.waiting order few may.moved))
      (goes_alone cut (n + 1) (length s.waiting) lines (part_in line) (part_step s s.waiting (part_in line)) few (step_waits s (part_in line)) after));
}

pub alone_is_one_order : AloneIsOneOrder
alone_is_one_order workers cut input o alone h =
    let lines : List InputLine = input_lines input in
    simulated cut (Lone cut) (lone_simulates cut) 0 (run_start workers) (run_start workers) lines o (refl, fits_all (batches_of content cut 0 lines) (has_batch cut 0 lines) alone) h
