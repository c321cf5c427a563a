-- What a driver of lines makes of a dialog is the transcript of its input.
use Rattle.std.proofs.Common.{◌≡◌, ℕ, ◌+◌, Bool, true, false, List, [], ◌∷◌, ◌++◌, Option, None, Result, Ok, Err, inl, inr, refl, sym, ap, subst, ◌∙◌, rules}
use Rattle.std.proofs.Common.{◌<◌, ◌≤◌, ◌⊎◌, arith, length, Contains}
use Rattle.std.proofs.lemmas.Bool.Decides.{nat_tests}
use Rattle.std.specs.Prelude.{nat_lt, if◌then◌else◌}
use Rattle.std.specs.List.{concat}
use Rattle.std.specs.declared.convert.Infallible.{Infallible}
use Rattle.wb_lines.specs.Input.{InputLine, input_lines, BeginsWith}
use Rattle.wb_lines.specs.declared.fault.DriveFault.{DriveFault}
use Rattle.wb_lines.specs.declared.fault.DriveFault.TheVariants as faults
use Rattle.wb_lines.specs.Driving.{Outcome, writes, before, stop, rules_of, outcome, outcome_from, Meets, IsStopped}
use Rattle.wb_lines.specs.Taking.{met, is_taken, is_passed, most_passed}
use Rattle.wb_recovery.specs.declared.tuning.Tuning.{Tuning}
use Rattle.wb_dialog.specs.declared.fault.HostFault.{HostFault}
use Rattle.wb_dialog.specs.declared.fault.HostFault.TheVariants as host_faults
use Rattle.wb_names.proofs.Listings.{Contains-here, Contains-there}
use Rattle.wb_dialog.proofs.Fronts.{begins_all, begins_empty, begins_behind, begins_front}
use Rattle.wb_dialog.specs.Dialog.{answered_lines}
use Rattle.wb_dialog.specs.Hosting.{IsEndless}
use Rattle.wb_dialog.specs.Kinds.{Standing, step, unopened, transcript, block_of, response_of, after, blocks_from}
use Rattle.wb_dialog.specs.declared.opened.Host.{Host as HostValue}
use Rattle.wb_dialog.specs.Doing.{DialogValue, IsAt, IsKindAt, fault_of, Writes}

-- ---- outcomes

-- An outcome is a text, and the end of the input or where reading fails; or a front of it, where there are too many bytes.
abbrev pub Tells : List ℕ → Bool → Outcome Infallible → Type 0
Tells text cut (writes written (Ok n)) = (written ≡ text) × (cut ≡ false)
Tells text cut (writes written (Err faults.Read)) = written ≡ text
Tells text cut (writes written (Err faults.Endless)) = BeginsWith text written
Tells text cut (writes written (Err faults.Write)) = ⊥
Tells text cut (writes written (Err faults.Memory)) = ⊥
Tells text cut (writes written (Err (faults.Line n e))) = ⊥

Tells-before : (text rest : List ℕ) (cut : Bool) (o : Outcome Infallible) → Tells rest cut o → Tells (text ++ rest) cut (before text o)
Tells-before text rest cut (writes written (Ok n)) h = (ap (λ (x : List ℕ). text ++ x) h.0, h.1)
Tells-before text rest cut (writes written (Err faults.Read)) h = ap (λ (x : List ℕ). text ++ x) h
Tells-before text rest cut (writes written (Err faults.Endless)) h = begins_behind text rest written h
Tells-before text rest cut (writes written (Err faults.Write)) h = h
Tells-before text rest cut (writes written (Err faults.Memory)) h = h
Tells-before text rest cut (writes written (Err (faults.Line n e))) h = h

-- one line: whether it is within the number of lines, taken, and passed over
turn : (within taken passed cut : Bool) (text : List ℕ) (rest : List (List ℕ)) (o : Outcome Infallible) → Tells (concat rest) cut o
    → Tells (concat (if taken then text ∷ rest else [])) cut (if within then (if taken then before text (if passed then o else stop (Err faults.Endless)) else stop (Err faults.Read)) else stop (Err faults.Endless))
turn false taken passed cut text rest o h = begins_empty (concat (if taken then text ∷ rest else []))
turn true false passed cut text rest o h = refl
turn true true true cut text rest o h = Tells-before text (concat rest) cut o h
turn true true false cut text rest o h = begins_behind text (concat rest) [] (begins_empty (concat rest))

-- the blocks of a line that is taken, and of those behind it
blocks_of_taken : (taken : Bool) (s : Standing) (line : InputLine) (lines : List InputLine)
    → (if taken then block_of (response_of s (met line)) ∷ blocks_from (after s (response_of s (met line))) lines else []) ≡ blocks_from s (if taken then line ∷ lines else [])
blocks_of_taken true s line lines = refl
blocks_of_taken false s line lines = refl

-- The outcome of lines, from a state on, is that of their blocks.
pub outcome_tells : (most n : ℕ) (cut : Bool) (s : Standing) (lines : List InputLine) → Tells (concat (blocks_from s (answered_lines cut lines))) cut (outcome_from (rules_of step most) cut n s lines)
unfolding step
outcome_tells most n true s [] = refl
outcome_tells most n false s [] = (refl, refl)
outcome_tells most n cut s (line ∷ lines) =
    let a = response_of s (met line) in
    subst (λ (blocks : List (List ℕ)). Tells (concat blocks) cut (outcome_from (rules_of step most) cut n s (line ∷ lines)))
    (blocks_of_taken (is_taken cut line) s line (answered_lines cut lines))
    (turn (nat_lt n most) (is_taken cut line) (is_passed line) cut (block_of a) (blocks_from (after s a) (answered_lines cut lines)) (outcome_from (rules_of step most) cut (n + 1) (after s a) lines) (outcome_tells most (n + 1) cut (after s a) lines))

-- ---- what a host wrote

-- the same of what was written, with the answer of the driver
abbrev pub Hosts : List ℕ → Bool → List ℕ → Result ℕ (DriveFault Infallible) → Type 0
Hosts text cut written (Ok n) = (written ≡ text) × (cut ≡ false)
Hosts text cut written (Err e) = Writes {U = ℕ} text written (Err (fault_of e))

Hosts-end : (text written t : List ℕ) (cut : Bool) (end : Result ℕ (DriveFault Infallible)) → Tells text cut (writes t end) → written ≡ t → Hosts text cut written end
Hosts-end text written t cut (Ok n) tells e = (e ∙ tells.0, tells.1)
Hosts-end text written t cut (Err faults.Read) tells e = e ∙ tells
Hosts-end text written t cut (Err faults.Endless) tells e = subst (BeginsWith text) (sym e) tells
Hosts-end text written t cut (Err faults.Write) tells e = absurd tells
Hosts-end text written t cut (Err faults.Memory) tells e = absurd tells
Hosts-end text written t cut (Err (faults.Line n f)) tells e = absurd tells

-- what an outcome writes is a front of the text
tells_front : (text t : List ℕ) (cut : Bool) (end : Result ℕ (DriveFault Infallible)) → Tells text cut (writes t end) → BeginsWith text t
tells_front text t cut (Ok n) tells = subst (BeginsWith text) (sym tells.0) (begins_all text)
tells_front text t cut (Err faults.Read) tells = subst (BeginsWith text) (sym tells) (begins_all text)
tells_front text t cut (Err faults.Endless) tells = tells
tells_front text t cut (Err faults.Write) tells = absurd tells
tells_front text t cut (Err faults.Memory) tells = absurd tells
tells_front text t cut (Err (faults.Line n f)) tells = absurd tells

Hosts-stop : (text written : List ℕ) (cut : Bool) (result : Result ℕ (DriveFault Infallible)) → IsStopped result → BeginsWith text written → Hosts text cut written result
Hosts-stop text written cut (Ok n) stops b = absurd stops
Hosts-stop text written cut (Err faults.Read) stops b = absurd stops
Hosts-stop text written cut (Err faults.Endless) stops b = b
Hosts-stop text written cut (Err faults.Write) stops b = b
Hosts-stop text written cut (Err faults.Memory) stops b = b
Hosts-stop text written cut (Err (faults.Line n f)) stops b = absurd stops

-- What a driver wrote for an outcome that tells a text is what a host writes of the text.
pub Hosts-meets : (text written : List ℕ) (cut : Bool) (o : Outcome Infallible) (result : Result ℕ (DriveFault Infallible)) → Tells text cut o → Meets o written result → Hosts text cut written result
Hosts-meets text written cut (writes t end) result tells (inl m) = subst (Hosts text cut written) (sym m.1) (Hosts-end text written t cut end tells m.0)
Hosts-meets text written cut (writes t end) result tells (inr m) = Hosts-stop text written cut result m.0 (begins_front text t written (tells_front text t cut end tells) m.1)

-- A dialog without a host stands where no board is open.
pub begins_at : (d : DialogValue) → d.host ≡ None → IsAt d (unopened d.tuning)
begins_at d is = record { tuning = refl; kind = subst (λ (h : Option HostValue). IsKindAt h (unopened d.tuning).kind) (sym is) tt }

pub ends_well : {X : Type 0} (fault : HostFault) → ◌≡◌ {A = Result (Unit {0}) HostFault} (Ok tt) (Err fault) → X
ends_well fault e = absurd cc

-- What a driver wrote for the lines of an input is what a host writes of its transcript.
pub hosts_transcript : (tuning : Tuning) (most : ℕ) (cut : Bool) (input written : List ℕ) (result : Result ℕ (DriveFault Infallible)) → Meets (outcome (rules_of step most) cut (unopened tuning) input) written result → Hosts (transcript tuning cut input) cut written result
hosts_transcript tuning most cut input written result m =
    Hosts-meets (transcript tuning cut input) written cut (outcome (rules_of step most) cut (unopened tuning) input) result (outcome_tells most 0 cut (unopened tuning) (input_lines input)) m

-- ---- an input that has no end

abbrev end_in : Outcome Infallible → Result ℕ (DriveFault Infallible)
end_in (writes text end) = end

end_before : (text : List ℕ) (o : Outcome Infallible) → end_in (before text o) ≡ end_in o
end_before text (writes rest end) = refl

-- a line that is too long to pass over
abbrev HasLong : List InputLine → Type 0
HasLong lines = (line : InputLine) × Contains lines line × (most_passed ≤ length line.bytes)

long_behind : (line : InputLine) (lines : List InputLine) → HasLong lines → HasLong (line ∷ lines)
long_behind line lines h = (h.0, Contains-there line h.0 lines h.1, h.2)

not_passed : (line : InputLine) → is_passed line ≡ false → most_passed ≤ length line.bytes
not_passed line e = grind (arith, nat_tests)

few_yet : (n most : ℕ) → nat_lt n most ≡ true → n + 1 ≤ most
few_yet n most e = grind (arith, nat_tests)

none_left : (n most : ℕ) → nat_lt n most ≡ false → most ≤ n
none_left n most e = grind (arith, nat_tests)

ends_endless : (most n : ℕ) (cut : Bool) (s : Standing) (lines : List InputLine) → n ≤ most → end_in (outcome_from (rules_of step most) cut n s lines) ≡ Err faults.Endless → (most < n + length lines) ⊎ HasLong lines
unfolding step
ends_endless most n true s [] few e = absurd cc
ends_endless most n false s [] few e = absurd cc
ends_endless most n cut s (line ∷ lines) few e =
    go (λ more h. ends_endless most (n + 1) cut (after s (response_of s (met line))) lines more h) (nat_lt n most) (is_taken cut line) (is_passed line) refl refl e where
      text : List ℕ
      text = block_of (response_of s (met line))

      o : Outcome Infallible
      o = outcome_from (rules_of step most) cut (n + 1) (after s (response_of s (met line))) lines

      later : (most < (n + 1) + length lines) ⊎ HasLong lines → (most < n + length (line ∷ lines)) ⊎ HasLong (line ∷ lines)
      later (inl more) = inl (omega (arith, more))
      later (inr h) = inr (long_behind line lines h)

      go : (n + 1 ≤ most → end_in o ≡ Err faults.Endless → (most < (n + 1) + length lines) ⊎ HasLong lines) → (within taken passed : Bool) → nat_lt n most ≡ within → is_passed line ≡ passed
          → end_in (if within then (if taken then before text (if passed then o else stop (Err faults.Endless)) else stop (Err faults.Read)) else stop (Err faults.Endless)) ≡ Err faults.Endless
          → (most < n + length (line ∷ lines)) ⊎ HasLong (line ∷ lines)
      go on false taken passed w p h = inl (let left = none_left n most w in omega (arith, left, few))
      go on true false passed w p h = absurd cc
      go on true true false w p h = inr (line, Contains-here line lines, not_passed line p)
      go on true true true w p h = later (on (few_yet n most w) (sym (end_before text o) ∙ h))

met_end : (o : Outcome Infallible) (written : List ℕ) → Meets o written (Err faults.Endless) → end_in o ≡ Err faults.Endless
met_end (writes text end) written (inl m) = sym m.1
met_end (writes text end) written (inr m) = absurd m.0

from_start : (most : ℕ) (lines : List InputLine) → (most < 0 + length lines) ⊎ HasLong lines → IsEndless most lines
from_start most lines (inl more) = inl (omega (arith, more))
from_start most lines (inr h) = inr h

-- A driver says that its lines have no end only where they have none.
pub host_endless : (tuning : Tuning) (most : ℕ) (cut : Bool) (input written : List ℕ) → Meets (outcome (rules_of step most) cut (unopened tuning) input) written (Err faults.Endless) → IsEndless most (input_lines input)
host_endless tuning most cut input written m =
    from_start most (input_lines input) (ends_endless most 0 cut (unopened tuning) (input_lines input) (omega arith) (met_end (outcome (rules_of step most) cut (unopened tuning) input) written m))

-- ---- why a host stopped

fault_in : Result (Unit {0}) HostFault → HostFault
fault_in (Ok u) = host_faults.Read
fault_in (Err e) = e

pub same_fault : (e f : HostFault) → ◌≡◌ {A = Result (Unit {0}) HostFault} (Err e) (Err f) → e ≡ f
unfolding fault_in
same_fault e f h = ap fault_in h

pub fault_reads : (e : DriveFault Infallible) → fault_of e ≡ host_faults.Read → e ≡ faults.Read
fault_reads (faults.Line n e) h = elim e [ ]
fault_reads faults.Read h = refl
fault_reads faults.Write h = search rules
fault_reads faults.Memory h = search rules
fault_reads faults.Endless h = search rules

pub fault_writes : (e : DriveFault Infallible) → fault_of e ≡ host_faults.Write → e ≡ faults.Write
fault_writes (faults.Line n e) h = elim e [ ]
fault_writes faults.Read h = search rules
fault_writes faults.Write h = refl
fault_writes faults.Memory h = search rules
fault_writes faults.Endless h = search rules

pub fault_ends : (e : DriveFault Infallible) → fault_of e ≡ host_faults.Endless → e ≡ faults.Endless
fault_ends (faults.Line n e) h = elim e [ ]
fault_ends faults.Read h = search rules
fault_ends faults.Write h = search rules
fault_ends faults.Memory h = search rules
fault_ends faults.Endless h = refl
