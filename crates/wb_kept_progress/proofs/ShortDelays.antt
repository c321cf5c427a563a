-- A self-managing host goes by no delay above a second, whatever echoes tell.
use Rattle.std.proofs.Common.{◌≡◌, ℕ, ◌+◌, ◌≤◌, Bool, true, false, cond, List, [], ◌∷◌, ◌++◌, None, arith, eqb-true, refl, subst, sym, true≢false}
use Rattle.std.specs.Prelude.{max, min, nat_eq}
use Rattle.wb_member.specs.Judged.{delay}
use Rattle.wb_member.specs.Opened.{Opened, opened_with}
use Rattle.wb_recovery.specs.declared.limits.TheConstants.{UNKNOWN_DELAY}
use Rattle.wb_policy.specs.declared.limits.TheConstants.{MOST_DELAY}
use Rattle.wb_policy.specs.Delays.{bounded, known}
use Rattle.wb_keeping.specs.Kept.{Line}
use Rattle.wb_keeping.specs.Laws.{KeptLine, doing_of, fault_of}
use Rattle.wb_keeping.specs.Performing.{Keeping, after_doing, after_line, after_lines, sees}
use Rattle.wb_keeping.proofs.EachStep.{line_of_parts}
use Rattle.wb_keeping.proofs.KeptDelays.{IsReady, Keeps, Terms, parts_keep, ticks_so}
use Rattle.wb_keeping.proofs.SpacedLines.{AreAll}
use Rattle.wb_kept_progress.specs.Sessions.{AreTaken, At, Opening, kept_at, opened}
use Rattle.wb_kept_progress.specs.Timed.{KeptGoByShort, goes_by_delays, host_after, start_of}
use Rattle.wb_kept_progress.specs.Whole.{there}
use Rattle.wb_kept_progress.proofs.CallLines.{host_before, lines_have_calls}

-- ---- what is so of each line

abbrev IsShort : ℕ → Type 0
IsShort micros = micros ≤ MOST_DELAY

abbrev pub IsNear : Opened → Type 0
IsNear host = (source : ℕ) → delay host source ≤ MOST_DELAY

-- a line that goes by delays finds none that is greater
abbrev GoesNear : Line → Opened → Type 0
GoesNear line host = goes_by_delays line ≡ true → IsNear host

abbrev pub GoNear : List Line → Opened → Type 0
GoNear = AreAll GoesNear

near_at : (one other : List Line) (line : Line) (host : Opened) → GoNear (one ++ line ∷ other) host → goes_by_delays line ≡ true → IsNear (after_lines one host)
near_at [] other line host near goes = near.0 goes
near_at (first ∷ one) other line host near goes = near_at one other line (after_line first host) near.1 goes

bounded_short : (micros : ℕ) → bounded micros ≤ MOST_DELAY
bounded_short micros = by (min (max micros 10000) 1000000) (omega arith) where
  by : (m : ℕ) → m ≤ 1000000 → known m ≤ MOST_DELAY
  by m le = either (nat_eq m UNKNOWN_DELAY) where
    either : (b : Bool) → cond b (UNKNOWN_DELAY + 1) m ≤ MOST_DELAY
    either true = omega arith
    either false = le

near_terms : Terms IsShort GoesNear
near_terms = record {
  unknown = omega arith;
  told = bounded_short;
  mean = λ usual micros is le. omega (arith, le, is);
  ticks = λ now host later near goes. near;
  arrives = λ d host near goes. near;
  hears = λ v host near goes. near;
  asks = λ name host near goes. near;
  stops = λ name host near goes. near;
  sets = λ source micros host goes. absurd (true≢false (sym goes));
  tunes = λ constants host within near goes. near;
  draws = λ d host near goes. near;
  reports = λ sender sent page marks echoes host near goes. near;
  asks_pages = λ asker host near goes. near;
  states = λ sender page marks host near goes. near;
}

call_near : (line : KeptLine) (k : Keeping) → fault_of line k ≡ None → IsReady IsShort k
    → GoNear (doing_of line (sees k.host) k.policy).lines k.host × IsReady IsShort (after_doing (doing_of line) k)
call_near line k none ready = (line_of_parts (Keeps IsShort GoesNear) (parts_keep IsShort GoesNear near_terms) line k none).so ready

-- ---- a session

module _ (hosts : ℕ → Opening) where
  first_ready : (i : ℕ) → IsReady IsShort (opened (hosts i))
  first_ready i = record { delays = ticks_so IsShort (hosts i).moments (opened_with (hosts i).constants (hosts i).number (hosts i).cells (hosts i).seed) (λ source. omega arith); usual = omega arith }

  are_ready : (lines : List (At KeptLine)) → AreTaken hosts lines → (i : ℕ) → IsReady IsShort (kept_at hosts lines i)
  are_ready [] taken i = first_ready i
  are_ready (e ∷ older) taken i = by (nat_eq e.place i) refl (are_ready older taken.1 i) where
    by : (b : Bool) → nat_eq e.place i ≡ b → IsReady IsShort (kept_at hosts older i) → IsReady IsShort (cond b (after_doing (doing_of e.event) (kept_at hosts older i)) (kept_at hosts older i))
    by true here ready = (call_near e.event (kept_at hosts older i) (subst (λ (j : ℕ). fault_of e.event (kept_at hosts older j) ≡ None) (eqb-true e.place i here) taken.0) ready).1
    by false apart ready = ready

  taken_in : (newer older : List (At KeptLine)) (e : At KeptLine) → AreTaken hosts (newer ++ e ∷ older) → AreTaken hosts (e ∷ older)
  taken_in [] older e taken = taken
  taken_in (x ∷ newer) older e taken = taken_in newer older e taken.1

pub kept_go_by_short : KeptGoByShort
kept_go_by_short hosts terms trace taken far newer older x source split live goes =
    let c = lines_have_calls hosts trace newer x older split in
    let k = there hosts c.older c.e.place in
    let here = taken_in hosts c.newer c.older c.e (subst (λ (t : List (At KeptLine)). AreTaken hosts t) c.split taken) in
    let call = call_near c.e.event k here.0 (are_ready hosts c.older here.1 c.e.place) in
    let near = near_at c.before c.later x.event k.host (subst (λ (lines : List Line). GoNear lines k.host) c.lines call.0) goes in
    let short : delay (host_after (λ j. start_of (hosts j)) older x.place) source ≤ MOST_DELAY = subst IsNear (sym (host_before hosts trace x older c)) near source in
    omega (arith, short, far)
