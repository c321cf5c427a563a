-- The number of a line that stops a driver: it is counted.
use Rattle.std.proofs.Common.{◌≡◌, ℕ, ◌+◌, ◌≤◌, true, List, Result, Ok, Err, inl, inr, subst, arith, nat_lt}
use Rattle.std.proofs.lemmas.Bool.Decides.{nat_tests}
use Rattle.wb_lines.specs.declared.fault.DriveFault.{DriveFault}
use Rattle.wb_lines.specs.declared.fault.DriveFault.TheVariants as faults
use Rattle.wb_lines.specs.Driving.{Outcome, writes, before, IsStopped, Meets}
use Rattle.wb_commands.specs.declared.fault.LineFault.{LineFault}
use Rattle.wb_script.specs.Script.{most_lines}
use Rattle.wb_script.specs.Checking.{IsCounted}

abbrev pub EndsCounted : Outcome LineFault → Type 0
EndsCounted (writes text (Ok n)) = Unit {0}
EndsCounted (writes text (Err e)) = IsCounted most_lines e

pub counted_before : (text : List ℕ) (o : Outcome LineFault) → EndsCounted o → EndsCounted (before text o)
counted_before text (writes rest (Ok n)) h = h
counted_before text (writes rest (Err e)) h = h

pub few_after : (n : ℕ) → nat_lt n most_lines ≡ true → n + 1 ≤ most_lines
few_after n e = grind (arith, nat_tests)

stopped_counted : (e : DriveFault LineFault) → IsStopped (Err e) → IsCounted most_lines e
stopped_counted (faults.Line number f) h = absurd h
stopped_counted e h = tt

counted_as : (e : DriveFault LineFault) (text : List ℕ) (end : Result ℕ (DriveFault LineFault)) → Err e ≡ end → EndsCounted (writes text end) → IsCounted most_lines e
counted_as e text (Ok n) is h = absurd cc
counted_as e text (Err f) is h = let same : f ≡ e = cc in subst (IsCounted most_lines) same h

pub meets_counted : (o : Outcome LineFault) (written : List ℕ) (e : DriveFault LineFault) → EndsCounted o → Meets o written (Err e) → IsCounted most_lines e
meets_counted (writes text end) written e h (inl m) = counted_as e text end m.1 h
meets_counted (writes text end) written e h (inr m) = stopped_counted e m.0
