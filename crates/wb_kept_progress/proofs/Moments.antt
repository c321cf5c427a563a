-- The moments that lines say.
use Rattle.std.proofs.Common.{◌≡◌, ℕ, inl, inr, refl}
use Rattle.std.specs.Prelude.{◌⊎◌}
use Rattle.wb_recovery.specs.declared.tuning.Tuning.{Tuning}
use Rattle.wb_progress.specs.Turns.{IsNowAt, Terms}
use Rattle.wb_keeping.specs.Laws.{KeptLine, Came, Ticked, Added, Tuned}
use Rattle.wb_kept_progress.specs.Timed.{SaysNow}

-- a line that changes constants says none
abbrev pub IsTuned : KeptLine → Type 0
IsTuned line = (constants : Tuning) × (line ≡ Tuned constants)

-- if a line says a moment, it is this one
abbrev pub IsTold : ℕ → KeptLine → Type 0
IsTold moment (Came now v) = now ≡ moment
IsTold moment (Ticked now) = now ≡ moment
IsTold moment (Added now page time op) = now ≡ moment
IsTold moment (Tuned constants) = Unit {0}

abbrev pub moment_of : KeptLine → ℕ
moment_of (Came now v) = now
moment_of (Ticked now) = now
moment_of (Added now page time op) = now
moment_of (Tuned constants) = 0

pub told_itself : (line : KeptLine) → IsTold (moment_of line) line
told_itself (Came now v) = refl
told_itself (Ticked now) = refl
told_itself (Added now page time op) = refl
told_itself (Tuned constants) = tt

pub told_or_tuned : (terms : Terms) (time place : ℕ) (line : KeptLine) → SaysNow terms time place line → IsTuned line ⊎ IsNowAt terms time place (moment_of line)
told_or_tuned terms time place (Came now v) told = inr told
told_or_tuned terms time place (Ticked now) told = inr told
told_or_tuned terms time place (Added now page t op) told = inr told
told_or_tuned terms time place (Tuned constants) told = inl (constants, refl)
