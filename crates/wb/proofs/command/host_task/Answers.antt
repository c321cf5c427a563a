use Rattle.std.proofs.Common.{refl, codes, ◌∙◌, MatchResult, List, ℕ, Result}
use Rattle.std.proofs.lemmas.Result.{err_from_is_err_and}
use Rattle.clap.specs.Words.{found_of, one_of, rows_of}
use Rattle.clap.proofs.WalkLemmas.{one_text-rows}
use Rattle.wb_recovery.specs.declared.tuning.Tuning.{Tuning}
use Rattle.wb.specs.CommandLine.{SaysTuning}
use Rattle.wb.proofs.Found.{tuning_in, no_tuning_in, no_host}
use Rattle.wb.proofs.command.host_task.Goals as goal

abbrev gives : {E : Type 0} → List ℕ → Result Tuning E → Type 0
gives text r = MatchResult r (SaysTuning text) (λ _. (t : Tuning) → SaysTuning text t → ⊥)

pub returns-in_err-constants : goal.returns-in_err-constants
returns-in_err-constants c =
    let p = err_from_is_err_and c.from_residual.result c.from_residual.ensures.1 in
    let same = one_text-rows (found_of c.args.options.now) (codes "tuning") in
    rw p.1 (no_host (rows_of (found_of c.args.options.now))
    (λ t. no_tuning_in gives (one_of (codes "tuning") (rows_of (found_of c.args.options.now))) _ t (λ u v g s. g v s)
    (λ e. c.in_err-constants.ensures.none (same ∙ e)) (λ u e. c.in_err-constants.ensures.value u (same ∙ e))))

pub returns : goal.returns
returns c =
    let same = one_text-rows (found_of c.args.options.now) (codes "tuning") in (
      refl,
      tuning_in gives (one_of (codes "tuning") (rows_of (found_of c.args.options.now))) c.in_ok-constants.constants c.unwrap_or_default.result (λ u v g. g)
          (λ e. c.in_ok-constants.ensures.none (same ∙ e)) (λ u e. c.in_ok-constants.ensures.value u (same ∙ e)) c.unwrap_or_default.ensures,
    )
