use Rattle.std.proofs.Common.{refl, codes, ◌∙◌}
use Rattle.clap.specs.Words.{found_of}
use Rattle.clap.proofs.WalkLemmas.{one_text-rows}
use Rattle.wb.proofs.command.filter_task.Goals as goal

pub returns : goal.returns
returns c =
    let same = one_text-rows (found_of c.args.options.now) (codes "keep-going") in
    (refl, (λ e. c.get_flag.ensures.none (same ∙ e), λ e. c.get_flag.ensures.value (same ∙ e), λ e. c.get_flag.ensures.other (same ∙ e)))
