use Rattle.wb_progress.proofs.Repairs.{asker_asks, asked_anew_is_soon, answers_are_soon, holder_answers}
use Rattle.wb_progress.proofs.laws.repairs_come.Goals as goal

pub returns : goal.returns
returns c = record { asker = asker_asks; anew = asked_anew_is_soon; soon = answers_are_soon; holder = holder_answers }
