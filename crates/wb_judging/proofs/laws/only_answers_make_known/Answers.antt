use Rattle.wb_judging.proofs.Followed.{only_answers}
use Rattle.wb_judging.proofs.laws.only_answers_make_known.Goals as goal

pub returns : goal.returns
returns c = only_answers
