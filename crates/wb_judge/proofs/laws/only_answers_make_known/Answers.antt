use Rattle.wb_judge.proofs.Members.{only_answers_make_known}
use Rattle.wb_judge.proofs.Twins.{numbers_stay}
use Rattle.wb_judge.proofs.laws.only_answers_make_known.Goals as goal

pub returns : goal.returns
returns c = record { known = only_answers_make_known; numbers = numbers_stay }
