use Rattle.wb_judging.proofs.Heard.{others_hear_the_same}
use Rattle.wb_judging.proofs.laws.others_hear_the_same.Goals as goal

pub returns : goal.returns
returns c = others_hear_the_same
