use Rattle.wb_judge.proofs.Bounds.{shares_stay}
use Rattle.wb_judge.proofs.Shared.{names_count_once}
use Rattle.wb_judge.proofs.Stepping.{strangers_have_a_share}
use Rattle.wb_judge.proofs.laws.strangers_have_a_share.Goals as goal

pub returns : goal.returns
returns c = record { share = strangers_have_a_share; once = names_count_once; stays = shares_stay }
