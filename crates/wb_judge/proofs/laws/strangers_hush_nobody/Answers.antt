use Rattle.wb_judge.proofs.Members.{strangers_hush_nobody}
use Rattle.wb_judge.proofs.Taking.{few_are_taken}
use Rattle.wb_judge.proofs.laws.strangers_hush_nobody.Goals as goal

pub returns : goal.returns
returns c = record { repairs = strangers_hush_nobody; few = few_are_taken }
