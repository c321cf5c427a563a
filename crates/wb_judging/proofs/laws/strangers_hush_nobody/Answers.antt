use Rattle.wb_judging.proofs.Followed.{strangers_hush}
use Rattle.wb_judging.proofs.laws.strangers_hush_nobody.Goals as goal

pub returns : goal.returns
returns c = strangers_hush
