use Rattle.wb_judge.proofs.Firmness.{repairs_are_shared}
use Rattle.wb_judge.proofs.Repairing.{repairs_are_few, strangers_are_few}
use Rattle.wb_judge.proofs.laws.repairs_are_few.Goals as goal

pub returns : goal.returns
returns c = record { members = repairs_are_few; strangers = strangers_are_few; shared = repairs_are_shared }
