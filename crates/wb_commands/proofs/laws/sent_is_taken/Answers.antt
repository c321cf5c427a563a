use Rattle.wb_commands.proofs.SentDigits.{taken}
use Rattle.wb_commands.proofs.laws.sent_is_taken.Goals as goal

pub returns : goal.returns
returns c = taken
