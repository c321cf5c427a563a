use Rattle.wb_keeper.proofs.MessageValue.{message_is_session}
use Rattle.wb_keeper.proofs.OneMessage.{one_session}
use Rattle.wb_keeper.proofs.laws.one_session.Goals as goal

pub returns : goal.returns
returns c = record { one = one_session; message = message_is_session }
