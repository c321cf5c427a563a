use Rattle.wb_script.proofs.AlikeHistories.{answers_are_free}
use Rattle.wb_script.proofs.laws.order_is_free.Goals as goal

pub returns : goal.returns
returns c = answers_are_free
