use Rattle.wb_keeper.proofs.TickSends.{asks_for_none_held, answers_with_held}
use Rattle.wb_keeper.proofs.laws.ticks_spare_what_is_held.Goals as goal

pub returns : goal.returns
returns c = record { asks = asks_for_none_held; answers = answers_with_held }
