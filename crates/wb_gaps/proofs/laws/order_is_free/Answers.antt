use Rattle.wb_gaps.proofs.Rearranged.{gaps_moved, report_moved, pages_moved}
use Rattle.wb_gaps.proofs.laws.order_is_free.Goals as goal

pub returns : goal.returns
returns c = record { gaps = gaps_moved; report = report_moved; pages = pages_moved }
