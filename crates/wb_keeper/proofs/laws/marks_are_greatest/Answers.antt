use Rattle.wb_keeper.proofs.HeardNumbers.{marks_are_greatest}
use Rattle.wb_keeper.proofs.MergedNumbers.{merged_are_greatest}
use Rattle.wb_keeper.proofs.laws.marks_are_greatest.Goals as goal

pub returns : goal.returns
returns c = record { marks = marks_are_greatest; merged = merged_are_greatest }
