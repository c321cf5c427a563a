use Rattle.wb_judging.proofs.Again.{it_begins_again}
use Rattle.wb_judging.proofs.Unrefused.{record_lines_are_taken}
use Rattle.wb_judging.proofs.laws.it_begins_again.Goals as goal

pub returns : goal.returns
returns c = record { alike = it_begins_again; taken = record_lines_are_taken }
