use Rattle.wb_keeping.proofs.TakenTurns.{turns_are_taken}
use Rattle.wb_keeping.proofs.ToldReports.{reports_tell}
use Rattle.wb_keeping.proofs.laws.turns_are_taken.Goals as goal

pub returns : goal.returns
returns c = record { turns = turns_are_taken; reports = reports_tell }
