use Rattle.wb_host_sessions.proofs.Records.{boards_are_files, records_tell}
use Rattle.wb_host_sessions.proofs.laws.records_tell.Goals as goal

pub returns : goal.returns
returns c = record { records = records_tell; boards = boards_are_files }
