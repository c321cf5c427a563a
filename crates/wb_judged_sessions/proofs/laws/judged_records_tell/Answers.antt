use Rattle.wb_judged_sessions.proofs.Records.{boards_are_files, files_are_whole, records_tell}
use Rattle.wb_judged_sessions.proofs.laws.judged_records_tell.Goals as goal

pub returns : goal.returns
returns c = record { records = records_tell; files = files_are_whole; boards = boards_are_files }
