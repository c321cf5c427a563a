use Rattle.wb_dialog.proofs.MemberLaws.{record_before_send}
use Rattle.wb_dialog.proofs.laws.records_stand_before_sends.Goals as goal

pub returns : goal.returns
returns c = record_before_send
