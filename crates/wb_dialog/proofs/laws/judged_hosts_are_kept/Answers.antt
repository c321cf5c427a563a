use Rattle.wb_dialog.proofs.MemberLaws.{judged_is_kept}
use Rattle.wb_dialog.proofs.laws.judged_hosts_are_kept.Goals as goal

pub returns : goal.returns
returns c = judged_is_kept
