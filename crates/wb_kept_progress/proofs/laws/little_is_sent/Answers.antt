use Rattle.wb_kept_progress.proofs.FewBytes.{drawops_are_short, few_bytes_are_sent, reports_are_reckoned, requests_are_short}
use Rattle.wb_kept_progress.proofs.FewRequests.{few_requests_are_sent}
use Rattle.wb_kept_progress.proofs.FewDrawops.{drawops_are_called_for, no_answer_stands}
use Rattle.wb_kept_progress.proofs.JudgedBytes.{judged_drawops_are_short, judged_members_send_few_bytes}
use Rattle.wb_kept_progress.proofs.JudgedTraffic.{judged_members_send_few}
use Rattle.wb_kept_progress.proofs.SentKinds.{little_is_sent as sends_little}
use Rattle.wb_kept_progress.proofs.laws.little_is_sent.Goals as goal

pub returns : goal.returns
returns c = record { said = sends_little; requests = few_requests_are_sent; drawops = drawops_are_called_for; first = no_answer_stands; judged = judged_members_send_few; bytes = few_bytes_are_sent; reckoned = reports_are_reckoned; requested = requests_are_short; drawn = drawops_are_short; judged_bytes = judged_members_send_few_bytes; judged_drawn = judged_drawops_are_short }
