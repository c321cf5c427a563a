use Rattle.wb_progress.proofs.Answering.{request_is_answered_other}
use Rattle.wb_progress.proofs.Leading.{timer_leads_other, timer_leads_or_is_given_up}
use Rattle.wb_progress.proofs.laws.what_is_not_given_up_comes.Goals as goal

pub returns : goal.returns
returns c = record { answered = request_is_answered_other; leads = timer_leads_other; or_given_up = timer_leads_or_is_given_up }
