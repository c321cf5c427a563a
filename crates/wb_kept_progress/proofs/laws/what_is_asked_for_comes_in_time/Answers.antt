use Rattle.wb_kept_progress.proofs.GivenUp.{request_is_answered, timer_leads_or_is_given_up}
use Rattle.wb_kept_progress.proofs.KeptInTime.{kept_request_is_answered, kept_timer_leads_or_is_given_up}
use Rattle.wb_kept_progress.proofs.laws.what_is_asked_for_comes_in_time.Goals as goal

pub returns : goal.returns
returns c = record { answered = request_is_answered; leads = timer_leads_or_is_given_up; kept_answered = kept_request_is_answered; kept_leads = kept_timer_leads_or_is_given_up }
