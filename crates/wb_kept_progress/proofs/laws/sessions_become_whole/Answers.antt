use Rattle.wb_kept_progress.proofs.Agreeing.{sessions_agree}
use Rattle.wb_kept_progress.proofs.Promised.{all_are_soon, all_are_soon_by_rates, sessions_become_whole as becomes_whole}
use Rattle.wb_kept_progress.proofs.laws.sessions_become_whole.Goals as goal

pub returns : goal.returns
returns c = record { whole = becomes_whole; always = all_are_soon; by_rates = all_are_soon_by_rates; agree = sessions_agree }
