-- Sessions in which programs started, and started anew, become whole as those of hosts do.
use Rattle.std.proofs.Common.{◌+◌}
use Rattle.wb_kept_progress.specs.Filling.{filled_by}
use Rattle.wb_kept_progress.specs.Since.{hosts_of, since}
use Rattle.wb_kept_progress.specs.SoonSince.{RestartedBecomeWholeAnyway, RestartedBecomeWholeSoon}
use Rattle.wb_kept_progress.specs.Telling.{LastNumbersAreTold}
use Rattle.wb_kept_progress.specs.Topped.{gained_by, topped_by}
use Rattle.wb_kept_progress.proofs.Since.{holding_since, quiet_first_more, since_is_timely}
use Rattle.wb_kept_progress.proofs.Topped.{sessions_become_whole_anyway, sessions_become_whole_soon}

module _ (told : LastNumbersAreTold) where
  pub restarted_become_whole_soon : RestartedBecomeWholeSoon
  restarted_become_whole_soon numbers terms calls newer later from wait slices pause asks windows most crowded i n s waits reports have numbered few enough lacks holes_held paid held split late live =
      holding_since numbers terms calls newer later (filled_by terms (topped_by terms from wait slices pause windows) wait (most + crowded)) i n s
      (sessions_become_whole_soon told (hosts_of numbers calls) terms (since numbers calls) from wait slices pause asks windows most crowded n (since_is_timely numbers terms calls s) waits reports have numbered few enough lacks holes_held paid held)
      (quiet_first_more terms.quiet terms.delivery _ wait _ _ _ _) split late live

  pub restarted_become_whole_anyway : RestartedBecomeWholeAnyway
  restarted_become_whole_anyway numbers terms calls newer later from wait slices pause crowds most crowded i n s waits reports have numbered lacks holes_held enough paid held split late live =
      holding_since numbers terms calls newer later (filled_by terms (gained_by terms from wait slices pause crowds most) wait (most + crowded)) i n s
      (sessions_become_whole_anyway told (hosts_of numbers calls) terms (since numbers calls) from wait slices pause crowds most crowded n (since_is_timely numbers terms calls s) waits reports have numbered lacks holes_held enough paid held)
      (quiet_first_more terms.quiet terms.delivery _ wait _ _ _ _) split late live
