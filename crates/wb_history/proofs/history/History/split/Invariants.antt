use Rattle.wb_history.proofs.history.History.split.Given as goal

abbrev pub ghosts-cut : goal.ghosts-cut
ghosts-cut a = record { rows = a.rows }
