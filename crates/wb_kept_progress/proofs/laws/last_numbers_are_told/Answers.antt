use Rattle.wb_kept_progress.proofs.LastNumbers.{held_numbers_are_told, last_numbers_are_told}
use Rattle.wb_kept_progress.proofs.TellingGrows.{each_mark_is_told_of_growing}
use Rattle.wb_kept_progress.proofs.laws.last_numbers_are_told.Goals as goal

pub returns : goal.returns
returns c = record { growing = each_mark_is_told_of_growing; held = held_numbers_are_told; told = last_numbers_are_told }
