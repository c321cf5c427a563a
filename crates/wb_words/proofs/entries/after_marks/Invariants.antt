use Rattle.std.proofs.Common.{◌≡◌, length}
use Rattle.wb_words.specs.Rests.{words_left}
use Rattle.wb_words.specs.Reading.{is_echo, left_at}
use Rattle.wb_words.proofs.entries.after_marks.Given as goal

abbrev pub invariant-loop-left : goal.invariant-loop-left
invariant-loop-left l = left_at is_echo (words_left l.fn.rest) ≡ left_at is_echo (words_left l.left)

abbrev pub decreases-loop-left : goal.decreases-loop-left
decreases-loop-left l = length (words_left l.left)
