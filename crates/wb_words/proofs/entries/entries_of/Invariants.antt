use Rattle.std.proofs.Common.{length}
use Rattle.wb_codec.proofs.EntryLists.{Ascends}
use Rattle.wb_words.specs.Rests.{words_left}
use Rattle.wb_words.proofs.EntryLists.{HasRead}
use Rattle.wb_words.proofs.entries.entries_of.Given as goal

abbrev pub invariant-loop-left : goal.invariant-loop-left
invariant-loop-left g l = record {
  read : HasRead g.E.Worded.entry_at g.E.Entry.source g.E.Worded.stops l.place (words_left l.fn.rest) l.before (words_left l.left) l.entries.items;
  ascends : Ascends g.E.Entry.source g.E.Entry.IsPositive l.before l.entries.items;
}

abbrev pub decreases-loop-left : goal.decreases-loop-left
decreases-loop-left g l = length (words_left l.left)
