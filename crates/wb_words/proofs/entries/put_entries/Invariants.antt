use Rattle.std.proofs.Common.{◌≡◌, ◌++◌, take, map}
use Rattle.wb_words.specs.Spelling.{tailed}
use Rattle.wb_words.proofs.entries.put_entries.Given as goal

abbrev pub invariant-loop-entry : goal.invariant-loop-entry
invariant-loop-entry g l = l.out.items ≡ l.fn.out.items ++ tailed (map g.E.Worded.entry_word (take l.entry-index l.entries))
