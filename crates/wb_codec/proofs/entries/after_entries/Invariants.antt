use Rattle.std.proofs.Common.{◌≤◌, List}
use Rattle.wb_codec.proofs.EntryLists.{HasRead}
use Rattle.wb_codec.proofs.entries.after_entries.Given as goal

abbrev pub invariant-loop-k : goal.invariant-loop-k
invariant-loop-k g l = (l.k ≤ l.count) × ((entries : List _) × HasRead g.E.Spelled.entry_at g.E.Entry.source l.count l.fn.bytes l.k l.before l.rest entries)
