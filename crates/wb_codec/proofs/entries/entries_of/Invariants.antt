use Rattle.std.proofs.Common.{◌≡◌, ◌≤◌, vec_len, vec_capacity}
use Rattle.wb_codec.proofs.EntryLists.{HasRead, Ascends}
use Rattle.wb_codec.proofs.entries.entries_of.Given as goal

abbrev pub invariant-loop-k : goal.invariant-loop-k
invariant-loop-k g l = record {
  room : (l.k ≤ l.unread.count) × (vec_len l.entries ≡ l.k) × (vec_capacity l.entries ≡ l.unread.count);
  read : HasRead g.E.Spelled.entry_at g.E.Entry.source l.unread.count l.unread.bytes.now l.k l.before l.rest l.entries.items;
  ascends : Ascends g.E.Entry.source g.E.Entry.IsPositive l.before l.entries.items;
}
