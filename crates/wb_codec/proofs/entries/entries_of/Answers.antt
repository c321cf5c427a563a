use Rattle.std.proofs.Common.{sym, ap, ◌∙◌, arith}
use Rattle.wb_codec.specs.Checked.{listed}
use Rattle.wb_codec.proofs.EntryLists.{read_more, read_stops, read_all, never_stops, ascends_more}
use Rattle.wb_codec.proofs.entries.entries_of.Goals as goal

pub unreachable-requires : goal.unreachable-requires
unreachable-requires g c = never_stops _ _ c.requires (read_stops g.E.Spelled.entry_at g.E.Entry.source _ _ _ _ _ _ _ c.loop-k.invariant.read (omega arith) c.in-Err.ensures.entry)

pub loop-k-preserved : goal.loop-k-preserved
loop-k-preserved g c = record {
  room = (omega arith, omega arith, omega arith);
  read = read_more g.E.Spelled.entry_at g.E.Entry.source _ _ _ _ _ _ _ _ _ _ c.loop-k.invariant.read (omega arith) c.in-Ok.ensures.entry c.push_reserved.ensures.items c.source.ensures.source;
  ascends = ascends_more g.E.Entry.source g.E.Entry.IsPositive _ _ _ _ _ c.loop-k.invariant.ascends c.in-Ok.ensures.above c.in-Ok.ensures.positive c.push_reserved.ensures.items c.source.ensures.source;
}

pub returns : goal.returns
returns g c = c.from_ascending.ensures ∙ sym (ap listed (read_all g.E.Spelled.entry_at g.E.Entry.source _ _ _ _ _ _ c.loop-k.invariant.read (omega arith)))
