use Rattle.std.proofs.Common.{[], ◌∷◌, ◌++◌, refl, arith, rules}
use Rattle.wb_codec.proofs.EntryLists.{read_none, read_more, read_stops, read_all, read_listed}
use Rattle.wb_codec.proofs.entries.after_entries.Goals as goal

pub loop-k-init : goal.loop-k-init
loop-k-init g c = (omega arith, ([], read_none g.E.Spelled.entry_at g.E.Entry.source c.args.count c.args.bytes.now))

pub loop-k-preserved : goal.loop-k-preserved
loop-k-preserved g c =
    let h = c.loop-k.invariant.1 in
    (omega arith, (h.0 ++ _ ∷ [], read_more g.E.Spelled.entry_at g.E.Entry.source _ _ _ _ _ _ h.0 _ _ _ h.1 (omega arith) c.in_ok-entry.ensures.entry refl c.source.ensures.source))

pub returns-in_err-entry : goal.returns-in_err-entry
returns-in_err-entry g c = let h = c.loop-k.invariant.1 in let e = read_stops g.E.Spelled.entry_at g.E.Entry.source _ _ _ _ _ h.0 _ h.1 (omega arith) c.in_err-entry.ensures.entry in search (rules, e)

pub returns : goal.returns
returns g c = let h = c.loop-k.invariant.1 in read_listed g.E.Spelled.entry_at g.E.Entry.source _ _ _ h.0 (read_all g.E.Spelled.entry_at g.E.Entry.source _ _ _ _ _ h.0 h.1 (omega arith))
