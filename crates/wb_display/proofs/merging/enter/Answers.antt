use Rattle.std.proofs.Common.{rules, arith, ◌≡◌, ◌++◌}
use Rattle.wb_display.proofs.ShowingAll.{merged_in_place}
use Rattle.wb_display.proofs.merging.enter.Goals as goal

pub returns : goal.returns
returns c =
    let grown : c.extend_from_slice.new.self.items ≡ c.args.list.now.items ++ c.args.entering.now = search rules in
    merged_in_place c.args.list.now.items c.args.entering.now c.extend_from_slice.new.self.items c.deref_mut.result.now c.merge.new.list c.len-front.result c.extend_from_slice.new.self.len c.deref_mut.ensures.value grown (omega arith) c.merge.auto.list (omega arith) c.merge.ensures
