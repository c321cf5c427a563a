use Rattle.std.proofs.Common.{◌≡◌, sym, subst}
use Rattle.indexmap.specs.IndexSet.{insert_key}
use Rattle.wb_history.proofs.Names.{alike, put_name}
use Rattle.wb_history.specs.Indexed.{SeenValue}
use Rattle.wb_names.specs.History.{HoldsName}
use Rattle.wb_history.proofs.seen.Seen.put.Goals as goal

pub invariant_of-self : goal.invariant_of-self
invariant_of-self c =
    let absent = subst (λ (m : SeenValue). HoldsName m.items c.args.drawop.now.name → ⊥) (sym c.self.view_is) c.requires.new in
    put_name _ _ c.args.drawop.now _ _ absent c.self.invariant c.push_reserved.ensures.items (subst (λ n. c.insert.new.self.keys ≡ insert_key alike c.self.inside.names.keys n) c.name.ensures c.in-Ok.ensures.keys)
