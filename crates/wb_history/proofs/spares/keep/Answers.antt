use Rattle.std.specs.Prelude.{is_ok}
use Rattle.wb_history.proofs.Fronts.{kept}
use Rattle.wb_history.proofs.spares.keep.Goals as goal

pub returns-then-seen-len : goal.returns-then-seen-len
returns-then-seen-len c seen fronts front = kept c.args.spares.now.items c.push-kept.new.self.items c.args.list (is_ok c.push-kept.result) seen c.push-kept.ensures.items fronts front
