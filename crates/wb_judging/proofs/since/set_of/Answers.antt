use Rattle.std.specs.HashSet.{contains}
use Rattle.wb_names.specs.Same.{same_target}
use Rattle.wb_judging.proofs.Patching.{inserted}
use Rattle.wb_judging.proofs.since.set_of.Goals as goal

pub loop-target-preserved : goal.loop-target-preserved
loop-target-preserved c = λ t.
    inserted c.args.targets.now c.loop-target.target-index (record { source = 0; seq = 0 }) t (contains same_target c.loop-target.set t) (contains same_target c.insert.new.self t) c.loop-target-test.true (c.in_ok-insert.ensures.updates.0 t) (c.loop-target.invariant t)
