use Rattle.std.proofs.Common.{arith}
use Rattle.wb_gaps.proofs.HeldRanges.{joined_after, lone_after}
use Rattle.wb_gaps.proofs.holdings.join.Goals as goal

pub returns-in_ok-insert-in-Some-clause-ranges : goal.returns-in_ok-insert-in-Some-clause-ranges
returns-in_ok-insert-in-Some-clause-ranges c = let b = c.requires.begins in let d = c.in-Some.ensures in (joined_after c.args.ranges.now c.insert.new.self c.remove.new.self c.args.at.page c.args.at.source c.args.at.first c.in-Some.last c.args.start c.in-Some.next (omega arith) c.requires.ranges b.0 b.1 b.2 d.0 d.1 d.2 d.3 c.in_ok-insert-in-Some.ensures.updates c.remove.ensures.updates c.insert.ensures.was_ordered c.remove.ensures.ordered).0

pub returns-in_ok-insert-in-Some-clause-ok : goal.returns-in_ok-insert-in-Some-clause-ok
returns-in_ok-insert-in-Some-clause-ok c = let b = c.requires.begins in let d = c.in-Some.ensures in (joined_after c.args.ranges.now c.insert.new.self c.remove.new.self c.args.at.page c.args.at.source c.args.at.first c.in-Some.last c.args.start c.in-Some.next (omega arith) c.requires.ranges b.0 b.1 b.2 d.0 d.1 d.2 d.3 c.in_ok-insert-in-Some.ensures.updates c.remove.ensures.updates c.insert.ensures.was_ordered c.remove.ensures.ordered).1

pub returns-in_ok-insert-in-None-clause-ranges : goal.returns-in_ok-insert-in-None-clause-ranges
returns-in_ok-insert-in-None-clause-ranges c = let b = c.requires.begins in (lone_after c.args.ranges.now c.insert-in-None.new.self c.args.at.page c.args.at.source c.args.at.first c.args.start (omega arith) (omega arith) c.requires.ranges b.0 b.1 b.2 c.in-None.ensures c.in_ok-insert-in-None.ensures.updates c.insert-in-None.ensures.was_ordered c.insert-in-None.ensures.ordered).0

pub returns-in_ok-insert-in-None-clause-ok : goal.returns-in_ok-insert-in-None-clause-ok
returns-in_ok-insert-in-None-clause-ok c = let b = c.requires.begins in (lone_after c.args.ranges.now c.insert-in-None.new.self c.args.at.page c.args.at.source c.args.at.first c.args.start (omega arith) (omega arith) c.requires.ranges b.0 b.1 b.2 c.in-None.ensures c.in_ok-insert-in-None.ensures.updates c.insert-in-None.ensures.was_ordered c.insert-in-None.ensures.ordered).1
