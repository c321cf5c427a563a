use Rattle.std.proofs.Common.{drop, map}
use Rattle.wb_keeping.specs.Kept.{Calls, stops_for}
use Rattle.wb_keeping.specs.Performing.{DoesQuietly, KeptValue}
use Rattle.wb_keeping.specs.Steps.{performs_all}
use Rattle.wb_keeping.proofs.kept_member.KeptMember.stop_all.Given as goal

abbrev pub invariant-loop-name : goal.invariant-loop-name
invariant-loop-name l = (after : KeptValue) → DoesQuietly (performs_all (stops_for (drop l.name-index l.names))) l.self after → DoesQuietly (performs_all (stops_for l.names)) l.fn.self after
