use Rattle.std.proofs.Common.{drop}
use Rattle.wb_keeping.specs.Kept.{want_near}
use Rattle.wb_keeping.specs.Performing.{DoesQuietly, KeptValue, LeavesSome}
use Rattle.wb_keeping.proofs.kept_member.KeptMember.want_near.Given as goal

abbrev pub invariant-loop-name : goal.invariant-loop-name
invariant-loop-name l =
    ((after : KeptValue) → DoesQuietly (want_near (drop l.name-index l.names)) l.self after → DoesQuietly (want_near l.names) l.fn.self after)
    × ((after : KeptValue) → LeavesSome (want_near (drop l.name-index l.names)) l.self after → LeavesSome (want_near l.names) l.fn.self after)
