use Rattle.std.proofs.Common.{drop}
use Rattle.wb_keeping.specs.Kept.{want_told}
use Rattle.wb_keeping.specs.Performing.{DoesQuietly, KeptValue, LeavesSome}
use Rattle.wb_keeping.proofs.kept_member.KeptMember.want_told.Given as goal

abbrev pub invariant-loop-name : goal.invariant-loop-name
invariant-loop-name l =
    ((after : KeptValue) → DoesQuietly (want_told (drop l.name-index l.names)) l.self after → DoesQuietly (want_told l.names) l.fn.self after)
    × ((after : KeptValue) → LeavesSome (want_told (drop l.name-index l.names)) l.self after → LeavesSome (want_told l.names) l.fn.self after)
