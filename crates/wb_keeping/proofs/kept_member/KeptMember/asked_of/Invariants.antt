use Rattle.std.proofs.Common.{◌≡◌, ◌++◌, drop}
use Rattle.wb_keeping.specs.Performing.{IsKeptAt, Keeping}
use Rattle.wb_member.specs.Opened.{events}
use Rattle.wb_recovery.specs.Events.{timers_of}
use Rattle.wb_keeping.specs.Performing.{asked_with}
use Rattle.wb_keeping.proofs.kept_member.KeptMember.asked_of.Given as goal

abbrev pub invariant-loop-name : goal.invariant-loop-name
invariant-loop-name l = (k : Keeping) → IsKeptAt l.self k → l.asked.items ++ asked_with (timers_of k.host.is.constants (events k.host)) (drop l.name-index l.names) ≡ asked_with (timers_of k.host.is.constants (events k.host)) l.names
