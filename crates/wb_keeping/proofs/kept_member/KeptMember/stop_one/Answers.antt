use Rattle.std.proofs.Common.{subst}
use Rattle.std.specs.Prelude.{Option}
use Rattle.wb_keeping.specs.Kept.{stops_one}
use Rattle.wb_keeping.specs.Performing.{DoesQuietly}
use Rattle.wb_keeping.specs.Steps.{performs_all}
use Rattle.wb_policy.specs.declared.wanting.AskedName.{AskedName}
use Rattle.wb_keeping.proofs.kept_member.KeptMember.stop_one.Goals as goal

pub returns-in-Some : goal.returns-in-Some
returns-in-Some c = subst (λ (o : Option AskedName). DoesQuietly (performs_all (stops_one o)) c.args.self.now c.stop.new.self) c.in-Some.ensures c.stop.ensures
