use Rattle.std.proofs.Common.{refl}
use Rattle.wb_member.specs.declared.calls.Call.TheVariants.{Stop}
use Rattle.wb_keeping.specs.Kept.{Calls}
use Rattle.wb_keeping.proofs.Performed.{quiet_line, quiet_of}
use Rattle.wb_keeping.proofs.kept_member.KeptMember.stop.Goals as goal

pub returns : goal.returns
returns c = quiet_of c.self.view_is (quiet_line (Calls (Stop c.args.name.now)) refl (λ host at. (refl, (c.stop.ensures host at).1)))
