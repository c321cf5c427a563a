use Rattle.std.proofs.Common.{refl}
use Rattle.wb_member.specs.declared.calls.Call.TheVariants.{Ask}
use Rattle.wb_keeping.specs.Kept.{Calls}
use Rattle.wb_keeping.proofs.Performed.{quiet_line, quiet_of}
use Rattle.wb_keeping.proofs.kept_member.KeptMember.ask.Goals as goal

pub returns-clause-does : goal.returns-clause-does
returns-clause-does c = quiet_of c.self.view_is (quiet_line (Calls (Ask c.args.name.now)) refl (λ host at. (refl, (c.in_ok-ask.ensures.asked host at).1)))
