use Rattle.std.proofs.Common.{[], Bool, subst}
use Rattle.std.specs.Prelude.{Some}
use Rattle.wb_names.specs.Faults.{fault_unless}
use Rattle.wb_keeper.specs.declared.keep_fault.KeepFault.TheVariants.{Range}
use Rattle.wb_member.specs.declared.calls.Call.TheVariants.{Tune}
use Rattle.wb_keeping.specs.Kept.{Calls, performs}
use Rattle.wb_keeping.specs.declared.kept_fault.KeptFault.TheVariants.{Host}
use Rattle.wb_dialog.specs.Doing.{DoesReply}
use Rattle.wb_dialog.specs.Hosting.{Kept, kept_does}
use Rattle.wb_dialog.specs.declared.opened.Host.TheVariants as values
use Rattle.wb_dialog.proofs.keeping.tune.Goals as goal

-- constants in their range are not refused
pub returns : goal.returns
returns c = λ k at. subst (λ (fine : Bool). DoesReply (Some (Kept k)) (Some (values.Kept c.perform.new.kept)) c.perform.result (kept_does (fault_unless fine (Host Range)) (performs (Calls (Tune c.args.constants))) [] k)) c.requires (c.perform.ensures k at)
