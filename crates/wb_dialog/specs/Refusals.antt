-- The texts that say why a line of a driver is refused, and why a host stopped.
use Rattle.std.specs.Prelude.{ℕ, List, codes}
use Rattle.wb_commands.specs.Faults.{line_text}
use Rattle.wb_dialog.specs.declared.fault.Refusal.{Refusal}
use Rattle.wb_dialog.specs.declared.fault.Refusal.TheVariants as refusals
use Rattle.wb_dialog.specs.declared.fault.HostFault.{HostFault}
use Rattle.wb_dialog.specs.declared.fault.HostFault.TheVariants as host_faults

abbrev pub refusal_text : Refusal → List ℕ
refusal_text (refusals.Line e) = line_text e
refusal_text refusals.Member = codes "member"
refusal_text refusals.Endless = codes "endless"
refusal_text refusals.NotKept = codes "not kept"
refusal_text refusals.Kept = codes "kept"
refusal_text refusals.TooLate = codes "too late"
refusal_text refusals.Listening = codes "listening"
refusal_text refusals.Ours = codes "ours"
refusal_text refusals.Twin = codes "twin"
refusal_text refusals.Full = codes "full"

abbrev pub host_text : HostFault → List ℕ
host_text host_faults.Read = codes "read"
host_text host_faults.Write = codes "write"
host_text host_faults.Memory = codes "memory"
host_text host_faults.Endless = codes "endless"
