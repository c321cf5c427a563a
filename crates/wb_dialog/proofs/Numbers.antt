-- A self-managing host stays one, and keeps its number, whatever its driver tells it.
use Rattle.std.proofs.Common.{◌≡◌, ℕ, List, [], Option, Some, None, refl}
use Rattle.wb_keeping.specs.Kept.{Calls, Transition, adds, came, performs, ticks}
use Rattle.wb_keeping.specs.Refusing.{add_fault, came_as, came_fault, drawn_as, tick_fault}
use Rattle.wb_keeping.specs.Performing.{Keeping, sees}
use Rattle.wb_keeping.specs.declared.kept_fault.KeptFault.{KeptFault}
use Rattle.wb_judging.proofs.Numbers.{number_through}
use Rattle.wb_member.specs.declared.calls.Call.TheVariants as calls
use Rattle.wb_commands.specs.declared.command.Command.{Command}
use Rattle.wb_commands.specs.declared.command.Command.TheVariants as lines
use Rattle.wb_dialog.specs.declared.line.DriverLine.{DriverLine}
use Rattle.wb_dialog.specs.declared.line.DriverLine.TheVariants.{Script, Came, Add}
use Rattle.wb_dialog.specs.Dialog.{Answer, gives, refuses, answer_at}
use Rattle.wb_dialog.specs.Hosting.{Driven, Kept, Reply, prints, denies, came_text, kept_does, kept_shows, kept_reply, unsent_text}

-- after a reply it is self-managing, and has this number
abbrev pub IsKept : ℕ → Reply → Type 0
IsKept number (prints (Some (Kept k)) text) = k.host.is.number ≡ number
IsKept number (prints (Some (Driven host board)) text) = ⊥
IsKept number (prints None text) = ⊥
IsKept number (denies e) = Unit {0}

done : (fault : Option KeptFault) (does : Transition) (text : List ℕ) (k : Keeping) → IsKept k.host.is.number (kept_does fault does text k)
done (Some fault) does text k = tt
done None does text k = number_through (does (sees k.host) k.policy).lines k.host

shown : (a : Answer) (k : Keeping) → IsKept k.host.is.number (kept_shows k a)
shown (gives next text) k = refl
shown (refuses e) k = tt

scripted : (line : Command) (k : Keeping) → IsKept k.host.is.number (kept_reply (Script line) k)
scripted lines.Skip k = shown (answer_at (Script lines.Skip) k.host) k
scripted (lines.Board member cells workers seed) k = shown (answer_at (Script (lines.Board member cells workers seed)) k.host) k
scripted (lines.Call (calls.Tune constants)) k = done None (performs (Calls (calls.Tune constants))) [] k
scripted (lines.Call (calls.Tick now)) k = done (tick_fault now k) (ticks now) [] k
scripted (lines.Question query) k = shown (answer_at (Script (lines.Question query)) k.host) k
scripted line k = tt

-- whatever a line says
pub stays_kept : (line : DriverLine) (k : Keeping) → IsKept k.host.is.number (kept_reply line k)
stays_kept (Script line) k = scripted line k
stays_kept (Came now v) k = done (came_fault now v k) (came now v) (came_text v (came_as v k.host)) k
stays_kept (Add a) k = done (add_fault a.moment a.page a.time a.op k) (adds a.moment a.page a.time a.op) (unsent_text (drawn_as a.page a.time a.op k.host)) k
stays_kept line k = search
