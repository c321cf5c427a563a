-- What happens to a self-managing member, and what it answers.
use Rattle.std.specs.Prelude.{ℕ, Option}
use Rattle.wb_names.specs.Arrivals.{Outcome, Left}
use Rattle.wb_names.specs.Faults.{fault_unless}
use Rattle.wb_names.specs.Moments.{IsMoment}
use Rattle.wb_names.specs.Shapes.{op_of}
use Rattle.wb_names.specs.declared.name.PageId.{PageId}
use Rattle.wb_names.specs.declared.parts.Op.{Op}
use Rattle.wb_codec.specs.declared.datagram.Datagram.{Datagram}
use Rattle.wb_recovery.specs.Timing.{are_constants}
use Rattle.wb_recovery.specs.declared.tuning.Tuning.{Tuning}
use Rattle.wb_member.specs.Opened.{Opened}
use Rattle.wb_member.specs.declared.calls.Call.TheVariants.{Tune}
use Rattle.wb_keeper.specs.declared.keep_fault.KeepFault.TheVariants.{Range}
use Rattle.wb_keeping.specs.Kept.{Calls, Transition, adds, came, performs, ticks}
use Rattle.wb_keeping.specs.Performing.{Keeping}
use Rattle.wb_keeping.specs.Refusing.{add_fault, came_as, came_fault, drawn_as, tick_fault}
use Rattle.wb_keeping.specs.declared.kept_call.KeptCall.{KeptCall}
use Rattle.wb_keeping.specs.declared.kept_call.KeptCall.TheVariants as calls
use Rattle.wb_keeping.specs.declared.kept_fault.KeptFault.{KeptFault}
use Rattle.wb_keeping.specs.declared.kept_fault.KeptFault.TheVariants.{Host}

-- what its driver hands in
pub data KeptLine : Type 0 where
  Came : (now : ℕ) (v : Datagram) → KeptLine
  Ticked : (now : ℕ) → KeptLine
  Added : (now : ℕ) (page : PageId) (time : ℕ) (op : Op) → KeptLine
  Tuned : (constants : Tuning) → KeptLine

-- which of these a call of the code is
abbrev pub line_of : KeptCall → KeptLine
line_of (calls.Came now datagram) = Came now datagram.now
line_of (calls.Ticked now) = Ticked now
line_of (calls.Added now page time shape) = Added now page time (op_of shape)
line_of (calls.Tuned constants) = Tuned constants

-- its moment is below 2^48
abbrev pub IsWithin : KeptLine → Type 0
IsWithin (Came now v) = IsMoment now
IsWithin (Ticked now) = IsMoment now
IsWithin (Added now page time op) = IsMoment now
IsWithin (Tuned constants) = Unit {0}

-- what it does
abbrev pub doing_of : KeptLine → Transition
doing_of (Came now v) = came now v
doing_of (Ticked now) = ticks now
doing_of (Added now page time op) = adds now page time op
doing_of (Tuned constants) = performs (Calls (Tune constants))

-- why it refuses the line, if it does
abbrev pub fault_of : KeptLine → Keeping → Option KeptFault
fault_of (Came now v) k = came_fault now v k
fault_of (Ticked now) k = tick_fault now k
fault_of (Added now page time op) k = add_fault now page time op k
fault_of (Tuned constants) k = fault_unless (are_constants constants) (Host Range)

-- what became of the drawop that came or was drawn, if there is one
abbrev pub became_of : KeptLine → Opened → Outcome
became_of (Came now v) host = came_as v host
became_of (Ticked now) host = Left
became_of (Added now page time op) host = drawn_as page time op host
became_of (Tuned constants) host = Left
