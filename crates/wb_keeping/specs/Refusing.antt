-- Why a self-managing member refuses a call, and what became of the drawop of one.
use Rattle.std.specs.Prelude.{◌≡◌, ℕ, Bool, false, not, ◌&&◌, [], ◌∷◌, Option, Some, None, Result, Ok, Err, nat_eq, nat_le, nat_lt}
use Rattle.std.specs.Option.{option_map}
use Rattle.wb_names.specs.Arrivals.{Outcome, Left}
use Rattle.wb_names.specs.Drawing.{op_fault}
use Rattle.wb_names.specs.Values.{NameValue, greatest_number}
use Rattle.wb_names.specs.Faults.{fault_unless, first_of}
use Rattle.wb_names.specs.declared.name.PageId.{PageId}
use Rattle.wb_names.specs.declared.parts.Op.{Op}
use Rattle.wb_codec.specs.declared.datagram.Datagram.{Datagram}
use Rattle.wb_codec.specs.declared.datagram.Datagram.TheVariants.{Draw, Session, Request, AskPages, PageState}
use Rattle.wb_keeper.specs.declared.keep_fault.KeepFault.TheVariants.{BackInTime, Memory}
use Rattle.wb_member.specs.Judged.{holds}
use Rattle.wb_member.specs.Opened.{Opened, becomes, last_number, present}
use Rattle.wb_keeping.specs.Kept.{drawing}
use Rattle.wb_keeping.specs.Performing.{Keeping, view_of}
use Rattle.wb_keeping.specs.declared.kept_fault.KeptFault.{KeptFault}
use Rattle.wb_keeping.specs.declared.kept_fault.KeptFault.TheVariants.{Host, Listening, Ours, Numbers, Operation}
use Rattle.wb_names.specs.declared.name.TheConstants.{FIRST_FORGED}

-- ---- refusals: the first fault of each call

-- a moment before the present one
abbrev pub back_in_time : ℕ → Keeping → Option KeptFault
back_in_time now k = fault_unless (nat_le (present k.host) now) (Host BackInTime)

-- a name of this member's own that it does not hold, of a number from 2^31 on, to which it would never come
abbrev pub is_unknown : NameValue → Opened → Bool
is_unknown name host = nat_eq name.source host.is.number && (nat_le FIRST_FORGED name.seq && not (holds host name))

abbrev pub is_unknown_of_ours : Datagram → Opened → Bool
is_unknown_of_ours (Draw d) host = is_unknown d.name host
is_unknown_of_ours (Session sender sent page marks echoes) host = false
is_unknown_of_ours (Request asker name) host = false
is_unknown_of_ours (AskPages asker) host = false
is_unknown_of_ours (PageState sender page marks) host = false

abbrev pub tick_fault : ℕ → Keeping → Option KeptFault
tick_fault now k = first_of (back_in_time now k ∷ [])

abbrev pub came_fault : ℕ → Datagram → Keeping → Option KeptFault
came_fault now v k = first_of (back_in_time now k ∷ fault_unless (not (is_unknown_of_ours v k.host)) Ours ∷ [])

-- nothing is added while it listens
abbrev pub waits_fault : ℕ → Keeping → Option KeptFault
waits_fault now k = first_of (back_in_time now k ∷ fault_unless (not (nat_lt now k.policy.ready)) Listening ∷ [])

-- under no number, or with an operation that its name may not carry
abbrev pub drawing_fault : PageId → ℕ → Op → Keeping → Option KeptFault
drawing_fault page time op k = first_of (
    fault_unless (nat_lt (last_number page k.host) greatest_number) Numbers
    ∷ option_map Operation (op_fault (drawing (view_of k.host) page time op).name op)
    ∷ [])

abbrev pub add_fault : ℕ → PageId → ℕ → Op → Keeping → Option KeptFault
add_fault now page time op k = first_of (waits_fault now k ∷ drawing_fault page time op k ∷ [])

-- The result is the fault, or an answer if there is none, unless memory ran out.
abbrev pub IsRefusedBy : {X : Type 0} → Option KeptFault → Result X KeptFault → Type 0
IsRefusedBy (Some fault) result = result ≡ Err fault
IsRefusedBy None (Ok x) = Unit {0}
IsRefusedBy None (Err fault) = fault ≡ Host Memory

-- ---- what became of a drawop

-- of the one that came, if the datagram is one
abbrev pub came_as : Datagram → Opened → Outcome
came_as (Draw d) host = becomes d host
came_as (Session sender sent page marks echoes) host = Left
came_as (Request asker name) host = Left
came_as (AskPages asker) host = Left
came_as (PageState sender page marks) host = Left

-- of the next drawing
abbrev pub drawn_as : PageId → ℕ → Op → Opened → Outcome
drawn_as page time op host = becomes (drawing (view_of host) page time op) host
