-- A kept host is a host, and what its driver draws is not locked.
use Rattle.std.proofs.Common.{◌≡◌, Bool, true, false, List, [], ◌∷◌, ◌++◌, ◌∙◌, ap, arith, refl, sym}
use Rattle.std.specs.Prelude.{Option, None, Some, nat_le, nat_lt, not}
use Rattle.std.specs.Option.{option_map}
use Rattle.std.proofs.lemmas.Bool.Decides.{nat_tests}
use Rattle.wb_codec.specs.declared.datagram.Datagram.{Datagram}
use Rattle.wb_names.specs.Drawing.{op_fault}
use Rattle.wb_names.specs.Faults.{fault_unless, first_of}
use Rattle.wb_names.specs.declared.fault.FieldFault.{FieldFault}
use Rattle.wb_keeper.specs.declared.keep_fault.KeepFault.TheVariants.{BackInTime}
use Rattle.wb_member.specs.Opened.{last_number, present}
use Rattle.wb_keeping.specs.Kept.{drawing}
use Rattle.wb_keeping.specs.Laws.{DrawingIsNotLocked, KeptHostsAreHosts, doing_of, expand}
use Rattle.wb_keeping.specs.Performing.{after_doing, sees, sent_by_lines, view_of}
use Rattle.wb_keeping.specs.declared.kept_fault.KeptFault.TheVariants.{Host, Listening, Numbers, Operation}
use Rattle.wb_keeping.proofs.Performed.{after_both, sent_by_both}

pub kept_hosts_are_hosts : KeptHostsAreHosts
kept_hosts_are_hosts [] k = (refl, refl)
kept_hosts_are_hosts (line ∷ lines) k =
    let d = doing_of line (sees k.host) k.policy in
    let next = after_doing (doing_of line) k in
    let rest = kept_hosts_are_hosts lines next in (
      rest.0 ∙ sym (after_both d.lines (expand lines next) k.host),
      ap (λ (sent : List Datagram). sent_by_lines d.lines k.host ++ sent) rest.1 ∙ sym (sent_by_both d.lines (expand lines next) k.host),
    )

no_fault : (past waits left : Bool) (fault : Option FieldFault) → past ≡ true → waits ≡ false → left ≡ true → fault ≡ None
    → first_of (first_of (fault_unless past (Host BackInTime) ∷ fault_unless (not waits) Listening ∷ []) ∷ first_of (fault_unless left Numbers ∷ option_map Operation fault ∷ []) ∷ []) ≡ None
no_fault true false true None a b c d = refl
no_fault true false true (Some f) a b c d = absurd cc
no_fault true false false fault a b c d = absurd cc
no_fault true true left fault a b c d = absurd cc
no_fault false waits left fault a b c d = absurd cc

pub drawing_is_not_locked : DrawingIsNotLocked
drawing_is_not_locked now page time op k left past ready lawful =
    no_fault (nat_le (present k.host) now) (nat_lt now k.policy.ready) (nat_lt (last_number page k.host) 4294967295) (op_fault (drawing (view_of k.host) page time op).name op)
    (grind (arith, nat_tests)) (grind (arith, nat_tests)) (grind (arith, nat_tests)) lawful
