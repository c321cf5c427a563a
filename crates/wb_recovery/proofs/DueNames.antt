-- The names whose timers are due, listed.
use Rattle.std.proofs.Common.{◌≡◌, Bool, true, List}
use Rattle.std.specs.Bool.{one_answer}
use Rattle.std.proofs.lemmas.Map.Made.{is_member-Decides}
use Rattle.wb_names.specs.Values.{NameValue}
use Rattle.wb_names.specs.Orders.{name_cmp}
use Rattle.wb_names.specs.Listing.{Lists}
use Rattle.wb_recovery.specs.Alarms.{among}
use Rattle.wb_recovery.proofs.NameOrder.{name_decides}

pub among_listed : (p : NameValue → Bool) (xs : List NameValue) → Lists name_cmp (λ n. p n ≡ true) xs → (n : NameValue) → among xs n ≡ p n
among_listed p xs l n = let d = is_member-Decides name_decides xs n in
    one_answer (among xs n) (p n) ((λ h. (l.members n).0 (d.0 h)), (λ h. d.1 ((l.members n).1 h))) ((λ h. h), (λ h. h))
