use Rattle.std.proofs.Common.{◌≡◌, vec_len}
use Rattle.std.specs.List.Sorted.{IsStrictlySortedBy}
use Rattle.wb_names.specs.Values.{NameValue}
use Rattle.wb_names.specs.Orders.{name_cmp}
use Rattle.wb_recovery.specs.Values.{record_in, names_in}
use Rattle.wb_recovery.specs.Noticing.{taken_back}
use Rattle.wb_recovery.proofs.recovery.Recovery.take_back.Given as goal

abbrev pub invariant-loop-last : goal.invariant-loop-last
invariant-loop-last l = record {
  back : (n : NameValue) → taken_back n l.set.items (record_in l.self n) ≡ taken_back n l.initial.set.items (record_in l.initial.self n);
  tuning : l.self.tuning ≡ l.initial.self.tuning;
  moment : l.self.moment ≡ l.initial.self.moment;
  ordered : IsStrictlySortedBy name_cmp (names_in l.initial.self) → IsStrictlySortedBy name_cmp (names_in l.self);
}

abbrev pub decreases-loop-last : goal.decreases-loop-last
decreases-loop-last l = vec_len l.set
