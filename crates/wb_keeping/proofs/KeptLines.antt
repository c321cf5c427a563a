-- The lines of a kept host.
use Rattle.std.proofs.Common.{◌≡◌, ◌⊎◌, Bool, true, false, cond, [], inl, inr, refl}
use Rattle.std.specs.Prelude.{IsTrue, ◌||◌}
use Rattle.wb_keeping.specs.Kept.{Doing}
use Rattle.wb_keeping.specs.Laws.{NothingIsDue, TimeComesFirst, WantedIsPaid}
use Rattle.wb_policy.specs.Policy.{Policy}
use Rattle.wb_keeping.specs.Views.{holds, is_known}
use Rattle.wb_policy.specs.Wanting.{is_paid}
use Rattle.wb_keeping.proofs.Wanted.{is_wanted_here, parts_wanted}

pub time_comes_first : TimeComesFirst
time_comes_first now v see p = (_, refl)

pub nothing_is_due : NothingIsDue
nothing_is_due now see p answer ask report turn = simp (answer, ask, report, turn)

-- ---- what is wanted

-- one of two is done: the second, or the first, where something holds
one_of : (test : Bool) (one other : Doing) (P : Type 0) (p : Policy) → (test ≡ true → P) → one.policy ≡ p → (cond test one other ≡ other) ⊎ (P × ((cond test one other).policy ≡ p))
one_of true one other P p holds_then is = inr (holds_then refl, is)
one_of false one other P p holds_then is = inl refl

pub wanted_is_paid : WantedIsPaid
wanted_is_paid name anew see p =
    let v = see [] in
    elim (one_of (is_wanted_here name anew see p) _ _ (IsTrue (is_paid (anew || is_known v name.source) p.owed v.now) × (holds v name ≡ false)) _ (λ e. let parts = parts_wanted name anew see p e in (parts.3, parts.0)) refl) [
      | inl same ↦ inl same
      | inr paid ↦ inr (paid.0.0, paid.0.1, paid.1)
    ]
