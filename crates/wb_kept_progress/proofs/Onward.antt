-- Moments do not go back: a call that is not refused goes on to its moment.
use Rattle.std.proofs.Common.{◌≡◌, ◌≤◌, None, arith, inl, inr, refl, ⊎_elim}
use Rattle.std.specs.Prelude.{◌⊎◌, nat_le}
use Rattle.std.proofs.lemmas.Bool.{leb-true}
use Rattle.wb_names.proofs.Faults.{first_none, unless_true}
use Rattle.wb_member.specs.Opened.{present}
use Rattle.wb_keeping.specs.Laws.{KeptLine, Came, Ticked, Added, Tuned, doing_of, fault_of}
use Rattle.wb_keeping.specs.Performing.{Keeping, after_doing}
use Rattle.wb_kept_progress.proofs.Moments.{IsTuned, moment_of, told_itself}
use Rattle.wb_kept_progress.proofs.StillCalls.{IsTuning, call_now, tuned_only}

-- it sets constants, or goes on to its moment
pub not_back : (line : KeptLine) (k : Keeping) → fault_of line k ≡ None → IsTuned line ⊎ (present k.host ≤ moment_of line)
not_back (Came now v) k none = inr (leb-true _ _ (unless_true (nat_le (present k.host) now) _ (first_none _ _ none)))
not_back (Ticked now) k none = inr (leb-true _ _ (unless_true (nat_le (present k.host) now) _ (first_none _ _ none)))
not_back (Added now page time op) k none = inr (leb-true _ _ (unless_true (nat_le (present k.host) now) _ (first_none _ _ (first_none _ _ none))))
not_back (Tuned constants) k none = inl (constants, refl)

pub call_later : (line : KeptLine) (k : Keeping) → fault_of line k ≡ None → present k.host ≤ present (after_doing (doing_of line) k).host
call_later line k none = ⊎_elim
    (λ (t : IsTuned line). tuned (tuned_only line k t))
    (λ (le : present k.host ≤ moment_of line). ⊎_elim
    tuned
    (λ (now : present (after_doing (doing_of line) k).host ≡ moment_of line). omega (arith, now, le))
    (call_now line k (moment_of line) (told_itself line)))
    (not_back line k none) where
      tuned : IsTuning (doing_of line) k → present k.host ≤ present (after_doing (doing_of line) k).host
      tuned t = let now = t.now_is in omega (arith, now)
