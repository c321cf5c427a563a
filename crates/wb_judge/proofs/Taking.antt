-- How much a bucket takes.
use Rattle.std.proofs.Common.{◌≡◌, ◌⊎◌, ◌≤◌, ◌+◌, ◌-◌, ◌*◌, ℕ, Bool, true, false, cond, List, [], ◌∷◌, arith, inl, inr, max, refl}
use Rattle.std.proofs.lemmas.Bool.Decides.{nat_tests}
use Rattle.wb_judge.specs.Buckets.{has_room, paid_after}
use Rattle.wb_judge.specs.Laws.{AreFrom, FewAreTaken, taken_at}
use Rattle.wb_judge.proofs.Repairing.{one_more, rises}

-- what was taken is paid for after the start, and at most so far ahead of the end
taken : (ahead pause paid start end : ℕ) (moments : List ℕ) → AreFrom start end moments
    → (taken_at ahead pause paid moments ≡ 0) ⊎ (taken_at ahead pause paid moments * pause + max paid start ≤ ahead + pause + end)
taken ahead pause paid start end [] from = inl refl
taken ahead pause paid start end (now ∷ moments) from = by (has_room ahead paid now) refl (taken ahead pause (paid_after pause paid now) now end moments from.1) (taken ahead pause paid now end moments from.1) where
  last : now ≤ end
  last = rises now end moments from.1

  by : (b : Bool) → has_room ahead paid now ≡ b
      → (taken_at ahead pause (paid_after pause paid now) moments ≡ 0) ⊎ (taken_at ahead pause (paid_after pause paid now) moments * pause + max (paid_after pause paid now) now ≤ ahead + pause + end)
      → (taken_at ahead pause paid moments ≡ 0) ⊎ (taken_at ahead pause paid moments * pause + max paid now ≤ ahead + pause + end)
      → (cond b (1 + taken_at ahead pause (paid_after pause paid now) moments) (taken_at ahead pause paid moments) ≡ 0)
      ⊎ (cond b (1 + taken_at ahead pause (paid_after pause paid now) moments) (taken_at ahead pause paid moments) * pause + max paid start ≤ ahead + pause + end)
  by true is (inl none) skipped = inr (grind (arith, nat_tests, from.0, rises now end moments from.1, one_more (taken_at ahead pause (paid_after pause paid now) moments) pause))
  by true is (inr some) skipped = inr (omega (arith, some, from.0, one_more (taken_at ahead pause (paid_after pause paid now) moments) pause))
  by false is took (inl none) = inl none
  by false is took (inr some) = inr (omega (arith, some, from.0))

pub few_are_taken : FewAreTaken
few_are_taken ahead pause paid start end moments from = by (taken ahead pause paid start end moments from) where
  by : (taken_at ahead pause paid moments ≡ 0) ⊎ (taken_at ahead pause paid moments * pause + max paid start ≤ ahead + pause + end) → taken_at ahead pause paid moments * pause ≤ ahead + pause + (end - start)
  by (inl none) = rw none (omega arith)
  by (inr some) = let later = rises start end moments from in omega (arith, some, later)
