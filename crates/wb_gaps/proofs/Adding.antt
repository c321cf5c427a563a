-- One number more, among the ranges of one page and source.
use Rattle.std.proofs.Common.{◌≡◌, ℕ, ◌+◌, ◌<◌, ◌≤◌, arith, ◌⊎◌, inl, inr, ⊎_elim, Option, Some, None}
use Rattle.std.specs.Prelude.{◌≢◌}
use Rattle.std.proofs.lemmas.Bool.{cases_lt, cases_eq}
use Rattle.std.proofs.lemmas.Grind.{common_steps}
use Rattle.wb_gaps.specs.Starts.{AreApart, Covers, Begins, Ends}

pub some_is : (l m : ℕ) → Some l ≡ Some m → l ≡ m
some_is l m h = cc

pub none_some : (l : ℕ) → None ≡ Some l → ⊥
none_some l h = cc

module _ (f g : ℕ → Option ℕ) (n s e : ℕ) (fits : e ≤ 4294967295) (a : AreApart f) (b : Begins f n s) (d : Ends f n e) (here : g s ≡ Some e) (gone : g (n + 1) ≡ None) (others : (j : ℕ) → j ≢ s → j ≢ n + 1 → g j ≡ f j) where
  reaches : n ≤ e
  reaches = grind (arith, common_steps)

  which : (j l : ℕ) → g j ≡ Some l → ((j ≡ s) × (l ≡ e)) ⊎ ((j ≢ s) × (j ≢ n + 1) × (f j ≡ Some l))
  which j l h = grind (arith, common_steps, some_is, none_some, cases_eq)

  beyond : (j l : ℕ) → f j ≡ Some l → s < j → j ≢ n + 1 → e + 1 < j
  beyond j l h lt ne = grind (arith, common_steps)

  pub stay_apart : AreApart g
  stay_apart = grind (arith, common_steps, reaches, which, beyond)

  covered_before : (k : ℕ) → k < n → s ≤ k → Covers f k
  covered_before k lt le = grind (arith, common_steps)

  covered_after : (k : ℕ) → n < k → k ≤ e → Covers f k
  covered_after k lt le = grind (arith, common_steps)

  pub one_of : (k : ℕ) → Covers g k → (k ≡ n) ⊎ Covers f k
  one_of k c = ⊎_elim
      (λ (q : (c.0 ≡ s) × (c.1 ≡ e)). let t = q.0 in let u = q.1 in let low = c.3 in let high = c.4 in ⊎_elim
      (λ (lt : k < n). inr (covered_before k lt (omega arith)))
      (λ (le : n ≤ k). ⊎_elim (λ (is : k ≡ n). inl is) (λ (ne : k ≢ n). inr (covered_after k (omega (arith, ne)) (omega arith))) (cases_eq k n))
      (cases_lt k n))
      (λ (q : (c.0 ≢ s) × (c.0 ≢ n + 1) × (f c.0 ≡ Some c.1)). inr (c.0, c.1, q.2, c.3, c.4))
      (which c.0 c.1 c.2)

  pub itself : Covers g n
  itself = (s, e, here, b.low, reaches)

  pub still : (k : ℕ) → Covers f k → Covers g k
  still k c = grind (arith, common_steps, reaches, cases_eq)

-- no range is above the last number
pub past_end : (f : ℕ → Option ℕ) (n : ℕ) → AreApart f → 4294967295 ≤ n → f (n + 1) ≡ None
past_end f n a over = grind (arith, common_steps)

-- k begins last of the ranges that begin at n or below
module _ (f : ℕ → Option ℕ) (n k l : ℕ) (a : AreApart f) (at : f k ≡ Some l) (le : k ≤ n) (last : (j m : ℕ) → f j ≡ Some m → j ≤ n → j ≤ k) where
  -- where it ends two or more below, the number begins a range
  pub begins_alone : 1 ≤ n → l + 1 < n → Begins f n n
  begins_alone pos gap = grind (arith, common_steps, some_is, cases_eq)

  -- where it ends right below, it has the number
  pub begins_below : l + 1 ≡ n → Begins f n k
  begins_below next = grind (arith, common_steps, some_is, none_some, cases_lt)
