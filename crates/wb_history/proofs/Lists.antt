-- Lists read by `get_elem?`.
use Rattle.std.proofs.lemmas.Grind.{common_steps}
use Rattle.std.proofs.Common.{◌≡◌, ◌⊎◌, ℕ, zero, suc, ◌+◌, ◌<◌, ◌≤◌, List, [], ◌∷◌, ◌++◌, map, length, get_or, take, drop, refl, sym, ap, ◌∙◌, inl, inr, ⊎_elim, arith, append_assoc, length-append}
use mathlib.Core.Option.{some, some-injective, some-ne-none}
use lib.ListN.{get_elem?}
use Rattle.indexmap.proofs.IndexTableLemmas.Probe.{pigeonhole}
use mathlib.Core.List.{IsPrefix}
use Rattle.wb_history.specs.Lists.{Once}

module _ {A : Type 0} where
  pub at-lt : (l : List A) (i : ℕ) (a : A) → get_elem? l i ≡ some a → i < length l
  at-lt [] i a e = absurd (some-ne-none a (sym e))
  at-lt (x ∷ xs) zero a e = omega arith
  at-lt (x ∷ xs) (suc i) a e = omega (arith, at-lt xs i a e)

  pub at_same : (l : List A) (i : ℕ) (a b : A) → get_elem? l i ≡ some a → get_elem? l i ≡ some b → a ≡ b
  at_same l i a b p q = some-injective a b (sym p ∙ q)

  pub at_nothing : (i : ℕ) (a : A) → get_elem? [] i ≡ some a → ⊥
  at_nothing i a e = some-ne-none a (sym e)

  pub at_some : (l : List A) (i : ℕ) → i < length l → (a : A) × (get_elem? l i ≡ some a)
  at_some [] i h = absurd (omega arith)
  at_some (x ∷ xs) zero h = (x, refl)
  at_some (x ∷ xs) (suc i) h = at_some xs i (omega arith)

  pub at_append : (xs ys : List A) (i : ℕ) (a : A) → get_elem? (xs ++ ys) i ≡ some a → (get_elem? xs i ≡ some a) ⊎ ((k : ℕ) × (i ≡ length xs + k) × (get_elem? ys k ≡ some a))
  at_append [] ys i a e = inr (i, omega arith, e)
  at_append (x ∷ xs) ys zero a e = inl e
  at_append (x ∷ xs) ys (suc i) a e = grind (arith, common_steps, at_append xs ys i a e)

  pub at_end : (xs : List A) (x : A) (i : ℕ) (a : A) → get_elem? (xs ++ x ∷ []) i ≡ some a → (get_elem? xs i ≡ some a) ⊎ ((i ≡ length xs) × (x ≡ a))
  at_end [] x zero a e = inr (refl, some-injective x a e)
  at_end [] x (suc i) a e = absurd (some-ne-none a (sym e))
  at_end (y ∷ ys) x zero a e = inl e
  at_end (y ∷ ys) x (suc i) a e = ⊎_elim (λ h. inl h) (λ t. inr (ap suc t.0, t.1)) (at_end ys x i a e)

  pub at_after : (xs ys : List A) (k : ℕ) (a : A) → get_elem? ys k ≡ some a → get_elem? (xs ++ ys) (length xs + k) ≡ some a
  at_after [] ys k a e = grind (arith, common_steps)
  at_after (x ∷ xs) ys k a e = grind (arith, common_steps, at_after xs ys k a e)

  pub at_take : (n : ℕ) (l : List A) (i : ℕ) (a : A) → get_elem? (take n l) i ≡ some a → (i < n) × (get_elem? l i ≡ some a)
  at_take zero l i a e = absurd (some-ne-none a (sym e))
  at_take (suc n) [] i a e = absurd (some-ne-none a (sym e))
  at_take (suc n) (x ∷ xs) zero a e = (omega arith, e)
  at_take (suc n) (x ∷ xs) (suc i) a e = let t = at_take n xs i a e in let b = t.0 in (omega arith, t.1)

  pub at_drop : (n : ℕ) (l : List A) (i : ℕ) (a : A) → get_elem? (drop n l) i ≡ some a → get_elem? l (n + i) ≡ some a
  at_drop zero l i a e = grind (arith, common_steps)
  at_drop (suc n) [] i a e = absurd (some-ne-none a (sym e))
  at_drop (suc n) (x ∷ xs) i a e = grind (arith, common_steps, at_drop n xs i a e)

  pub at_map_back : {B : Type 0} (f : A → B) (l : List A) (i : ℕ) (b : B) → get_elem? (map f l) i ≡ some b → (a : A) × (get_elem? l i ≡ some a) × (f a ≡ b)
  at_map_back f [] i b e = absurd (some-ne-none b (sym e))
  at_map_back f (x ∷ xs) zero b e = (x, refl, some-injective (f x) b e)
  at_map_back f (x ∷ xs) (suc i) b e = at_map_back f xs i b e

  pub once_nothing : Once {A = A} []
  once_nothing i k x p q = absurd (some-ne-none x (sym p))

  pub once_append : (xs ys : List A) → Once xs → Once ys → ((i k : ℕ) (a : A) → get_elem? xs i ≡ some a → get_elem? ys k ≡ some a → ⊥) → Once (xs ++ ys)
  once_append xs ys one other apart i k a p q = grind (arith, common_steps, at_append)

  pub once_one : (x : A) → Once (x ∷ [])
  once_one x zero zero a p q = refl
  once_one x zero (suc k) a p q = absurd (some-ne-none a (sym q))
  once_one x (suc i) k a p q = absurd (some-ne-none a (sym p))

  pub once_take : (n : ℕ) (l : List A) → Once l → Once (take n l)
  once_take n l once i k a p q = once i k a (at_take n l i a p).1 (at_take n l k a q).1

  pub once_drop : (n : ℕ) (l : List A) → Once l → Once (drop n l)
  once_drop n l once i k a p q = grind (arith, common_steps, at_drop)

  pub same_list : (xs ys : List A) → length xs ≡ length ys → ((k : ℕ) (a b : A) → get_elem? xs k ≡ some a → get_elem? ys k ≡ some b → a ≡ b) → xs ≡ ys
  same_list [] [] e h = refl
  same_list [] (y ∷ ys) e h = absurd (omega arith)
  same_list (x ∷ xs) [] e h = absurd (omega arith)
  same_list (x ∷ xs) (y ∷ ys) e h = let t = same_list xs ys (omega arith) (λ k a b p q. h (suc k) a b p q) in λ i. h zero x y refl refl i ∷ t i

  pub starts-le : (whole start : List A) → IsPrefix start whole → length start ≤ length whole
  starts-le whole start b = omega (arith, length-append start b.0, ap length b.1)

  pub starts_more : (whole start more : List A) → IsPrefix start whole → IsPrefix start (whole ++ more)
  starts_more whole start more b = (b.0 ++ more, sym (append_assoc start b.0 more) ∙ ap (λ l. l ++ more) b.1)

  pub next_item : (whole start : List A) (x : A) → IsPrefix start whole → get_elem? whole (length start) ≡ some x → IsPrefix (start ++ x ∷ []) whole
  next_item whole [] x b e = next whole b.0 (sym b.1) e
    where
      next : (w r : List A) → w ≡ r → get_elem? w zero ≡ some x → IsPrefix (x ∷ []) w
      next [] r same e = absurd (some-ne-none x (sym e))
      next (y ∷ ys) r same e = (ys, λ i. sym (some-injective y x e) i ∷ ys)
  next_item [] (y ∷ ys) x b e = absurd (some-ne-none x (sym e))
  next_item (z ∷ zs) (y ∷ ys) x b e =
      let t = next_item zs ys x (b.0, cc (b.1)) e in (t.0, cc (b.1, t.1))

  pub starts_whole : (whole start : List A) → IsPrefix start whole → length whole ≤ length start → whole ≡ start
  starts_whole whole start b few = grind (arith, common_steps)

pub at_read : {A : Type 0} (l : List A) (i : ℕ) (d : A) → i < length l → get_elem? l i ≡ some (get_or l i d)
at_read [] i d h = absurd (omega arith)
at_read (x ∷ xs) zero d h = refl
at_read (x ∷ xs) (suc i) d h = at_read xs i d (omega arith)

-- numbers below n that stand once are at most n
pub few : (l : List ℕ) (n : ℕ) → Once l → ((i a : ℕ) → get_elem? l i ≡ some a → a < n) → length l ≤ n
few l n once below =
    pigeonhole (length l) n (λ i. get_or l i 0) (λ i h. below i (get_or l i 0) (at_read l i 0 h)) (λ i k h g e. once i k (get_or l i 0) (at_read l i 0 h) (at_read l k 0 g ∙ ap some (sym e)))

-- of two beginnings of one list the longer begins with the shorter
pub both_start : {A : Type 0} (whole xs ys : List A) → IsPrefix xs whole → IsPrefix ys whole → length ys ≤ length xs → IsPrefix ys xs
both_start whole xs [] b c h = (xs, refl)
both_start whole [] (y ∷ ys) b c h = absurd (omega arith)
both_start [] (x ∷ xs) (y ∷ ys) b c h = let l = starts-le [] (x ∷ xs) b in absurd (omega arith)
both_start (w ∷ ws) (x ∷ xs) (y ∷ ys) b c h =
    let t = both_start ws xs ys (b.0, cc (b.1)) (c.0, cc (c.1)) (omega arith) in (t.0, cc (b.1, c.1, t.1))
