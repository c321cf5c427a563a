-- Lists that ascend from each member to the next.
use Rattle.std.proofs.lemmas.Grind.{common_steps}
use Rattle.std.proofs.Common.{◌≡◌, ℕ, zero, suc, ◌+◌, ◌-◌, ◌<◌, ◌≤◌, List, [], ◌∷◌, length, get_or, arith, subst, ap, ⊎_elim}
use Rattle.std.specs.Prelude.{map, All, AllPairs}
use Rattle.std.proofs.lemmas.Bool.{cases_lt}
use Rattle.std.proofs.lemmas.List.{length-map, get_or-map, get_or_read}
use Rattle.wb_names.specs.Ascending.{Descends}

module _ {X : Type 0} (f : X → ℕ) (xs : List X) where
  -- where each is below the next, each is below all later ones
  climbs : ((k : ℕ) (d : X) → k + 1 < length xs → f (get_or xs k d) < f (get_or xs (k + 1) d)) → (n i : ℕ) (d : X) → i + suc n < length xs → f (get_or xs i d) < f (get_or xs (i + suc n) d)
  climbs up zero i d h = up i d h
  climbs up (suc n) i d h = grind (arith, common_steps, climbs up n i d (omega arith))

  pub all_pairs_from_adjacent : ((k : ℕ) (d : X) → k + 1 < length xs → f (get_or xs k d) < f (get_or xs (k + 1) d)) → AllPairs (λ a b. f a < f b) xs
  all_pairs_from_adjacent up i j d lt h =
      let same : i + suc (j - (i + 1)) ≡ j = omega arith in
      subst (λ (m : ℕ). f (get_or xs i d) < f (get_or xs m d)) same (climbs up (j - (i + 1)) i d (omega arith))

-- where one is not below the next, the numbers descend there
pub descends_at : {X : Type 0} (f : X → ℕ) (xs : List X) (k : ℕ) → k + 1 < length xs → ((d : X) → f (get_or xs (k + 1) d) ≤ f (get_or xs k d)) → Descends (map f xs)
descends_at f [] k h le = absurd (omega arith)
descends_at f (x ∷ xs) k h le =
    let a : get_or (map f (x ∷ xs)) k 0 ≡ f (get_or (x ∷ xs) k x) = get_or-map f (x ∷ xs) k x 0 (omega arith) in
    let b : get_or (map f (x ∷ xs)) (k + 1) 0 ≡ f (get_or (x ∷ xs) (k + 1) x) = get_or-map f (x ∷ xs) (k + 1) x 0 h in
    let c : f (get_or (x ∷ xs) (k + 1) x) ≤ f (get_or (x ∷ xs) k x) = le x in
    let e = length-map (x ∷ xs) f in
    (k, omega (arith, e), omega (arith, a, b, c))

-- the same, of two members that were read
pub descends_read : {X : Type 0} (f : X → ℕ) (xs : List X) (k : ℕ) (x y : X) → 0 < k → k < length xs → x ≡ get_or xs k x → y ≡ get_or xs (k - 1) y → f x ≤ f y → Descends (map f xs)
descends_read f xs k x y pos h p q le =
    let back : k - 1 + 1 ≡ k = omega arith in
    descends_at f xs (k - 1) (omega arith) (λ d.
    let a : f x ≡ f (get_or xs k d) = ap f (get_or_read xs k x h p d) in
    let b : f y ≡ f (get_or xs (k - 1) d) = ap f (get_or_read xs (k - 1) y (omega arith) q d) in
    let c : f (get_or xs (k - 1 + 1) d) ≡ f (get_or xs k d) = ap (λ (j : ℕ). f (get_or xs j d)) back in
    omega arith)

module _ {X : Type 0} (f : X → ℕ) (P : X → Type 0) (xs : List X) where
  -- what is known of the first k members
  pub record Climbs (k : ℕ) : Type 0 where
    pub ascending : (j : ℕ) (d : X) → j + 1 < k → f (get_or xs j d) < f (get_or xs (j + 1) d)
    pub each : (j : ℕ) (d : X) → j < k → P (get_or xs j d)

  pub climb : (k : ℕ) (x : X) → k < length xs → Climbs k → x ≡ get_or xs k x → P x → ((d : X) → 0 < k → f (get_or xs (k - 1) d) < f x) → Climbs (k + 1)
  climb k x h c is p up = record {
    ascending = λ j d lt. ⊎_elim (λ (l : j + 1 < k). c.ascending j d l) (λ (l : k ≤ j + 1).
        let low : f (get_or xs (k - 1) d) ≡ f (get_or xs j d) = ap (λ (i : ℕ). f (get_or xs i d)) (omega arith) in
        let high : f (get_or xs k d) ≡ f (get_or xs (j + 1) d) = ap (λ (i : ℕ). f (get_or xs i d)) (omega arith) in
        let here : f x ≡ f (get_or xs k d) = ap f (get_or_read xs k x h is d) in
        let under = up d (omega arith) in
        omega arith) (cases_lt (j + 1) k);
    each = λ j d lt. ⊎_elim (λ (l : j < k). c.each j d l) (λ (l : k ≤ j).
        let same : k ≡ j = omega arith in
        subst (λ (i : ℕ). P (get_or xs i d)) same (subst P (get_or_read xs k x h is d) p)) (cases_lt j k);
  }

  -- of all members
  pub climbed : Climbs (length xs) → AllPairs (λ a b. f a < f b) xs × All P xs
  climbed c = (all_pairs_from_adjacent f xs (λ k d h. c.ascending k d (omega arith)), c.each)
