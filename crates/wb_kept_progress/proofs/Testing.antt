-- Tests of a list, of its parts and of its elements, which compute, and what they tell.
use Rattle.std.proofs.Common.{◌≡◌, ◌⊎◌, ℕ, Bool, true, false, ◌&&◌, ◌||◌, List, [], ◌∷◌, ◌++◌, append-nil, append_assoc, ap, inl, inr, refl, subst, sym, ⊎_elim, true≢false}
use Rattle.std.specs.Prelude.{Contains, not}
use Rattle.std.proofs.lemmas.Bool.{and_from, and_parts, or_cases}
use Rattle.wb_names.proofs.Listings.{Contains-cases, Contains-none}

module _ {X : Type 0} where
  -- ---- elements

  abbrev pub each : (X → Bool) → List X → Bool
  each test [] = true
  each test (x ∷ xs) = test x && each test xs

  pub each-at : (test : X → Bool) (xs : List X) (x : X) → each test xs ≡ true → Contains xs x → test x ≡ true
  each-at test [] x all c = absurd (Contains-none x c)
  each-at test (y ∷ xs) x all c =
      let p = and_parts (test y) (each test xs) all in
      ⊎_elim (λ (same : y ≡ x). subst (λ (z : X). test z ≡ true) same p.0) (λ (rest : Contains xs x). each-at test xs x p.1 rest) (Contains-cases y x xs c)

  abbrev pub some : (X → Bool) → List X → Bool
  some test [] = false
  some test (x ∷ xs) = test x || some test xs

  -- one of a list passes a test
  pub record Passes (test : X → Bool) (xs : List X) : Type 0 where
    pub front : List X
    pub x : X
    pub back : List X
    pub split : xs ≡ front ++ x ∷ back
    pub passes : test x ≡ true

  pub some-at : (test : X → Bool) (xs : List X) → some test xs ≡ true → Passes test xs
  some-at test [] one = absurd (true≢false (sym one))
  some-at test (x ∷ xs) one = ⊎_elim
      (λ (here : test x ≡ true). record { front = []; x = x; back = xs; split = refl; passes = here })
      (λ (there : some test xs ≡ true). let p = some-at test xs there in record { front = x ∷ p.front; x = p.x; back = p.back; split = ap (λ (t : List X). x ∷ t) p.split; passes = p.passes })
      (or_cases (test x) (some test xs) one)

  -- ---- parts

  -- each part that the list ends in
  abbrev pub parts : (List X → Bool) → List X → Bool
  parts test [] = test []
  parts test (x ∷ xs) = test (x ∷ xs) && parts test xs

  part_of : (test : List X → Bool) (newer older : List X) → parts test (newer ++ older) ≡ true → test older ≡ true
  part_of test [] [] all = all
  part_of test [] (x ∷ older) all = (and_parts (test (x ∷ older)) (parts test older) all).0
  part_of test (x ∷ newer) older all = part_of test newer older (and_parts (test (x ∷ (newer ++ older))) (parts test (newer ++ older)) all).1

  pub parts-at : (test : List X → Bool) (xs newer older : List X) → parts test xs ≡ true → xs ≡ newer ++ older → test older ≡ true
  parts-at test xs newer older all same = part_of test newer older (subst (λ (ys : List X). parts test ys ≡ true) same all)

  -- each element, between what stands before it and what follows
  abbrev pub splits : (List X → X → List X → Bool) → List X → List X → Bool
  splits test front [] = true
  splits test front (x ∷ xs) = test front x xs && splits test (front ++ x ∷ []) xs

  split_of : (test : List X → X → List X → Bool) (front newer : List X) (x : X) (older : List X) → splits test front (newer ++ x ∷ older) ≡ true → test (front ++ newer) x older ≡ true
  split_of test front [] x older all =
      subst (λ (f : List X). test f x older ≡ true) (sym (append-nil front)) (and_parts (test front x older) (splits test (front ++ x ∷ []) older) all).0
  split_of test front (y ∷ newer) x older all =
      let rest = (and_parts (test front y (newer ++ x ∷ older)) (splits test (front ++ y ∷ []) (newer ++ x ∷ older)) all).1 in
      subst (λ (f : List X). test f x older ≡ true) (append_assoc front (y ∷ []) newer) (split_of test (front ++ y ∷ []) newer x older rest)

  pub splits-at : (test : List X → X → List X → Bool) (xs newer : List X) (x : X) (older : List X) → splits test [] xs ≡ true → xs ≡ newer ++ x ∷ older → test newer x older ≡ true
  splits-at test xs newer x older all same = split_of test [] newer x older (subst (λ (ys : List X). splits test [] ys ≡ true) same all)

  -- ---- two halves

  -- So a long test may be made in two halves.
  pub halved : (is : X → Bool) (test : List X → X → List X → Bool) (front xs : List X) → splits (λ f x ys. is x || test f x ys) front xs ≡ true
      → splits (λ f x ys. not (is x) || test f x ys) front xs ≡ true → splits test front xs ≡ true
  halved is test front [] one other = refl
  halved is test front (x ∷ xs) one other =
      let p = and_parts (is x || test front x xs) _ one in
      let q = and_parts (not (is x) || test front x xs) _ other in
      and_from _ _ (either (is x) (test front x xs) p.0 q.0) (halved is test (front ++ x ∷ []) xs p.1 q.1) where
        either : (b c : Bool) → (b || c) ≡ true → (not b || c) ≡ true → c ≡ true
        either true c p q = q
        either false c p q = p

-- ---- two places

pub two_live : (i : ℕ) → Contains (0 ∷ (1 ∷ [])) i → (i ≡ 0) ⊎ (i ≡ 1)
two_live i c = ⊎_elim
    (λ (zero : 0 ≡ i). inl (sym zero))
    (λ (rest : Contains (1 ∷ []) i).
    ⊎_elim (λ (one : 1 ≡ i). inr (sym one)) (λ (none : Contains [] i). absurd (Contains-none i none)) (Contains-cases 1 i [] rest))
    (Contains-cases 0 i (1 ∷ []) c)
