-- What is left of a list that rises, behind one of its members.
use Rattle.std.proofs.Common.{◌≡◌, ℕ, ◌≤◌, Bool, true, false, cond, List, [], ◌∷◌, ◌++◌, append-nil, append_assoc, get_or, length, refl, ap, ◌∙◌, sym, subst, ⊎_elim}
use Rattle.std.specs.Prelude.{Contains, filter, take}
use Rattle.std.proofs.lemmas.List.{take-append-le, take_all}
use Rattle.std.proofs.lemmas.List.Elements.{Contains-get_or}
use Rattle.wb_names.proofs.Listings.{Contains-cases, Contains-here, Contains-none, Contains-there}
use Rattle.wb_gaps.proofs.PageRanges.{same_filter}

-- none of a list passes a test that each fails
pub none_left : {X : Type 0} (p : X → Bool) (xs : List X) → ((x : X) → Contains xs x → p x ≡ false) → filter p xs ≡ []
none_left {X} p [] fails = refl
none_left {X} p (x ∷ xs) fails =
    ap (λ (b : Bool). cond b (x ∷ filter p xs) (filter p xs)) (fails x (Contains-here x xs)) ∙ none_left p xs (λ y c. fails y (Contains-there x y xs c))

-- each of a list passes a test that none fails
pub all_left : {X : Type 0} (p : X → Bool) (xs : List X) → ((x : X) → p x ≡ true) → filter p xs ≡ xs
all_left {X} p [] passes = refl
all_left {X} p (x ∷ xs) passes =
    ap (λ (b : Bool). cond b (x ∷ filter p xs) (filter p xs)) (passes x) ∙ ap (λ (ys : List X). x ∷ ys) (all_left p xs passes)

-- Of a list that rises, `q` passes what comes after n, and `p` that and n.
module _ {X : Type 0} (Before : X → X → Type 0) where
  -- each comes before the later ones
  abbrev pub Rising : List X → Type 0
  Rising [] = Unit {0}
  Rising (x ∷ xs) = ((y : X) → Contains xs y → Before x y) × Rising xs

  pub record Splits (p q : X → Bool) (n : X) (xs : List X) : Type 0 where
    pub itself : (p n ≡ true) × (q n ≡ false)
    pub earlier : (x : X) → Contains xs x → Before x n → (p x ≡ false) × (q x ≡ false)
    pub later : (x : X) → Before n x → (p x ≡ true) × (q x ≡ true)

  pub first_left : (p q : X → Bool) (n : X) (xs : List X) → Rising xs → Contains xs n → Splits p q n xs → filter p xs ≡ n ∷ filter q xs
  first_left p q n [] rising c s = absurd (Contains-none n c)
  first_left p q n (x ∷ xs) rising c s = ⊎_elim
      (λ (e : x ≡ n).
      let rest : filter p xs ≡ filter q xs = same_filter p q xs (λ k d lt. let y : X = get_or xs k d in let both = s.later y (subst (λ (z : X). Before z y) e (rising.0 y (Contains-get_or xs k d lt))) in both.0 ∙ sym both.1) in
      ap (λ (b : Bool). cond b (x ∷ filter p xs) (filter p xs)) (ap p e ∙ s.itself.0)
      ∙ ap (λ (y : X). y ∷ filter p xs) e
      ∙ ap (λ (ys : List X). n ∷ ys) (rest ∙ sym (ap (λ (b : Bool). cond b (x ∷ filter q xs) (filter q xs)) (ap q e ∙ s.itself.1))))
      (λ (later : Contains xs n).
      let both = s.earlier x (Contains-here x xs) (rising.0 n later) in
      ap (λ (b : Bool). cond b (x ∷ filter p xs) (filter p xs)) both.0
      ∙ first_left p q n xs rising.1 later (record { itself = s.itself; earlier = λ y c. s.earlier y (Contains-there x y xs c); later = s.later })
      ∙ ap (λ (ys : List X). n ∷ ys) (sym (ap (λ (b : Bool). cond b (x ∷ filter q xs) (filter q xs)) both.1)))
      (Contains-cases x n xs c)

-- ---- a walk takes one after the other

module _ {X : Type 0} (most : ℕ) (taken left all : List X) (split : taken ++ left ≡ all) (few : length taken ≤ most) where
  pub one_more : (n : X) (rest more : List X) → left ≡ n ∷ rest → more ≡ taken ++ n ∷ [] → more ++ rest ≡ all
  one_more n rest more is next = ap (λ (ys : List X). ys ++ rest) next ∙ append_assoc taken (n ∷ []) rest ∙ ap (λ (ys : List X). taken ++ ys) (sym is) ∙ split

  pub as_many : most ≤ length taken → taken ≡ take most all
  as_many full = sym (ap (take most) (sym split) ∙ take-append-le most taken left full ∙ take_all most taken few)

  pub no_more : left ≡ [] → taken ≡ take most all
  no_more none = sym (ap (take most) (sym split ∙ ap (λ (ys : List X). taken ++ ys) none ∙ append-nil taken) ∙ take_all most taken few)
