-- The numbers near one are at most so far away, and all that are so far away are among them.
use Rattle.std.proofs.Common.{◌≡◌, ℕ, zero, suc, ◌+◌, ◌-◌, ◌≤◌, ◌<◌, Bool, true, false, cond, List, [], ◌∷◌, ◌++◌, arith, refl, subst, sym}
use Rattle.std.specs.Prelude.{◌&&◌, All, Contains, nat_le, nat_lt}
use Rattle.std.proofs.lemmas.Bool.{and_from, and_parts, le-leb, leb-false, leb-true}
use Rattle.std.proofs.lemmas.List.Elements.{All-append, All-cons, All-map, All-nil, Contains-append_left, Contains-append_right}
use Rattle.wb_names.specs.History.{name_of}
use Rattle.wb_names.specs.Values.{NameValue}
use Rattle.wb_names.proofs.Listings.{Contains-here}
use Rattle.wb_policy.specs.Choices.{if_below, near_names, numbers_near}
use Rattle.wb_policy.specs.Laws.{IsNear, NearIsAmong, NumbersAreNear}

-- what holds of all numbers so near holds of these
module _ (P : ℕ → Type 0) (n top : ℕ) where
  if_it_is : (m : ℕ) → (1 ≤ m → m < top → P m) → All P (if_below top m)
  if_it_is m is = by (nat_le 1 m && nat_lt m top) refl where
    by : (b : Bool) → (nat_le 1 m && nat_lt m top) ≡ b → All P (cond b (m ∷ []) [])
    by true e =
        let parts = and_parts (nat_le 1 m) (nat_lt m top) e in
        All-cons P m [] (is (leb-true _ _ parts.0) (leb-true _ _ parts.1)) (All-nil P)
    by false e = All-nil P

  pub each_number : (far : ℕ) → ((m : ℕ) → IsNear n top far m → P m) → All P (numbers_near n top far)
  each_number zero each = All-nil P
  each_number (suc far) each =
      All-append P (numbers_near n top far) (if_below top (n + suc far) ++ if_below top (n - suc far))
      (each_number far (λ m near. let a = near.above in let u = near.under in each m (record { counted = near.counted; below = near.below; above = omega (arith, a); under = omega (arith, u) })))
      (All-append P (if_below top (n + suc far)) (if_below top (n - suc far))
      (if_it_is (n + suc far) (λ counted below. each (n + suc far) (record { counted = counted; below = below; above = omega arith; under = omega arith })))
      (if_it_is (n - suc far) (λ counted below. each (n - suc far) (record { counted = counted; below = below; above = omega arith; under = omega arith }))))

pub numbers_are_near : NumbersAreNear
numbers_are_near n top far = each_number (IsNear n top far) n top far (λ m near. near)

-- and so of their names
pub each_near : (P : NameValue → Type 0) (name : NameValue) (top : ℕ) → ((m : ℕ) → IsNear name.seq top 64 m → P (name_of name.page name.source m))
    → All P (near_names name top)
unfolding near_names
each_near P name top each = All-map P (name_of name.page name.source) (numbers_near name.seq top 64) (each_number (λ m. P (name_of name.page name.source m)) name.seq top 64 each)

-- ---- each is among them

it_is_below : (top m : ℕ) → 1 ≤ m → m < top → Contains (if_below top m) m
it_is_below top m counted below =
    subst (λ (b : Bool). Contains (cond b (m ∷ []) []) m) (sym (and_from (nat_le 1 m) (nat_lt m top) (le-leb 1 m counted) (le-leb (suc m) top below))) (Contains-here m [])

pub near_is_among : NearIsAmong
near_is_among n top zero m near other = absurd (other (let a = near.above in let u = near.under in omega (arith, a, u)))
near_is_among n top (suc far) m near other =
    by (nat_le n (m + far)) (nat_le m (n + far)) refl refl (λ (nearer : IsNear n top far m). near_is_among n top far m nearer other) where
      last : List ℕ
      last = if_below top (n + suc far) ++ if_below top (n - suc far)

      by : (a b : Bool) → nat_le n (m + far) ≡ a → nat_le m (n + far) ≡ b → (IsNear n top far m → Contains (numbers_near n top far) m) → Contains (numbers_near n top (suc far)) m
      by true true e f before =
          Contains-append_left (numbers_near n top far) last m
          (before (record { counted = near.counted; below = near.below; above = leb-true _ _ e; under = leb-true _ _ f }))
      by false b e f before =
          let lt = leb-false _ _ e in
          let above = near.above in
          let is : n - suc far ≡ m = omega (arith, lt, above) in
          Contains-append_right (numbers_near n top far) last m
          (Contains-append_right (if_below top (n + suc far)) (if_below top (n - suc far)) m (subst (λ (k : ℕ). Contains (if_below top k) m) (sym is) (it_is_below top m near.counted near.below)))
      by true false e f before =
          let lt = leb-false _ _ f in
          let under = near.under in
          let is : n + suc far ≡ m = omega (arith, lt, under) in
          Contains-append_right (numbers_near n top far) last m
          (Contains-append_left (if_below top (n + suc far)) (if_below top (n - suc far)) m (subst (λ (k : ℕ). Contains (if_below top k) m) (sym is) (it_is_below top m near.counted near.below)))
