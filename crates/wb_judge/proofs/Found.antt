-- Who is found among the numbers that were heard, where one more is heard.
use Rattle.std.proofs.Common.{◌≡◌, ◌∙◌, ◌≤◌, ◌<◌, ◌+◌, ℕ, zero, suc, Bool, true, false, cond, List, [], ◌∷◌, ◌++◌, ap, arith, filter, length, refl, subst, sym, true≢false}
use Rattle.std.specs.Prelude.{◌||◌, Option, None, Some, is_none, is_some, nat_eq, nat_lt, not, unwrap_or}
use Rattle.std.specs.List.{find, list_any, position_or_len, remove}
use Rattle.std.specs.Option.{option_or}
use Rattle.std.proofs.lemmas.Bool.{lt-ltb}
use Rattle.std.proofs.lemmas.Bool.Decides.{nat_tests}
use Rattle.std.proofs.lemmas.List.{length-append}
use Rattle.std.proofs.lemmas.List.Folds.{find-append}
use Rattle.std.proofs.lemmas.Option.{same_Some}
use Rattle.wb_judge.specs.Others.{first_to_go, other_of, other_with, with_place_for, without}
use Rattle.wb_judge.specs.declared.limits.TheConstants.{MOST_OTHERS}
use Rattle.wb_judge.specs.declared.others.Other.{Other}
use Rattle.wb_judge.proofs.NumbersBeside.{find_kept, found_after}
use Rattle.wb_judge.proofs.Sizes.{filter_length}

abbrev has : ℕ → Other → Bool
has n x = nat_eq x.number n

abbrev pub has_answered : Other → Bool
has_answered x = is_some x.answered

abbrev is_unanswered : Other → Bool
is_unanswered x = is_none x.answered

-- ---- one makes room

-- one is taken out, and whoever is found and may not go stays
record Goes (may : Other → Bool) (xs : List Other) (place : ℕ) : Type 0 where
  within : place < length xs
  still : (q : Other → Bool) (y : Other) → find q xs ≡ Some y → may y ≡ false → find q (remove xs place) ≡ Some y

next : (k : ℕ) → suc k ≡ 1 + k
next k = omega arith

-- the first that may go does so
goes : (may : Other → Bool) (xs : List Other) → list_any may xs ≡ true → Goes may xs (position_or_len may xs)
goes may [] some = absurd (true≢false (sym some))
goes may (x ∷ xs) some = by (may x) refl some (goes may xs) where
  here : may x ≡ true → (q : Other → Bool) (y : Other) → find q (x ∷ xs) ≡ Some y → may y ≡ false → find q xs ≡ Some y
  here is q y found stays = by (q x) found where
    by : (c : Bool) → cond c (Some x) (find q xs) ≡ Some y → find q xs ≡ Some y
    by true found = absurd (true≢false (sym is ∙ ap may (same_Some x y found) ∙ stays))
    by false found = found

  there : (k : ℕ) → Goes may xs k → (q : Other → Bool) (y : Other) → find q (x ∷ xs) ≡ Some y → may y ≡ false → find q (x ∷ remove xs k) ≡ Some y
  there k rest q y found stays = by (q x) found where
    by : (c : Bool) → cond c (Some x) (find q xs) ≡ Some y → cond c (Some x) (find q (remove xs k)) ≡ Some y
    by true found = found
    by false found = rest.still q y found stays

  later : (k : ℕ) → Goes may xs k → Goes may (x ∷ xs) (suc k)
  later k rest = record { within = let lt = rest.within in omega (arith, lt); still = there k rest }

  by : (b : Bool) → may x ≡ b → (b || list_any may xs) ≡ true → (list_any may xs ≡ true → Goes may xs (position_or_len may xs)) → Goes may (x ∷ xs) (cond (not b) (1 + position_or_len may xs) 0)
  by true is some rest = record { within = omega arith; still = here is }
  by false is some rest = subst (λ (k : ℕ). Goes may (x ∷ xs) k) (next (position_or_len may xs)) (later (position_or_len may xs) (rest some))

-- either one has not answered, or all count
all_count : (xs : List Other) → list_any is_unanswered xs ≡ false → length (filter has_answered xs) ≡ length xs
all_count [] none = refl
all_count (x ∷ xs) none = by x.answered none (all_count xs) where
  by : (a : Option ℕ) → (is_none a || list_any is_unanswered xs) ≡ false → (list_any is_unanswered xs ≡ false → length (filter has_answered xs) ≡ length xs)
      → length (cond (is_some a) (x ∷ filter has_answered xs) (filter has_answered xs)) ≡ length (x ∷ xs)
  by None none rest = absurd (true≢false none)
  by (Some at) none rest = let r = rest none in omega (arith, r)

found_in_place : (q : Other → Bool) (xs : List Other) (y : Other) → length (filter has_answered xs) < MOST_OTHERS → has_answered y ≡ true → find q xs ≡ Some y → find q (with_place_for xs) ≡ Some y
found_in_place q xs y room answered found = by (nat_lt (length xs) MOST_OTHERS) refl where
  stays : is_unanswered y ≡ false
  stays = of y.answered answered where
    of : (a : Option ℕ) → is_some a ≡ true → is_none a ≡ false
    of None e = absurd (true≢false (sym e))
    of (Some at) e = refl

  some : nat_lt (length xs) MOST_OTHERS ≡ false → list_any is_unanswered xs ≡ true
  some full = choose (list_any is_unanswered xs) refl where
    choose : (b : Bool) → list_any is_unanswered xs ≡ b → b ≡ true
    choose true is = refl
    choose false is = let all = all_count xs is in let many : MOST_OTHERS ≤ length xs = grind (arith, nat_tests) in absurd (omega (arith, all, many, room))

  by : (b : Bool) → nat_lt (length xs) MOST_OTHERS ≡ b → find q (cond b xs (remove xs (first_to_go xs))) ≡ Some y
  by true few = found
  by false full =
      let g = goes is_unanswered xs (some full) in
      ap (λ (c : Bool). find q (remove xs (unwrap_or (cond c (Some (position_or_len is_unanswered xs)) None) 0))) (lt-ltb (position_or_len is_unanswered xs) (length xs) g.within) ∙ g.still q y found stays

-- ---- who is looked for, where one is taken out

fewer_count : (r p : Other → Bool) (xs : List Other) → length (filter r (filter p xs)) ≤ length (filter r xs)
fewer_count r p [] = omega arith
fewer_count r p (x ∷ xs) = by (p x) (r x) refl (fewer_count r p xs) where
  by : (b c : Bool) → r x ≡ c → length (filter r (filter p xs)) ≤ length (filter r xs) → length (filter r (cond b (x ∷ filter p xs) (filter p xs))) ≤ length (cond c (x ∷ filter r xs) (filter r xs))
  by true true is le = subst (λ (d : Bool). length (cond d (x ∷ filter r (filter p xs)) (filter r (filter p xs))) ≤ length (x ∷ filter r xs)) (sym is) (omega (arith, le))
  by true false is le = subst (λ (d : Bool). length (cond d (x ∷ filter r (filter p xs)) (filter r (filter p xs))) ≤ length (filter r xs)) (sym is) le
  by false true is le = omega (arith, le)
  by false false is le = le

-- none is found where all were taken out, also if one more goes
none_found : (q p : Other → Bool) → ((x : Other) → q x ≡ true → p x ≡ false) → (xs : List Other) → list_any q (filter p xs) ≡ false
none_found q p so [] = refl
none_found q p so (x ∷ xs) = by (p x) refl (q x) refl (none_found q p so xs) where
  by : (b : Bool) → p x ≡ b → (c : Bool) → q x ≡ c → list_any q (filter p xs) ≡ false → list_any q (cond b (x ∷ filter p xs) (filter p xs)) ≡ false
  by true is true at rest = absurd (true≢false (sym is ∙ so x at))
  by true is false at rest = ap (λ (d : Bool). d || list_any q (filter p xs)) at ∙ rest
  by false is c at rest = rest

none_of : (q : Other → Bool) (xs : List Other) → list_any q xs ≡ false → find q xs ≡ None
none_of q [] none = refl
none_of q (x ∷ xs) none = by (q x) none (none_of q xs) where
  by : (b : Bool) → (b || list_any q xs) ≡ false → (list_any q xs ≡ false → find q xs ≡ None) → cond b (Some x) (find q xs) ≡ None
  by true none rest = absurd (true≢false none)
  by false none rest = rest none

none_removed : (q : Other → Bool) (xs : List Other) (k : ℕ) → list_any q xs ≡ false → list_any q (remove xs k) ≡ false
none_removed q [] zero none = refl
none_removed q [] (suc k) none = refl
none_removed q (x ∷ xs) zero none = by (q x) none where
  by : (b : Bool) → (b || list_any q xs) ≡ false → list_any q xs ≡ false
  by true none = absurd (true≢false none)
  by false none = none
none_removed q (x ∷ xs) (suc k) none = by (q x) none (none_removed q xs k) where
  by : (b : Bool) → (b || list_any q xs) ≡ false → (list_any q xs ≡ false → list_any q (remove xs k) ≡ false) → (b || list_any q (remove xs k)) ≡ false
  by true none rest = absurd (true≢false none)
  by false none rest = rest none

none_in_place : (q : Other → Bool) (xs : List Other) → list_any q xs ≡ false → list_any q (with_place_for xs) ≡ false
none_in_place q xs none = by (nat_lt (length xs) MOST_OTHERS) where
  by : (b : Bool) → list_any q (cond b xs (remove xs (first_to_go xs))) ≡ false
  by true = none
  by false = none_removed q xs (first_to_go xs) none

-- another stays, if it has answered
pub other_kept : (n : ℕ) (x y : Other) (others : List Other) → length (filter has_answered others) < MOST_OTHERS → nat_eq x.number n ≡ false → has_answered y ≡ true → other_of n others ≡ Some y
    → other_of n (other_with x others) ≡ Some y
unfolding other_with
other_kept n x y others room apart answered found =
    find-append (has n) (with_place_for (without x.number others)) (x ∷ [])
    ∙ ap (λ (o : Option Other). option_or o (find (has n) (x ∷ [])))
    (found_in_place (has n) (without x.number others) y (omega (arith, fewer_count has_answered (λ (z : Other). not (nat_eq z.number x.number)) others, room)) answered
    (find_kept (has n) (λ (z : Other). not (nat_eq z.number x.number)) another others ∙ found)) where
      another : (z : Other) → has n z ≡ true → not (nat_eq z.number x.number) ≡ true
      another z at = grind (arith, nat_tests)

-- and this one is found
pub other_new : (n : ℕ) (x : Other) (others : List Other) → nat_eq x.number n ≡ true → other_of n (other_with x others) ≡ Some x
unfolding other_with
other_new n x others same =
    find-append (has n) (with_place_for (without x.number others)) (x ∷ [])
    ∙ ap (λ (o : Option Other). option_or o (find (has n) (x ∷ [])))
    (none_of (has n) (with_place_for (without x.number others)) (none_in_place (has n) (without x.number others) (none_found (has n) (λ (z : Other). not (nat_eq z.number x.number)) it others)))
    ∙ ap (λ (b : Bool). cond b (Some x) None) same where
      it : (z : Other) → has n z ≡ true → not (nat_eq z.number x.number) ≡ false
      it z at = grind (arith, nat_tests)

-- ---- while there is room, all others are found as before

place_free : (s : ℕ) (others : List Other) → length others < MOST_OTHERS → with_place_for (without s others) ≡ without s others
place_free s others room =
    let few = filter_length (λ (z : Other). not (nat_eq z.number s)) others in
    ap (λ (b : Bool). cond b (without s others) (remove (without s others) (first_to_go (without s others)))) (lt-ltb (length (without s others)) MOST_OTHERS (omega (arith, few, room)))

pub other_beside : (n : ℕ) (x : Other) (others : List Other) → nat_eq x.number n ≡ false → length others < MOST_OTHERS → other_of n (other_with x others) ≡ other_of n others
unfolding other_with
other_beside n x others apart room =
    ap (λ (xs : List Other). find (has n) (xs ++ x ∷ [])) (place_free x.number others room)
    ∙ found_after n x others
    ∙ ap (λ (b : Bool). cond b (Some x) (other_of n others)) apart

pub one_longer : (x : Other) (others : List Other) → length others < MOST_OTHERS → length (other_with x others) ≤ 1 + length others
unfolding other_with
one_longer x others room =
    let same = ap (λ (xs : List Other). length (xs ++ x ∷ [])) (place_free x.number others room) in
    let few = filter_length (λ (z : Other). not (nat_eq z.number x.number)) others in
    omega (arith, same, few, length-append (without x.number others) (x ∷ []))
