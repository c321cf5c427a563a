-- What a binary search finds in a list that ascends by a number of its members.
use Rattle.std.proofs.Common.{◌≡◌, ℕ, zero, suc, ◌<◌, ◌≤◌, Bool, true, false, cond, List, [], ◌∷◌, length, get_or, Some, None, refl, ap, ◌∙◌, arith, ◌⊎◌, inl, inr}
use Rattle.std.specs.Prelude.{nat_eq, unwrap_or, AllPairs}
use Rattle.std.specs.List.{find}
use Rattle.std.specs.List.Sorted.{IsNonDecreasingBy, IsPartitionPoint}
use Rattle.std.specs.declared.cmp.Ordering.TheVariants.{Less, Equal, Greater}
use Rattle.std.specs.Option.{option_map}
use Rattle.std.specs.Ordering.{nat_cmp, ordering_index}
use Rattle.std.proofs.lemmas.Bool.Decides.{nat_tests}
use Rattle.std.proofs.lemmas.Bool.{cases_lt}
use Rattle.wb_names.specs.Values.{MarkValue}
use Rattle.wb_names.specs.Marks.{mark_of}
use Rattle.wb_keeper.proofs.FirstWanted.{first_or_later}

module _ {X : Type 0} (key : X → ℕ) (s : ℕ) where
  index_rises : (a b : ℕ) → a ≤ b → ordering_index (nat_cmp a s) ≤ ordering_index (nat_cmp b s)
  index_rises a b le = grind (arith, nat_tests)

  none_found : (xs : List X) → ((k : ℕ) (d : X) → k < length xs → nat_eq (key (get_or xs k d)) s ≡ false) → find (λ x. nat_eq (key x) s) xs ≡ None
  none_found [] h = refl
  none_found (x ∷ xs) h = ap (λ (b : Bool). cond b (Some x) (find (λ x. nat_eq (key x) s) xs)) (h 0 x (omega arith)) ∙ none_found xs (λ k d lt. h (suc k) d (omega arith))

  one_found : (xs : List X) → AllPairs (λ a b. key a < key b) xs → (i : ℕ) (d : X) → i < length xs → key (get_or xs i d) ≡ s → find (λ x. nat_eq (key x) s) xs ≡ Some (get_or xs i d)
  one_found [] up i d lt e = absurd (omega arith)
  one_found (x ∷ xs) up zero d lt e = ap (λ (b : Bool). cond b (Some x) (find (λ x. nat_eq (key x) s) xs)) (same (key x) e) where
    same : (a : ℕ) → a ≡ s → nat_eq a s ≡ true
    same a e = grind (arith, nat_tests)
  one_found (x ∷ xs) up (suc i) d lt e =
      let less : key x < key (get_or xs i d) = up 0 (suc i) d (omega arith) lt in
      ap (λ (b : Bool). cond b (Some x) (find (λ x. nat_eq (key x) s) xs)) (apart (key x) (key (get_or xs i d)) less e)
      ∙ one_found xs (λ j k d lt le. up (suc j) (suc k) d (omega arith) (omega arith)) i d (omega arith) e where
        apart : (a b : ℕ) → a < b → b ≡ s → nat_eq a s ≡ false
        apart a b less e = grind (arith, nat_tests)

  rises : (xs : List X) → AllPairs (λ a b. key a < key b) xs → IsNonDecreasingBy (λ x. ordering_index (nat_cmp (key x) s)) xs
  rises xs up i j d le lt = from (first_or_later i j le) where
    from : (i ≡ j) ⊎ (i < j) → ordering_index (nat_cmp (key (get_or xs i d)) s) ≤ ordering_index (nat_cmp (key (get_or xs j d)) s)
    from (inl e) = index_rises _ _ (let same : key (get_or xs i d) ≡ key (get_or xs j d) = ap (λ (k : ℕ). key (get_or xs k d)) e in omega arith)
    from (inr less) = index_rises _ _ (let h : key (get_or xs i d) < key (get_or xs j d) = up i j d less lt in omega arith)

  -- what a search gives
  pub found_ok : (xs : List X) → AllPairs (λ a b. key a < key b) xs → (i : ℕ) → i < length xs → ((d : X) → nat_cmp (key (get_or xs i d)) s ≡ Equal) → (d : X) → find (λ x. nat_eq (key x) s) xs ≡ Some (get_or xs i d)
  found_ok xs up i lt equal d = one_found xs up i d lt (same (key (get_or xs i d)) (equal d)) where
    same : (a : ℕ) → nat_cmp a s ≡ Equal → a ≡ s
    same a e = grind (arith, nat_tests)

  pub found_err : (xs : List X) → AllPairs (λ a b. key a < key b) xs → (i : ℕ) → (IsNonDecreasingBy (λ x. ordering_index (nat_cmp (key x) s)) xs → IsPartitionPoint (λ x. nat_cmp (key x) s ≡ Less) (λ x. nat_cmp (key x) s ≡ Greater) xs i) → find (λ x. nat_eq (key x) s) xs ≡ None
  found_err xs up i point = none_found xs (λ k d lt. from k d lt (cases_lt k i)) where
    at : IsPartitionPoint (λ x. nat_cmp (key x) s ≡ Less) (λ x. nat_cmp (key x) s ≡ Greater) xs i
    at = point (rises xs up)

    less : (a : ℕ) → nat_cmp a s ≡ Less → nat_eq a s ≡ false
    less a e = grind (arith, nat_tests)

    greater : (a : ℕ) → nat_cmp a s ≡ Greater → nat_eq a s ≡ false
    greater a e = grind (arith, nat_tests)

    from : (k : ℕ) (d : X) → k < length xs → (k < i) ⊎ (i ≤ k) → nat_eq (key (get_or xs k d)) s ≡ false
    from k d lt (inl h) = less (key (get_or xs k d)) (at.0 k d (omega arith) h)
    from k d lt (inr h) = greater (key (get_or xs k d)) (at.1 k d h lt)

-- the number of a source is that of its mark
pub mark_found : (marks : List MarkValue) (s : ℕ) → mark_of marks s ≡ unwrap_or (option_map (λ m. m.high) (find (λ m. nat_eq m.source s) marks)) 0
mark_found [] s = refl
mark_found (m ∷ marks) s = from (mark_found marks s) (nat_eq m.source s) where
  from : mark_of marks s ≡ unwrap_or (option_map (λ m. m.high) (find (λ m. nat_eq m.source s) marks)) 0 → (b : Bool) → cond b m.high (mark_of marks s) ≡ unwrap_or (option_map (λ (m : MarkValue). m.high) (cond b (Some m) (find (λ m. nat_eq m.source s) marks))) 0
  from rest true = refl
  from rest false = rest
