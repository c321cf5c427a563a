-- How many of some things are for a name, and how many there are in all.
use Rattle.std.proofs.Common.{◌≡◌, ◌⊎◌, ℕ, ◌+◌, ◌*◌, ◌≤◌, Bool, true, false, cond, List, [], ◌∷◌, ◌++◌, ◌∙◌, Option, Some, None, ap, arith, inl, inr, length, length-append, refl, subst, sym, true≢false, ⊎_elim}
use Rattle.std.specs.Prelude.{Contains, filter, is_some}
use Rattle.std.proofs.lemmas.List.Elements.{filter-append}
use Rattle.std.proofs.lemmas.Option.{none-some, same_Some}
use Rattle.wb_names.specs.Orders.{same_name}
use Rattle.wb_names.specs.Values.{NameValue}
use Rattle.wb_names.proofs.Listings.{Contains-cases, Contains-from_filter, Contains-here, Contains-none, Contains-there}
use Rattle.wb_names.proofs.Orders.{same_name-here, same_name-is}
use Rattle.wb_progress.specs.InTime.{AreApart}

abbrev pub one_if : Bool → ℕ
one_if true = 1
one_if false = 0

pub more_if : {X : Type 0} (b : Bool) (x : X) (xs : List X) → length (cond b (x ∷ xs) xs) ≡ one_if b + length xs
more_if true x xs = omega arith
more_if false x xs = omega arith

pub filter_same : {X : Type 0} (p q : X → Bool) → ((x : X) → p x ≡ q x) → (xs : List X) → length (filter p xs) ≡ length (filter q xs)
filter_same p q same [] = refl
filter_same p q same (x ∷ xs) =
    let one = more_if (p x) x (filter p xs) in
    let other = more_if (q x) x (filter q xs) in
    let rest = filter_same p q same xs in
    let e = ap one_if (same x) in
    omega (arith, one, other, rest, e)

pub filter_fewer : {X : Type 0} (p q : X → Bool) → ((x : X) → one_if (p x) ≤ one_if (q x)) → (xs : List X) → length (filter p xs) ≤ length (filter q xs)
filter_fewer p q le [] = omega arith
filter_fewer p q le (x ∷ xs) =
    let one = more_if (p x) x (filter p xs) in
    let other = more_if (q x) x (filter q xs) in
    let rest = filter_fewer p q le xs in
    let here = le x in
    omega (arith, one, other, rest, here)

-- ---- sums over names

abbrev pub sum_of : (NameValue → ℕ) → List NameValue → ℕ
sum_of f [] = 0
sum_of f (n ∷ names) = f n + sum_of f names

pub sums_rise : (f g : NameValue → ℕ) (names : List NameValue) → ((n : NameValue) → f n ≤ g n) → sum_of f names ≤ sum_of g names
sums_rise f g [] le = omega arith
sums_rise f g (n ∷ names) le = let one = le n in let rest = sums_rise f g names le in omega (arith, one, rest)

pub sums_scale : (k : ℕ) (f g : NameValue → ℕ) (names : List NameValue) → sum_of (λ n. k * (f n + g n)) names ≡ k * (sum_of f names + sum_of g names)
sums_scale k f g [] = omega arith
sums_scale k f g (n ∷ names) = let rest = sums_scale k f g names in by k (f n) (g n) (sum_of f names) (sum_of g names) _ rest where
  by : (k a b x y z : ℕ) → z ≡ k * (x + y) → k * (a + b) + z ≡ k * (a + x + (b + y))
  by k a b x y z rest = omega (arith, rest)

-- one more at a name of the list
one_more_at : (m : NameValue) (f g : NameValue → ℕ) (names : List NameValue) → Contains names m → f m + 1 ≤ g m → ((n : NameValue) → f n ≤ g n) → sum_of f names + 1 ≤ sum_of g names
one_more_at m f g [] c more le = absurd (Contains-none m c)
one_more_at m f g (n ∷ names) c more le = ⊎_elim
    (λ (e : n ≡ m). let here = subst (λ (x : NameValue). f x + 1 ≤ g x) (sym e) more in let rest = sums_rise f g names le in omega (arith, here, rest))
    (λ (d : Contains names m). let one = le n in let rest = one_more_at m f g names d more le in omega (arith, one, rest))
    (Contains-cases n m names c)

-- one more at one name, which stands once at most
none_more : (m : NameValue) (f g : NameValue → ℕ) (names : List NameValue) → (Contains names m → ⊥) → ((n : NameValue) → (m ≡ n → ⊥) → g n ≤ f n) → sum_of g names ≤ sum_of f names
none_more m f g [] never le = omega arith
none_more m f g (n ∷ names) never le =
    let one = le n (λ e. never (subst (Contains (n ∷ names)) (sym e) (Contains-here n names))) in
    let rest = none_more m f g names (λ c. never (Contains-there n m names c)) le in
    omega (arith, one, rest)

at_most_one : (m : NameValue) (f g : NameValue → ℕ) (names : List NameValue) → AreApart names → g m ≤ f m + 1 → ((n : NameValue) → (m ≡ n → ⊥) → g n ≤ f n) → sum_of g names ≤ sum_of f names + 1
at_most_one m f g [] apart here le = omega arith
at_most_one m f g (n ∷ names) apart here le = by (same_name m n) refl (at_most_one m f g names apart.1 here le) where
  by : (b : Bool) → same_name m n ≡ b → sum_of g names ≤ sum_of f names + 1 → sum_of g (n ∷ names) ≤ sum_of f (n ∷ names) + 1
  by true e rest =
      let is = same_name-is m n e in
      let one = subst (λ (x : NameValue). g x ≤ f x + 1) is here in
      let others = none_more m f g names (λ c. apart.0 (subst (Contains names) is c)) le in
      omega (arith, one, others)
  by false e rest = let one = le n (λ is. true≢false (sym (same_name-here m n is) ∙ e)) in omega (arith, one, rest)

pub passing : (p : NameValue → Bool) (names : List NameValue) → sum_of (λ n. one_if (p n)) names ≡ length (filter p names)
passing p [] = refl
passing p (n ∷ names) = let more = more_if (p n) n (filter p names) in let rest = passing p names in omega (arith, more, rest)

pub apart_passing : (p : NameValue → Bool) (names : List NameValue) → AreApart names → AreApart (filter p names)
apart_passing p [] apart = tt
apart_passing p (n ∷ names) apart = by (p n) (apart_passing p names apart.1) where
  by : (b : Bool) → AreApart (filter p names) → AreApart (cond b (n ∷ filter p names) (filter p names))
  by true rest = ((λ c. apart.0 (Contains-from_filter p names n c).0), rest)
  by false rest = rest

among : (names : List NameValue) (n : NameValue) → Contains names n ⊎ (Contains names n → ⊥)
among [] n = inr (λ c. Contains-none n c)
among (m ∷ names) n = by (same_name m n) refl (among names n) where
  by : (b : Bool) → same_name m n ≡ b → Contains names n ⊎ (Contains names n → ⊥) → Contains (m ∷ names) n ⊎ (Contains (m ∷ names) n → ⊥)
  by true e rest = inl (subst (Contains (m ∷ names)) (same_name-is m n e) (Contains-here m names))
  by false e rest = ⊎_elim
      (λ (c : Contains names n). inl (Contains-there m n names c))
      (λ (never : Contains names n → ⊥). inr (λ c. ⊎_elim (λ (is : m ≡ n). true≢false (sym (same_name-here m n is) ∙ e)) never (Contains-cases m n names c)))
      rest

-- ---- things that are for a name, or for none

abbrev pub is_for : NameValue → Option NameValue → Bool
is_for n None = false
is_for n (Some m) = same_name m n

pub for_itself : (n : NameValue) → is_for n (Some n) ≡ true
for_itself n = same_name-here n n refl

module _ {X : Type 0} (name_in : X → Option NameValue) where
  abbrev pub count : NameValue → List X → ℕ
  count n xs = length (filter (λ x. is_for n (name_in x)) xs)

  abbrev pub all : List X → ℕ
  all xs = length (filter (λ x. is_some (name_in x)) xs)

  pub count_more : (n : NameValue) (x : X) (xs : List X) → count n (x ∷ xs) ≡ one_if (is_for n (name_in x)) + count n xs
  count_more n x xs = more_if (is_for n (name_in x)) x (filter (λ x. is_for n (name_in x)) xs)

  pub all_more : (x : X) (xs : List X) → all (x ∷ xs) ≡ one_if (is_some (name_in x)) + all xs
  all_more x xs = more_if (is_some (name_in x)) x (filter (λ x. is_some (name_in x)) xs)

  pub count_both : (n : NameValue) (one other : List X) → count n (one ++ other) ≡ count n one + count n other
  count_both n one other = let p : X → Bool = λ x. is_for n (name_in x) in ap (λ (xs : List X). length xs) (filter-append p one other) ∙ length-append (filter p one) (filter p other)

  pub all_both : (one other : List X) → all (one ++ other) ≡ all one + all other
  all_both one other = let p : X → Bool = λ x. is_some (name_in x) in ap (λ (xs : List X). length xs) (filter-append p one other) ∙ length-append (filter p one) (filter p other)

  -- their names, each once
  pub record AreNames (xs : List X) : Type 0 where
    pub names : List NameValue
    pub apart : AreApart names
    pub covers : (x : X) (n : NameValue) → Contains xs x → name_in x ≡ Some n → Contains names n

  pub names_of : (xs : List X) → AreNames xs
  names_of [] = record { names = []; apart = tt; covers = λ x n c is. absurd (Contains-none x c) }
  names_of (y ∷ xs) = by (name_in y) refl (names_of xs) where
    with_names : (r : AreNames xs) (names : List NameValue) → AreApart names → ((n : NameValue) → Contains r.names n → Contains names n) → ((n : NameValue) → name_in y ≡ Some n → Contains names n) → AreNames (y ∷ xs)
    with_names r names apart old new = record {
      names = names;
      apart = apart;
      covers = λ x n c is. ⊎_elim (λ (e : y ≡ x). new n (ap name_in e ∙ is)) (λ (d : Contains xs x). old n (r.covers x n d is)) (Contains-cases y x xs c);
    }

    by : (o : Option NameValue) → name_in y ≡ o → AreNames xs → AreNames (y ∷ xs)
    by None e r = with_names r r.names r.apart (λ n c. c) (λ n is. absurd (none-some n (sym e ∙ is)))
    by (Some m) e r = ⊎_elim
        (λ (c : Contains r.names m). with_names r r.names r.apart (λ n d. d) (λ n is. subst (Contains r.names) (same_Some m n (sym e ∙ is)) c))
        (λ (never : Contains r.names m → ⊥). with_names r (m ∷ r.names) (never, r.apart) (λ n d. Contains-there m n r.names d) (λ n is. subst (Contains (m ∷ r.names)) (same_Some m n (sym e ∙ is)) (Contains-here m r.names)))
        (among r.names m)

  -- each counts for a name of these
  pub all_by_names : (names : List NameValue) (xs : List X) → ((x : X) (n : NameValue) → Contains xs x → name_in x ≡ Some n → Contains names n) → all xs ≤ sum_of (λ n. count n xs) names
  all_by_names names [] covers = omega arith
  all_by_names names (y ∷ xs) covers = by (name_in y) refl (all_by_names names xs (λ x n c is. covers x n (Contains-there y x xs c) is)) where
    at_least : (n : NameValue) → count n xs ≤ count n (y ∷ xs)
    at_least n = let more = count_more n y xs in omega (arith, more)

    by : (o : Option NameValue) → name_in y ≡ o → all xs ≤ sum_of (λ n. count n xs) names → all (y ∷ xs) ≤ sum_of (λ n. count n (y ∷ xs)) names
    by None e rest =
        let none = ap (λ (o : Option NameValue). one_if (is_some o)) e in
        let more = all_more y xs in
        let rise = sums_rise (λ n. count n xs) (λ n. count n (y ∷ xs)) names at_least in
        omega (arith, rest, none, more, rise)
    by (Some m) e rest =
        let one = ap (λ (o : Option NameValue). one_if (is_some o)) e in
        let more = all_more y xs in
        let here = ap (λ (o : Option NameValue). one_if (is_for m o)) e ∙ ap one_if (for_itself m) in
        let count_here = count_more m y xs in
        let rise = one_more_at m (λ n. count n xs) (λ n. count n (y ∷ xs)) names (covers y m (Contains-here y xs) e) (omega (arith, here, count_here)) at_least in
        omega (arith, rest, one, more, rise)

  -- and for no more than one, if they stand once each
  pub names_by_all : (names : List NameValue) → AreApart names → (xs : List X) → sum_of (λ n. count n xs) names ≤ all xs
  names_by_all names apart [] = zeros names where
    zeros : (names : List NameValue) → sum_of (λ n. 0) names ≤ 0
    zeros [] = omega arith
    zeros (n ∷ names) = let rest = zeros names in omega (arith, rest)
  names_by_all names apart (y ∷ xs) = by (name_in y) refl (names_by_all names apart xs) where
    by : (o : Option NameValue) → name_in y ≡ o → sum_of (λ n. count n xs) names ≤ all xs → sum_of (λ n. count n (y ∷ xs)) names ≤ all (y ∷ xs)
    by None e rest =
        let more = all_more y xs in
        let rise = sums_rise (λ n. count n (y ∷ xs)) (λ n. count n xs) names (λ n. let none = ap (λ (o : Option NameValue). one_if (is_for n o)) e in let one = count_more n y xs in omega (arith, none, one)) in
        omega (arith, rest, more, rise)
    by (Some m) e rest =
        let one = ap (λ (o : Option NameValue). one_if (is_some o)) e in
        let more = all_more y xs in
        let rise = at_most_one m (λ n. count n xs) (λ n. count n (y ∷ xs)) names apart (most m) (λ n other. same n other) in
        omega (arith, rest, one, more, rise) where
          at_most : (b : Bool) → one_if b ≤ 1
          at_most true = omega arith
          at_most false = omega arith

          most : (n : NameValue) → count n (y ∷ xs) ≤ count n xs + 1
          most n = let one = count_more n y xs in let le = at_most (is_for n (name_in y)) in omega (arith, one, le)

          same : (n : NameValue) → (m ≡ n → ⊥) → count n (y ∷ xs) ≤ count n xs
          same n other = either (same_name m n) refl where
            either : (b : Bool) → same_name m n ≡ b → count n (y ∷ xs) ≤ count n xs
            either true f = absurd (other (same_name-is m n f))
            either false f = let none = ap (λ (o : Option NameValue). one_if (is_for n o)) e ∙ ap one_if f in let one = count_more n y xs in omega (arith, none, one)
