-- Lists of numbers, each once.
use Rattle.std.proofs.Common.{◌≡◌, ◌≢◌, ℕ, zero, suc, ◌+◌, ◌≤◌, ◌<◌, ◌==◌, ◌||◌, Bool, true, false, cond, List, [], ◌∷◌, ◌++◌, length, sym, refl, ap, ap₂, ◌∙◌, subst, arith, add-zero, ⊎_elim}
use Rattle.std.proofs.lemmas.Bool.{cases_Bool, cases_eq}
use Rattle.std.proofs.lemmas.Bool.Decides.{nat_tests}
use Rattle.std.specs.List.{range_with_len}
use Rattle.std.specs.List.Sorted.{IsPermutation}
use Rattle.std.proofs.lemmas.List.Sorted.{IsPermutation-refl, IsPermutation-sym, IsPermutation-cons, IsPermutation-trans, IsPermutation-middle}
use Rattle.std.specs.Prelude.{All, AllPairs}
use Rattle.std.proofs.lemmas.List.Elements.{All-head, All-tail}
use Rattle.wb_feed.specs.Served.{once_below}
use Rattle.wb_feed.specs.Marks.{has}
pub use Rattle.wb_feed.specs.Inside.Filing.{times}

pub times-append : (p : ℕ) (xs ys : List ℕ) → times p (xs ++ ys) ≡ times p xs + times p ys
times-append p [] ys = omega arith
times-append p (x ∷ xs) ys = omega (arith, times-append p xs ys)

pub test_apart : (m n : ℕ) → m ≢ n → (m == n) ≡ false
test_apart m n e = grind (arith, nat_tests)

pub test_same : (m n : ℕ) → m ≡ n → (m == n) ≡ true
test_same m n e = grind (arith, nat_tests)

one_here : (p q : ℕ) (ps : List ℕ) → (q == p) ≡ true → times p (q ∷ ps) ≡ 0 → ⊥
one_here p q ps e h = let t : times p (q ∷ ps) ≡ 1 + times p ps = ap (λ b. cond b 1 0 + times p ps) e in absurd (omega (arith, t, h))

pub has_false : (p : ℕ) (ps : List ℕ) → times p ps ≡ 0 → has p ps ≡ false
has_false p [] h = refl
has_false p (q ∷ ps) h =
    ⊎_elim (λ (e : (q == p) ≡ true). absurd (one_here p q ps e h))
    (λ (e : (q == p) ≡ false). ap₂ (λ a b. a || b) e (has_false p ps (omega (arith, h, ap (λ b. cond b 1 0 + times p ps) e)))) (cases_Bool (q == p))

pub once_under : (p n : ℕ) → p < n → once_below p n ≡ 1
once_under p n h = grind (arith, nat_tests)

pub once_past : (p n : ℕ) → n ≤ p → once_below p n ≡ 0
once_past p n h = grind (arith, nat_tests)

abbrev without : ℕ → List ℕ → List ℕ
without n [] = []
without n (x ∷ xs) = cond (x == n) (without n xs) (x ∷ without n xs)

length-without : (n : ℕ) (xs : List ℕ) → length xs ≡ times n xs + length (without n xs)
length-without n [] = refl
length-without n (x ∷ xs) = elim (x == n) as (λ b. suc (length xs) ≡ (cond b 1 0 + times n xs) + length (cond b (without n xs) (x ∷ without n xs)))
    [ true ↦ omega (arith, length-without n xs) | false ↦ omega (arith, length-without n xs) ]

pub times_apart : (p x : ℕ) (xs : List ℕ) → p ≢ x → times p (x ∷ xs) ≡ times p xs
times_apart p x xs apart = grind (arith, nat_tests)

times_here : (p : ℕ) (xs : List ℕ) → times p (p ∷ xs) ≡ times p xs + 1
times_here p xs = grind (arith, nat_tests)

is_same : (x n : ℕ) → (x == n) ≡ true → x ≡ n
is_same x n e = grind (arith, nat_tests)

false≢same : (x n : ℕ) → (x == n) ≡ false → x ≢ n
false≢same x n e = grind (arith, nat_tests)

times_without_one : (n p x : ℕ) (xs : List ℕ) → p ≢ n → times p (without n xs) ≡ times p xs → (b : Bool) → (x == n) ≡ b → times p (cond b (without n xs) (x ∷ without n xs)) ≡ times p (x ∷ xs)
times_without_one n p x xs apart ih true e = ih ∙ sym (times_apart p x xs (λ q. apart (q ∙ is_same x n e)))
times_without_one n p x xs apart ih false e = ap (λ k. cond (x == p) 1 0 + k) ih

times-without : (n p : ℕ) (xs : List ℕ) → p ≢ n → times p (without n xs) ≡ times p xs
times-without n p [] apart = refl
times-without n p (x ∷ xs) apart = times_without_one n p x xs apart (times-without n p xs apart) (x == n) refl

times_gone_one : (n x : ℕ) (xs : List ℕ) → times n (without n xs) ≡ 0 → (b : Bool) → (x == n) ≡ b → times n (cond b (without n xs) (x ∷ without n xs)) ≡ 0
times_gone_one n x xs ih true e = ih
times_gone_one n x xs ih false e = times_apart n x (without n xs) (λ q. false≢same x n e (sym q)) ∙ ih

times_gone : (n : ℕ) (xs : List ℕ) → times n (without n xs) ≡ 0
times_gone n [] = refl
times_gone n (x ∷ xs) = times_gone_one n x xs (times_gone n xs) (x == n) refl

once_suc : (p n : ℕ) → p ≢ n → once_below p (suc n) ≡ once_below p n
once_suc p n apart = grind (arith, nat_tests)

once_last : (n : ℕ) → once_below n (suc n) ≡ 1
once_last n = grind (arith, nat_tests)

once_zero : (p : ℕ) → once_below p 0 ≡ 0
once_zero p = grind (arith, nat_tests)

no_times : (xs : List ℕ) → ((p : ℕ) → times p xs ≤ 0) → xs ≡ []
no_times [] h = refl
no_times (x ∷ xs) h = absurd (omega (arith, h x, times_here x xs))

-- different numbers below n are n at most
pub few_below : (n : ℕ) (xs : List ℕ) → ((p : ℕ) → times p xs ≤ once_below p n) → length xs ≤ n
few_below zero xs h = let e : xs ≡ [] = no_times xs (λ p. omega (arith, h p, once_zero p)) in omega (arith, ap length e)
few_below (suc n) xs h =
    let rest = few_below n (without n xs) (λ p. ⊎_elim
    (λ (e : p ≡ n). omega (arith, ap (λ k. times k (without n xs)) e, times_gone n xs))
    (λ (d : p ≢ n). omega (arith, times-without n p xs d, h p, once_suc p n d)) (cases_eq p n)) in
    omega (arith, length-without n xs, rest, h n, once_last n)

-- and where they are n, all are there
pub all_below : (n : ℕ) (xs : List ℕ) → ((p : ℕ) → times p xs ≤ once_below p n) → n ≤ length xs → (p : ℕ) → times p xs ≡ once_below p n
all_below zero xs h many p = omega (arith, h p, once_zero p)
all_below (suc n) xs h many p =
    let below : (q : ℕ) → times q (without n xs) ≤ once_below q n = λ q. ⊎_elim
    (λ (e : q ≡ n). omega (arith, ap (λ k. times k (without n xs)) e, times_gone n xs))
    (λ (d : q ≢ n). omega (arith, times-without n q xs d, h q, once_suc q n d)) (cases_eq q n) in
    let few = few_below n (without n xs) below in
    let one : times n xs ≡ 1 = omega (arith, h n, once_last n, few, length-without n xs) in
    ⊎_elim (λ (e : p ≡ n). rw e (one ∙ sym (once_last n)))
    (λ (d : p ≢ n). sym (times-without n p xs d) ∙ (all_below n (without n xs) below (omega (arith, length-without n xs, one)) p ∙ sym (once_suc p n d))) (cases_eq p n)

-- a number that stands in a list
found : (x : ℕ) (ys : List ℕ) → (times x ys ≡ 0 → ⊥) → (a : List ℕ) × ((b : List ℕ) × (ys ≡ a ++ x ∷ b))
found x [] some = absurd (some refl)
found x (y ∷ ys) some = ⊎_elim (λ (e : y ≡ x). ([], (ys, ap (λ k. k ∷ ys) e)))
    (λ (d : y ≢ x). let r = found x ys (λ none. some (times_apart x y ys (λ q. d (sym q)) ∙ none)) in (y ∷ r.0, (r.1.0, ap (λ l. y ∷ l) r.1.1))) (cases_eq y x)

-- lists with each number as often are rearrangements
pub IsPermutation-times : (xs ys : List ℕ) → ((p : ℕ) → times p xs ≡ times p ys) → IsPermutation xs ys
IsPermutation-times [] ys h = let e : ys ≡ [] = no_times ys (λ p. omega (arith, h p)) in subst (λ l. IsPermutation [] l) (sym e) (IsPermutation-refl [])
IsPermutation-times (x ∷ xs) ys h =
    let f = found x ys (λ none. absurd (omega (arith, h x, none, times_here x xs))) in
    let a = f.0 in let b = f.1.0 in
    let rest : (p : ℕ) → times p xs ≡ times p (a ++ b) = λ p. omega (arith, h p, ap (times p) f.1.1, times-append p a (x ∷ b), times-append p a b) in
    let q = IsPermutation-trans (x ∷ xs) (x ∷ (a ++ b)) (a ++ x ∷ b) (IsPermutation-cons x xs (a ++ b) (IsPermutation-times xs (a ++ b) rest)) (IsPermutation-sym (a ++ x ∷ b) (x ∷ (a ++ b)) (IsPermutation-middle a x b)) in
    subst (λ l. IsPermutation (x ∷ xs) l) (sym f.1.1) q

pub once_step : (p a : ℕ) → once_below p (a + 1) ≡ once_below p a + cond (a == p) 1 0
once_step p a = grind (arith, nat_tests)

regroup : (a n : ℕ) → a + 1 + n ≡ a + suc n
regroup a n = omega arith

pub times-range : (p a n : ℕ) → times p (range_with_len a n) + once_below p a ≡ once_below p (a + n)
times-range p a zero = let e : once_below p (a + 0) ≡ once_below p a = ap (λ k. once_below p k) (add-zero a) in omega (arith, e)
times-range p a (suc n) =
    let e : once_below p (a + 1 + n) ≡ once_below p (a + suc n) = ap (λ k. once_below p k) (regroup a n) in omega (arith, times-range p (a + 1) n, once_step p a, e)

-- in a list of different numbers, all below n, each stands once at most
absent : (p : ℕ) (xs : List ℕ) → All (λ x. p ≢ x) xs → times p xs ≡ 0
absent p [] h = refl
absent p (x ∷ xs) h = times_apart p x xs (All-head (λ (x : ℕ). p ≢ x) x xs h) ∙ absent p xs (All-tail (λ (x : ℕ). p ≢ x) x xs h)

first_apart : (x : ℕ) (xs : List ℕ) → AllPairs (λ i k. i ≢ k) (x ∷ xs) → All (λ y. x ≢ y) xs
first_apart x xs apart k d h = apart 0 (suc k) d (omega arith) (omega arith)

rest_apart : (x : ℕ) (xs : List ℕ) → AllPairs (λ i k. i ≢ k) (x ∷ xs) → AllPairs (λ i k. i ≢ k) xs
rest_apart x xs apart i j d ij h = apart (suc i) (suc j) d (omega arith) (omega arith)

pub each_once : (n : ℕ) (xs : List ℕ) → All (λ x. x < n) xs → AllPairs (λ i k. i ≢ k) xs → (p : ℕ) → times p xs ≤ once_below p n
each_once n [] low apart p = omega arith
each_once n (x ∷ xs) low apart p =
    let rest = each_once n xs (All-tail (λ (x : ℕ). x < n) x xs low) (rest_apart x xs apart) p in
    let here : x < n = All-head (λ (x : ℕ). x < n) x xs low in
    ⊎_elim
    (λ (e : p ≡ x).
    let none : times x xs ≡ 0 = absent x xs (first_apart x xs apart) in
    subst (λ (q : ℕ). times q (x ∷ xs) ≤ once_below q n) (sym e) (omega (arith, times_here x xs, none, once_under x n here)))
    (λ (d : p ≢ x). omega (arith, rest, times_apart p x xs d)) (cases_eq p x)
