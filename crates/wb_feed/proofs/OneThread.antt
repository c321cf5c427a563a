-- What one thread makes of drawops for which no cell is left, and of one list of drawops after another.
use Rattle.std.proofs.Common.{◌≡◌, ℕ, ◌+◌, ◌≤◌, ◌<◌, List, [], ◌∷◌, ◌++◌, length, refl, ap, ◌∙◌, subst, arith}
use Rattle.wb_names.specs.Values.{DrawopValue}
use Rattle.wb_names.specs.History.{HoldsName}
use Rattle.wb_names.specs.Arrivals.{Outcome, New, Again, Clash, Left, Counts, counts, counts_of, history_with, AreTaken, IsBatch}

pub same_counts : {f f' g g' c c' l l' : ℕ} → f ≡ f' → g ≡ g' → c ≡ c' → l ≡ l' → counts f g c l ≡ counts f' g' c' l'
same_counts p q r s = λ i. counts (p i) (q i) (r i) (s i)

-- no drawop has one of these names
abbrev pub Lacks : List DrawopValue → List DrawopValue → Type 0
Lacks h [] = Unit {0}
Lacks h (d ∷ ds) = (HoldsName h d.name → ⊥) × Lacks h ds

-- drawops with other names are left where all cells are filled
pub takes_none : (cells : ℕ) (h ds : List DrawopValue) → Lacks h ds → (0 < length ds → cells ≤ length h) → IsBatch cells h ds h (counts 0 0 0 (length ds))
takes_none cells h [] lack full = ([], refl, refl)
takes_none cells h (d ∷ ds) lack full =
    let le : cells ≤ length h = full (omega arith) in
    let rest = takes_none cells h ds lack.1 (λ _. le) in
    let many : length ds + 1 ≡ length (d ∷ ds) = omega arith in
    (Left ∷ rest.0, ((le, lack.0), rest.1), ap (λ (k : Counts). record k { left = k.left + 1 }) rest.2 ∙ same_counts refl refl refl many)

taken_append : (cells : ℕ) (h m k xs ys : List DrawopValue) (os ps : List Outcome) → AreTaken cells h xs os m → AreTaken cells m ys ps k → AreTaken cells h (xs ++ ys) (os ++ ps) k
taken_append cells h m k [] ys [] ps a b = subst (λ (g : List DrawopValue). AreTaken cells g ys ps k) a b
taken_append cells h m k [] ys (o ∷ os) ps a b = absurd a
taken_append cells h m k (x ∷ xs) ys [] ps a b = absurd a
taken_append cells h m k (x ∷ xs) ys (o ∷ os) ps a b = (a.0, taken_append cells (history_with h x o) m k xs ys os ps a.1 b)

abbrev pub plus : Counts → Counts → Counts
plus m n = counts (m.fresh + n.fresh) (m.again + n.again) (m.clash + n.clash) (m.left + n.left)

pub zero_plus : (n : ℕ) → 0 + n ≡ n
zero_plus n = omega arith

none_more : (n : ℕ) → n ≡ 0 + n
none_more n = omega arith

one_more : (m n : ℕ) → m + n + 1 ≡ m + 1 + n
one_more m n = omega arith

pub counts_of-append : (os ps : List Outcome) → counts_of (os ++ ps) ≡ plus (counts_of os) (counts_of ps)
counts_of-append [] ps = let n = counts_of ps in same_counts (none_more n.fresh) (none_more n.again) (none_more n.clash) (none_more n.left)
counts_of-append (New i ∷ os) ps = let m = counts_of os in let n = counts_of ps in ap (λ (k : Counts). record k { fresh = k.fresh + 1 }) (counts_of-append os ps) ∙ same_counts (one_more m.fresh n.fresh) refl refl refl
counts_of-append (Again i ∷ os) ps = let m = counts_of os in let n = counts_of ps in ap (λ (k : Counts). record k { again = k.again + 1 }) (counts_of-append os ps) ∙ same_counts refl (one_more m.again n.again) refl refl
counts_of-append (Clash i ∷ os) ps = let m = counts_of os in let n = counts_of ps in ap (λ (k : Counts). record k { clash = k.clash + 1 }) (counts_of-append os ps) ∙ same_counts refl refl (one_more m.clash n.clash) refl
counts_of-append (Left ∷ os) ps = let m = counts_of os in let n = counts_of ps in ap (λ (k : Counts). record k { left = k.left + 1 }) (counts_of-append os ps) ∙ same_counts refl refl refl (one_more m.left n.left)

-- one batch after another
pub both_batches : (cells : ℕ) (h m k xs ys : List DrawopValue) (a b : Counts) → IsBatch cells h xs m a → IsBatch cells m ys k b → IsBatch cells h (xs ++ ys) k (plus a b)
both_batches cells h m k xs ys a b x y =
    (x.0 ++ y.0, taken_append cells h m k xs ys x.0 y.0 x.1 y.1, counts_of-append x.0 y.0 ∙ λ i. plus (x.2 i) (y.2 i))

pub counted_as : (cells : ℕ) (h k ds : List DrawopValue) (a b : Counts) → a ≡ b → IsBatch cells h ds k a → IsBatch cells h ds k b
counted_as cells h k ds a b e x = (x.0, x.1, x.2 ∙ e)
