-- There is one list of gaps.
use Rattle.std.proofs.Common.{◌≡◌, ℕ, suc, ◌+◌, ◌<◌, ◌≤◌, List, [], ◌∷◌, refl, sym, subst, arith, ◌⊎◌, inl, inr, ⊎_elim}
use Rattle.std.specs.Prelude.{All, AllPairs, Contains}
use Rattle.std.proofs.lemmas.List.Elements.{All-head, All-tail}
use Rattle.std.proofs.lemmas.Bool.{cases_lt}
use Rattle.std.proofs.lemmas.Grind.{common_steps}
use Rattle.wb_names.specs.Values.{DrawopValue, MarkValue}
use Rattle.wb_names.specs.declared.name.PageId.{PageId}
use Rattle.wb_names.specs.declared.gap.Gap.{Gap}
use Rattle.wb_names.proofs.Listings.{Contains-here, Contains-there, Contains-cases, Contains-none}
use Rattle.wb_gaps.specs.Gaps.{Covers, IsApart, AreGaps}

-- the number is covered by the first range
record At (x : Gap) (s n : ℕ) : Type 0 where
  source_is : x.source ≡ s
  low : x.first ≤ n
  high : n ≤ x.last

-- the number is behind the first range
record Behind (x : Gap) (s n : ℕ) : Type 0 where
  behind : (x.source < s) ⊎ ((x.source ≡ s) × (x.last + 1 < n))

pub apart_tail : (x : Gap) (xs : List Gap) → AllPairs IsApart (x ∷ xs) → AllPairs IsApart xs
apart_tail x xs a i j d ij h = a (suc i) (suc j) d (omega arith) (omega arith)

apart_head : (x : Gap) (xs : List Gap) (g : Gap) → AllPairs IsApart (x ∷ xs) → Contains xs g → IsApart x g
apart_head x xs g a (k, h, e) = subst (λ (v : Gap). IsApart x v) e (a 0 (suc k) g (omega arith) (omega arith))

move_on : (x g : Gap) (s n : ℕ) → IsApart x g → g.source ≡ s → g.first ≤ n → Behind x s n
move_on x g s n a e low = ⊎_elim (λ (p : x.source < g.source). record { behind = inl (omega arith) }) (λ (p : (x.source ≡ g.source) × (x.last + 1 < g.first)). let a = p.0 in let b = p.1 in record { behind = inr (omega arith, omega arith) }) a

covers_first : (x : Gap) (xs : List Gap) (s n : ℕ) → At x s n → Covers (x ∷ xs) s n
covers_first x xs s n h = (x, Contains-here x xs, h.source_is, h.low, h.high)

pub covers_later : (x : Gap) (xs : List Gap) (s n : ℕ) → Covers xs s n → Covers (x ∷ xs) s n
covers_later x xs s n c = (c.0, Contains-there x c.0 xs c.1, c.2, c.3, c.4)

covers_cases : (x : Gap) (xs : List Gap) (s n : ℕ) → Covers (x ∷ xs) s n → At x s n ⊎ Covers xs s n
covers_cases x xs s n c = grind (arith, common_steps, Contains-cases)

later_behind : (x : Gap) (xs : List Gap) (s n : ℕ) → AllPairs IsApart (x ∷ xs) → Covers xs s n → Behind x s n
later_behind x xs s n a c = move_on x c.0 s n (apart_head x xs c.0 a c.1) c.2 c.3

-- where the number lies, seen from the first range
place : (x : Gap) (xs : List Gap) (s n : ℕ) → AllPairs IsApart (x ∷ xs) → Covers (x ∷ xs) s n → At x s n ⊎ Behind x s n
place x xs s n a c = ⊎_elim (λ (h : At x s n). inl h) (λ (h : Covers xs s n). inr (later_behind x xs s n a h)) (covers_cases x xs s n c)

not_both : (x : Gap) (s n : ℕ) → At x s n → Behind x s n → ⊥
not_both x s n h b = let e = h.source_is in let i = h.high in ⊎_elim (λ (p : x.source < s). omega arith) (λ (p : (x.source ≡ s) × (x.last + 1 < n)). let q = p.1 in omega arith) b.behind

first_at : (x : Gap) → x.first ≤ x.last → At x x.source x.first
first_at x le = record { source_is = refl; low = omega arith; high = le }

behind_not : (x : Gap) (s n : ℕ) → Behind x s n → s ≡ x.source → n ≤ x.last + 1 → ⊥
behind_not x s n b e le = ⊎_elim (λ (p : x.source < s). omega arith) (λ (p : (x.source ≡ s) × (x.last + 1 < n)). let q = p.1 in omega arith) b.behind

both_behind : (x y : Gap) → x.first ≤ x.last → y.first ≤ y.last → Behind y x.source x.first → Behind x y.source y.first → ⊥
both_behind x y f g p q = grind (arith, common_steps)

-- each begins where the other does
same_start : (x y : Gap) → x.first ≤ x.last → y.first ≤ y.last → At y x.source x.first ⊎ Behind y x.source x.first → At x y.source y.first ⊎ Behind x y.source y.first → (x.source ≡ y.source) × (x.first ≡ y.first)
same_start x y f g p q = grind (arith, common_steps, behind_not, both_behind)

same_end : (x y : Gap) (xs : List Gap) → AllPairs IsApart (x ∷ xs) → x.source ≡ y.source → x.first ≡ y.first → x.first ≤ x.last → ((s n : ℕ) → At y s n → Covers (x ∷ xs) s n) → y.last ≤ x.last
same_end x y xs a e f le up = ⊎_elim
    (λ (lt : x.last < y.last).
    let c = up x.source (x.last + 1) (record { source_is = sym e; low = omega arith; high = omega arith }) in
    absurd (⊎_elim (λ (h : At x x.source (x.last + 1)). let i = h.high in let r : ⊥ = omega arith in r) (λ (b : Behind x x.source (x.last + 1)). ⊎_elim (λ (p : x.source < x.source). let r : ⊥ = omega arith in r) (λ (p : (x.source ≡ x.source) × (x.last + 1 < x.last + 1)). let i = p.1 in let r : ⊥ = omega arith in r) b.behind) (place x xs x.source (x.last + 1) a c)))
    (λ (h : y.last ≤ x.last). h)
    (cases_lt x.last y.last)

gap_parts : (a b c d e f : ℕ) → a ≡ b → c ≡ d → e ≡ f → let x : Gap = record { source = a; first = c; last = e } in let y : Gap = record { source = b; first = d; last = f } in x ≡ y
gap_parts a b c d e f p q r = cc

pub same_gaps : (xs ys : List Gap) → All (λ g. g.first ≤ g.last) xs → All (λ g. g.first ≤ g.last) ys → AllPairs IsApart xs → AllPairs IsApart ys → ((s n : ℕ) → Covers xs s n → Covers ys s n) → ((s n : ℕ) → Covers ys s n → Covers xs s n) → xs ≡ ys
same_gaps [] [] fx fy ax ay up down = refl
same_gaps [] (y ∷ ys) fx fy ax ay up down = let c = down y.source y.first (covers_first y ys _ _ (first_at y (All-head (λ (g : Gap). g.first ≤ g.last) y ys fy))) in absurd (Contains-none c.0 c.1)
same_gaps (x ∷ xs) [] fx fy ax ay up down = let c = up x.source x.first (covers_first x xs _ _ (first_at x (All-head (λ (g : Gap). g.first ≤ g.last) x xs fx))) in absurd (Contains-none c.0 c.1)
same_gaps (x ∷ xs) (y ∷ ys) fx fy ax ay up down =
    let lx = All-head (λ (g : Gap). g.first ≤ g.last) x xs fx in
    let ly = All-head (λ (g : Gap). g.first ≤ g.last) y ys fy in
    let s = same_start x y lx ly (place y ys _ _ ay (up _ _ (covers_first x xs _ _ (first_at x lx)))) (place x xs _ _ ax (down _ _ (covers_first y ys _ _ (first_at y ly)))) in
    let sources = s.0 in
    let firsts = s.1 in
    let le = same_end x y xs ax s.0 s.1 lx (λ a b h. down a b (covers_first y ys a b h)) in
    let ge = same_end y x ys ay (sym s.0) (sym s.1) ly (λ a b h. up a b (covers_first x xs a b h)) in
    let ends : x.last ≡ y.last = omega arith in
    let e : x ≡ y = gap_parts _ _ _ _ _ _ s.0 s.1 ends in
    let rest : xs ≡ ys = same_gaps xs ys (All-tail (λ (g : Gap). g.first ≤ g.last) x xs fx) (All-tail (λ (g : Gap). g.first ≤ g.last) y ys fy) (apart_tail x xs ax) (apart_tail y ys ay)
    (λ a b c. ⊎_elim (λ (h : At y a b). absurd (not_both x a b (subst (λ (v : Gap). At v a b) (sym e) h) (later_behind x xs a b ax c))) (λ (d : Covers ys a b). d) (covers_cases y ys a b (up a b (covers_later x xs a b c))))
    (λ a b c. ⊎_elim (λ (h : At x a b). absurd (not_both y a b (subst (λ (v : Gap). At v a b) e h) (later_behind y ys a b ay c))) (λ (d : Covers xs a b). d) (covers_cases x xs a b (down a b (covers_later y ys a b c)))) in
    cc

-- one history and one list of marks have one list of gaps
pub one_gaps : (history : List DrawopValue) (page : PageId) (marks : List MarkValue) (xs ys : List Gap) → AreGaps history page marks xs → AreGaps history page marks ys → xs ≡ ys
one_gaps history page marks xs ys a b = same_gaps xs ys a.filled b.filled a.apart b.apart (λ s n c. (b.missing s n).1 ((a.missing s n).0 c)) (λ s n c. (a.missing s n).1 ((b.missing s n).0 c))
