-- The walk over ascending runs that keeps the last one of each source.
use Rattle.std.proofs.Common.{◌≡◌, ℕ, suc, ◌<◌, ◌≤◌, true, false, cond, List, [], ◌∷◌, ◌++◌, append_assoc, Option, None, Some, length, refl, ap, ◌∙◌, sym, subst, arith, ◌⊎◌, inl, inr, ⊎_elim, eqb-true}
use Rattle.std.proofs.lemmas.Bool.{cases_eq}
use Rattle.std.specs.Prelude.{◌≢◌, All, AllPairs, MatchOption, nat_eq}
use Rattle.std.proofs.lemmas.Bool.Decides.{nat_tests}
use Rattle.std.proofs.lemmas.List.Elements.{All-nil, All-cons, All-head, All-tail, All-weaker, All-contains}
use Rattle.std.proofs.lemmas.List.Kept.{AllPairs-cons}
use Rattle.std.proofs.lemmas.Grind.{common_steps}
use Rattle.wb_names.specs.Values.{MarkValue}
use Rattle.wb_names.specs.Marks.{mark_of}
use Rattle.wb_names.proofs.Listings.{Contains-here, Contains-there, Contains-cases, Contains-none}
use Rattle.wb_gaps.specs.LastNumbers.{continues, AreGreatest}
use Rattle.wb_gaps.specs.Greatest.{IsGreatest}
use Rattle.wb_gaps.specs.Runs.{AreRuns, InRuns, IsBelow}
use Rattle.wb_gaps.specs.Walk.{ahead}
use Rattle.wb_gaps.specs.declared.run.Run.{Run}

-- ---- the first of some runs, and the later ones

pub first_counted : (x : Run) (xs : List Run) → AreRuns (x ∷ xs) → 1 ≤ x.first
first_counted x xs r = All-head (λ (y : Run). 1 ≤ y.first) x xs r.counted

pub first_filled : (x : Run) (xs : List Run) → AreRuns (x ∷ xs) → x.first ≤ x.last
first_filled x xs r = All-head (λ (y : Run). y.first ≤ y.last) x xs r.filled

pub later_all : (x : Run) (xs : List Run) → AreRuns (x ∷ xs) → All (IsBelow x) xs
later_all x xs r k d lt = r.ascending 0 (suc k) d (omega arith) (omega arith)

pub later_runs : (x : Run) (xs : List Run) → AreRuns (x ∷ xs) → AreRuns xs
later_runs x xs r = record {
  counted = All-tail (λ (y : Run). 1 ≤ y.first) x xs r.counted;
  filled = All-tail (λ (y : Run). y.first ≤ y.last) x xs r.filled;
  ascending = λ i j d ij lt. r.ascending (suc i) (suc j) d (omega arith) (omega arith);
}

-- of the first run: the number lies in it, or in a later one
pub number_cases : (x : Run) (xs : List Run) (s n : ℕ) → InRuns (x ∷ xs) s n → ((x.source ≡ s) × (x.first ≤ n) × (n ≤ x.last)) ⊎ InRuns xs s n
number_cases x xs s n h = grind (arith, common_steps, nat_tests, Contains-cases)

pub number_here : (x : Run) (xs : List Run) (s n : ℕ) → x.source ≡ s → x.first ≤ n → n ≤ x.last → InRuns (x ∷ xs) s n
number_here x xs s n e low high = (x, Contains-here x xs, e, low, high)

pub number_there : (x : Run) (xs : List Run) (s n : ℕ) → InRuns xs s n → InRuns (x ∷ xs) s n
number_there x xs s n h = (h.0, Contains-there x h.0 xs h.1, h.2, h.3, h.4)

pub number_none : (s n : ℕ) → InRuns [] s n → ⊥
number_none s n h = Contains-none h.0 h.1

-- ---- the last run of each source

abbrev pub mark : Run → MarkValue
mark r = record { source = r.source; high = r.last }

abbrev pub first : List Run → Option Run
first [] = None
first (r ∷ rs) = Some r

-- the end of the last run of each source
abbrev pub last_marks : List Run → List MarkValue
last_marks [] = []
last_marks (r ∷ rs) = cond (continues r.source (first rs)) (last_marks rs) (mark r ∷ last_marks rs)

-- the next run and those after it are what was left
pub ahead_is : (next : Option Run) (later runs : List Run) → MatchOption next (runs ≡ []) (λ r. runs ≡ r ∷ later) → (ahead next later ≡ runs) × (first runs ≡ next)
ahead_is None later runs e = (sym e, ap first e)
ahead_is (Some r) later runs e = (sym e, ap first e)

pub last_counted : (x : Run) (xs : List Run) → AreRuns (x ∷ xs) → 1 ≤ x.last
last_counted x xs runs = let low = first_counted x xs runs in let full = first_filled x xs runs in omega arith

-- ---- one run of the walk, with the runs that are left, and then the next one and those after it

module _ (x : Run) (left later : List Run) (next : Option Run) (is : MatchOption next (left ≡ []) (λ r. left ≡ r ∷ later)) where
  pub later_lawful : AreRuns (x ∷ left) → AreRuns (ahead next later)
  later_lawful runs = subst AreRuns (sym (ahead_is next later left is).0) (later_runs x left runs)

  -- a run that the next one of its source passes
  pub passed : (marks all : List MarkValue) → continues x.source next ≡ true → marks ++ last_marks (x ∷ left) ≡ all → marks ++ last_marks (ahead next later) ≡ all
  passed marks all goes kept = grind (arith, common_steps, nat_tests, ahead_is)

  -- the last run of its source
  pub pushed : (marks after all : List MarkValue) (m : MarkValue) → continues x.source next ≡ false → m ≡ mark x → after ≡ marks ++ m ∷ [] → marks ++ last_marks (x ∷ left) ≡ all → after ++ last_marks (ahead next later) ≡ all
  pushed marks after all m ends made more kept = grind (arith, common_steps, nat_tests, ahead_is, append_assoc)

above_last : (b : ℕ) (xs : List Run) → All (λ r. b < r.source) xs → All (λ m. b < m.source) (last_marks xs)
above_last b [] all = All-nil _
above_last b (x ∷ xs) all =
    let P : Run → Type 0 = λ r. b < r.source in
    let Q : MarkValue → Type 0 = λ m. b < m.source in
    let rest : All Q (last_marks xs) = above_last b xs (All-tail P x xs all) in
    elim (continues x.source (first xs)) as (λ c. All Q (cond c (last_marks xs) (mark x ∷ last_marks xs))) [
      | true ↦ rest
      | false ↦ All-cons Q (mark x) _ (All-head P x xs all) rest
    ]

-- where the source ends, all later runs are of greater sources
ended : (x : Run) (xs : List Run) → AreRuns (x ∷ xs) → continues x.source (first xs) ≡ false → All (λ r. x.source < r.source) xs
ended x [] s e = All-nil _
ended x (y ∷ ys) s e =
    let first = All-head (IsBelow x) y ys (later_all x (y ∷ ys) s) in
    let other : y.source ≢ x.source = grind (arith, nat_tests) in
    let here : x.source < y.source = ⊎_elim (λ (lt : x.source < y.source). lt) (λ (p : (x.source ≡ y.source) × (x.last < y.first)). absurd (other (sym p.0))) first.order in
    All-cons (λ (r : Run). x.source < r.source) y ys here (All-weaker (IsBelow y) (λ (r : Run). x.source < r.source)
    (λ r p. ⊎_elim (λ (lt : y.source < r.source). omega arith) (λ (q : (y.source ≡ r.source) × (y.last < r.first)). let same = q.0 in omega arith) p.order)
    ys (later_all y ys (later_runs x (y ∷ ys) s)))

rises_last : (xs : List Run) → AreRuns xs → AllPairs (λ m n. m.source < n.source) (last_marks xs)
rises_last [] s = λ i j d ij h. omega arith
rises_last (x ∷ xs) s =
    let R : MarkValue → MarkValue → Type 0 = λ m n. m.source < n.source in
    let rest : AllPairs R (last_marks xs) = rises_last xs (later_runs x xs s) in
    elim (continues x.source (first xs)) as (λ c. continues x.source (first xs) ≡ c → AllPairs R (cond c (last_marks xs) (mark x ∷ last_marks xs))) [
      | true ↦ λ e. rest
      | false ↦ λ e. AllPairs-cons R (mark x) (last_marks xs) (above_last x.source xs (ended x xs s e)) rest
    ] refl

few_last : (xs : List Run) → length (last_marks xs) ≤ length xs
few_last [] = omega arith
few_last (x ∷ xs) = grind (arith, common_steps, nat_tests, few_last xs)

-- a first run that the next one of its source passes
greatest_passed : (x y : Run) (ys : List Run) (s high : ℕ) → AreRuns (x ∷ y ∷ ys) → y.source ≡ x.source → IsGreatest (InRuns (y ∷ ys) s) high → IsGreatest (InRuns (x ∷ y ∷ ys) s) high
greatest_passed x y ys s high runs same g = record {
  bound = λ n h. ⊎_elim
      (λ (p : (x.source ≡ s) × (x.first ≤ n) × (n ≤ x.last)).
      let source = p.0 in
      let within = p.2 in
      let first = All-head (IsBelow x) y ys (later_all x (y ∷ ys) runs) in
      let above : x.last < y.first = ⊎_elim (λ (lt : x.source < y.source). absurd (omega arith)) (λ (q : (x.source ≡ y.source) × (x.last < y.first)). q.1) first.order in
      let full : y.first ≤ y.last = first_filled y ys (later_runs x (y ∷ ys) runs) in
      let le : y.last ≤ high = g.bound y.last (number_here y ys s y.last (same ∙ source) full (omega arith)) in
      omega arith)
      (λ (c : InRuns (y ∷ ys) s n). g.bound n c)
      (number_cases x (y ∷ ys) s n h);
  reached = ⊎_elim (λ (e : high ≡ 0). inl e) (λ (c : InRuns (y ∷ ys) s high). inr (number_there x (y ∷ ys) s high c)) g.reached;
}

-- a first run that is the last one of its source
greatest_kept : (x : Run) (xs : List Run) (marks : List MarkValue) (s : ℕ) → x.first ≤ x.last → All (λ r. x.source < r.source) xs → IsGreatest (InRuns xs s) (mark_of marks s) → IsGreatest (InRuns (x ∷ xs) s) (mark_of (mark x ∷ marks) s)
greatest_kept x xs marks s full apart g = ⊎_elim
    (λ (e : x.source ≡ s).
    let high : mark_of (mark x ∷ marks) s ≡ x.last = grind (arith, nat_tests) in
    subst (IsGreatest (InRuns (x ∷ xs) s)) (sym high) (record {
      bound = λ n h. ⊎_elim
          (λ (p : (x.source ≡ s) × (x.first ≤ n) × (n ≤ x.last)). p.2)
          (λ (c : InRuns xs s n). let lt : x.source < c.0.source = All-contains (λ (v : Run). x.source < v.source) xs c.0 apart c.1 in let is = c.2 in absurd (omega arith))
          (number_cases x xs s n h);
      reached = inr (number_here x xs s x.last e full (omega arith));
    }))
    (λ (other : x.source ≢ s).
    let high : mark_of (mark x ∷ marks) s ≡ mark_of marks s = grind (arith, nat_tests) in
    subst (IsGreatest (InRuns (x ∷ xs) s)) (sym high) (record {
      bound = λ n h. ⊎_elim
          (λ (p : (x.source ≡ s) × (x.first ≤ n) × (n ≤ x.last)). absurd (other p.0))
          (λ (c : InRuns xs s n). g.bound n c)
          (number_cases x xs s n h);
      reached = ⊎_elim (λ (e : mark_of marks s ≡ 0). inl e) (λ (c : InRuns xs s (mark_of marks s)). inr (number_there x xs s _ c)) g.reached;
    }))
    (cases_eq x.source s)

greatest_last : (xs : List Run) (s : ℕ) → AreRuns xs → IsGreatest (InRuns xs s) (mark_of (last_marks xs) s)
greatest_last [] s runs = record { bound = λ n h. absurd (number_none s n h); reached = inl refl }
greatest_last (x ∷ []) s runs = greatest_kept x [] [] s (first_filled x [] runs) (All-nil _) (greatest_last [] s (later_runs x [] runs))
greatest_last (x ∷ y ∷ ys) s runs =
    let rest = greatest_last (y ∷ ys) s (later_runs x (y ∷ ys) runs) in
    elim (nat_eq y.source x.source) as (λ c. nat_eq y.source x.source ≡ c → IsGreatest (InRuns (x ∷ y ∷ ys) s) (mark_of (cond c (last_marks (y ∷ ys)) (mark x ∷ last_marks (y ∷ ys))) s)) [
      | true ↦ λ e. greatest_passed x y ys s _ runs (eqb-true _ _ e) rest
      | false ↦ λ e. greatest_kept x (y ∷ ys) (last_marks (y ∷ ys)) s (first_filled x (y ∷ ys) runs) (ended x (y ∷ ys) runs e) rest
    ] refl

positive_last : (xs : List Run) → AreRuns xs → All (λ m. 1 ≤ m.high) (last_marks xs)
positive_last [] runs = All-nil _
positive_last (x ∷ xs) runs =
    let Q : MarkValue → Type 0 = λ m. 1 ≤ m.high in
    let rest : All Q (last_marks xs) = positive_last xs (later_runs x xs runs) in
    let low = first_counted x xs runs in
    let full = first_filled x xs runs in
    elim (continues x.source (first xs)) as (λ c. All Q (cond c (last_marks xs) (mark x ∷ last_marks xs))) [
      | true ↦ rest
      | false ↦ All-cons Q (mark x) _ (omega arith) rest
    ]

pub are_greatest : (xs : List Run) → AreRuns xs → AreGreatest xs (last_marks xs)
are_greatest xs runs = record { ascending = rises_last xs runs; positive = positive_last xs runs; greatest = λ s. greatest_last xs s runs; few = few_last xs }

-- two tests of one thing give one greatest number
pub one_greatest : (P Q : ℕ → Type 0) (a b : ℕ) → IsGreatest P a → IsGreatest Q b → ((n : ℕ) → P n → Q n) → ((n : ℕ) → Q n → P n) → a ≡ b
one_greatest P Q a b g h up down = grind (arith, common_steps, nat_tests)
