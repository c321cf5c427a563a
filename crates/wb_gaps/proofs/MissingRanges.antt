-- The missing ranges of a page, as a function: they are those that wb_gaps defines.
use Rattle.std.proofs.Common.{◌≡◌, ℕ, zero, suc, ◌+◌, ◌<◌, ◌≤◌, Bool, true, false, cond, List, [], ◌∷◌, ◌++◌, get_or, refl, ap, ◌∙◌, sym, subst, arith, ◌⊎◌, inl, inr, ⊎_elim, eqb-true, eq-eqb, true≢false}
use Rattle.std.specs.Prelude.{Contains, All, AllPairs, map, ◌&&◌, nat_eq, ◌↔◌}
use Rattle.std.specs.Cmp.{nat_cmp_total}
use Rattle.std.specs.List.Sorted.{IsStrictlySortedBy}
use Rattle.std.specs.Ordering.{is_eq, nat_cmp}
use Rattle.std.proofs.lemmas.Bool.{cases_lt}
use Rattle.std.proofs.lemmas.List.Elements.{All-cons, All-head, All-tail, All-weaker, Contains-get_or, Contains-append_left, Contains-append_right}
use Rattle.std.proofs.lemmas.List.Kept.{AllPairs-cons, AllPairs-from_increasing}
use Rattle.std.proofs.lemmas.Map.Keys.{sorted_tail, IsStrictlyIncreasing-from_sorted}
use Rattle.std.proofs.lemmas.Grind.{common_steps}
use Rattle.wb_names.specs.Values.{DrawopValue, MarkValue}
use Rattle.wb_names.specs.History.{IsHeld, highest}
use Rattle.wb_names.specs.Marks.{mark_of, known}
use Rattle.wb_names.specs.declared.name.PageId.{PageId}
use Rattle.wb_names.specs.declared.gap.Gap.{Gap}
use Rattle.wb_names.proofs.Listings.{Contains-here, Contains-there, Contains-cases, Contains-none}
use Rattle.wb_names.proofs.Orders.{and_both, nat_ties}
use Rattle.wb_gaps.specs.Answers.{sources_of, onto_gaps, missing_before, missing_of, known_sources, is_held, gaps_of}
use Rattle.wb_gaps.specs.Gaps.{Covers, IsApart}
use Rattle.wb_gaps.specs.Laws.{GapsOfPage, OnlyGaps}
use Rattle.wb_gaps.proofs.HeldNames.{held-from, held-not}
use Rattle.wb_gaps.proofs.OneGaps.{apart_tail, covers_later, one_gaps}
use Rattle.wb_gaps.proofs.Reports.{greatest_held}
use Rattle.wb_gaps.proofs.PageAnswers.{has_source}
use Rattle.wb_gaps.proofs.Sorting.{sorted_rises, Contains-sorted}

-- a range of a later source, or one of this source from this number on
abbrev Later : ℕ → ℕ → Gap → Type 0
Later s n g = (s < g.source) ⊎ ((g.source ≡ s) × (n ≤ g.first))

-- the number of the source lies in this range
abbrev pub Within : Gap → ℕ → ℕ → Type 0
Within g s m = (g.source ≡ s) × (g.first ≤ m) × (m ≤ g.last)

-- ranges that ascend, are filled and apart, and hold exactly the numbers that P holds of
pub record Ranges (P : ℕ → ℕ → Type 0) (gaps : List Gap) : Type 0 where
  pub filled : All (λ g. g.first ≤ g.last) gaps
  pub apart : AllPairs IsApart gaps
  pub covers : (s m : ℕ) → Covers gaps s m ↔ P s m

pub in_first : (g : Gap) (gaps : List Gap) (s m : ℕ) → Within g s m → Covers (g ∷ gaps) s m
in_first g gaps s m w = (g, Contains-here g gaps, w.0, w.1, w.2)

pub in_cases : (g : Gap) (gaps : List Gap) (s m : ℕ) → Covers (g ∷ gaps) s m → Within g s m ⊎ Covers gaps s m
in_cases g gaps s m c = grind (arith, common_steps, Contains-cases)

apart_head : (g : Gap) (gaps : List Gap) → AllPairs IsApart (g ∷ gaps) → All (IsApart g) gaps
apart_head g gaps a k d h = a 0 (suc k) d (omega arith) (omega arith)

-- ---- one number more

-- it is the number of the source, or P holds
abbrev With : ℕ → ℕ → (ℕ → ℕ → Type 0) → ℕ → ℕ → Type 0
With source n P s m = ((s ≡ source) × (m ≡ n)) ⊎ P s m

abbrev alone : ℕ → ℕ → Gap
alone source n = record { source = source; first = n; last = n }

abbrev grown : ℕ → ℕ → Gap → Gap
grown source n g = record { source = source; first = n; last = g.last }

at_alone : (source n s m : ℕ) → Within (alone source n) s m → (s ≡ source) × (m ≡ n)
at_alone source n s m w = let a = w.1 in let b = w.2 in (sym w.0, omega arith)

alone_at : (source n s m : ℕ) → (s ≡ source) × (m ≡ n) → Within (alone source n) s m
alone_at source n s m e = let a = e.1 in (sym e.0, omega arith, omega arith)

-- a range by itself, before others
alone_ranges : (P : ℕ → ℕ → Type 0) (source n : ℕ) (gaps : List Gap) → Ranges P gaps → All (IsApart (alone source n)) gaps → Ranges (With source n P) (alone source n ∷ gaps)
alone_ranges P source n gaps r a = grind (arith, common_steps, in_first, covers_later, in_cases, at_alone, alone_at, All-cons, AllPairs-cons)

-- a range that begins one number earlier
grown_apart : (source n : ℕ) (g h : Gap) → g.source ≡ source → IsApart g h → IsApart (grown source n g) h
grown_apart source n g h e a = ⊎_elim (λ (p : g.source < h.source). inl (omega arith)) (λ (p : (g.source ≡ h.source) × (g.last + 1 < h.first)). inr (sym e ∙ p.0, p.1)) a

from_grown : (source n : ℕ) (g : Gap) (s m : ℕ) → g.source ≡ source → g.first ≡ n + 1 → Within (grown source n g) s m → ((s ≡ source) × (m ≡ n)) ⊎ Within g s m
from_grown source n g s m e f w = grind (arith, common_steps, cases_lt)

grown_at : (source n : ℕ) (g : Gap) (s m : ℕ) → g.source ≡ source → g.first ≡ n + 1 → Within g s m → Within (grown source n g) s m
grown_at source n g s m e f w = let low = w.1 in (sym e ∙ w.0, omega arith, w.2)

grown_new : (source n : ℕ) (g : Gap) (s m : ℕ) → g.first ≡ n + 1 → g.first ≤ g.last → (s ≡ source) × (m ≡ n) → Within (grown source n g) s m
grown_new source n g s m f filled e = let at = e.1 in (sym e.0, omega arith, omega arith)

grown_ranges : (P : ℕ → ℕ → Type 0) (source n : ℕ) (g : Gap) (gaps : List Gap) → Ranges P (g ∷ gaps) → g.source ≡ source → g.first ≡ n + 1 → Ranges (With source n P) (grown source n g ∷ gaps)
grown_ranges P source n g gaps r e f =
    let fills = All-head (λ (h : Gap). h.first ≤ h.last) g gaps r.filled in
    record {
      filled = All-cons (λ (h : Gap). h.first ≤ h.last) (grown source n g) gaps (omega arith) (All-tail (λ (h : Gap). h.first ≤ h.last) g gaps r.filled);
      apart = AllPairs-cons IsApart (grown source n g) gaps (All-weaker (IsApart g) (IsApart (grown source n g)) (λ h a. grown_apart source n g h e a) gaps (apart_head g gaps r.apart)) (apart_tail g gaps r.apart);
      covers = λ s m. (
        λ c. ⊎_elim
            (λ (w : Within (grown source n g) s m). ⊎_elim (λ (new : (s ≡ source) × (m ≡ n)). inl new) (λ (old : Within g s m). inr ((r.covers s m).0 (in_first g gaps s m old))) (from_grown source n g s m e f w))
            (λ (d : Covers gaps s m). inr ((r.covers s m).0 (covers_later g gaps s m d)))
            (in_cases (grown source n g) gaps s m c),
        λ w. ⊎_elim
            (λ (new : (s ≡ source) × (m ≡ n)). in_first (grown source n g) gaps s m (grown_new source n g s m f fills new))
            (λ (p : P s m). ⊎_elim (λ (old : Within g s m). in_first (grown source n g) gaps s m (grown_at source n g s m e f old)) (λ (d : Covers gaps s m). covers_later (grown source n g) gaps s m d) (in_cases g gaps s m ((r.covers s m).1 p)))
            w,
      );
    }

-- what is later than the number is apart from it, unless it is a range that begins right after it
later_apart : (source n : ℕ) (g : Gap) → Later source (n + 1) g → (g.source ≡ source → g.first ≡ n + 1 → ⊥) → IsApart (alone source n) g
later_apart source n g later other = grind (arith, common_steps, cases_lt)

-- what is apart from a later range is apart from the number
apart_behind : (source n : ℕ) (g h : Gap) → g.first ≤ g.last → Later source (n + 1) g → IsApart g h → IsApart (alone source n) h
apart_behind source n g h filled later a = grind (arith, common_steps)

tests : (a b c d : ℕ) → a ≡ b → c ≡ d → (nat_eq a b && nat_eq c d) ≡ true
tests a b c d e f = let t : nat_eq a b ≡ true = eq-eqb a b e in let u : nat_eq c d ≡ true = eq-eqb c d f in rw (t, u) refl

onto_ranges : (P : ℕ → ℕ → Type 0) (source n : ℕ) (gaps : List Gap) → Ranges P gaps → All (Later source (n + 1)) gaps → Ranges (With source n P) (onto_gaps source n gaps)
onto_ranges P source n [] r later = alone_ranges P source n [] r (λ k d lt. absurd (omega arith))
onto_ranges P source n (g ∷ gaps) r later = at (nat_eq g.source source && nat_eq g.first (n + 1)) refl where
  at : (b : Bool) → (nat_eq g.source source && nat_eq g.first (n + 1)) ≡ b → Ranges (With source n P) (cond b (grown source n g ∷ gaps) (alone source n ∷ g ∷ gaps))
  at true e =
      let both = and_both (nat_eq g.source source) (nat_eq g.first (n + 1)) e in
      grown_ranges P source n g gaps r (eqb-true g.source source both.0) (eqb-true g.first (n + 1) both.1)
  at false e =
      let first = All-head (Later source (n + 1)) g gaps later in
      let fills = All-head (λ (h : Gap). h.first ≤ h.last) g gaps r.filled in
      let other : g.source ≡ source → g.first ≡ n + 1 → ⊥ = λ a b. true≢false (sym (tests g.source source g.first (n + 1) a b) ∙ e) in
      alone_ranges P source n (g ∷ gaps) r
      (All-cons (IsApart (alone source n)) g gaps (later_apart source n g first other)
      (All-weaker (IsApart g) (IsApart (alone source n)) (λ h a. apart_behind source n g h fills first a) gaps (apart_head g gaps r.apart)))

later_less : (source n : ℕ) (g : Gap) → Later source (n + 1) g → Later source n g
later_less source n g later = ⊎_elim (λ (p : source < g.source). inl p) (λ (p : (g.source ≡ source) × (n + 1 ≤ g.first)). let low = p.1 in inr (p.0, omega arith)) later

onto_later : (source n : ℕ) (gaps : List Gap) → All (Later source (n + 1)) gaps → All (Later source n) (onto_gaps source n gaps)
onto_later source n [] later = All-cons (Later source n) (alone source n) [] (inr (refl, omega arith)) (λ k d lt. absurd (omega arith))
onto_later source n (g ∷ gaps) later = at (nat_eq g.source source && nat_eq g.first (n + 1)) where
  less : All (Later source n) (g ∷ gaps)
  less = All-weaker (Later source (n + 1)) (Later source n) (later_less source n) (g ∷ gaps) later

  at : (b : Bool) → All (Later source n) (cond b (grown source n g ∷ gaps) (alone source n ∷ g ∷ gaps))
  at true = All-cons (Later source n) (grown source n g) gaps (inr (refl, omega arith)) (All-tail (Later source n) g gaps less)
  at false = All-cons (Later source n) (alone source n) (g ∷ gaps) (inr (refl, omega arith)) less

-- ---- the numbers of a source

same_ranges : (P Q : ℕ → ℕ → Type 0) (gaps : List Gap) → ((s m : ℕ) → P s m → Q s m) → ((s m : ℕ) → Q s m → P s m) → Ranges P gaps → Ranges Q gaps
same_ranges P Q gaps up down r = grind (arith, common_steps)

-- one of `count` numbers of a source from n on, which is not held
abbrev Here : (ℕ → Bool) → ℕ → ℕ → ℕ → ℕ → ℕ → Type 0
Here held source n count s m = (s ≡ source) × (n ≤ m) × (m < n + count) × (held m ≡ false)

abbrev Among : (ℕ → Bool) → ℕ → ℕ → ℕ → (ℕ → ℕ → Type 0) → ℕ → ℕ → Type 0
Among held source n count P s m = Here held source n count s m ⊎ P s m

record Front (P : ℕ → ℕ → Type 0) (source n : ℕ) (gaps : List Gap) : Type 0 where
  ranges : Ranges P gaps
  later : All (Later source n) gaps

here_later : (held : ℕ → Bool) (source n count s m : ℕ) → Here held source (n + 1) count s m → Here held source n (suc count) s m
here_later held source n count s m h = let low = h.1 in let high = h.2 in (h.0, omega arith, omega arith, h.3)

here_cases : (held : ℕ → Bool) (source n count s m : ℕ) → Here held source n (suc count) s m → ((s ≡ source) × (m ≡ n)) ⊎ Here held source (n + 1) count s m
here_cases held source n count s m h = grind (arith, common_steps, cases_lt)

here_new : (held : ℕ → Bool) (source n count s m : ℕ) → held n ≡ false → (s ≡ source) × (m ≡ n) → Here held source n (suc count) s m
here_new held source n count s m e h = let at = h.1 in (h.0, omega arith, omega arith, ap held h.1 ∙ e)

among_held : (held : ℕ → Bool) (P : ℕ → ℕ → Type 0) (source count n s m : ℕ) → held n ≡ true → Among held source (n + 1) count P s m ↔ Among held source n (suc count) P s m
among_held held P source count n s m e = grind (arith, common_steps, here_later, here_cases)

among_new : (held : ℕ → Bool) (P : ℕ → ℕ → Type 0) (source count n s m : ℕ) → held n ≡ false → With source n (Among held source (n + 1) count P) s m ↔ Among held source n (suc count) P s m
among_new held P source count n s m e = grind (arith, common_steps, here_later, here_cases, here_new)

before_front : (held : ℕ → Bool) (P : ℕ → ℕ → Type 0) (source count n : ℕ) (later : List Gap) → Ranges P later → All (λ g. source < g.source) later → Front (Among held source n count P) source n (missing_before held source n count later)
before_front held P source zero n later r behind = grind (arith, common_steps, same_ranges, All-weaker)
before_front held P source (suc count) n later r behind = at (held n) refl (before_front held P source count (n + 1) later r behind) where
  gaps : List Gap
  gaps = missing_before held source (n + 1) count later

  at : (b : Bool) → held n ≡ b → Front (Among held source (n + 1) count P) source (n + 1) gaps → Front (Among held source n (suc count) P) source n (cond b gaps (onto_gaps source n gaps))
  at true e f = record {
    ranges = same_ranges _ _ gaps (λ s m. (among_held held P source count n s m e).0) (λ s m. (among_held held P source count n s m e).1) f.ranges;
    later = All-weaker (Later source (n + 1)) (Later source n) (later_less source n) gaps f.later;
  }
  at false e f = record {
    ranges = same_ranges _ _ (onto_gaps source n gaps) (λ s m. (among_new held P source count n s m e).0) (λ s m. (among_new held P source count n s m e).1) (onto_ranges (Among held source (n + 1) count P) source n gaps f.ranges f.later);
    later = onto_later source n gaps f.later;
  }

-- ---- the sources

below : (source : ℕ) (sources : List ℕ) (s : ℕ) → IsStrictlySortedBy nat_cmp (source ∷ sources) → Contains sources s → source < s
below source sources s rising (k, h, e) = subst (λ (v : ℕ). source < v) e (AllPairs-from_increasing (source ∷ sources) (IsStrictlyIncreasing-from_sorted (source ∷ sources) rising) 0 (suc k) s (omega arith) (omega arith))

module _ (held : ℕ → ℕ → Bool) (top : ℕ → ℕ) where
  -- a number of one of these sources that is known and not held
  abbrev Lacks : List ℕ → ℕ → ℕ → Type 0
  Lacks sources s m = Contains sources s × (1 ≤ m) × (m ≤ top s) × (held s m ≡ false)

  to_lacks : (source : ℕ) (sources : List ℕ) (s m : ℕ) → Among (held source) source 1 (top source) (Lacks sources) s m → Lacks (source ∷ sources) s m
  to_lacks source sources s m a = grind (arith, common_steps, Contains-here, Contains-there)

  from_lacks : (source : ℕ) (sources : List ℕ) (s m : ℕ) → Lacks (source ∷ sources) s m → Among (held source) source 1 (top source) (Lacks sources) s m
  from_lacks source sources s m l = grind (arith, common_steps, Contains-cases)

  -- the ranges of sources that are all above one
  all_above : (source : ℕ) (sources : List ℕ) (gaps : List Gap) → IsStrictlySortedBy nat_cmp (source ∷ sources) → Ranges (Lacks sources) gaps → All (λ g. source < g.source) gaps
  all_above source sources gaps rising r k d lt =
      let g : Gap = get_or gaps k d in
      let fills : g.first ≤ g.last = r.filled k d lt in
      let lacks = (r.covers g.source g.first).0 (g, Contains-get_or gaps k d lt, refl, omega arith, fills) in
      below source sources g.source rising lacks.0

  sources_ranges : (sources : List ℕ) → IsStrictlySortedBy nat_cmp sources → Ranges (Lacks sources) (missing_of held top sources)
  sources_ranges [] rising = record {
    filled = λ k d lt. absurd (omega arith);
    apart = λ i j d ij lt. absurd (omega arith);
    covers = λ s m. (λ c. absurd (Contains-none c.0 c.1), λ l. absurd (Contains-none s l.0));
  }
  sources_ranges (source ∷ sources) rising =
      let rest = sources_ranges sources (sorted_tail nat_cmp source sources rising) in
      let front = before_front (held source) (Lacks sources) source (top source) 1 (missing_of held top sources) rest (all_above source sources (missing_of held top sources) rising rest) in
      same_ranges (Among (held source) source 1 (top source) (Lacks sources)) (Lacks (source ∷ sources)) (missing_before (held source) source 1 (top source) (missing_of held top sources))
      (to_lacks source sources) (from_lacks source sources) front.ranges

-- ---- of a page

mark_source : (marks : List MarkValue) (s : ℕ) → (mark_of marks s ≡ 0) ⊎ Contains (map (λ (m : MarkValue). m.source) marks) s
mark_source [] s = inl refl
mark_source (m ∷ marks) s = grind (arith, common_steps, eqb-true, Contains-here, Contains-there, mark_source marks s)

has_known : (history : List DrawopValue) (page : PageId) (marks : List MarkValue) (s n : ℕ) → 1 ≤ n → n ≤ known history page marks s → Contains (known_sources history page marks) s
has_known history page marks s n low below =
    let from_marks : List ℕ = map (λ (m : MarkValue). m.source) marks in
    Contains-sorted nat_cmp_total (sources_of history page ++ from_marks) (λ a b _ _ tie. eqb-true a b (nat_ties a b ∙ ap is_eq tie)) s
    (⊎_elim
    (λ (none : highest page s history ≡ 0). ⊎_elim (λ (no_mark : mark_of marks s ≡ 0). absurd (omega arith)) (λ (c : Contains from_marks s). Contains-append_right (sources_of history page) from_marks s c) (mark_source marks s))
    (λ (h : IsHeld history page s (highest page s history)). Contains-append_left (sources_of history page) from_marks s (has_source history page s (highest page s history) h))
    (greatest_held history page s).reached)

pub gaps_of_page : GapsOfPage
unfolding gaps_of
gaps_of_page history page marks =
    let r = sources_ranges (is_held history page) (known history page marks) (known_sources history page marks) (sorted_rises nat_cmp_total (sources_of history page ++ map (λ (m : MarkValue). m.source) marks)) in
    record {
      filled = r.filled;
      apart = r.apart;
      missing = λ s n. (
        λ c. let lacks = (r.covers s n).0 c in record { counted = lacks.1; below = lacks.2; not_held = λ h. true≢false (sym (held-from history page s n h) ∙ lacks.3) },
        λ m. (r.covers s n).1 (has_known history page marks s n m.counted m.below, m.counted, m.below, held-not history page s n m.not_held),
      );
    }

pub only_gaps : OnlyGaps
only_gaps history page marks gaps are = one_gaps history page marks gaps (gaps_of history page marks) are (gaps_of_page history page marks)
