-- The marks of a page, one after the other, as its ranges tell them.
use Rattle.std.proofs.Common.{◌≡◌, ℕ, ◌≤◌, ◌<◌, Bool, true, false, List, [], ◌∷◌, get_or, refl, ap, ◌∙◌, sym, subst, arith, ⊎_elim, Option, None, Some}
use Rattle.std.specs.Prelude.{Contains, filter, map, take}
use Rattle.std.specs.BTreeMap.{BTreeMap, IsOrdered}
use Rattle.std.specs.List.{last_or}
use Rattle.std.proofs.lemmas.Bool.Decides.{nat_tests}
use Rattle.std.proofs.lemmas.List.{get_or-take, length-take}
use Rattle.std.proofs.lemmas.List.Elements.{All-contains, All-filter, All-take}
use Rattle.std.proofs.lemmas.List.Kept.{AllPairs-filter}
use Rattle.std.proofs.lemmas.Grind.{common_steps}
use Rattle.wb_names.specs.Ascending.{AreMarks, is_above}
use Rattle.wb_names.specs.History.{name_of}
use Rattle.wb_names.specs.Marks.{mark_of}
use Rattle.wb_names.specs.Values.{DrawopValue, MarkValue}
use Rattle.wb_names.specs.declared.entries.TheConstants.{MAX_ENTRIES}
use Rattle.wb_names.specs.declared.name.PageId.{PageId}
use Rattle.wb_names.proofs.Listings.{Contains-cases, Contains-here, Contains-none, Contains-there}
use Rattle.wb_names.proofs.MarkLists.{Positive, Rises, here, rest_above, rest_rises, there}
use Rattle.wb_gaps.specs.Answers.{report_of}
use Rattle.wb_gaps.specs.Holdings.{HoldNamesOf, IsHighest, holds}
use Rattle.wb_gaps.specs.LastNumbers.{AreGreatest}
use Rattle.wb_gaps.specs.Runs.{InRuns}
use Rattle.wb_gaps.specs.Starts.{AreRanges, HasSource, IsLastSource, IsNextSource, ranges_of, runs_on, start_cmp}
use Rattle.wb_gaps.specs.declared.holdings.Start.{Start}
use Rattle.wb_gaps.proofs.GreatestNumbers.{are_greatest, last_marks, one_greatest}
use Rattle.wb_gaps.proofs.HeldRanges.{covers_name, name_covered}
use Rattle.wb_gaps.proofs.ListParts.{Rising, first_left, none_left}
use Rattle.wb_gaps.proofs.PageRanges.{from_cover, runs_are, runs_hold, to_cover}
use Rattle.wb_gaps.proofs.PageAnswers.{are_report}
use Rattle.wb_gaps.proofs.Reports.{highest_from_marks}

abbrev mark : ℕ → ℕ → MarkValue
mark source high = record { source = source; high = high }

abbrev Below : MarkValue → MarkValue → Type 0
Below m n = m.source < n.source

-- marks with a source have it once
has_mark : (marks : List MarkValue) (s : ℕ) → 1 ≤ mark_of marks s → Contains marks (mark s (mark_of marks s))
has_mark [] s pos = absurd (omega arith)
has_mark (m ∷ marks) s pos = grind (arith, common_steps, nat_tests, Contains-here, Contains-there, has_mark marks s)

mark_is : (marks : List MarkValue) (m : MarkValue) → Rises marks → Contains marks m → mark_of marks m.source ≡ m.high
mark_is [] m rises c = absurd (Contains-none m c)
mark_is (x ∷ marks) m rises c = ⊎_elim
    (λ (e : x ≡ m). here x marks m.source (ap (λ (n : MarkValue). n.source) e) ∙ ap (λ (n : MarkValue). n.high) e)
    (λ (later : Contains marks m).
    let lt : x.source < m.source = All-contains (λ (n : MarkValue). x.source < n.source) marks m (rest_above x marks rises) later in
    there x marks m.source (omega arith) ∙ mark_is marks m (rest_rises x marks rises) later)
    (Contains-cases x m marks c)

rising : (marks : List MarkValue) → Rises marks → Rising Below marks
rising [] rises = tt
rising (m ∷ marks) rises = (λ n c. All-contains (λ (k : MarkValue). m.source < k.source) marks n (rest_above m marks rises) c, rising marks (rest_rises m marks rises))

module _ (m : BTreeMap Start ℕ) (ranges : AreRanges m.entries) (page : PageId) where
  -- a source that has a range has a number
  pub highest_positive : (s high : ℕ) → HasSource m.entries page s → IsHighest (ranges_of m.entries) page s high → 1 ≤ high
  highest_positive s high h g =
      let a = ranges.apart page s in
      let low = a.positive h.0 h.1 h.2 in
      let full = a.filled h.0 h.1 h.2 in
      let bound = g.bound h.0 (name_covered (name_of page s h.0) m (h.0, h.1, h.2, omega arith, full)) in
      omega arith

module _ (m : BTreeMap Start ℕ) (ordered : IsOrdered start_cmp m) (ranges : AreRanges m.entries) (page : PageId) (all : List MarkValue) (top : AreGreatest (runs_on page m.entries) all) where
  -- the sources of the marks are those that have a range
  source_marked : (s : ℕ) → HasSource m.entries page s → 1 ≤ mark_of all s
  source_marked s h =
      let a = ranges.apart page s in
      let low = a.positive h.0 h.1 h.2 in
      let full = a.filled h.0 h.1 h.2 in
      let bound = (top.greatest s).bound h.0 (from_cover m ordered ranges page s h.0 (h.0, h.1, h.2, omega arith, full)) in
      omega arith

  marked_source : (s : ℕ) → 1 ≤ mark_of all s → HasSource m.entries page s
  marked_source s pos = ⊎_elim
      (λ (none : mark_of all s ≡ 0). absurd (omega arith))
      (λ (h : InRuns (runs_on page m.entries) s (mark_of all s)). let c = to_cover m ordered ranges page s (mark_of all s) h in (c.0, c.1, c.2))
      (top.greatest s).reached

  member_source : (n : MarkValue) → Contains all n → HasSource m.entries page n.source
  member_source n c =
      let is = mark_is all n top.ascending c in
      let pos = All-contains (λ (k : MarkValue). 1 ≤ k.high) all n top.positive c in
      marked_source n.source (omega arith)

  -- the mark of a source has its greatest number
  pub highest_marked : (s high : ℕ) → IsHighest (ranges_of m.entries) page s high → mark_of all s ≡ high
  highest_marked s high g =
      one_greatest (InRuns (runs_on page m.entries) s) (λ (n : ℕ). holds (ranges_of m.entries) (name_of page s n) ≡ true) _ _ (top.greatest s) g
      (λ n h. name_covered (name_of page s n) m (to_cover m ordered ranges page s n h))
      (λ n h. from_cover m ordered ranges page s n (covers_name (name_of page s n) m ordered h))

  -- ---- the next mark

  pub none_above : (last : Option ℕ) → IsNextSource m.entries page last None → filter (λ n. is_above last n.source) all ≡ []
  none_above last none = none_left (λ (n : MarkValue). is_above last n.source) all (λ n c. none n.source (member_source n c))

  above_more : (last : Option ℕ) (s t : ℕ) → is_above last s ≡ true → s < t → is_above last t ≡ true
  above_more None s t above lt = refl
  above_more (Some l) s t above lt = grind (arith, nat_tests)

  itself : (s : ℕ) → is_above (Some s) s ≡ false
  itself s = grind (arith, nat_tests)

  lower : (s t : ℕ) → t < s → is_above (Some s) t ≡ false
  lower s t lt = grind (arith, nat_tests)

  higher : (s t : ℕ) → s < t → is_above (Some s) t ≡ true
  higher s t lt = grind (arith, nat_tests)

  pub mark_next : (last : Option ℕ) (s high : ℕ) → IsNextSource m.entries page last (Some s) → IsHighest (ranges_of m.entries) page s high → filter (λ n. is_above last n.source) all ≡ mark s high ∷ filter (λ n. is_above (Some s) n.source) all
  mark_next last s high next g =
      first_left Below (λ (n : MarkValue). is_above last n.source) (λ (n : MarkValue). is_above (Some s) n.source) (mark s high) all (rising all top.ascending)
      (subst (λ (h : ℕ). Contains all (mark s h)) (highest_marked s high g) (has_mark all s (source_marked s next.0)))
      (record {
        itself = (next.1, itself s);
        earlier = λ n c lt. (below (is_above last n.source) refl (member_source n c) lt, lower s n.source lt);
        later = λ n lt. (above_more last s n.source next.1 lt, higher s n.source lt);
      }) where
        below : {n : ℕ} (b : Bool) → is_above last n ≡ b → HasSource m.entries page n → n < s → is_above last n ≡ false
        below false e h lt = e
        below {n} true e h lt = let le = next.2 n h e in absurd (omega arith)

  -- ---- the last source

  none_at_end : IsLastSource m.entries page None → all ≡ []
  none_at_end none = by all (λ n c. none n.source (member_source n c)) where
    by : (marks : List MarkValue) → ((n : MarkValue) → Contains marks n → ⊥) → marks ≡ []
    by [] lacks = refl
    by (n ∷ marks) lacks = absurd (lacks n (Contains-here n marks))

  some_at_end : (s : ℕ) → IsLastSource m.entries page (Some s) → last_or None (map (λ (n : MarkValue). n.source) all) ≡ Some s
  some_at_end s last = at None all (rising all top.ascending) (has_mark all s (source_marked s last.0)) (λ n c. last.1 n.source (member_source n c)) where
    at : (o : Option ℕ) (marks : List MarkValue) → Rising Below marks → Contains marks (mark s (mark_of all s)) → ((n : MarkValue) → Contains marks n → n.source ≤ s) → last_or o (map (λ (n : MarkValue). n.source) marks) ≡ Some s
    at o [] up c most = absurd (Contains-none _ c)
    at o (n ∷ []) up c most = ⊎_elim
        (λ (e : n ≡ mark s (mark_of all s)). ap (λ (k : MarkValue). Some k.source) e)
        (λ (c : Contains [] (mark s (mark_of all s))). absurd (Contains-none _ c))
        (Contains-cases n _ [] c)
    at o (n ∷ k ∷ marks) up c most = at (Some n.source) (k ∷ marks) up.1
        (⊎_elim
        (λ (e : n ≡ mark s (mark_of all s)).
        let lt = up.0 k (Contains-here k marks) in
        let le = most k (Contains-there n k (k ∷ marks) (Contains-here k marks)) in
        let is : n.source ≡ s = ap (λ (x : MarkValue). x.source) e in
        absurd (omega arith))
        (λ (c : Contains (k ∷ marks) (mark s (mark_of all s))). c)
        (Contains-cases n _ (k ∷ marks) c))
        (λ x d. most x (Contains-there n x (k ∷ marks) d))

  pub at_end : (o : Option ℕ) → IsLastSource m.entries page o → o ≡ last_or None (map (λ (n : MarkValue). n.source) all)
  at_end None none = sym (ap (λ (ns : List MarkValue). last_or None (map (λ (n : MarkValue). n.source) ns)) (none_at_end none))
  at_end (Some s) last = sym (some_at_end s last)

  -- ---- the marks are the report

  pub are_told : (history : List DrawopValue) → HoldNamesOf history (ranges_of m.entries) → all ≡ report_of history page
  are_told history held = are_report history page all top.ascending top.positive (highest_from_marks history page (runs_on page m.entries) all (runs_hold m ordered ranges history held page) top)

-- the greatest numbers of a page, as one list
module _ (m : BTreeMap Start ℕ) (ordered : IsOrdered start_cmp m) (ranges : AreRanges m.entries) (page : PageId) where
  abbrev pub tops : List MarkValue
  tops = last_marks (runs_on page m.entries)

  pub are_tops : AreGreatest (runs_on page m.entries) tops
  are_tops = are_greatest (runs_on page m.entries) (runs_are m ordered ranges page)

-- some of the marks of a list, of these the first, at most 65,535
pub part_of_marks : (p : MarkValue → Bool) (most : ℕ) (all : List MarkValue) → Rises all → Positive all → most ≤ MAX_ENTRIES → AreMarks (take most (filter p all))
part_of_marks p most all rises positive small =
    let some : List MarkValue = filter p all in
    let up : Rises some = AllPairs-filter Below p all rises in
    let here = length-take most some in
    record {
      ascending = λ i j d lt within.
          let one : get_or (take most some) i d ≡ get_or some i d = get_or-take most some i d (omega (arith, here, lt, within)) in
          let other : get_or (take most some) j d ≡ get_or some j d = get_or-take most some j d (omega (arith, here, within)) in
          rw (one, other) (up i j d lt (omega (arith, here, within)));
      positive = All-take (λ (m : MarkValue). 1 ≤ m.high) most some (All-filter p (λ (m : MarkValue). 1 ≤ m.high) all positive);
      few = omega (arith, here, small);
    }
