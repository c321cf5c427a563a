-- What a walk over the runs of a page and marks finds are its gaps.
use Rattle.std.proofs.Common.{◌≡◌, ℕ, ◌+◌, ◌-◌, ◌<◌, ◌≤◌, true, false, cond, List, [], ◌∷◌, ◌++◌, refl, ap, ◌∙◌, sym, subst, arith, ◌⊎◌, inl, inr, ⊎_elim}
use Rattle.std.specs.Prelude.{◌≢◌, ◌↔◌, All, nat_lt}
use Rattle.std.specs.List.{flat_map}
use Rattle.std.proofs.lemmas.Bool.{cases_eq, cases_lt}
use Rattle.std.proofs.lemmas.Bool.Decides.{nat_tests}
use Rattle.std.proofs.lemmas.List.Elements.{All-nil, All-cons, All-head, All-tail, All-weaker, All-contains}
use Rattle.std.proofs.lemmas.List.Kept.{AllPairs-cons}
use Rattle.std.proofs.lemmas.Grind.{common_steps}
use Rattle.wb_names.specs.Values.{DrawopValue, MarkValue}
use Rattle.wb_names.specs.History.{IsHeld}
use Rattle.wb_names.specs.Marks.{mark_of}
use Rattle.wb_names.specs.Ascending.{AreMarks}
use Rattle.wb_names.specs.declared.gap.Gap.{Gap}
use Rattle.wb_names.specs.declared.name.PageId.{PageId}
use Rattle.wb_names.proofs.Listings.{Contains-none}
use Rattle.wb_gaps.specs.Gaps.{AreGaps}
use Rattle.wb_gaps.specs.Runs.{AreRuns, AreRunsOf, InRuns, IsBelow}
use Rattle.wb_gaps.specs.Walk.{gap_of, spans, spans_at, done_of, walk_of}
use Rattle.wb_gaps.specs.declared.run.Run.{Run}
use Rattle.wb_gaps.specs.declared.walk.Span.{Span}
use Rattle.wb_gaps.proofs.GreatestNumbers.{first_counted, first_filled, later_all, later_runs, number_cases, number_here, number_none, number_there}
use Rattle.wb_names.proofs.MarkLists.{Above, Rises, rest_above, rest_rises, here, there, none_above}
use Rattle.wb_gaps.proofs.MissingRanges.{Ranges, Within, in_cases, in_first}
use Rattle.wb_gaps.proofs.OneGaps.{covers_later}
use Rattle.wb_gaps.proofs.Rearranged.{known_is_reached}

-- ---- one span more

-- the numbers of a span
abbrev InSpan : ℕ → ℕ → ℕ → ℕ → ℕ → Type 0
InSpan source done last s n = (s ≡ source) × (done < n) × (n ≤ last)

abbrev gap : ℕ → ℕ → ℕ → Gap
gap source done last = record { source = source; first = done + 1; last = last }

-- of a later source, or of this one and beginning two or more above the last number
abbrev IsAfter : ℕ → ℕ → Gap → Type 0
IsAfter source last g = (source < g.source) ⊎ ((source ≡ g.source) × (last + 1 < g.first))

at_gap : (source done last s n : ℕ) → Within (gap source done last) s n ↔ InSpan source done last s n
at_gap source done last s n = grind (arith, common_steps)

-- a span's gap, and gaps after it
hold_gap : (source done last : ℕ) (gaps : List Gap) (P Q : ℕ → ℕ → Type 0) → done < last → Ranges Q gaps → All (IsAfter source last) gaps → ((s n : ℕ) → P s n ↔ (InSpan source done last s n ⊎ Q s n)) → Ranges P (gap source done last ∷ gaps)
hold_gap source done last gaps P Q lt rest after split = grind (arith, common_steps, in_first, covers_later, in_cases, at_gap, All-cons, AllPairs-cons)

-- a span of no numbers
hold_none : (source done last : ℕ) (gaps : List Gap) (P Q : ℕ → ℕ → Type 0) → last ≤ done → Ranges Q gaps → ((s n : ℕ) → P s n ↔ (InSpan source done last s n ⊎ Q s n)) → Ranges P gaps
hold_none source done last gaps P Q le rest split = grind (arith, common_steps, nat_tests)

abbrev span : ℕ → ℕ → ℕ → Span
span source done last = record { source = source; done = done; last = last }

hold_span : (source done last : ℕ) (gaps : List Gap) (P Q : ℕ → ℕ → Type 0) → Ranges Q gaps → All (IsAfter source last) gaps → ((s n : ℕ) → P s n ↔ (InSpan source done last s n ⊎ Q s n)) → Ranges P (gap_of (span source done last) ++ gaps)
hold_span source done last gaps P Q rest after split =
    elim (nat_lt done last) as (λ b. nat_lt done last ≡ b → Ranges P (cond b (gap source done last ∷ []) [] ++ gaps)) [
      | true ↦ λ e. let lt : done < last = grind (arith, nat_tests) in hold_gap source done last gaps P Q lt rest after split
      | false ↦ λ e. let le : last ≤ done = grind (arith, nat_tests) in hold_none source done last gaps P Q le rest split
    ] refl

-- what holds of a span's gap, where it has numbers, and of those after it
all_span : (B : Gap → Type 0) (source done last : ℕ) (gaps : List Gap) → B (gap source done last) → All B gaps → All B (gap_of (span source done last) ++ gaps)
all_span B source done last gaps first rest = grind (arith, common_steps, nat_tests, All-cons)

-- ---- what a walk finds

-- some number of the source, at least this one, lies in a run
abbrev Reached : List Run → ℕ → ℕ → Type 0
Reached runs s n = (m : ℕ) × (n ≤ m) × InRuns runs s m

-- the number is not done, is known of, and lies in no run
record Lacks (at done : ℕ) (marks : List MarkValue) (runs : List Run) (s n : ℕ) : Type 0 where
  not_done : done_of at done s < n
  known : (n ≤ mark_of marks s) ⊎ Reached runs s n
  free : ¬ InRuns runs s n

-- of a later source, or of this one and above its numbers that are done
abbrev IsBeyond : ℕ → ℕ → ℕ → ℕ → Type 0
IsBeyond at done source first = (at < source) ⊎ ((at ≡ source) × (done < first))

-- what the walk is at
record Comes (at done : ℕ) (marks : List MarkValue) (runs : List Run) : Type 0 where
  lawful : AreRuns runs
  rising : Rises marks
  marks_come : All (λ m. at ≤ m.source) marks
  runs_come : All (λ r. IsBeyond at done r.source r.first) runs

record Finds (at done : ℕ) (marks : List MarkValue) (runs : List Run) (gaps : List Gap) : Type 0 where
  hold : Ranges (Lacks at done marks runs) gaps
  beyond : All (λ g. IsBeyond at done g.source g.first) gaps
  later : (b : ℕ) → Above b marks → All (λ r. b < r.source) runs → All (λ g. b < g.source) gaps

done_here : (at done s : ℕ) → at ≡ s → done_of at done s ≡ done
done_here at done s e = grind (arith, nat_tests)

done_there : (at done s : ℕ) → at ≢ s → done_of at done s ≡ 0
done_there at done s e = grind (arith, nat_tests)

-- where what is done of a source ends, seen from beyond
done_below : (at done s first : ℕ) → 1 ≤ first → IsBeyond at done s first → done_of at done s < first
done_below at done s first pos beyond = grind (arith, common_steps, nat_tests, done_here, done_there)

-- after what is done
done_next : (at done s : ℕ) → at ≤ s → IsBeyond at done s (done_of at done s + 1)
done_next at done s le = grind (arith, common_steps, nat_tests, done_here, cases_eq)

-- runs after the first of a source
above_first : (s : ℕ) (x : Run) (xs : List Run) → AreRuns (x ∷ xs) → x.source ≡ s → (n : ℕ) → InRuns xs s n → x.last < n
above_first s x xs runs own n h =
    let is = h.2 in
    let low = h.3 in
    ⊎_elim (λ (q : x.source < h.0.source). absurd (omega arith)) (λ (q : (x.source ≡ h.0.source) × (x.last < h.0.first)). let above = q.1 in omega arith) (All-contains (IsBelow x) xs h.0 (later_all x xs runs) h.1).order

-- no run after the first is of a smaller source
none_before : (s : ℕ) (x : Run) (xs : List Run) → AreRuns (x ∷ xs) → s < x.source → (n : ℕ) → InRuns xs s n → ⊥
none_before s x xs runs lt n h =
    let is = h.2 in
    ⊎_elim (λ (q : x.source < h.0.source). omega arith) (λ (q : (x.source ≡ h.0.source) × (x.last < h.0.first)). let same = q.0 in omega arith) (All-contains (IsBelow x) xs h.0 (later_all x xs runs) h.1).order

-- no run is of a source below all of them
none_under : (s : ℕ) (xs : List Run) → All (λ r. s < r.source) xs → (n : ℕ) → InRuns xs s n → ⊥
none_under s xs above n h = let is = h.2 in let lt : s < h.0.source = All-contains (λ (r : Run). s < r.source) xs h.0 above h.1 in omega arith

-- no mark is below a source from which all come
none_from : (s b : ℕ) (marks : List MarkValue) → All (λ m. b ≤ m.source) marks → s < b → mark_of marks s ≡ 0
none_from s b marks from lt = none_above marks s (All-weaker (λ (m : MarkValue). b ≤ m.source) (λ (m : MarkValue). s < m.source) (λ m le. omega arith) marks from)

-- ---- a run is passed, where all marks come from its source on

module _ (at done : ℕ) (x : Run) (xs : List Run) (marks : List MarkValue) (comes : Comes at done marks (x ∷ xs)) (from : All (λ m. x.source ≤ m.source) marks) where
  runs : AreRuns (x ∷ xs)
  runs = comes.lawful

  pos : 1 ≤ x.first
  pos = first_counted x xs runs

  full : x.first ≤ x.last
  full = first_filled x xs runs

  starts : IsBeyond at done x.source x.first
  starts = All-head (λ (r : Run). IsBeyond at done r.source r.first) x xs comes.runs_come

  run_comes : Comes x.source x.last marks xs
  run_comes = record {
    lawful = later_runs x xs runs;
    rising = comes.rising;
    marks_come = from;
    runs_come = All-weaker (IsBelow x) (λ (r : Run). IsBeyond x.source x.last r.source r.first) (λ r b. b.order) xs (later_all x xs runs);
  }

  lacks_before : (s n : ℕ) → InSpan x.source (done_of at done x.source) (x.first - 1) s n → Lacks at done marks (x ∷ xs) s n
  lacks_before s n i =
      let own : x.source ≡ s = sym i.0 in
      let high = i.2 in
      record {
        not_done = subst (λ (k : ℕ). done_of at done k < n) own i.1;
        known = inr (x.last, omega (arith, pos, full), number_here x xs s x.last own full (omega arith));
        free = λ h. ⊎_elim
            (λ (p : (x.source ≡ s) × (x.first ≤ n) × (n ≤ x.last)). let low = p.1 in let w : ⊥ = omega (arith, pos) in w)
            (λ (c : InRuns xs s n). let above = above_first s x xs runs own n c in let w : ⊥ = omega (arith, pos, full) in w)
            (number_cases x xs s n h);
      }

  not_done_after : (s n : ℕ) → Lacks x.source x.last marks xs s n → done_of at done s < n
  not_done_after s n l = ⊎_elim
      (λ (own : x.source ≡ s).
      let a = done_here x.source x.last s own in
      let b = done_below at done x.source x.first pos starts in
      let low = l.not_done in
      let lt : done_of at done x.source < n = omega (arith, full) in
      subst (λ (k : ℕ). done_of at done k < n) own lt)
      (λ (other : x.source ≢ s).
      let a = done_there x.source x.last s other in
      let low = l.not_done in
      ⊎_elim
      (λ (e : at ≡ s).
      let before : s < x.source = ⊎_elim (λ (lt : at < x.source). omega arith) (λ (p : (at ≡ x.source) × (done < x.first)). let same = p.0 in absurd (other (sym same ∙ e))) starts in
      let none : mark_of marks s ≡ 0 = none_from s x.source marks from before in
      absurd (⊎_elim (λ (le : n ≤ mark_of marks s). let w : ⊥ = omega arith in w) (λ (r : Reached xs s n). none_before s x xs runs before r.0 r.2) l.known))
      (λ (e : at ≢ s). let b = done_there at done s e in omega arith)
      (cases_eq at s))
      (cases_eq x.source s)

  lacks_after : (s n : ℕ) → Lacks x.source x.last marks xs s n → Lacks at done marks (x ∷ xs) s n
  lacks_after s n l = record {
    not_done = not_done_after s n l;
    known = ⊎_elim (λ (le : n ≤ mark_of marks s). inl le) (λ (r : Reached xs s n). inr (r.0, r.1, number_there x xs s r.0 r.2)) l.known;
    free = λ h. ⊎_elim
        (λ (p : (x.source ≡ s) × (x.first ≤ n) × (n ≤ x.last)).
        let a = done_here x.source x.last s p.0 in
        let low = l.not_done in
        let high = p.2 in
        let w : ⊥ = omega arith in w)
        (λ (c : InRuns xs s n). l.free c)
        (number_cases x xs s n h);
  }

  free_after : (s n : ℕ) → Lacks at done marks (x ∷ xs) s n → InRuns xs s n → ⊥
  free_after s n l h = l.free (number_there x xs s n h)

  run_own : (s n : ℕ) → x.source ≡ s → Lacks at done marks (x ∷ xs) s n → InSpan x.source (done_of at done x.source) (x.first - 1) s n ⊎ Lacks x.source x.last marks xs s n
  run_own s n own l = ⊎_elim
      (λ (lt : n < x.first). inl (sym own, subst (λ (k : ℕ). done_of at done k < n) (sym own) l.not_done, omega arith))
      (λ (ge : x.first ≤ n).
      let above : x.last < n = ⊎_elim (λ (lt : x.last < n). lt) (λ (le : n ≤ x.last). absurd (l.free (number_here x xs s n own ge le))) (cases_lt x.last n) in
      inr (record {
        not_done = let a = done_here x.source x.last s own in omega arith;
        known = ⊎_elim
            (λ (le : n ≤ mark_of marks s). inl le)
            (λ (r : Reached (x ∷ xs) s n). ⊎_elim
            (λ (p : (x.source ≡ s) × (x.first ≤ r.0) × (r.0 ≤ x.last)). let a = p.2 in let b = r.1 in absurd (omega arith))
            (λ (c : InRuns xs s r.0). inr (r.0, r.1, c))
            (number_cases x xs s r.0 r.2))
            l.known;
        free = free_after s n l;
      }))
      (cases_lt n x.first)

  run_other : (s n : ℕ) → x.source ≢ s → Lacks at done marks (x ∷ xs) s n → Lacks x.source x.last marks xs s n
  run_other s n other l = record {
    not_done = let a = done_there x.source x.last s other in let low = l.not_done in omega arith;
    known = ⊎_elim
        (λ (le : n ≤ mark_of marks s). inl le)
        (λ (r : Reached (x ∷ xs) s n). ⊎_elim
        (λ (p : (x.source ≡ s) × (x.first ≤ r.0) × (r.0 ≤ x.last)). absurd (other p.0))
        (λ (c : InRuns xs s r.0). inr (r.0, r.1, c))
        (number_cases x xs s r.0 r.2))
        l.known;
    free = free_after s n l;
  }

  run_splits : (s n : ℕ) → Lacks at done marks (x ∷ xs) s n ↔ (InSpan x.source (done_of at done x.source) (x.first - 1) s n ⊎ Lacks x.source x.last marks xs s n)
  run_splits s n = (
    λ l. ⊎_elim (λ (own : x.source ≡ s). run_own s n own l) (λ (other : x.source ≢ s). inr (run_other s n other l)) (cases_eq x.source s),
    λ e. ⊎_elim (λ (i : InSpan x.source (done_of at done x.source) (x.first - 1) s n). lacks_before s n i) (λ (l : Lacks x.source x.last marks xs s n). lacks_after s n l) e,
  )

  run_beyond : (source first : ℕ) → IsBeyond x.source x.last source first → IsBeyond at done source first
  run_beyond source first b = grind (arith, common_steps, nat_tests, full, starts)

  at_or_before : at ≤ x.source
  at_or_before = ⊎_elim (λ (lt : at < x.source). omega arith) (λ (q : (at ≡ x.source) × (done < x.first)). let e = q.0 in omega arith) starts

  finds_run : (gaps : List Gap) → Finds x.source x.last marks xs gaps → Finds at done marks (x ∷ xs) (gap_of (span x.source (done_of at done x.source) (x.first - 1)) ++ gaps)
  finds_run gaps f = record {
    hold = hold_span x.source (done_of at done x.source) (x.first - 1) gaps (Lacks at done marks (x ∷ xs)) (Lacks x.source x.last marks xs) f.hold
        (All-weaker (λ (g : Gap). IsBeyond x.source x.last g.source g.first) (IsAfter x.source (x.first - 1))
        (λ g b. ⊎_elim (λ (l : x.source < g.source). inl l) (λ (p : (x.source ≡ g.source) × (x.last < g.first)). let over = p.1 in inr (p.0, omega (arith, pos, full))) b)
        gaps f.beyond)
        run_splits;
    beyond = all_span (λ (g : Gap). IsBeyond at done g.source g.first) x.source (done_of at done x.source) (x.first - 1) gaps
        (done_next at done x.source at_or_before)
        (All-weaker (λ (g : Gap). IsBeyond x.source x.last g.source g.first) (λ (g : Gap). IsBeyond at done g.source g.first) (λ g b. run_beyond g.source g.first b) gaps f.beyond);
    later = λ b above over. all_span (λ (g : Gap). b < g.source) x.source (done_of at done x.source) (x.first - 1) gaps
        (All-head (λ (r : Run). b < r.source) x xs over)
        (f.later b above (All-tail (λ (r : Run). b < r.source) x xs over));
  }

-- ---- a mark is passed, where all runs are of later sources

module _ (at done : ℕ) (m : MarkValue) (ms : List MarkValue) (xs : List Run) (comes : Comes at done (m ∷ ms) xs) (over : All (λ r. m.source < r.source) xs) where
  mark_comes : Comes at done ms xs
  mark_comes = record {
    lawful = comes.lawful;
    rising = rest_rises m ms comes.rising;
    marks_come = All-tail (λ (k : MarkValue). at ≤ k.source) m ms comes.marks_come;
    runs_come = comes.runs_come;
  }

  lacks_up_to : (s n : ℕ) → InSpan m.source (done_of at done m.source) m.high s n → Lacks at done (m ∷ ms) xs s n
  lacks_up_to s n i = grind (arith, common_steps, nat_tests, none_under, here)

  lacks_beside : (s n : ℕ) → Lacks at done ms xs s n → Lacks at done (m ∷ ms) xs s n
  lacks_beside s n l = record {
    not_done = l.not_done;
    known = ⊎_elim
        (λ (le : n ≤ mark_of ms s). ⊎_elim
        (λ (own : m.source ≡ s).
        let none : mark_of ms s ≡ 0 = none_above ms s (subst (λ (k : ℕ). Above k ms) own (rest_above m ms comes.rising)) in
        let low = l.not_done in
        absurd (omega arith))
        (λ (other : m.source ≢ s). inl (subst (λ (k : ℕ). n ≤ k) (sym (there m ms s other)) le))
        (cases_eq m.source s))
        (λ (r : Reached xs s n). inr r)
        l.known;
    free = l.free;
  }

  mark_splits : (s n : ℕ) → Lacks at done (m ∷ ms) xs s n ↔ (InSpan m.source (done_of at done m.source) m.high s n ⊎ Lacks at done ms xs s n)
  mark_splits s n = (
    λ l. ⊎_elim
        (λ (own : m.source ≡ s). inl (
          sym own,
          subst (λ (k : ℕ). done_of at done k < n) (sym own) l.not_done,
          ⊎_elim
              (λ (le : n ≤ mark_of (m ∷ ms) s). subst (λ (k : ℕ). n ≤ k) (here m ms s own) le)
              (λ (r : Reached xs s n). absurd (none_under m.source xs over r.0 (subst (λ (k : ℕ). InRuns xs k r.0) (sym own) r.2)))
              l.known,
        ))
        (λ (other : m.source ≢ s). inr (record {
          not_done = l.not_done;
          known = ⊎_elim (λ (le : n ≤ mark_of (m ∷ ms) s). inl (subst (λ (k : ℕ). n ≤ k) (there m ms s other) le)) (λ (r : Reached xs s n). inr r) l.known;
          free = l.free;
        }))
        (cases_eq m.source s),
    λ e. ⊎_elim (λ (i : InSpan m.source (done_of at done m.source) m.high s n). lacks_up_to s n i) (λ (l : Lacks at done ms xs s n). lacks_beside s n l) e,
  )

  finds_mark : (gaps : List Gap) → Finds at done ms xs gaps → Finds at done (m ∷ ms) xs (gap_of (span m.source (done_of at done m.source) m.high) ++ gaps)
  finds_mark gaps f = record {
    hold = hold_span m.source (done_of at done m.source) m.high gaps (Lacks at done (m ∷ ms) xs) (Lacks at done ms xs) f.hold
        (All-weaker (λ (g : Gap). m.source < g.source) (IsAfter m.source m.high) (λ g lt. inl lt) gaps (f.later m.source (rest_above m ms comes.rising) over))
        mark_splits;
    beyond = all_span (λ (g : Gap). IsBeyond at done g.source g.first) m.source (done_of at done m.source) m.high gaps
        (done_next at done m.source (All-head (λ (k : MarkValue). at ≤ k.source) m ms comes.marks_come))
        f.beyond;
    later = λ b above later. all_span (λ (g : Gap). b < g.source) m.source (done_of at done m.source) m.high gaps
        (All-head (λ (k : MarkValue). b < k.source) m ms above)
        (f.later b (All-tail (λ (k : MarkValue). b < k.source) m ms above) later);
  }

-- ---- the whole walk

-- the runs after a run of a later source are of later sources too
all_over : (b : ℕ) (x : Run) (xs : List Run) → AreRuns (x ∷ xs) → b < x.source → All (λ r. b < r.source) (x ∷ xs)
all_over b x xs runs lt = All-cons (λ (r : Run). b < r.source) x xs lt (All-weaker (IsBelow x) (λ (r : Run). b < r.source)
    (λ r p. ⊎_elim (λ (l : x.source < r.source). omega arith) (λ (q : (x.source ≡ r.source) × (x.last < r.first)). let same = q.0 in omega arith) p.order)
    xs (later_all x xs runs))

-- and the marks from one that is not below are none of them below
all_from : (b : ℕ) (m : MarkValue) (ms : List MarkValue) → Rises (m ∷ ms) → b ≤ m.source → All (λ k. b ≤ k.source) (m ∷ ms)
all_from b m ms up le = All-cons (λ (k : MarkValue). b ≤ k.source) m ms le (All-weaker (λ (k : MarkValue). m.source < k.source) (λ (k : MarkValue). b ≤ k.source) (λ k lt. omega arith) ms (rest_above m ms up))

finds_nothing : (at done : ℕ) → Finds at done [] [] []
finds_nothing at done = grind (arith, common_steps, nat_tests, All-nil, Contains-none, number_none)

abbrev found : List Run → ℕ → ℕ → List MarkValue → List Gap
found runs at done marks = flat_map gap_of (spans runs at done marks)

finds_marks : (at done : ℕ) (marks : List MarkValue) → Comes at done marks [] → Finds at done marks [] (found [] at done marks)
finds_marks at done [] comes = finds_nothing at done
finds_marks at done (m ∷ ms) comes = finds_mark at done m ms [] comes (All-nil _) (found [] at done ms) (finds_marks at done ms (mark_comes at done m ms [] comes (All-nil _)))

-- at the first of the runs, where the walk over the later ones finds what it is to
finds_at : (x : Run) (xs : List Run) → ((at done : ℕ) (marks : List MarkValue) → Comes at done marks xs → Finds at done marks xs (found xs at done marks))
    → (at done : ℕ) (marks : List MarkValue) → Comes at done marks (x ∷ xs) → Finds at done marks (x ∷ xs) (flat_map gap_of (spans_at x (spans xs) at done marks))
finds_at x xs rest at done [] comes = finds_run at done x xs [] comes (All-nil _) (found xs x.source x.last []) (rest x.source x.last [] (run_comes at done x xs [] comes (All-nil _)))
finds_at x xs rest at done (m ∷ ms) comes =
    elim (nat_lt m.source x.source) as (λ b. nat_lt m.source x.source ≡ b → Finds at done (m ∷ ms) (x ∷ xs) (flat_map gap_of (cond b (span m.source (done_of at done m.source) m.high ∷ spans_at x (spans xs) at done ms) (span x.source (done_of at done x.source) (x.first - 1) ∷ spans xs x.source x.last (m ∷ ms))))) [
      | true ↦ λ e.
          let lt : m.source < x.source = grind (arith, nat_tests) in
          let over = all_over m.source x xs comes.lawful lt in
          finds_mark at done m ms (x ∷ xs) comes over (flat_map gap_of (spans_at x (spans xs) at done ms)) (finds_at x xs rest at done ms (mark_comes at done m ms (x ∷ xs) comes over))
      | false ↦ λ e.
          let le : x.source ≤ m.source = grind (arith, nat_tests) in
          let from = all_from x.source m ms comes.rising le in
          finds_run at done x xs (m ∷ ms) comes from (found xs x.source x.last (m ∷ ms)) (rest x.source x.last (m ∷ ms) (run_comes at done x xs (m ∷ ms) comes from))
    ] refl

finds_all : (runs : List Run) (at done : ℕ) (marks : List MarkValue) → Comes at done marks runs → Finds at done marks runs (found runs at done marks)
finds_all [] at done marks comes = finds_marks at done marks comes
finds_all (x ∷ xs) at done marks comes = finds_at x xs (finds_all xs) at done marks comes

-- from the beginning every number is not_done, and those of the runs are those that are held
pub are_gaps : (history : List DrawopValue) (page : PageId) (runs : List Run) (marks : List MarkValue) → AreRunsOf history page runs → AreMarks marks → AreGaps history page marks (walk_of runs marks)
are_gaps history page runs marks of lawful =
    let first = All-weaker (λ (r : Run). 1 ≤ r.first) (λ (r : Run). IsBeyond 0 0 r.source r.first) (λ r low. begins r low) runs of.lawful.counted in
    let f = finds_all runs 0 0 marks (record { lawful = of.lawful; rising = lawful.ascending; marks_come = All-weaker (λ (m : MarkValue). 1 ≤ m.high) (λ (m : MarkValue). 0 ≤ m.source) (λ m p. omega arith) marks lawful.positive; runs_come = first }) in
    record {
      filled = f.hold.filled;
      apart = f.hold.apart;
      missing = λ s n. (
        (λ c.
            let l = (f.hold.covers s n).0 c in
            let low = l.not_done in
            let counted : 1 ≤ n = omega arith in
            record {
              counted = counted;
              below = (known_is_reached history page marks s n counted).1 (⊎_elim (λ (le : n ≤ mark_of marks s). inr le) (λ (r : Reached runs s n). inl (r.0, r.1, (of.held s r.0).0 r.2)) l.known);
              not_held = λ h. l.free ((of.held s n).1 h);
            }),
        (λ i.
            let counted = i.counted in
            (f.hold.covers s n).1 (record {
              not_done = let t = nothing_done s in omega arith;
              known = ⊎_elim (λ (r : (m : ℕ) × (n ≤ m) × IsHeld history page s m). inr (r.0, r.1, (of.held s r.0).1 r.2)) (λ (le : n ≤ mark_of marks s). inl le) ((known_is_reached history page marks s n counted).0 i.below);
              free = λ h. i.not_held ((of.held s n).0 h);
            })),
      );
    } where
      nothing_done : (s : ℕ) → done_of 0 0 s ≡ 0
      nothing_done s = ⊎_elim (λ (e : 0 ≡ s). done_here 0 0 s e) (λ (e : 0 ≢ s). done_there 0 0 s e) (cases_eq 0 s)

      begins : (r : Run) → 1 ≤ r.first → IsBeyond 0 0 r.source r.first
      begins r low = ⊎_elim (λ (e : 0 ≡ r.source). inr (e, omega arith)) (λ (e : 0 ≢ r.source). inl (omega arith)) (cases_eq 0 r.source)

-- the same, of what was read
pub are_gaps_read : (history : List DrawopValue) (page : PageId) (runs read : List Run) (marks heard : List MarkValue) (gaps : List Gap) → AreRunsOf history page runs → AreMarks marks → read ≡ runs → heard ≡ marks → gaps ≡ walk_of read heard → AreGaps history page marks gaps
are_gaps_read history page runs read marks heard gaps of lawful same walked found =
    subst (AreGaps history page marks) (sym (found ∙ ap (λ (rs : List Run). walk_of rs heard) same ∙ ap (walk_of runs) walked)) (are_gaps history page runs marks of lawful)
