-- What the marks of two ascending lists are, taken together.
use Rattle.std.proofs.Common.{◌≡◌, ℕ, suc, ◌+◌, ◌<◌, ◌≤◌, Bool, true, cond, max, List, [], ◌∷◌, length, refl, ap, ◌∙◌, sym, subst, arith, ⊎_elim}
use Rattle.std.specs.Prelude.{◌≢◌, filter, nat_eq, nat_lt}
use Rattle.std.proofs.lemmas.Bool.{cases_eq, cases_lt}
use Rattle.std.proofs.lemmas.Bool.Decides.{nat_tests}
use Rattle.std.proofs.lemmas.List.Elements.{All-cons, All-head, All-tail}
use Rattle.std.proofs.lemmas.List.Sums.{length-filter, count_by-le-length}
use Rattle.std.proofs.lemmas.List.Kept.{AllPairs-cons}
use Rattle.std.proofs.lemmas.Grind.{common_steps}
use Rattle.wb_names.specs.Values.{MarkValue}
use Rattle.wb_names.specs.Ascending.{AreMarks}
use Rattle.wb_names.specs.Marks.{mark_of, IsMerge}
use Rattle.wb_names.proofs.MarkLists.{Above, Rises, Positive, rest_above, rest_rises, here, there, none_above, above_less}
use Rattle.wb_gaps.specs.Merging.{source_count}
use Rattle.wb_gaps.specs.Joining.{greater, joined, joined_at}
use Rattle.wb_names.specs.declared.entries.TheConstants.{MAX_ENTRIES}

-- the marks of a list whose sources another list lacks
abbrev lacking : List MarkValue → List MarkValue → ℕ
lacking a b = length (filter (λ m. nat_eq (mark_of a m.source) 0) b)

abbrev absent : ℕ → ℕ
absent high = cond (nat_eq high 0) 1 0

absent_some : (high : ℕ) → 1 ≤ high → absent high ≡ 0
absent_some high pos = grind (arith, nat_tests)

lacking_step : (a ns : List MarkValue) (n : MarkValue) → lacking a (n ∷ ns) ≡ absent (mark_of a n.source) + lacking a ns
lacking_step a ns n = grind (arith, common_steps, nat_tests)

lacking_none : (ns : List MarkValue) → lacking [] ns ≡ length ns
lacking_none [] = refl
lacking_none (n ∷ ns) = ap suc (lacking_none ns)

-- a mark below all of the others makes no difference to them
lacking_below : (m : MarkValue) (ms ns : List MarkValue) → Above m.source ns → lacking (m ∷ ms) ns ≡ lacking ms ns
lacking_below m ms [] above = refl
lacking_below m ms (n ∷ ns) above =
    let lt : m.source < n.source = All-head (λ (k : MarkValue). m.source < k.source) n ns above in
    let same : mark_of (m ∷ ms) n.source ≡ mark_of ms n.source = there m ms n.source (omega arith) in
    let rest : lacking (m ∷ ms) ns ≡ lacking ms ns = lacking_below m ms ns (All-tail (λ (k : MarkValue). m.source < k.source) n ns above) in
    let a = lacking_step (m ∷ ms) ns n in
    let b = lacking_step ms ns n in
    let c : absent (mark_of (m ∷ ms) n.source) ≡ absent (mark_of ms n.source) = ap absent same in
    omega arith

-- what is known of the marks of two ascending lists, taken together
pub record Merges (ms ns marks : List MarkValue) : Type 0 where
  pub highs : (s : ℕ) → mark_of marks s ≡ max (mark_of ms s) (mark_of ns s)
  pub above : (b : ℕ) → Above b ms → Above b ns → Above b marks
  pub rises : Rises marks
  pub positive : Positive ms → Positive ns → Positive marks

-- and how many there are
pub record Joins (ms ns marks : List MarkValue) : Type 0 where
  pub merges : Merges ms ns marks
  pub open merges use *
  pub count : length marks ≡ source_count ms ns

turned : (ms ns marks : List MarkValue) → Merges ms ns marks → Merges ns ms marks
turned ms ns marks j = record { highs = λ s. let e = j.highs s in omega arith; above = λ b p q. j.above b q p; rises = j.rises; positive = λ pm pn. j.positive pn pm }

joins_none : (ns : List MarkValue) → Rises ns → Joins [] ns ns
joins_none ns un = record { merges = record { highs = λ s. omega arith; above = λ b a c. c; rises = un; positive = λ pm pn. pn }; count = let e = lacking_none ns in omega arith }

joins_all : (ms : List MarkValue) → Rises ms → Joins ms [] ms
joins_all ms um = record { merges = record { highs = λ s. omega arith; above = λ b a c. a; rises = um; positive = λ pm pn. pm }; count = omega arith }

-- a mark below the first of a list is below all of it
below : (m n : MarkValue) (ns : List MarkValue) → m.source < n.source → Rises (n ∷ ns) → Above m.source (n ∷ ns)
below m n ns lt un = All-cons (λ (k : MarkValue). m.source < k.source) n ns lt (above_less m.source n.source ns (omega arith) (rest_above n ns un))

merges_first : (m n : MarkValue) (ms ns marks : List MarkValue) → m.source < n.source → Rises (m ∷ ms) → Rises (n ∷ ns) → Merges ms (n ∷ ns) marks → Merges (m ∷ ms) (n ∷ ns) (m ∷ marks)
merges_first m n ms ns marks lt um un j = record {
  highs = λ s. ⊎_elim
      (λ (e : m.source ≡ s).
      let a = here m marks s e in
      let b = here m ms s e in
      let c = none_above (n ∷ ns) s (above_less s m.source (n ∷ ns) (omega arith) (below m n ns lt un)) in
      omega arith)
      (λ (other : m.source ≢ s).
      let a = there m marks s other in
      let b = there m ms s other in
      let c = j.highs s in
      omega arith)
      (cases_eq m.source s);
  above = λ b p q. All-cons (λ (k : MarkValue). b < k.source) m marks (All-head (λ (k : MarkValue). b < k.source) m ms p) (j.above b (All-tail (λ (k : MarkValue). b < k.source) m ms p) q);
  rises = AllPairs-cons (λ (k l : MarkValue). k.source < l.source) m marks (j.above m.source (rest_above m ms um) (below m n ns lt un)) j.rises;
  positive = λ pm pn. All-cons (λ (k : MarkValue). 1 ≤ k.high) m marks (All-head (λ (k : MarkValue). 1 ≤ k.high) m ms pm) (j.positive (All-tail (λ (k : MarkValue). 1 ≤ k.high) m ms pm) pn);
}

joins_first : (m n : MarkValue) (ms ns marks : List MarkValue) → m.source < n.source → Rises (m ∷ ms) → Rises (n ∷ ns) → Joins ms (n ∷ ns) marks → Joins (m ∷ ms) (n ∷ ns) (m ∷ marks)
joins_first m n ms ns marks lt um un j = record { merges = merges_first m n ms ns marks lt um un j.merges; count = let a = j.count in let b = lacking_below m ms (n ∷ ns) (below m n ns lt un) in omega arith }

joins_second : (m n : MarkValue) (ms ns marks : List MarkValue) → n.source < m.source → Rises (m ∷ ms) → Rises (n ∷ ns) → Joins (m ∷ ms) ns marks → Joins (m ∷ ms) (n ∷ ns) (n ∷ marks)
joins_second m n ms ns marks lt um un j = record {
  merges = turned (n ∷ ns) (m ∷ ms) (n ∷ marks) (merges_first n m ns ms marks lt un um (turned (m ∷ ms) ns marks j.merges));
  count =
      let a = j.count in
      let b = lacking_step (m ∷ ms) ns n in
      let c : absent (mark_of (m ∷ ms) n.source) ≡ 1 = ap absent (none_above (m ∷ ms) n.source (below n m ms lt um)) in
      omega arith;
}

joins_both : (m n : MarkValue) (ms ns marks : List MarkValue) → m.source ≡ n.source → Rises (m ∷ ms) → Rises (n ∷ ns) → 1 ≤ m.high → Joins ms ns marks → Joins (m ∷ ms) (n ∷ ns) (greater m n ∷ marks)
joins_both m n ms ns marks same um un pos j =
    let low : Above m.source ns = above_less m.source n.source ns (omega arith) (rest_above n ns un) in
    let merges : Merges (m ∷ ms) (n ∷ ns) (greater m n ∷ marks) = record {
      highs = λ s. ⊎_elim
          (λ (e : m.source ≡ s).
          let a = here (greater m n) marks s e in
          let b = here m ms s e in
          let c = here n ns s (sym same ∙ e) in
          omega arith)
          (λ (other : m.source ≢ s).
          let a = there (greater m n) marks s other in
          let b = there m ms s other in
          let c = there n ns s (λ (e : n.source ≡ s). other (same ∙ e)) in
          let d = j.highs s in
          omega arith)
          (cases_eq m.source s);
      above = λ b p q. All-cons (λ (k : MarkValue). b < k.source) (greater m n) marks (All-head (λ (k : MarkValue). b < k.source) m ms p) (j.above b (All-tail (λ (k : MarkValue). b < k.source) m ms p) (All-tail (λ (k : MarkValue). b < k.source) n ns q));
      rises = AllPairs-cons (λ (k l : MarkValue). k.source < l.source) (greater m n) marks (j.above m.source (rest_above m ms um) low) j.rises;
      positive = λ pm pn. All-cons (λ (k : MarkValue). 1 ≤ k.high) (greater m n) marks (omega arith) (j.positive (All-tail (λ (k : MarkValue). 1 ≤ k.high) m ms pm) (All-tail (λ (k : MarkValue). 1 ≤ k.high) n ns pn));
    } in
    let a = j.count in
    let b = lacking_step (m ∷ ms) ns n in
    let c : absent (mark_of (m ∷ ms) n.source) ≡ 0 = ap absent (here m ms n.source same) ∙ absent_some m.high pos in
    let d = lacking_below m ms ns low in
    record { merges = merges; count = omega arith }

-- the three cases of the walk at two first marks
at_first : (m n : MarkValue) (ms ns : List MarkValue) (rest : List MarkValue → List MarkValue) → m.source < n.source → joined_at m ms rest (n ∷ ns) ≡ m ∷ rest (n ∷ ns)
at_first m n ms ns rest lt = let a : nat_lt m.source n.source ≡ true = grind (arith, nat_tests) in ap (λ (b : Bool). cond b (m ∷ rest (n ∷ ns)) (cond (nat_lt n.source m.source) (n ∷ joined_at m ms rest ns) (greater m n ∷ rest ns))) a

at_second : (m n : MarkValue) (ms ns : List MarkValue) (rest : List MarkValue → List MarkValue) → n.source < m.source → joined_at m ms rest (n ∷ ns) ≡ n ∷ joined_at m ms rest ns
at_second m n ms ns rest lt = grind (arith, common_steps, nat_tests)

at_both : (m n : MarkValue) (ms ns : List MarkValue) (rest : List MarkValue → List MarkValue) → m.source ≡ n.source → joined_at m ms rest (n ∷ ns) ≡ greater m n ∷ rest ns
at_both m n ms ns rest e = grind (arith, common_steps, nat_tests)

joins_at : (m : MarkValue) (ms : List MarkValue) → Rises (m ∷ ms) → 1 ≤ m.high → ((ns : List MarkValue) → Rises ns → Joins ms ns (joined ms ns)) → (ns : List MarkValue) → Rises ns → Joins (m ∷ ms) ns (joined_at m ms (joined ms) ns)
joins_at m ms um pos rest [] un = joins_all (m ∷ ms) um
joins_at m ms um pos rest (n ∷ ns) un = ⊎_elim
    (λ (lt : m.source < n.source). subst (Joins (m ∷ ms) (n ∷ ns)) (sym (at_first m n ms ns (joined ms) lt)) (joins_first m n ms ns _ lt um un (rest (n ∷ ns) un)))
    (λ (le : n.source ≤ m.source). ⊎_elim
    (λ (lt : n.source < m.source). subst (Joins (m ∷ ms) (n ∷ ns)) (sym (at_second m n ms ns (joined ms) lt)) (joins_second m n ms ns _ lt um un (joins_at m ms um pos rest ns (rest_rises n ns un))))
    (λ (ge : m.source ≤ n.source). subst (Joins (m ∷ ms) (n ∷ ns)) (sym (at_both m n ms ns (joined ms) (omega arith))) (joins_both m n ms ns _ (omega arith) um un pos (rest ns (rest_rises n ns un))))
    (cases_lt n.source m.source))
    (cases_lt m.source n.source)

pub joins : (ms : List MarkValue) → Rises ms → Positive ms → (ns : List MarkValue) → Rises ns → Joins ms ns (joined ms ns)
joins [] um pm ns un = joins_none ns un
joins (m ∷ ms) um pm ns un = joins_at m ms um (All-head (λ (k : MarkValue). 1 ≤ k.high) m ms pm) (joins ms (rest_rises m ms um) (All-tail (λ (k : MarkValue). 1 ≤ k.high) m ms pm)) ns un

-- where the second list has ended, the first one is what is left
pub joined_alone : (xs ys : List MarkValue) (m : MarkValue) (ms : List MarkValue) → xs ≡ m ∷ ms → length ys ≡ 0 → joined xs ys ≡ m ∷ joined ms ys
joined_alone xs [] m ms e none = ap (λ (zs : List MarkValue). joined zs []) e ∙ ap (λ (zs : List MarkValue). m ∷ zs) (sym (with_none ms)) where
  with_none : (zs : List MarkValue) → joined zs [] ≡ zs
  with_none [] = refl
  with_none (z ∷ zs) = refl
joined_alone xs (y ∷ ys) m ms e none = absurd (omega arith)

-- there are at most as many of them as in the two lists
pub joined_count : (ms ns : List MarkValue) → AreMarks ms → AreMarks ns → (length (joined ms ns) ≡ source_count ms ns) × (length (joined ms ns) ≤ 131070)
joined_count ms ns a b = grind (arith, common_steps, nat_tests, joins, length-filter, count_by-le-length)

-- the same, of two lists that were read as slices
pub joins_read : (a b first second items : List MarkValue) → first ≡ a → second ≡ b → AreMarks a → AreMarks b → items ≡ joined first second → Joins first second items
joins_read a b first second items p q la lb made =
    let up = subst AreMarks (sym p) la in
    subst (Joins first second) (sym made) (joins first up.ascending up.positive second (subst AreMarks (sym q) lb).ascending)

-- where there are not too many, they are a list of marks
pub joined_marks : (a b first second items : List MarkValue) → first ≡ a → second ≡ b → AreMarks a → AreMarks b → items ≡ joined first second → source_count first second ≤ MAX_ENTRIES → AreMarks items
joined_marks a b first second items p q la lb made few =
    let j = joins_read a b first second items p q la lb made in
    let count = j.count in
    record { ascending = j.rises; positive = j.positive (subst AreMarks (sym p) la).positive (subst AreMarks (sym q) lb).positive; few = omega arith }

-- and they are the merge
pub is_merge : (a b first second items marks : List MarkValue) → first ≡ a → second ≡ b → AreMarks a → AreMarks b → items ≡ joined first second → marks ≡ items → AreMarks marks → IsMerge a b marks
is_merge a b first second items marks p q la lb made is lawful =
    let j = joins_read a b first second items p q la lb made in
    (lawful, λ s. ap (λ (ms : List MarkValue). mark_of ms s) is ∙ j.highs s ∙ ap (λ (ms : List MarkValue). max (mark_of ms s) (mark_of second s)) p ∙ ap (λ (ns : List MarkValue). max (mark_of a s) (mark_of ns s)) q)
