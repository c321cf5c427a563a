-- Lists of marks that ascend by source, and their look-ups, which tell them.
use Rattle.std.proofs.lemmas.Grind.{common_steps}
use Rattle.std.proofs.Common.{◌≡◌, ℕ, suc, ◌<◌, ◌≤◌, List, [], ◌∷◌, refl, ◌∙◌, sym, arith, ⊎_elim}
use Rattle.std.specs.Prelude.{◌≢◌, All, AllPairs}
use Rattle.std.proofs.lemmas.Bool.{cases_lt}
use Rattle.std.proofs.lemmas.Bool.Decides.{nat_tests}
use Rattle.std.proofs.lemmas.List.Elements.{All-head, All-tail, All-weaker}
use Rattle.wb_names.specs.Values.{MarkValue}
use Rattle.wb_names.specs.Ascending.{AreMarks}
use Rattle.wb_names.specs.Marks.{mark_of}

abbrev pub Above : ℕ → List MarkValue → Type 0
Above b marks = All (λ m. b < m.source) marks

abbrev pub Rises : List MarkValue → Type 0
Rises marks = AllPairs (λ m n. m.source < n.source) marks

abbrev pub Positive : List MarkValue → Type 0
Positive marks = All (λ m. 1 ≤ m.high) marks

pub rest_above : (m : MarkValue) (marks : List MarkValue) → Rises (m ∷ marks) → Above m.source marks
rest_above m marks up k d h = up 0 (suc k) d (omega arith) (omega arith)

pub rest_rises : (m : MarkValue) (marks : List MarkValue) → Rises (m ∷ marks) → Rises marks
rest_rises m marks up i j d ij h = up (suc i) (suc j) d (omega arith) (omega arith)

pub here : (m : MarkValue) (marks : List MarkValue) (s : ℕ) → m.source ≡ s → mark_of (m ∷ marks) s ≡ m.high
here m marks s e = grind (arith, nat_tests)

pub there : (m : MarkValue) (marks : List MarkValue) (s : ℕ) → m.source ≢ s → mark_of (m ∷ marks) s ≡ mark_of marks s
there m marks s n = grind (arith, nat_tests)

-- at a source below all marks there is none
pub none_above : (marks : List MarkValue) (s : ℕ) → Above s marks → mark_of marks s ≡ 0
none_above [] s above = refl
none_above (m ∷ marks) s above = grind (arith, common_steps, All-head, there, All-tail, none_above marks s (All-tail (λ (m : MarkValue). s < m.source) m marks above))

pub above_less : (a b : ℕ) (marks : List MarkValue) → a ≤ b → Above b marks → Above a marks
above_less a b marks le above = grind (arith, common_steps, All-weaker)

abbrev High : MarkValue → Type 0
High m = 1 ≤ m.high

mark_parts : (a b h k : ℕ) → a ≡ b → h ≡ k → let m : MarkValue = record { source = a; high = h } in let n : MarkValue = record { source = b; high = k } in m ≡ n
mark_parts a b h k e f = cc

-- a list that begins above the first mark of another lacks that mark
lacks : (m n : MarkValue) (ms ns : List MarkValue) → Rises (n ∷ ns) → 1 ≤ m.high → m.source < n.source → mark_of (m ∷ ms) m.source ≢ mark_of (n ∷ ns) m.source
lacks m n ms ns up pos lt e =
    let a = here m ms m.source refl in
    let b = there n ns m.source (omega arith) in
    let c = none_above ns m.source (above_less m.source n.source ns (omega arith) (rest_above n ns up)) in
    omega arith

-- ascending lists with the same look-ups are the same
pub same_marks : (ms ns : List MarkValue) → Rises ms → Rises ns → Positive ms → Positive ns → ((s : ℕ) → mark_of ms s ≡ mark_of ns s) → ms ≡ ns
same_marks [] [] um un pm pn e = refl
same_marks [] (n ∷ ns) um un pm pn e = let p = All-head High n ns pn in let a = e n.source in let b = here n ns n.source refl in absurd (omega arith)
same_marks (m ∷ ms) [] um un pm pn e = let p = All-head High m ms pm in let a = e m.source in let b = here m ms m.source refl in absurd (omega arith)
same_marks (m ∷ ms) (n ∷ ns) um un pm pn e =
    let p = All-head High m ms pm in
    let q = All-head High n ns pn in
    let le : n.source ≤ m.source = ⊎_elim (λ (lt : m.source < n.source). absurd (lacks m n ms ns un p lt (e m.source))) (λ (h : n.source ≤ m.source). h) (cases_lt m.source n.source) in
    let ge : m.source ≤ n.source = ⊎_elim (λ (lt : n.source < m.source). absurd (lacks n m ns ms um q lt (sym (e n.source)))) (λ (h : m.source ≤ n.source). h) (cases_lt n.source m.source) in
    let s : m.source ≡ n.source = omega arith in
    let h : m.high ≡ n.high = sym (here m ms n.source s) ∙ e n.source ∙ here n ns n.source refl in
    let first : m ≡ n = mark_parts _ _ _ _ s h in
    let rest : ms ≡ ns = same_marks ms ns (rest_rises m ms um) (rest_rises n ns un) (All-tail High m ms pm) (All-tail High n ns pn) (λ t. ⊎_elim
    (λ (lt : m.source < t). sym (there m ms t (omega arith)) ∙ e t ∙ there n ns t (omega arith))
    (λ (low : t ≤ m.source). none_above ms t (above_less t m.source ms low (rest_above m ms um)) ∙ sym (none_above ns t (above_less t n.source ns (omega arith) (rest_above n ns un))))
    (cases_lt m.source t)) in
    cc

-- lists of marks with the same look-ups are the same
pub one_marks : (ms ns : List MarkValue) → AreMarks ms → AreMarks ns → ((s : ℕ) → mark_of ms s ≡ mark_of ns s) → ms ≡ ns
one_marks ms ns a b e = same_marks ms ns a.ascending b.ascending a.positive b.positive e
