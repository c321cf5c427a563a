-- Arrivals that do not clash lead to the same drawops in every order, where there are cells for their names, and are counted the same.
use Rattle.std.proofs.Common.{◌≡◌, ℕ, ◌+◌, List, [], ◌∷◌, ◌++◌, length, refl, sym, ap, ◌∙◌, subst, arith, append_assoc, ⊎_elim, Contains, Some, IsPermutation, length-append}
use Rattle.std.proofs.lemmas.List.Elements.{Contains-append_left, Contains-append_cases, Contains-push_cases}
use Rattle.std.proofs.lemmas.List.Sorted.{IsPermutation-refl, Contains-permutation, length_permutation}
use Rattle.std.proofs.lemmas.Option.{slice_get-get_or}
use Rattle.wb_names.specs.Values.{DrawopValue}
use Rattle.wb_names.specs.History.{IsHistory, HoldsName}
use Rattle.wb_names.specs.Arrivals.{Outcome, New, Again, history_with, Counts, counts, counted, counts_of, outcome_of, outcomes_of, history_after}
use Rattle.wb_names.proofs.Arrivals.{outcome_is, history_with-is}
use Rattle.wb_names.proofs.Listings.{Contains-here, Contains-there, Contains-none}
use Rattle.wb_keeper.proofs.KeptCalls.{holds_or_not}
use Rattle.wb_script.specs.Laws.{NoneClash, HasCells, BatchesAreOne, ArrivalsAreFree}
use Rattle.wb_script.proofs.BatchLaws.{counts_add_up, held_stays}
use Rattle.wb_script.proofs.Members.{Among, rearranged, among_both, same_members}

pub batches_are_one : BatchesAreOne
batches_are_one cells held [] more = refl
batches_are_one cells held (d ∷ some) more = batches_are_one cells (history_with held d (outcome_of cells held d)) some more

-- each name stands once in either, and the one is the other in some order
pub record AreAlike (one other : List DrawopValue) : Type 0 where
  pub once : IsHistory one
  pub again : IsHistory other
  pub moved : IsPermutation one other

-- ---- one arrival

-- It is neither a clash nor left.
abbrev IsKept : Counts → Outcome → Type 0
IsKept n o = ((counted o n).clash ≡ n.clash) × ((counted o n).left ≡ n.left)

record Stepped (h : List DrawopValue) (d : DrawopValue) (o : Outcome) : Type 0 where
  once : IsHistory (history_with h d o)
  up : Among (history_with h d o) (h ++ d ∷ [])
  down : Among (h ++ d ∷ []) (history_with h d o)
  kept : (n : Counts) → IsKept n o

-- ---- arrivals one after another

-- What is held then is what was held and what came, and nothing is lost.
pub record Walked (h ds after : List DrawopValue) (n : Counts) : Type 0 where
  pub once : IsHistory after
  pub up : Among after (h ++ ds)
  pub down : Among (h ++ ds) after
  pub clash : n.clash ≡ 0
  pub left : n.left ≡ 0

module _ (cells : ℕ) (all : List DrawopValue) (clash : NoneClash all) (room : HasCells cells all) where
  pushed_within : (h : List DrawopValue) (d : DrawopValue) → Among h all → Contains all d → Among (h ++ d ∷ []) all
  pushed_within h d within here x c = ⊎_elim (λ (a : Contains h x). within x a) (λ (e : d ≡ x). subst (Contains all) e here) (Contains-push_cases h d x c)

  -- a name that is held is known again
  known_step : (h : List DrawopValue) (d : DrawopValue) → IsHistory h → Among h all → Contains all d → HoldsName h d.name → Stepped h d (outcome_of cells h d)
  known_step h d once within here held =
      let same : held.1 ≡ d = clash held.1 d (within held.1 (held.0, held.2, held.3)) here held.4 in
      subst (Stepped h d) (outcome_is cells h d (Again held.0) once (slice_get-get_or h held.0 held.1 held.2 ∙ ap (λ (w : DrawopValue). Some w) (held.3 ∙ same)))
      (record {
        once = once;
        up = λ x c. Contains-append_left h (d ∷ []) x c;
        down = λ x c. ⊎_elim (λ (a : Contains h x). a) (λ (e : d ≡ x). subst (Contains h) (same ∙ e) (held.0, held.2, held.3)) (Contains-push_cases h d x c);
        kept = λ n. (refl, refl);
      })

  -- and another is fresh
  fresh_step : (h : List DrawopValue) (d : DrawopValue) → IsHistory h → Among h all → Contains all d → (HoldsName h d.name → ⊥) → Stepped h d (outcome_of cells h d)
  fresh_step h d once within here absent =
      let longer : IsHistory (h ++ d ∷ []) = history_with-is (length h + 1) h d (New (length h)) once ((refl, absent), omega arith) in
      let fits = room (h ++ d ∷ []) longer (pushed_within h d within here) in
      let long : length (h ++ d ∷ []) ≡ length h + 1 = length-append h (d ∷ []) in
      subst (Stepped h d) (outcome_is cells h d (New (length h)) once ((refl, absent), omega (arith, fits, long)))
      (record { once = longer; up = λ x c. c; down = λ x c. c; kept = λ n. (refl, refl) })

  step : (h : List DrawopValue) (d : DrawopValue) → IsHistory h → Among h all → Contains all d → Stepped h d (outcome_of cells h d)
  step h d once within here = ⊎_elim (λ (held : HoldsName h d.name). known_step h d once within here held) (λ (absent : HoldsName h d.name → ⊥). fresh_step h d once within here absent) (holds_or_not h d.name)

  pub walk : (h ds : List DrawopValue) → IsHistory h → Among h all → Among ds all → Walked h ds (history_after cells h ds) (counts_of (outcomes_of cells h ds))
  walk h [] once within here = record {
    once = once;
    up = λ x c. Contains-append_left h [] x c;
    down = λ x c. ⊎_elim (λ (a : Contains h x). a) (λ (a : Contains [] x). absurd (Contains-none x a)) (Contains-append_cases h [] x c);
    clash = refl;
    left = refl;
  }
  walk h (d ∷ ds) once within here =
      let o : Outcome = outcome_of cells h d in
      let g : List DrawopValue = history_with h d o in
      let at = here d (Contains-here d ds) in
      let s = step h d once within at in
      let rest = walk g ds s.once (λ x c. pushed_within h d within at x (s.up x c)) (λ x c. here x (Contains-there d x ds c)) in
      let one = s.kept (counts_of (outcomes_of cells g ds)) in
      let same : (h ++ d ∷ []) ++ ds ≡ h ++ d ∷ ds = append_assoc h (d ∷ []) ds in
      record {
        once = rest.once;
        up = λ x c. subst (λ (l : List DrawopValue). Contains l x) same (among_both g (h ++ d ∷ []) ds ds s.up (λ y a. a) x (rest.up x c));
        down = λ x c. rest.down x (among_both (h ++ d ∷ []) g ds ds s.down (λ y a. a) x (subst (λ (l : List DrawopValue). Contains l x) (sym same) c));
        clash = one.0 ∙ rest.clash;
        left = one.1 ∙ rest.left;
      }

-- ---- two orders

-- on boards with as many cells, or not
held_alike : (h g ds es after other : List DrawopValue) (m n : Counts) → IsPermutation h g → IsPermutation ds es → Walked h ds after m → Walked g es other n → AreAlike after other
held_alike h g ds es after other m n held moved a b = record {
  once = a.once;
  again = b.once;
  moved = same_members after other a.once b.once
      (λ x c. b.down x (among_both h g ds es (λ y d. Contains-permutation h g y held d) (λ y d. Contains-permutation ds es y moved d) x (a.up x c)))
      (λ x c. a.down x (among_both g h es ds (rearranged h g held) (rearranged ds es moved) x (b.up x c)));
}

same_counts : (m n : Counts) → m.fresh ≡ n.fresh → m.again ≡ n.again → m.clash ≡ n.clash → m.left ≡ n.left → m ≡ n
same_counts m n fresh again clash left =
    ap (λ (x : ℕ). counts x m.again m.clash m.left) fresh ∙ ap (λ (x : ℕ). counts n.fresh x m.clash m.left) again
    ∙ ap (λ (x : ℕ). counts n.fresh n.again x m.left) clash ∙ ap (λ (x : ℕ). counts n.fresh n.again n.clash x) left

module _ (cells : ℕ) (all : List DrawopValue) (clash : NoneClash all) (room : HasCells cells all) (h g ds es : List DrawopValue) (a : AreAlike h g) (within : Among h all) (here : Among ds all) (moved : IsPermutation ds es) where
  one : Walked h ds (history_after cells h ds) (counts_of (outcomes_of cells h ds))
  one = walk cells all clash room h ds a.once within here

  other : Walked g es (history_after cells g es) (counts_of (outcomes_of cells g es))
  other = walk cells all clash room g es a.again (λ x c. within x (rearranged h g a.moved x c)) (λ x c. here x (rearranged ds es moved x c))

  -- the same is held
  pub after_alike : AreAlike (history_after cells h ds) (history_after cells g es)
  after_alike = held_alike h g ds es (history_after cells h ds) (history_after cells g es) (counts_of (outcomes_of cells h ds)) (counts_of (outcomes_of cells g es)) a.moved moved one other

  pub after_within : Among (history_after cells h ds) all
  after_within x c = ⊎_elim (λ (e : Contains h x). within x e) (λ (e : Contains ds x). here x e) (Contains-append_cases h ds x (one.up x c))

  -- and counted: what is fresh is what there is more of then
  pub counts_alike : counts_of (outcomes_of cells h ds) ≡ counts_of (outcomes_of cells g es)
  counts_alike =
      let m : Counts = counts_of (outcomes_of cells h ds) in
      let n : Counts = counts_of (outcomes_of cells g es) in
      let new = held_stays cells h ds in
      let new' = held_stays cells g es in
      let long : length (history_after cells h ds) ≡ length h + length new.0 = ap (λ (l : List DrawopValue). length l) new.1 ∙ length-append h new.0 in
      let long' : length (history_after cells g es) ≡ length g + length new'.0 = ap (λ (l : List DrawopValue). length l) new'.1 ∙ length-append g new'.0 in
      let after = length_permutation (history_after cells h ds) (history_after cells g es) after_alike.moved in
      let before = length_permutation h g a.moved in
      let batch = length_permutation ds es moved in
      let fresh : m.fresh ≡ n.fresh = omega (arith, long, long', after, before, new.2, new'.2) in
      same_counts m n fresh (omega (arith, fresh, one.clash, one.left, other.clash, other.left, counts_add_up cells h ds, counts_add_up cells g es, batch)) (one.clash ∙ sym other.clash) (one.left ∙ sym other.left)

-- ---- on an empty board

pub no_history : IsHistory []
no_history i j d ij lt = absurd (omega arith)

pub none_among : (all : List DrawopValue) → Among [] all
none_among all x c = absurd (Contains-none x c)

-- also on boards with other numbers of cells
pub free_on : (cells others : ℕ) (ds es : List DrawopValue) → IsPermutation ds es → NoneClash ds → HasCells cells ds → HasCells others ds → AreAlike (history_after cells [] ds) (history_after others [] es)
free_on cells others ds es moved clash room space =
    held_alike [] [] ds es (history_after cells [] ds) (history_after others [] es) (counts_of (outcomes_of cells [] ds)) (counts_of (outcomes_of others [] es)) (IsPermutation-refl []) moved
    (walk cells ds clash room [] ds no_history (none_among ds) (λ x c. c)) (walk others ds clash space [] es no_history (none_among ds) (rearranged ds es moved))

pub arrivals_are_free : ArrivalsAreFree
arrivals_are_free cells ds es moved clash room = (free_on cells cells ds es moved clash room room).moved
