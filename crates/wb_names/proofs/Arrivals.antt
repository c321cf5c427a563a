-- One thread has one answer to arrivals: the outcome, the history after them, and the counts are functions.
use Rattle.std.proofs.lemmas.Grind.{common_steps}
use Rattle.std.proofs.Common.{◌≡◌, ◌≢◌, ℕ, suc, zero, ◌+◌, ◌<◌, Bool, true, false, List, [], ◌∷◌, length, get_or, refl, sym, ap, ◌∙◌, arith}
use Rattle.std.specs.Prelude.{Some, slice_get, nat_lt, if◌then◌else◌}
use Rattle.std.proofs.lemmas.Bool.{false_from_ne_true, ltb-true}
use Rattle.std.proofs.lemmas.Bool.Decides.{nat_tests}
use Rattle.std.proofs.lemmas.List.Quantifiers.{all_pairs_push}
use Rattle.std.proofs.lemmas.Option.{slice_get_within, get_or_from_slice_get, slice_get-get_or}
use Rattle.wb_names.specs.Values.{NameValue, DrawopValue}
use Rattle.wb_names.specs.Orders.{same_name}
use Rattle.wb_names.specs.Same.{same_drawop, same_drawop-Decides}
use Rattle.wb_names.specs.History.{IsHistory, HoldsName}
use Rattle.wb_names.specs.Arrivals.{Outcome, New, Again, Clash, Left, IsTaken, AreTaken, history_with, Counts, counts_of, IsBatch, outcome_from, outcome_of, outcomes_of, history_after}
use Rattle.wb_names.proofs.Orders.{same_name-here, same_name-is}

-- no member before place k has the name
abbrev NoneBefore : List DrawopValue → NameValue → ℕ → Type 0
NoneBefore h n k = (j : ℕ) (y : DrawopValue) → j < k → slice_get h j ≡ Some y → same_name y.name n ≡ false

later : (y : DrawopValue) (h : List DrawopValue) (n : NameValue) (k : ℕ) → NoneBefore (y ∷ h) n (suc k) → NoneBefore h n k
later y h n k none j z lt e = none (suc j) z (omega arith) e

-- a name that no member has is looked for up to the end
looked_past : (cells i : ℕ) (h : List DrawopValue) (d : DrawopValue) → NoneBefore h d.name (length h) → outcome_from cells i h d ≡ (if nat_lt (i + length h) cells then New (i + length h) else Left)
looked_past cells i [] d none = grind (arith, common_steps)
looked_past cells i (y ∷ h) d none =
    let e : i + 1 + length h ≡ i + length (y ∷ h) = omega arith in
    let other : same_name y.name d.name ≡ false = none 0 y (omega arith) refl in
    rw other (looked_past cells (i + 1) h d (later y h d.name (length h) none) ∙ ap (λ (k : ℕ). if nat_lt k cells then New k else Left) e)

-- the first member that has it is found
found : (cells i : ℕ) (h : List DrawopValue) (d : DrawopValue) (k : ℕ) (x : DrawopValue) → slice_get h k ≡ Some x → NoneBefore h d.name k → same_name x.name d.name ≡ true → outcome_from cells i h d ≡ (if same_drawop x d then Again (i + k) else Clash (i + k))
found cells i [] d k x e none same = cc
found cells i (y ∷ h) d zero x e none same = grind (arith, common_steps)
found cells i (y ∷ h) d (suc k) x e none same =
    let other : same_name y.name d.name ≡ false = none 0 y (omega arith) refl in
    let place : i + 1 + k ≡ i + suc k = omega arith in
    ap (λ (b : Bool). if b then (if same_drawop y d then Again i else Clash i) else outcome_from cells (i + 1) h d) other
    ∙ (found cells (i + 1) h d k x e (later y h d.name k none) same ∙ ap (λ (n : ℕ). if same_drawop x d then Again n else Clash n) place)

-- where no member has the name, none has before any place
none_held : (h : List DrawopValue) (n : NameValue) (k : ℕ) → (HoldsName h n → ⊥) → NoneBefore h n k
none_held h n k absent j y lt e = false_from_ne_true (same_name y.name n) (λ same. absent (j, y, slice_get_within h j y e, get_or_from_slice_get h j y y e, same_name-is y.name n same))

-- where a member has the name, none has before it
none_earlier : (h : List DrawopValue) (n : NameValue) (k : ℕ) (x : DrawopValue) → IsHistory h → slice_get h k ≡ Some x → x.name ≡ n → NoneBefore h n k
none_earlier h n k x once e named j y lt e' =
    false_from_ne_true (same_name y.name n) (λ same.
    once j k x lt (slice_get_within h k x e)
    (ap (λ (d : DrawopValue). d.name) (get_or_from_slice_get h j y x e') ∙ same_name-is y.name n same ∙ sym named ∙ sym (ap (λ (d : DrawopValue). d.name) (get_or_from_slice_get h k x x e))))

-- the one outcome of an arrival
pub outcome_is : (cells : ℕ) (h : List DrawopValue) (d : DrawopValue) (o : Outcome) → IsHistory h → IsTaken cells h d o → o ≡ outcome_of cells h d
outcome_is cells h d (New i) once t =
    let room : nat_lt (0 + length h) cells ≡ true = let lt = t.1 in grind (arith, nat_tests) in
    let place : 0 + length h ≡ i = omega (arith, t.0.0) in
    sym (looked_past cells 0 h d (none_held h d.name (length h) t.0.1) ∙ ap (λ (b : Bool). if b then New (0 + length h) else Left) room ∙ ap New place)
outcome_is cells h d (Again i) once t =
    let start : 0 + i ≡ i = omega arith in
    let same : same_drawop d d ≡ true = (same_drawop-Decides d d).1 refl in
    sym (found cells 0 h d i d t (none_earlier h d.name i d once t refl) (same_name-here d.name d.name refl) ∙ ap (λ (b : Bool). if b then Again (0 + i) else Clash (0 + i)) same ∙ ap Again start)
outcome_is cells h d (Clash i) once t =
    let e = t.0 in
    let start : 0 + i ≡ i = omega arith in
    let other : same_drawop e d ≡ false = false_from_ne_true (same_drawop e d) (λ same. t.3 ((same_drawop-Decides e d).0 same)) in
    sym (found cells 0 h d i e t.1 (none_earlier h d.name i e once t.1 t.2) (same_name-here e.name d.name t.2) ∙ ap (λ (b : Bool). if b then Again (0 + i) else Clash (0 + i)) other ∙ ap Clash start)
outcome_is cells h d Left once t =
    let full : nat_lt (0 + length h) cells ≡ false = let le = t.0 in grind (arith, nat_tests) in
    sym (looked_past cells 0 h d (none_held h d.name (length h) t.1) ∙ ap (λ (b : Bool). if b then New (0 + length h) else Left) full)

-- a history stays one
pub history_with-is : (cells : ℕ) (h : List DrawopValue) (d : DrawopValue) (o : Outcome) → IsHistory h → IsTaken cells h d o → IsHistory (history_with h d o)
history_with-is cells h d (New i) once t = all_pairs_push (λ (a b : DrawopValue). a.name ≢ b.name) h d once (λ k x lt same. t.0.1 (k, get_or h k x, lt, get_or_from_slice_get h k (get_or h k x) (get_or h k x) (slice_get-get_or h k x lt), same))
history_with-is cells h d (Again i) once t = once
history_with-is cells h d (Clash i) once t = once
history_with-is cells h d Left once t = once

-- the one answer to arrivals
pub record AreOne (cells : ℕ) (h ds : List DrawopValue) (os : List Outcome) (after : List DrawopValue) : Type 0 where
  pub outcomes : os ≡ outcomes_of cells h ds
  pub history : after ≡ history_after cells h ds

pub are_one : (cells : ℕ) (h ds : List DrawopValue) (os : List Outcome) (after : List DrawopValue) → IsHistory h → AreTaken cells h ds os after → AreOne cells h ds os after
are_one cells h [] [] after once t = record { outcomes = refl; history = t }
are_one cells h [] (o ∷ os) after once t = absurd t
are_one cells h (d ∷ ds) [] after once t = absurd t
are_one cells h (d ∷ ds) (o ∷ os) after once t =
    let here = outcome_is cells h d o once t.0 in
    let rest = are_one cells (history_with h d o) ds os after (history_with-is cells h d o once t.0) t.1 in
    record {
      outcomes = ap (λ (p : Outcome). p ∷ os) here ∙ ap (λ (ps : List Outcome). outcome_of cells h d ∷ ps) (rest.outcomes ∙ ap (λ (p : Outcome). outcomes_of cells (history_with h d p) ds) here);
      history = rest.history ∙ ap (λ (p : Outcome). history_after cells (history_with h d p) ds) here;
    }

pub batch_is : (cells : ℕ) (h ds after : List DrawopValue) (n : Counts) → IsHistory h → IsBatch cells h ds after n → (after ≡ history_after cells h ds) × (n ≡ counts_of (outcomes_of cells h ds))
batch_is cells h ds after n once b = grind (arith, common_steps, are_one)

-- a drawop that is new has a cell
pub new_has_room : (cells i : ℕ) (h : List DrawopValue) (d : DrawopValue) (k : ℕ) → outcome_from cells i h d ≡ New k → i + length h < cells
new_has_room cells i [] d k e = from (nat_lt i cells) refl e where
  from : (b : Bool) → nat_lt i cells ≡ b → (if b then New i else Left) ≡ New k → i + 0 < cells
  from true f g = let lt = ltb-true i cells f in omega arith
  from false f g = cc
new_has_room cells i (x ∷ h) d k e = from (new_has_room cells (i + 1) h d k) (same_name x.name d.name) (same_drawop x d) e where
  from : (outcome_from cells (i + 1) h d ≡ New k → i + 1 + length h < cells) → (b c : Bool) → (if b then (if c then Again i else Clash i) else outcome_from cells (i + 1) h d) ≡ New k → i + length (x ∷ h) < cells
  from rest true true g = cc
  from rest true false g = cc
  from rest false c g = let lt = rest g in omega arith
