-- Lists with the same members.
use Rattle.std.proofs.Common.{◌≡◌, ◌≢◌, ℕ, suc, ◌+◌, ◌<◌, ◌≤◌, List, [], ◌∷◌, ◌++◌, length, get_or, sym, ap, ◌∙◌, subst, arith, ⊎_elim, Contains, IsPermutation, remove}
use Rattle.std.specs.Cmp.{IsTotalOrder}
use Rattle.std.specs.declared.cmp.Ordering.{Ordering}
use Rattle.std.specs.declared.cmp.Ordering.TheVariants.{Equal}
use Rattle.std.proofs.lemmas.Bool.{cases_lt}
use Rattle.std.proofs.lemmas.List.Edits.{get_or-remove_below, get_or-remove_above, length-remove}
use Rattle.std.proofs.lemmas.List.Elements.{Contains-append_left, Contains-append_right, Contains-append_cases}
use Rattle.std.proofs.lemmas.List.Quantifiers.{all_pairs_remove}
use Rattle.std.proofs.lemmas.List.Sorted.{IsPermutation-refl, IsPermutation-sym, IsPermutation-cons, IsPermutation-trans, IsPermutation-remove, Contains-permutation}
use Rattle.wb_names.specs.Values.{DrawopValue}
use Rattle.wb_names.specs.History.{IsHistory}
use Rattle.wb_names.proofs.Listings.{Contains-here, Contains-there, Contains-cases, Contains-none, same_sorted}
use Rattle.wb_gaps.specs.Sorting.{sorted}
use Rattle.wb_gaps.proofs.Sorting.{sorted_rises, Contains-from_sorted, Contains-sorted}
use Rattle.wb_keeper.proofs.FoundDrawops.{tail_history}

-- each member of the one is a member of the other
abbrev pub Among : {X : Type 0} → List X → List X → Type 0
Among {X} xs ys = (x : X) → Contains xs x → Contains ys x

pub rearranged : {X : Type 0} → (xs ys : List X) → IsPermutation xs ys → Among ys xs
rearranged xs ys moved x c = Contains-permutation ys xs x (IsPermutation-sym xs ys moved) c

pub among_both : {X : Type 0} → (xs ys us vs : List X) → Among xs ys → Among us vs → Among (xs ++ us) (ys ++ vs)
among_both {X} xs ys us vs a b x c = ⊎_elim (λ (d : Contains xs x). Contains-append_left ys vs x (a x d)) (λ (d : Contains us x). Contains-append_right ys vs x (b x d)) (Contains-append_cases xs us x c)

-- Sorted they are one list.
pub same_ascending : {X : Type 0} {R : X → X → Ordering} → IsTotalOrder R → ((x y : X) → R x y ≡ Equal → x ≡ y) → (xs ys : List X) → Among xs ys → Among ys xs → sorted R xs ≡ sorted R ys
same_ascending {X} {R} total one xs ys up down =
    same_sorted total (sorted R xs) (sorted R ys) (sorted_rises total xs) (sorted_rises total ys)
    (λ z c. Contains-sorted total ys (λ x y _ _ tie. one x y tie) z (up z (Contains-from_sorted R xs z c)))
    (λ z c. Contains-sorted total xs (λ x y _ _ tie. one x y tie) z (down z (Contains-from_sorted R ys z c)))

-- ---- histories

head_apart : (a x : DrawopValue) (ms : List DrawopValue) → IsHistory (a ∷ ms) → Contains ms x → a ≡ x → ⊥
head_apart a x ms h (k, lt, is) same = h 0 (suc k) x (omega arith) (omega arith) (ap (λ (d : DrawopValue). d.name) (same ∙ sym is))

-- what is left without a member has it no more
gone : (a x : DrawopValue) (bs : List DrawopValue) (k : ℕ) → k < length bs → get_or bs k a ≡ a → IsHistory bs → Contains (remove bs k) x → a ≡ x → ⊥
gone a x bs k lt is h (i, within, at) same =
    let here : get_or bs k x ≡ x = subst (λ (v : DrawopValue). get_or bs k v ≡ v) same is in
    let long = length-remove bs k lt in
    ⊎_elim
    (λ (below : i < k). h i k x below lt (ap (λ (d : DrawopValue). d.name) (sym (get_or-remove_below bs k x i below lt) ∙ at ∙ sym here)))
    (λ (above : k ≤ i). h k (i + 1) x (omega arith) (omega arith) (ap (λ (d : DrawopValue). d.name) (here ∙ sym at ∙ get_or-remove_above bs k x i above lt)))
    (cases_lt i k)

-- The one is the other in some order.
pub same_members : (ms bs : List DrawopValue) → IsHistory ms → IsHistory bs → Among ms bs → Among bs ms → IsPermutation ms bs
same_members [] [] ha hb up down = IsPermutation-refl []
same_members [] (b ∷ bs) ha hb up down = absurd (Contains-none b (down b (Contains-here b bs)))
same_members (a ∷ ms) bs ha hb up down =
    let place = up a (Contains-here a ms) in
    let k : ℕ = place.0 in
    let rest : List DrawopValue = remove bs k in
    let moved : IsPermutation bs (a ∷ rest) = IsPermutation-remove bs k a place.1 (sym place.2) in
    let others : IsPermutation ms rest = same_members ms rest (tail_history a ms ha) (all_pairs_remove (λ (d e : DrawopValue). d.name ≢ e.name) bs k place.1 hb)
    (λ x c. ⊎_elim (λ (e : a ≡ x). absurd (head_apart a x ms ha c e)) (λ (r : Contains rest x). r) (Contains-cases a x rest (Contains-permutation bs (a ∷ rest) x moved (up x (Contains-there a x ms c)))))
    (λ x c. ⊎_elim (λ (e : a ≡ x). absurd (gone a x bs k place.1 place.2 hb c e)) (λ (r : Contains ms x). r) (Contains-cases a x ms (down x (rearranged bs (a ∷ rest) moved x (Contains-there a x rest c))))) in
    IsPermutation-trans (a ∷ ms) (a ∷ rest) bs (IsPermutation-cons a ms rest others) (IsPermutation-sym bs (a ∷ rest) moved)
