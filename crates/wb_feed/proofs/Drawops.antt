-- Drawops of a history, and names that stand nowhere in it.
use Rattle.std.proofs.Common.{◌≡◌, ℕ, ◌+◌, ◌<◌, List, [], ◌∷◌, ◌++◌, length, map, get_or, Some, slice_get, refl, ap, ap₂, sym, ◌∙◌, arith, append_assoc, length-append}
use Rattle.std.specs.List.{range_with_len}
use Rattle.std.proofs.Math.Seq.{get_or-append_seam}
use Rattle.std.proofs.lemmas.List.{get_or_append_left}
use Rattle.std.proofs.lemmas.Option.{get_or_from_slice_get, slice_get_within}
use Rattle.wb_names.specs.Values.{DrawopValue}
use Rattle.wb_names.specs.History.{IsHistory, HoldsName}
use Rattle.wb_names.specs.declared.parts.Change.TheVariants.{Delete}
use Rattle.wb_names.specs.declared.parts.Op.TheVariants.{Aimed}

-- some drawop, which stands for what is at no place
abbrev pub nothing : DrawopValue
nothing = record { name = record { source = 0; page = record { creator = 0; number = 0 }; seq = 0 }; time = 0; op = Aimed Delete (record { source = 0; seq = 0 }) }

-- the places from n on, and what stands at them
pub map_range : (a r : List DrawopValue) (n : ℕ) → n ≡ length a → map (λ i. get_or (a ++ r) i nothing) (range_with_len n (length r)) ≡ r
map_range a [] n e = refl
map_range a (x ∷ r) n e =
    let b : List DrawopValue = a ++ x ∷ [] in
    let here : get_or (a ++ x ∷ r) n nothing ≡ x = rw e (get_or-append_seam a x r nothing) in
    let more : n + 1 ≡ length b = omega (arith, e, length-append a (x ∷ [])) in
    let same' : b ++ r ≡ a ++ x ∷ r = append_assoc a (x ∷ []) r in
    let rest : map (λ i. get_or (a ++ x ∷ r) i nothing) (range_with_len (n + 1) (length r)) ≡ r =
    ap (λ l. map (λ i. get_or l i nothing) (range_with_len (n + 1) (length r))) (sym same') ∙ map_range b r (n + 1) more in
    ap₂ (λ y ys. y ∷ ys) here rest

-- the name of a drawop of the history is held
pub at_named : (h : List DrawopValue) (i : ℕ) (e d : DrawopValue) → slice_get h i ≡ Some e → e.name ≡ d.name → HoldsName h d.name
at_named h i e d at same = (i, e, slice_get_within h i e at, get_or_from_slice_get h i e e at, same)

-- in a history the name of a drawop does not stand before it
pub history_mid : (a r : List DrawopValue) (d : DrawopValue) → IsHistory (a ++ d ∷ r) → HoldsName a d.name → ⊥
history_mid a r d once (k, x, lt, at, same) =
    let here : get_or (a ++ d ∷ r) k x ≡ x = get_or_append_left a (d ∷ r) x k lt ∙ at in
    let there : get_or (a ++ d ∷ r) (length a) x ≡ d = get_or-append_seam a d r x in
    let long : length a < length (a ++ d ∷ r) = omega (arith, length-append a (d ∷ r)) in
    once k (length a) x lt long (ap (λ (y : DrawopValue). y.name) here ∙ same ∙ sym (ap (λ (y : DrawopValue). y.name) there))
