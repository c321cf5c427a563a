-- The greatest number of a source on a page, as a list grows, and in a list of two parts.
use Rattle.std.proofs.Common.{◌≡◌, ℕ, ◌+◌, ◌-◌, ◌<◌, cond, List, [], ◌∷◌, ◌++◌, length, get_or, take, drop, ap, ◌∙◌, sym, arith}
use Rattle.std.specs.Prelude.{max}
use Rattle.std.proofs.lemmas.List.{length-drop, take_more, take-append-drop}
use Rattle.std.proofs.Math.Seq.{take-length}
use Rattle.wb_names.specs.Values.{DrawopValue}
use Rattle.wb_names.specs.History.{is_of, highest}
use Rattle.wb_names.specs.declared.name.PageId.{PageId}

-- of two parts, the greater one
highest_both : (page : PageId) (source : ℕ) (xs ys : List DrawopValue) → highest page source (xs ++ ys) ≡ max (highest page source xs) (highest page source ys)
highest_both page source [] ys = omega arith
highest_both page source (x ∷ xs) ys = let e = highest_both page source xs ys in omega arith

-- one drawop more
pub highest_more : (page : PageId) (source : ℕ) (history : List DrawopValue) (i : ℕ) (d : DrawopValue) → i < length history → d ≡ get_or history i d → highest page source (take (i + 1) history) ≡ max (cond (is_of page source d) d.name.seq 0) (highest page source (take i history))
highest_more page source history i d lt is =
    let both = ap (highest page source) (take_more history i d lt ∙ sym (ap (λ (x : DrawopValue). take i history ++ x ∷ []) is)) ∙ highest_both page source (take i history) (d ∷ []) in
    omega (arith, both)

-- a beginning of a list, and the rest of it as a slice has it
pub highest_split : (page : PageId) (source : ℕ) (history : List DrawopValue) (i : ℕ) → max (highest page source (take i history)) (highest page source (take (length history - i) (drop i history))) ≡ highest page source history
highest_split page source history i =
    let rest : take (length history - i) (drop i history) ≡ drop i history = ap (λ (n : ℕ). take n (drop i history)) (sym (length-drop i history)) ∙ take-length (drop i history) in
    ap (λ (ds : List DrawopValue). max (highest page source (take i history)) (highest page source ds)) rest
    ∙ sym (highest_both page source (take i history) (drop i history)) ∙ ap (highest page source) (take-append-drop i history)
