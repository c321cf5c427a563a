-- What a report says of a board is in range if its drawops are.
use Rattle.std.proofs.Common.{◌≡◌, ◌<◌, ◌^◌, ℕ, Bool, true, false, max, List, [], ◌∷◌, refl, sym, subst, arith, ◌⊎◌, inl, inr, ⊎_elim, ltb-true, eqb-true}
use Rattle.std.specs.Prelude.{All, IsTrue, map, nat_eq, nat_lt, if◌then◌else◌}
use Rattle.std.proofs.lemmas.List.Elements.{All-head, All-tail}
use Rattle.wb_names.specs.Values.{DrawopValue, MarkValue}
use Rattle.wb_names.specs.History.{is_of, highest}
use Rattle.wb_names.specs.Orders.{same_page}
use Rattle.wb_names.specs.declared.name.PageId.{PageId}
use Rattle.wb_names.proofs.Listings.{Contains-from_filter, Any-from_map}
use Rattle.wb_names.proofs.Orders.{and_both}
use Rattle.wb_codec.specs.Ranges.{IsDrawop, IsMark}
use Rattle.wb_gaps.specs.Answers.{report_of, sources_of, top_mark}
use Rattle.wb_laws_sessions.proofs.CallActs.{all_from}

-- ---- one number of a source

-- it is 0, or it and the source are in range
abbrev IsSmall : ℕ → ℕ → Type 0
IsSmall source n = (n ≡ 0) ⊎ ((source < 2 ^ 32) × (n < 2 ^ 32))

small_max : (source a b : ℕ) → IsSmall source a → IsSmall source b → IsSmall source (max a b)
small_max source a b p q = ⊎_elim
    (λ (z : a ≡ 0). ⊎_elim
    (λ (y : b ≡ 0). inl (omega arith))
    (λ (f : (source < 2 ^ 32) × (b < 2 ^ 32)). let lt = f.1 in inr (f.0, omega arith))
    q)
    (λ (f : (source < 2 ^ 32) × (a < 2 ^ 32)). let lt = f.1 in ⊎_elim
    (λ (y : b ≡ 0). inr (f.0, omega arith))
    (λ (g : (source < 2 ^ 32) × (b < 2 ^ 32)). let less = g.1 in inr (f.0, omega arith))
    q)
    p

seq_small : (d : DrawopValue) → IsDrawop d → (page : PageId) (source : ℕ) (b : Bool) → is_of page source d ≡ b → IsSmall source (if b then d.name.seq else 0)
seq_small d fit page source false e = inl refl
seq_small d fit page source true e =
    let same : d.name.source ≡ source = eqb-true d.name.source source (and_both (same_page d.name.page page) (nat_eq d.name.source source) e).1 in
    inr (subst (λ (n : ℕ). n < 2 ^ 32) same fit.name.source, fit.name.seq)

highest_small : (held : List DrawopValue) → All IsDrawop held → (page : PageId) (source : ℕ) → IsSmall source (highest page source held)
highest_small [] fit page source = inl refl
highest_small (d ∷ held) fit page source = small_max source (if is_of page source d then d.name.seq else 0) (highest page source held)
    (seq_small d (All-head IsDrawop d held fit) page source (is_of page source d) refl)
    (highest_small held (All-tail IsDrawop d held fit) page source)

-- ---- reports

mark_fits : (source n : ℕ) → 0 < n → IsSmall source n → IsMark (record { source = source; high = n })
mark_fits source n pos small = ⊎_elim
    (λ (z : n ≡ 0). absurd (omega arith))
    (λ (f : (source < 2 ^ 32) × (n < 2 ^ 32)). record { source = f.0; high = f.1 })
    small

pub marks_fit : (held : List DrawopValue) → All IsDrawop held → (page : PageId) → All IsMark (report_of held page)
unfolding report_of
marks_fit held fit page = all_from IsMark (report_of held page) (λ m c.
    let kept = Contains-from_filter (λ (k : MarkValue). nat_lt 0 k.high) (map (top_mark held page) (sources_of held page)) m c in
    let a = Any-from_map (top_mark held page) (sources_of held page) m kept.0 in
    subst IsMark a.4 (mark_fits a.1 (highest page a.1 held) (ltb-true 0 (highest page a.1 held) (subst (λ (k : MarkValue). IsTrue (nat_lt 0 k.high)) (sym a.4) kept.1)) (highest_small held fit page a.1)))
