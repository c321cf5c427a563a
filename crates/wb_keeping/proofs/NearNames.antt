-- The names near one, if they are left out because all of them are held.
use Rattle.std.proofs.Common.{◌≡◌, ℕ, ◌≤◌, Bool, true, false, cond, List, [], ◌∷◌, ◌∙◌, ap, arith, refl, sym, ⊎_elim}
use Rattle.std.specs.Prelude.{◌||◌, All, not}
use Rattle.std.proofs.lemmas.List.Elements.{All-head, All-tail}
use Rattle.wb_names.specs.History.{IsHeld, highest}
use Rattle.wb_names.specs.Values.{NameValue}
use Rattle.wb_gaps.specs.Greatest.{IsWholeFrom}
use Rattle.wb_gaps.proofs.HeldNames.{held-from}
use Rattle.wb_policy.specs.Choices.{near_names}
use Rattle.wb_policy.proofs.NearNumbers.{each_near}
use Rattle.wb_keeping.specs.Kept.{Line, and_then, is_begun, still, want, want_near}
use Rattle.wb_policy.specs.Policy.{Policy}
use Rattle.wb_keeping.specs.Steps.{AreNear, lowest_near}
use Rattle.wb_keeping.specs.Views.{View, holds, is_asked}

-- if nothing is missing from the least number near one, all names near it are held
pub near_held : (v : View) (name : NameValue) (from : ℕ) → IsWholeFrom (IsHeld v.held name.page name.source) (highest name.page name.source v.held) from
    → from ≤ lowest_near name → All (λ n. holds v n ≡ true) (near_names name (highest name.page name.source v.held))
near_held v name from whole le =
    each_near (λ n. holds v n ≡ true) name (highest name.page name.source v.held)
    (λ m near. let counted = near.counted in let below = near.below in let above = near.above in
    held-from v.held name.page name.source m (whole.whole m counted (omega (arith, le, counted, above)) (omega (arith, below))))

-- and then nothing is done for them
none_wanted : (names : List NameValue) (see : List Line → View) (p : Policy) → All (λ n. holds (see []) n ≡ true) names → want_near names see p ≡ still see p
none_wanted [] see p held = refl
none_wanted (n ∷ names) see p held =
    let H : NameValue → Type 0 = λ n. holds (see []) n ≡ true in
    ap (λ (b : Bool). cond (not (b || is_asked (see []) n)) (cond (is_begun (want n false see p)) (and_then (want n false) (want_near names) see p) (still see p)) (want_near names see p)) (All-head H n names held)
    ∙ none_wanted names see p (All-tail H n names held)

-- so it does not matter whether they are left out
pub near_wanted : (name : NameValue) (names : List NameValue) (see : List Line → View) (p : Policy) → AreNear (see []) name names
    → want_near (near_names name (highest name.page name.source (see []).held)) see p ≡ want_near names see p
near_wanted name names see p near = ⊎_elim
    (λ (is : names ≡ all). ap (λ (ns : List NameValue). want_near ns see p) (sym is))
    (λ (left : (names ≡ []) × All (λ n. holds (see []) n ≡ true) all). none_wanted all see p left.1 ∙ ap (λ (ns : List NameValue). want_near ns see p) (sym left.0))
    near where
      all : List NameValue
      all = near_names name (highest name.page name.source (see []).held)
