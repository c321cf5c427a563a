-- A list in the order of display, and what a drawop that enters or leaves changes there.
use Rattle.std.specs.Prelude.{◌≡◌, ◌≢◌, ℕ, ◌<◌, ◌≤◌, ◌↔◌, Bool, true, false, List, length, Contains, Any, ◌⊎◌, Result, Ok, Err}
use Rattle.std.specs.declared.cmp.Ordering.TheVariants.{Less, Equal, Greater}
use Rattle.std.specs.List.{HoldsAt, list_any}
use Rattle.std.specs.Ordering.{is_eq}
use Rattle.std.specs.List.Sorted.{IsStrictlySortedBy, IsPartitionPoint}
use Rattle.wb_names.specs.Values.{DrawopValue}
use Rattle.wb_names.specs.Orders.{display_cmp}

-- where a list holds what ties with d, or the place between what is displayed before d and what comes after
abbrev pub IsPlaceOf : List DrawopValue → DrawopValue → Result ℕ ℕ → Type 0
IsPlaceOf list d (Ok i) = (i < length list) × HoldsAt (λ x. display_cmp x d ≡ Equal) list i
IsPlaceOf list d (Err i) = (i ≤ length list) × (IsStrictlySortedBy display_cmp list → IsPartitionPoint (λ x. display_cmp x d ≡ Less) (λ x. display_cmp x d ≡ Greater) list i)

-- new is old with d in its place, where d is to be shown, and without it else
pub record SetsShown (d : DrawopValue) (shows : Bool) (old new : List DrawopValue) : Type 0 where
  pub rising : IsStrictlySortedBy display_cmp new
  pub others : (x : DrawopValue) → x ≢ d → Contains new x ↔ Contains old x
  pub itself : Contains new d ↔ (shows ≡ true)

-- what ties with d in the list is d
abbrev pub TiesAlone : List DrawopValue → DrawopValue → Type 0
TiesAlone list d = (x : DrawopValue) → Contains list x → display_cmp x d ≡ Equal → x ≡ d

-- no drawop of one list ties with one of the other
abbrev pub AreApart : List DrawopValue → List DrawopValue → Type 0
AreApart list other = (x y : DrawopValue) → Contains list x → Contains other y → display_cmp x y ≢ Equal

-- a member ties with d
abbrev pub ties_with : List DrawopValue → DrawopValue → Bool
ties_with list d = list_any (λ x. is_eq (display_cmp x d)) list

-- of two lists, what ties is one drawop
abbrev pub TieOnce : List DrawopValue → List DrawopValue → Type 0
TieOnce list other = (x y : DrawopValue) → Contains list x ⊎ Contains other x → Contains list y ⊎ Contains other y → display_cmp x y ≡ Equal → x ≡ y

-- of touched, in their order, those that pass a test and tie with nothing in the list, each once
pub record Enters (passes : DrawopValue → Bool) (list touched entering : List DrawopValue) : Type 0 where
  pub rising : IsStrictlySortedBy display_cmp entering
  pub from : (x : DrawopValue) → Contains entering x → Contains touched x × (passes x ≡ true) × (ties_with list x ≡ false)
  pub all : (x : DrawopValue) → Contains touched x → passes x ≡ true → ties_with list x ≡ false → Any (λ y. is_eq (display_cmp x y) ≡ true) entering

-- what a list has beside touched passes a test
abbrev pub ShowsOthers : (DrawopValue → Bool) → List DrawopValue → List DrawopValue → Type 0
ShowsOthers passes list touched = (x : DrawopValue) → Contains list x → ¬ Contains touched x → passes x ≡ true
