-- A report under our number pushes out none of another origin.
use Rattle.std.proofs.Common.{◌≡◌, ◌∙◌, ◌≤◌, ◌<◌, ℕ, Bool, true, false, cond, List, [], ◌∷◌, ◌++◌, ap, append-nil, arith, filter, length, refl, sym}
use Rattle.std.specs.Prelude.{◌&&◌, ◌-◌, nat_le, nat_lt, not}
use Rattle.std.proofs.lemmas.Bool.Decides.{nat_tests}
use Rattle.std.proofs.lemmas.List.Elements.{filter-append}
use Rattle.std.proofs.lemmas.List.{length-append}
use Rattle.wb_judge.specs.Aliens.{beside, with_alien, with_room}
use Rattle.wb_judge.specs.Laws.{AliensStay}
use Rattle.wb_judge.specs.Origins.{same_origin}
use Rattle.wb_judge.specs.declared.aliens.Alien.{Alien}
use Rattle.wb_judge.specs.declared.limits.TheConstants.{FRESH, MOST_ALIENS}
use Rattle.wb_judge.proofs.Sameness.{same_itself}
use Rattle.wb_judge.proofs.Sizes.{filter_length}

twice : {X : Type 0} (p : X → Bool) (xs : List X) → filter p (filter p xs) ≡ filter p xs
twice p [] = refl
twice {X} p (x ∷ xs) = by (p x) refl (twice p xs) where
  by : (b : Bool) → p x ≡ b → filter p (filter p xs) ≡ filter p xs → filter p (cond b (x ∷ filter p xs) (filter p xs)) ≡ cond b (x ∷ filter p xs) (filter p xs)
  by true is rest = ap (λ (b : Bool). cond b (x ∷ filter p (filter p xs)) (filter p (filter p xs))) is ∙ ap (λ (ys : List X). x ∷ ys) rest
  by false is rest = rest

not_itself : (a : Alien) → beside a a ≡ false
not_itself a = ap (λ (b : Bool). not b && nat_le (a.at - a.at) FRESH) (same_itself a.origin)

room_stays : (a : Alien) (others : List Alien) → filter (beside a) (with_room a others) ≡ filter (beside a) others
room_stays a others = by (nat_lt (length others) MOST_ALIENS) where
  by : (b : Bool) → filter (beside a) (cond b (others ++ a ∷ []) others) ≡ filter (beside a) others
  by true =
      filter-append (beside a) others (a ∷ [])
      ∙ ap (λ (b : Bool). filter (beside a) others ++ cond b (a ∷ []) []) (not_itself a) ∙ append-nil (filter (beside a) others)
  by false = refl

room_fits : (a : Alien) (others : List Alien) → length others ≤ MOST_ALIENS → length (with_room a others) ≤ MOST_ALIENS
room_fits a others few = by (nat_lt (length others) MOST_ALIENS) refl where
  by : (b : Bool) → nat_lt (length others) MOST_ALIENS ≡ b → length (cond b (others ++ a ∷ []) others) ≤ MOST_ALIENS
  by true is = let room : length others < MOST_ALIENS = grind (arith, nat_tests) in omega (arith, room, length-append others (a ∷ []))
  by false is = few

pub aliens_stay : AliensStay
aliens_stay a aliens = (
  room_stays a (filter (beside a) aliens) ∙ twice (beside a) aliens,
  λ few. room_fits a (filter (beside a) aliens) (omega (arith, few, filter_length (beside a) aliens)),
)
