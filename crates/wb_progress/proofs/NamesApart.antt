-- Lists in which nothing stands twice.
use Rattle.std.proofs.Common.{◌≡◌, ℕ, ◌+◌, ◌≤◌, List, [], ◌∷◌, ◌++◌, length, ap, ◌∙◌, sym, subst, arith, ◌⊎◌, inl, inr, ⊎_elim}
use Rattle.std.specs.Prelude.{Contains}
use Rattle.std.specs.List.Sorted.{IsStrictlySortedBy}
use Rattle.std.specs.Ordering.{ordering_reverse}
use Rattle.std.specs.declared.cmp.Ordering.{Ordering}
use Rattle.std.specs.declared.cmp.Ordering.TheVariants.{Less, Greater}
use Rattle.std.proofs.lemmas.Map.Keys.{sorted_tail}
use Rattle.std.proofs.lemmas.List.Elements.{Contains-append_cases}
use Rattle.wb_names.specs.Values.{NameValue}
use Rattle.wb_names.specs.Orders.{name_cmp}
use Rattle.wb_names.proofs.Orders.{name_total}
use Rattle.wb_names.proofs.Listings.{Contains-here, Contains-there, Contains-cases, Contains-none, below_all}
use Rattle.wb_progress.specs.InTime.{AreApart}

pub less_greater : ◌≡◌ {A = Ordering} Less Greater → ⊥
less_greater e = cc

pub apart_of : (names : List NameValue) → IsStrictlySortedBy name_cmp names → AreApart names
apart_of [] s = tt
apart_of (n ∷ names) s = ((λ c. itself (below_all name_total n n names s c)), apart_of names (sorted_tail name_cmp n names s)) where
  itself : name_cmp n n ≡ Less → ⊥
  itself e = less_greater (sym e ∙ name_total.antisymm n n ∙ ap ordering_reverse e)

-- ---- one less

module _ {X : Type 0} where
  -- what is left without one of the members
  pub record IsLeft (ys : List X) (x : X) : Type 0 where
    pub rest : List X
    pub fewer : length ys ≡ length rest + 1
    pub others : (z : X) → Contains ys z → (x ≡ z) ⊎ Contains rest z

  left : (ys : List X) (x : X) → Contains ys x → IsLeft ys x
  left [] x c = absurd (Contains-none x c)
  left (y ∷ ys) x c = ⊎_elim
      (λ (same : y ≡ x). record { rest = ys; fewer = omega arith; others = λ z d. ⊎_elim (λ (is : y ≡ z). inl (sym same ∙ is)) (λ (e : Contains ys z). inr e) (Contains-cases y z ys d) })
      (λ (d : Contains ys x).
      let l = left ys x d in
      let fewer = l.fewer in
      record {
        rest = y ∷ l.rest;
        fewer = omega (arith, fewer);
        others = λ z e. ⊎_elim
            (λ (is : y ≡ z). inr (subst (Contains (y ∷ l.rest)) is (Contains-here y l.rest)))
            (λ (f : Contains ys z). ⊎_elim (λ (same : x ≡ z). inl same) (λ (g : Contains l.rest z). inr (Contains-there y z l.rest g)) (l.others z f))
            (Contains-cases y z ys e);
      })
      (Contains-cases y x ys c)

  -- what stands once each in a list is no more than the list
  pub no_longer : (xs ys : List X) → AreApart xs → ((x : X) → Contains xs x → Contains ys x) → length xs ≤ length ys
  no_longer [] ys apart among = omega arith
  no_longer (x ∷ xs) ys apart among =
      let l = left ys x (among x (Contains-here x xs)) in
      let fewer = l.fewer in
      let rest = no_longer xs l.rest apart.1 (λ z c. ⊎_elim
      (λ (same : x ≡ z). absurd (apart.0 (subst (Contains xs) (sym same) c)))
      (λ (d : Contains l.rest z). d)
      (l.others z (among z (Contains-there x z xs c)))) in
      omega (arith, fewer, rest)

  pub apart_append : (one other : List X) → AreApart one → AreApart other → ((x : X) → Contains one x → Contains other x → ⊥) → AreApart (one ++ other)
  apart_append [] other a b never = b
  apart_append (x ∷ one) other a b never = (
    (λ c. ⊎_elim (λ (d : Contains one x). a.0 d) (λ (d : Contains other x). never x (Contains-here x one) d) (Contains-append_cases one other x c)),
    apart_append one other a.1 b (λ y c d. never y (Contains-there x y one c) d),
  )

  -- ---- members of which only few are not of a kind

  -- those of the kind, and how many there are at least
  pub record AreMost (P : X → Type 0) (xs : List X) (few : ℕ) : Type 0 where
    pub those : List X
    pub apart : AreApart those
    pub among : (x : X) → Contains those x → Contains xs x × P x
    pub most : length xs ≤ length those + few

  pub most_are : (P : X → Type 0) (xs wanting : List X) → AreApart xs → ((x : X) → Contains xs x → Contains wanting x ⊎ P x) → AreMost P xs (length wanting)
  most_are P [] wanting a f = record { those = []; apart = tt; among = λ x c. absurd (Contains-none x c); most = omega arith }
  most_are P (x ∷ xs) wanting a f = from (f x (Contains-here x xs)) (λ w g. most_are P xs w a.1 g) where
    later : (y : X) → Contains xs y → Contains wanting y ⊎ P y
    later y c = f y (Contains-there x y xs c)

    from : Contains wanting x ⊎ P x → ((w : List X) → ((y : X) → Contains xs y → Contains w y ⊎ P y) → AreMost P xs (length w)) → AreMost P (x ∷ xs) (length wanting)
    from h rest = ⊎_elim
        (λ (c : Contains wanting x).
        let l = left wanting x c in
        let r = rest l.rest (λ y d. ⊎_elim
        (λ (w : Contains wanting y). ⊎_elim (λ (same : x ≡ y). absurd (a.0 (subst (Contains xs) (sym same) d))) (λ (e : Contains l.rest y). inl e) (l.others y w))
        (λ (p : P y). inr p)
        (later y d)) in
        let most = r.most in
        let less = l.fewer in
        record { those = r.those; apart = r.apart; among = λ y d. let m = r.among y d in (Contains-there x y xs m.0, m.1); most = omega (arith, most, less) })
        (λ (p : P x).
        let r = rest wanting later in
        let most = r.most in
        record {
          those = x ∷ r.those;
          apart = ((λ c. a.0 (r.among x c).0), r.apart);
          among = λ y d. ⊎_elim (λ (s : x ≡ y). (subst (Contains (x ∷ xs)) s (Contains-here x xs), subst P s p)) (λ (c : Contains r.those y). let m = r.among y c in (Contains-there x y xs m.0, m.1)) (Contains-cases x y r.those d);
          most = omega (arith, most);
        })
        h
