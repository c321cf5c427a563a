-- Those that have their turn are those that do not come after the one in the last place.
use Rattle.std.proofs.Common.{◌≡◌, ℕ, ◌+◌, ◌<◌, ◌≤◌, Bool, true, false, cond, List, [], ◌∷◌, ◌++◌, ◌∙◌, ap, arith, filter, get_or, length, refl, sym, true≢false}
use Rattle.std.specs.Prelude.{◌&&◌, ◌||◌, All, nat_eq, nat_lt, not}
use Rattle.std.specs.Cmp.{IsStrictWeakOrder}
use Rattle.std.specs.List.{count_by, sum_by}
use Rattle.std.specs.List.Sorted.{IsPermutation, IsSplitAroundBy}
use Rattle.std.proofs.lemmas.Bool.Decides.{nat_tests}
use Rattle.std.proofs.lemmas.List.Elements.{All-cons, All-from_get_or, All-nil}
use Rattle.std.proofs.lemmas.List.Sorted.{sum_by-IsPermutation}
use Rattle.std.proofs.lemmas.List.Filters.{length-filter_both}
use Rattle.std.proofs.lemmas.List.Sums.{count_by-le-length, length-filter, sum_by-append, sum_by-cons, sum_by-le, sum_by-le-sum_by}
use Rattle.std.proofs.lemmas.Bool.{le-ltb, lt-ltb, not-true}
use Rattle.wb_names.specs.declared.echo.Echo.{Echo}
use Rattle.wb_gaps.proofs.PageRanges.{same_filter}
use Rattle.wb_policy.specs.Choices.{is_sooner, rank_of, soonest}
use Rattle.wb_policy.proofs.Latest.{is_later, itself}

-- ---- an order

one_way : (a b x y : ℕ) → (nat_lt a b || (nat_eq a b && nat_lt x y)) ≡ true → (nat_lt b a || (nat_eq b a && nat_lt y x)) ≡ false
one_way a b x y e = grind (arith, nat_tests)

chain : (a b c x y z : ℕ) → (nat_lt a b || (nat_eq a b && nat_lt x y)) ≡ false → (nat_lt b c || (nat_eq b c && nat_lt y z)) ≡ false → (nat_lt a c || (nat_eq a c && nat_lt x z)) ≡ false
chain a b c x y z e f = grind (arith, nat_tests)

module _ (firsts : List Echo) (from : ℕ) where
  abbrev rank : Echo → ℕ
  rank = rank_of firsts from

  abbrev sooner : Echo → Echo → Bool
  sooner = is_sooner firsts from

  pub turns_are_an_order : IsStrictWeakOrder sooner
  turns_are_an_order = record {
    one_way = λ e f later. is_later firsts from f e ∙ one_way (rank e) (rank f) e.source f.source (sym (is_later firsts from e f) ∙ later);
    chain = λ e f g one other. is_later firsts from e g ∙ chain (rank e) (rank f) (rank g) e.source f.source g.source (sym (is_later firsts from e f) ∙ one) (sym (is_later firsts from f g) ∙ other);
  }

  -- one that is not behind another, and the other before a third: it is before the third
  before : (e f g : Echo) → sooner f e ≡ false → sooner f g ≡ true → sooner e g ≡ true
  before e f g here later = by (sooner e g) refl where
    by : (b : Bool) → sooner e g ≡ b → b ≡ true
    by true is = refl
    by false is = absurd (true≢false (sym later ∙ turns_are_an_order.chain f e g here is))

  -- one that is before another, which is not behind a third: it is before the third
  pub past : (e f g : Echo) → sooner e f ≡ true → sooner g f ≡ false → sooner e g ≡ true
  past e f g later here = by (sooner e g) refl where
    by : (b : Bool) → sooner e g ≡ b → b ≡ true
    by true is = refl
    by false is = absurd (true≢false (sym later ∙ turns_are_an_order.chain e g f is here))

-- ---- how many pass

abbrev one_if : Bool → ℕ
one_if b = cond b 1 0

counted : (p q : Bool) → (p ≡ true → q ≡ true) → one_if p ≤ one_if q
counted true true more = omega arith
counted true false more = absurd (true≢false (sym (more refl)))
counted false true more = omega arith
counted false false more = omega arith

more_pass : (p q : Echo → Bool) (es : List Echo) → ((e : Echo) → p e ≡ true → q e ≡ true) → count_by p es ≤ count_by q es
more_pass p q es more = sum_by-le-sum_by (λ e. one_if (p e)) (λ e. one_if (q e)) es (λ e. counted (p e) (q e) (more e))

nothing : (b : Bool) → b ≡ false → one_if b ≤ 0
nothing true is = absurd (true≢false is)
nothing false is = omega arith

none_pass : (p : Echo → Bool) (es : List Echo) (d : Echo) → ((i : ℕ) → i < length es → p (get_or es i d) ≡ false) → count_by p es ≡ 0
none_pass p es d fail =
    let none = sum_by-le (λ e. one_if (p e)) 0 es (All-from_get_or (λ e. one_if (p e) ≤ 0) es d (λ i lt. nothing (p (get_or es i d)) (fail i lt))) in
    omega (arith, none)

-- ---- the place that a selection gives

module _ (firsts : List Echo) (from : ℕ) (all front back : List Echo) (first : Echo) (moved : IsPermutation all (front ++ first ∷ back)) (split : IsSplitAroundBy (is_sooner firsts from) front first back) where
  as_many : (p : Echo → Bool) → count_by p all ≡ count_by p front + (one_if (p first) + count_by p back)
  as_many p =
      let f : Echo → ℕ = λ e. one_if (p e) in
      sym (sum_by-IsPermutation f all (front ++ first ∷ back) moved)
      ∙ sum_by-append f front (first ∷ back)
      ∙ ap (λ (n : ℕ). sum_by f front + n) (sum_by-cons f first back)

  pub few_later : count_by (λ e. is_sooner firsts from e first) all ≤ length front
  few_later =
      let p : Echo → Bool = λ e. is_sooner firsts from e first in
      let count = as_many p in
      let itself_not : one_if (p first) ≡ 0 = ap one_if (itself firsts from first) in
      let behind = none_pass p back first (λ i lt. split.1 i first lt) in
      let ahead = count_by-le-length p front in
      omega (arith, count, itself_not, behind, ahead)

  pub others_are_many : length front + 1 ≤ count_by (λ e. not (is_sooner firsts from first e)) all
  others_are_many =
      let p : Echo → Bool = λ e. is_sooner firsts from first e in
      let q : Echo → Bool = λ e. not (is_sooner firsts from first e) in
      let count = as_many q in
      let itself_too : one_if (q first) ≡ 1 = ap (λ (b : Bool). one_if (not b)) (itself firsts from first) in
      let ahead = none_pass p front first (λ i lt. split.0 i first lt) in
      let both = length-filter_both p q (λ e. refl) front in
      let one = length-filter p front in
      let other = length-filter q front in
      omega (arith, count, itself_too, ahead, both, one, other)

-- ---- the two tests

every : (P : Echo → Type 0) → ((e : Echo) → P e) → (es : List Echo) → All P es
every P each [] = All-nil P
every P each (e ∷ es) = All-cons P e es (each e) (every P each es)

module _ (firsts : List Echo) (from most : ℕ) (all : List Echo) where
  abbrev comes_before : Echo → ℕ
  comes_before x = count_by (λ e. is_sooner firsts from e x) all

  module _ (last : Echo) (few : comes_before last < most) (many : most ≤ count_by (λ e. not (is_sooner firsts from last e)) all) where
    same_test : (x : Echo) → nat_lt (comes_before x) most ≡ not (is_sooner firsts from last x)
    same_test x = by (is_sooner firsts from last x) refl where
      by : (b : Bool) → is_sooner firsts from last x ≡ b → nat_lt (comes_before x) most ≡ not b
      by true later =
          let more = more_pass (λ e. not (is_sooner firsts from last e)) (λ e. is_sooner firsts from e x) all (λ e here. before firsts from e last x (not-true (is_sooner firsts from last e) here) later) in
          le-ltb (comes_before x) most (omega (arith, more, many))
      by false here =
          let more = more_pass (λ e. is_sooner firsts from e x) (λ e. is_sooner firsts from e last) all (λ e later. past firsts from e x last later here) in
          lt-ltb (comes_before x) most (omega (arith, more, few))

    pub soonest_are_not_after : filter (λ e. not (is_sooner firsts from last e)) all ≡ soonest firsts from most all
    soonest_are_not_after = sym (same_filter (λ x. nat_lt (comes_before x) most) (λ e. not (is_sooner firsts from last e)) all (every _ same_test all))

  -- where there are fewer, each of them
  pub few_are_soonest : length all < most → soonest firsts from most all ≡ all
  few_are_soonest few = same_filter (λ x. nat_lt (comes_before x) most) (λ e. true) all (every _ (λ x. let c = count_by-le-length (λ e. is_sooner firsts from e x) all in lt-ltb (comes_before x) most (omega (arith, c, few))) all) ∙ filter_all all where
    filter_all : (es : List Echo) → filter (λ e. true) es ≡ es
    filter_all [] = refl
    filter_all (e ∷ es) = ap (λ (rest : List Echo). e ∷ rest) (filter_all es)
