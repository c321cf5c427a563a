-- The order in which pages are listed is an order.
use Rattle.std.proofs.Common.{◌≡◌, ℕ, true, false, arith}
use Rattle.std.specs.Prelude.{◌&&◌, ◌||◌, nat_eq, nat_lt}
use Rattle.std.proofs.lemmas.Bool.Decides.{nat_tests}
use Rattle.std.specs.Cmp.{IsStrictWeakOrder}
use Rattle.wb_judge.specs.Pages.{is_listed_before, place_of}

one_way : (a b x y : ℕ) → (nat_lt a b || (nat_eq a b && nat_lt y x)) ≡ true → (nat_lt b a || (nat_eq b a && nat_lt x y)) ≡ false
one_way a b x y e = grind (arith, nat_tests)

chain : (a b c x y z : ℕ) → (nat_lt a b || (nat_eq a b && nat_lt y x)) ≡ false → (nat_lt b c || (nat_eq b c && nat_lt z y)) ≡ false → (nat_lt a c || (nat_eq a c && nat_lt z x)) ≡ false
chain a b c x y z e f = grind (arith, nat_tests)

pub listing_is_an_order : IsStrictWeakOrder is_listed_before
listing_is_an_order = record {
  one_way = λ p q before. one_way (place_of p.rank) (place_of q.rank) p.last q.last before;
  chain = λ p q r one other. chain (place_of p.rank) (place_of q.rank) (place_of r.rank) p.last q.last r.last one other;
}
