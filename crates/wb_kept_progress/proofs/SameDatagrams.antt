-- A test whether two datagrams are the same.
use Rattle.std.proofs.Common.{◌≡◌, ℕ, Bool, true, false, ◌&&◌, List, [], ◌∷◌, nat_eq, refl, eqb-true}
use Rattle.std.proofs.lemmas.Bool.{and_parts}
use Rattle.wb_names.specs.Orders.{same_name, same_page}
use Rattle.wb_names.proofs.Orders.{same_name-is, same_page-is}
use Rattle.wb_names.specs.Same.{same_drawop, same_drawop-Decides}
use Rattle.wb_names.specs.Values.{MarkValue}
use Rattle.wb_names.specs.declared.echo.Echo.{Echo}
use Rattle.wb_codec.specs.declared.datagram.Datagram.{Datagram}
use Rattle.wb_codec.specs.declared.datagram.Datagram.TheVariants.{Draw, Session, Request, AskPages, PageState}

abbrev same_mark : MarkValue → MarkValue → Bool
same_mark m n = nat_eq m.source n.source && nat_eq m.high n.high

abbrev same_echo : Echo → Echo → Bool
same_echo e f = nat_eq e.source f.source && nat_eq e.sent f.sent && nat_eq e.held f.held

module _ {X : Type 0} (same : X → X → Bool) where
  abbrev same_all : List X → List X → Bool
  same_all [] [] = true
  same_all [] (y ∷ ys) = false
  same_all (x ∷ xs) [] = false
  same_all (x ∷ xs) (y ∷ ys) = same x y && same_all xs ys

  same_all-is : ((x y : X) → same x y ≡ true → x ≡ y) → (xs ys : List X) → same_all xs ys ≡ true → xs ≡ ys
  same_all-is each [] [] so = refl
  same_all-is each [] (y ∷ ys) so = cc
  same_all-is each (x ∷ xs) [] so = cc
  same_all-is each (x ∷ xs) (y ∷ ys) so =
      let p = and_parts (same x y) (same_all xs ys) so in
      let head = each x y p.0 in
      let tail = same_all-is each xs ys p.1 in
      cc

-- a drawop, a session message, a request, a question for pages, a page state
abbrev pub same_datagram : Datagram → Datagram → Bool
same_datagram (Draw d) (Draw e) = same_drawop d e
same_datagram (Session sender sent page marks echoes) (Session other then on told heard) =
    nat_eq sender other && nat_eq sent then && same_page page on && same_all same_mark marks told && same_all same_echo echoes heard
same_datagram (Request asker name) (Request other of) = nat_eq asker other && same_name name of
same_datagram (AskPages asker) (AskPages other) = nat_eq asker other
same_datagram (PageState sender page marks) (PageState other on told) = nat_eq sender other && same_page page on && same_all same_mark marks told
same_datagram v w = false

same_mark-is : (m n : MarkValue) → same_mark m n ≡ true → m ≡ n
same_mark-is m n so = let p = and_parts (nat_eq m.source n.source) (nat_eq m.high n.high) so in one _ _ _ _ (eqb-true _ _ p.0) (eqb-true _ _ p.1) where
  one : (a b c d : ℕ) → a ≡ c → b ≡ d → let m : MarkValue = record { source = a; high = b } in let n : MarkValue = record { source = c; high = d } in m ≡ n
  one a b c d e f = cc

same_echo-is : (e f : Echo) → same_echo e f ≡ true → e ≡ f
same_echo-is e f so =
    let p = and_parts (nat_eq e.source f.source && nat_eq e.sent f.sent) _ so in
    let q = and_parts (nat_eq e.source f.source) _ p.0 in
    one _ _ _ _ _ _ (eqb-true _ _ q.0) (eqb-true _ _ q.1) (eqb-true _ _ p.1) where
      one : (a b c d x y : ℕ) → a ≡ d → b ≡ x → c ≡ y → let e : Echo = record { source = a; sent = b; held = c } in let f : Echo = record { source = d; sent = x; held = y } in e ≡ f
      one a b c d x y g h i = cc

pub same_datagram-is : (v w : Datagram) → same_datagram v w ≡ true → v ≡ w
same_datagram-is (Draw d) (Draw e) so = let is = (same_drawop-Decides d e).0 so in cc
same_datagram-is (Session sender sent page marks echoes) (Session other then on told heard) so =
    let p = and_parts (nat_eq sender other && nat_eq sent then && same_page page on && same_all same_mark marks told) _ so in
    let q = and_parts (nat_eq sender other && nat_eq sent then && same_page page on) _ p.0 in
    let r = and_parts (nat_eq sender other && nat_eq sent then) _ q.0 in
    let s = and_parts (nat_eq sender other) _ r.0 in
    let a = eqb-true _ _ s.0 in
    let b = eqb-true _ _ s.1 in
    let c = same_page-is page on r.1 in
    let d = same_all-is same_mark same_mark-is marks told q.1 in
    let e = same_all-is same_echo same_echo-is echoes heard p.1 in
    cc
same_datagram-is (Request asker name) (Request other of) so =
    let p = and_parts (nat_eq asker other) _ so in
    let a = eqb-true _ _ p.0 in
    let b = same_name-is name of p.1 in
    cc
same_datagram-is (AskPages asker) (AskPages other) so = let a = eqb-true _ _ so in cc
same_datagram-is (PageState sender page marks) (PageState other on told) so =
    let p = and_parts (nat_eq sender other && same_page page on) _ so in
    let q = and_parts (nat_eq sender other) _ p.0 in
    let a = eqb-true _ _ q.0 in
    let b = same_page-is page on q.1 in
    let c = same_all-is same_mark same_mark-is marks told p.1 in
    cc
same_datagram-is v w so = cc
