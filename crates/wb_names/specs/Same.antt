-- When two operations, and two drawops, are the same: they are of one kind, and all fields are equal.
use Rattle.std.specs.Prelude.{◌≡◌, ℕ, Bool, true, false, ◌&&◌, List, nat_eq, refl}
use Rattle.std.specs.Bool.{Decides}
use Rattle.std.specs.Cmp.{IsEquivalence, decided}
use Rattle.std.specs.Cmp.Lexicographic.{pointwise, bytes_decides}
use Rattle.std.proofs.Common.{arith, eqb-true}
use Rattle.std.proofs.lemmas.Bool.{and_parts}
use Rattle.std.proofs.lemmas.Bool.Decides.{nat_tests}
use Rattle.wb_names.specs.Values.{DrawopValue}
use Rattle.wb_names.specs.Orders.{same_name, same_page}
use Rattle.wb_names.specs.Kinds.{same_figure, same_figure-here, same_change, same_change-here}
use Rattle.wb_names.specs.declared.name.PageId.{PageId}
use Rattle.wb_names.specs.declared.parts.Stroke.{Stroke}
use Rattle.wb_names.specs.declared.parts.Target.{Target}
use Rattle.wb_names.specs.declared.parts.Op.{Op}
use Rattle.wb_names.specs.declared.parts.Op.TheVariants.{Drawn, Text, Aimed}

abbrev pub same_stroke : Stroke → Stroke → Bool
same_stroke s t = nat_eq s.x0 t.x0 && nat_eq s.y0 t.y0 && nat_eq s.x1 t.x1 && nat_eq s.y1 t.y1 && nat_eq s.glyph t.glyph

abbrev pub same_target : Target → Target → Bool
same_target t u = nat_eq t.source u.source && nat_eq t.seq u.seq

abbrev pub same_op : Op → Op → Bool
same_op (Drawn figure s) (Drawn f t) = same_figure figure f && same_stroke s t
same_op (Text x y text) (Text a b bytes) = nat_eq x a && nat_eq y b && pointwise nat_eq text bytes
same_op (Aimed change t) (Aimed c u) = same_change change c && same_target t u
same_op op other = false

abbrev pub same_drawop : DrawopValue → DrawopValue → Bool
same_drawop d e = same_name d.name e.name && nat_eq d.time e.time && same_op d.op e.op

same_stroke-is : (s t : Stroke) → same_stroke s t ≡ true → s ≡ t
same_stroke-is s t e = grind (arith, nat_tests, eqb-true)

pub same_target-is : (t u : Target) → same_target t u ≡ true → t ≡ u
same_target-is t u e = let p = and_parts (nat_eq t.source u.source) _ e in one _ _ _ _ (eqb-true _ _ p.0) (eqb-true _ _ p.1) where
  one : (s n a b : ℕ) → s ≡ a → n ≡ b → let v : Target = record { source = s; seq = n } in let w : Target = record { source = a; seq = b } in v ≡ w
  one s n a b e f = cc

-- the same operation passes the test
same_op-here : (a : Op) → same_op a a ≡ true
same_op-here (Drawn figure s) = simp (same_figure-here figure) (grind (arith, nat_tests))
same_op-here (Text x y text) = simp (same_bytes text) (grind (arith, nat_tests)) where
  same_bytes : (bytes : List ℕ) → pointwise nat_eq bytes bytes ≡ true
  same_bytes bytes = (bytes_decides bytes bytes).1 refl
same_op-here (Aimed change t) = simp (same_change-here change) (grind (arith, nat_tests))

same_op-is : (a b : Op) → same_op a b ≡ true → a ≡ b
same_op-is (Drawn figure s) (Drawn f t) e = grind (arith, nat_tests, same_stroke-is)
same_op-is (Text x y text) (Text a b bytes) e =
    let p = and_parts (nat_eq x a && nat_eq y b) _ e in
    let q = and_parts (nat_eq x a) _ p.0 in
    let h : x ≡ a = eqb-true x a q.0 in
    let k : y ≡ b = eqb-true y b q.1 in
    let l : text ≡ bytes = (bytes_decides text bytes).0 p.1 in
    cc
same_op-is (Aimed change t) (Aimed c u) e = grind (arith, nat_tests, same_target-is)
same_op-is a b e = cc

-- the test tells whether they are equal
pub same_op-Decides : (a b : Op) → Decides (same_op a b) (a ≡ b)
same_op-Decides a b = grind (arith, nat_tests, same_op-is, same_op-here)

one_page : (a b m n : ℕ) → a ≡ b → m ≡ n → let p : PageId = record { creator = a; number = m } in let q : PageId = record { creator = b; number = n } in p ≡ q
one_page a b m n e f = cc

one_drawop : (a b : ℕ) (p q : PageId) (m n t u : ℕ) (o r : Op) → a ≡ b → p ≡ q → m ≡ n → t ≡ u → o ≡ r →
    let d : DrawopValue = record { name = record { source = a; page = p; seq = m }; time = t; op = o } in
    let e : DrawopValue = record { name = record { source = b; page = q; seq = n }; time = u; op = r } in
    d ≡ e
one_drawop a b p q m n t u o r f g h i j = cc

same_drawop-here : (d : DrawopValue) → same_drawop d d ≡ true
same_drawop-here d = simp (same_op-here d.op) (grind (arith, nat_tests))

same_drawop-is : (d e : DrawopValue) → same_drawop d e ≡ true → d ≡ e
same_drawop-is d e h =
    let p = and_parts (same_name d.name e.name && nat_eq d.time e.time) _ h in
    let q = and_parts (same_name d.name e.name) _ p.0 in
    let r = and_parts (nat_eq d.name.source e.name.source && same_page d.name.page e.name.page) _ q.0 in
    let s = and_parts (nat_eq d.name.source e.name.source) _ r.0 in
    let t = and_parts (nat_eq d.name.page.creator e.name.page.creator) _ s.1 in
    one_drawop _ _ _ _ _ _ _ _ _ _ (eqb-true _ _ s.0) (one_page _ _ _ _ (eqb-true _ _ t.0) (eqb-true _ _ t.1)) (eqb-true _ _ r.1) (eqb-true _ _ q.1) (same_op-is d.op e.op p.1)

pub same_drawop-Decides : (d e : DrawopValue) → Decides (same_drawop d e) (d ≡ e)
same_drawop-Decides d e = grind (arith, nat_tests, same_drawop-is, same_drawop-here)

pub same_op_laws : IsEquivalence same_op
same_op_laws = decided same_op same_op-Decides

pub same_drawop_laws : IsEquivalence same_drawop
same_drawop_laws = decided same_drawop same_drawop-Decides
