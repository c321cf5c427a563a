-- From one moment of a driver to another: what was read and printed, step after step.
use Rattle.std.proofs.Common.{◌≡◌, ℕ, List, [], ◌∷◌, ◌++◌, Option, Some, None, refl, sym, ap, subst, ◌∙◌, append_assoc, append-nil, arith}
use Rattle.wb_lines.specs.Input.{InputLine}
use Rattle.wb_lines.specs.Items.{Grouping, Begun}
use Rattle.wb_lines.specs.Moments.{Moment, MayCome, Rest, Moves, Reads, grown_by, Gathers}
use Rattle.wb_lines.proofs.KnownBytes.{SendsOut-none, SendsOut-more, SendsOut-then}
use Rattle.wb_lines.proofs.LineBytes.{ReadsAhead-none, ReadsAhead-then}

unfoldable pub Moves-none : {S : Type 0} (m : Moment S) → Moves m m []
Moves-none m = record {
  given = [];
  pulls = ReadsAhead-none m.lines.reader m.left m.failed;
  sends = SendsOut-none m.taken m.output;
  most = refl;
  done = omega arith;
  true_still = λ t. t;
  may = λ more cut may. may;
}

unfoldable pub Moves-then : {S : Type 0} (a b c : Moment S) (x y : List ℕ) → Moves a b x → Moves b c y → Moves a c (x ++ y)
Moves-then a b c x y p q = record {
  given = p.given ++ q.given;
  pulls = ReadsAhead-then a.lines.reader b.lines.reader c.lines.reader a.left b.left c.left a.failed b.failed c.failed p.given q.given p.pulls q.pulls;
  sends = SendsOut-then a.taken b.taken c.taken a.output b.output c.output x y p.sends q.sends;
  most = q.most ∙ p.most;
  done = omega (arith, p.done, q.done);
  true_still = λ t. q.true_still (p.true_still t);
  may = λ more cut may. subst (λ (t : List ℕ). MayCome a.lines t cut) (sym (append_assoc p.given q.given more)) (p.may (q.given ++ more) cut (q.may more cut may));
}

-- ---- lines that join a group

grown-more : (g : Option Begun) (js ks : List InputLine) → grown_by (grown_by g js) ks ≡ grown_by g (js ++ ks)
grown-more None js ks = refl
grown-more (Some g) js ks = ap (λ (ls : List InputLine). Some (record { number = g.number; first = g.first; joined = ls })) (append_assoc g.joined js ks)

pub grown-none : (g : Option Begun) → grown_by g [] ≡ g
grown-none None = refl
grown-none (Some g) = ap (λ (ls : List InputLine). Some (record { number = g.number; first = g.first; joined = ls })) (append-nil g.joined)

gathers_front : (by : Grouping) (g : Option Begun) (js ks : List InputLine) → Gathers by g (js ++ ks) → Gathers by g js
gathers_front by None [] ks h = tt
gathers_front by (Some g) [] ks h = tt
gathers_front by None (j ∷ js) ks h = absurd h
gathers_front by (Some g) (j ∷ js) ks h = h

gathers_back : (by : Grouping) (g : Option Begun) (js ks : List InputLine) → Gathers by g (js ++ ks) → Gathers by (grown_by g js) ks
gathers_back by None js [] h = tt
gathers_back by (Some g) js [] h = tt
gathers_back by None [] (k ∷ ks) h = absurd h
gathers_back by None (j ∷ js) (k ∷ ks) h = absurd h
gathers_back by (Some g) [] (k ∷ ks) h = h
gathers_back by (Some g) (j ∷ js) (k ∷ ks) h = h

pub Reads-none : {S : Type 0} (by : Grouping) (m : Moment S) → Reads by m m [] []
unfolding Moves-none
Reads-none by m = record {
  moves = Moves-none m;
  joins = λ g more cut is gathers may rest. subst (λ (h : Option Begun). Rest by m.lines h more cut is) (grown-none g) rest;
}

pub Reads-then : {S : Type 0} (by : Grouping) (a b c : Moment S) (x y : List ℕ) (js ks : List InputLine) → Reads by a b x js → Reads by b c y ks → Reads by a c (x ++ y) (js ++ ks)
unfolding Moves-then
Reads-then by a b c x y js ks p q = record {
  moves = Moves-then a b c x y p.moves q.moves;
  joins = λ g more cut is gathers may rest.
      subst (λ (t : List ℕ). Rest by a.lines g t cut is) (sym (append_assoc p.moves.given q.moves.given more))
      (p.joins g (q.moves.given ++ more) cut is (gathers_front by g js ks gathers) (q.moves.may more cut may)
      (q.joins (grown_by g js) more cut is (gathers_back by g js ks gathers) may (subst (λ (h : Option Begun). Rest by c.lines h more cut is) (sym (grown-more g js ks)) rest)));
}

-- ---- text was printed, and nothing else happened

unfoldable pub Moves-prints : {S : Type 0} (a b : Moment S) (text : List ℕ) → b.lines ≡ a.lines → b.left ≡ a.left → b.failed ≡ a.failed → b.taken ≡ a.taken → b.stuck ≡ a.stuck → b.output ≡ a.output ++ text → Moves a b text
Moves-prints a b text lines left failed taken stuck prints = record {
  given = [];
  pulls = rw (lines, left, failed) (ReadsAhead-none a.lines.reader a.left a.failed);
  sends = rw taken (SendsOut-more a.taken a.output b.output text prints);
  most = rw lines refl;
  done = rw lines (omega arith);
  true_still = λ t. record { failed = rw (lines, failed) t.failed; stuck = rw (lines, stuck) t.stuck };
  may = λ more cut may. rw lines at may;
}

pub Reads-prints : {S : Type 0} (by : Grouping) (a b : Moment S) (text : List ℕ) → b.lines ≡ a.lines → b.left ≡ a.left → b.failed ≡ a.failed → b.taken ≡ a.taken → b.stuck ≡ a.stuck → b.output ≡ a.output ++ text → Reads by a b text []
unfolding Moves-prints
Reads-prints by a b text lines left failed taken stuck prints = record {
  moves = Moves-prints a b text lines left failed taken stuck prints;
  joins = λ g more cut is gathers may rest. subst (λ (h : Option Begun). Rest by a.lines h more cut is) (grown-none g) (rw lines at rest);
}
