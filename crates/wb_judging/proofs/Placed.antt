-- An echo at its place among echoes: they ascend as before.
use Rattle.std.proofs.Common.{◌≡◌, ℕ, ◌+◌, ◌≤◌, ◌<◌, Bool, true, false, cond, List, [], ◌∷◌, ◌++◌, suc, arith, filter, get_or, length, length-append, refl, zero}
use Rattle.std.specs.Prelude.{AllPairs, nat_lt}
use Rattle.std.proofs.lemmas.Bool.{ltb-true}
use Rattle.std.proofs.lemmas.List.Elements.{All-append, filter_passes}
use Rattle.std.proofs.lemmas.List.Kept.{AllPairs-cons, AllPairs-filter}
use Rattle.wb_names.specs.Ascending.{AreEchoes}
use Rattle.wb_names.specs.declared.echo.Echo.{Echo}
use Rattle.wb_names.specs.declared.entries.TheConstants.{MAX_ENTRIES}
use Rattle.wb_judging.specs.Echoing.{placed}

pairs_append : {X : Type 0} (R : X → X → Type 0) (xs ys : List X) → AllPairs R xs → AllPairs R ys
    → ((i k : ℕ) (d : X) → i < length xs → k < length ys → R (get_or xs i d) (get_or ys k d)) → AllPairs R (xs ++ ys)
pairs_append R [] ys first second across = second
pairs_append R (x ∷ xs) ys first second across =
    AllPairs-cons R x (xs ++ ys)
    (All-append (R x) xs ys (λ k d h. first 0 (suc k) d (omega arith) (omega arith)) (λ k d h. across 0 k d (omega arith) h))
    (pairs_append R xs ys (λ i j d lt h. first (suc i) (suc j) d (omega arith) (omega arith)) second (λ i k d l h. across (suc i) k d (omega arith) h))

abbrev is_below : Echo → Echo → Bool
is_below e f = nat_lt f.source e.source

abbrev is_above : Echo → Echo → Bool
is_above e f = nat_lt e.source f.source

below_all : (e : Echo) (es : List Echo) (k : ℕ) (d : Echo) → k < length (filter (is_below e) es) → (get_or (filter (is_below e) es) k d).source < e.source
below_all e es k d h = ltb-true (get_or (filter (is_below e) es) k d).source e.source (filter_passes (is_below e) es k d h)

above_all : (e : Echo) (es : List Echo) (k : ℕ) (d : Echo) → k < length (filter (is_above e) es) → e.source < (get_or (filter (is_above e) es) k d).source
above_all e es k d h = ltb-true e.source (get_or (filter (is_above e) es) k d).source (filter_passes (is_above e) es k d h)

-- no echo is of both kinds
few_both : (e : Echo) (es : List Echo) → length (filter (is_below e) es) + length (filter (is_above e) es) ≤ length es
few_both e [] = omega arith
few_both e (f ∷ es) = by (is_below e f) (is_above e f) refl refl (few_both e es) where
  by : (a b : Bool) → is_below e f ≡ a → is_above e f ≡ b → length (filter (is_below e) es) + length (filter (is_above e) es) ≤ length es
      → length (cond a (f ∷ filter (is_below e) es) (filter (is_below e) es)) + length (cond b (f ∷ filter (is_above e) es) (filter (is_above e) es)) ≤ suc (length es)
  by true true is and more = let one = ltb-true f.source e.source is in let other = ltb-true e.source f.source and in absurd (omega arith)
  by true false is and more = omega (arith, more)
  by false true is and more = omega (arith, more)
  by false false is and more = omega (arith, more)

pub lawful_placed : (e : Echo) (es : List Echo) → AreEchoes es → length es < MAX_ENTRIES → AreEchoes (placed e es)
lawful_placed e es lawful room =
    let R : Echo → Echo → Type 0 = λ f g. f.source < g.source in
    let below = filter (is_below e) es in
    let above = filter (is_above e) es in
    record {
      ascending =
          pairs_append R below (e ∷ above)
          (AllPairs-filter R (is_below e) es lawful.ascending)
          (AllPairs-cons R e above (above_all e es) (AllPairs-filter R (is_above e) es lawful.ascending))
          (λ i k d l h. across i k d l h);
      positive = λ k d h. tt;
      few = let few = few_both e es in let both = length-append below (e ∷ above) in omega (arith, few, both, room);
    } where
      across : (i k : ℕ) (d : Echo) → i < length (filter (is_below e) es) → k < suc (length (filter (is_above e) es))
          → (get_or (filter (is_below e) es) i d).source < (get_or (e ∷ filter (is_above e) es) k d).source
      across i zero d l h = below_all e es i d l
      across i (suc k) d l h = let one = below_all e es i d l in let other = above_all e es k d (omega arith) in omega (arith, one, other)
