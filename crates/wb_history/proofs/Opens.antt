-- The table at the start keeps the rule.
use Rattle.std.proofs.lemmas.Grind.{common_steps}
use Rattle.wb_history.specs.Sizes.{row_stride}
use Rattle.std.proofs.Common.{◌≡◌, ℕ, zero, suc, ◌+◌, ◌*◌, ◌<◌, List, [], ◌∷◌, length, get_or, refl, sym, ap, ◌∙◌, arith}
use Rattle.std.specs.Prelude.{replicate}
use mathlib.Core.Option.{some, some-injective, some-ne-none}
use lib.ListN.{get_elem?}
use Rattle.atomic_table.specs.Table.{opening}
use Rattle.wb_history.specs.declared.knowledge.Knowledge.{Knowledge}
use Rattle.std.specs.List.{range_with_len}
use Rattle.wb_history.specs.Views.{whole_pass}
use Rattle.wb_history.specs.Lawful.{Knows, Lawful}
use Rattle.wb_history.proofs.Rows.{nothing_remembered}
use Rattle.wb_history.proofs.Lists.{at_nothing, once_nothing}

at_range : (a n i r : ℕ) → get_elem? (range_with_len a n) i ≡ some r → (a + i ≡ r) × (i < n)
at_range a zero i r e = absurd (some-ne-none r (sym e))
at_range a (suc n) zero r e = let is = some-injective a r e in (omega arith, omega arith)
at_range a (suc n) (suc i) r e = grind (arith, common_steps, at_range (a + 1) n i r e)

get_or-replicate : (n i : ℕ) → get_or {A = ℕ} (replicate n 0) i 0 ≡ 0
get_or-replicate zero i = refl
get_or-replicate (suc n) zero = refl
get_or-replicate (suc n) (suc i) = get_or-replicate n i

pub opens : (cells : ℕ) (words : List ℕ) (n : ℕ) → words ≡ replicate n 0 → length words ≡ n → n ≡ cells * (row_stride + 1) → Lawful cells (opening words [] (whole_pass cells))
opens cells words n zeros len size = record {
  log = [];
  rows = [];
  owner = λ _. 0;
  history = record {
    wide = omega arith;
    long = refl;
    filled = λ p q e. absurd (at_nothing p q e);
    unfilled = λ p _ _. ap (λ l. get_or l p 0) zeros ∙ get_or-replicate n p;
    rows_once = once_nothing;
    records = λ p q d e _ _ _ _. absurd (at_nothing p q e);
    valid = λ k d below. absurd (omega arith);
    names_once = λ i j d lt below. absurd (omega arith);
  };
  seated = λ _. omega arith;
  each_pass = one;
}
  where
    first : Knows cells words [] [] (λ _. 0) 0 (whole_pass cells)
    first = grind (arith, common_steps, at_range, at_nothing, once_nothing, nothing_remembered)

    one : (j : ℕ) (v : Knowledge) → get_elem? (whole_pass cells ∷ []) j ≡ some v → Knows cells words [] [] (λ _. 0) j v
    one zero v e = grind (arith, common_steps, first)
    one (suc j) v e = absurd (some-ne-none v (sym e))
