-- A part of a list of entries that ascends.
use Rattle.std.proofs.Common.{ℕ, ◌<◌, Bool, List, arith, filter}
use Rattle.std.proofs.lemmas.List.Elements.{All-filter}
use Rattle.std.proofs.lemmas.List.Kept.{AllPairs-filter}
use Rattle.std.proofs.lemmas.List.Sums.{count_by-le-length, length-filter}
use Rattle.wb_names.specs.Ascending.{AreEntries}

module _ {X : Type 0} (source : X → ℕ) (IsPositive : X → Type 0) (xs : List X) (lawful : AreEntries source IsPositive xs) where
  pub filtered : (p : X → Bool) → AreEntries source IsPositive (filter p xs)
  filtered p = record {
    ascending = AllPairs-filter (λ a b. source a < source b) p xs lawful.ascending;
    positive = All-filter p IsPositive xs lawful.positive;
    few = let count = length-filter p xs in let few = count_by-le-length p xs in let all = lawful.few in omega (arith, count, few, all);
  }
