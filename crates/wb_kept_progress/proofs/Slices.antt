-- How many marks of a page are above a slice of them.
use Rattle.std.proofs.Common.{◌≡◌, ℕ, ◌+◌, ◌≤◌, false, List, [], ◌∷◌, ◌∙◌, Option, Some, ap, arith, length}
use Rattle.std.specs.Prelude.{Contains, nat_lt}
use Rattle.std.proofs.lemmas.Bool.{false_from_ne_true, ltb-true}
use Rattle.wb_names.specs.Values.{MarkValue}
use Rattle.wb_names.proofs.Listings.{Contains-here, Contains-there}
use Rattle.wb_policy.specs.Choices.{last_source}
use Rattle.wb_policy.specs.Reports.{is_untold}
use Rattle.wb_policy.proofs.Slices.{Rise}
use Rattle.wb_policy.proofs.ToldMarks.{higher}
use Rattle.wb_kept_progress.proofs.PagesInTurn.{fewer_where, sum_where}

-- how many marks are above a source
abbrev pub count_above : Option ℕ → List MarkValue → ℕ
count_above told marks = sum_where (λ (m : MarkValue). 1) (λ m. is_untold told m.source) marks

-- above their last there are fewer by each of them
pub fewer_above : (all : List MarkValue) (told : Option ℕ) (marks : List MarkValue) → Rise told marks → ((m : MarkValue) → Contains marks m → (x : MarkValue) × Contains all x × (x.source ≡ m.source))
    → count_above (last_source told marks) all + length marks ≤ count_above told all
fewer_above all told [] rises among = omega arith
fewer_above all told (m ∷ marks) rises among =
    let rest = fewer_above all (Some m.source) marks rises.1 (λ n c. among n (Contains-there m n marks c)) in
    let x = among m (Contains-here m marks) in
    let one = fewer_where (λ (m : MarkValue). 1) (λ n. is_untold told n.source) (λ n. is_untold (Some m.source) n.source) all x.0 (λ n e. higher told m.source n.source rises.0 e) x.1
    (ap (is_untold told) x.2 ∙ rises.0) (is_not m.source x.0.source x.2) in
    omega (arith, rest, one) where
      is_not : (a b : ℕ) → b ≡ a → nat_lt a b ≡ false
      is_not a b e = false_from_ne_true (nat_lt a b) (λ f. let lt = ltb-true a b f in omega (arith, e, lt))
