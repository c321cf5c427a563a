-- A name that is not there is not taken out.
use Rattle.std.proofs.Common.{◌≡◌, Bool, true, false, cond, List, [], ◌∷◌, ap, filter, refl, true≢false}
use Rattle.std.specs.Prelude.{◌||◌, not}
use Rattle.wb_names.specs.Orders.{same_name}
use Rattle.wb_names.specs.Values.{NameValue}
use Rattle.wb_judge.specs.Shares.{Shares}
use Rattle.wb_judge.specs.Strange.{has_name, without_name}
use Rattle.wb_judge.specs.declared.strange.Given.{Given}

all_stay : (name : NameValue) (given : List Given) → has_name name given ≡ false → filter (λ (g : Given). not (same_name g.name name)) given ≡ given
all_stay name [] absent = refl
all_stay name (g ∷ given) absent = by (same_name g.name name) absent (λ e. all_stay name given e) where
  rest : List Given
  rest = filter (λ (g : Given). not (same_name g.name name)) given

  by : (b : Bool) → (b || has_name name given) ≡ false → (has_name name given ≡ false → rest ≡ given) → cond (not b) (g ∷ rest) rest ≡ g ∷ given
  by true e more = absurd (true≢false e)
  by false e more = ap (λ (gs : List Given). g ∷ gs) (more e)

pub nothing_less : (name : NameValue) (s : Shares) → has_name name s.given ≡ false → without_name name s ≡ s
unfolding without_name
nothing_less name s absent = ap (λ (given : List Given). let t : Shares = record s { given = given } in t) (all_stay name s.given absent)
