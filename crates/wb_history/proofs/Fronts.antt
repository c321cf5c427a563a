-- Spare lists stay fronts of what their pass has seen.
use Rattle.std.proofs.Common.{arith, ◌≡◌, Bool, true, false, List, [], ◌∷◌, ◌++◌, sym, ap, subst, ◌∙◌, append_assoc}
use Rattle.std.proofs.lemmas.Grind.{common_steps}
use Rattle.std.specs.Prelude.{if◌then◌else◌}
use Rattle.std.proofs.lemmas.List.Elements.{All-nil, All-same, All-push, All-weaker}
use mathlib.Core.List.{IsPrefix}
use Rattle.wb_names.specs.Values.{DrawopValue}
use Rattle.wb_history.specs.Indexed.{SeenValue, AreFronts}

pub none_are_fronts : (lists : List SeenValue) (whole : List DrawopValue) → lists ≡ [] → AreFronts lists whole
none_are_fronts lists whole none = grind (arith, common_steps, All-same, All-nil)

-- the pass has seen more
pub fronts_on : (lists : List SeenValue) (l whole : List DrawopValue) → IsPrefix l whole → AreFronts lists l → AreFronts lists whole
fronts_on lists l whole more fronts = All-weaker (λ (m : SeenValue). IsPrefix m.items l) (λ (m : SeenValue). IsPrefix m.items whole) (λ m b. (b.0 ++ more.0, sym (append_assoc m.items b.0 more.0) ∙ (ap (λ (z : List DrawopValue). z ++ more.0) b.1 ∙ more.1))) lists fronts

-- a list was put to the others, or not
pub kept : (lists lists' : List SeenValue) (m : SeenValue) (done : Bool) (whole : List DrawopValue) → lists' ≡ (if done then lists ++ m ∷ [] else lists) → AreFronts lists whole → IsPrefix m.items whole → AreFronts lists' whole
kept lists lists' m true whole is fronts b = subst (λ (z : List SeenValue). AreFronts z whole) (sym is) (All-push (λ (m : SeenValue). IsPrefix m.items whole) lists m fronts b)
kept lists lists' m false whole is fronts b = subst (λ (z : List SeenValue). AreFronts z whole) (sym is) fronts
