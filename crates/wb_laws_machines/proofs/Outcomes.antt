-- What the outcome of one arrival says of what is held.
use Rattle.std.proofs.Common.{◌≡◌, ℕ, ◌+◌, Bool, true, false, cond, List, [], ◌∷◌, refl, sym, ap, ◌∙◌, subst, true≢false, ⊎_elim}
use Rattle.std.specs.Prelude.{Contains, nat_lt}
use Rattle.std.proofs.lemmas.List.Elements.{Contains-append_left}
use Rattle.wb_names.specs.Values.{DrawopValue}
use Rattle.wb_names.specs.Arrivals.{Outcome, New, Again, Clash, Left, history_with, outcome_from}
use Rattle.wb_names.specs.Orders.{same_name}
use Rattle.wb_names.specs.Same.{same_drawop, same_drawop-Decides}
use Rattle.wb_names.proofs.Listings.{Contains-here, Contains-there, Contains-cases, Contains-none}
use Rattle.wb_names.proofs.Orders.{same_name-here, same_name-is}

-- by what became of it: none has its name; it is held; another with its name is
abbrev pub Found : List DrawopValue → DrawopValue → Outcome → Type 0
Found h d (New place) = (x : DrawopValue) → Contains h x → x.name ≡ d.name → ⊥
Found h d (Again place) = Contains h d
Found h d (Clash place) = (x : DrawopValue) × Contains h x × (x.name ≡ d.name) × (x ≡ d → ⊥)
Found h d Left = (x : DrawopValue) → Contains h x → x.name ≡ d.name → ⊥

none_behind : (y : DrawopValue) (h : List DrawopValue) (d : DrawopValue) → (y.name ≡ d.name → ⊥) → ((x : DrawopValue) → Contains h x → x.name ≡ d.name → ⊥) → (x : DrawopValue) → Contains (y ∷ h) x → x.name ≡ d.name → ⊥
none_behind y h d other none x c same = ⊎_elim
    (λ (e : y ≡ x). other (ap (λ (w : DrawopValue). w.name) e ∙ same))
    (λ (g : Contains h x). none x g same)
    (Contains-cases y x h c)

behind : (y : DrawopValue) (h : List DrawopValue) (d : DrawopValue) (a : Outcome) → (y.name ≡ d.name → ⊥) → Found h d a → Found (y ∷ h) d a
behind y h d (New place) other f = none_behind y h d other f
behind y h d (Again place) other f = Contains-there y d h f
behind y h d (Clash place) other f = (f.0, Contains-there y f.0 h f.1, f.2, f.3)
behind y h d Left other f = none_behind y h d other f

pub found : (cells i : ℕ) (h : List DrawopValue) (d : DrawopValue) → Found h d (outcome_from cells i h d)
found cells i [] d = from (nat_lt i cells) where
  from : (b : Bool) → Found [] d (cond b (New i) Left)
  from true = λ x c same. Contains-none x c
  from false = λ x c same. Contains-none x c
found cells i (y ∷ h) d = by (found cells (i + 1) h d) (same_name y.name d.name) refl where
  named : (c : Bool) → same_drawop y d ≡ c → y.name ≡ d.name → Found (y ∷ h) d (cond c (Again i) (Clash i))
  named true e same = subst (Contains (y ∷ h)) ((same_drawop-Decides y d).0 e) (Contains-here y h)
  named false e same = (y, Contains-here y h, same, λ one. true≢false (sym ((same_drawop-Decides y d).1 one) ∙ e))

  by : Found h d (outcome_from cells (i + 1) h d) → (b : Bool) → same_name y.name d.name ≡ b → Found (y ∷ h) d (cond b (cond (same_drawop y d) (Again i) (Clash i)) (outcome_from cells (i + 1) h d))
  by rest true e = named (same_drawop y d) refl (same_name-is y.name d.name e)
  by rest false e = behind y h d (outcome_from cells (i + 1) h d) (λ same. true≢false (sym (same_name-here y.name d.name same) ∙ e)) rest

-- what is held stays
pub with_more : (h : List DrawopValue) (d x : DrawopValue) (o : Outcome) → Contains h x → Contains (history_with h d o) x
with_more h d x (New i) c = Contains-append_left h (d ∷ []) x c
with_more h d x (Again i) c = c
with_more h d x (Clash i) c = c
with_more h d x Left c = c
