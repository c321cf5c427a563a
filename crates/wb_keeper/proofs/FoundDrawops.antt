-- The member of a name, found by a look-up.
use Rattle.std.proofs.Common.{◌≡◌, Bool, true, false, cond, Some, None, List, [], ◌∷◌, refl, ap, ◌∙◌, sym, arith, suc, true≢false, ◌⊎◌, inl, inr}
use Rattle.std.specs.Prelude.{Contains, ◌||◌}
use Rattle.wb_names.specs.Values.{NameValue, DrawopValue}
use Rattle.wb_names.specs.Orders.{same_name}
use Rattle.wb_names.specs.History.{IsHistory, HoldsName}
use Rattle.wb_names.proofs.Orders.{same_name-here, same_name-is}
use Rattle.wb_names.proofs.Listings.{Contains-cases, Contains-none}
use Rattle.wb_keeper.specs.Keeper.{holds}
use Rattle.wb_keeper.specs.Ticks.{drawop_of}
use Rattle.wb_keeper.proofs.KeptCalls.{holds_not}

pub tail_history : (d : DrawopValue) (history : List DrawopValue) → IsHistory (d ∷ history) → IsHistory history
tail_history d history h i j e lt below = h (suc i) (suc j) e (omega arith) (omega arith)

apart : (d e : DrawopValue) (history : List DrawopValue) → IsHistory (d ∷ history) → Contains history e → d.name ≡ e.name → ⊥
apart d e history h (k, lt, is) same = h 0 (suc k) e (omega arith) (omega arith) (same ∙ ap (λ (x : DrawopValue). x.name) (sym is))

pub found_member : (history : List DrawopValue) (name : NameValue) (d : DrawopValue) → IsHistory history → Contains history d → d.name ≡ name → drawop_of history name ≡ Some d
found_member [] name d h c is = absurd (Contains-none d c)
found_member (x ∷ history) name d h c is = from (found_member history name d (tail_history x history h)) (same_name x.name name) refl (Contains-cases x d history c) where
  from : (Contains history d → d.name ≡ name → drawop_of history name ≡ Some d) → (b : Bool) → same_name x.name name ≡ b → (x ≡ d) ⊎ Contains history d → cond b (Some x) (drawop_of history name) ≡ Some d
  from rest true e (inl same) = ap (λ (w : DrawopValue). Some w) same
  from rest true e (inr g) = absurd (apart x d history h g (same_name-is x.name name e ∙ sym is))
  from rest false e (inl same) = absurd (true≢false (sym (same_name-here x.name name (ap (λ (w : DrawopValue). w.name) same ∙ is)) ∙ e))
  from rest false e (inr g) = rest g is

pub found_none : (history : List DrawopValue) (name : NameValue) → ¬ HoldsName history name → drawop_of history name ≡ None
found_none history name h = none history (holds_not history name h) where
  none : (history : List DrawopValue) → holds history name ≡ false → drawop_of history name ≡ None
  none [] g = refl
  none (x ∷ history) g = from (none history) (same_name x.name name) g where
    from : (holds history name ≡ false → drawop_of history name ≡ None) → (b : Bool) → (b || holds history name) ≡ false → cond b (Some x) (drawop_of history name) ≡ None
    from rest true e = absurd (true≢false e)
    from rest false e = rest e
