-- What stands at a place of a list, in the words of this crate's rule and in those of its public clauses.
use Rattle.std.proofs.lemmas.Grind.{common_steps}
use Rattle.std.proofs.Common.{◌≡◌, ◌≢◌, ℕ, zero, suc, List, [], ◌∷◌, get_or, sym, ap, ◌∙◌, arith, Some, subst, ⊎_elim, ◌<◌, ◌≤◌}
use Rattle.std.proofs.lemmas.Bool.{cases_lt}
use Rattle.std.specs.Prelude.{All, AllPairs, Contains, slice_get, take}
use mathlib.Core.Option.{some, some-injective, some-ne-none}
use lib.ListN.{get_elem?}
use Rattle.wb_names.specs.Values.{NameValue, DrawopValue}
use Rattle.wb_names.specs.History.{IsHistory, HoldsName}
use Rattle.wb_history.specs.Lists.{Once}
use Rattle.wb_history.proofs.Lists.{at-lt, at_read, at_take}

module _ {A : Type 0} where
  pub get_is : (l : List A) (i : ℕ) (a : A) → get_elem? l i ≡ some a → slice_get l i ≡ Some a
  get_is [] i a e = absurd (some-ne-none a (sym e))
  get_is (x ∷ xs) zero a e = ap Some (some-injective x a e)
  get_is (x ∷ xs) (suc i) a e = get_is xs i a e

  pub read_is : (l : List A) (i : ℕ) (a d : A) → get_elem? l i ≡ some a → get_or l i d ≡ a
  read_is l i a d e = grind (arith, common_steps, at_read, at-lt)

  pub at_contained : (l : List A) (a : A) → Contains l a → (i : ℕ) × (get_elem? l i ≡ some a)
  at_contained l a c = (c.0, at_read l c.0 a c.1 ∙ ap some c.2)

  pub pairs_are : (l : List A) → Once l → AllPairs (λ x y. x ≢ y) l
  pairs_are l once i j d lt inside same = let is = once i j (get_or l i d) (at_read l i d (omega arith)) (at_read l j d inside ∙ ap some (sym same)) in omega arith

  pub all_are : (P : A → Type 0) (l : List A) → ((i : ℕ) (a : A) → get_elem? l i ≡ some a → P a) → All P l
  all_are P l each k d inside = each k (get_or l k d) (at_read l k d inside)

  pub all_at : (P : A → Type 0) (l : List A) (i : ℕ) (a : A) → All P l → get_elem? l i ≡ some a → P a
  all_at P l i a all e = subst P (read_is l i a a e) (all i a (at-lt l i a e))

-- a history, by its places
pub history_is : (l : List DrawopValue) → ((p q : ℕ) (d e : DrawopValue) → get_elem? l p ≡ some d → get_elem? l q ≡ some e → d.name ≡ e.name → p ≡ q) → IsHistory l
history_is l once i j d lt inside same = grind (arith, common_steps, at_read)

-- of a history two places with one name are one
pub one_place : (l : List DrawopValue) (p q : ℕ) (d e : DrawopValue) → IsHistory l → get_elem? l p ≡ some d → get_elem? l q ≡ some e → d.name ≡ e.name → p ≡ q
one_place l p q d e once x y same =
    ⊎_elim (λ (lt : p < q). absurd (apart p q d e lt x y same))
    (λ (ge : q ≤ p). ⊎_elim (λ (lt : q < p). absurd (apart q p e d lt y x (sym same))) (λ (le : p ≤ q). omega arith) (cases_lt q p)) (cases_lt p q)
  where
    apart : (i k : ℕ) (a b : DrawopValue) → i < k → get_elem? l i ≡ some a → get_elem? l k ≡ some b → a.name ≡ b.name → ⊥
    apart i k a b lt x y same =
        once i k a lt (at-lt l k b y) (ap (λ (o : DrawopValue). o.name) (read_is l i a a x) ∙ (same ∙ sym (ap (λ (o : DrawopValue). o.name) (read_is l k b a y))))

pub drawop_named : (l : List DrawopValue) (n : NameValue) (p : ℕ) (d : DrawopValue) → get_elem? l p ≡ some d → d.name ≡ n → HoldsName l n
drawop_named l n p d at same = (p, d, at-lt l p d at, read_is l p d d at, same)

pub named_at : (l : List DrawopValue) (n : NameValue) → HoldsName l n → (p : ℕ) × (d : DrawopValue) × (get_elem? l p ≡ some d) × (d.name ≡ n)
named_at l n h = (h.0, h.1, at_read l h.0 h.1 h.2 ∙ ap some h.3, h.4)

-- of a history, no drawop before a place has the name of the one there
pub none_before : (l : List DrawopValue) (i : ℕ) (d : DrawopValue) → IsHistory l → get_elem? l i ≡ some d → HoldsName (take i l) d.name → ⊥
none_before l i d once at held =
    let t = named_at (take i l) d.name held in let there = at_take i l t.0 t.1 t.2 in let lt = there.0 in let is = one_place l t.0 i t.1 d once there.1 at t.3 in absurd (omega arith)
