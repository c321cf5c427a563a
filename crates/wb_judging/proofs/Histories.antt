-- What a board holds that takes drawops in their order.
use Rattle.std.proofs.Common.{◌≡◌, ◌∙◌, ℕ, ◌+◌, Bool, true, false, cond, List, [], ◌∷◌, ◌++◌, ap, append-nil, append_assoc, drop, filter, length, refl, sym, true≢false}
use Rattle.std.specs.Prelude.{◌||◌}
use Rattle.std.proofs.lemmas.List.{drop_at}
use Rattle.std.proofs.lemmas.List.Folds.{list_any-append}
use Rattle.wb_names.specs.Arrivals.{Clash, New, Again, Left, Outcome, history_after, history_with, outcome_from, outcome_of}
use Rattle.wb_names.specs.Orders.{same_name}
use Rattle.wb_names.specs.Same.{same_drawop}
use Rattle.wb_names.specs.Values.{DrawopValue, NameValue}
use Rattle.wb_names.proofs.Orders.{same_name-itself}
use Rattle.wb_keeper.specs.Keeper.{holds}
use Rattle.std.proofs.lemmas.Bool.{or_parts, or_right}

-- of each element
abbrev pub Of : {X : Type 0} → (X → Type 0) → List X → Type 0
Of P [] = Unit {0}
Of P (x ∷ xs) = P x × Of P xs

pub of_filter : {X : Type 0} (P : X → Type 0) (p : X → Bool) (xs : List X) → Of P xs → Of P (filter p xs)
of_filter P p [] each = tt
of_filter {X} P p (x ∷ xs) each = by (p x) (of_filter P p xs each.1) where
  by : (b : Bool) → Of P (filter p xs) → Of P (cond b (x ∷ filter p xs) (filter p xs))
  by true more = (each.0, more)
  by false more = more

pub of_both : {X : Type 0} (P : X → Type 0) (xs ys : List X) → Of P xs → Of P ys → Of P (xs ++ ys)
of_both P [] ys a b = b
of_both P (x ∷ xs) ys a b = (a.0, of_both P xs ys a.1 b)

pub of_so : {X : Type 0} (P Q : X → Type 0) (xs : List X) → ((x : X) → P x → Q x) → Of P xs → Of Q xs
of_so P Q [] so each = tt
of_so P Q (x ∷ xs) so each = (so x each.0, of_so P Q xs so each.1)

-- ---- drawops that arrive one after the other

pub after_both : (cells : ℕ) (h ds es : List DrawopValue) → history_after cells h (ds ++ es) ≡ history_after cells (history_after cells h ds) es
after_both cells h [] es = refl
after_both cells h (d ∷ ds) es = after_both cells (history_with h d (outcome_of cells h d)) ds es

-- ---- names that are held

pub holds_more : (h more : List DrawopValue) (n : NameValue) → holds h n ≡ true → holds (h ++ more) n ≡ true
holds_more h more n is = list_any-append (λ (d : DrawopValue). same_name d.name n) h more ∙ ap (λ (b : Bool). b || holds more n) is

pub holds_last : (h : List DrawopValue) (d : DrawopValue) → holds (h ++ d ∷ []) d.name ≡ true
holds_last h d =
    list_any-append (λ (e : DrawopValue). same_name e.name d.name) h (d ∷ [])
    ∙ or_right (holds h d.name) (same_name d.name d.name || false) (ap (λ (b : Bool). b || false) (same_name-itself d.name))

pub all_held : (h : List DrawopValue) → Of (λ (d : DrawopValue). holds h d.name ≡ true) h
all_held [] = tt
all_held (x ∷ h) = (
  ap (λ (b : Bool). b || holds h x.name) (same_name-itself x.name),
  of_so (λ (d : DrawopValue). holds h d.name ≡ true) (λ (d : DrawopValue). (same_name x.name d.name || holds h d.name) ≡ true) h
      (λ d is. or_right (same_name x.name d.name) (holds h d.name) is) (all_held h),
)

-- ---- a drawop whose name is held is not taken again

same_from : (held : List DrawopValue) (cells i : ℕ) (h : List DrawopValue) (d : DrawopValue) → holds h d.name ≡ true → history_with held d (outcome_from cells i h d) ≡ held
same_from held cells i [] d is = absurd (true≢false (sym is))
same_from held cells i (x ∷ h) d is = by (same_name x.name d.name) (same_drawop x d) is (λ e. same_from held cells (i + 1) h d e) where
  by : (b c : Bool) → (b || holds h d.name) ≡ true → (holds h d.name ≡ true → history_with held d (outcome_from cells (i + 1) h d) ≡ held)
      → history_with held d (cond b (cond c (Again i) (Clash i)) (outcome_from cells (i + 1) h d)) ≡ held
  by true true e more = refl
  by true false e more = refl
  by false c e more = more e

pub taken_again : (cells : ℕ) (h ds : List DrawopValue) → Of (λ (d : DrawopValue). holds h d.name ≡ true) ds → history_after cells h ds ≡ h
taken_again cells h [] each = refl
taken_again cells h (d ∷ ds) each =
    ap (λ (held : List DrawopValue). history_after cells held ds) (same_from h cells 0 h d each.0) ∙ taken_again cells h ds each.1

-- ---- a drawop that is taken has a name that was not held

fresh_from : (cells i : ℕ) (h : List DrawopValue) (d : DrawopValue) (place : ℕ) → outcome_from cells i h d ≡ New place → holds h d.name ≡ false
fresh_from cells i [] d place e = refl
fresh_from cells i (x ∷ h) d place e = by (same_name x.name d.name) (same_drawop x d) e (λ e. fresh_from cells (i + 1) h d place e) where
  by : (b c : Bool) → cond b (cond c (Again i) (Clash i)) (outcome_from cells (i + 1) h d) ≡ New place
      → (outcome_from cells (i + 1) h d ≡ New place → holds h d.name ≡ false) → (b || holds h d.name) ≡ false
  by true true e more = absurd cc
  by true false e more = absurd cc
  by false c e more = more e

pub fresh_is_new : (cells : ℕ) (h : List DrawopValue) (d : DrawopValue) (place : ℕ) → outcome_of cells h d ≡ New place → holds h d.name ≡ false
fresh_is_new cells h d place e = fresh_from cells 0 h d place e

-- ---- what a board gained

-- It holds more after what it held: if these arrive, it is the same again, and none of their names was held.
pub record Gains (cells : ℕ) (h after : List DrawopValue) : Type 0 where
  pub more : List DrawopValue
  pub is : after ≡ h ++ more
  pub again : history_after cells h more ≡ after
  pub new : Of (λ (d : DrawopValue). holds h d.name ≡ false) more

not_in_longer : (h more : List DrawopValue) (n : NameValue) → holds (h ++ more) n ≡ false → holds h n ≡ false
not_in_longer h more n e = (or_parts (holds h n) (holds more n) (sym (list_any-append (λ (d : DrawopValue). same_name d.name n) h more) ∙ e)).0

pub gains : (cells : ℕ) (h ds : List DrawopValue) → Gains cells h (history_after cells h ds)
gains cells h [] = record { more = []; is = sym (append-nil h); again = refl; new = tt }
gains cells h (d ∷ ds) = by (outcome_of cells h d) refl (λ held. gains cells held ds) where
  by : (o : Outcome) → outcome_of cells h d ≡ o → ((held : List DrawopValue) → Gains cells held (history_after cells held ds)) → Gains cells h (history_after cells (history_with h d o) ds)
  by (New place) e each =
      let rest = each (h ++ d ∷ []) in
      record {
        more = d ∷ rest.more;
        is = rest.is ∙ append_assoc h (d ∷ []) rest.more;
        again = ap (λ (o : Outcome). history_after cells (history_with h d o) rest.more) e ∙ rest.again;
        new = (
          fresh_is_new cells h d place e,
          of_so (λ (x : DrawopValue). holds (h ++ d ∷ []) x.name ≡ false) (λ (x : DrawopValue). holds h x.name ≡ false) rest.more
              (λ x is. not_in_longer h (d ∷ []) x.name is) rest.new,
        );
      }
  by (Again place) e each = each h
  by (Clash place) e each = each h
  by Left e each = each h

-- they are what it holds beyond what it held
pub gained_is : (cells : ℕ) (h after : List DrawopValue) (g : Gains cells h after) → drop (length h) after ≡ g.more
gained_is cells h after g = ap (λ (ds : List DrawopValue). drop (length h) ds) g.is ∙ drop_at h g.more (length h) refl
