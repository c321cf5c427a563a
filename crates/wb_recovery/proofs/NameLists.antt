-- The lists of the names whose timers pass a test: of a recovery's own names, and of those in a list of calls.
use Rattle.std.proofs.Common.{◌≡◌, Bool, true, false, cond, List, [], ◌∷◌, refl, ap, ◌∙◌, sym, subst, Option, Some, None, ◌⊎◌, inl, inr, ⊎_elim, true≢false}
use Rattle.std.specs.Prelude.{Contains, filter, unwrap_or, is_some}
use Rattle.std.specs.BTreeSet.{insert_key}
use Rattle.std.specs.List.{AllByRecursion}
use Rattle.std.specs.List.Sorted.{IsStrictlySortedBy}
use Rattle.std.specs.BTreeMap.{is_at}
use Rattle.std.specs.Map.{lookup}
use Rattle.std.specs.Ordering.{match_ordering, ordering_reverse}
use Rattle.std.specs.declared.cmp.Ordering.{Ordering}
use Rattle.std.specs.declared.cmp.Ordering.TheVariants.{Less, Equal, Greater}
use Rattle.std.proofs.lemmas.List.Kept.{IsStrictlySortedBy-filter}
use Rattle.std.proofs.lemmas.Map.Keys.{sorted_head, sorted_tail}
use Rattle.std.proofs.lemmas.Map.Views.{Contains-keys_from_lookup}
use Rattle.wb_names.specs.Values.{NameValue}
use Rattle.wb_names.specs.Orders.{name_cmp, same_name}
use Rattle.wb_names.specs.Listing.{Lists}
use Rattle.wb_names.proofs.Orders.{name_total, same_name-is}
use Rattle.wb_names.proofs.Listings.{Contains-here, Contains-there, Contains-cases, Contains-filter, Contains-from_filter, one_list, lists_same}
use Rattle.wb_recovery.specs.Timing.{no_timers, noticed, asked, got, ticked}
use Rattle.wb_recovery.specs.Values.{RecoveryValue, timers_in, names_in}
use Rattle.wb_recovery.specs.Events.{Event, Notice, Asked, Got, Tick, Tune, constants_after, names_of, due_asks, word_for, timers_of}
use Rattle.wb_recovery.specs.Accepted.{StandsFor}
use Rattle.wb_recovery.specs.declared.tuning.Tuning.{Tuning}
use Rattle.wb_recovery.specs.declared.timers.Timers.{Timers}
use Rattle.wb_recovery.proofs.NameOrder.{name_decides, equal_is}

-- ---- a name put into a rising list
insert_here : (k : NameValue) (ks : List NameValue) → Contains (insert_key name_cmp ks k) k
insert_here k [] = Contains-here k []
insert_here k (x ∷ xs) = from (insert_here k xs) (name_cmp k x) refl where
  from : Contains (insert_key name_cmp xs k) k → (r : Ordering) → name_cmp k x ≡ r → Contains (match_ordering r (k ∷ x ∷ xs) (x ∷ xs) (x ∷ insert_key name_cmp xs k)) k
  from below Less e = Contains-here k (x ∷ xs)
  from below Equal e = subst (λ (n : NameValue). Contains (x ∷ xs) n) (sym (equal_is k x e)) (Contains-here x xs)
  from below Greater e = Contains-there x k _ below

insert_there : (k n : NameValue) (ks : List NameValue) → Contains ks n → Contains (insert_key name_cmp ks k) n
insert_there k n [] h = Contains-there k n [] h
insert_there k n (x ∷ xs) h = from (λ g. insert_there k n xs g) (name_cmp k x) where
  from : (Contains xs n → Contains (insert_key name_cmp xs k) n) → (r : Ordering) → Contains (match_ordering r (k ∷ x ∷ xs) (x ∷ xs) (x ∷ insert_key name_cmp xs k)) n
  from below Less = Contains-there k n (x ∷ xs) h
  from below Equal = h
  from below Greater = ⊎_elim (λ (e : x ≡ n). subst (λ (m : NameValue). Contains (x ∷ insert_key name_cmp xs k) m) e (Contains-here x _)) (λ (g : Contains xs n). Contains-there x n _ (below g)) (Contains-cases x n xs h)

sorted_cons : (k : NameValue) (ks : List NameValue) → AllByRecursion (λ y. name_cmp k y ≡ Less) ks → IsStrictlySortedBy name_cmp ks → IsStrictlySortedBy name_cmp (k ∷ ks)
unfolding IsStrictlySortedBy
sorted_cons k ks a s = (a, s)

pub sorted_nil : IsStrictlySortedBy name_cmp []
unfolding IsStrictlySortedBy
sorted_nil = tt

all_inserted : (P : NameValue → Type 0) (k : NameValue) (ks : List NameValue) → P k → AllByRecursion P ks → AllByRecursion P (insert_key name_cmp ks k)
all_inserted P k [] p a = (p, tt)
all_inserted P k (x ∷ xs) p a = from (all_inserted P k xs p a.1) (name_cmp k x) where
  from : AllByRecursion P (insert_key name_cmp xs k) → (r : Ordering) → AllByRecursion P (match_ordering r (k ∷ x ∷ xs) (x ∷ xs) (x ∷ insert_key name_cmp xs k))
  from below Less = (p, a)
  from below Equal = a
  from below Greater = (a.0, below)

less_all : (k x : NameValue) (xs : List NameValue) → name_cmp k x ≡ Less → AllByRecursion (λ y. name_cmp x y ≡ Less) xs → AllByRecursion (λ y. name_cmp k y ≡ Less) xs
less_all k x [] e a = tt
less_all k x (y ∷ ys) e a = (name_total.trans k x y e a.0, less_all k x ys e a.1)

insert_rising : (k : NameValue) (ks : List NameValue) → IsStrictlySortedBy name_cmp ks → IsStrictlySortedBy name_cmp (insert_key name_cmp ks k)
insert_rising k [] s = sorted_cons k [] tt s
insert_rising k (x ∷ xs) s = from (insert_rising k xs (sorted_tail name_cmp x xs s)) (name_cmp k x) refl where
  from : IsStrictlySortedBy name_cmp (insert_key name_cmp xs k) → (r : Ordering) → name_cmp k x ≡ r → IsStrictlySortedBy name_cmp (match_ordering r (k ∷ x ∷ xs) (x ∷ xs) (x ∷ insert_key name_cmp xs k))
  from below Less e = sorted_cons k (x ∷ xs) (e, less_all k x xs e (sorted_head name_cmp x xs s)) s
  from below Equal e = s
  from below Greater e = sorted_cons x (insert_key name_cmp xs k) (all_inserted _ k xs (name_total.antisymm x k ∙ ap ordering_reverse e) (sorted_head name_cmp x xs s)) below

-- ---- the names of a list of calls
pub names_rise : (events : List Event) → IsStrictlySortedBy name_cmp (names_of events)
names_rise [] = sorted_nil
names_rise (Notice name now delay word ∷ events) = insert_rising name (names_of events) (names_rise events)
names_rise (Asked name false now delay word ∷ events) = names_rise events
names_rise (Asked name true now delay word ∷ events) = insert_rising name (names_of events) (names_rise events)
names_rise (Got name now delay ∷ events) = names_rise events
names_rise (Tick now words ∷ events) = names_rise events
names_rise (Tune constants ∷ events) = names_rise events

abbrev Known : Tuning → List Event → NameValue → Type 0
Known t events n = (timers_of t events n ≡ no_timers) ⊎ Contains (names_of events) n

known_new : (t : Tuning) (events : List Event) (n name : NameValue) (step : Timers → Timers) → Known t events n → (cond (same_name name n) (step (timers_of t events n)) (timers_of t events n) ≡ no_timers) ⊎ Contains (insert_key name_cmp (names_of events) name) n
known_new t events n name step k = from (same_name name n) refl where
  from : (b : Bool) → same_name name n ≡ b → (cond b (step (timers_of t events n)) (timers_of t events n) ≡ no_timers) ⊎ Contains (insert_key name_cmp (names_of events) name) n
  from true e = inr (subst (λ (m : NameValue). Contains (insert_key name_cmp (names_of events) name) m) (same_name-is name n e) (insert_here name (names_of events)))
  from false e = ⊎_elim (λ (h : timers_of t events n ≡ no_timers). inl h) (λ (h : Contains (names_of events) n). inr (insert_there name n (names_of events) h)) k

known_old : (t : Tuning) (events : List Event) (n : NameValue) (b : Bool) (step : Timers → Timers) → step no_timers ≡ no_timers → Known t events n → (cond b (step (timers_of t events n)) (timers_of t events n) ≡ no_timers) ⊎ Contains (names_of events) n
known_old t events n true step s k = ⊎_elim (λ (h : timers_of t events n ≡ no_timers). inl (ap step h ∙ s)) (λ (h : Contains (names_of events) n). inr h) k
known_old t events n false step s k = k

-- a name that the calls do not name has no timers
pub known : (t : Tuning) (events : List Event) (n : NameValue) → Known t events n
known t [] n = inl refl
known t (Notice name now delay word ∷ events) n = known_new t events n name (noticed (constants_after t events) now delay word) (known t events n)
known t (Asked name false now delay word ∷ events) n = known_old t events n (same_name name n) (asked (constants_after t events) false now delay word) refl (known t events n)
known t (Asked name true now delay word ∷ events) n = known_new t events n name (asked (constants_after t events) true now delay word) (known t events n)
known t (Got name now delay ∷ events) n = known_old t events n (same_name name n) (got now delay) refl (known t events n)
known t (Tick now words ∷ events) n = known_old t events n true (ticked (constants_after t events) now (word_for words (due_asks (names_of events) (λ m. timers_of t events m) now) n)) refl (known t events n)
known t (Tune constants ∷ events) n = known t events n

-- ---- names whose timers pass a test that no timers fail
module _ (p : Timers → Bool) (none : p no_timers ≡ false) where
  list_passing : (ks : List NameValue) (f : NameValue → Timers) → IsStrictlySortedBy name_cmp ks → ((n : NameValue) → p (f n) ≡ true → Contains ks n) → Lists name_cmp (λ n. p (f n) ≡ true) (filter (λ n. p (f n)) ks)
  list_passing ks f s g = record {
    rising = IsStrictlySortedBy-filter name_cmp _ ks s;
    members = λ n. ((λ h. (Contains-from_filter (λ m. p (f m)) ks n h).1), (λ h. Contains-filter (λ m. p (f m)) ks n (g n h) h));
  }

  pub listed_of : (t : Tuning) (events : List Event) → Lists name_cmp (λ n. p (timers_of t events n) ≡ true) (filter (λ n. p (timers_of t events n)) (names_of events))
  listed_of t events = list_passing (names_of events) (timers_of t events) (names_rise events) (λ n h. ⊎_elim (λ (e : timers_of t events n ≡ no_timers). absurd (true≢false (sym h ∙ ap p e ∙ none))) (λ (c : Contains (names_of events) n). c) (known t events n))

  pub listed_in : (value : RecoveryValue) → IsStrictlySortedBy name_cmp (names_in value) → Lists name_cmp (λ n. p (timers_in value n) ≡ true) (filter (λ n. p (timers_in value n)) (names_in value))
  listed_in value s = list_passing (names_in value) (timers_in value) s has where
    has : (n : NameValue) → p (timers_in value n) ≡ true → Contains (names_in value) n
    has n = from (lookup (is_at (name_cmp n)) value.records) refl where
      from : (o : Option Timers) → lookup (is_at (name_cmp n)) value.records ≡ o → p (unwrap_or o no_timers) ≡ true → Contains (names_in value) n
      from None e h = absurd (true≢false (sym h ∙ none))
      from (Some s) e h = Contains-keys_from_lookup (λ x y g. (name_decides x y).0 g) n value.records (ap is_some e)

  -- what a recovery has, and what the calls make, is one list
  pub listed_same : (t : Tuning) (events : List Event) (value : RecoveryValue) → IsStrictlySortedBy name_cmp (names_in value) → StandsFor t events value → filter (λ n. p (timers_in value n)) (names_in value) ≡ filter (λ n. p (timers_of t events n)) (names_of events)
  listed_same t events value s stands = one_list name_total (λ n. p (timers_of t events n) ≡ true) _ _
      (lists_same name_total _ _ _ (λ n h. ap p (sym (stands.timers n)) ∙ h) (λ n h. ap p (stands.timers n) ∙ h) (listed_in value s))
      (listed_of t events)
