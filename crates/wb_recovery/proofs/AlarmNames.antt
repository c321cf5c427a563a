-- The names of the alarms: just those with a timer, ascending.
use Rattle.std.proofs.Common.{◌≡◌, ℕ, ◌≤◌, Bool, true, false, cond, List, [], ◌∷◌, ◌++◌, length, refl, ap, ◌∙◌, sym, Option, Some, None, arith, true≢false}
use Rattle.std.specs.Prelude.{◌&&◌, nat_le, not, filter, is_some}
use Rattle.std.specs.BTreeMap.{IsOrdered, keys}
use Rattle.std.specs.List.{All, filter_map, cons_option}
use Rattle.std.specs.Map.{keys_of, values_of}
use Rattle.std.proofs.lemmas.Bool.Decides.{nat_tests}
use Rattle.std.proofs.lemmas.List.Elements.{All-head, All-tail, All-weaker}
use Rattle.std.proofs.lemmas.List.{append_assoc}
use Rattle.std.proofs.lemmas.List.Kept.{IsStrictlySortedBy-filter}
use Rattle.std.proofs.lemmas.Map.Views.{All-found, Contains-keys_from_lookup}
use Rattle.std.proofs.Math.Bool.{and-false}
use Rattle.std.specs.Cmp.{second_so}
use Rattle.wb_names.specs.Values.{NameValue}
use Rattle.wb_names.specs.Orders.{name_cmp}
use Rattle.wb_names.specs.Listing.{Lists}
use Rattle.wb_names.proofs.Orders.{name_total}
use Rattle.wb_names.proofs.Listings.{Contains-filter, Contains-from_filter, Contains-none, lists_same, one_list}
use Rattle.wb_recovery.specs.Alarms.{is_due_where, is_until, is_after, due_name, IsUpTo, Keep}
use Rattle.wb_recovery.specs.declared.alarms.Alarms.{Alarms}
use Rattle.wb_recovery.proofs.NameOrder.{name_decides}
use Rattle.wb_recovery.proofs.NameLists.{sorted_nil}

-- a timer, and one whose moment passes a test, where another test holds
pub some_due : (o : Option ℕ) → is_some o ≡ is_due_where (λ d. true) o
some_due None = refl
some_due (Some d) = refl

none_listed : (P : NameValue → Type 0) → ((n : NameValue) → P n → ⊥) → Lists name_cmp P []
none_listed P f = record {
  rising = sorted_nil;
  members = λ n. ((λ h. absurd (Contains-none n h)), (λ p. absurd (f n p)));
}

module _ (dues : NameValue → Option ℕ) (alarms : Alarms) (keep : Keep dues alarms) where
  -- nothing is due before the bound
  pub none_until : (now : ℕ) → is_after now alarms.soonest ≡ true → (n : NameValue) → is_until now (dues n) ≡ false
  none_until now before n = from (dues n) alarms.soonest (keep.bound n) before where
    from : (o s : Option ℕ) → ((d : ℕ) → o ≡ Some d → IsUpTo s d) → is_after now s ≡ true → is_until now o ≡ false
    from None s f h = refl
    from (Some d) None f h = absurd (f d refl)
    from (Some d) (Some b) f h = let g : b ≤ d = f d refl in grind (arith, nat_tests)

  pub no_names_until : (now : ℕ) (stopped : NameValue → Bool) → is_after now alarms.soonest ≡ true → Lists name_cmp (λ n. (not (stopped n) && is_until now (dues n)) ≡ true) []
  no_names_until now stopped before = none_listed _ (λ n h. true≢false (sym h ∙ ap (λ (b : Bool). not (stopped n) && b) (none_until now before n) ∙ and-false (not (stopped n))))

  pub no_count_until : (now : ℕ) → is_after now alarms.soonest ≡ true → (names : List NameValue) → Lists name_cmp (λ n. is_until now (dues n) ≡ true) names → 0 ≡ length names
  no_count_until now before names l = ap length (one_list name_total _ [] names (none_listed _ (λ n h. true≢false (sym h ∙ none_until now before n))) l)

  module _ (ordered : IsOrdered name_cmp alarms.dues) where
    found : All (λ e. dues e.0 ≡ Some e.1) alarms.dues.entries
    found = All-weaker _ (λ (e : NameValue × ℕ). dues e.0 ≡ Some e.1) (λ e h. sym (keep.each e.0) ∙ h) alarms.dues.entries (All-found name_total alarms.dues ordered)

    -- the names that pass a test which fails where there is no timer
    names_passing : (test : NameValue → Bool) → ((n : NameValue) → test n ≡ true → is_some (dues n) ≡ true) → Lists name_cmp (λ n. test n ≡ true) (filter test (keys_of alarms.dues.entries))
    names_passing test some = record {
      rising = IsStrictlySortedBy-filter name_cmp test _ ordered;
      members = λ n. ((λ h. (Contains-from_filter test (keys_of alarms.dues.entries) n h).1), (λ h. Contains-filter test (keys_of alarms.dues.entries) n (Contains-keys_from_lookup (λ x y g. (name_decides x y).0 g) n alarms.dues.entries (ap is_some (keep.each n) ∙ some n h)) h));
    }

    due_some : (test : ℕ → Bool) (o : Option ℕ) → is_due_where test o ≡ true → is_some o ≡ true
    due_some test None h = absurd (true≢false (sym h))
    due_some test (Some d) h = refl

    -- as many moments pass as names have such a moment
    counted : (test : ℕ → Bool) (es : List (NameValue × ℕ)) → All (λ e. dues e.0 ≡ Some e.1) es → length (filter test (values_of es)) ≡ length (filter (λ n. is_due_where test (dues n)) (keys_of es))
    counted test [] h = refl
    counted test (e ∷ es) h = from (counted test es (All-tail (λ (e : NameValue × ℕ). dues e.0 ≡ Some e.1) e es h)) (test e.1) ∙ ap (λ (o : Option ℕ). length (cond (is_due_where test o) (e.0 ∷ filter (λ n. is_due_where test (dues n)) (keys_of es)) (filter (λ n. is_due_where test (dues n)) (keys_of es)))) (sym (All-head (λ (e : NameValue × ℕ). dues e.0 ≡ Some e.1) e es h)) where
      from : length (filter test (values_of es)) ≡ length (filter (λ n. is_due_where test (dues n)) (keys_of es)) → (b : Bool) → length (cond b (e.1 ∷ filter test (values_of es)) (filter test (values_of es))) ≡ length (cond b (e.0 ∷ filter (λ n. is_due_where test (dues n)) (keys_of es)) (filter (λ n. is_due_where test (dues n)) (keys_of es)))
      from rest true = omega arith
      from rest false = rest

    pub count_listed : (test : ℕ → Bool) (names : List NameValue) → Lists name_cmp (λ n. is_due_where test (dues n) ≡ true) names → length (filter test (values_of alarms.dues.entries)) ≡ length names
    count_listed test names l = counted test alarms.dues.entries found ∙ ap length (one_list name_total _ _ names (names_passing (λ n. is_due_where test (dues n)) (λ n. due_some test (dues n))) l)

    all_pass : (es : List (NameValue × ℕ)) → length (filter (λ d. true) (values_of es)) ≡ length es
    all_pass [] = refl
    all_pass (e ∷ es) = let rest = all_pass es in omega arith

    pub count_all : (names : List NameValue) → Lists name_cmp (λ n. is_some (dues n) ≡ true) names → length alarms.dues.entries ≡ length names
    count_all names l = sym (all_pass alarms.dues.entries) ∙ count_listed (λ d. true) names (lists_same name_total _ _ names (λ n h. sym (some_due (dues n)) ∙ h) (λ n h. some_due (dues n) ∙ h) l)

    -- the names that are due, one entry after another
    picked : (stopped : NameValue → Bool) (now : ℕ) (es : List (NameValue × ℕ)) → All (λ e. dues e.0 ≡ Some e.1) es → filter_map (λ e. due_name stopped now e.0 e.1) es ≡ filter (λ n. not (stopped n) && is_until now (dues n)) (keys_of es)
    picked stopped now [] h = refl
    picked stopped now (e ∷ es) h = from (picked stopped now es (All-tail (λ (e : NameValue × ℕ). dues e.0 ≡ Some e.1) e es h)) (not (stopped e.0) && nat_le e.1 now) ∙ ap (λ (o : Option ℕ). cond (not (stopped e.0) && is_until now o) (e.0 ∷ filter (λ n. not (stopped n) && is_until now (dues n)) (keys_of es)) (filter (λ n. not (stopped n) && is_until now (dues n)) (keys_of es))) (sym (All-head (λ (e : NameValue × ℕ). dues e.0 ≡ Some e.1) e es h)) where
      from : filter_map (λ (e : NameValue × ℕ). due_name stopped now e.0 e.1) es ≡ filter (λ n. not (stopped n) && is_until now (dues n)) (keys_of es) → (b : Bool) → cons_option (cond b (Some e.0) None) (filter_map (λ (e : NameValue × ℕ). due_name stopped now e.0 e.1) es) ≡ cond b (e.0 ∷ filter (λ n. not (stopped n) && is_until now (dues n)) (keys_of es)) (filter (λ n. not (stopped n) && is_until now (dues n)) (keys_of es))
      from same true = ap (λ (ns : List NameValue). e.0 ∷ ns) same
      from same false = same

    pub names_due : (stopped : NameValue → Bool) (now : ℕ) (names : List NameValue) → names ≡ filter_map (λ e. due_name stopped now e.0 e.1) alarms.dues.entries → Lists name_cmp (λ n. (not (stopped n) && is_until now (dues n)) ≡ true) names
    names_due stopped now names is = rw (is ∙ picked stopped now alarms.dues.entries found) (names_passing (λ n. not (stopped n) && is_until now (dues n)) (λ n h. due_some (λ d. nat_le d now) (dues n) (second_so (not (stopped n)) (is_until now (dues n)) h)))

    -- the names with a timer that pass a test
    pub names_some : (p : NameValue → Bool) (names : List NameValue) → names ≡ filter p (keys alarms.dues) → Lists name_cmp (λ n. (p n && is_some (dues n)) ≡ true) names
    names_some p names is = rw (is ∙ alike alarms.dues.entries found) (names_passing (λ n. p n && is_some (dues n)) (λ n. second_so (p n) (is_some (dues n)))) where
      and_true : (b : Bool) → b ≡ (b && true)
      and_true true = refl
      and_true false = refl

      alike : (es : List (NameValue × ℕ)) → All (λ e. dues e.0 ≡ Some e.1) es → filter p (keys_of es) ≡ filter (λ n. p n && is_some (dues n)) (keys_of es)
      alike [] h = refl
      alike (e ∷ es) h =
          ap (λ (ns : List NameValue). cond (p e.0) (e.0 ∷ ns) ns) (alike es (All-tail (λ (e : NameValue × ℕ). dues e.0 ≡ Some e.1) e es h))
          ∙ ap (λ (b : Bool). cond b (e.0 ∷ filter (λ n. p n && is_some (dues n)) (keys_of es)) (filter (λ n. p n && is_some (dues n)) (keys_of es))) (and_true (p e.0) ∙ ap (λ (o : Option ℕ). p e.0 && is_some o) (sym (All-head (λ (e : NameValue × ℕ). dues e.0 ≡ Some e.1) e es h)))

-- the names that pass, one after another
module _ (p : NameValue → Bool) (all names rest after : List NameValue) (n : NameValue) (so_far : filter p all ≡ names ++ filter p rest) (next : rest ≡ n ∷ after) where
  at_next : (b : Bool) → b ≡ p n → filter p all ≡ names ++ cond b (n ∷ filter p after) (filter p after)
  at_next b is = so_far ∙ ap (λ (ks : List NameValue). names ++ filter p ks) next ∙ ap (λ (c : Bool). names ++ cond c (n ∷ filter p after) (filter p after)) (sym is)

  pub name_put : (new : List NameValue) (b : Bool) → b ≡ p n → b ≡ true → new ≡ names ++ n ∷ [] → filter p all ≡ new ++ filter p after
  name_put new b is told put = at_next true (sym told ∙ is) ∙ sym (append_assoc names (n ∷ []) (filter p after)) ∙ ap (λ (ns : List NameValue). ns ++ filter p after) (sym put)

  pub name_left : (b : Bool) → b ≡ p n → b ≡ false → filter p all ≡ names ++ filter p after
  name_left b is told = at_next false (sym told ∙ is)
