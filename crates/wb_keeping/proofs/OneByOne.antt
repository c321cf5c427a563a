-- Names and pages that are gone over one by one.
use Rattle.std.proofs.Common.{◌≡◌, ℕ, ◌+◌, ◌<◌, ◌≤◌, Bool, true, false, cond, List, [], ◌∷◌, ◌∙◌, ap, drop, get_or, length, map, subst, sym}
use Rattle.std.proofs.lemmas.List.{drop_all, drop_more}
use Rattle.wb_names.specs.Values.{NameValue}
use Rattle.wb_member.specs.declared.calls.Call.TheVariants.{Stop}
use Rattle.wb_keeping.specs.Kept.{Calls, Doing, Line, and_then, is_begun, is_unasked, still, stops_for, want, want_near, want_told}
use Rattle.wb_keeping.specs.Performing.{DoesQuietly, IsKeptAt, Keeping, KeptValue, sees, view_of}
use Rattle.wb_policy.specs.Policy.{Policy}
use Rattle.wb_keeping.specs.Views.{View}
use Rattle.wb_keeping.specs.Steps.{performs_all}
use Rattle.wb_keeping.proofs.Performed.{quiet_as, quiet_more, quiet_then}
use Rattle.wb_keeping.proofs.Wanted.{not_begun}

-- ---- the next of a list

-- what is done for the whole list is done for its rest, once that was done for the next
pub at_next : {X : Type 0} (P : List X → Type 0) (xs : List X) (i : ℕ) (d : X) → i < length xs → P (get_or xs i d ∷ drop (i + 1) xs) → P (drop i xs)
at_next P xs i d lt p = subst P (sym (drop_more xs i d lt)) p

pub at_end : {X : Type 0} (P : List X → Type 0) (xs : List X) (i : ℕ) → length xs ≤ i → P [] → P (drop i xs)
at_end P xs i le p = subst P (sym (drop_all i xs le)) p

-- ---- names that are stopped, and wanted

pub stop_next : (names : List NameValue) (i : ℕ) (d : NameValue) {a b c : KeptValue} → i < length names → DoesQuietly (performs_all (Calls (Stop (get_or names i d)) ∷ [])) a b → DoesQuietly (performs_all (stops_for (drop (i + 1) names))) b c → DoesQuietly (performs_all (stops_for (drop i names))) a c
stop_next names i d {a} {b} {c} lt one rest = at_next (λ (ns : List NameValue). DoesQuietly (performs_all (stops_for ns)) a c) names i d lt (quiet_more (Calls (Stop (get_or names i d)) ∷ []) (stops_for (drop (i + 1) names)) one rest)

pub told_next : (names : List NameValue) (i : ℕ) (d : NameValue) {a b c : KeptValue} → i < length names → DoesQuietly (want (get_or names i d) true) a b → DoesQuietly (want_told (drop (i + 1) names)) b c → DoesQuietly (want_told (drop i names)) a c
told_next names i d {a} {b} {c} lt one rest = at_next (λ (ns : List NameValue). DoesQuietly (want_told ns) a c) names i d lt (quiet_then (want (get_or names i d) true) (want_told (drop (i + 1) names)) one rest)

-- what is done for the next one, and for the rest
module _ (n : NameValue) (names : List NameValue) (see : List Line → View) (p : Policy) where
  abbrev by_begun : Bool → Doing
  by_begun b = cond b (and_then (want n false) (want_near names) see p) (still see p)

  abbrev by_unasked : Bool → Doing
  by_unasked b = cond b (by_begun (is_begun (want n false see p))) (want_near names see p)

  pub passed_by : is_unasked (see []) n ≡ false → want_near (n ∷ names) see p ≡ want_near names see p
  passed_by known = ap by_unasked known

  pub begun_first : is_unasked (see []) n ≡ true → is_begun (want n false see p) ≡ true → want_near (n ∷ names) see p ≡ and_then (want n false) (want_near names) see p
  begun_first unknown begun = ap by_unasked unknown ∙ ap by_begun begun

  pub ended_by : is_unasked (see []) n ≡ true → is_begun (want n false see p) ≡ false → want_near (n ∷ names) see p ≡ want n false see p
  ended_by unknown begun = ap by_unasked unknown ∙ ap by_begun begun ∙ sym (not_begun n false see p begun)

-- the next one has a timer, or is held
pub near_passed : (names : List NameValue) (i : ℕ) (d : NameValue) {a c : KeptValue} → i < length names → ((k : Keeping) → IsKeptAt a k → is_unasked (view_of k.host) (get_or names i d) ≡ false) → DoesQuietly (want_near (drop (i + 1) names)) a c → DoesQuietly (want_near (drop i names)) a c
near_passed names i d {a} {c} lt known rest = at_next (λ (ns : List NameValue). DoesQuietly (want_near ns) a c) names i d lt (
    let n = get_or names i d in
    let ns = drop (i + 1) names in
    quiet_as (want_near (n ∷ ns)) (want_near ns) (λ k at. passed_by n ns (sees k.host) k.policy (known k at)) rest)

-- it is asked for
pub near_begun : (names : List NameValue) (i : ℕ) (d : NameValue) {a b c : KeptValue} → i < length names → ((k : Keeping) → IsKeptAt a k → is_unasked (view_of k.host) (get_or names i d) ≡ true)
    → ((k : Keeping) → IsKeptAt a k → is_begun (want (get_or names i d) false (sees k.host) k.policy) ≡ true)
    → DoesQuietly (want (get_or names i d) false) a b → DoesQuietly (want_near (drop (i + 1) names)) b c → DoesQuietly (want_near (drop i names)) a c
near_begun names i d {a} {b} {c} lt unknown begun one rest = at_next (λ (ns : List NameValue). DoesQuietly (want_near ns) a c) names i d lt (
    let n = get_or names i d in
    let ns = drop (i + 1) names in
    quiet_as (want_near (n ∷ ns)) (and_then (want n false) (want_near ns)) (λ k at. begun_first n ns (sees k.host) k.policy (unknown k at) (begun k at)) (quiet_then (want n false) (want_near ns) one rest))

-- it is not asked for, which ends it
pub near_ended : (names : List NameValue) (i : ℕ) (d : NameValue) {a b : KeptValue} → i < length names → ((k : Keeping) → IsKeptAt a k → is_unasked (view_of k.host) (get_or names i d) ≡ true)
    → ((k : Keeping) → IsKeptAt a k → is_begun (want (get_or names i d) false (sees k.host) k.policy) ≡ false)
    → DoesQuietly (want (get_or names i d) false) a b → DoesQuietly (want_near (drop i names)) a b
near_ended names i d {a} {b} lt unknown begun one = at_next (λ (ns : List NameValue). DoesQuietly (want_near ns) a b) names i d lt (
    let n = get_or names i d in
    let ns = drop (i + 1) names in
    quiet_as (want_near (n ∷ ns)) (want n false) (λ k at. ended_by n ns (sees k.host) k.policy (unknown k at) (begun k at)) one)
