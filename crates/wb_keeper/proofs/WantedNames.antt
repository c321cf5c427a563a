-- The names that a keeper wants of a page: a walk over its gaps, and what it stops at.
use Rattle.std.proofs.Common.{◌≡◌, ℕ, zero, suc, ◌+◌, ◌-◌, ◌<◌, ◌≤◌, Bool, List, [], ◌∷◌, ◌++◌, length, get_or, take, refl, ap, ◌∙◌, sym, subst, arith, append_assoc, append-nil}
use Rattle.std.specs.Prelude.{◌≢◌, All, Option, Some, None, Ok, filter, is_some, map, not}
use Rattle.std.proofs.lemmas.List.Sums.{length-filter, count_by-le-length}
use Rattle.wb_names.specs.Faults.{value_unless}
use Rattle.std.proofs.lemmas.List.{get_or_default, length-take, map-append, length-append, take-append-le, take_all}
use Rattle.std.proofs.lemmas.List.Elements.{filter-append, filter_agree}
use Rattle.wb_names.specs.Values.{NameValue, DrawopValue, MarkValue}
use Rattle.wb_names.specs.History.{name_of}
use Rattle.wb_names.specs.declared.gap.Gap.{Gap}
use Rattle.wb_names.specs.declared.name.PageId.{PageId}
use Rattle.wb_gaps.specs.Gaps.{AreGaps}
use Rattle.wb_recovery.specs.Events.{Event, asking, names_of, timers_of}
use Rattle.wb_recovery.specs.Accepted as timers
use Rattle.wb_recovery.specs.Values.{RecoveryValue, timers_in}
use Rattle.wb_recovery.specs.declared.tuning.Tuning.{Tuning}
use Rattle.wb_recovery.specs.declared.timers.Timers.{Timers}
use Rattle.wb_keeper.specs.Missing.{is_unasked, numbers_from, names_in_gap, names_in_gaps, wanted}

numbers_split : (first k m : ℕ) → numbers_from first (k + m) ≡ numbers_from first k ++ numbers_from (first + k) m
numbers_split first zero m = ap (numbers_from first) (omega arith) ∙ ap (λ (f : ℕ). numbers_from f m) (omega arith)
numbers_split first (suc k) m =
    let sum : suc k + m ≡ suc (k + m) = omega arith in
    let from : first + 1 + k ≡ first + suc k = omega arith in
    ap (numbers_from first) sum ∙ ap (λ (ns : List ℕ). first ∷ ns) (numbers_split (first + 1) k m ∙ ap (λ (f : ℕ). numbers_from (first + 1) k ++ numbers_from f m) from)

-- ---- lists that stop at `room` members

taken_full : {X : Type 0} (room : ℕ) (all rest names : List X) → names ≡ take room all → length names ≡ room → names ≡ take room (all ++ rest)
taken_full room all rest names is full =
    let long : room ≤ length all = omega (arith, ap length is, length-take room all) in
    is ∙ sym (take-append-le room all rest long)

taken_more : {X : Type 0} (room : ℕ) (all names rest : List X) → names ≡ take room all → length names < room → length rest ≤ 1 → (length (names ++ rest) ≤ room) × (names ++ rest ≡ take room (all ++ rest))
taken_more {X} room all names rest is lt one =
    let short : length all < room = omega (arith, ap length is, length-take room all) in
    let whole : names ≡ all = is ∙ take_all room all (omega arith) in (
      omega (arith, length-append names rest),
      ap (λ (ns : List X). ns ++ rest) whole ∙ sym (take_all room (all ++ rest) (omega (arith, length-append all rest))),
    )

taken_twice : {X : Type 0} (room : ℕ) (xs ys : List X) → take room (take room xs ++ ys) ≡ take room (xs ++ ys)
taken_twice zero xs ys = refl
taken_twice (suc room) [] ys = refl
taken_twice {X} (suc room) (x ∷ xs) ys = ap (λ (zs : List X). x ∷ zs) (taken_twice room xs ys)

-- ---- the names of a gap, one after another

abbrev pub part : PageId → ℕ → ℕ → ℕ → List NameValue
part page source first count = map (name_of page source) (numbers_from first count)

part_split : (page : PageId) (source first k m : ℕ) → part page source first (k + m) ≡ part page source first k ++ part page source (first + k) m
part_split page source first k m = ap (map (name_of page source)) (numbers_split first k m) ∙ map-append (name_of page source) (numbers_from first k) (numbers_from (first + k) m)

part_more : (page : PageId) (source first seq : ℕ) → first ≤ seq → part page source first (seq + 1 - first) ≡ part page source first (seq - first) ++ name_of page source seq ∷ []
part_more page source first seq le =
    let sum : seq + 1 - first ≡ seq - first + 1 = omega arith in
    let at : first + (seq - first) ≡ seq = omega arith in
    ap (part page source first) sum ∙ part_split page source first (seq - first) 1 ∙ ap (λ (n : ℕ). part page source first (seq - first) ++ name_of page source n ∷ []) at

module _ (p : NameValue → Bool) (room : ℕ) (old : List NameValue) (page : PageId) (source first seq : ℕ) (names : List NameValue) (le : first ≤ seq) (is : names ≡ take room (old ++ filter p (part page source first (seq - first)))) where
  -- one more name is looked at
  pub name_more : (name : NameValue) (after : List NameValue) → name ≡ name_of page source seq → length names ≤ room → length names ≢ room → after ≡ names ++ filter p (name ∷ [])
      → (length after ≤ room) × (after ≡ take room (old ++ filter p (part page source first (seq + 1 - first))))
  name_more name after named few not_full more =
      let all : filter p (part page source first (seq + 1 - first)) ≡ filter p (part page source first (seq - first)) ++ filter p (name ∷ [])
      = ap (filter p) (part_more page source first seq le) ∙ filter-append p (part page source first (seq - first)) (name_of page source seq ∷ []) ∙ ap (λ (n : NameValue). filter p (part page source first (seq - first)) ++ filter p (n ∷ [])) (sym named) in
      let one : length (filter p (name ∷ [])) ≤ 1 = omega (arith, length-filter p (name ∷ []), count_by-le-length p (name ∷ [])) in
      let added = taken_more room (old ++ filter p (part page source first (seq - first))) names (filter p (name ∷ [])) is (omega arith) one in (
        subst (λ (ns : List NameValue). length ns ≤ room) (sym more) added.0,
        more ∙ added.1 ∙ ap (take room) (append_assoc old (filter p (part page source first (seq - first))) (filter p (name ∷ [])) ∙ ap (λ (ns : List NameValue). old ++ ns) (sym all)),
      )

  -- the list is full, up to the end of the gap
  pub no_room : (last : ℕ) → seq ≤ last + 1 → length names ≡ room → names ≡ take room (old ++ filter p (part page source first (last + 1 - first)))
  no_room last within full =
      let sum : last + 1 - first ≡ seq - first + (last + 1 - seq) = omega arith in
      taken_full room (old ++ filter p (part page source first (seq - first))) (filter p (part page source (first + (seq - first)) (last + 1 - seq))) names is full
      ∙ ap (take room) (append_assoc old (filter p (part page source first (seq - first))) (filter p (part page source (first + (seq - first)) (last + 1 - seq)))
      ∙ ap (λ (ns : List NameValue). old ++ ns) (sym (ap (λ (n : ℕ). filter p (part page source first n)) sum ∙ ap (filter p) (part_split page source first (seq - first) (last + 1 - seq)) ∙ filter-append p (part page source first (seq - first)) (part page source (first + (seq - first)) (last + 1 - seq)))))

-- ---- the names of all gaps, one gap after another

module _ (p : NameValue → Bool) (room : ℕ) (page : PageId) where
  pub gap_taken : (g : Gap) (gaps : List Gap) (names after all : List NameValue) → take room (names ++ filter p (names_in_gaps page (g ∷ gaps))) ≡ all → after ≡ take room (names ++ filter p (names_in_gap page g)) → take room (after ++ filter p (names_in_gaps page gaps)) ≡ all
  gap_taken g gaps names after all is more =
      let mine : List NameValue = filter p (names_in_gap page g) in
      let rest : List NameValue = filter p (names_in_gaps page gaps) in
      ap (λ (ns : List NameValue). take room (ns ++ rest)) more ∙ taken_twice room (names ++ mine) rest ∙ ap (take room) (append_assoc names mine rest)
      ∙ sym (ap (λ (ns : List NameValue). take room (names ++ ns)) (filter-append p (names_in_gap page g) (names_in_gaps page gaps))) ∙ is

  -- there is no further gap
  pub none_left : (names all : List NameValue) → length names ≤ room → take room (names ++ []) ≡ all → names ≡ all
  none_left names all few is = sym (take_all room names few) ∙ sym (ap (take room) (append-nil names)) ∙ is

pub few_taken : (room : ℕ) (all names : List NameValue) → names ≡ take room all → length names ≤ room
few_taken room all names is = omega (arith, ap length is, length-take room all)

-- the first number of a gap is one that is missing
pub gaps_start : (history : List DrawopValue) (page : PageId) (marks : List MarkValue) (gaps : List Gap) → AreGaps history page marks gaps → All (λ g. 1 ≤ g.first) gaps
gaps_start history page marks gaps are k d lt =
    let g : Gap = get_or gaps k d in
    let missing = (are.missing g.source g.first).0 (g, (k, lt, get_or_default gaps k g d lt), refl, omega arith, are.filled k d lt) in
    missing.counted

pub value_is : {A F : Type 0} (fault : Option F) (x y : A) → value_unless fault x ≡ Ok y → y ≡ x
value_is None x y e = cc
value_is (Some f) x y e = cc

same_unasked : (one other : NameValue → Timers) (name : NameValue) → one name ≡ other name → is_unasked one name ≡ is_unasked other name
same_unasked one other name e = ap (λ (s : Timers). not (is_some s.ask)) e

-- the same, as what the timers stand for says
pub wanted_as : (recovery : RecoveryValue) (constants : Tuning) (events : List Event) (asks room : ℕ) (page : PageId) (gaps : List Gap) (names : List NameValue)
    → timers.StandsFor constants events recovery → asks ≡ length (asking (names_of events) (timers_of constants events)) → room ≡ 64 - asks
    → names ≡ take room (filter (is_unasked (timers_in recovery)) (names_in_gaps page gaps))
    → names ≡ wanted (timers_of constants events) (length (asking (names_of events) (timers_of constants events))) (names_in_gaps page gaps)
wanted_as recovery constants events asks room page gaps names s standing left all =
    all ∙ ap (λ (n : ℕ). take n (filter (is_unasked (timers_in recovery)) (names_in_gaps page gaps))) (left ∙ ap (λ (n : ℕ). 64 - n) standing)
    ∙ ap (take (64 - length (asking (names_of events) (timers_of constants events)))) (filter_agree (is_unasked (timers_in recovery)) (is_unasked (timers_of constants events)) (λ n. same_unasked (timers_in recovery) (timers_of constants events) n (s.timers n)) (names_in_gaps page gaps))

-- where 64 request timers stand, there is none
pub none_wanted : (constants : Tuning) (events : List Event) (asks room : ℕ) (missing names : List NameValue) → asks ≡ length (asking (names_of events) (timers_of constants events)) → room ≡ 64 - asks → room ≡ 0 → names ≡ []
    → names ≡ wanted (timers_of constants events) (length (asking (names_of events) (timers_of constants events))) missing
none_wanted constants events asks room missing names standing left full none =
    none ∙ ap (λ (n : ℕ). take n (filter (is_unasked (timers_of constants events)) missing)) (sym full ∙ left ∙ ap (λ (n : ℕ). 64 - n) standing)
