-- Tests of what a session lacks that compute, and what they tell. All that was held is given as a list of names.
use Rattle.std.proofs.Common.{◌≡◌, ◌⊎◌, ℕ, suc, ◌+◌, ◌≤◌, Bool, true, false, not, ◌&&◌, ◌||◌, List, [], ◌∷◌, arith, eqb-true, inl, inr, length, max, nat_le, nat_lt, refl, subst, sym, true≢false, ⊎_elim}
use Rattle.std.specs.Prelude.{zero, Contains, Option, None, Some, filter}
use Rattle.std.proofs.lemmas.Bool.{and_parts, leb-false, leb-true, ltb-true, not-true, not_from_false, or_cases}
use Rattle.wb_names.specs.History.{IsHeld, highest, is_of, name_of}
use Rattle.wb_names.specs.Orders.{same_name, same_page}
use Rattle.wb_names.specs.Values.{DrawopValue, NameValue}
use Rattle.wb_names.specs.declared.name.PageId.{PageId}
use Rattle.wb_names.proofs.Listings.{Contains-filter, Contains-here}
use Rattle.wb_names.proofs.Orders.{same_name-is, same_page-is}
use Rattle.wb_recovery.specs.declared.timers.AskTimer.{AskTimer}
use Rattle.wb_gaps.specs.Gaps.{IsMissing}
use Rattle.wb_gaps.proofs.HeldNames.{held-from}
use Rattle.wb_gaps.proofs.Reports.{greatest_held}
use Rattle.wb_progress.specs.InTime.{known_from}
use Rattle.wb_progress.specs.Turns.{Terms, settled_by}
use Rattle.wb_progress.proofs.Giving.{held_as}
use Rattle.wb_progress.proofs.NamesApart.{no_longer}
use Rattle.wb_keeper.specs.Keeper.{holds as has}
use Rattle.wb_member.specs.Judged.{holds}
use Rattle.wb_member.specs.Opened.{Opened}
use Rattle.wb_kept_progress.specs.Filling.{OnlyHolesAreLacked}
use Rattle.wb_kept_progress.specs.Rounds.{OneLacksAtMost}
use Rattle.wb_kept_progress.specs.Sessions.{Opening}
use Rattle.wb_kept_progress.specs.Timed.{At, host_after, performed, start_of, time_of, timers_after, until}
use Rattle.wb_kept_progress.specs.Whole.{HolesAreHeld, IsHeldBySome, WaitAtMost, there}
use Rattle.wb_kept_progress.proofs.Coming.{missing_below}
use Rattle.wb_kept_progress.proofs.Tested.{in_middle}
use Rattle.wb_kept_progress.proofs.Testing.{each, each-at, parts, parts-at, some, some-at}
use Rattle.wb_keeping.specs.Laws.{KeptLine}

-- ---- numbers up to one

abbrev pub each_up_to : (ℕ → Bool) → ℕ → Bool
each_up_to test zero = true
each_up_to test (suc n) = test (suc n) && each_up_to test n

each_up_to-at : (test : ℕ → Bool) (top n : ℕ) → each_up_to test top ≡ true → 1 ≤ n → n ≤ top → test n ≡ true
each_up_to-at test zero n all counted le = absurd (omega (arith, counted, le))
each_up_to-at test (suc top) n all counted le =
    let p = and_parts (test (suc top)) (each_up_to test top) all in
    ⊎_elim
    (λ (here : n ≡ suc top). subst (λ (m : ℕ). test m ≡ true) (sym here) p.0)
    (λ (under : n ≤ top). each_up_to-at test top n p.1 counted under)
    (either (nat_le n top) refl) where
      either : (b : Bool) → nat_le n top ≡ b → (n ≡ suc top) ⊎ (n ≤ top)
      either true is = inr (leb-true n top is)
      either false above = inl (let lt = leb-false n top above in omega (arith, le, lt))

-- ---- names

-- a timer is due by a moment, or there is none
abbrev ends_by : (lag by : ℕ) → Option AskTimer → Bool
ends_by lag by None = true
ends_by lag by (Some ask) = nat_le (ask.due + lag) by

-- a number from 1 on is not above one that is held of that source on that page
abbrev is_below : List DrawopValue → NameValue → Bool
is_below held n = nat_le 1 n.seq && some (λ (d : DrawopValue). is_of n.page n.source d && nat_le n.seq d.name.seq) held

below_so : (held : List DrawopValue) (n : NameValue) → is_below held n ≡ true → has held n ≡ false → IsMissing held n.page [] n.source n.seq
below_so held n so lacks =
    let p = and_parts (nat_le 1 n.seq) _ so in
    let q = some-at (λ (d : DrawopValue). is_of n.page n.source d && nat_le n.seq d.name.seq) held p.1 in
    let r = and_parts (is_of n.page n.source q.x) _ q.passes in
    let c = in_middle held q.front q.x q.back q.split in
    missing_below held n q.x.name.seq (leb-true _ _ p.0) (leb-true _ _ r.1) lacks (c.0, q.x, c.1, c.2, named q.x r.0) where
      named : (d : DrawopValue) → is_of n.page n.source d ≡ true → d.name ≡ name_of n.page n.source d.name.seq
      named d is =
          let p = and_parts (same_page d.name.page n.page) _ is in
          one d.name.page d.name.source d.name.seq (same_page-is _ _ p.0) (eqb-true _ _ p.1) where
            one : (page : PageId) (source seq : ℕ) → page ≡ n.page → source ≡ n.source → name_of page source seq ≡ name_of n.page n.source seq
            one page source seq e f = cc

abbrev pub is_hole : List DrawopValue → NameValue → Bool
is_hole held n = is_below held n && not (has held n)

pub hole_so : (held : List DrawopValue) (n : NameValue) → is_hole held n ≡ true → IsMissing held n.page [] n.source n.seq
hole_so held n so = let p = and_parts (is_below held n) _ so in below_so held n p.0 (not-true (has held n) p.1)

module _ (hosts : ℕ → Opening) (terms : Terms) (trace : List (At KeptLine)) (names : List NameValue) where
  abbrev is_one : NameValue → Bool
  is_one n = some (same_name n) names

  one_so : (n : NameValue) → is_one n ≡ true → Contains names n
  one_so n so =
      let p = some-at (same_name n) names so in
      subst (Contains names) (sym (same_name-is n p.x p.passes)) (in_middle names p.front p.x p.back p.split)

  -- a host once what was on its way has arrived
  abbrev pub settled_host : ℕ → Opened
  settled_host i = host_after (λ j. start_of (hosts j)) (until (settled_by terms) (performed hosts trace)) i

  -- ---- the names are those that some live host held

  abbrev some_holds : NameValue → Bool
  some_holds n = some (λ j. holds (settled_host j) n) terms.live

  abbrev holds_these : ℕ → Bool
  holds_these i = each (λ (d : DrawopValue). is_one d.name) (settled_host i).is.held

  abbrev pub are_held : Bool
  are_held = each some_holds names && each holds_these terms.live

  abbrev is_lacked : ℕ → NameValue → Bool
  is_lacked i n = not (holds (settled_host i) n)

  abbrev lacks_few : ℕ → ℕ → Bool
  lacks_few most i = nat_le (length (filter (is_lacked i) names)) most

  abbrev pub all_lack_few : ℕ → Bool
  all_lack_few most = each (lacks_few most) terms.live

  abbrev waits_short : ℕ → ℕ → Bool
  waits_short wait i = each (λ n. ends_by (terms.lag i) (known_from terms + wait) (timers_after (λ j. start_of (hosts j)) (until (known_from terms) (performed hosts trace)) i n).ask) names

  abbrev pub all_wait_short : ℕ → Bool
  all_wait_short wait = each (waits_short wait) terms.live

  -- ---- tests of each part

  -- each number up to one that a live host holds is one of the names
  abbrev has_held_holes : List (At KeptLine) → ℕ → Bool
  has_held_holes part i = each (λ (d : DrawopValue). each_up_to (λ m. is_one (name_of d.name.page d.name.source m)) d.name.seq) (there hosts part i).host.is.held

  abbrev pub holes_held : List (At KeptLine) → Bool
  holes_held part = nat_le (time_of part) (settled_by terms) || each (has_held_holes part) terms.live

  -- each of the names is held, or is below one that is
  abbrev lacks_holes : List (At KeptLine) → ℕ → Bool
  lacks_holes part i = each (λ n. holds (there hosts part i).host n || is_below (there hosts part i).host.is.held n) names

  abbrev pub only_holes : ℕ → List (At KeptLine) → Bool
  only_holes since part = nat_lt (time_of part) since || each (lacks_holes part) terms.live

  -- ---- what they tell

  module _ (all : are_held ≡ true) where
    pub is_held : (n : NameValue) → Contains names n → IsHeldBySome hosts terms trace n
    is_held n c =
        let so = each-at some_holds names n (and_parts (each some_holds names) _ all).0 c in
        let p = some-at (λ j. holds (settled_host j) n) terms.live so in
        (p.x, in_middle terms.live p.front p.x p.back p.split, p.passes)

    is_named : (n : NameValue) → IsHeldBySome hosts terms trace n → Contains names n
    is_named n held =
        let d = held_as (settled_host held.0).is.held n held.2 in
        let these = each-at holds_these terms.live held.0 (and_parts (each some_holds names) _ all).1 held.1 in
        subst (Contains names) d.2 (one_so d.0.name (each-at (λ (x : DrawopValue). is_one x.name) (settled_host held.0).is.held d.0 these d.1))

    pub one_lacks : (most : ℕ) → all_lack_few most ≡ true → OneLacksAtMost hosts terms trace most
    one_lacks most few i [] apart lacked = omega arith
    one_lacks most few i (n ∷ lacks) apart lacked =
        under (length (n ∷ lacks)) (length (filter (is_lacked i) names)) most
        (no_longer (n ∷ lacks) (filter (is_lacked i) names) apart (λ m c. Contains-filter (is_lacked i) names m (is_named m (lacked m c).1) (not_from_false (holds (settled_host i) m) (lacked m c).2)))
        (leb-true _ _ (each-at (lacks_few most) terms.live i few (lacked n (Contains-here n lacks)).0)) where
          under : (a b c : ℕ) → a ≤ b → b ≤ c → a ≤ c
          under a b c p q = omega (arith, p, q)

    pub waits_for : (wait : ℕ) → all_wait_short wait ≡ true → WaitAtMost hosts terms trace wait
    waits_for wait short i n ask live held stands =
        let so = each-at (λ m. ends_by (terms.lag i) (known_from terms + wait) (timer m)) names n (each-at (waits_short wait) terms.live i short live) (is_named n held) in
        leb-true _ _ (subst (λ (o : Option AskTimer). ends_by (terms.lag i) (known_from terms + wait) o ≡ true) stands so) where
          timer : NameValue → Option AskTimer
          timer m = (timers_after (λ j. start_of (hosts j)) (until (known_from terms) (performed hosts trace)) i m).ask

    pub holes_are_held : parts holes_held trace ≡ true → HolesAreHeld hosts terms trace
    holes_are_held so newer older i n split live late missing = is_held n (by (greatest_held held n.page n.source).reached) where
      held : List DrawopValue
      held = (there hosts older i).host.is.held

      top : ℕ
      top = highest n.page n.source held

      counted : 1 ≤ n.seq
      counted = missing.counted

      under : n.seq ≤ top
      under = by_top n.seq top missing.below where
        by_top : (a b : ℕ) → a ≤ max b 0 → a ≤ b
        by_top a b le = omega (arith, le)

      all_live : each (has_held_holes older) terms.live ≡ true
      all_live = ⊎_elim
          (λ (early : nat_le (time_of older) (settled_by terms) ≡ true). let le = leb-true _ _ early in absurd (omega (arith, le, late)))
          (λ (is : each (has_held_holes older) terms.live ≡ true). is)
          (or_cases (nat_le (time_of older) (settled_by terms)) _ (parts-at holes_held trace newer older so split))

      by : (top ≡ 0) ⊎ IsHeld held n.page n.source top → Contains names n
      by (inl none) = absurd (none_below n.seq top none counted under) where
        none_below : (a b : ℕ) → b ≡ 0 → 1 ≤ a → a ≤ b → ⊥
        none_below a b e p q = omega (arith, e, p, q)
      by (inr h) =
          let d = held_as held (name_of n.page n.source top) (held-from held n.page n.source top h) in
          let test = each-at (λ (x : DrawopValue). each_up_to (λ m. is_one (name_of x.name.page x.name.source m)) x.name.seq) held d.0 (each-at (has_held_holes older) terms.live i all_live live) d.1 in
          one_so n (each_up_to-at (λ m. is_one (name_of n.page n.source m)) top n.seq
          (subst (λ (x : NameValue). each_up_to (λ m. is_one (name_of x.page x.source m)) x.seq ≡ true) d.2 test) counted under)

    pub only_holes_lacked : (since : ℕ) → parts (only_holes since) trace ≡ true → OnlyHolesAreLacked hosts terms trace since
    only_holes_lacked since so newer older i n split live late some_held lacks = below_so held n below lacks where
      held : List DrawopValue
      held = (there hosts older i).host.is.held

      all_live : each (lacks_holes older) terms.live ≡ true
      all_live = ⊎_elim
          (λ (early : nat_lt (time_of older) since ≡ true). let lt = ltb-true _ _ early in absurd (omega (arith, lt, late)))
          (λ (is : each (lacks_holes older) terms.live ≡ true). is)
          (or_cases (nat_lt (time_of older) since) _ (parts-at (only_holes since) trace newer older so split))

      below : is_below held n ≡ true
      below = ⊎_elim
          (λ (has : holds (there hosts older i).host n ≡ true). absurd (true≢false (sym (subst (λ (b : Bool). b ≡ true) lacks has))))
          (λ (is : is_below held n ≡ true). is)
          (or_cases (holds (there hosts older i).host n) _ (each-at (λ m. holds (there hosts older i).host m || is_below held m) names n (each-at (lacks_holes older) terms.live i all_live live) (is_named n some_held)))
