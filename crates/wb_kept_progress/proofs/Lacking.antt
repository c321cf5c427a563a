-- Sessions of the example hosts in which one drawing is held, and one of two hosts lacks it.
use Rattle.std.proofs.Common.{◌≡◌, ℕ, ◌+◌, ◌≤◌, Bool, true, false, not, ◌&&◌, ◌||◌, List, [], ◌∷◌, ◌∙◌, arith, eqb-true, inl, is_none, length, max, nat_eq, nat_le, nat_lt, subst, sym, true≢false, ⊎_elim}
use Rattle.std.specs.Prelude.{Contains, Option, None, Some}
use Rattle.std.proofs.lemmas.Bool.{and_parts, leb-true, ltb-true, not-true, or_cases}
use Rattle.wb_names.specs.Orders.{same_name}
use Rattle.wb_names.specs.Values.{DrawopValue, NameValue}
use Rattle.wb_names.proofs.Orders.{same_name-is}
use Rattle.wb_names.proofs.Listings.{Contains-here, Contains-there}
use Rattle.wb_judge.proofs.Stepping.{none_of}
use Rattle.wb_recovery.specs.declared.timers.AskTimer.{AskTimer}
use Rattle.wb_progress.specs.InTime.{AreApart, known_from}
use Rattle.wb_progress.specs.Turns.{Terms, settled_by}
use Rattle.wb_progress.proofs.Giving.{held_as}
use Rattle.wb_member.specs.Judged.{holds}
use Rattle.wb_member.specs.Opened.{Opened, asks_for}
use Rattle.wb_member.specs.declared.calls.Call.TheVariants.{Stop}
use Rattle.wb_keeping.specs.Kept.{Line, Calls}
use Rattle.wb_kept_progress.specs.Examples.{Meets, drawn, hosts, sizes_in, terms_of}
use Rattle.wb_kept_progress.specs.Rounds.{OneLacksAtMost, PlacesAreFilled}
use Rattle.wb_kept_progress.specs.Timed.{At, host_after, performed, start_of, time_of, timers_after, until}
use Rattle.wb_kept_progress.specs.Whole.{AreWithin, IsHeldBySome, IsLackedAt, IsTimelySession, Lack, LackAtMost, NewAreKept, ReportWithin, WaitAtMost, there}
use Rattle.wb_kept_progress.proofs.OwedAndDue.{reports_are_due}
use Rattle.wb_kept_progress.proofs.Promised.{all_are_soon}
use Rattle.wb_kept_progress.proofs.Tested.{Begins, all_fit, in_middle, passes, session_of, within_of}
use Rattle.wb_kept_progress.proofs.Testing.{each, each-at, parts, parts-at, two_live}
use Rattle.wb_keeping.specs.Laws.{KeptLine}

-- ---- lists of one thing

few : {X : Type 0} (x : X) (xs : List X) → AreApart xs → ((y : X) → Contains xs y → y ≡ x) → length xs ≤ 1
few x [] apart all = omega arith
few x (y ∷ []) apart all = omega arith
few x (y ∷ (z ∷ xs)) apart all = absurd (apart.0 again) where
  again : Contains (z ∷ xs) y
  again = subst (Contains (z ∷ xs)) (all z (Contains-there y z (z ∷ xs) (Contains-here z xs)) ∙ sym (all y (Contains-here y (z ∷ xs)))) (Contains-here z xs)

-- ---- one drawing is held, and one host lacks it

abbrev is_stop : Line → Bool
is_stop (Calls (Stop name)) = true
is_stop line = false

module _ (terms : Terms) (trace : List (At KeptLine)) where
  -- a host once what was on its way has arrived
  abbrev then_host : ℕ → Opened
  then_host i = host_after (λ j. start_of (hosts j)) (until (settled_by terms) (performed hosts trace)) i

  abbrev pub only_it : ℕ → Bool
  only_it i = each (λ (d : DrawopValue). same_name d.name drawn) (then_host i).is.held

  abbrev pub lacks_it : ℕ → Bool
  lacks_it i = nat_eq i 1 || holds (then_host i) drawn

  abbrev pub waits_for_it : ℕ → Bool
  waits_for_it i = is_none (timers_after (λ j. start_of (hosts j)) (until (known_from terms) (performed hosts trace)) i drawn).ask

  module _ (since : ℕ) where
    abbrev pub asks_for_it : List (At KeptLine) → Bool
    asks_for_it part = nat_lt (time_of part) since || each (λ i. holds (there hosts part i).host drawn || asks_for drawn (there hosts part i).host) terms.live

    abbrev pub stops_none : At Line → Bool
    stops_none x = nat_le x.time since || not (is_stop x.event)

  -- it is the only name that is held
  module _ (only : each only_it terms.live ≡ true) where
    is_it : (n : NameValue) → IsHeldBySome hosts terms trace n → n ≡ drawn
    is_it n held =
        let d = held_as (then_host held.0).is.held n held.2 in
        sym d.2 ∙ same_name-is d.0.name drawn (each-at (λ (x : DrawopValue). same_name x.name drawn) (then_host held.0).is.held d.0 (each-at only_it terms.live held.0 only held.1) d.1)

    who_lacks : each lacks_it terms.live ≡ true → (x : Lack) → IsLackedAt hosts terms trace (until (settled_by terms) (performed hosts trace)) x → x ≡ record { place = 1; name = drawn }
    who_lacks lacks x is =
        let named = is_it x.name is.1 in
        let placed = ⊎_elim
        (λ (one : nat_eq x.place 1 ≡ true). eqb-true x.place 1 one)
        (λ (has : holds (then_host x.place) drawn ≡ true). absurd (true≢false (sym has ∙ subst (λ (n : NameValue). holds (then_host x.place) n ≡ false) named is.2)))
        (or_cases (nat_eq x.place 1) _ (each-at lacks_it terms.live x.place lacks is.0)) in
        one_lack x.place x.name placed named where
          one_lack : (i : ℕ) (n : NameValue) → i ≡ 1 → n ≡ drawn → let x : Lack = record { place = i; name = n } in let y : Lack = record { place = 1; name = drawn } in x ≡ y
          one_lack i n e f = cc

    pub lack_one : each lacks_it terms.live ≡ true → LackAtMost hosts terms trace 1
    lack_one lacks all apart each_lacked = few (record { place = 1; name = drawn }) all apart (λ x c. who_lacks lacks x (each_lacked x c))

    pub one_lacks_one : OneLacksAtMost hosts terms trace 1
    one_lacks_one i names apart each_lacked = few drawn names apart (λ n c. is_it n (each_lacked n c).1)

    pub wait_for_none : each waits_for_it terms.live ≡ true → WaitAtMost hosts terms trace 0
    wait_for_none none i n ask live held stands =
        let named = is_it n held in
        let stops = none_of (timer drawn) (each-at waits_for_it terms.live i none live) in
        absurd (some_none ask (sym (subst (λ (m : NameValue). timer m ≡ Some ask) named stands) ∙ stops)) where
          timer : NameValue → Option AskTimer
          timer m = (timers_after (λ j. start_of (hosts j)) (until (known_from terms) (performed hosts trace)) i m).ask

          some_none : (a : AskTimer) → Some a ≡ None → ⊥
          some_none a e = cc

    pub places_filled : (since places : ℕ) → parts (asks_for_it since) trace ≡ true → PlacesAreFilled hosts terms trace since places
    places_filled since places filled newer older i n split live late held lacks =
        let named = is_it n held in
        inl (subst (λ (m : NameValue). asks_for m (there hosts older i).host ≡ true) (sym named) asks) where
          here : Bool
          here = each (λ k. holds (there hosts older k).host drawn || asks_for drawn (there hosts older k).host) terms.live

          all : here ≡ true
          all = ⊎_elim
              (λ (early : nat_lt (time_of older) since ≡ true). let lt = ltb-true _ _ early in absurd (omega (arith, lt, late)))
              (λ (is : here ≡ true). is)
              (or_cases (nat_lt (time_of older) since) here (parts-at (asks_for_it since) trace newer older filled split))

          asks : asks_for drawn (there hosts older i).host ≡ true
          asks = ⊎_elim
              (λ (has : holds (there hosts older i).host drawn ≡ true).
              absurd (true≢false (sym has ∙ subst (λ (m : NameValue). holds (there hosts older i).host m ≡ false) (is_it n held) lacks)))
              (λ (is : asks_for drawn (there hosts older i).host ≡ true). is)
              (or_cases (holds (there hosts older i).host drawn) _ (each-at (λ k. holds (there hosts older k).host drawn || asks_for drawn (there hosts older k).host) terms.live i all live))

  pub none_stops : (since : ℕ) → each (stops_none since) (performed hosts trace) ≡ true → NewAreKept hosts terms trace since
  none_stops since none front back x n ask split live late line stands = absurd (⊎_elim
      (λ (early : nat_le x.time since ≡ true). let le = leb-true _ _ early in omega (arith, le, late))
      (λ (other : not (is_stop x.event) ≡ true). true≢false (sym (subst (λ (l : Line). not (is_stop l) ≡ true) line other)))
      (or_cases (nat_le x.time since) _ (each-at (stops_none since) (performed hosts trace) x none (in_middle (performed hosts trace) front x back split))))

  -- ---- tests of all that

  abbrev pub lines_pass : ℕ → Bool
  lines_pass since =
      each (stops_none since) (performed hosts trace)
      && (each only_it terms.live && (each lacks_it terms.live && (each waits_for_it terms.live && (holds (then_host 0) drawn && not (holds (then_host 1) drawn)))))

  abbrev pub calls_pass : ℕ → Bool
  calls_pass since =
      passes hosts terms trace && (parts (all_fit hosts terms (sizes_in terms)) trace && (parts (asks_for_it since) trace && holds (there hosts trace 1).host drawn))

-- how long after `quiet` clocks begin, and how late hosts are called
pub record AreSmall (quiet late drift since : ℕ) (lag : ℕ → ℕ) : Type 0 where
  pub first : 1 + lag 0 ≤ quiet
  pub second : 1 + lag 1 ≤ quiet
  pub covered : drift ≤ late
  pub short : 4000000 + late + drift ≤ 60000000
  pub settled : quiet ≤ since

module _ (quiet late drift since : ℕ) (lag : ℕ → ℕ) (trace : List (At KeptLine)) (small : AreSmall quiet late drift since lag) where
  abbrev T : Terms
  T = terms_of quiet late drift lag

  begins : Begins hosts T
  begins = record {
    moments = λ i. (omega arith, tt);
    begun = λ i live. ⊎_elim
        (λ (zero : i ≡ 0). subst (λ (j : ℕ). 1 + lag j ≤ quiet) (sym zero) small.first)
        (λ (one : i ≡ 1). subst (λ (j : ℕ). 1 + lag j ≤ quiet) (sym one) small.second)
        (two_live i live);
    distinct = λ i j same. omega (arith, same);
    waits = λ i live. (omega arith, omega arith);
    covered = small.covered;
  }

  -- the tests, taken apart
  record Passed : Type 0 where
    session : IsTimelySession hosts T trace
    within : AreWithin hosts T trace (sizes_in T)
    filled : parts (asks_for_it T trace since) trace ≡ true
    comes : holds (there hosts trace 1).host drawn ≡ true
    kept : each (stops_none T trace since) (performed hosts trace) ≡ true
    only : each (only_it T trace) T.live ≡ true
    lacks : each (lacks_it T trace) T.live ≡ true
    waits : each (waits_for_it T trace) T.live ≡ true
    held : holds (then_host T trace 0) drawn ≡ true
    lost : holds (then_host T trace 1) drawn ≡ false

  passed : calls_pass T trace since ≡ true → lines_pass T trace since ≡ true → Passed
  passed calls lines =
      let a = and_parts (passes hosts T trace) _ calls in
      let b = and_parts (parts (all_fit hosts T (sizes_in T)) trace) _ a.1 in
      let c = and_parts (parts (asks_for_it T trace since) trace) _ b.1 in
      let d = and_parts (each (stops_none T trace since) (performed hosts trace)) _ lines in
      let e = and_parts (each (only_it T trace) T.live) _ d.1 in
      let f = and_parts (each (lacks_it T trace) T.live) _ e.1 in
      let g = and_parts (each (waits_for_it T trace) T.live) _ f.1 in
      let h = and_parts (holds (then_host T trace 0) drawn) _ g.1 in
      record {
        session = session_of hosts T trace begins (inl (omega arith)) a.0;
        within = within_of hosts T (sizes_in T) trace b.0;
        filled = c.0;
        comes = c.1;
        kept = d.0;
        only = e.0;
        lacks = f.0;
        waits = g.0;
        held = h.0;
        lost = not-true _ h.1;
      }

  pub meets : calls_pass T trace since ≡ true → lines_pass T trace since ≡ true → Meets T trace 0 since
  meets calls lines = record {
    whole = record {
      session = p.session;
      within = p.within;
      soon = all_are_soon hosts T trace 2 0 0 1 p.session;
      waits = wait_for_none T trace p.only p.waits;
      lacks = lack_one T trace p.only p.lacks;
      short = small.short;
    };
    reports = reports;
    lacks = one_lacks_one T trace p.only;
    kept = none_stops T trace since p.kept;
    filled = λ places. places_filled T trace p.only since places p.filled;
    held = held;
    lost = (Contains-there 0 1 (1 ∷ []) (Contains-here 1 []), held, p.lost);
    comes = p.comes;
  } where
    p : Passed
    p = passed calls lines

    held : IsHeldBySome hosts T trace drawn
    held = (0, Contains-here 0 (1 ∷ []), p.held)

    reports : ReportWithin hosts T trace since (sizes_in T).pause
    reports newer older i split live =
        let le : (there hosts older i).policy.reports.due + lag i ≤ max (time_of older) quiet + 96000000 = reports_are_due hosts T trace p.session newer older i split live in
        let later = small.settled in
        omega (arith, le, later)
