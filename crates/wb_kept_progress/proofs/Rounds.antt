-- While live hosts keep places filled, each round brings as many names as there are places: what is asked for comes within a round.
use Rattle.std.proofs.Common.{◌≡◌, ℕ, zero, suc, ◌+◌, ◌*◌, ◌<◌, ◌≤◌, Bool, true, false, List, [], ◌∷◌, ◌++◌, ◌∙◌, ap, append_assoc, arith, inl, inr, length, length-append, max, refl, subst, sym, true≢false, ⊎_elim}
use Rattle.std.specs.Prelude.{◌⊎◌, Contains}
use Rattle.std.proofs.lemmas.List.Elements.{Contains-append_cases}
use Rattle.wb_names.specs.Values.{NameValue}
use Rattle.wb_names.proofs.Listings.{Contains-cases, Contains-none}
use Rattle.wb_progress.specs.InTime.{AreApart, known_from, repairing}
use Rattle.wb_progress.specs.Turns.{Terms, settled_by}
use Rattle.wb_progress.proofs.NamesApart.{apart_append}
use Rattle.wb_member.specs.Judged.{holds}
use Rattle.wb_member.specs.Opened.{asks_for}
use Rattle.wb_kept_progress.specs.Promises.{timer_then}
use Rattle.wb_kept_progress.specs.Rounds.{AreAsked, OneLacksAtMost, PlacesAreFilled, SessionsBecomeWholeByRounds, coming, rounds_by}
use Rattle.wb_kept_progress.specs.Sessions.{Opening}
use Rattle.wb_kept_progress.specs.Timed.{AllKeptHoldBehind, At, IsTimely, Start, performed, start_of, time_of, until}
use Rattle.wb_kept_progress.specs.Whole.{IsHeldBySome, IsLackedAt, IsTimelySession, NewAreKept, ReportWithin, WaitAtMost, there}
use Rattle.wb_kept_progress.proofs.AskedComes.{asked_comes, asked_lacked, the_ask, timer_of}
use Rattle.wb_kept_progress.proofs.Becoming.{held_on, lacked_before, lacked_first}
use Rattle.wb_kept_progress.proofs.CallsInTime.{performed_is_timely}
use Rattle.wb_kept_progress.proofs.KeptInTime.{front_of, holding, time_is}
use Rattle.wb_kept_progress.proofs.Reached.{reached}
use Rattle.wb_keeping.specs.Laws.{KeptLine}

module _ (hosts : ℕ → Opening) (terms : Terms) (trace : List (At KeptLine)) (since pause wait most places : ℕ) (session : IsTimelySession hosts terms trace)
    (reports : ReportWithin hosts terms trace since pause) (waits : WaitAtMost hosts terms trace wait) (lacks_most : OneLacksAtMost hosts terms trace most)
    (kept : NewAreKept hosts terms trace since) (filled : PlacesAreFilled hosts terms trace since places) where
  abbrev start : ℕ
  start = max (known_from terms + wait + repairing terms) since

  abbrev round : ℕ
  round = pause + terms.late + coming terms

  abbrev starts : ℕ → Start
  starts j = start_of (hosts j)

  timely : IsTimely starts terms (performed hosts trace)
  timely = performed_is_timely hosts terms trace session

  -- ---- what is asked for comes

  comes_by : (newer part : List (At KeptLine)) (i : ℕ) (n : NameValue) → trace ≡ newer ++ part → start < time_of part → Contains terms.live i → IsHeldBySome hosts terms trace n → asks_for n (there hosts part i).host ≡ true
      → AllKeptHoldBehind hosts terms trace (time_of part + coming terms) n
  comes_by newer part i n split late live held asked =
      let f = front_of hosts newer part in
      let t = the_ask (timer_then hosts (performed hosts part) i n) (timer_of hosts part i n asked) in
      let time = time_is hosts part in
      let comes =
      asked_comes hosts terms trace since wait timely waits kept f.0 (performed hosts part) i n t.0 (ap (performed hosts) split ∙ f.1) (omega (arith, late, time)) (omega (arith, late, time)) live held t.1 in
      holding hosts terms trace timely n (time_of part + coming terms) (λ front later j is lt live_j. comes front later j is (omega (arith, lt, time)) live_j)

  -- ---- round by round

  abbrev at_round : ℕ → ℕ
  at_round k = start + k * round

  -- Of k times `places` names and one that the host lacked at first, it holds each but one after k rounds.
  record HaveCome (part : List (At KeptLine)) (i : ℕ) (n : NameValue) (k : ℕ) : Type 0 where
    names : List NameValue
    apart : AreApart names
    count : length names ≡ k * places + 1
    first : (x : NameValue) → Contains names x → IsLackedAt hosts terms trace (until (settled_by terms) (performed hosts trace)) (record { place = i; name = x })
    then : (x : NameValue) → Contains names x → (x ≡ n) ⊎ (holds (there hosts part i).host x ≡ true)

  have_come : (k : ℕ) (newer part : List (At KeptLine)) (i : ℕ) (n : NameValue) → trace ≡ newer ++ part → at_round k < time_of part → Contains terms.live i → IsHeldBySome hosts terms trace n → holds (there hosts part i).host n ≡ false → HaveCome part i n k
  have_come zero newer part i n split late live held lacks = record {
    names = n ∷ [];
    apart = (λ c. absurd (Contains-none n c), tt);
    count = one_name places;
    first = λ x c. ⊎_elim
        (λ (same : n ≡ x). subst (λ (y : NameValue). IsLackedAt hosts terms trace (until (settled_by terms) (performed hosts trace)) (record { place = i; name = y })) same (lacked_first hosts terms trace newer part i n session.order split (omega (arith, late)) live held lacks))
        (λ (none : Contains [] x). absurd (Contains-none x none))
        (Contains-cases n x [] c);
    then = λ x c. ⊎_elim (λ (same : n ≡ x). inl (sym same)) (λ (none : Contains [] x). absurd (Contains-none x none)) (Contains-cases n x [] c);
  } where
    one_name : (many : ℕ) → 1 ≡ 0 * many + 1
    one_name many = omega arith
  have_come (suc k) newer part i n split late live held lacks =
      let r = reached hosts terms trace session since pause reports newer part (at_round k) i split live (omega arith) (omega arith) (omega (arith, late)) in
      one_more r.window r.base r.split r.from r.soon (have_come k (newer ++ r.window) r.base i n) where
        one_more : (window base : List (At KeptLine)) → part ≡ window ++ base → at_round k < time_of base → time_of base ≤ at_round k + (pause + terms.late)
            → (trace ≡ (newer ++ window) ++ base → at_round k < time_of base → Contains terms.live i → IsHeldBySome hosts terms trace n → holds (there hosts base i).host n ≡ false → HaveCome base i n k) → HaveCome part i n (suc k)
        one_more window base is from soon before = ⊎_elim
            (λ (asked : asks_for n (there hosts base i).host ≡ true). absurd (true≢false (sym (comes n held asked) ∙ lacks)))
            (λ (a : AreAsked hosts terms trace base i places). with_these a (before whole from live held lacked))
            (filled (newer ++ window) base i n whole live (omega (arith, from)) held lacked) where
              whole : trace ≡ (newer ++ window) ++ base
              whole = split ∙ ap (λ (t : List (At KeptLine)). newer ++ t) is ∙ sym (append_assoc newer window base)

              lacked : holds (there hosts base i).host n ≡ false
              lacked = lacked_before hosts window base i n (subst (λ (t : List (At KeptLine)). holds (there hosts t i).host n ≡ false) is lacks)

              -- what is asked for comes within the round
              comes : (x : NameValue) → IsHeldBySome hosts terms trace x → asks_for x (there hosts base i).host ≡ true → holds (there hosts part i).host x ≡ true
              comes x held_x asked = comes_by (newer ++ window) base i x whole (omega (arith, from)) live held_x asked newer part i split (omega (arith, soon, late)) live

              with_these : AreAsked hosts terms trace base i places → HaveCome base i n k → HaveCome part i n (suc k)
              with_these a h = record {
                names = a.names ++ h.names;
                apart = apart_append a.names h.names a.apart h.apart (λ x new old. ⊎_elim
                    (λ (same : x ≡ n). true≢false (sym (subst (λ (y : NameValue). holds (there hosts part i).host y ≡ true) same (comes x (a.held x new) (a.asked x new))) ∙ lacks))
                    (λ (had : holds (there hosts base i).host x ≡ true). true≢false (sym had ∙ asked_lacked hosts base i x (a.asked x new)))
                    (h.then x old));
                count = let all = length-append a.names h.names in let one = a.count in let other = h.count in omega (arith, all, one, other);
                first = λ x c. ⊎_elim
                    (λ (new : Contains a.names x). lacked_first hosts terms trace (newer ++ window) base i x session.order whole (omega (arith, from)) live (a.held x new) (asked_lacked hosts base i x (a.asked x new)))
                    (λ (old : Contains h.names x). h.first x old)
                    (Contains-append_cases a.names h.names x c);
                then = λ x c. ⊎_elim
                    (λ (new : Contains a.names x). inr (comes x (a.held x new) (a.asked x new)))
                    (λ (old : Contains h.names x). ⊎_elim
                    (λ (same : x ≡ n). inl same)
                    (λ (had : holds (there hosts base i).host x ≡ true). inr (subst (λ (t : List (At KeptLine)). holds (there hosts t i).host x ≡ true) (sym is) (held_on hosts window base i x had)))
                    (h.then x old))
                    (Contains-append_cases a.names h.names x c);
              }

  all_hold : (rounds : ℕ) → most ≤ rounds * places → (n : NameValue) → IsHeldBySome hosts terms trace n → AllKeptHoldBehind hosts terms trace (rounds_by terms since pause wait rounds) n
  all_hold rounds enough n held newer later i split lt live = by (holds (there hosts later i).host n) refl where
    by : (b : Bool) → holds (there hosts later i).host n ≡ b → b ≡ true
    by true e = refl
    by false e =
        let h = have_come rounds newer later i n split (omega (arith, lt)) live held e in
        let le = lacks_most i h.names h.apart h.first in
        let c = h.count in
        absurd (omega (arith, le, c, enough))

pub sessions_become_whole_by_rounds : SessionsBecomeWholeByRounds
sessions_become_whole_by_rounds hosts terms trace since pause wait most places rounds n session reports waits lacks kept filled enough held =
    all_hold hosts terms trace since pause wait most places session reports waits lacks kept filled rounds enough n held
