-- A session becomes whole while live hosts keep places filled, also if names are given up in crowds: credit pays for few of these.
use Rattle.std.proofs.Common.{◌≡◌, ◌⊎◌, ℕ, ◌+◌, ◌-◌, ◌*◌, ◌<◌, ◌≤◌, Bool, true, false, List, [], ◌∷◌, ◌++◌, ◌∙◌, ap, append_assoc, arith, length, max, mul-le-mul, refl, subst, sym, ⊎_elim}
use Rattle.std.specs.Prelude.{Contains}
use Rattle.std.proofs.lemmas.Bool.{cases_lt}
use Rattle.std.proofs.Math.Nat.{le_refl}
use Rattle.wb_names.specs.Values.{NameValue}
use Rattle.wb_progress.specs.InTime.{AreApart, known_from, repairing}
use Rattle.wb_progress.specs.Turns.{Terms, settled_by}
use Rattle.wb_member.specs.Judged.{holds, is_full}
use Rattle.wb_member.specs.Opened.{Opened, present}
use Rattle.wb_keeping.specs.Bounds.{answer_count, ask_count}
use Rattle.wb_keeping.specs.Kept.{Line}
use Rattle.wb_keeping.specs.Laws.{KeptLine, after_kept}
use Rattle.wb_keeping.specs.Performing.{Keeping, after_lines}
use Rattle.wb_keeping.proofs.KeptHosts.{kept_hosts_are_hosts}
use Rattle.wb_keeping.proofs.LittleSaid.{few_names_are_asked}
use Rattle.wb_kept_progress.specs.Crowded.{SessionsBecomeWholeInCrowds, crowded_by, round_span, spent_in}
use Rattle.wb_kept_progress.specs.Rounds.{OneLacksAtMost}
use Rattle.wb_kept_progress.specs.Sessions as sessions
use Rattle.wb_kept_progress.specs.Sessions.{Opening}
use Rattle.wb_kept_progress.specs.Timed.{AreInOrder, At, time_of}
use Rattle.wb_kept_progress.specs.Whole.{IsHeldBySome, IsTimelySession, WaitAtMost, there}
use Rattle.wb_kept_progress.proofs.Becoming.{lacked_before, lacked_first}
use Rattle.wb_kept_progress.proofs.CallParts.{due_by_turn}
use Rattle.wb_kept_progress.proofs.ComeOnce.{HaveCome, have_come}
use Rattle.wb_kept_progress.proofs.DrawsNone.{late_behind, none_draws, performs_no_drawing}
use Rattle.wb_kept_progress.proofs.Handed.{after_handed, handed, performs_in, taken_handed}
use Rattle.wb_kept_progress.proofs.NothingNew.{held_was_held}
use Rattle.wb_kept_progress.proofs.OwedAndDue.{near_there, next_by_turn, now_there, taken_of}
use Rattle.wb_kept_progress.proofs.RoundCounts.{Counted, FilledFor, IsThen, counted, then_at}
use Rattle.wb_progress.proofs.Parts.{before_end, order_of}

module _ (hosts : ℕ → Opening) (terms : Terms) (trace : List (At KeptLine)) (most i : ℕ) (session : IsTimelySession hosts terms trace) (lacks_most : OneLacksAtMost hosts terms trace most) (live : Contains terms.live i) where
  -- no more names are lacked by then
  pub few_lacked : (newer part : List (At KeptLine)) (names : List NameValue) → trace ≡ newer ++ part → settled_by terms < time_of part → AreApart names
      → ((x : NameValue) → Contains names x → IsHeldBySome hosts terms trace x × (holds (there hosts part i).host x ≡ false)) → length names ≤ most
  few_lacked newer part names split late apart each = lacks_most i names apart (λ x c. let l = each x c in lacked_first hosts terms trace newer part i x session.order split late live l.0 l.1)

  -- ---- what is asked for costs credit

  module _ (newer window base : List (At KeptLine)) (e : At KeptLine) (split : trace ≡ newer ++ e ∷ (window ++ base)) (late : settled_by terms < time_of base) where
    abbrev k : Keeping
    k = there hosts base i

    abbrev m : Keeping
    m = there hosts (window ++ base) i

    abbrev lines : List Line
    lines = performs_in hosts i window base

    upto : trace ≡ (newer ++ e ∷ []) ++ (window ++ base)
    upto = split ∙ sym (append_assoc newer (e ∷ []) (window ++ base))

    upto_base : trace ≡ ((newer ++ e ∷ []) ++ window) ++ base
    upto_base = upto ∙ sym (append_assoc (newer ++ e ∷ []) window base)

    order : AreInOrder (window ++ base)
    order = order_of (newer ++ e ∷ []) (window ++ base) (subst AreInOrder upto session.order)

    ends : time_of base ≤ time_of (window ++ base)
    ends = before_end window base order

    taken : sessions.AreTaken hosts (window ++ base)
    taken = taken_of hosts (newer ++ e ∷ []) (window ++ base) (subst (λ (t : List (At KeptLine)). sessions.AreTaken hosts t) upto session.taken)

    same : after_kept (handed i window) k ≡ m
    same = after_handed hosts i window base

    same_host : m.host ≡ after_lines lines k.host
    same_host = ap (λ (l : Keeping). l.host) (sym same) ∙ (kept_hosts_are_hosts (handed i window) k).0

    room : is_full (after_lines lines k.host) ≡ false
    room = subst (λ (h : Opened). is_full h ≡ false) same_host (session.room (newer ++ e ∷ []) (window ++ base) i upto live (let le = ends in omega (arith, late, le)))

    come : HaveCome lines k.host
    come =
        have_come lines k.host
        (performs_no_drawing hosts i window base (none_draws hosts terms trace session (newer ++ e ∷ []) window base upto (late_behind hosts terms trace session window base order (omega (arith, late)))))
        room

    few_come : answer_count lines k.host ≤ most
    few_come =
        let c = come in
        let count = c.count in
        let le = few_lacked ((newer ++ e ∷ []) ++ window) base c.names upto_base late c.apart (λ x d. (
          held_was_held hosts terms trace (newer ++ e ∷ []) (window ++ base) i x session upto live (subst (λ (h : Opened). holds h x ≡ true) (sym same_host) (c.held x d)),
          c.lacked x d,
        )) in
        omega (arith, count, le)

    -- the clock is not far behind
    first_now : (first : List (At KeptLine)) (y : At KeptLine) → e ∷ window ≡ first ++ y ∷ [] → time_of base ≤ present k.host + (terms.lag i + (16000000 + terms.late))
    first_now first y is =
        let here : trace ≡ (newer ++ first) ++ y ∷ base = split ∙ ap (λ (l : List (At KeptLine)). newer ++ (l ++ base)) is ∙ ap (λ (l : List (At KeptLine)). newer ++ l) (append_assoc first (y ∷ []) base) ∙ sym (append_assoc newer first (y ∷ base)) in
        let in_order = order_of (newer ++ first) (y ∷ base) (subst AreInOrder here session.order) in
        let o = in_order.0 in
        let soon = session.soon (newer ++ first) base y i here live (omega (arith, late, o)) in
        let turn = due_by_turn k in
        let near = near_there hosts terms trace ((newer ++ e ∷ []) ++ window) base i session upto_base live in
        let beat = near.beat in
        omega (arith, o, soon, turn, beat)

    last_one : (y : At KeptLine) (calls : List (At KeptLine)) → (first : List (At KeptLine)) × (last : At KeptLine) × (y ∷ calls ≡ first ++ last ∷ [])
    last_one y [] = ([], y, refl)
    last_one y (z ∷ calls) = let rest = last_one z calls in (y ∷ rest.0, rest.1, ap (λ (l : List (At KeptLine)). y ∷ l) rest.2)

    pub few_asked : ask_count lines * 250000 ≤ (64 + 2 * most) * 250000 + (time_of (window ++ base) - time_of base + (16000000 + terms.late))
    few_asked =
        let few = few_names_are_asked (handed i window) k (taken_handed hosts i window base taken) in
        let come = few_come in
        let l = last_one e window in
        let first = first_now l.0 l.1 l.2 in
        let now = now_there hosts terms trace (newer ++ e ∷ []) (window ++ base) i session upto live in
        let le = ends in
        let is = ap (λ (l : Keeping). present l.host) same in
        reckoned (ask_count lines) (answer_count lines k.host) most (present (after_kept (handed i window) k).host) (present m.host) (present k.host) (time_of (window ++ base)) (time_of base) (terms.lag i) terms.late terms.quiet few come is now first le (omega (arith, late)) where
          reckoned : (asks answers most after then before end from lag late quiet : ℕ) → asks * 250000 ≤ (64 + 2 * answers) * 250000 + (after - before) → answers ≤ most → after ≡ then → then + lag ≤ max end quiet → from ≤ before + (lag + (16000000 + late)) → from ≤ end → quiet ≤ from
              → asks * 250000 ≤ (64 + 2 * most) * 250000 + (end - from + (16000000 + late))
          reckoned asks answers most after then before end from lag late quiet few come is now first le settled = omega (arith, few, come, is, now, first, le, settled)

-- ---- the law

module _ (hosts : ℕ → Opening) (terms : Terms) (trace : List (At KeptLine)) (since wait most places bringing crowded i : ℕ) (n : NameValue) (session : IsTimelySession hosts terms trace) (waits : WaitAtMost hosts terms trace wait)
    (lacks_most : OneLacksAtMost hosts terms trace most) (filled : FilledFor hosts terms trace since places i n) (brings : most ≤ bringing * places) (enough : spent_in terms most (bringing + crowded) ≤ crowded * (64 * 250000))
    (held : IsHeldBySome hosts terms trace n) (live : Contains terms.live i) (newer later : List (At KeptLine)) (split : trace ≡ newer ++ later) (late : crowded_by terms since wait (bringing + crowded) < time_of later)
    (lacks : holds (there hosts later i).host n ≡ false) where
  abbrev start : ℕ
  start = max (known_from terms + wait + repairing terms) since

  abbrev all_rounds : ℕ
  all_rounds = (bringing + crowded) * round_span terms

  late_so : start + (16000000 + terms.late) + all_rounds < time_of later
  late_so = late

  v : IsThen later start
  v = then_at later start (let l = late_so in omega (arith, l))

  abbrev base : List (At KeptLine)
  base = v.next ∷ v.part

  split_base : trace ≡ (newer ++ v.front) ++ base
  split_base = split ∙ ap (λ (l : List (At KeptLine)). newer ++ l) v.split ∙ sym (append_assoc newer v.front base)

  -- the first call after the start comes soon
  begins : v.next.time ≤ start + (16000000 + terms.late)
  begins =
      let after = v.after in
      let by = v.by in
      let soon = next_by_turn hosts terms trace (newer ++ v.front) v.part v.next i session split_base live (omega (arith, after)) in
      omega (arith, soon, by)

  w : IsThen later (v.next.time + all_rounds)
  w = then_at later (v.next.time + all_rounds) (let l = late_so in let b = begins in omega (arith, l, b))

  split_w : trace ≡ (newer ++ w.front) ++ w.next ∷ w.part
  split_w = split ∙ ap (λ (l : List (At KeptLine)). newer ++ l) w.split ∙ sym (append_assoc newer w.front (w.next ∷ w.part))

  lacks_w : holds (there hosts (w.next ∷ w.part) i).host n ≡ false
  lacks_w = lacked_before hosts w.front (w.next ∷ w.part) i n (subst (λ (l : List (At KeptLine)). holds (there hosts l i).host n ≡ false) w.split lacks)

  known : known_from terms + wait + repairing terms < v.next.time
  known = let after = v.after in omega (arith, after)

  settled : settled_by terms < v.next.time
  settled = let k = known in omega (arith, k)

  since_then : since < v.next.time
  since_then = let after = v.after in omega (arith, after)

  c : Counted hosts terms trace since wait places i n session waits filled live held (newer ++ v.front) base split_base known since_then w.part (bringing + crowded)
  c = counted hosts terms trace since wait places i n session waits filled live held (newer ++ v.front) base split_base known since_then (bringing + crowded) (newer ++ w.front) w.part w.next split_w w.by w.after lacks_w

  -- names came in fewer rounds
  few_bring : c.bringing < bringing
  few_bring =
      let le = few_lacked hosts terms trace most i session lacks_most live (newer ++ v.front) base c.names split_base settled c.apart c.first in
      let count = c.count in
      by (cases_lt c.bringing bringing) (length c.names) le count where
        past : (one other many most : ℕ) → most ≤ one → one ≤ other → other + 1 ≤ many → many ≤ most → ⊥
        past one other many most a b c d = omega (arith, a, b, c, d)

        by : (c.bringing < bringing) ⊎ (bringing ≤ c.bringing) → (many : ℕ) → many ≤ most → c.bringing * places + 1 ≤ many → c.bringing < bringing
        by cases many le count = ⊎_elim
            (λ (lt : c.bringing < bringing). lt)
            (λ (more : bringing ≤ c.bringing). absurd (past (bringing * places) (c.bringing * places) many most brings (mul-le-mul more (le_refl places)) count le))
            cases

  -- so there were more crowds than credit pays for
  pub none_lacks : ⊥
  none_lacks =
      let few = few_bring in
      let rounds = c.rounds in
      let asks = c.asks in
      let here : trace ≡ (newer ++ w.front) ++ w.next ∷ (c.window ++ base) = split_w ∙ ap (λ (l : List (At KeptLine)). (newer ++ w.front) ++ w.next ∷ l) c.is in
      let spent = few_asked hosts terms trace most i session lacks_most live (newer ++ w.front) c.window base w.next here settled in
      let ends : time_of (c.window ++ base) ≤ v.next.time + all_rounds = subst (λ (l : List (At KeptLine)). time_of l ≤ v.next.time + all_rounds) c.is w.by in
      too_many (ask_count (performs_in hosts i c.window base)) c.bringing c.crowded (time_of (c.window ++ base)) v.next.time all_rounds terms.late few rounds asks spent ends enough where
        too_many : (asks brought crowds end from span late : ℕ) → brought < bringing → brought + crowds ≡ bringing + crowded → 64 * crowds ≤ asks → asks * 250000 ≤ (64 + 2 * most) * 250000 + (end - from + (16000000 + late)) → end ≤ from + span
            → (64 + 2 * most) * 250000 + (16000000 + late) + span ≤ crowded * (64 * 250000) → ⊥
        too_many asks brought crowds end from span late few rounds asked spent ends enough = omega (arith, few, rounds, asked, spent, ends, enough)

pub sessions_become_whole_in_crowds : SessionsBecomeWholeInCrowds
sessions_become_whole_in_crowds hosts terms trace since wait most places bringing crowded n session waits lacks_most filled brings enough held newer later i split late live = by (holds (there hosts later i).host n) refl where
  by : (b : Bool) → holds (there hosts later i).host n ≡ b → b ≡ true
  by true e = refl
  by false e =
      absurd (none_lacks hosts terms trace since wait most places bringing crowded i n session waits lacks_most (λ newest older is from lacks. filled newest older i n is live (omega (arith, from)) held lacks) brings enough held live newer later split late e)
