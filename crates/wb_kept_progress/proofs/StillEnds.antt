-- Such a host does not go on so for long: credit does not pay for crowd after crowd while nothing new comes.
use Rattle.std.proofs.Common.{◌≡◌, ℕ, zero, suc, ◌+◌, ◌-◌, ◌*◌, ◌<◌, ◌≤◌, ◌&&◌, Bool, true, false, cond, List, [], ◌∷◌, ◌++◌, ◌∙◌, ap, append_assoc, arith, length, refl, subst, sym, true≢false}
use Rattle.std.specs.Prelude.{Contains, nat_eq, nat_lt}
use Rattle.std.proofs.lemmas.Bool.{false_from_ne_true, ltb-true}
use Rattle.std.proofs.lemmas.List.{append_cancel_right}
use Rattle.wb_names.specs.Values.{DrawopValue, NameValue}
use Rattle.wb_names.proofs.Listings.{Contains-here}
use Rattle.wb_keeper.specs.Keeper.{holds}
use Rattle.wb_progress.specs.InTime.{known_from, repairing}
use Rattle.wb_progress.specs.Turns.{Terms, settled_by}
use Rattle.wb_progress.proofs.Parts.{before_end, in_past, order_of, tails}
use Rattle.wb_member.specs.Judged.{is_full}
use Rattle.wb_member.specs.Opened.{Opened, present}
use Rattle.wb_keeping.specs.Bounds.{answer_count, ask_count}
use Rattle.wb_keeping.specs.Kept.{Line}
use Rattle.wb_keeping.specs.Laws.{KeptLine, after_kept}
use Rattle.wb_keeping.specs.Performing.{Keeping, after_lines}
use Rattle.wb_keeping.proofs.KeptHosts.{kept_hosts_are_hosts}
use Rattle.wb_keeping.proofs.LittleSaid.{few_names_are_asked}
use Rattle.wb_kept_progress.specs.Rounds.{coming}
use Rattle.wb_kept_progress.specs.Sessions as sessions
use Rattle.wb_kept_progress.specs.Sessions.{Opening}
use Rattle.wb_kept_progress.specs.Timed.{AreInOrder, At, time_of}
use Rattle.wb_kept_progress.specs.Topped.{asks_since, asks_then}
use Rattle.wb_kept_progress.specs.Whole.{HolesAreHeld, IsHeldBySome, IsTimelySession, WaitAtMost, request_span, there}
use Rattle.wb_kept_progress.proofs.AskedStays.{AsksOne}
use Rattle.wb_kept_progress.proofs.CallParts.{due_by_turn}
use Rattle.wb_kept_progress.proofs.ComeOnce.{HaveCome, have_come}
use Rattle.wb_kept_progress.proofs.CrowdAsks.{before_newest, crowd_asks}
use Rattle.wb_kept_progress.proofs.Crowds.{IsCrowd}
use Rattle.wb_kept_progress.proofs.DrawsNone.{HasNoDrawing, late_from, none_draws, performs_no_drawing}
use Rattle.wb_kept_progress.proofs.Handed.{after_handed, handed, performs_in, taken_handed}
use Rattle.wb_kept_progress.proofs.OwedAndDue.{near_there, now_there, taken_of}
use Rattle.wb_kept_progress.proofs.Owing.{asked_since}
use Rattle.wb_kept_progress.proofs.RoundCounts.{IsThen, one_more, then_at}
use Rattle.wb_kept_progress.proofs.StillOne.{IsAwake, awake_on, gives_up, same_then}

-- nothing is asked for after a time in calls up to it
none_since : (hosts : ℕ → Opening) (since i : ℕ) (part : List (At KeptLine)) → AreInOrder part → time_of part ≤ since → asks_since hosts since i part ≡ 0
none_since hosts since i [] order ends = refl
none_since hosts since i (e ∷ part) order ends =
    let first = order.0 in
    let rest = none_since hosts since i part order.1 (omega (arith, first, ends)) in
    let late = false_from_ne_true (nat_lt since e.time) (λ is. let lt = ltb-true since e.time is in omega (arith, lt, ends)) in
    let none = ap (λ (b : Bool). cond (b && nat_eq e.place i) (asks_then hosts part e) 0) late in
    omega (arith, rest, none)

module _ (hosts : ℕ → Opening) (terms : Terms) (trace : List (At KeptLine)) (wait crowds i : ℕ) (session : IsTimelySession hosts terms trace) (waits : WaitAtMost hosts terms trace wait) (holes_held : HolesAreHeld hosts terms trace) (live : Contains terms.live i)
    (newer window base : List (At KeptLine)) (e : At KeptLine) (split : trace ≡ newer ++ e ∷ (window ++ base)) (settled : (front part : List (At KeptLine)) (y : At KeptLine) → window ≡ front ++ y ∷ part → settled_by terms < y.time)
    (same : (there hosts (window ++ base) i).host.is.held ≡ (there hosts base i).host.is.held)
    (front first : List (At KeptLine)) (first_is : window ≡ front ++ first) (known : known_from terms + wait + repairing terms < time_of (first ++ base)) (one : AsksOne (λ n. IsHeldBySome hosts terms trace n) (there hosts (first ++ base) i))
    (goes_on : time_of (first ++ base) + crowds * (2 * request_span terms) + coming terms < e.time) where
  abbrev from : ℕ
  from = time_of (first ++ base)

  abbrev span : ℕ
  span = 2 * request_span terms

  abbrev at : ℕ → ℕ
  at j = from + j * span

  next_at : (j : ℕ) → at (suc j) ≡ at j + span
  next_at j = one_more from j span

  upto : trace ≡ (newer ++ e ∷ []) ++ (window ++ base)
  upto = split ∙ sym (append_assoc newer (e ∷ []) (window ++ base))

  order : AreInOrder (e ∷ (window ++ base))
  order = order_of newer (e ∷ (window ++ base)) (subst AreInOrder split session.order)

  -- a part that ends at a time or later, in which the host asks for a name
  record IsLater (part : List (At KeptLine)) : Type 0 where
    rest : List (At KeptLine)
    middle : List (At KeptLine)
    is : part ≡ (middle ++ first) ++ base
    within : window ≡ rest ++ (middle ++ first)

  -- the calls up to a time that is late enough, which another call follows
  is_later : (newest part : List (At KeptLine)) (y : At KeptLine) → e ∷ (window ++ base) ≡ newest ++ y ∷ part → from < y.time → IsLater part
  is_later newest part y same_calls after = by (in_past newest (y ∷ part) (e ∷ front) (first ++ base) (sym same_calls ∙ parts) (subst AreInOrder same_calls order) after) where
    parts : e ∷ (window ++ base) ≡ (e ∷ front) ++ (first ++ base)
    parts = ap (λ (l : List (At KeptLine)). e ∷ (l ++ base)) first_is ∙ ap (λ (l : List (At KeptLine)). e ∷ l) (append_assoc front first base)

    inside : (newest : List (At KeptLine)) → e ∷ (window ++ base) ≡ newest ++ y ∷ part → (rest : List (At KeptLine)) × (window ++ base ≡ rest ++ part)
    inside [] same_calls = ([], tails e y (window ++ base) part same_calls)
    inside (x ∷ newest) same_calls = (newest ++ y ∷ [], tails e x (window ++ base) (newest ++ y ∷ part) same_calls ∙ sym (append_assoc newest (y ∷ []) part))

    from_middle : (middle : List (At KeptLine)) → part ≡ middle ++ (first ++ base) → IsLater part
    from_middle middle is =
        let r = inside newest same_calls in
        let whole : part ≡ (middle ++ first) ++ base = is ∙ sym (append_assoc middle first base) in
        record {
          rest = r.0;
          middle = middle;
          is = whole;
          within = append_cancel_right window (r.0 ++ (middle ++ first)) base (r.1 ∙ ap (λ (l : List (At KeptLine)). r.0 ++ l) whole ∙ sym (append_assoc r.0 (middle ++ first) base));
        }

    by : (middle : List (At KeptLine)) × (y ∷ part ≡ middle ++ (first ++ base)) → IsLater part
    by m = cases m.0 m.1 where
      cases : (middle : List (At KeptLine)) → y ∷ part ≡ middle ++ (first ++ base) → IsLater part
      cases [] is = let time : y.time ≡ from = ap time_of is in absurd (omega (arith, time, after))
      cases (x ∷ middle) is = from_middle middle (tails y x part (middle ++ (first ++ base)) is)

  -- in each two spans of a request 64 names are asked for
  module _ (j : ℕ) (newest part : List (At KeptLine)) (y : At KeptLine) (same_calls : e ∷ (window ++ base) ≡ newest ++ y ∷ part) (after : at (suc j) < y.time) (late : at (suc j) + coming terms < e.time) where
    next : at (suc j) ≡ at j + span
    next = next_at j

    x : IsThen (y ∷ part) (at j + request_span terms)
    x = then_at (y ∷ part) (at j + request_span terms) (let n = next in omega (arith, n, after))

    p : IsThen (x.next ∷ x.part) (at j)
    p = then_at (x.next ∷ x.part) (at j) (let a = x.after in omega (arith, a))

    calls_x : e ∷ (window ++ base) ≡ (newest ++ x.front) ++ x.next ∷ x.part
    calls_x = same_calls ∙ ap (λ (l : List (At KeptLine)). newest ++ l) x.split ∙ sym (append_assoc newest x.front (x.next ∷ x.part))

    calls_p : e ∷ (window ++ base) ≡ ((newest ++ x.front) ++ p.front) ++ p.next ∷ p.part
    calls_p = calls_x ∙ ap (λ (l : List (At KeptLine)). (newest ++ x.front) ++ l) p.split ∙ sym (append_assoc (newest ++ x.front) p.front (p.next ∷ p.part))

    order_y : AreInOrder (y ∷ part)
    order_y = order_of newest (y ∷ part) (subst AreInOrder same_calls order)

    order_x : AreInOrder (x.next ∷ x.part)
    order_x = order_of x.front (x.next ∷ x.part) (subst AreInOrder x.split order_y)

    l : IsLater x.part
    l = is_later (newest ++ x.front) x.part x.next calls_x (let a = x.after in omega (arith, a))

    awake : IsAwake hosts terms trace i session holes_held live (newer ++ e ∷ []) window base upto settled same ((l.middle ++ first) ++ base)
    awake = awake_on hosts terms trace i session holes_held live (newer ++ e ∷ []) window base upto settled same l.rest l.middle first l.within one

    behind : from ≤ time_of ((l.middle ++ first) ++ base)
    behind = subst (λ (t : List (At KeptLine)). from ≤ time_of t) (sym (append_assoc l.middle first base))
        (before_end l.middle (first ++ base) (subst AreInOrder (l.is ∙ append_assoc l.middle first base) order_x.1))

    ends_x : time_of ((l.middle ++ first) ++ base) ≤ at j + request_span terms
    ends_x = subst (λ (t : List (At KeptLine)). time_of t ≤ at j + request_span terms) l.is x.by

    crowd_then : (time : ℕ) × (x.next.time ≤ time) × (time ≤ time_of ((l.middle ++ first) ++ base) + request_span terms) × IsCrowd hosts terms trace i time
    crowd_then = gives_up hosts terms trace wait i session waits holes_held live newer window base e split settled same l.rest (l.middle ++ first) (newest ++ x.front) x.next l.within
        (calls_x ∙ ap (λ (t : List (At KeptLine)). (newest ++ x.front) ++ x.next ∷ t) l.is) (let b = behind in omega (arith, known, b)) (let n = next in let b = ends_x in omega (arith, late, n, b)) awake

    -- the calls of these two spans
    earlier : p.next.time < y.time
    earlier =
        let n = next in
        let first_time : p.next.time ≤ x.next.time = subst (λ (t : List (At KeptLine)). p.next.time ≤ time_of t) (sym p.split) (before_end p.front (p.next ∷ p.part) (subst AreInOrder p.split order_x)) in
        let c = crowd_then in
        let a = c.1 in
        let b = c.2 in
        let d = ends_x in
        omega (arith, n, first_time, a, b, d, after)

    two : (w : List (At KeptLine)) × (part ≡ w ++ p.next ∷ p.part)
    two = before_newest (x.front ++ p.front) y p.next part p.part (x.split ∙ ap (λ (t : List (At KeptLine)). x.front ++ t) p.split ∙ sym (append_assoc x.front p.front (p.next ∷ p.part))) earlier

    two_are : part ≡ (two.0 ++ p.next ∷ []) ++ p.part
    two_are = two.1 ∙ sym (append_assoc two.0 (p.next ∷ []) p.part)

    crowd_in : 64 ≤ ask_count (performs_in hosts i (two.0 ++ p.next ∷ []) p.part)
    crowd_in =
        let c = crowd_then in
        crowd_asks hosts terms trace (newer ++ newest) (two.0 ++ p.next ∷ []) p.part y i c.0 session.order
        (split ∙ ap (λ (t : List (At KeptLine)). newer ++ t) same_calls ∙ sym (append_assoc newer newest (y ∷ part)) ∙ ap (λ (t : List (At KeptLine)). (newer ++ newest) ++ y ∷ t) two_are)
        (let by = p.by in let a = c.1 in let b = x.after in omega (arith, by, a, b)) (let a = c.1 in let b = x.after in omega (arith, a, b, known))
        (let n = next in let b = c.2 in let d = ends_x in omega (arith, n, b, d, after)) c.3

    counts : 64 * j ≤ asks_since hosts from i p.part → 64 * suc j ≤ asks_since hosts from i part
    counts rest =
        let crowd = crowd_in in
        let both = asked_since hosts i two.0 p.next p.part from (subst AreInOrder two.1 order_y.1) (let a = p.after in omega (arith, a)) in
        let is = ap (asks_since hosts from i) two.1 in
        omega (arith, crowd, rest, both, is)

  many : (j : ℕ) (newest part : List (At KeptLine)) (y : At KeptLine) → e ∷ (window ++ base) ≡ newest ++ y ∷ part → at j < y.time → at j + coming terms < e.time → 64 * j ≤ asks_since hosts from i part
  many zero newest part y same_calls after late = omega arith
  many (suc j) newest part y same_calls after late =
      let first = p j newest part y same_calls after late in
      counts j newest part y same_calls after late
      (many j _ first.part first.next (calls_p j newest part y same_calls after late) first.after (let n = next_at j in omega (arith, late, n)))

  -- ---- credit does not pay for that

  abbrev end : ℕ
  end = at crowds

  q : IsThen (e ∷ (window ++ base)) end
  q = then_at (e ∷ (window ++ base)) end (omega (arith, goes_on))

  asked : 64 * crowds ≤ asks_since hosts from i q.part
  asked = many crowds q.front q.part q.next q.split q.after (omega (arith, goes_on))

  module _ (enough : 64 * 250000 + (16000000 + terms.late) + crowds * span < crowds * (64 * 250000)) where
    b : IsThen (q.next ∷ q.part) from
    b = then_at (q.next ∷ q.part) from (let a = q.after in omega (arith, a))

    calls_b : e ∷ (window ++ base) ≡ (q.front ++ b.front) ++ b.next ∷ b.part
    calls_b = q.split ∙ ap (λ (t : List (At KeptLine)). q.front ++ t) b.split ∙ sym (append_assoc q.front b.front (b.next ∷ b.part))

    order_q : AreInOrder (q.next ∷ q.part)
    order_q = order_of q.front (q.next ∷ q.part) (subst AreInOrder q.split order)

    order_b : AreInOrder (b.next ∷ b.part)
    order_b = order_of b.front (b.next ∷ b.part) (subst AreInOrder b.split order_q)

    none_yet : asks_since hosts from i b.part ≡ 0
    none_yet = none_since hosts from i b.part order_b.1 b.by

    w : (w : List (At KeptLine)) × (q.part ≡ w ++ b.next ∷ b.part)
    w = by b.front b.split where
      by : (part : List (At KeptLine)) → q.next ∷ q.part ≡ part ++ b.next ∷ b.part → (w : List (At KeptLine)) × (q.part ≡ w ++ b.next ∷ b.part)
      by [] is =
          let many = asked in
          let none = none_yet in
          let all = ap (asks_since hosts from i) (tails q.next b.next q.part b.part is) in
          absurd (omega (arith, many, none, all, enough))
      by (x ∷ part) is = (part, tails q.next x q.part (part ++ b.next ∷ b.part) is)

    abbrev calls : List (At KeptLine)
    calls = w.0 ++ b.next ∷ []

    whole : q.part ≡ calls ++ b.part
    whole = w.1 ∙ sym (append_assoc w.0 (b.next ∷ []) b.part)

    abbrev lines : List Line
    lines = performs_in hosts i calls b.part

    asks : 64 * crowds ≤ ask_count lines
    asks =
        let many = asked in
        let none = none_yet in
        let both = asked_since hosts i w.0 b.next b.part from (subst AreInOrder w.1 order_q.1) b.after in
        let all = ap (asks_since hosts from i) w.1 in
        omega (arith, many, none, both, all)

    abbrev k : Keeping
    k = there hosts b.part i

    abbrev m : Keeping
    m = there hosts (calls ++ b.part) i

    split_b : trace ≡ (newer ++ (q.front ++ b.front)) ++ b.next ∷ b.part
    split_b = split ∙ ap (λ (t : List (At KeptLine)). newer ++ t) calls_b ∙ sym (append_assoc newer (q.front ++ b.front) (b.next ∷ b.part))

    upto_b : trace ≡ ((newer ++ (q.front ++ b.front)) ++ b.next ∷ []) ++ b.part
    upto_b = split_b ∙ sym (append_assoc (newer ++ (q.front ++ b.front)) (b.next ∷ []) b.part)

    upto_q : trace ≡ ((newer ++ q.front) ++ q.next ∷ []) ++ (calls ++ b.part)
    upto_q =
        split ∙ ap (λ (t : List (At KeptLine)). newer ++ t) q.split ∙ sym (append_assoc newer q.front (q.next ∷ q.part)) ∙ sym (append_assoc (newer ++ q.front) (q.next ∷ []) q.part)
        ∙ ap (λ (t : List (At KeptLine)). ((newer ++ q.front) ++ q.next ∷ []) ++ t) whole

    held_later : (newest part : List (At KeptLine)) (y : At KeptLine) → e ∷ (window ++ base) ≡ newest ++ y ∷ part → from < y.time → (there hosts part i).host.is.held ≡ (there hosts base i).host.is.held
    held_later newest part y same_calls after =
        let l = is_later newest part y same_calls after in
        ap (λ (t : List (At KeptLine)). (there hosts t i).host.is.held) l.is ∙ same_then hosts terms trace i session holes_held live (newer ++ e ∷ []) window base upto settled same l.rest (l.middle ++ first) l.within

    held_same : m.host.is.held ≡ k.host.is.held
    held_same =
        ap (λ (t : List (At KeptLine)). (there hosts t i).host.is.held) (sym whole) ∙ held_later q.front q.part q.next q.split (let a = q.after in omega (arith, a))
        ∙ sym (held_later (q.front ++ b.front) b.part b.next calls_b b.after)

    same_keeping : after_kept (handed i calls) k ≡ m
    same_keeping = after_handed hosts i calls b.part

    same_host : m.host ≡ after_lines lines k.host
    same_host = ap (λ (l : Keeping). l.host) (sym same_keeping) ∙ (kept_hosts_are_hosts (handed i calls) k).0

    late_q : from ≤ time_of (calls ++ b.part)
    late_q = subst (λ (t : List (At KeptLine)). from ≤ time_of t) whole (let a = b.after in let end_b = first_time in omega (arith, a, end_b)) where
      first_time : b.next.time ≤ time_of q.part
      first_time = subst (λ (t : List (At KeptLine)). b.next.time ≤ time_of t) (sym w.1) (before_end w.0 (b.next ∷ b.part) (subst AreInOrder w.1 order_q.1))

    room : is_full (after_lines lines k.host) ≡ false
    room = subst (λ (h : Opened). is_full h ≡ false) same_host (session.room ((newer ++ q.front) ++ q.next ∷ []) (calls ++ b.part) i upto_q live (let l = late_q in omega (arith, known, l)))

    -- nothing came
    no_answers : answer_count lines k.host ≡ 0
    no_answers = by (have_come lines k.host undrawn room) where
      undrawn : HasNoDrawing lines
      undrawn =
          performs_no_drawing hosts i calls b.part
          (none_draws hosts terms trace session ((newer ++ q.front) ++ q.next ∷ []) calls b.part upto_q (late_from hosts terms trace session w.0 b.part b.next (subst AreInOrder w.1 order_q.1) (let a = b.after in omega (arith, a, known))))

      by : HaveCome lines k.host → answer_count lines k.host ≡ 0
      by c = none c.names c.lacked c.held c.count where
        none : (names : List NameValue) → ((n : NameValue) → Contains names n → holds k.host.is.held n ≡ false) → ((n : NameValue) → Contains names n → holds (after_lines lines k.host).is.held n ≡ true)
            → answer_count lines k.host ≡ length names → answer_count lines k.host ≡ 0
        none [] lacked held count = count
        none (n ∷ names) lacked held count =
            let there_m = ap (λ (h : Opened). holds h.is.held n) same_host ∙ held n (Contains-here n names) in
            let there_k = ap (λ (h : List DrawopValue). holds h n) held_same in
            absurd (true≢false (sym there_m ∙ there_k ∙ lacked n (Contains-here n names)))

    -- the clock is not far behind
    first_now : from ≤ present k.host + (terms.lag i + (16000000 + terms.late))
    first_now =
        let a = b.after in
        let soon = session.soon (newer ++ (q.front ++ b.front)) b.part b.next i split_b live (omega (arith, a, known)) in
        let turn = due_by_turn k in
        let beat = (near_there hosts terms trace ((newer ++ (q.front ++ b.front)) ++ b.next ∷ []) b.part i session upto_b live).beat in
        omega (arith, a, soon, turn, beat)

    last_now : present m.host + terms.lag i ≤ end
    last_now =
        let now = now_there hosts terms trace ((newer ++ q.front) ++ q.next ∷ []) (calls ++ b.part) i session upto_q live in
        let by : time_of (calls ++ b.part) ≤ end = subst (λ (t : List (At KeptLine)). time_of t ≤ end) whole q.by in
        omega (arith, now, by, known)

    pub not_still : ⊥
    not_still =
        let taken = taken_of hosts ((newer ++ q.front) ++ q.next ∷ []) (calls ++ b.part) (subst (λ (t : List (At KeptLine)). sessions.AreTaken hosts t) upto_q session.taken) in
        let few = few_names_are_asked (handed i calls) k (taken_handed hosts i calls b.part taken) in
        let none = no_answers in
        let many = asks in
        let first = first_now in
        let last = last_now in
        let is = ap (λ (l : Keeping). present l.host) same_keeping in
        too_many (ask_count lines) (answer_count lines k.host) crowds (present (after_kept (handed i calls) k).host) (present m.host) (present k.host) from (crowds * span) (terms.lag i) terms.late few none many is first last enough where
          too_many : (asks answers crowds after then before from spans lag late : ℕ) → asks * 250000 ≤ (64 + 2 * answers) * 250000 + (after - before) → answers ≡ 0 → 64 * crowds ≤ asks → after ≡ then
              → from ≤ before + (lag + (16000000 + late)) → then + lag ≤ from + spans → 64 * 250000 + (16000000 + late) + spans < crowds * (64 * 250000) → ⊥
          too_many asks answers crowds after then before from spans lag late few none many is first last enough = omega (arith, few, none, many, is, first, last, enough)
