-- Round by round: what a live host asks for comes, or 64 names are asked for.
use Rattle.std.proofs.Common.{◌≡◌, ℕ, zero, suc, ◌+◌, ◌*◌, ◌<◌, ◌≤◌, Bool, true, false, cond, List, [], ◌∷◌, ◌++◌, ◌∙◌, Some, ap, append_assoc, arith, inl, inr, length, length-append, max, refl, subst, sym, true≢false, ⊎_elim}
use Rattle.std.specs.Prelude.{◌⊎◌, Contains, nat_eq}
use Rattle.std.proofs.lemmas.Bool.Decides.{leb_tells}
use Rattle.std.proofs.lemmas.List.Elements.{Contains-append_cases}
use Rattle.wb_names.specs.Values.{NameValue}
use Rattle.wb_names.proofs.Listings.{Contains-cases, Contains-here, Contains-none, Contains-there}
use Rattle.wb_recovery.specs.declared.timers.AskTimer.{AskTimer}
use Rattle.wb_progress.specs.InTime.{AreApart, known_from, repairing}
use Rattle.wb_progress.specs.Turns.{Terms, settled_by}
use Rattle.wb_progress.proofs.NamesApart.{apart_append}
use Rattle.wb_progress.proofs.Parts.{before_end, in_past, order_of, tails}
use Rattle.wb_member.specs.Judged.{holds}
use Rattle.wb_member.specs.Opened.{Opened, asks_for}
use Rattle.wb_member.specs.declared.calls.Call.TheVariants.{Tick, Tune}
use Rattle.wb_keeping.specs.Bounds.{ask_count}
use Rattle.wb_keeping.specs.Kept.{Calls, Line}
use Rattle.wb_keeping.specs.Laws.{Added, Came, KeptLine, Ticked, Tuned, doing_of}
use Rattle.wb_keeping.specs.Performing.{Keeping, after_line, sees}
use Rattle.wb_keeping.specs.Views.{View}
use Rattle.wb_policy.specs.Policy.{Policy}
use Rattle.wb_kept_progress.specs.Crowded.{round_span}
use Rattle.wb_kept_progress.specs.Promises.{timer_then}
use Rattle.wb_kept_progress.specs.Rounds.{AreAsked}
use Rattle.wb_kept_progress.specs.Sessions.{Opening}
use Rattle.wb_kept_progress.specs.Timed.{AllHoldBehind, AreInOrder, At, IsGivenUp, IsTimely, Start, host_after, performed, start_of, time_of}
use Rattle.wb_kept_progress.specs.Whole.{IsHeldBySome, IsTimelySession, WaitAtMost, request_span, there}
use Rattle.wb_kept_progress.proofs.AskedComes.{asked_lacked, comes_or_is_given_up, the_ask, timer_of}
use Rattle.wb_kept_progress.proofs.Becoming.{held_on, lacked_before}
use Rattle.wb_kept_progress.proofs.CallLines.{call_ends, line_stands, lines_have_calls}
use Rattle.wb_kept_progress.proofs.CallParts.{host_is}
use Rattle.wb_kept_progress.proofs.CallsInTime.{performed_is_timely}
use Rattle.wb_kept_progress.proofs.CrowdAsks.{crowd_asks}
use Rattle.wb_kept_progress.proofs.Crowds.{IsCrowd, crowd}
use Rattle.wb_kept_progress.proofs.Handed.{asked_both, performs_in}
use Rattle.wb_kept_progress.proofs.KeptInTime.{at_place, front_of, time_is}
use Rattle.wb_kept_progress.proofs.WholeParts.{IsOfCall}
use Rattle.wb_kept_progress.proofs.WindowParts.{in_window}

-- ---- lists

-- each is so, or something else is
each_or : {P : NameValue → Type 0} {C : Type 0} (names : List NameValue) → ((x : NameValue) → Contains names x → P x ⊎ C) → ((x : NameValue) → Contains names x → P x) ⊎ C
each_or [] either = inl (λ x c. absurd (Contains-none x c))
each_or {P} {C} (n ∷ names) either = ⊎_elim
    (λ (first : P n). ⊎_elim
    (λ (rest : (x : NameValue) → Contains names x → P x). inl (λ x c. ⊎_elim (λ (is : n ≡ x). subst P is first) (λ (d : Contains names x). rest x d) (Contains-cases n x names c)))
    (λ (other : C). inr other)
    (each_or {P = P} {C = C} names (λ x c. either x (Contains-there n x names c))))
    (λ (other : C). inr other)
    (either n (Contains-here n names))

-- nothing ends in itself and more
no_longer_than_itself : (a b xs : List (At Line)) (x : At Line) → xs ≡ a ++ x ∷ (b ++ xs) → ⊥
no_longer_than_itself a b xs x same =
    let all = ap (λ (l : List (At Line)). length l) same in
    let one = length-append a (x ∷ (b ++ xs)) in
    let other = length-append b xs in
    omega (arith, all, one, other)

-- a span more
pub one_more : (from k span : ℕ) → from + suc k * span ≡ from + k * span + span
one_more from k span = let product : suc k * span ≡ k * span + span = omega arith in omega (arith, product)

-- ---- calls

-- the calls up to a time, and the next call
pub record IsThen (calls : List (At KeptLine)) (s : ℕ) : Type 0 where
  pub front : List (At KeptLine)
  pub next : At KeptLine
  pub part : List (At KeptLine)
  pub split : calls ≡ front ++ next ∷ part
  pub by : time_of part ≤ s
  pub after : s < next.time

pub then_at : (calls : List (At KeptLine)) (s : ℕ) → s < time_of calls → IsThen calls s
then_at [] s lt = absurd (omega (arith, lt))
then_at (e ∷ older) s lt = ⊎_elim
    (λ no. record { front = []; next = e; part = older; split = refl; by = no.1; after = lt })
    (λ yes.
    let r = then_at older s yes.1 in
    record { front = e ∷ r.front; next = r.next; part = r.part; split = ap (λ (t : List (At KeptLine)). e ∷ t) r.split; by = r.by; after = r.after })
    (leb_tells (time_of older) s)

-- an older part is one of what stands before the newest call, too
older_part : (front : List (At KeptLine)) (e y : At KeptLine) (part rest : List (At KeptLine)) → e ∷ part ≡ front ++ y ∷ rest → (more : List (At KeptLine)) × (part ≡ more ++ rest)
older_part [] e y part rest same = ([], tails e y part rest same)
older_part (z ∷ front) e y part rest same = (front ++ y ∷ [], tails e z part (front ++ y ∷ rest) same ∙ sym (append_assoc front (y ∷ []) rest))

module _ (hosts : ℕ → Opening) where
  -- what is performed after the lines of some calls is performed in the next call, or later
  pub since_next : (newer part : List (At KeptLine)) (next : At KeptLine) (front between : List (At Line)) (x : At Line) → AreInOrder (newer ++ next ∷ part) → AreInOrder (performed hosts (newer ++ next ∷ part))
      → performed hosts (newer ++ next ∷ part) ≡ front ++ x ∷ (between ++ performed hosts part) → next.time ≤ x.time
  since_next newer part next front between x order in_order split = ⊎_elim (λ no. no.1) (λ yes. absurd (earlier yes.1)) (leb_tells next.time x.time) where
    back : List (At Line)
    back = between ++ performed hosts part

    earlier : x.time < next.time → ⊥
    earlier lt =
        let f = front_of hosts newer (next ∷ part) in
        let p = in_past f.0 (performed hosts (next ∷ part)) front (x ∷ back) (sym f.1 ∙ split) (subst AreInOrder f.1 in_order) (subst (λ (t : ℕ). x.time < t) (sym (time_is hosts (next ∷ part))) lt) in
        inside (lines_have_calls hosts (next ∷ part) p.0 x back p.1) where
          inside : IsOfCall hosts (next ∷ part) x back → ⊥
          inside c = of_call c.newer c.split where
            of_call : (newest : List (At KeptLine)) → next ∷ part ≡ newest ++ c.e ∷ c.older → ⊥
            of_call [] same = let is : next.time ≡ c.e.time = ap time_of same in let time = c.time in omega (arith, is, time, lt)
            of_call (y ∷ newest) same =
                let in_part : part ≡ newest ++ c.e ∷ c.older = tails next y part (newest ++ c.e ∷ c.older) same in
                let g = front_of hosts newest (c.e ∷ c.older) in
                let h = call_ends hosts (next ∷ part) x back c in
                no_longer_than_itself (g.0 ++ h.0) between (performed hosts part) x
                (ap (performed hosts) in_part ∙ g.1 ∙ ap (λ (l : List (At Line)). g.0 ++ l) h.1 ∙ sym (append_assoc g.0 h.0 (x ∷ back)))

  -- What comes by a time is held before a call after it: a call begins with a tick, or sets constants, and brings nothing by that.
  module _ (terms : Terms) (trace newer part : List (At KeptLine)) (e : At KeptLine) (i by : ℕ) (m : NameValue) (split : trace ≡ newer ++ e ∷ part) (comes : AllHoldBehind (λ j. start_of (hosts j)) terms (performed hosts trace) by m)
      (late : by < e.time) (live : Contains terms.live i) where
    abbrev starts_all : ℕ → Start
    starts_all j = start_of (hosts j)

    -- the first line of a call, which brings nothing
    abbrev First : KeptLine → (List Line → View) → Policy → Type 0
    First line see p = (first : Line) × (rest : List Line) × ((doing_of line see p).lines ≡ first ∷ rest) × ((h : Opened) → holds (after_line first h) m ≡ true → holds h m ≡ true)

    first_line : (line : KeptLine) (see : List Line → View) (p : Policy) → First line see p
    first_line (Came now v) see p = (Calls (Tick now), _, refl, λ h e. e)
    first_line (Ticked now) see p = (Calls (Tick now), _, refl, λ h e. e)
    first_line (Added now page time op) see p = (Calls (Tick now), _, refl, λ h e. e)
    first_line (Tuned constants) see p = (Calls (Tune constants), [], refl, λ h e. e)

    abbrev its : Keeping
    its = there hosts part e.place

    first : First e.event (sees its.host) its.policy
    first = first_line e.event (sees its.host) its.policy

    abbrev back : List (At Line)
    back = at_place e.time e.place first.0 ∷ performed hosts part

    within : (front : List (At Line)) × (performed hosts trace ≡ front ++ back)
    within = line_stands hosts trace newer part e [] first.1 first.0 split first.2

    held_after : holds (host_after starts_all back i) m ≡ true
    held_after = comes within.0 back i within.1 late live

    pub held_before : holds (there hosts part i).host m ≡ true
    held_before = ap (λ (h : Opened). holds h m) (sym (host_is hosts part i)) ∙ from (nat_eq e.place i) refl held_after where
      h : Opened
      h = host_after starts_all (performed hosts part) i

      from : (b : Bool) → nat_eq e.place i ≡ b → holds (cond b (after_line first.0 h) h) m ≡ true → holds h m ≡ true
      from false other held = held
      from true same held = first.3 h held

-- ---- one host

-- From a time on, after each call, a live host asks for a name if it lacks that, or for `places` that another holds.
abbrev pub FilledFor : (ℕ → Opening) → Terms → List (At KeptLine) → (since places i : ℕ) → NameValue → Type 0
FilledFor hosts terms trace since places i n = (newer older : List (At KeptLine)) → trace ≡ newer ++ older → since < time_of older → holds (there hosts older i).host n ≡ false
    → (asks_for n (there hosts older i).host ≡ true) ⊎ AreAsked hosts terms trace older i places

module _ (hosts : ℕ → Opening) (terms : Terms) (trace : List (At KeptLine)) (since wait places i : ℕ) (n : NameValue) (session : IsTimelySession hosts terms trace) (waits : WaitAtMost hosts terms trace wait)
    (filled : FilledFor hosts terms trace since places i n) (live : Contains terms.live i) (held : IsHeldBySome hosts terms trace n) (newest base : List (At KeptLine)) (split_base : trace ≡ newest ++ base)
    (known : known_from terms + wait + repairing terms < time_of base) (late_base : since < time_of base) where
  abbrev starts : ℕ → Start
  starts j = start_of (hosts j)

  timely : IsTimely starts terms (performed hosts trace)
  timely = performed_is_timely hosts terms trace session

  abbrev at_round : ℕ → ℕ
  at_round k = time_of base + k * round_span terms

  next_round : (k : ℕ) → at_round (suc k) ≡ at_round k + round_span terms
  next_round k = one_more (time_of base) k (round_span terms)

  -- what the rounds so far brought: in each one as many names as there are places, or a crowd
  pub record Counted (part : List (At KeptLine)) (k : ℕ) : Type 0 where
    pub window : List (At KeptLine)
    pub is : part ≡ window ++ base
    pub bringing : ℕ
    pub crowded : ℕ
    pub rounds : bringing + crowded ≡ k
    pub names : List NameValue
    pub apart : AreApart names
    pub count : bringing * places + 1 ≤ length names
    pub first : (x : NameValue) → Contains names x → IsHeldBySome hosts terms trace x × (holds (there hosts base i).host x ≡ false)
    pub then : (x : NameValue) → Contains names x → (x ≡ n) ⊎ (holds (there hosts part i).host x ≡ true)
    pub asks : 64 * crowded ≤ ask_count (performs_in hosts i window base)

  -- ---- before the first round

  at_first : (newer : List (At KeptLine)) (e : At KeptLine) (part : List (At KeptLine)) → trace ≡ newer ++ e ∷ part → at_round 0 < e.time → holds (there hosts (e ∷ part) i).host n ≡ false → Counted part 0
  at_first newer e part split lt lacks =
      let w = in_window newest base newer part e (sym split_base ∙ split) (subst AreInOrder split_base session.order) (omega (arith, lt)) in
      record {
        window = w.part;
        is = w.older_is;
        bringing = 0;
        crowded = 0;
        rounds = refl;
        names = n ∷ [];
        apart = (λ c. absurd (Contains-none n c), tt);
        count = none places;
        first = λ x c. ⊎_elim
            (λ (same : n ≡ x). subst (λ (y : NameValue). IsHeldBySome hosts terms trace y × (holds (there hosts base i).host y ≡ false)) same
            (held, lacked_before hosts (e ∷ w.part) base i n (subst (λ (l : List (At KeptLine)). holds (there hosts (e ∷ l) i).host n ≡ false) w.older_is lacks)))
            (λ (none : Contains [] x). absurd (Contains-none x none))
            (Contains-cases n x [] c);
        then = λ x c. ⊎_elim (λ (same : n ≡ x). inl (sym same)) (λ (none : Contains [] x). absurd (Contains-none x none)) (Contains-cases n x [] c);
        asks = omega arith;
      } where
        none : (m : ℕ) → 0 * m + 1 ≤ length (n ∷ [])
        none m = omega arith

  -- ---- one round

  module _ (k : ℕ) (newer part : List (At KeptLine)) (e : At KeptLine) (split : trace ≡ newer ++ e ∷ part) (ends : time_of part ≤ at_round (suc k)) (goes_on : at_round (suc k) < e.time)
      (lacks : holds (there hosts (e ∷ part) i).host n ≡ false) where
    abbrev time : ℕ
    time = at_round k + request_span terms

    in_round : at_round k + 2 * request_span terms + repairing terms ≡ at_round (suc k)
    in_round = let r = next_round k in omega (arith, r)

    q : IsThen (e ∷ part) time
    q = then_at (e ∷ part) time (let r = in_round in omega (arith, r, goes_on))

    p : IsThen (q.next ∷ q.part) (at_round k)
    p = then_at (q.next ∷ q.part) (at_round k) (let after = q.after in omega (arith, after))

    a : (more : List (At KeptLine)) × (part ≡ more ++ q.part)
    a = older_part q.front e q.next part q.part q.split

    b : (more : List (At KeptLine)) × (q.part ≡ more ++ p.part)
    b = older_part p.front q.next p.next q.part p.part p.split

    split_q : trace ≡ (newer ++ q.front) ++ q.next ∷ q.part
    split_q = split ∙ ap (λ (l : List (At KeptLine)). newer ++ l) q.split ∙ sym (append_assoc newer q.front (q.next ∷ q.part))

    split_p : trace ≡ ((newer ++ q.front) ++ p.front) ++ p.next ∷ p.part
    split_p = split_q ∙ ap (λ (l : List (At KeptLine)). (newer ++ q.front) ++ l) p.split ∙ sym (append_assoc (newer ++ q.front) p.front (p.next ∷ p.part))

    upto_q : trace ≡ ((newer ++ q.front) ++ q.next ∷ []) ++ q.part
    upto_q = split_q ∙ sym (append_assoc (newer ++ q.front) (q.next ∷ []) q.part)

    lacks_next : holds (there hosts (q.next ∷ q.part) i).host n ≡ false
    lacks_next = lacked_before hosts q.front (q.next ∷ q.part) i n (subst (λ (l : List (At KeptLine)). holds (there hosts l i).host n ≡ false) q.split lacks)

    lacks_then : holds (there hosts q.part i).host n ≡ false
    lacks_then = lacked_before hosts (q.next ∷ []) q.part i n lacks_next

    lacks_before : holds (there hosts (p.next ∷ p.part) i).host n ≡ false
    lacks_before = lacked_before hosts p.front (p.next ∷ p.part) i n (subst (λ (l : List (At KeptLine)). holds (there hosts l i).host n ≡ false) p.split lacks_next)

    lacks_part : holds (there hosts part i).host n ≡ false
    lacks_part = lacked_before hosts (e ∷ []) part i n lacks

    since_start : time_of base ≤ at_round k
    since_start = omega arith

    settled : settled_by terms < time_of base
    settled = omega (arith, known)

    whole : part ≡ (a.0 ++ b.0) ++ p.part
    whole = a.1 ∙ ap (λ (l : List (At KeptLine)). a.0 ++ l) b.1 ∙ sym (append_assoc a.0 b.0 p.part)

    module _ (c : Counted p.part k) where
      base_by : time_of base ≤ time_of q.part
      base_by =
          let is : q.part ≡ (b.0 ++ c.window) ++ base = b.1 ∙ ap (λ (l : List (At KeptLine)). b.0 ++ l) c.is ∙ sym (append_assoc b.0 c.window base) in
          let le = before_end (b.0 ++ c.window) base (subst AreInOrder is (order_of ((newer ++ q.front) ++ q.next ∷ []) q.part (subst AreInOrder upto_q session.order))) in
          subst (λ (l : List (At KeptLine)). time_of base ≤ time_of l) (sym is) le

      -- 64 names are asked for in the round
      abbrev Crowd : Type 0
      Crowd = 64 ≤ ask_count (performs_in hosts i (a.0 ++ b.0) p.part)

      is_crowd : (now : ℕ) → q.next.time ≤ now → now ≤ time + request_span terms → IsCrowd hosts terms trace i now → Crowd
      is_crowd now from by_end x = crowd_asks hosts terms trace newer (a.0 ++ b.0) p.part e i now session.order (split ∙ ap (λ (l : List (At KeptLine)). newer ++ e ∷ l) whole)
          (let by = p.by in let after = q.after in omega (arith, by, after, from)) (let s = settled in let z = since_start in let after = q.after in omega (arith, s, z, after, from))
          (let r = in_round in omega (arith, by_end, r, goes_on)) x

      -- what is asked for comes by the end of the round, or a crowd is
      fate : (m : NameValue) → IsHeldBySome hosts terms trace m → asks_for m (there hosts q.part i).host ≡ true → (holds (there hosts part i).host m ≡ true) ⊎ Crowd
      fate m held_m asked =
          let f = front_of hosts ((newer ++ q.front) ++ q.next ∷ []) q.part in
          let at = time_is hosts q.part in
          let t = the_ask (timer_then hosts (performed hosts q.part) i m) (timer_of hosts q.part i m asked) in
          let le = base_by in
          ⊎_elim
          (λ (comes : AllHoldBehind starts terms (performed hosts trace) (time_of (performed hosts q.part) + request_span terms + repairing terms) m).
          inl (held_before hosts terms trace newer part e i (time_of (performed hosts q.part) + request_span terms + repairing terms) m split comes (let by = q.by in let r = in_round in omega (arith, by, r, at, goes_on)) live))
          (λ (g : (t.0.level ≡ 0) × IsGivenUp starts (performed hosts trace) (performed hosts q.part) i m t.0 (max (time_of (performed hosts q.part)) (time_of (performed hosts q.part) + terms.asking * terms.far) + terms.late)).
          inr (given_up m t.0 t.1 g.0 g.1))
          (comes_or_is_given_up hosts terms trace wait timely waits f.0 (performed hosts q.part) i m t.0 (ap (performed hosts) upto_q ∙ f.1) (omega (arith, known, le, at)) live held_m t.1) where
            given_up : (m : NameValue) (ask : AskTimer) → timer_then hosts (performed hosts q.part) i m ≡ Some ask → ask.level ≡ 0
                → IsGivenUp starts (performed hosts trace) (performed hosts q.part) i m ask (max (time_of (performed hosts q.part)) (time_of (performed hosts q.part) + terms.asking * terms.far) + terms.late) → Crowd
            given_up m ask stands new g = is_crowd g.e.time from by_end
                (crowd hosts terms trace i session timely live g.front (g.between ++ performed hosts q.part) g.e g.split late m ask g.place g.line g.stands new) where
                  from : q.next.time ≤ g.e.time
                  from =
                      since_next hosts (newer ++ q.front) q.part q.next g.front g.between g.e (subst AreInOrder split_q session.order)
                      (subst (λ (l : List (At KeptLine)). AreInOrder (performed hosts l)) split_q timely.order) (sym (ap (performed hosts) split_q) ∙ g.split)

                  by_end : g.e.time ≤ time + request_span terms
                  by_end = let soon = g.soon in let by = q.by in let at = time_is hosts q.part in omega (arith, soon, by, at)

                  late : terms.quiet < g.e.time
                  late = let f = from in let s = settled in let z = since_start in let after = q.after in omega (arith, f, s, z, after)

      -- ---- what that counts for

      abbrev window : List (At KeptLine)
      window = (a.0 ++ b.0) ++ c.window

      window_is : part ≡ window ++ base
      window_is = whole ∙ ap (λ (l : List (At KeptLine)). (a.0 ++ b.0) ++ l) c.is ∙ sym (append_assoc (a.0 ++ b.0) c.window base)

      both : ask_count (performs_in hosts i window base) ≡ ask_count (performs_in hosts i c.window base) + ask_count (performs_in hosts i (a.0 ++ b.0) p.part)
      both = asked_both hosts i (a.0 ++ b.0) c.window base ∙ ap (λ (l : List (At KeptLine)). ask_count (performs_in hosts i c.window base) + ask_count (performs_in hosts i (a.0 ++ b.0) l)) (sym c.is)

      held_since : (x : NameValue) → holds (there hosts p.part i).host x ≡ true → holds (there hosts part i).host x ≡ true
      held_since x h = subst (λ (l : List (At KeptLine)). holds (there hosts l i).host x ≡ true) (sym whole) (held_on hosts (a.0 ++ b.0) p.part i x h)

      one_crowd : Crowd → Counted part (suc k)
      one_crowd many = record {
        window = window;
        is = window_is;
        bringing = c.bringing;
        crowded = suc c.crowded;
        rounds = let r = c.rounds in omega (arith, r);
        names = c.names;
        apart = c.apart;
        count = c.count;
        first = c.first;
        then = λ x d. ⊎_elim (λ (same : x ≡ n). inl same) (λ (had : holds (there hosts p.part i).host x ≡ true). inr (held_since x had)) (c.then x d);
        asks = let asks = c.asks in let two = both in omega (arith, asks, two, many);
      }

      came : (s : AreAsked hosts terms trace q.part i places) → ((x : NameValue) → Contains s.names x → holds (there hosts part i).host x ≡ true) → Counted part (suc k)
      came s comes = record {
        window = window;
        is = window_is;
        bringing = suc c.bringing;
        crowded = c.crowded;
        rounds = let r = c.rounds in omega (arith, r);
        names = s.names ++ c.names;
        apart = apart_append s.names c.names s.apart c.apart not_twice;
        count = let all = length-append s.names c.names in let many = s.count in more (length (s.names ++ c.names)) (length s.names) (length c.names) c.bringing places all many c.count;
        first = λ x d. ⊎_elim
            (λ (here : Contains s.names x). (s.held x here, lacked_base x (asked_lacked hosts q.part i x (s.asked x here))))
            (λ (old : Contains c.names x). c.first x old)
            (Contains-append_cases s.names c.names x d);
        then = λ x d. ⊎_elim
            (λ (here : Contains s.names x). inr (comes x here))
            (λ (old : Contains c.names x). ⊎_elim (λ (same : x ≡ n). inl same) (λ (had : holds (there hosts p.part i).host x ≡ true). inr (held_since x had)) (c.then x old))
            (Contains-append_cases s.names c.names x d);
        asks = let asks = c.asks in let two = both in omega (arith, asks, two);
      } where
        lacked_base : (x : NameValue) → holds (there hosts q.part i).host x ≡ false → holds (there hosts base i).host x ≡ false
        lacked_base x l =
            let is : q.part ≡ (b.0 ++ c.window) ++ base = b.1 ∙ ap (λ (l : List (At KeptLine)). b.0 ++ l) c.is ∙ sym (append_assoc b.0 c.window base) in
            lacked_before hosts (b.0 ++ c.window) base i x (subst (λ (l : List (At KeptLine)). holds (there hosts l i).host x ≡ false) is l)

        not_twice : (x : NameValue) → Contains s.names x → Contains c.names x → ⊥
        not_twice x here old = ⊎_elim
            (λ (same : x ≡ n). true≢false (sym (subst (λ (y : NameValue). holds (there hosts part i).host y ≡ true) same (comes x here)) ∙ lacks_part))
            (λ (had : holds (there hosts p.part i).host x ≡ true).
            let then = subst (λ (l : List (At KeptLine)). holds (there hosts l i).host x ≡ true) (sym b.1) (held_on hosts b.0 p.part i x had) in
            true≢false (sym then ∙ asked_lacked hosts q.part i x (s.asked x here)))
            (c.then x old)

        more : (all new old rounds each : ℕ) → all ≡ new + old → new ≡ each → rounds * each + 1 ≤ old → suc rounds * each + 1 ≤ all
        more all new old rounds each is some le =
            let product : suc rounds * each ≡ rounds * each + each = omega arith in
            omega (arith, is, some, le, product)

      one_round : Counted part (suc k)
      one_round = ⊎_elim
          (λ (asked : asks_for n (there hosts q.part i).host ≡ true). ⊎_elim
          (λ (comes : holds (there hosts part i).host n ≡ true). absurd (true≢false (sym comes ∙ lacks_part)))
          one_crowd
          (fate n held asked))
          (λ (s : AreAsked hosts terms trace q.part i places). ⊎_elim
          (came s)
          one_crowd
          (each_or {P = λ x. holds (there hosts part i).host x ≡ true} {C = Crowd} s.names (λ x d. fate x (s.held x d) (s.asked x d))))
          (filled ((newer ++ q.front) ++ q.next ∷ []) q.part upto_q (let le = base_by in omega (arith, le, late_base)) lacks_then)

  -- ---- all rounds

  pub counted : (k : ℕ) (newer part : List (At KeptLine)) (e : At KeptLine) → trace ≡ newer ++ e ∷ part → time_of part ≤ at_round k → at_round k < e.time → holds (there hosts (e ∷ part) i).host n ≡ false → Counted part k
  counted zero newer part e split ends goes_on lacks = at_first newer e part split goes_on lacks
  counted (suc k) newer part e split ends goes_on lacks =
      let older = q k newer part e split ends goes_on lacks in
      let first = p k newer part e split ends goes_on lacks in
      one_round k newer part e split ends goes_on lacks
      (counted k ((newer ++ older.front) ++ first.front) first.part first.next (split_p k newer part e split ends goes_on lacks) first.by first.after (lacks_before k newer part e split ends goes_on lacks))
