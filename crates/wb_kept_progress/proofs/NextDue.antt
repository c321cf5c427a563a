-- In a window of time in which what is held stays, a live host reports again and again, and has turns again and again. Tellings move with its reports alone,
-- and turns with its turns.
use Rattle.std.proofs.Common.{◌≡◌, ℕ, zero, suc, ◌+◌, ◌*◌, ◌<◌, ◌≤◌, Bool, true, false, cond, List, [], ◌∷◌, ◌++◌, ◌∙◌, ap, append_assoc, arith, eqb-true, inl, inr, refl, subst, sym, ⊎_elim}
use Rattle.std.specs.Prelude.{◌⊎◌, Contains, max, nat_eq}
use Rattle.std.proofs.lemmas.Bool.Decides.{leb_tells}
use Rattle.wb_names.specs.Values.{DrawopValue}
use Rattle.wb_progress.specs.Turns.{IsNowAt, Terms}
use Rattle.wb_member.specs.Judged.{is_full}
use Rattle.wb_keeping.specs.Laws.{KeptLine, doing_of}
use Rattle.wb_keeping.specs.Performing.{Keeping, after_doing}
use Rattle.wb_policy.specs.Policy.{Policy}
use Rattle.wb_kept_progress.specs.Sessions.{Opening}
use Rattle.wb_kept_progress.specs.Timed.{AreInOrder, At, SaysNow, TellTimes, time_of}
use Rattle.wb_kept_progress.proofs.Moments.{IsTuned, moment_of, told_itself, told_or_tuned}
use Rattle.wb_kept_progress.specs.Whole.{IsTimelySession, there}
use Rattle.wb_kept_progress.proofs.InTurn.{IsTimedCall}
use Rattle.wb_kept_progress.proofs.Beats.{ByReport, ByTurn, Comes, IsAsBefore, Kind, State, comes_or_not, due_by, due_of, moved, state_after, state_of, states_after}
use Rattle.wb_kept_progress.proofs.OwedAndDue.{tells_of}
use Rattle.wb_kept_progress.proofs.StillCalls.{IsTuning, still_call, tuned_only}
use Rattle.wb_kept_progress.proofs.Turning.{answers_at}
use Rattle.wb_kept_progress.proofs.WholeParts.{IsStill}
use Rattle.wb_progress.proofs.Parts.{before_end, nil_ends, order_of}

-- ---- parts of a window

-- what is still in a window is so in each part of it
pub still_newer : (hosts : ℕ → Opening) (terms : Terms) (trace newest front part base : List (At KeptLine)) → IsStill hosts terms trace newest (front ++ part) base
    → IsStill hosts terms trace (newest ++ front) part base
still_newer hosts terms trace newest front part base still = record {
  split = still.split ∙ ap (λ (t : List (At KeptLine)). newest ++ t) (append_assoc front part base) ∙ sym (append_assoc newest front (part ++ base));
  same = λ before rest j split live. still.same (front ++ before) rest j (ap (λ (t : List (At KeptLine)). front ++ t) split ∙ sym (append_assoc front before rest)) live;
}

pub still_older : (hosts : ℕ → Opening) (terms : Terms) (trace newest front part base : List (At KeptLine)) → IsStill hosts terms trace newest (front ++ part) base
    → IsStill hosts terms trace newest front (part ++ base)
still_older hosts terms trace newest front part base still = record {
  split = still.split ∙ ap (λ (t : List (At KeptLine)). newest ++ t) (append_assoc front part base);
  same = λ before rest j split live.
      ap (λ (t : List (At KeptLine)). (there hosts t j).host.is.held) (sym (append_assoc rest part base))
      ∙ still.same before (rest ++ part) j (ap (λ (t : List (At KeptLine)). t ++ part) split ∙ append_assoc before rest part) live
      ∙ sym (still.same front part j refl live);
}

-- ---- a call

pub there_here : (hosts : ℕ → Opening) (e : At KeptLine) (older : List (At KeptLine)) (i : ℕ) → nat_eq e.place i ≡ true
    → there hosts (e ∷ older) i ≡ after_doing (doing_of e.event) (there hosts older i)
there_here hosts e older i same = ap (λ (b : Bool). cond b (after_doing (doing_of e.event) (there hosts older i)) (there hosts older i)) same

pub there_other : (hosts : ℕ → Opening) (e : At KeptLine) (older : List (At KeptLine)) (i : ℕ) → nat_eq e.place i ≡ false
    → there hosts (e ∷ older) i ≡ there hosts older i
there_other hosts e older i other = ap (λ (b : Bool). cond b (after_doing (doing_of e.event) (there hosts older i)) (there hosts older i)) other

module _ (hosts : ℕ → Opening) (terms : Terms) (trace : List (At KeptLine)) (s : IsTimelySession hosts terms trace) where
  pub ordered : (newer part : List (At KeptLine)) → trace ≡ newer ++ part → AreInOrder part
  ordered newer part split = order_of newer part (subst AreInOrder split s.order)

  pub told_there : (newer older : List (At KeptLine)) (e : At KeptLine) (i : ℕ) → trace ≡ newer ++ e ∷ older → Contains terms.live i → nat_eq e.place i ≡ true
      → SaysNow terms e.time i e.event
  told_there newer older e i split live same =
      subst (λ (p : ℕ). Contains terms.live p → SaysNow terms e.time p e.event) (eqb-true e.place i same)
      (tells_of terms newer (e ∷ older) (subst (TellTimes terms) split s.times)).0 live

  -- what stands on a call that came late enough did so too
  pub quiet_behind : (newer more base : List (At KeptLine)) → trace ≡ newer ++ (more ++ base) → terms.quiet < time_of base → terms.quiet < time_of (more ++ base)
  quiet_behind newer more base split late = let end = before_end more base (ordered newer (more ++ base) split) in omega (arith, end, late)

  pub quiet_before : (newer more base : List (At KeptLine)) (e : At KeptLine) → trace ≡ newer ++ e ∷ (more ++ base) → terms.quiet < time_of base → terms.quiet < time_of (more ++ base)
  quiet_before newer more base e split late = let end = before_end more base (ordered newer (e ∷ (more ++ base)) split).1 in omega (arith, end, late)

  pub room_there : (newer older : List (At KeptLine)) (e : At KeptLine) (i : ℕ) → trace ≡ newer ++ e ∷ older → Contains terms.live i → terms.quiet < time_of older
      → is_full (there hosts older i).host ≡ false
  room_there newer older e i split live late = s.room (newer ++ e ∷ []) older i (split ∙ sym (append_assoc newer (e ∷ []) older)) live late

  -- a call comes at most so late behind a report or a turn that is due
  pub soon_there : (b : Kind) (newer older : List (At KeptLine)) (e : At KeptLine) (i by : ℕ) → trace ≡ newer ++ e ∷ older → Contains terms.live i → terms.quiet < e.time
      → due_of b (there hosts older i).policy + terms.lag i ≤ by → e.time ≤ by + terms.late
  soon_there b newer older e i by split live late le =
      let soon = s.soon newer older e i split live late in
      let first = due_by b (there hosts older i) in
      omega (arith, soon, first, le)

  -- a call of a live host in a window in which what is held stays
  module _ (i : ℕ) (live : Contains terms.live i) where
    pub window_call : (newest part base : List (At KeptLine)) (e : At KeptLine) → IsStill hosts terms trace newest (e ∷ part) base → terms.quiet < time_of base
        → nat_eq e.place i ≡ true
        → IsTuning (doing_of e.event) (there hosts (part ++ base) i)
        ⊎ (IsTimedCall (doing_of e.event) (there hosts (part ++ base) i) (moment_of e.event) × IsNowAt terms e.time i (moment_of e.event))
    window_call newest part base e still late same =
        let older = part ++ base in
        let k = there hosts older i in
        let split : trace ≡ newest ++ e ∷ older = still.split in
        let order = ordered newest (e ∷ older) split in
        let first = order.0 in
        let last = before_end part base order.1 in
        let held : (after_doing (doing_of e.event) k).host.is.held ≡ k.host.is.held =
        ap (λ (x : Keeping). x.host.is.held) (sym (there_here hosts e older i same)) ∙ still.same [] (e ∷ part) i refl live
        ∙ sym (still.same (e ∷ []) part i refl live) in
        ⊎_elim
        (λ (t : IsTuned e.event). inl (tuned_only e.event k t))
        (λ (now : IsNowAt terms e.time i (moment_of e.event)). ⊎_elim
        (λ (t : IsTuning (doing_of e.event) k). inl t)
        (λ (c : IsTimedCall (doing_of e.event) k (moment_of e.event)). inr (c, now))
        (still_call e.event k (moment_of e.event) (told_itself e.event)
        (λ now page time op is. s.drawn newest older e now page time op split (omega (arith, first, last, late)) is)
        (answers_at hosts older i) held))
        (told_or_tuned terms e.time i e.event (told_there newest older e i split live same))

    module _ (b : Kind) where
      -- by one of the calls it comes, the first behind a part
      pub record First (front base : List (At KeptLine)) : Type 0 where
        pub later : List (At KeptLine)
        pub e : At KeptLine
        pub between : List (At KeptLine)
        pub split : front ≡ later ++ e ∷ between
        pub place : nat_eq e.place i ≡ true
        pub same : IsAsBefore b (there hosts base i).policy (there hosts (between ++ base) i).policy
        pub comes : Comes b (doing_of e.event) (there hosts (between ++ base) i) (moment_of e.event)
        pub now : IsNowAt terms e.time i (moment_of e.event)

      first_of : (front newest base : List (At KeptLine)) → IsStill hosts terms trace newest front base → terms.quiet < time_of base
          → First front base ⊎ IsAsBefore b (there hosts base i).policy (there hosts (front ++ base) i).policy
      first_of [] newest base still late = inr (record { due = refl; state = refl })
      first_of (e ∷ front) newest base still late = ⊎_elim
          (λ (r : First front base). inl (record { later = e ∷ r.later; e = r.e; between = r.between; split = ap (λ (t : List (At KeptLine)). e ∷ t) r.split; place = r.place; same = r.same; comes = r.comes; now = r.now }))
          (λ (same : IsAsBefore b (there hosts base i).policy (there hosts (front ++ base) i).policy). by same (nat_eq e.place i) refl)
          (first_of front (newest ++ e ∷ []) base (still_newer hosts terms trace newest (e ∷ []) front base still) late) where
            older : List (At KeptLine)
            older = front ++ base

            k : Keeping
            k = there hosts older i

            on : IsAsBefore b (there hosts base i).policy k.policy → nat_eq e.place i ≡ true → IsAsBefore b k.policy (after_doing (doing_of e.event) k).policy
                → IsAsBefore b (there hosts base i).policy (there hosts (e ∷ older) i).policy
            on same here next =
                let is = there_here hosts e older i here in
                record {
                  due = ap (λ (x : Keeping). due_of b x.policy) is ∙ next.due ∙ same.due;
                  state = ap (λ (x : Keeping). state_of b x.policy) is ∙ next.state ∙ same.state;
                }

            by : IsAsBefore b (there hosts base i).policy k.policy → (c : Bool) → nat_eq e.place i ≡ c
                → First (e ∷ front) base ⊎ IsAsBefore b (there hosts base i).policy (there hosts (e ∷ older) i).policy
            by same false other = inr (subst (λ (x : Keeping). IsAsBefore b (there hosts base i).policy x.policy) (sym (there_other hosts e older i other)) same)
            by same true here = ⊎_elim
                (λ (t : IsTuning (doing_of e.event) k). inr (on same here (record { due = ap (due_of b) t.policy; state = ap (state_of b) t.policy })))
                (λ (c : IsTimedCall (doing_of e.event) k (moment_of e.event) × IsNowAt terms e.time i (moment_of e.event)). ⊎_elim
                (λ (rests : IsAsBefore b k.policy (after_doing (doing_of e.event) k).policy). inr (on same here rests))
                (λ (comes : Comes b (doing_of e.event) k (moment_of e.event)). inl (record { later = []; e = e; between = front; split = refl; place = here; same = same; comes = comes; now = c.1 }))
                (comes_or_not b (doing_of e.event) k (moment_of e.event) c.0))
                (window_call newest front base e still late here)

      pub next_of : (front newest base : List (At KeptLine)) (x pause : ℕ) → IsStill hosts terms trace newest front base → terms.quiet < time_of base
          → time_of base ≤ x → due_of b (there hosts base i).policy + terms.lag i ≤ x + pause
          → x + (pause + terms.late) < time_of (front ++ base) → (r : First front base) × (r.e.time ≤ x + (pause + terms.late))
      next_of [] newest base x pause still late from due_by lt = absurd (omega (arith, from, lt))
      next_of (e ∷ front) newest base x pause still late from due_by lt = ⊎_elim
          (λ (r : First front base).
          let d = r.same.due in
          let split : trace ≡ (newest ++ e ∷ r.later) ++ r.e ∷ (r.between ++ base) =
          still.split ∙ ap (λ (t : List (At KeptLine)). newest ++ e ∷ (t ++ base)) r.split
          ∙ ap (λ (t : List (At KeptLine)). newest ++ e ∷ t) (append_assoc r.later (r.e ∷ r.between) base)
          ∙ sym (append_assoc newest (e ∷ r.later) (r.e ∷ (r.between ++ base))) in
          let soon = soon_there b (newest ++ e ∷ r.later) (r.between ++ base) r.e i (x + pause) split live (quiet_behind (newest ++ e ∷ r.later) (r.e ∷ r.between) base split late) (omega (arith, d, due_by)) in (
            record { later = e ∷ r.later; e = r.e; between = r.between; split = ap (λ (t : List (At KeptLine)). e ∷ t) r.split; place = r.place; same = r.same; comes = r.comes; now = r.now },
            omega (arith, soon),
          ))
          (λ (same : IsAsBefore b (there hosts base i).policy (there hosts (front ++ base) i).policy).
          let d = same.due in
          let soon = soon_there b newest (front ++ base) e i (x + pause) still.split live (quiet_behind newest (e ∷ front) base still.split late) (omega (arith, d, due_by)) in
          absurd (omega (arith, soon, lt)))
          (first_of front (newest ++ e ∷ []) base (still_newer hosts terms trace newest (e ∷ []) front base still) late)

-- ---- a time within a window

-- the calls of a window behind a time
pub record IsCut (window base : List (At KeptLine)) (from : ℕ) : Type 0 where
  pub front : List (At KeptLine)
  pub grown : List (At KeptLine)
  pub split : window ≡ front ++ grown
  pub until : time_of (grown ++ base) ≤ from
  pub behind : (a b : List (At KeptLine)) (y : At KeptLine) → front ≡ a ++ y ∷ b → from < y.time

pub cut : (window base : List (At KeptLine)) (from : ℕ) → time_of base ≤ from → IsCut window base from
cut [] base from le = record { front = []; grown = []; split = refl; until = le; behind = λ a b y e. absurd (nil_ends a y b e) }
cut (e ∷ window) base from le = ⊎_elim
    (λ yes. let l = yes.1 in record { front = []; grown = e ∷ window; split = refl; until = l; behind = λ a b y e. absurd (nil_ends a y b e) })
    (λ no.
    let rest = cut window base from le in
    record { front = e ∷ rest.front; grown = rest.grown; split = ap (λ (t : List (At KeptLine)). e ∷ t) rest.split; until = rest.until; behind = λ a b y is. later rest.front rest.behind no.1 a b y is })
    (leb_tells e.time from) where
      later : (front : List (At KeptLine)) → ((a b : List (At KeptLine)) (y : At KeptLine) → front ≡ a ++ y ∷ b → from < y.time) → from < e.time
          → (a b : List (At KeptLine)) (y : At KeptLine) → e ∷ front ≡ a ++ y ∷ b → from < y.time
      later front rest lt [] b y is = let same : e ≡ y = cc in subst (λ (z : At KeptLine). from < z.time) same lt
      later front rest lt (x ∷ a) b y is = rest a b y cc

-- ---- a number of them

none_after : (b : Kind) (held : List DrawopValue) (t : State b) → t ≡ states_after b held 0 t
none_after ByReport held t = refl
none_after ByTurn held t = refl

one_after : (b : Kind) (held : List DrawopValue) (count : ℕ) (t : State b) → state_after b held (states_after b held count t) ≡ states_after b held (suc count) t
one_after ByReport held count t = refl
one_after ByTurn held count t = refl

-- After each call the next one of a live host is due within `pause` of it, or of `since`.
abbrev pub DueWithin : Kind → (ℕ → Opening) → Terms → List (At KeptLine) → (since pause : ℕ) → Type 0
DueWithin b hosts terms trace since pause = (newer older : List (At KeptLine)) (i : ℕ) → trace ≡ newer ++ older → Contains terms.live i
    → due_of b (there hosts older i).policy + terms.lag i ≤ max (time_of older) since + pause

module _ (b : Kind) (hosts : ℕ → Opening) (terms : Terms) (trace newest window base : List (At KeptLine)) (first_since pause : ℕ) (s : IsTimelySession hosts terms trace)
    (within : DueWithin b hosts terms trace first_since pause) (still : IsStill hosts terms trace newest window base)
    (late : terms.quiet < time_of base) (behind_since : first_since ≤ time_of base) (i : ℕ) (live : Contains terms.live i)
    (from : ℕ) (since : time_of base ≤ from) where
  abbrev pub start : IsCut window base from
  start = cut window base from since

  abbrev pub held : List DrawopValue
  held = (there hosts base i).host.is.held

  abbrev pub first : Policy
  first = (there hosts (start.grown ++ base) i).policy

  abbrev span : ℕ
  span = pause + terms.late

  -- a part of the window, after `count` of them
  pub record IsBehind (count : ℕ) : Type 0 where
    pub front : List (At KeptLine)
    pub grown : List (At KeptLine)
    pub part : List (At KeptLine)
    pub is : part ≡ grown ++ base
    pub split : window ≡ front ++ grown
    pub still_here : IsStill hosts terms trace newest front part
    pub state : state_of b (there hosts part i).policy ≡ states_after b held count (state_of b first)
    pub due_by : due_of b (there hosts part i).policy + terms.lag i ≤ from + count * span + pause
    pub soon : time_of part ≤ from + count * span
    pub quiet : terms.quiet < time_of part
    pub behind : (a b : List (At KeptLine)) (y : At KeptLine) → front ≡ a ++ y ∷ b → from < y.time
    pub kept : (j : ℕ) → Contains terms.live j → (there hosts part j).host.is.held ≡ (there hosts base j).host.is.held

  pub whole : (count : ℕ) (p : IsBehind count) → time_of (p.front ++ p.part) ≡ time_of (window ++ base)
  whole count p =
      ap time_of (ap (λ (t : List (At KeptLine)). p.front ++ t) p.is ∙ sym (append_assoc p.front p.grown base) ∙ ap (λ (t : List (At KeptLine)). t ++ base) (sym p.split))

  at_start : IsBehind 0
  at_start =
      let st : IsStill hosts terms trace newest start.front (start.grown ++ base) =
      still_older hosts terms trace newest start.front start.grown base
      (subst (λ (t : List (At KeptLine)). IsStill hosts terms trace newest t base) start.split still) in
      let due_by =
      within (newest ++ start.front) (start.grown ++ base) i (st.split ∙ sym (append_assoc newest start.front (start.grown ++ base))) live in
      let le = start.until in
      let order =
      ordered hosts terms trace s (newest ++ start.front) (start.grown ++ base) (st.split ∙ sym (append_assoc newest start.front (start.grown ++ base))) in
      let end = before_end start.grown base order in
      record {
        front = start.front;
        grown = start.grown;
        part = start.grown ++ base;
        is = refl;
        split = start.split;
        still_here = st;
        state = none_after b held (state_of b first);
        due_by = omega (arith, due_by, le, end, behind_since);
        soon = omega (arith, le);
        quiet = omega (arith, end, late);
        behind = start.behind;
        kept = λ j live_j. still.same start.front start.grown j start.split live_j;
      }

  base_before : (count : ℕ) (p : IsBehind count) → time_of base ≤ time_of p.part
  base_before count p =
      let is = p.is in
      let order = ordered hosts terms trace s (newest ++ p.front) p.part (p.still_here.split ∙ sym (append_assoc newest p.front p.part)) in
      let end = before_end p.grown base (subst AreInOrder is order) in
      subst (λ (t : List (At KeptLine)). time_of base ≤ time_of t) (sym is) end

  -- the next one behind those
  pub next_behind : (count : ℕ) (p : IsBehind count) → from + suc count * span < time_of (window ++ base)
      → (r : First hosts terms trace s i live b p.front p.part) × (r.e.time ≤ from + suc count * span)
  next_behind count p lt =
      let w = whole count p in
      let r = next_of hosts terms trace s i live b p.front newest p.part (from + count * span) pause p.still_here p.quiet p.soon p.due_by (omega (arith, lt, w)) in
      let le = r.1 in
      (r.0, omega (arith, le))

  -- what stands at it
  module _ (count : ℕ) (p : IsBehind count) (r : First hosts terms trace s i live b p.front p.part) where
    abbrev more : List (At KeptLine)
    more = r.e ∷ r.between

    abbrev pub before_it : List (At KeptLine)
    before_it = r.between ++ p.part

    pub still_there : IsStill hosts terms trace newest (r.later ++ more) p.part
    still_there = subst (λ (t : List (At KeptLine)). IsStill hosts terms trace newest t p.part) r.split p.still_here

    pub split_there : trace ≡ (newest ++ r.later) ++ r.e ∷ before_it
    split_there =
        still_there.split ∙ ap (λ (t : List (At KeptLine)). newest ++ t) (append_assoc r.later more p.part)
        ∙ sym (append_assoc newest r.later (more ++ p.part))

    pub held_there : (there hosts before_it i).host.is.held ≡ held
    held_there = still_there.same (r.later ++ r.e ∷ []) r.between i (sym (append_assoc r.later (r.e ∷ []) r.between)) live ∙ p.kept i live

    pub state_there : state_of b (there hosts before_it i).policy ≡ states_after b held count (state_of b first)
    state_there = r.same.state ∙ p.state

    pub window_there : window ≡ r.later ++ r.e ∷ (r.between ++ p.grown)
    window_there = p.split ∙ ap (λ (t : List (At KeptLine)). t ++ p.grown) r.split ∙ append_assoc r.later more p.grown

    pub before_is : before_it ≡ (r.between ++ p.grown) ++ base
    before_is = ap (λ (t : List (At KeptLine)). r.between ++ t) p.is ∙ sym (append_assoc r.between p.grown base)

  one_more : (count : ℕ) → IsBehind count → from + suc count * span < time_of (window ++ base) → IsBehind (suc count)
  one_more count p lt =
      let n = next_behind count p lt in
      behind_it count p n.0 n.1 where
        behind_it : (count : ℕ) (p : IsBehind count) (r : First hosts terms trace s i live b p.front p.part) → r.e.time ≤ from + suc count * span → IsBehind (suc count)
        behind_it count p r le =
            let more = r.e ∷ r.between in
            let older = r.between ++ p.part in
            let here = there_here hosts r.e older i r.place in
            let st = still_there count p r in
            let k_held = held_there count p r in
            let next =
            within (newest ++ r.later) (more ++ p.part) i (split_there count p r) live in
            let not_before = behind_since in
            let base_end = base_before count p in
            let end = before_end more p.part (ordered hosts terms trace s (newest ++ r.later) (more ++ p.part) (split_there count p r)) in
            let q = p.quiet in
            record {
              front = r.later;
              grown = more ++ p.grown;
              part = more ++ p.part;
              is = ap (λ (t : List (At KeptLine)). r.e ∷ t) (before_is count p r);
              split = window_there count p r;
              still_here = still_older hosts terms trace newest r.later more p.part st;
              state =
                  ap (λ (x : Keeping). state_of b x.policy) here ∙ moved b (doing_of r.e.event) (there hosts older i) (moment_of r.e.event) r.comes
                  ∙ ap (λ (h : List DrawopValue). state_after b h (state_of b (there hosts older i).policy)) k_held ∙ ap (state_after b held) (state_there count p r)
                  ∙ one_after b held count (state_of b first);
              due_by = omega (arith, next, not_before, base_end, end, le);
              soon = le;
              quiet = omega (arith, q, end);
              behind = λ a c y is. p.behind a (c ++ more) y (r.split ∙ ap (λ (t : List (At KeptLine)). t ++ more) is ∙ append_assoc a (y ∷ c) more);
              kept = λ j live_j. st.same r.later more j refl live_j ∙ p.kept j live_j;
            }

  pub is_behind : (count : ℕ) → from + count * span < time_of (window ++ base) → IsBehind count
  is_behind zero lt = at_start
  is_behind (suc count) lt = one_more count (is_behind count (omega (arith, lt))) lt
