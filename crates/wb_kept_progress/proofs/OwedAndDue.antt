-- What is owed is at most 16 seconds ahead of the present moment, the next report is due within 96 seconds of it, and the next turn within 16.
use Rattle.std.proofs.Common.{◌≡◌, ℕ, ◌+◌, ◌-◌, ◌*◌, ◌<◌, ◌≤◌, Bool, true, false, cond, List, [], ◌∷◌, ◌++◌, ◌∙◌, ap, append_assoc, arith, eqb-true, map, max, refl, subst, sym, ⊎_elim, length}
use Rattle.std.specs.Prelude.{◌%◌, Contains, None, nat_eq, take, ◌||◌}
use Rattle.std.proofs.lemmas.Bool.{leb-true}
use Rattle.wb_names.specs.Values.{NameValue}
use Rattle.wb_codec.specs.declared.datagram.Datagram.{Datagram}
use Rattle.wb_gaps.specs.Answers.{pages_of}
use Rattle.wb_progress.specs.Turns.{IsNowAt, Terms}
use Rattle.wb_member.specs.Opened.{has_room_for, heard, present}
use Rattle.wb_member.specs.declared.calls.Call.TheVariants.{Tick, Hear}
use Rattle.wb_policy.specs.declared.limits.TheConstants.{COST}
use Rattle.wb_keeping.specs.Kept.{Calls, Doing, Line, Says, state_of, still, want}
use Rattle.wb_keeping.specs.Laws.{KeptLine, doing_of, fault_of}
use Rattle.wb_keeping.specs.Performing.{Keeping, after_doing, sees, view_of}
use Rattle.wb_policy.specs.Pace.{gap_within}
use Rattle.wb_policy.specs.Policy.{after_answer, after_wanting}
use Rattle.wb_keeping.specs.Views.{View, holds, is_full, level, is_known}
use Rattle.wb_policy.specs.Wanting.{is_wanted}
use Rattle.wb_policy.specs.Words.{started, word_of}
use Rattle.wb_policy.proofs.Gaps.{gap_most}
use Rattle.wb_policy.proofs.Spending.{has_place}
use Rattle.wb_keeping.proofs.EachStep.{HoldsOfSteps, doing, having, having_done, line_holds}
use Rattle.wb_keeping.proofs.Saying.{says_after}
use Rattle.wb_keeping.proofs.Wanted.{lines_wanted, parts_wanted}
use Rattle.wb_kept_progress.specs.Sessions.{AreTaken, At, Opening, kept_at, opened, opened_host}
use Rattle.wb_kept_progress.specs.Timed.{AreInOrder, SaysNow, TellTimes, time_of}
use Rattle.wb_kept_progress.proofs.Moments.{IsTuned, moment_of, told_itself, told_or_tuned}
use Rattle.wb_kept_progress.specs.Whole.{IsTimelySession, ReportsAreDue, there}
use Rattle.wb_kept_progress.proofs.CallParts.{due_by_turn}
use Rattle.wb_kept_progress.proofs.Lines.{IsSmall, are_small, does_rest}
use Rattle.wb_kept_progress.proofs.StillCalls.{IsTuning, call_now, tuned_only}
use Rattle.wb_keeping.proofs.EachLine.{want_each}
use Rattle.wb_kept_progress.proofs.Leaving.{next_soon}
use Rattle.wb_progress.proofs.Parts.{order_of}

-- ---- each step of a policy

pub record IsNearNow (k : Keeping) : Type 0 where
  pub owed : k.policy.owed ≤ present k.host + 16000000
  pub due : k.policy.reports.due ≤ present k.host + 96000000
  pub beat : k.policy.pace.due ≤ present k.host + 16000000

record StaysNear (k : Keeping) (lines : List Line) (m : Keeping) : Type 0 where
  near : IsNearNow k → IsNearNow m

near_then : (k m : Keeping) → m.policy.owed ≤ k.policy.owed → m.policy.reports.due ≡ k.policy.reports.due → m.policy.pace.due ≡ k.policy.pace.due → present k.host ≤ present m.host → IsNearNow k
    → IsNearNow m
near_then k m owed due beat now n = record {
  owed = let o = n.owed in omega (arith, o, owed, now);
  due = let d = n.due in omega (arith, d, due, now);
  beat = let b = n.beat in omega (arith, b, beat, now);
}

same_near : (k m : Keeping) → m.policy.owed ≡ k.policy.owed → m.policy.reports.due ≡ k.policy.reports.due → m.policy.pace.due ≡ k.policy.pace.due → present m.host ≡ present k.host → IsNearNow k
    → IsNearNow m
same_near k m owed due beat now n = near_then k m (omega (arith, owed)) due beat (omega (arith, now)) n

hears_near : (v : Datagram) (k : Keeping) → IsNearNow k → IsNearNow (having (Calls (Hear v)) k)
hears_near v k n = by (has_room_for v k.host) where
  by : (b : Bool) → IsNearNow (record { host = cond b (heard v k.host) k.host; policy = k.policy })
  by true = record { owed = n.owed; due = n.due; beat = n.beat }
  by false = record { owed = n.owed; due = n.due; beat = n.beat }

wants_near : (name : NameValue) (anew : Bool) (k : Keeping) → IsNearNow k → IsNearNow (after_doing (want name anew) k)
wants_near name anew k n = record {
  owed = let o = by (is_wanted (holds v name) (is_full v) anew (is_known v name.source) (level v name) (length v.asked) k.policy.owed v.now) refl in let t = now in omega (arith, o, t);
  due = let d = due_by (is_wanted (holds v name) (is_full v) anew (is_known v name.source) (level v name) (length v.asked) k.policy.owed v.now) in let t = now in let near = n.due in omega (arith, d, t, near);
  beat = let d = beat_by (is_wanted (holds v name) (is_full v) anew (is_known v name.source) (level v name) (length v.asked) k.policy.owed v.now) in let t = now in let near = n.beat in omega (arith, d, t, near);
} where
  v : View
  v = view_of k.host

  wanted : Doing
  wanted = record { policy = after_wanting v.now k.policy; lines = lines_wanted name anew (sees k.host) k.policy }

  now : present (after_doing (want name anew) k).host ≡ present k.host
  now = (does_rest (want name anew) (want_each IsSmall are_small name anew) k).now

  one_more : (owed now : ℕ) → max owed now - now ≤ 63 * COST → max owed now + COST ≤ now + 16000000
  one_more owed now le = omega (arith, le)

  by : (b : Bool) → is_wanted (holds v name) (is_full v) anew (is_known v name.source) (level v name) (length v.asked) k.policy.owed v.now ≡ b
      → (let d : Doing = cond b wanted (still (sees k.host) k.policy) in d.policy.owed) ≤ present k.host + 16000000
  by false e = n.owed
  by true e =
      let place = has_place (anew || is_known v name.source) k.policy.owed v.now (parts_wanted name anew (sees k.host) k.policy e).3 in
      one_more k.policy.owed v.now (leb-true (max k.policy.owed v.now - v.now) (63 * COST) place)

  due_by : (b : Bool) → (let d : Doing = cond b wanted (still (sees k.host) k.policy) in d.policy.reports.due) ≡ k.policy.reports.due
  due_by true = refl
  due_by false = refl

  beat_by : (b : Bool) → (let d : Doing = cond b wanted (still (sees k.host) k.policy) in d.policy.pace.due) ≡ k.policy.pace.due
  beat_by true = refl
  beat_by false = refl

turn_soon : (now gap : ℕ) → now + gap_within gap ≤ now + 16000000
turn_soon now gap = let most = gap_most gap in omega (arith, most)

steps_stay_near : HoldsOfSteps StaysNear
steps_stay_near = record {
  due = record {
    nothing = λ k. record { near = λ n. n };
    both = λ k m l one other a b. record { near = λ n. b.near (a.near n) };
    wants = λ name anew k. record { near = wants_near name anew k };
    turned = λ t l k. record { near = λ n. record { owed = n.owed; due = n.due; beat = n.beat } };
    beats = λ k is. record { near = λ n. record { owed = n.owed; due = n.due; beat = turn_soon (present k.host) k.policy.pace.gap } };
    answers = λ k is. record { near = λ n. same_near k (having_done (doing (after_answer (present k.host) (length (take 64 (pages_of k.host.is.held))) k.policy) (map (λ page. Says (state_of (view_of k.host) page)) (take 64 (pages_of k.host.is.held)))) k) refl refl refl (ap present (says_after (view_of k.host) (take 64 (pages_of k.host.is.held)) k.host)) n };
    asks_pages = λ k is. record { near = λ n. record { owed = n.owed; due = n.due; beat = n.beat } };
    reports = λ page until told k is. record { near = λ n. record { owed = n.owed; due = next_soon (present k.host) _ (word_of k.policy.words); beat = n.beat } };
  };
  ticks = λ now k later. record { near = λ n. near_then k (having (Calls (Tick now)) k) (omega arith) refl refl later n };
  arrives = λ d k free. record { near = λ n. record { owed = n.owed; due = n.due; beat = n.beat } };
  answered = λ d k lacks asked. record { near = λ n. record { owed = let o = n.owed in omega (arith, o); due = n.due; beat = n.beat } };
  hears = λ v k. record { near = hears_near v k };
  stops = λ name k full. record { near = λ n. record { owed = n.owed; due = n.due; beat = n.beat } };
  sets = λ source micros k. record { near = λ n. record { owed = n.owed; due = n.due; beat = n.beat } };
  lends = λ source k. record { near = λ n. record { owed = n.owed; due = n.due; beat = n.beat } };
  takes_back = λ source k. record { near = λ n. record { owed = n.owed; due = n.due; beat = n.beat } };
  tunes = λ constants k within. record { near = λ n. record { owed = n.owed; due = n.due; beat = n.beat } };
  draws = λ d k unasked. record { near = λ n. record { owed = n.owed; due = n.due; beat = n.beat } };
  drawn = λ d k asked. record { near = λ n. record { owed = let o = n.owed in omega (arith, o); due = n.due; beat = n.beat } };
  measured = λ micros k. record { near = λ n. record { owed = n.owed; due = n.due; beat = n.beat } };
  told = λ k. record { near = λ n. record { owed = n.owed; due = n.due; beat = n.beat } };
  takes_up = λ k is. record { near = λ n. record { owed = n.owed; due = n.due; beat = n.beat } };
}

-- ---- hosts after calls

begins_near : (o : Opening) → IsNearNow (opened o)
begins_near o = record { owed = omega arith; due = soon (present (opened_host o)) (word_of (started o.seed)); beat = omega arith } where
  soon : (now word : ℕ) → now + word % (1000000 + 1) ≤ now + 96000000
  soon now word = omega arith

pub near_at : (hosts : ℕ → Opening) (lines : List (At KeptLine)) (i : ℕ) → AreTaken hosts lines → IsNearNow (kept_at hosts lines i)
near_at hosts [] i taken = begins_near (hosts i)
near_at hosts (e ∷ older) i taken = by (near_at hosts older i taken.1) (nat_eq e.place i) refl where
  by : IsNearNow (kept_at hosts older i) → (b : Bool) → nat_eq e.place i ≡ b
      → IsNearNow (cond b (after_doing (doing_of e.event) (kept_at hosts older i)) (kept_at hosts older i))
  by near false other = near
  by near true same =
      let none = subst (λ (p : ℕ). fault_of e.event (kept_at hosts older p) ≡ None) (eqb-true e.place i same) taken.0 in
      (line_holds StaysNear steps_stay_near e.event (kept_at hosts older i) none).near near

pub taken_of : (hosts : ℕ → Opening) (newer older : List (At KeptLine)) → AreTaken hosts (newer ++ older) → AreTaken hosts older
taken_of hosts [] older taken = taken
taken_of hosts (e ∷ newer) older taken = taken_of hosts newer older taken.1

pub tells_of : (terms : Terms) (newer older : List (At KeptLine)) → TellTimes terms (newer ++ older) → TellTimes terms older
tells_of terms [] older tells = tells
tells_of terms (e ∷ newer) older tells = tells_of terms newer older tells.1

-- the clock of a host is not ahead of the newest call, or of the quiet time until the first one
pub present_by : (hosts : ℕ → Opening) (terms : Terms) (calls : List (At KeptLine)) (i : ℕ) → Contains terms.live i → present (opened (hosts i)).host + terms.lag i ≤ terms.quiet → AreInOrder calls
    → TellTimes terms calls → present (there hosts calls i).host + terms.lag i ≤ max (time_of calls) terms.quiet
present_by hosts terms [] i live begun order tells = omega (arith, begun)
present_by hosts terms (e ∷ older) i live begun order tells = by (present_by hosts terms older i live begun order.1 tells.1) (nat_eq e.place i) refl where
  k : Keeping
  k = there hosts older i

  by : present k.host + terms.lag i ≤ max (time_of older) terms.quiet → (b : Bool) → nat_eq e.place i ≡ b
      → present (cond b (after_doing (doing_of e.event) k) k).host + terms.lag i ≤ max e.time terms.quiet
  by le false other = let o = order.0 in omega (arith, le, o)
  by le true same =
      let told = subst (λ (p : ℕ). Contains terms.live p → SaysNow terms e.time p e.event) (eqb-true e.place i same) tells.0 live in
      let tuning : IsTuning (doing_of e.event) k → present (after_doing (doing_of e.event) k).host + terms.lag i ≤ max e.time terms.quiet = λ t. let now = t.now_is in let o = order.0 in omega (arith, now, le, o) in
      ⊎_elim
      (λ (t : IsTuned e.event). tuning (tuned_only e.event k t))
      (λ (at : IsNowAt terms e.time i (moment_of e.event)). ⊎_elim
      tuning
      (λ (now : present (after_doing (doing_of e.event) k).host ≡ moment_of e.event). let ahead = at.not_ahead in omega (arith, now, ahead))
      (call_now e.event k (moment_of e.event) (told_itself e.event)))
      (told_or_tuned terms e.time i e.event told)

-- what is owed at a call, and when the next report is due
module _ (hosts : ℕ → Opening) (terms : Terms) (trace newer older : List (At KeptLine)) (i : ℕ) (s : IsTimelySession hosts terms trace)
    (split : trace ≡ newer ++ older) (live : Contains terms.live i) where
  pub near_there : IsNearNow (there hosts older i)
  near_there = near_at hosts older i (taken_of hosts newer older (subst (λ (t : List (At KeptLine)). AreTaken hosts t) split s.taken))

  pub now_there : present (there hosts older i).host + terms.lag i ≤ max (time_of older) terms.quiet
  now_there =
      present_by hosts terms older i live (s.begun i live) (order_of newer older (subst AreInOrder split s.order))
      (tells_of terms newer older (subst (TellTimes terms) split s.times))

  pub due_there : (there hosts older i).policy.reports.due + terms.lag i ≤ max (time_of older) terms.quiet + 96000000
  due_there = let n = near_there in let d = n.due in let now = now_there in omega (arith, d, now)

  -- and the next turn, within 16 seconds
  pub beat_there : (there hosts older i).policy.pace.due + terms.lag i ≤ max (time_of older) terms.quiet + 16000000
  beat_there = let n = near_there in let b = n.beat in let now = now_there in omega (arith, b, now)

-- a call comes at most so late behind the one before it
pub next_by_turn : (hosts : ℕ → Opening) (terms : Terms) (trace newer older : List (At KeptLine)) (e : At KeptLine) (i : ℕ) → IsTimelySession hosts terms trace → trace ≡ newer ++ e ∷ older → Contains terms.live i → terms.quiet < e.time
    → e.time ≤ max (time_of older) terms.quiet + (16000000 + terms.late)
next_by_turn hosts terms trace newer older e i s split live late =
    let soon = s.soon newer older e i split live late in
    let turn = due_by_turn (there hosts older i) in
    let beat = beat_there hosts terms trace (newer ++ e ∷ []) older i s (split ∙ sym (append_assoc newer (e ∷ []) older)) live in
    omega (arith, soon, turn, beat)

pub reports_are_due : ReportsAreDue
reports_are_due hosts terms trace s newer older i split live = due_there hosts terms trace newer older i s split live
