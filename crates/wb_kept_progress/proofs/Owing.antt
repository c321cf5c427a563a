-- A host that owed no more than its later moment, and then has no credit, asked for 64 names meanwhile: each costs a quarter of a second.
use Rattle.std.proofs.Common.{◌≡◌, ℕ, ◌+◌, ◌-◌, ◌*◌, ◌<◌, ◌≤◌, Bool, true, false, cond, List, [], ◌∷◌, ◌++◌, ◌∙◌, ap, append-nil, arith, eqb-true, length, map, max, refl, subst, sym}
use Rattle.std.specs.Prelude.{◌&&◌, Contains, nat_eq, nat_lt, take}
use Rattle.std.proofs.lemmas.Bool.{leb-false, lt-ltb}
use Rattle.std.proofs.Math.Nat.{le_refl, sub-le}
use Rattle.wb_names.specs.Values.{NameValue}
use Rattle.wb_names.proofs.Listings.{Contains-none}
use Rattle.wb_codec.specs.declared.datagram.Datagram.{Datagram}
use Rattle.wb_gaps.specs.Answers.{pages_of}
use Rattle.wb_member.specs.Opened.{has_room_for, heard, present}
use Rattle.wb_member.specs.declared.calls.Call.TheVariants.{Tick, Hear, Ask}
use Rattle.wb_policy.specs.Credit.{has_credit}
use Rattle.wb_policy.specs.declared.limits.TheConstants.{COST}
use Rattle.wb_keeping.specs.Bounds.{ask_count}
use Rattle.wb_keeping.specs.Kept.{Calls, Doing, Line, Says, state_of, still, want}
use Rattle.wb_keeping.specs.Laws.{KeptLine, doing_of, expand}
use Rattle.wb_keeping.specs.Performing.{Keeping, after_doing, sees, view_of}
use Rattle.wb_policy.specs.Policy.{after_answer, after_wanting}
use Rattle.wb_keeping.proofs.EachLine.{want_each}
use Rattle.wb_keeping.proofs.EachStep.{HoldsOfSteps, all_hold, doing, having, having_done}
use Rattle.wb_keeping.proofs.Saying.{says_after}
use Rattle.wb_keeping.proofs.Wanted.{is_wanted_here, lines_wanted}
use Rattle.wb_kept_progress.specs.Sessions.{AreTaken, Opening}
use Rattle.wb_kept_progress.specs.Timed.{AreInOrder, At}
use Rattle.wb_kept_progress.specs.Topped.{asks_since, asks_then}
use Rattle.wb_kept_progress.specs.Whole.{there}
use Rattle.wb_kept_progress.proofs.AskedInCalls.{wanted_is_asked}
use Rattle.wb_kept_progress.proofs.Handed.{after_handed, asked_both, asks_at_least, asks_both, handed, performs_in, taken_handed}
use Rattle.wb_kept_progress.proofs.Lines.{IsSmall, are_small, does_rest}
use Rattle.wb_laws_sessions.proofs.Sending.{one_of}
use Rattle.wb_progress.proofs.Parts.{before_end}

-- ---- each step of a policy

-- Time goes on, and what is owed grows by the cost of what is asked for at most.
record Owes (k : Keeping) (lines : List Line) (m : Keeping) : Type 0 where
  later : present k.host ≤ present m.host
  owes : m.policy.owed ≤ max k.policy.owed (present m.host) + ask_count lines * 250000

no_more : (k : Keeping) (lines : List Line) (m : Keeping) → present k.host ≤ present m.host → m.policy.owed ≤ k.policy.owed → Owes k lines m
no_more k lines m later le = record { later = later; owes = within (ask_count lines) le } where
  within : (asks : ℕ) → m.policy.owed ≤ k.policy.owed → m.policy.owed ≤ max k.policy.owed (present m.host) + asks * 250000
  within asks le = omega (arith, le)

no_later : (a b : ℕ) → a ≡ b → b ≤ a
no_later a b same = omega (arith, same)

both_owe : (k m n : Keeping) (one other : List Line) → Owes k one m → Owes m other n → Owes k (one ++ other) n
both_owe k m n one other a b = record {
  later = let x = a.later in let y = b.later in omega (arith, x, y);
  owes = let y = b.later in let p = a.owes in let q = b.owes in let all = asks_both one other in
      joined k.policy.owed m.policy.owed n.policy.owed (present m.host) (present n.host) (ask_count one) (ask_count other) (ask_count (one ++ other)) y p q all;
} where
  joined : (first then last now later one other all : ℕ) → now ≤ later → then ≤ max first now + one * 250000 → last ≤ max then later + other * 250000 → all ≡ one + other → last ≤ max first later + all * 250000
  joined first then last now later one other all le p q is = omega (arith, le, p, q, is)

hearing_now : (v : Datagram) (k : Keeping) → present (having (Calls (Hear v)) k).host ≡ present k.host
hearing_now v k = by (has_room_for v k.host) where
  by : (b : Bool) → present (cond b (heard v k.host) k.host) ≡ present k.host
  by true = refl
  by false = refl

-- at least one line asks
some_ask : (n : NameValue) (lines : List Line) → Contains lines (Calls (Ask n)) → 1 ≤ ask_count lines
some_ask n lines c = asks_at_least (n ∷ []) lines ((λ none. absurd (Contains-none n none)), tt)
    (λ m d. subst (λ (x : NameValue). Contains lines (Calls (Ask x))) (one_of n m d) c)

wants_owe : (name : NameValue) (anew : Bool) (k : Keeping) → Owes k (want name anew (sees k.host) k.policy).lines (after_doing (want name anew) k)
wants_owe name anew k = by (is_wanted_here name anew (sees k.host) k.policy) now where
  wanted : Bool → Doing
  wanted b = cond b (record { policy = after_wanting (present k.host) k.policy; lines = lines_wanted name anew (sees k.host) k.policy }) (still (sees k.host) k.policy)

  now : present (after_doing (want name anew) k).host ≡ present k.host
  now = (does_rest (want name anew) (want_each IsSmall are_small name anew) k).now

  one_more : (owed now then asks : ℕ) → then ≡ now → 1 ≤ asks → max owed now + 250000 ≤ max owed then + asks * 250000
  one_more owed now then asks same some = omega (arith, same, some)

  by : (b : Bool) → present (having_done (wanted b) k).host ≡ present k.host → Owes k (wanted b).lines (having_done (wanted b) k)
  by false same = no_more k [] (having_done (wanted false) k) (le_refl (present k.host)) (le_refl k.policy.owed)
  by true same = record {
    later = no_later (present (having_done (wanted true) k).host) (present k.host) same;
    owes = one_more k.policy.owed (present k.host) (present (having_done (wanted true) k).host) (ask_count (wanted true).lines) same
        (some_ask name (wanted true).lines (wanted_is_asked name anew (sees k.host) k.policy));
  }

steps_owe : HoldsOfSteps Owes
steps_owe = record {
  due = record {
    nothing = λ k. no_more k [] k (le_refl (present k.host)) (le_refl k.policy.owed);
    both = both_owe;
    wants = wants_owe;
    turned = λ t l k. no_more k [] _ (le_refl (present k.host)) (le_refl k.policy.owed);
    beats = λ k due. no_more k [] _ (le_refl (present k.host)) (le_refl k.policy.owed);
    answers = λ k is. no_more k _ (having_done (doing (after_answer (present k.host) (length (take 64 (pages_of k.host.is.held))) k.policy) (map (λ page. Says (state_of (view_of k.host) page)) (take 64 (pages_of k.host.is.held)))) k)
        (no_later _ (present k.host) (ap present (says_after (view_of k.host) (take 64 (pages_of k.host.is.held)) k.host))) (le_refl k.policy.owed);
    asks_pages = λ k is. no_more k _ _ (le_refl (present k.host)) (le_refl k.policy.owed);
    reports = λ page until told k is. no_more k _ _ (le_refl (present k.host)) (le_refl k.policy.owed);
  };
  ticks = λ now k later. no_more k (Calls (Tick now) ∷ []) (having (Calls (Tick now)) k) later (le_refl k.policy.owed);
  arrives = λ d k free. no_more k _ _ (le_refl (present k.host)) (le_refl k.policy.owed);
  answered = λ d k lacks asked. no_more k _ _ (le_refl (present k.host)) (sub-le k.policy.owed 500000);
  hears = λ v k. no_more k _ (having (Calls (Hear v)) k) (no_later (present (having (Calls (Hear v)) k).host) (present k.host) (hearing_now v k)) (le_refl k.policy.owed);
  stops = λ name k full. no_more k _ _ (le_refl (present k.host)) (le_refl k.policy.owed);
  sets = λ source micros k. no_more k _ _ (le_refl (present k.host)) (le_refl k.policy.owed);
  lends = λ source k. no_more k _ _ (le_refl (present k.host)) (le_refl k.policy.owed);
  takes_back = λ source k. no_more k _ _ (le_refl (present k.host)) (le_refl k.policy.owed);
  tunes = λ constants k within. no_more k _ _ (le_refl (present k.host)) (le_refl k.policy.owed);
  draws = λ d k unasked. no_more k _ _ (le_refl (present k.host)) (le_refl k.policy.owed);
  drawn = λ d k asked. no_more k _ _ (le_refl (present k.host)) (sub-le k.policy.owed 500000);
  measured = λ micros k. no_more k [] _ (le_refl (present k.host)) (le_refl k.policy.owed);
  told = λ k. no_more k [] _ (le_refl (present k.host)) (le_refl k.policy.owed);
  takes_up = λ k is. no_more k [] _ (le_refl (present k.host)) (le_refl k.policy.owed);
}

-- ---- the calls of one host

module _ (hosts : ℕ → Opening) (i : ℕ) where
  pub without_credit : (window base : List (At KeptLine)) → AreTaken hosts (window ++ base) → (let m = there hosts (window ++ base) i in
      has_credit m.policy.owed (present m.host) ≡ false → (there hosts base i).policy.owed ≤ present m.host → 64 ≤ ask_count (performs_in hosts i window base))
  without_credit window base taken none paid =
      let o = all_hold Owes steps_owe (handed i window) (there hosts base i) (taken_handed hosts i window base taken) in
      let same = after_handed hosts i window base in
      let owes = subst (λ (m : Keeping). m.policy.owed ≤ max (there hosts base i).policy.owed (present m.host) + ask_count (performs_in hosts i window base) * 250000) same o.owes in
      let m = there hosts (window ++ base) i in
      let lt = leb-false (max m.policy.owed (present m.host) - present m.host) (63 * COST) none in
      many m.policy.owed (there hosts base i).policy.owed (present m.host) (ask_count (performs_in hosts i window base)) owes lt paid where
        many : (owed owes now asks : ℕ) → owed ≤ max owes now + asks * 250000 → 63 * COST < max owed now - now → owes ≤ now → 64 ≤ asks
        many owed owes now asks le lt paid = omega (arith, le, lt, paid)

  -- ---- how often it asks in calls after a time

  -- in one call
  one_call : (e : At KeptLine) (base : List (At KeptLine)) (since : ℕ) → since < e.time → ask_count (performs_in hosts i (e ∷ []) base) + asks_since hosts since i base ≡ asks_since hosts since i (e ∷ base)
  one_call e base since late = by (nat_lt since e.time) (lt-ltb since e.time late) (nat_eq e.place i) refl where
    k : Keeping
    k = there hosts base i

    rest : ℕ
    rest = asks_since hosts since i base

    by : (a : Bool) → a ≡ true → (b : Bool) → nat_eq e.place i ≡ b
        → ask_count (expand (cond b ([] ++ e.event ∷ []) []) k) + rest ≡ cond (a && b) (asks_then hosts base e) 0 + rest
    by true is false other = refl
    by true is true here =
        ap (λ (ls : List Line). ask_count ls + rest) (append-nil (doing_of e.event (sees k.host) k.policy).lines)
        ∙ ap (λ (p : ℕ). ask_count (let m = there hosts base p in (doing_of e.event (sees m.host) m.policy).lines) + rest) (sym (eqb-true e.place i here))
    by false is b other = absurd cc

  -- in a window that begins after the time
  pub asked_since : (window : List (At KeptLine)) (next : At KeptLine) (base : List (At KeptLine)) (since : ℕ) → AreInOrder (window ++ next ∷ base) → since < next.time
      → ask_count (performs_in hosts i (window ++ next ∷ []) base) + asks_since hosts since i base ≡ asks_since hosts since i (window ++ next ∷ base)
  asked_since [] next base since order late = one_call next base since late
  asked_since (e ∷ window) next base since order late =
      let rest = asked_since window next base since order.1 late in
      let end = before_end window (next ∷ base) order.1 in
      let first = order.0 in
      let whole : (window ++ next ∷ []) ++ base ≡ window ++ next ∷ base = append_one window in
      let here = one_call e (window ++ next ∷ base) since (omega (arith, late, end, first)) in
      let two = asked_both hosts i (e ∷ []) (window ++ next ∷ []) base
      ∙ ap (λ (l : List (At KeptLine)). ask_count (performs_in hosts i (window ++ next ∷ []) base) + ask_count (performs_in hosts i (e ∷ []) l)) whole in
      omega (arith, rest, here, two) where
        append_one : (window : List (At KeptLine)) → (window ++ next ∷ []) ++ base ≡ window ++ next ∷ base
        append_one [] = refl
        append_one (x ∷ window) = ap (λ (l : List (At KeptLine)). x ∷ l) (append_one window)
