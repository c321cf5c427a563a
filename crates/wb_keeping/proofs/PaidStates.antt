-- Page states are paid for by the rate that reports share.
use Rattle.std.proofs.Common.{◌≡◌, ℕ, zero, suc, ◌+◌, ◌-◌, ◌*◌, ◌<◌, ◌≤◌, Bool, true, false, cond, List, [], ◌∷◌, ◌++◌, ◌∙◌, Option, Some, None, ap, arith, filter, leb-true, length, map, max, min, refl, subst, sym, true≢false}
use Rattle.std.specs.Prelude.{IfSome, ◌/◌, is_none, nat_lt, take}
use Rattle.std.proofs.Math.Nat.{add-mul, div-le_of_le-mul, lt-div-mul-add, mul-le-mul_left, mul-le-mul_right}
use Rattle.std.proofs.lemmas.List.{length-take}
use Rattle.wb_names.specs.Values.{NameValue}
use Rattle.wb_names.specs.declared.name.PageId.{PageId}
use Rattle.wb_gaps.specs.Answers.{pages_of, report_of}
use Rattle.wb_member.specs.Opened.{Opened, has_room_for, present}
use Rattle.wb_member.specs.declared.calls.Call.TheVariants.{Tick, Hear, SetDelay, Tune, Ask, Stop}
use Rattle.wb_codec.specs.declared.datagram.Datagram.TheVariants.{Draw, AskPages}
use Rattle.wb_keeping.specs.Bounds.{StatesArePaid, is_state}
use Rattle.wb_recovery.specs.declared.limits.TheConstants.{UNKNOWN_DELAY}
use Rattle.wb_policy.specs.Delays.{bounded}
use Rattle.wb_keeping.specs.Kept.{Arrives, Calls, Doing, Line, Says, covers, reports_page, still, want}
use Rattle.wb_keeping.specs.Laws.{AreTaken, KeptLine, after_kept, expand}
use Rattle.wb_keeping.specs.Performing.{Keeping, after_doing, after_lines, sees, view_of}
use Rattle.wb_keeping.specs.Views.{View}
use Rattle.wb_policy.specs.Policy.{Policy, after_answer, after_came, after_drawing, after_echo, after_question, after_state, after_taking_up, after_wanting, draws}
use Rattle.wb_policy.specs.Questions.{answer_pause, is_due, is_to_answer}
use Rattle.wb_policy.specs.Reports.{slice_after}
use Rattle.wb_policy.specs.declared.questions.Questions.{Questions}
use Rattle.wb_keeping.proofs.EachLine.{Each, wanted_each}
use Rattle.wb_keeping.proofs.EachStep.{HoldsOfSteps, all_hold, doing, having, having_done, with_policy}
use Rattle.wb_keeping.proofs.LittleSaid.{counted, due_moment, is_quiet_no_longer, present_heard, says_each}
use Rattle.wb_keeping.proofs.OwedStands.{IsAsking, present_asking}
use Rattle.wb_keeping.proofs.Saying.{says, says_after}
use Rattle.wb_keeping.proofs.Wanted.{is_wanted_here, lines_wanted}

-- ---- what is paid

on : {a b c : ℕ} → a ≤ b → b ≤ c → a ≤ c
on p q = omega (arith, p, q)

together : {a b c d : ℕ} → a ≤ b → c ≤ d → a + c ≤ b + d
together p q = omega (arith, p, q)

-- So many states were sent since a start, and are paid for by a moment: each a microsecond early at most.
abbrev IsPaidBy : ℕ → ℕ → ℕ → ℕ → Type 0
IsPaidBy rate start sent moment = sent * 534000000 ≤ (moment - start + sent) * rate

paid_later : (rate start sent moment then : ℕ) → moment ≤ then → IsPaidBy rate start sent moment → IsPaidBy rate start sent then
paid_later rate start sent moment then le paid = on paid (mul-le-mul_right rate (later moment then start sent le)) where
  later : (moment then start sent : ℕ) → moment ≤ then → moment - start + sent ≤ then - start + sent
  later moment then start sent le = omega (arith, le)

-- the pause after some states pays for them
pause_pays : (rate states : ℕ) → 534 ≤ rate → states ≤ 64 → states * 534000000 ≤ (answer_pause rate states + states) * rate
pause_pays rate zero fair few = least ((answer_pause rate zero + zero) * rate) where
  least : (x : ℕ) → 0 ≤ x
  least x = omega arith
pause_pays rate (suc n) fair few =
    let states = suc n in
    let bytes = min states 64 * 534 * 1000000 in
    let all : states * 534000000 ≤ bytes = omega (arith, few) in
    let spent : bytes < bytes / rate * rate + rate = lt-div-mul-add (some rate fair) in
    let long : bytes / rate ≤ answer_pause rate states = unclipped (bytes / rate) (div-le_of_le-mul rate (on (most states) (mul-le-mul_right 64000000 fair))) in
    on all (on (less spent) (on (same (bytes / rate * rate) (add-mul (bytes / rate) 1 rate) (once rate)) (mul-le-mul_right rate (more long (omega arith))))) where
      some : (rate : ℕ) → 534 ≤ rate → zero < rate
      some rate fair = omega (arith, fair)

      most : (states : ℕ) → min states 64 * 534 * 1000000 ≤ 534 * 64000000
      most states = omega arith

      unclipped : (micros : ℕ) → micros ≤ 64000000 → micros ≤ min (max micros 1000000) 64000000
      unclipped micros le = omega (arith, le)

      less : {a b : ℕ} → a < b → a ≤ b
      less lt = omega (arith, lt)

      once : (rate : ℕ) → 1 * rate ≡ rate
      once rate = omega arith

      same : (b : ℕ) {a c d : ℕ} → a ≡ b + c → c ≡ d → b + d ≤ a
      same b e f = omega (arith, e, f)

      more : {a b c : ℕ} → a ≤ b → 1 ≤ c → a + 1 ≤ b + c
      more p q = omega (arith, p, q)

paid_on : (rate start sent states moment now pause : ℕ) → start ≤ now → moment ≤ now → IsPaidBy rate start sent moment → states * 534000000 ≤ (pause + states) * rate → IsPaidBy rate start (sent + states) (now + pause)
paid_on rate start sent states moment now pause since due paid pays =
    on (split sent states) (on (together paid pays) (on (same (add-mul (moment - start + sent) (pause + states) rate)) (mul-le-mul_right rate (later moment now start sent pause states since due)))) where
      split : (sent states : ℕ) → (sent + states) * 534000000 ≤ sent * 534000000 + states * 534000000
      split sent states = omega arith

      same : {a b : ℕ} → a ≡ b → b ≤ a
      same e = omega (arith, e)

      later : (moment now start sent pause states : ℕ) → start ≤ now → moment ≤ now → moment - start + sent + (pause + states) ≤ now + pause - start + (sent + states)
      later moment now start sent pause states since due = omega (arith, since, due)

record IsPaid (rate start sent now : ℕ) (q : Questions) : Type 0 where
  since : start ≤ now
  within : sent * 534000000 ≤ 64 * 534000000 + (now - start + sent) * rate
  quiet : IsPaidBy rate start sent q.quiet
  answer : IfSome q.answer (λ moment. IsPaidBy rate start sent moment)

-- ---- steps

record Pays (k : Keeping) (lines : List Line) (m : Keeping) : Type 0 where
  same : m.policy.reports.rate ≡ k.policy.reports.rate
  goes : (rate start sent : ℕ) → k.policy.reports.rate ≡ rate → 534 ≤ rate → IsPaid rate start sent (present k.host) k.policy.questions
      → IsPaid rate start (sent + length (filter is_state lines)) (present m.host) m.policy.questions

both_pay : (k m n : Keeping) (one other : List Line) → Pays k one m → Pays m other n → Pays k (one ++ other) n
both_pay k m n one other a b = record {
  same = b.same ∙ a.same;
  goes = λ rate start sent is fair paid.
      let count = counted is_state one other in
      subst (λ (sent : ℕ). IsPaid rate start sent (present n.host) n.policy.questions) (omega (arith, count))
      (b.goes rate start (sent + length (filter is_state one)) (a.same ∙ is) fair (a.goes rate start sent is fair paid));
}

-- no state is sent, time stands, and of the policy nothing changes that is looked at
quietly : (k : Keeping) (lines : List Line) (p : Policy) → length (filter is_state lines) ≡ 0 → present (after_lines lines k.host) ≡ present k.host → p.reports.rate ≡ k.policy.reports.rate → p.questions ≡ k.policy.questions
    → Pays k lines (having_done (doing p lines) k)
quietly k lines p none stands rate questions = record {
  same = rate;
  goes = λ rate start sent is fair paid.
      subst (λ (sent : ℕ). IsPaid rate start sent (present (after_lines lines k.host)) p.questions) (omega (arith, none))
      (subst (λ (now : ℕ). IsPaid rate start sent now p.questions) (sym stands)
      (subst (λ (q : Questions). IsPaid rate start sent (present k.host) q) (sym questions) paid));
}

-- and so where the questions go on as they say
asking : (k : Keeping) (lines : List Line) (p : Policy) → length (filter is_state lines) ≡ 0 → present (after_lines lines k.host) ≡ present k.host → p.reports.rate ≡ k.policy.reports.rate
    → ((rate start sent : ℕ) → IsPaid rate start sent (present k.host) k.policy.questions → IsPaid rate start sent (present k.host) p.questions) → Pays k lines (having_done (doing p lines) k)
asking k lines p none stands rate questions = record {
  same = rate;
  goes = λ rate start sent is fair paid.
      subst (λ (sent : ℕ). IsPaid rate start sent (present (after_lines lines k.host)) p.questions) (omega (arith, none))
      (subst (λ (now : ℕ). IsPaid rate start sent now p.questions) (sym stands) (questions rate start sent paid));
}

none_asking : (lines : List Line) → Each IsAsking lines → length (filter is_state lines) ≡ 0
none_asking [] asks = refl
none_asking (Calls (Ask name) ∷ lines) asks = none_asking lines asks.1
none_asking (Calls (Stop name) ∷ lines) asks = none_asking lines asks.1
none_asking (Calls (SetDelay source micros) ∷ lines) asks = none_asking lines asks.1
none_asking (Calls call ∷ lines) asks = absurd asks.0
none_asking (Arrives d ∷ lines) asks = absurd asks.0
none_asking (Says v ∷ lines) asks = absurd asks.0

wants_pay : (name : NameValue) (anew : Bool) (k : Keeping) → Pays k (want name anew (sees k.host) k.policy).lines (after_doing (want name anew) k)
wants_pay name anew k = by (is_wanted_here name anew (sees k.host) k.policy) where
  lines : List Line
  lines = lines_wanted name anew (sees k.host) k.policy

  wanted : Doing
  wanted = record { policy = after_wanting (present k.host) k.policy; lines = lines }

  asks : Each IsAsking lines
  asks = wanted_each IsAsking (λ name. tt) name tt anew (sees k.host) k.policy tt tt

  by : (b : Bool) → let d : Doing = cond b wanted (still (sees k.host) k.policy) in Pays k d.lines (having_done d k)
  by true = quietly k lines (after_wanting (present k.host) k.policy) (none_asking lines asks) (present_asking lines k.host asks) refl refl
  by false = quietly k [] k.policy refl refl refl refl

answers_pay : (k : Keeping) → is_due (present k.host) k.policy.questions.answer ≡ true
    → let pages = take 64 (pages_of k.host.is.held) in Pays k (says (view_of k.host) pages) (having_done (doing (after_answer (present k.host) (length pages) k.policy) (says (view_of k.host) pages)) k)
answers_pay k due = record {
  same = refl;
  goes = λ rate start sent is fair paid.
      let now = present k.host in
      let pages = take 64 (pages_of k.host.is.held) in
      let states = length pages in
      let few : states ≤ 64 = (let l = length-take 64 (pages_of k.host.is.held) in omega (arith, l)) in
      let m = due_moment now k.policy.questions.answer (λ moment. IsPaidBy rate start sent moment) due paid.answer in
      let before = m.2 in
      let pays = pause_pays rate states fair few in
      let many = says_each (view_of k.host) pages in
      let quiet = paid_on rate start sent states m.0 now (answer_pause rate states) paid.since m.1 before pays in
      subst (λ (h : Opened). IsPaid rate start (sent + length (filter is_state (says (view_of k.host) pages))) (present h) (after_answer now states k.policy).questions) (sym (says_after (view_of k.host) pages k.host))
      (subst (λ (n : ℕ). IsPaid rate start (sent + n) now (after_answer now states k.policy).questions) (sym many)
      (record {
        since = paid.since;
        within = on (split sent states few) (together_most (on before (mul-le-mul_right rate (later m.0 now start sent states m.1))));
        quiet = subst (λ (rate_there : ℕ). IsPaidBy rate start (sent + states) (now + answer_pause rate_there states)) (sym is) quiet;
        answer = tt;
      }));
} where
  split : (sent states : ℕ) → states ≤ 64 → (sent + states) * 534000000 ≤ 64 * 534000000 + sent * 534000000
  split sent states few = omega (arith, few)

  together_most : {a b : ℕ} → a ≤ b → 64 * 534000000 + a ≤ 64 * 534000000 + b
  together_most p = omega (arith, p)

  later : (moment now start sent states : ℕ) → moment ≤ now → moment - start + sent ≤ now - start + (sent + states)
  later moment now start sent states le = omega (arith, le)

ticks_pay : (now : ℕ) (k : Keeping) → present k.host ≤ now → Pays k (Calls (Tick now) ∷ []) (having (Calls (Tick now)) k)
ticks_pay now k later = record {
  same = refl;
  goes = λ rate start sent is fair paid.
      let since = paid.since in
      subst (λ (sent : ℕ). IsPaid rate start sent now k.policy.questions) (omega arith) (record {
        since = omega (arith, since, later);
        within = on paid.within (more (mul-le-mul_right rate (longer (present k.host) now start sent later)));
        quiet = paid.quiet;
        answer = paid.answer;
      });
} where
  more : {a b : ℕ} → a ≤ b → 64 * 534000000 + a ≤ 64 * 534000000 + b
  more p = omega (arith, p)

  longer : (before now start sent : ℕ) → before ≤ now → before - start + sent ≤ now - start + sent
  longer before now start sent le = omega (arith, le)

takes_up_pays : (k : Keeping) → is_to_answer (present k.host) (nat_lt 0 (length k.host.is.held)) k.policy.questions ≡ true → Pays k [] (with_policy (after_taking_up (present k.host) k.policy) k)
takes_up_pays k is = asking k [] (after_taking_up (present k.host) k.policy) refl refl refl (λ rate start sent paid.
    let now = present k.host in
    let drawn = draws 500000 k.policy in
    let quiet = is_quiet_no_longer (nat_lt 0 (length k.host.is.held)) (is_none k.policy.questions.answer) k.policy.questions.quiet now is in
    record { since = paid.since; within = paid.within; quiet = paid.quiet; answer = paid_later rate start sent k.policy.questions.quiet (now + drawn) (omega (arith, quiet)) paid.quiet })

steps_pay : HoldsOfSteps Pays
steps_pay = record {
  due = record {
    nothing = λ k. quietly k [] k.policy refl refl refl refl;
    both = both_pay;
    wants = wants_pay;
    turned = λ t l k. quietly k [] _ refl refl refl refl;
    beats = λ k due. quietly k [] _ refl refl refl refl;
    answers = answers_pay;
    asks_pages = λ k due. asking k (Says (AskPages k.host.is.number) ∷ []) (after_question (present k.host) k.policy) refl refl refl
        (λ rate start sent paid. record { since = paid.since; within = paid.within; quiet = paid.quiet; answer = paid.answer });
    reports = λ page then told k due. let d = reports_page page then (slice_after told (report_of k.host.is.held page)) (sees k.host) k.policy in quietly k d.lines d.policy refl refl refl refl;
  };
  ticks = ticks_pay;
  arrives = λ d k free. quietly k (Arrives d ∷ []) k.policy refl refl refl refl;
  answered = λ d k lacks asked. quietly k (Arrives d ∷ []) (after_came k.policy) refl refl refl refl;
  hears = λ v k. quietly k (Calls (Hear v) ∷ []) k.policy refl (present_heard v k.host (has_room_for v k.host)) refl refl;
  stops = λ name k full. quietly k (Calls (Stop name) ∷ []) k.policy refl refl refl refl;
  sets = λ source micros k. quietly k (Calls (SetDelay source (bounded micros)) ∷ []) k.policy refl refl refl refl;
  lends = λ source k. quietly k (Calls (SetDelay source k.policy.usual) ∷ []) k.policy refl refl refl refl;
  takes_back = λ source k. quietly k (Calls (SetDelay source UNKNOWN_DELAY) ∷ []) k.policy refl refl refl refl;
  tunes = λ constants k within. quietly k (Calls (Tune constants) ∷ []) k.policy refl refl refl refl;
  draws = λ d k unasked. quietly k (Says (Draw d) ∷ []) k.policy refl refl refl refl;
  drawn = λ d k asked. quietly k (Says (Draw d) ∷ []) (after_drawing k.policy) refl refl refl refl;
  measured = λ micros k. quietly k [] (after_echo micros k.policy) refl refl refl refl;
  told = λ k. asking k [] (after_state (present k.host) k.policy) refl refl refl (λ rate start sent paid.
      let now = present k.host in
      record { since = paid.since; within = paid.within; quiet = paid_later rate start sent k.policy.questions.quiet (max k.policy.questions.quiet (now + 1000000)) (omega arith) paid.quiet; answer = tt });
  takes_up = takes_up_pays;
}

first_paid : (rate now : ℕ) (q : Questions) → IsPaid rate now 0 now q
first_paid rate now q = record { since = omega arith; within = least _; quiet = least _; answer = by q.answer } where
  least : (x : ℕ) → 0 ≤ x
  least x = omega arith

  by : (o : Option ℕ) → IfSome o (λ moment. IsPaidBy rate now 0 moment)
  by None = tt
  by (Some moment) = least _

pub states_are_paid : StatesArePaid
states_are_paid lines k taken fair =
    let rate = k.policy.reports.rate in
    let paid = (all_hold Pays steps_pay lines k taken).goes rate (present k.host) 0 refl fair (first_paid rate (present k.host) k.policy.questions) in
    subst (λ (states : ℕ). states * 534000000 ≤ 64 * 534000000 + (present (after_kept lines k).host - present k.host + states) * rate) (counts (length (filter is_state (expand lines k)))) paid.within where
      counts : (n : ℕ) → 0 + n ≡ n
      counts n = omega arith
