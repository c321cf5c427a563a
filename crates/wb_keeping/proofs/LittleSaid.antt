-- How many names a kept host asks for, and how often it speaks of itself.
use Rattle.std.proofs.Common.{◌≡◌, ℕ, zero, suc, ◌+◌, ◌-◌, ◌*◌, ◌≤◌, Bool, true, false, cond, List, [], ◌∷◌, ◌++◌, ◌∙◌, Option, Some, None, ap, arith, filter, length, length-append, map, max, min, refl, subst, sym, true≢false}
use Rattle.std.specs.Prelude.{IfSome, IsTrue, ◌&&◌, ◌/◌, is_none, nat_eq, nat_le, nat_lt, not, take, ◌||◌}
use Rattle.std.proofs.lemmas.Bool.{leb-true}
use Rattle.std.proofs.lemmas.Bool.Decides.{nat_tests}
use Rattle.std.proofs.lemmas.List.{length-take}
use Rattle.std.proofs.lemmas.List.Elements.{filter-append}
use Rattle.wb_names.specs.Values.{DrawopValue, NameValue}
use Rattle.wb_names.specs.declared.name.PageId.{PageId}
use Rattle.wb_codec.specs.declared.datagram.Datagram.{Datagram}
use Rattle.wb_codec.specs.declared.datagram.Datagram.TheVariants.{Draw, AskPages}
use Rattle.wb_gaps.specs.Answers.{pages_of, report_of}
use Rattle.wb_member.specs.Members.{Misses}
use Rattle.wb_member.specs.Opened.{Opened, doing as doing_act, has_room_for, heard, may_ask, present}
use Rattle.wb_member.specs.Random.{word_of}
use Rattle.wb_member.specs.declared.calls.Call.TheVariants.{Tick, Hear, SetDelay, Tune, Look, Ask, Stop}
use Rattle.wb_policy.specs.declared.reports.Told.{Told}
use Rattle.wb_keeping.specs.Bounds.{FewNamesAreAsked, LittleIsSaid, answer_count, ask_count, is_ask, is_question, is_report, is_state}
use Rattle.wb_policy.specs.Credit.{has_credit}
use Rattle.wb_policy.specs.Delays.{bounded}
use Rattle.wb_recovery.specs.declared.limits.TheConstants.{UNKNOWN_DELAY}
use Rattle.wb_keeping.specs.Kept.{Arrives, Doing, Line, Says, covers, reports_page, room_lines, state_of, still, want, lending, Calls, report_echoes}
use Rattle.wb_keeping.specs.Laws.{AreTaken, KeptLine, after_kept, expand}
use Rattle.wb_keeping.specs.Performing.{Keeping, after_doing, after_line, after_lines, sees, view_of}
use Rattle.wb_policy.specs.Policy.{Policy, after_answer, after_came, after_drawing, after_question, after_state, after_taking_up, after_wanting, draws}
use Rattle.wb_keeping.specs.Views.{View, holds, is_asked, is_full, level, is_known}
use Rattle.wb_policy.specs.Questions.{answer_pause, answered_at, heard_at, is_due, is_to_answer, to_answer}
use Rattle.wb_policy.specs.Reports.{mean_time, members_in, slice_after}
use Rattle.wb_policy.specs.Wanting.{is_wanted}
use Rattle.wb_policy.specs.declared.questions.Questions.{Questions}
use Rattle.wb_keeping.proofs.EachStep.{HoldsOfSteps, all_hold, doing, having, having_done, with_policy}
use Rattle.wb_keeping.proofs.Wanted.{parts_wanted}
use Rattle.wb_keeping.proofs.Performed.{after_both}
use Rattle.wb_policy.proofs.Spending.{IsPaid, has_place, one_asked, one_came}
use Rattle.wb_keeping.proofs.EachLine.{Each, room_each}
use Rattle.wb_keeping.proofs.Saying.{says_after}

-- ---- what is spaced

-- So much was spent since a start, each time a gap, and not before the moment of the next.
record IsSpaced (start now next gap spent : ℕ) : Type 0 where
  within : spent ≤ gap + (now - start)
  next_one : 1 ≤ spent → start + spent ≤ next

one_spaced : (start now next gap spent later : ℕ) → start ≤ now → next ≤ now → now + gap ≤ later → IsSpaced start now next gap spent → IsSpaced start now later gap (spent + gap)
one_spaced start now next gap zero later since due le s = record { within = omega (arith, since); next_one = λ some. omega (arith, since, le) }
one_spaced start now next gap (suc spent) later since due le s =
    let n = s.next_one (omega arith) in
    record { within = omega (arith, since, due, n); next_one = λ some. omega (arith, since, due, le, n) }

time_passes : (start now then next gap spent : ℕ) → now ≤ then → IsSpaced start now next gap spent → IsSpaced start then next gap spent
time_passes start now then next gap spent le s = record { within = let w = s.within in omega (arith, le, w); next_one = s.next_one }

-- what is put off is put off by a gap from now
put_off : (start now next gap spent later : ℕ) → start ≤ now → now + gap ≤ later → IsSpaced start now next gap spent → IsSpaced start now later gap spent
put_off start now next gap spent later since le s = record { within = s.within; next_one = λ some. let w = s.within in omega (arith, since, le, w) }

-- ---- what is known of a kept host since a start

-- Page states come in bursts. No burst begins before it is quiet no longer, nor before the moment at which it is to answer.
record IsAnswered (start now : ℕ) (q : Questions) (bursts : ℕ) : Type 0 where
  quiet : IsSpaced start now q.quiet 1000000 (bursts * 1000000)
  answer : IfSome q.answer (λ moment. IsSpaced start now moment 1000000 (bursts * 1000000))

record IsAsking (start now : ℕ) (q : Questions) (asked : ℕ) : Type 0 where
  slow : 1000000 ≤ q.wait
  asks : IfSome q.ask (λ moment. IsSpaced start now moment 500000 (asked * 500000))
  within : asked * 500000 ≤ 500000 + (now - start)

-- how many names were asked for and came, and how much was said
record Counts : Type 0 where
  asks : ℕ
  comes : ℕ
  reports : ℕ
  states : ℕ
  questions : ℕ

abbrev none : Counts
none = record { asks = 0; comes = 0; reports = 0; states = 0; questions = 0 }

record IsWithin (start wait now owed due : ℕ) (q : Questions) (c : Counts) : Type 0 where
  paid : IsPaid start now owed c.asks c.comes
  told : IsSpaced start now due 1000000 (c.reports * 1000000)
  bursts : ℕ
  answered : IsAnswered start now q bursts
  few : c.states ≤ 64 * bursts
  asking : 1000000 ≤ wait → IsAsking start now q c.questions

abbrev Within : ℕ → ℕ → Keeping → Counts → Type 0
Within start wait k c = IsWithin start wait (present k.host) k.policy.owed k.policy.reports.due k.policy.questions c

-- some lines more
record AddsUp (c : Counts) (lines : List Line) (host : Opened) (d : Counts) : Type 0 where
  asks : d.asks ≡ c.asks + ask_count lines
  comes : d.comes ≡ c.comes + answer_count lines host
  reports : d.reports ≡ c.reports + length (filter is_report lines)
  states : d.states ≡ c.states + length (filter is_state lines)
  questions : d.questions ≡ c.questions + length (filter is_question lines)

record Keeps (k : Keeping) (lines : List Line) (m : Keeping) : Type 0 where
  at : m.host ≡ after_lines lines k.host
  within : (start wait : ℕ) (c d : Counts) → AddsUp c lines k.host d → Within start wait k c → Within start wait m d

-- ---- counts

answers_both : (one other : List Line) (host : Opened) → answer_count (one ++ other) host ≡ answer_count one host + answer_count other (after_lines one host)
answers_both [] other host = omega arith
answers_both (line ∷ one) other host = let rest = answers_both one other (after_line line host) in omega (arith, rest)

pub counted : (p : Line → Bool) (one other : List Line) → length (filter p (one ++ other)) ≡ length (filter p one) + length (filter p other)
counted p one other = ap (λ (ls : List Line). length ls) (filter-append p one other) ∙ length-append (filter p one) (filter p other)

both_keep : (k m n : Keeping) (one other : List Line) → Keeps k one m → Keeps m other n → Keeps k (one ++ other) n
both_keep k m n one other a b = record {
  at = b.at ∙ ap (after_lines other) a.at ∙ sym (after_both one other k.host);
  within = λ start wait c d up w.
      let mid : Counts = record { asks = c.asks + ask_count one; comes = c.comes + answer_count one k.host; reports = c.reports + length (filter is_report one); states = c.states + length (filter is_state one); questions = c.questions + length (filter is_question one) } in
      let first : AddsUp c one k.host mid = record { asks = refl; comes = refl; reports = refl; states = refl; questions = refl } in
      let came = answers_both one other k.host ∙ ap (λ (h : Opened). answer_count one k.host + answer_count other h) (sym a.at) in
      let asks = counted is_ask one other in
      let reports = counted is_report one other in
      let states = counted is_state one other in
      let questions = counted is_question one other in
      let u1 = up.asks in
      let u2 = up.comes in
      let u3 = up.reports in
      let u4 = up.states in
      let u5 = up.questions in
      let second : AddsUp mid other m.host d = record { asks = omega (arith, asks, u1); comes = omega (arith, came, u2); reports = omega (arith, reports, u3); states = omega (arith, states, u4); questions = omega (arith, questions, u5) } in
      b.within start wait mid d second (a.within start wait c mid first w);
}

recount : (start wait now owed due : ℕ) (q : Questions) (c d : Counts) → c.asks ≡ d.asks → c.comes ≡ d.comes → c.reports ≡ d.reports → c.states ≡ d.states → c.questions ≡ d.questions → IsWithin start wait now owed due q c → IsWithin start wait now owed due q d
recount start wait now owed due q c d a b e f g w = record {
  paid = subst (λ (n : ℕ). IsPaid start now owed n d.comes) a (subst (λ (n : ℕ). IsPaid start now owed c.asks n) b w.paid);
  told = subst (λ (n : ℕ). IsSpaced start now due 1000000 (n * 1000000)) e w.told;
  bursts = w.bursts;
  answered = w.answered;
  few = let few = w.few in omega (arith, few, f);
  asking = λ slow. subst (λ (n : ℕ). IsAsking start now q n) g (w.asking slow);
}

-- ---- lines of which nothing is counted

abbrev IsPlain : Line → Type 0
IsPlain (Calls (Tick now)) = ⊥
IsPlain (Arrives d) = ⊥
IsPlain (Calls (Ask name)) = ⊥
IsPlain (Calls (Look page)) = ⊥
IsPlain (Calls call) = Unit {0}
IsPlain (Says v) = ⊥

abbrev ArePlain : List Line → Type 0
ArePlain lines = Each IsPlain lines

pub present_heard : (v : Datagram) (host : Opened) (b : Bool) → present (cond b (heard v host) host) ≡ present host
present_heard v host true = refl
present_heard v host false = refl

pub present_asks : (name : NameValue) (host : Opened) → present (after_line (Calls (Ask name)) host) ≡ present host
present_asks name host = by (may_ask name host) where
  by : (b : Bool) → present (cond b (doing_act (Misses (present host) (name ∷ []) (word_of host.random ∷ [])) 1 host) host) ≡ present host
  by true = refl
  by false = refl

present_plain : (lines : List Line) (host : Opened) → ArePlain lines → present (after_lines lines host) ≡ present host
present_plain [] host plain = refl
present_plain (Calls (Hear v) ∷ lines) host plain = present_plain lines (after_line (Calls (Hear v)) host) plain.1 ∙ present_heard v host (has_room_for v host)
present_plain (Calls (Tick now) ∷ lines) host plain = absurd plain.0
present_plain (Arrives d ∷ lines) host plain = absurd plain.0
present_plain (Calls (Ask name) ∷ lines) host plain = absurd plain.0
present_plain (Calls call ∷ lines) host plain = present_plain lines (after_line (Calls call) host) plain.1
present_plain (Says v ∷ lines) host plain = absurd plain.0

record CountsNothing (lines : List Line) (host : Opened) : Type 0 where
  asks : ask_count lines ≡ 0
  comes : answer_count lines host ≡ 0
  reports : length (filter is_report lines) ≡ 0
  states : length (filter is_state lines) ≡ 0
  questions : length (filter is_question lines) ≡ 0

plain_nothing : (lines : List Line) (host : Opened) → ArePlain lines → CountsNothing lines host
plain_nothing [] host plain = record { asks = refl; comes = refl; reports = refl; states = refl; questions = refl }
plain_nothing (Calls (Tick now) ∷ lines) host plain = absurd plain.0
plain_nothing (Arrives d ∷ lines) host plain = absurd plain.0
plain_nothing (Calls (Ask name) ∷ lines) host plain = absurd plain.0
plain_nothing (Calls (Look page) ∷ lines) host plain = absurd plain.0
plain_nothing (Calls call ∷ lines) host plain = let n = plain_nothing lines (after_line (Calls call) host) plain.1 in record { asks = n.asks; comes = let c = n.comes in omega (arith, c); reports = n.reports; states = n.states; questions = n.questions }
plain_nothing (Says v ∷ lines) host plain = absurd plain.0

-- nothing is counted, time stands, and of the policy nothing changes that is looked at
quietly : (k : Keeping) (lines : List Line) (p : Policy) → CountsNothing lines k.host → present (after_lines lines k.host) ≡ present k.host → p.owed ≡ k.policy.owed → p.reports.due ≡ k.policy.reports.due → p.questions ≡ k.policy.questions
    → Keeps k lines (having_done (doing p lines) k)
quietly k lines p nothing stands owed due questions = record {
  at = refl;
  within = λ start wait c d up w.
      let a = up.asks in
      let b = up.comes in
      let e = up.reports in
      let f = up.states in
      let g = up.questions in
      let za = nothing.asks in
      let zb = nothing.comes in
      let ze = nothing.reports in
      let zf = nothing.states in
      let zg = nothing.questions in
      recount start wait (present (after_lines lines k.host)) p.owed p.reports.due p.questions c d (omega (arith, a, za)) (omega (arith, b, zb)) (omega (arith, e, ze)) (omega (arith, f, zf)) (omega (arith, g, zg))
      (subst (λ (n : ℕ). IsWithin start wait n p.owed p.reports.due p.questions c) (sym stands)
      (subst (λ (n : ℕ). IsWithin start wait (present k.host) n p.reports.due p.questions c) (sym owed)
      (subst (λ (n : ℕ). IsWithin start wait (present k.host) k.policy.owed n p.questions c) (sym due)
      (subst (λ (q : Questions). IsWithin start wait (present k.host) k.policy.owed k.policy.reports.due q c) (sym questions) w))));
}

plainly : (k : Keeping) (lines : List Line) → ArePlain lines → Keeps k lines (having_done (doing k.policy lines) k)
plainly k lines plain = quietly k lines k.policy (plain_nothing lines k.host plain) (present_plain lines k.host plain) refl refl refl

zeros : (lines : List Line) (host : Opened) → ask_count lines ≡ 0 → answer_count lines host ≡ 0 → length (filter is_report lines) ≡ 0 → length (filter is_state lines) ≡ 0 → length (filter is_question lines) ≡ 0 → CountsNothing lines host
zeros lines host a b c d e = record { asks = a; comes = b; reports = c; states = d; questions = e }

-- a drawop that comes without being counted, or is counted though it was not paid back
arrives_keep : (d : DrawopValue) (k : Keeping) → Keeps k (Arrives d ∷ []) (having (Arrives d) k)
arrives_keep d k = record {
  at = refl;
  within = λ start wait c e up w.
      let a = up.asks in
      let b = up.comes in
      let r = up.reports in
      let s = up.states in
      let q = up.questions in
      let p = w.paid in
      let after = p.after in
      let owes = p.owes in
      let few = p.few in
      let states = w.few in
      record {
        paid = record { after = after; owes = omega (arith, owes, a, b); few = omega (arith, few, a, b) };
        told = subst (λ (n : ℕ). IsSpaced start (present k.host) k.policy.reports.due 1000000 (n * 1000000)) (omega (arith, r)) w.told;
        bursts = w.bursts;
        answered = w.answered;
        few = omega (arith, states, s);
        asking = λ slow. subst (λ (n : ℕ). IsAsking start (present k.host) k.policy.questions n) (omega (arith, q)) (w.asking slow);
      };
}

one_came_more : (start wait now owed due : ℕ) (q : Questions) (c e : Counts) → e.asks ≡ c.asks → e.comes ≡ c.comes + 1 → e.reports ≡ c.reports → e.states ≡ c.states → e.questions ≡ c.questions
    → IsWithin start wait now owed due q c → IsWithin start wait now (owed - 500000) due q e
one_came_more start wait now owed due q c e a b r s p w = record {
  paid = subst (λ (n : ℕ). IsPaid start now (owed - 500000) n e.comes) (sym a) (subst (λ (n : ℕ). IsPaid start now (owed - 500000) c.asks n) (sym b) (one_came start now owed c.asks c.comes w.paid));
  told = subst (λ (n : ℕ). IsSpaced start now due 1000000 (n * 1000000)) (sym r) w.told;
  bursts = w.bursts;
  answered = w.answered;
  few = let few = w.few in omega (arith, few, s);
  asking = λ slow. subst (λ (n : ℕ). IsAsking start now q n) (sym p) (w.asking slow);
}

answered_keep : (d : DrawopValue) (k : Keeping) → holds (view_of k.host) d.name ≡ false → is_asked (view_of k.host) d.name ≡ true → Keeps k (Arrives d ∷ []) (with_policy (after_came k.policy) (having (Arrives d) k))
answered_keep d k lacks asked = record {
  at = refl;
  within = λ start wait c e up w.
      let a = up.asks in
      let one : answer_count (Arrives d ∷ []) k.host ≡ 1 = ap (λ (b : Bool). cond (not b && is_asked (view_of k.host) d.name) 1 0 + 0) lacks ∙ ap (λ (b : Bool). cond b 1 0 + 0) asked in
      let b = up.comes in
      let r = up.reports in
      let s = up.states in
      let q = up.questions in
      one_came_more start wait (present k.host) k.policy.owed k.policy.reports.due k.policy.questions c e (omega (arith, a)) (omega (arith, b, one)) (omega (arith, r)) (omega (arith, s)) (omega (arith, q)) w;
}

drawn_keep : (d : DrawopValue) (k : Keeping) → is_asked (view_of k.host) d.name ≡ true → Keeps k (Says (Draw d) ∷ []) (with_policy (after_drawing k.policy) (having (Says (Draw d)) k))
drawn_keep d k asked = record {
  at = refl;
  within = λ start wait c e up w.
      let a = up.asks in
      let one : answer_count (Says (Draw d) ∷ []) k.host ≡ 1 = ap (λ (b : Bool). cond b 1 0 + 0) asked in
      let b = up.comes in
      let r = up.reports in
      let s = up.states in
      let q = up.questions in
      one_came_more start wait (present k.host) k.policy.owed k.policy.reports.due k.policy.questions c e (omega (arith, a)) (omega (arith, b, one)) (omega (arith, r)) (omega (arith, s)) (omega (arith, q)) w;
}

-- ---- time goes on

some_pass : (start now then gap spent : ℕ) (o : Option ℕ) → now ≤ then → IfSome o (λ moment. IsSpaced start now moment gap spent) → IfSome o (λ moment. IsSpaced start then moment gap spent)
some_pass start now then gap spent None le s = tt
some_pass start now then gap spent (Some moment) le s = time_passes start now then moment gap spent le s

ticks_keep : (now : ℕ) (k : Keeping) → present k.host ≤ now → Keeps k (Calls (Tick now) ∷ []) (having (Calls (Tick now)) k)
ticks_keep now k later = record {
  at = refl;
  within = λ start wait c d up w.
      let a = up.asks in
      let b = up.comes in
      let r = up.reports in
      let s = up.states in
      let q = up.questions in
      let p = w.paid in
      let after = p.after in
      let owes = p.owes in
      let few = p.few in
      let then = present k.host in
      recount start wait now k.policy.owed k.policy.reports.due k.policy.questions c d (omega (arith, a)) (omega (arith, b)) (omega (arith, r)) (omega (arith, s)) (omega (arith, q)) (record {
        paid = record { after = omega (arith, after, later); owes = omega (arith, owes, later); few = omega (arith, few, later) };
        told = time_passes start then now k.policy.reports.due 1000000 (c.reports * 1000000) later w.told;
        bursts = w.bursts;
        answered = record {
          quiet = time_passes start then now k.policy.questions.quiet 1000000 (w.bursts * 1000000) later w.answered.quiet;
          answer = some_pass start then now 1000000 (w.bursts * 1000000) k.policy.questions.answer later w.answered.answer;
        };
        few = w.few;
        asking = λ slow.
            let asking = w.asking slow in
            let within = asking.within in
            record { slow = asking.slow; asks = some_pass start then now 500000 (c.questions * 500000) k.policy.questions.ask later asking.asks; within = omega (arith, within, later) };
      });
}

-- ---- a name is wanted

-- the name is asked for last, and paid for
asks_keep : (name : NameValue) (k : Keeping) → IsTrue (has_credit k.policy.owed (present k.host)) → Keeps k (Calls (Ask name) ∷ []) (with_policy (after_wanting (present k.host) k.policy) (having (Calls (Ask name)) k))
asks_keep name k credit = record {
  at = refl;
  within = λ start wait c d up w.
      let now = present k.host in
      let a = up.asks in
      let b = up.comes in
      let r = up.reports in
      let s = up.states in
      let q = up.questions in
      let once = one_asked start now now k.policy.owed c.asks c.comes (omega arith) (leb-true _ _ credit) w.paid in
      let owed = max k.policy.owed now + 250000 in
      subst (λ (n : ℕ). IsWithin start wait n owed k.policy.reports.due k.policy.questions d) (sym (present_asks name k.host)) (record {
        paid = subst (λ (n : ℕ). IsPaid start now owed n d.comes) (omega (arith, a)) (subst (λ (n : ℕ). IsPaid start now owed (c.asks + 1) n) (omega (arith, b)) once);
        told = subst (λ (n : ℕ). IsSpaced start now k.policy.reports.due 1000000 (n * 1000000)) (omega (arith, r)) w.told;
        bursts = w.bursts;
        answered = w.answered;
        few = let few = w.few in omega (arith, few, s);
        asking = λ slow. subst (λ (n : ℕ). IsAsking start now k.policy.questions n) (omega (arith, q)) (w.asking slow);
      });
}

-- and so where a delay is lent for that
lent_keeps : (source delay : ℕ) (name : NameValue) (k : Keeping) → IsTrue (has_credit k.policy.owed (present k.host))
    → Keeps k (lending source delay k.policy.usual (Calls (Ask name))) (having_done (doing (after_wanting (present k.host) k.policy) (lending source delay k.policy.usual (Calls (Ask name)))) k)
lent_keeps source delay name k credit = by (nat_eq delay UNKNOWN_DELAY) where
  p : Policy
  p = after_wanting (present k.host) k.policy

  by : (b : Bool) → let lines = cond b (Calls (SetDelay source k.policy.usual) ∷ Calls (Ask name) ∷ Calls (SetDelay source UNKNOWN_DELAY) ∷ []) (Calls (Ask name) ∷ []) in Keeps k lines (having_done (doing p lines) k)
  by false = asks_keep name k credit
  by true =
      let one = having (Calls (SetDelay source k.policy.usual)) k in
      let two = with_policy p (having (Calls (Ask name)) one) in
      let three = having (Calls (SetDelay source UNKNOWN_DELAY)) two in
      both_keep k one three (Calls (SetDelay source k.policy.usual) ∷ []) (Calls (Ask name) ∷ Calls (SetDelay source UNKNOWN_DELAY) ∷ []) (plainly k (Calls (SetDelay source k.policy.usual) ∷ []) (tt, tt))
      (both_keep one two three (Calls (Ask name) ∷ []) (Calls (SetDelay source UNKNOWN_DELAY) ∷ []) (asks_keep name one credit) (plainly two (Calls (SetDelay source UNKNOWN_DELAY) ∷ []) (tt, tt)))

wants_keep : (name : NameValue) (anew : Bool) (k : Keeping) → Keeps k (want name anew (sees k.host) k.policy).lines (after_doing (want name anew) k)
wants_keep name anew k = by (is_wanted (holds v name) (is_full v) anew (is_known v name.source) (level v name) (length v.asked) k.policy.owed (present k.host)) refl where
  v : View
  v = view_of k.host

  room : List Line
  room = room_lines name (covers v k.policy) v

  last : List Line
  last = lending name.source (v.delay name.source) k.policy.usual (Calls (Ask name))

  room_plain : ArePlain room
  room_plain = room_each IsPlain (λ name. tt) name (covers v k.policy) v

  wanted : Doing
  wanted = doing (after_wanting (present k.host) k.policy) (room ++ last)

  by : (b : Bool) → is_wanted (holds v name) (is_full v) anew (is_known v name.source) (level v name) (length v.asked) k.policy.owed (present k.host) ≡ b → Keeps k (cond b wanted (still (sees k.host) k.policy)).lines (having_done (cond b wanted (still (sees k.host) k.policy)) k)
  by false e = plainly k [] tt
  by true e =
      let credit = has_place (anew || is_known v name.source) k.policy.owed (present k.host) (parts_wanted name anew (sees k.host) k.policy e).3 in
      let one = having_done (doing k.policy room) k in
      let stands : present one.host ≡ present k.host = present_plain room k.host room_plain in
      let asked = lent_keeps name.source (v.delay name.source) name one (subst (λ (n : ℕ). IsTrue (has_credit k.policy.owed n)) (sym stands) credit) in
      let end = having_done (doing (after_wanting (present one.host) k.policy) last) one in
      let all = both_keep k one end room last (plainly k room room_plain) asked in
      let there : end.host ≡ after_lines (room ++ last) k.host = all.at in
      subst (λ (h : Opened). Keeps k (room ++ last) (record { host = h; policy = after_wanting (present k.host) k.policy })) there
      (subst (λ (n : ℕ). Keeps k (room ++ last) (record { host = end.host; policy = after_wanting n k.policy })) stands all)

-- ---- what is said

says_nothing_else : (v : View) (pages : List PageId) (host : Opened) → (ask_count (map (λ (page : PageId). Says (state_of v page)) pages) ≡ 0) × (answer_count (map (λ (page : PageId). Says (state_of v page)) pages) host ≡ 0) × (length (filter is_report (map (λ (page : PageId). Says (state_of v page)) pages)) ≡ 0) × (length (filter is_question (map (λ (page : PageId). Says (state_of v page)) pages)) ≡ 0)
says_nothing_else v [] host = (refl, refl, refl, refl)
says_nothing_else v (page ∷ pages) host = let n = says_nothing_else v pages host in let c = n.1 in (n.0, omega (arith, c), n.2, n.3)

pub says_each : (v : View) (pages : List PageId) → length (filter is_state (map (λ (page : PageId). Says (state_of v page)) pages)) ≡ length pages
says_each v [] = refl
says_each v (page ∷ pages) = ap suc (says_each v pages)

pub due_moment : (now : ℕ) (o : Option ℕ) (P : ℕ → Type 0) → is_due now o ≡ true → IfSome o P → (moment : ℕ) × (moment ≤ now) × P moment
due_moment now None P due holds_of = absurd (true≢false (sym due))
due_moment now (Some moment) P due holds_of = (moment, leb-true _ _ due, holds_of)

pause_long : (rate states : ℕ) → 1000000 ≤ answer_pause rate states
pause_long rate states = omega arith

answers_keep : (k : Keeping) → is_due (present k.host) k.policy.questions.answer ≡ true
    → Keeps k (map (λ page. Says (state_of (view_of k.host) page)) (take 64 (pages_of k.host.is.held))) (having_done (doing (after_answer (present k.host) (length (take 64 (pages_of k.host.is.held))) k.policy) (map (λ page. Says (state_of (view_of k.host) page)) (take 64 (pages_of k.host.is.held)))) k)
answers_keep k due = record {
  at = refl;
  within = λ start wait c d up w.
      let now = present k.host in
      let v = view_of k.host in
      let pages = take 64 (pages_of k.host.is.held) in
      let nothing = says_nothing_else v pages k.host in
      let z0 = nothing.0 in
      let z1 = nothing.1 in
      let z2 = nothing.2 in
      let z3 = nothing.3 in
      let many = says_each v pages in
      let few : length pages ≤ 64 = let l = length-take 64 (pages_of k.host.is.held) in omega (arith, l) in
      let a = up.asks in
      let b = up.comes in
      let r = up.reports in
      let s = up.states in
      let q = up.questions in
      let since = w.paid.after in
      let m = due_moment now k.policy.questions.answer _ due w.answered.answer in
      let pause = answer_pause k.policy.reports.rate (length pages) in
      let long = pause_long k.policy.reports.rate (length pages) in
      let spaced = one_spaced start now m.0 1000000 (w.bursts * 1000000) (now + pause) since m.1 (omega (arith, long)) m.2 in
      let old = w.few in
      subst (λ (h : Opened). IsWithin start wait (present h) k.policy.owed k.policy.reports.due (answered_at now pause k.policy.questions) d) (sym (says_after v pages k.host)) (record {
        paid = subst (λ (n : ℕ). IsPaid start now k.policy.owed n d.comes) (omega (arith, a, z0)) (subst (λ (n : ℕ). IsPaid start now k.policy.owed c.asks n) (omega (arith, b, z1)) w.paid);
        told = subst (λ (n : ℕ). IsSpaced start now k.policy.reports.due 1000000 (n * 1000000)) (omega (arith, r, z2)) w.told;
        bursts = w.bursts + 1;
        answered = record { quiet = subst (λ (n : ℕ). IsSpaced start now (now + pause) 1000000 n) (omega arith) spaced; answer = tt };
        few = omega (arith, old, s, many, few);
        asking = λ slow. subst (λ (n : ℕ). IsAsking start now (answered_at now pause k.policy.questions) n) (omega (arith, q, z3)) (let g = w.asking slow in record { slow = g.slow; asks = g.asks; within = g.within });
      });
}

asks_pages_keep : (k : Keeping) → is_due (present k.host) k.policy.questions.ask ≡ true → Keeps k (Says (AskPages k.host.is.number) ∷ []) (with_policy (after_question (present k.host) k.policy) k)
asks_pages_keep k due = record {
  at = refl;
  within = λ start wait c d up w.
      let now = present k.host in
      let drawn = draws k.policy.questions.wait k.policy in
      let a = up.asks in
      let b = up.comes in
      let r = up.reports in
      let s = up.states in
      let q = up.questions in
      let since = w.paid.after in
      let states = w.few in
      record {
        paid = subst (λ (n : ℕ). IsPaid start now k.policy.owed n d.comes) (omega (arith, a)) (subst (λ (n : ℕ). IsPaid start now k.policy.owed c.asks n) (omega (arith, b)) w.paid);
        told = subst (λ (n : ℕ). IsSpaced start now k.policy.reports.due 1000000 (n * 1000000)) (omega (arith, r)) w.told;
        bursts = w.bursts;
        answered = record { quiet = w.answered.quiet; answer = w.answered.answer };
        few = omega (arith, states, s);
        asking = λ slow.
            let g = w.asking slow in
            let slowly = g.slow in
            let m = due_moment now k.policy.questions.ask _ due g.asks in
            let spaced = one_spaced start now m.0 500000 (c.questions * 500000) (now + k.policy.questions.wait / 2 + drawn) since m.1 (omega (arith, slowly)) m.2 in
            let same : c.questions * 500000 + 500000 ≡ d.questions * 500000 = omega (arith, q) in
            let there = subst (λ (n : ℕ). IsSpaced start now (now + k.policy.questions.wait / 2 + drawn) 500000 n) same spaced in
            record { slow = omega (arith, slowly); asks = there; within = there.within };
      };
}

mean_slow : (rate members bytes : ℕ) → 2000000 ≤ min (max (members * bytes * 1000000 / rate) 2000000) 64000000
mean_slow rate members bytes = omega arith

reports_keep : (page : PageId) (then : Told) (told : Option ℕ) (k : Keeping) → nat_le k.policy.reports.due (present k.host) ≡ true
    → Keeps k (reports_page page then (slice_after told (report_of k.host.is.held page)) (sees k.host) k.policy).lines (after_doing (reports_page page then (slice_after told (report_of k.host.is.held page))) k)
reports_keep page then told k due = record {
  at = refl;
  within = λ start wait c d up w.
      let now = present k.host in
      let marks = slice_after told (report_of k.host.is.held page) in
      let echoes = report_echoes (view_of k.host) k.policy in
      let mean = mean_time k.policy.reports.rate (members_in (view_of k.host).echoes) (32 + 8 * length marks + 20 * length echoes) in
      let slow = mean_slow k.policy.reports.rate (members_in (view_of k.host).echoes) (32 + 8 * length marks + 20 * length echoes) in
      let next = now + mean / 2 + draws mean k.policy in
      let a = up.asks in
      let b = up.comes in
      let r = up.reports in
      let s = up.states in
      let q = up.questions in
      let since = w.paid.after in
      let states = w.few in
      let soon : now + 1000000 ≤ next = half now mean (draws mean k.policy) slow in
      let spaced = one_spaced start now k.policy.reports.due 1000000 (c.reports * 1000000) next since (leb-true _ _ due) soon w.told in
      let same : c.reports * 1000000 + 1000000 ≡ d.reports * 1000000 = omega (arith, r) in
      record {
        paid = subst (λ (n : ℕ). IsPaid start now k.policy.owed n d.comes) (omega (arith, a)) (subst (λ (n : ℕ). IsPaid start now k.policy.owed c.asks n) (omega (arith, b)) w.paid);
        told = subst (λ (n : ℕ). IsSpaced start now next 1000000 n) same spaced;
        bursts = w.bursts;
        answered = w.answered;
        few = omega (arith, states, s);
        asking = λ slow. subst (λ (n : ℕ). IsAsking start now k.policy.questions n) (omega (arith, q)) (w.asking slow);
      };
} where
  half : (now mean drawn : ℕ) → 2000000 ≤ mean → now + 1000000 ≤ now + mean / 2 + drawn
  half now mean drawn slow = omega (arith, slow)

-- ---- questions that are heard

told_keep : (k : Keeping) → Keeps k [] (with_policy (after_state (present k.host) k.policy) k)
told_keep k = record {
  at = refl;
  within = λ start wait c d up w.
      let now = present k.host in
      let a = up.asks in
      let b = up.comes in
      let r = up.reports in
      let s = up.states in
      let q = up.questions in
      let since = w.paid.after in
      recount start wait now k.policy.owed k.policy.reports.due (heard_at now k.policy.questions) c d (omega (arith, a)) (omega (arith, b)) (omega (arith, r)) (omega (arith, s)) (omega (arith, q)) (record {
        paid = w.paid;
        told = w.told;
        bursts = w.bursts;
        answered = record { quiet = put_off start now k.policy.questions.quiet 1000000 (w.bursts * 1000000) (max k.policy.questions.quiet (now + 1000000)) since (omega arith) w.answered.quiet; answer = tt };
        few = w.few;
        asking = λ slow. let g = w.asking slow in record { slow = g.slow; asks = tt; within = g.within };
      });
}

pub is_quiet_no_longer : (holds_some none : Bool) (quiet now : ℕ) → (holds_some && none && nat_le quiet now) ≡ true → quiet ≤ now
is_quiet_no_longer holds_some none quiet now e = grind (arith, nat_tests)

takes_up_keep : (k : Keeping) → is_to_answer (present k.host) (nat_lt 0 (length k.host.is.held)) k.policy.questions ≡ true → Keeps k [] (with_policy (after_taking_up (present k.host) k.policy) k)
takes_up_keep k is = record {
  at = refl;
  within = λ start wait c d up w.
      let now = present k.host in
      let drawn = draws 500000 k.policy in
      let a = up.asks in
      let b = up.comes in
      let r = up.reports in
      let s = up.states in
      let q = up.questions in
      let quiet = is_quiet_no_longer (nat_lt 0 (length k.host.is.held)) (is_none k.policy.questions.answer) k.policy.questions.quiet now is in
      let old = w.answered.quiet in
      recount start wait now k.policy.owed k.policy.reports.due (to_answer now drawn k.policy.questions) c d (omega (arith, a)) (omega (arith, b)) (omega (arith, r)) (omega (arith, s)) (omega (arith, q)) (record {
        paid = w.paid;
        told = w.told;
        bursts = w.bursts;
        answered = record { quiet = old; answer = record { within = old.within; next_one = λ some. let n = old.next_one some in omega (arith, n, quiet) } };
        few = w.few;
        asking = λ slow. let g = w.asking slow in record { slow = g.slow; asks = g.asks; within = g.within };
      });
}

-- ---- all that a kept host does

draws_keep : (d : DrawopValue) (k : Keeping) → is_asked (view_of k.host) d.name ≡ false → Keeps k (Says (Draw d) ∷ []) (having (Says (Draw d)) k)
draws_keep d k unasked = quietly k (Says (Draw d) ∷ []) k.policy (zeros (Says (Draw d) ∷ []) k.host refl (ap (λ (b : Bool). cond b 1 0 + 0) unasked) refl refl refl) refl refl refl refl

steps_keep : HoldsOfSteps Keeps
steps_keep = record {
  due = record {
    nothing = λ k. plainly k [] tt;
    both = both_keep;
    wants = wants_keep;
    turned = λ t l k. quietly k [] _ (plain_nothing [] k.host tt) refl refl refl refl;
    beats = λ k due. quietly k [] _ (plain_nothing [] k.host tt) refl refl refl refl;
    answers = answers_keep;
    asks_pages = asks_pages_keep;
    reports = reports_keep;
  };
  ticks = ticks_keep;
  arrives = λ d k free. arrives_keep d k;
  answered = answered_keep;
  hears = λ v k. plainly k (Calls (Hear v) ∷ []) (tt, tt);
  stops = λ name k full. plainly k (Calls (Stop name) ∷ []) (tt, tt);
  sets = λ source micros k. plainly k (Calls (SetDelay source (bounded micros)) ∷ []) (tt, tt);
  lends = λ source k. plainly k (Calls (SetDelay source k.policy.usual) ∷ []) (tt, tt);
  takes_back = λ source k. plainly k (Calls (SetDelay source UNKNOWN_DELAY) ∷ []) (tt, tt);
  tunes = λ constants k within. plainly k (Calls (Tune constants) ∷ []) (tt, tt);
  draws = draws_keep;
  drawn = drawn_keep;
  measured = λ micros k. quietly k [] _ (plain_nothing [] k.host tt) refl refl refl refl;
  told = told_keep;
  takes_up = takes_up_keep;
}

at_first : (now owed due : ℕ) (q : Questions) → IsWithin now q.wait now owed due q none
at_first now owed due q = record {
  paid = record { after = omega arith; owes = omega arith; few = omega arith };
  told = record { within = omega arith; next_one = λ some. absurd (omega (arith, some)) };
  bursts = 0;
  answered = record { quiet = record { within = omega arith; next_one = λ some. absurd (omega (arith, some)) }; answer = by now 1000000 q.answer };
  few = omega arith;
  asking = λ slow. record { slow = slow; asks = by now 500000 q.ask; within = omega arith };
} where
  by : (now gap : ℕ) (o : Option ℕ) → IfSome o (λ moment. IsSpaced now now moment gap 0)
  by now gap None = tt
  by now gap (Some moment) = record { within = omega arith; next_one = λ some. absurd (omega (arith, some)) }

abbrev counts_of : List Line → Opened → Counts
counts_of lines host = record { asks = ask_count lines; comes = answer_count lines host; reports = length (filter is_report lines); states = length (filter is_state lines); questions = length (filter is_question lines) }

in_the_end : (lines : List KeptLine) (k : Keeping) → AreTaken lines k → Within (present k.host) k.policy.questions.wait (after_kept lines k) (counts_of (expand lines k) k.host)
in_the_end lines k taken =
    let up : AddsUp none (expand lines k) k.host (counts_of (expand lines k) k.host) = record { asks = omega arith; comes = omega arith; reports = omega arith; states = omega arith; questions = omega arith } in
    (all_hold Keeps steps_keep lines k taken).within (present k.host) k.policy.questions.wait none (counts_of (expand lines k) k.host) up (at_first (present k.host) k.policy.owed k.policy.reports.due k.policy.questions)

pub few_names_are_asked : FewNamesAreAsked
few_names_are_asked lines k taken = (in_the_end lines k taken).paid.few

pub little_is_said : LittleIsSaid
little_is_said lines k slow taken =
    let w = in_the_end lines k taken in
    let few = w.few in
    let bursts = w.answered.quiet.within in
    record { reports = w.told.within; states = omega (arith, few, bursts); questions = (w.asking slow).within }
