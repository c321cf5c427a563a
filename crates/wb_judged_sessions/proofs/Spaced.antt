-- Reports of a member are a second apart.
use Rattle.std.proofs.Common.{◌≡◌, ◌∙◌, ◌≤◌, ◌<◌, ◌+◌, ◌*◌, ℕ, zero, suc, Bool, true, false, cond, List, [], ◌∷◌, ◌++◌, None, ap, arith, eqb-true, map, refl, subst, sym, ⊎_elim, length}
use Rattle.std.specs.Prelude.{Contains, nat_eq, nat_le, take}
use Rattle.std.proofs.lemmas.Bool.{leb-true}
use Rattle.std.proofs.lemmas.List.Elements.{Contains-append_cases}
use Rattle.std.proofs.Math.Nat.{add_comm}
use Rattle.wb_names.specs.Values.{MarkValue, NameValue}
use Rattle.wb_names.specs.declared.echo.Echo.{Echo}
use Rattle.wb_names.specs.declared.name.PageId.{PageId}
use Rattle.wb_names.proofs.Listings.{Contains-here, Contains-there}
use Rattle.wb_codec.specs.declared.datagram.Datagram.{Datagram}
use Rattle.wb_codec.specs.declared.datagram.Datagram.TheVariants.{Session}
use Rattle.wb_gaps.specs.Answers.{pages_of, report_of}
use Rattle.wb_judge.specs.Adding.{own_echo}
use Rattle.wb_member.specs.Opened.{Opened, has_room_for, heard, present}
use Rattle.wb_member.specs.declared.calls.Call.TheVariants.{Tick, Hear}
use Rattle.wb_policy.specs.Policy.{after_answer, after_wanting}
use Rattle.wb_policy.specs.Reports.{slice_after}
use Rattle.wb_policy.specs.Wanting.{is_wanted}
use Rattle.wb_policy.specs.declared.reports.Told.{Told}
use Rattle.wb_keeping.specs.Kept.{Calls, Doing, Line, Says, reports_page, state_of, still, want, report_echoes}
use Rattle.wb_keeping.specs.Laws.{KeptLine, doing_of, fault_of}
use Rattle.wb_keeping.specs.Performing.{Keeping, after_doing, after_line, after_lines, sees, sent_by_doing, sent_by_lines, view_of}
use Rattle.wb_keeping.specs.Views.{View, holds, is_full, is_known, level}
use Rattle.wb_keeping.proofs.EachLine.{Each, states_each, want_each}
use Rattle.wb_keeping.proofs.EachStep.{HoldsOfSteps, doing, having_done, line_holds}
use Rattle.wb_keeping.proofs.Performed.{after_both, sent_by_both}
use Rattle.wb_keeping.proofs.Saying.{says_after}
use Rattle.wb_keeping.proofs.Wanted.{lines_wanted}
use Rattle.wb_kept_progress.proofs.Leaving.{next_late}
use Rattle.wb_kept_progress.proofs.Lines.{IsSmall, are_small, does_rest}
use Rattle.wb_laws_sessions.proofs.Sending.{one_of}
use Rattle.wb_judging.specs.Handing.{handed}
use Rattle.wb_judging.specs.Judged.{Judged, moment_of}
use Rattle.wb_judging.specs.declared.call.Call.{Call}
use Rattle.wb_judging.specs.Laws.{sends_in}
use Rattle.wb_judging.specs.Performing.{after_judged, after_kept_line, events_of, judging, sent_by_kept_line}
use Rattle.wb_judging.specs.declared.record.RecordLine.{RecordLine}
use Rattle.wb_judging.proofs.AsKept.{sends_as_kept}
use Rattle.wb_judged_sessions.specs.Answering.{ReportsAreRemembered}
use Rattle.wb_judged_sessions.specs.Laws.{HasNotStarted}
use Rattle.wb_judged_sessions.specs.Calls.{after_call, IsTaken, JudgedCall, sent_by, Start, Starts, Takes, Tunes}
use Rattle.wb_judged_sessions.specs.Sessions.{At, judged_at}
use Rattle.wb_judged_sessions.specs.Terms.{AreTaken}
use Rattle.wb_judge.specs.declared.limits.TheConstants.{FRESH, MOST_OWN}
use Rattle.wb_judged_sessions.proofs.Answered.{after_it, taken_part}
use Rattle.wb_judged_sessions.proofs.Echoed.{IsReported, reported, taken_line}
use Rattle.wb_judged_sessions.proofs.Remembered.{echoed_same, kept_by_count, reports_among, reports_by}
use Rattle.wb_judged_sessions.proofs.Reporting.{report_due}
use Rattle.wb_judged_sessions.proofs.SaidOnly.{SaysOnly, want_says}
use Rattle.wb_judged_sessions.proofs.TakenIn.{IsNoReport, none_reported}
use Rattle.wb_judged_sessions.proofs.Terms.{fault_none, own_at}

-- ---- how many reports are sent

nothing_more : (n : ℕ) → n ≡ 0 + n
nothing_more n = omega arith

among_both : (one other : List Datagram) → reports_among (one ++ other) ≡ reports_among one + reports_among other
among_both [] other = nothing_more (reports_among other)
among_both (Session s sent page marks es ∷ one) other = let rest = among_both one other in omega (arith, rest)
among_both (v ∷ one) other = among_both one other

none_among : (vs : List Datagram) → ((v : Datagram) → Contains vs v → IsNoReport v) → reports_among vs ≡ 0
none_among [] none = refl
none_among (Session s sent page marks es ∷ vs) none = absurd (none (Session s sent page marks es) (Contains-here (Session s sent page marks es) vs))
none_among (w ∷ vs) none = none_among vs (λ v c. none v (Contains-there w v vs c))

-- ---- each step

-- After `n` reports the next one is due `n` seconds later at least, and the last one was sent a second before that, or later.
pub record IsSpaced (n : ℕ) (k m : Keeping) : Type 0 where
  pub later : present k.host ≤ present m.host
  pub due : n * 1000000 + report_due k ≤ report_due m
  pub last : 1 ≤ n → n * 1000000 + report_due k ≤ present m.host + 1000000

pub spaced_both : (a b : ℕ) (k m n : Keeping) → IsSpaced a k m → IsSpaced b m n → IsSpaced (a + b) k n
spaced_both a b k m n one other = record {
  later = let x = one.later in let y = other.later in omega (arith, x, y);
  due = let x = one.due in let y = other.due in omega (arith, x, y);
  last = λ some. by b other.last some;
} where
  by : (b' : ℕ) → (1 ≤ b' → b' * 1000000 + report_due m ≤ present n.host + 1000000) → 1 ≤ a + b' → (a + b') * 1000000 + report_due k ≤ present n.host + 1000000
  by zero last some = let x = one.last (omega (arith, some)) in let y = other.later in omega (arith, x, y)
  by (suc c) last some = let x = one.due in let y = last (omega arith) in omega (arith, x, y)

-- some lines of a call, and what was reported by them
record Spaces (k : Keeping) (lines : List Line) (m : Keeping) : Type 0 where
  at : m.host ≡ after_lines lines k.host
  spaced : IsSpaced (reports_among (sent_by_lines lines k.host)) k m
  next : (s t : ℕ) (page : PageId) (marks : List MarkValue) (es : List Echo) → Contains (sent_by_lines lines k.host) (Session s t page marks es) → t + 1000000 ≤ report_due m

quietly : (k m : Keeping) (lines : List Line) → Each (SaysOnly IsNoReport) lines → m.host ≡ after_lines lines k.host → present k.host ≤ present m.host → report_due m ≡ report_due k → Spaces k lines m
quietly k m lines only at later same = record {
  at = at;
  spaced = record {
    later = later;
    due = let n = none in omega (arith, n, same);
    last = λ some. let n = none in absurd (omega (arith, n, some));
  };
  next = λ s t page marks es c. absurd (none_reported lines k.host only (Session s t page marks es) c);
} where
  none : reports_among (sent_by_lines lines k.host) ≡ 0
  none = none_among (sent_by_lines lines k.host) (none_reported lines k.host only)

at_once : (before after : ℕ) → after ≡ before → before ≤ after
at_once before after same = omega (arith, same)

both_space : (k m n : Keeping) (one other : List Line) → Spaces k one m → Spaces m other n → Spaces k (one ++ other) n
both_space k m n one other a b = record {
  at = b.at ∙ ap (after_lines other) a.at ∙ sym (after_both one other k.host);
  spaced = subst (λ (c : ℕ). IsSpaced c k n) (sym (ap reports_among sent ∙ among_both first then)) (spaced_both (reports_among first) (reports_among then) k m n a.spaced b.spaced);
  next = λ s t page marks es c. ⊎_elim
      (λ (now : Contains first (Session s t page marks es)). let x = a.next s t page marks es now in let y = b.spaced.due in omega (arith, x, y))
      (λ (later : Contains then (Session s t page marks es)). b.next s t page marks es later)
      (Contains-append_cases first then (Session s t page marks es) (subst (λ (vs : List Datagram). Contains vs (Session s t page marks es)) sent c));
} where
  first : List Datagram
  first = sent_by_lines one k.host

  then : List Datagram
  then = sent_by_lines other m.host

  sent : sent_by_lines (one ++ other) k.host ≡ first ++ then
  sent = sent_by_both one other k.host ∙ ap (λ (host : Opened). first ++ sent_by_lines other host) (sym a.at)

hears_space : (v : Datagram) (k : Keeping) → Spaces k (Calls (Hear v) ∷ []) (record { host = after_line (Calls (Hear v)) k.host; policy = k.policy })
hears_space v k = quietly k _ (Calls (Hear v) ∷ []) (tt, tt) refl (at_once _ _ (by (has_room_for v k.host))) refl where
  by : (b : Bool) → present (cond b (heard v k.host) k.host) ≡ present k.host
  by true = refl
  by false = refl

wants_space : (name : NameValue) (anew : Bool) (k : Keeping) → Spaces k (want name anew (sees k.host) k.policy).lines (after_doing (want name anew) k)
wants_space name anew k =
    quietly k (after_doing (want name anew) k) _ (want_says IsNoReport name anew (sees k.host) k.policy) refl (at_once _ _ (does_rest (want name anew) (want_each IsSmall are_small name anew) k).now)
    (by (is_wanted (holds v name) (is_full v) anew (is_known v name.source) (level v name) (length v.asked) k.policy.owed v.now)) where
      v : View
      v = view_of k.host

      wanted : Doing
      wanted = record { policy = after_wanting v.now k.policy; lines = lines_wanted name anew (sees k.host) k.policy }

      by : (b : Bool) → (let d : Doing = cond b wanted (still (sees k.host) k.policy) in d.policy.reports.due) ≡ k.policy.reports.due
      by true = refl
      by false = refl

answers_space : (k : Keeping) → let lines = map (λ page. Says (state_of (view_of k.host) page)) (take 64 (pages_of k.host.is.held)) in
    Spaces k lines (having_done (doing (after_answer (present k.host) (length (take 64 (pages_of k.host.is.held))) k.policy) lines) k)
answers_space k =
    quietly k _ _ (states_each (SaysOnly IsNoReport) (view_of k.host) (λ page. tt) (take 64 (pages_of k.host.is.held))) refl
    (at_once _ _ (ap present (says_after (view_of k.host) (take 64 (pages_of k.host.is.held)) k.host))) refl

-- a report, which is due
reports_space : (page : PageId) (then : Told) (marks : List MarkValue) (k : Keeping) → nat_le k.policy.reports.due (present k.host) ≡ true
    → Spaces k (reports_page page then marks (sees k.host) k.policy).lines (after_doing (reports_page page then marks) k)
reports_space page then marks k is = record {
  at = refl;
  spaced = record {
    later = at_once (present k.host) (present k.host) refl;
    due = let le = leb-true k.policy.reports.due (present k.host) is in omega (arith, le, later);
    last = λ some. let le = leb-true k.policy.reports.due (present k.host) is in omega (arith, le);
  };
  next = λ s t on told es c. let same = moment s t on told es (one_of _ _ c) in omega (arith, same, later);
} where
  later : present k.host + 1000000 ≤ report_due (after_doing (reports_page page then marks) k)
  later = next_late (present k.host) _ _

  moment : (s t : ℕ) (on : PageId) (told : List MarkValue) (es : List Echo) → Session k.host.is.number (present k.host) page marks (report_echoes (view_of k.host) k.policy) ≡ Session s t on told es → t ≡ present k.host
  moment s t on told es e = cc

space : (k m : Keeping) (line : Line) → SaysOnly IsNoReport line → m.host ≡ after_line line k.host → present m.host ≡ present k.host → report_due m ≡ report_due k → Spaces k (line ∷ []) m
space k m line only at now due = quietly k m (line ∷ []) (only, tt) at (at_once (present k.host) (present m.host) now) due

nothing : (k m : Keeping) → m.host ≡ k.host → report_due m ≡ report_due k → Spaces k [] m
nothing k m at due = quietly k m [] tt at (at_once (present k.host) (present m.host) (ap present at)) due

steps_space : HoldsOfSteps Spaces
steps_space = record {
  due = record {
    nothing = λ k. nothing k k refl refl;
    both = both_space;
    wants = wants_space;
    turned = λ t l k. nothing k _ refl refl;
    beats = λ k due. nothing k _ refl refl;
    answers = λ k is. answers_space k;
    asks_pages = λ k is. space k _ _ tt refl refl refl;
    reports = λ page then told k is. reports_space page then (slice_after told (report_of k.host.is.held page)) k is;
  };
  ticks = λ now k later. quietly k _ (Calls (Tick now) ∷ []) (tt, tt) refl later refl;
  arrives = λ d k free. space k _ _ tt refl refl refl;
  answered = λ d k lacks asked. space k _ _ tt refl refl refl;
  hears = hears_space;
  stops = λ name k full. space k _ _ tt refl refl refl;
  sets = λ source micros k. space k _ _ tt refl refl refl;
  lends = λ source k. space k _ _ tt refl refl refl;
  takes_back = λ source k. space k _ _ tt refl refl refl;
  tunes = λ constants k within. space k _ _ tt refl refl refl;
  draws = λ d k unasked. space k _ _ tt refl refl refl;
  drawn = λ d k asked. space k _ _ tt refl refl refl;
  measured = λ micros k. nothing k _ refl refl;
  told = λ k. nothing k _ refl refl;
  takes_up = λ k is. nothing k _ refl refl;
}

-- ---- a line of a judged member

call_spaces : (call : KeptLine) (k : Keeping) → fault_of call k ≡ None → Spaces k (doing_of call (sees k.host) k.policy).lines (after_doing (doing_of call) k)
call_spaces call k none = line_holds Spaces steps_space call k none

line_spaced : (line : Call) (h : Judged) → fault_of (handed line h) h.kept ≡ None → IsSpaced (reports_among (sends_in (events_of line h))) h.kept (after_judged line h).kept
unfolding after_kept_line sent_by_kept_line
line_spaced line h none =
    let counted : reports_among (sends_in (events_of line h)) ≡ reports_among (sent_by_doing (doing_of (handed line h)) h.kept) =
    ap reports_among (sends_as_kept line h) ∙ echoed_same (own_echo (moment_of line h) (judging line h)) (sent_by_doing (doing_of (handed line h)) h.kept) in
    subst (λ (n : ℕ). IsSpaced n h.kept (after_judged line h).kept) (sym counted) (call_spaces (handed line h) h.kept none).spaced

-- the next report comes a second after one at least
pub next_due : (line : Call) (h : Judged) (s t : ℕ) (page : PageId) (marks : List MarkValue) (es : List Echo) → fault_of (handed line h) h.kept ≡ None
    → Contains (sends_in (events_of line h)) (Session s t page marks es) → t + 1000000 ≤ report_due (after_judged line h).kept
unfolding after_kept_line
next_due line h s t page marks es none c =
    let r : IsReported line h s t page marks es = reported line h s t page marks es c in
    (call_spaces (handed line h) h.kept none).next s t page marks r.plain r.among

-- ---- calls

pub calls_spaced : (numbers : ℕ → ℕ) (place : ℕ) (newer older : List (At JudgedCall)) → HasNotStarted newer place → AreTaken numbers (newer ++ older)
    → IsSpaced (reports_by numbers place newer older) (judged_at numbers older place).kept (judged_at numbers (newer ++ older) place).kept
calls_spaced numbers place [] older not taken = record { later = omega arith; due = omega arith; last = λ some. absurd (omega (arith, some)) }
calls_spaced numbers place (e ∷ newer) older not taken =
    by (nat_eq e.place place) refl (calls_spaced numbers place newer older (λ x start given within. not x start given (Contains-there e x newer within)) taken.1) where
      first : Keeping
      first = (judged_at numbers older place).kept

      h : Judged
      h = judged_at numbers (newer ++ older) place

      goes : (call : JudgedCall) → ((start : Start) (given : List RecordLine) → call ≡ Starts start given → ⊥) → IsTaken call h → IsSpaced (reports_among (sent_by call h)) h.kept (after_call call h).kept
      goes (Starts start given) never t = absurd (never start given refl)
      goes (Takes line) never t = line_spaced line h (fault_none line h (own_at numbers (newer ++ older) place) t)
      goes (Tunes constants) never t = record { later = omega arith; due = omega arith; last = λ some. absurd (omega (arith, some)) }

      by : (b : Bool) → nat_eq e.place place ≡ b → IsSpaced (reports_by numbers place newer older) first h.kept
          → IsSpaced (cond b (reports_among (sent_by e.event h)) 0 + reports_by numbers place newer older) first (let m : Judged = cond b (after_call e.event h) h in m.kept)
      by false there rest = subst (λ (c : ℕ). IsSpaced c first h.kept) (nothing_more (reports_by numbers place newer older)) rest
      by true here rest =
          let same = eqb-true e.place place here in
          let last = goes e.event (λ start given is. not e start given (Contains-here e newer) same is) (subst (λ (p : ℕ). IsTaken e.event (judged_at numbers (newer ++ older) p)) same taken.0) in
          let n = reports_by numbers place newer older in
          let m = reports_among (sent_by e.event h) in
          subst (λ (c : ℕ). IsSpaced c first (after_call e.event h).kept) (add_comm n m) (spaced_both n m first h.kept (after_call e.event h).kept rest last)

-- ---- so the moments of the last 256 seconds are remembered

pub reports_are_remembered : ReportsAreRemembered
reports_are_remembered numbers newer older e line sender moment page marks echoes taken takes sent not soon =
    kept_by_count numbers newer older e line sender moment page marks echoes there takes sent not (few (reports_by numbers e.place newer (e ∷ older)) spaced.last soon) where
      there : AreTaken numbers (e ∷ older)
      there = taken_part numbers (newer ++ e ∷ older) newer (e ∷ older) refl taken

      spaced : IsSpaced (reports_by numbers e.place newer (e ∷ older)) (judged_at numbers (e ∷ older) e.place).kept (judged_at numbers (newer ++ e ∷ older) e.place).kept
      spaced = calls_spaced numbers e.place newer (e ∷ older) not taken

      due : moment + 1000000 ≤ report_due (judged_at numbers (e ∷ older) e.place).kept
      due =
          subst (λ (k : Judged). moment + 1000000 ≤ report_due k.kept) (sym (after_it numbers older e line takes))
          (next_due line (judged_at numbers older e.place) sender moment page marks echoes (taken_line numbers older e line there takes) sent)

      few : (n : ℕ) → (1 ≤ n → n * 1000000 + report_due (judged_at numbers (e ∷ older) e.place).kept ≤ present (judged_at numbers (newer ++ e ∷ older) e.place).kept.host + 1000000)
          → present (judged_at numbers (newer ++ e ∷ older) e.place).kept.host < moment + FRESH → n < MOST_OWN
      few n last soon = by n last soon where
        by : (n : ℕ) → (1 ≤ n → n * 1000000 + report_due (judged_at numbers (e ∷ older) e.place).kept ≤ present (judged_at numbers (newer ++ e ∷ older) e.place).kept.host + 1000000)
            → present (judged_at numbers (newer ++ e ∷ older) e.place).kept.host < moment + 256000000 → n < 256
        by zero last soon = omega arith
        by (suc n) last soon = let le = last (omega arith) in let d = due in omega (arith, le, d, soon)
