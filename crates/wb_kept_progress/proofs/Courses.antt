-- What a call asks for, and what it spends of the credit.
use Rattle.std.proofs.Common.{◌≡◌, ℕ, ◌≤◌, Bool, true, false, cond, List, [], ◌∷◌, ◌++◌, ◌∙◌, Option, Some, None, ap, arith, inl, inr, map, refl, subst, sym, ⊎_elim, length}
use Rattle.std.specs.Prelude.{◌⊎◌, Contains, nat_le, take}
use Rattle.std.specs.Option.{option_map, option_or}
use Rattle.std.proofs.lemmas.Bool.{leb-true}
use Rattle.std.proofs.lemmas.List.Elements.{Contains-append_left}
use Rattle.wb_names.specs.Values.{DrawopValue, MarkValue, NameValue}
use Rattle.wb_names.proofs.Listings.{Contains-there}
use Rattle.wb_codec.specs.declared.datagram.Datagram.{Datagram}
use Rattle.wb_codec.specs.declared.datagram.Datagram.TheVariants.{AskPages}
use Rattle.wb_gaps.specs.Answers.{pages_of, report_of}
use Rattle.wb_gaps.specs.Holes.{hole_after}
use Rattle.wb_gaps.specs.declared.holes.Hole.{Hole}
use Rattle.wb_member.specs.Opened.{present}
use Rattle.wb_member.specs.declared.calls.Call.TheVariants.{Tick, Ask}
use Rattle.wb_policy.specs.Credit.{spent}
use Rattle.wb_policy.specs.Fairness.{in_round, name_in_turn}
use Rattle.wb_keeping.specs.Kept.{Calls, Doing, Line, Says, Transition, and_then, answers, asks_pages, came, hears, performs, reports, reports_due, reports_either, reports_rest, state_of, still, ticks, timed, turn, turn_by_clock, turn_to, turns_due, want}
use Rattle.wb_keeping.specs.Performing.{Keeping, after_doing, sees, view_of}
use Rattle.wb_policy.specs.Policy.{Policy, after_answer, after_beat, after_question, after_turn, after_wanting, in_next_round}
use Rattle.wb_keeping.specs.Views.{View, holds, is_full, level, is_known}
use Rattle.wb_policy.specs.Questions.{is_due}
use Rattle.wb_policy.specs.Reports.{newest_now, rest_after}
use Rattle.wb_policy.specs.Turns.{name_in, nowhere}
use Rattle.wb_policy.specs.Wanting.{is_wanted}
use Rattle.wb_policy.specs.declared.turns.Turns.{Turns}
use Rattle.wb_keeping.proofs.EachStep.{doing, having, having_done, with_policy}
use Rattle.wb_keeping.proofs.Performed.{then_after}
use Rattle.wb_keeping.proofs.Wanted.{lines_wanted}
use Rattle.wb_kept_progress.proofs.Lines.{AreSmall, lines_rest, IsSmall, are_small, does_rest, lines_grow}
use Rattle.wb_kept_progress.proofs.Repairs.{came_after}
use Rattle.wb_kept_progress.proofs.Leaving.{reports_leave}
use Rattle.wb_kept_progress.proofs.WholeParts.{HasTurn}
use Rattle.wb_kept_progress.proofs.AskedInCalls.{AreTold, AskFor, AskNothing, AsksFor, HasAsk, IsMore, as_it_was, asked_is, asks_as, for_nothing, hears_asks, lines_by, then_lines, IsAskOf}
use Rattle.wb_keeping.proofs.EachLine.{answers_each, each_both, states_each, timed_each, wanted_each}

-- ---- what is due

-- where what is held and the turns are the same, so is the name in turn
same_turn : (k m : Keeping) (n : NameValue) → m.host.is.held ≡ k.host.is.held → m.policy.turns ≡ k.policy.turns → name_in_turn m.host.is.held m.policy.turns ≡ Some n
    → name_in_turn k.host.is.held k.policy.turns ≡ Some n
same_turn k m n held turns named = ap (λ (h : List DrawopValue). name_in_turn h k.policy.turns) (sym held) ∙ ap (name_in_turn m.host.is.held) (sym turns) ∙ named

-- and so is what one more name makes of what is owed
same_spent : (owed now other then : ℕ) → other ≡ owed → then ≡ now → spent other then ≡ spent owed now
same_spent owed now other then e f = λ i. spent (e i) (f i)

-- it asks for the name in turn at most, and spends for that alone
record TakesTurn (k : Keeping) (lines : List Line) (m : Keeping) : Type 0 where
  asks : AskFor (λ n. name_in_turn k.host.is.held k.policy.turns ≡ Some n) lines
  owed : (m.policy.owed ≡ k.policy.owed) ⊎ (m.policy.owed ≡ spent k.policy.owed (present k.host))

turn_wants : (n : NameValue) (p : Policy) (k : Keeping) → p.owed ≡ k.policy.owed → name_in_turn k.host.is.held k.policy.turns ≡ Some n
    → TakesTurn k (want n true (sees k.host) p).lines (having_done (want n true (sees k.host) p) k)
turn_wants n p k same is = by (is_wanted (holds v n) (is_full v) true (is_known v n.source) (level v n) (length v.asked) p.owed v.now) where
  v : View
  v = view_of k.host

  wanted : Doing
  wanted = doing (after_wanting v.now p) (lines_wanted n true (sees k.host) p)

  by : (b : Bool) → TakesTurn k (cond b wanted (still (sees k.host) p)).lines (having_done (cond b wanted (still (sees k.host) p)) k)
  by true = record {
    asks = wanted_each (IsAskOf (λ m. name_in_turn k.host.is.held k.policy.turns ≡ Some m)) (λ name. tt) n is true (sees k.host) p tt tt;
    owed = inr (same_spent k.policy.owed v.now p.owed v.now same refl);
  }
  by false = record { asks = tt; owed = inl same }

turn_takes : (k : Keeping) → TakesTurn k (lines_by turn k) (after_doing turn k)
turn_takes k = by (hole_after held t.page t.source t.number) refl (hole_after held nowhere 0 0) refl where
  held : List DrawopValue
  held = k.host.is.held

  t : Turns
  t = k.policy.turns

  named : (next first : Option Hole) → hole_after held t.page t.source t.number ≡ next → hole_after held nowhere 0 0 ≡ first
      → name_in_turn held t ≡ option_map (name_in (in_round next t)) (option_or next first)
  named next first e f = ap (λ (o : Option Hole). option_map (name_in (in_round o t)) (option_or o (hole_after held nowhere 0 0))) e
      ∙ ap (λ (o : Option Hole). option_map (name_in (in_round next t)) (option_or next o)) f

  by : (next : Option Hole) → hole_after held t.page t.source t.number ≡ next → (first : Option Hole) → hole_after held nowhere 0 0 ≡ first
      → TakesTurn k (turn_to next first (sees k.host) k.policy).lines (having_done (turn_to next first (sees k.host) k.policy) k)
  by (Some h) e first f = turn_wants (name_in k.policy.turns h) (after_turn h k.policy) k refl (named (Some h) first e f)
  by None e (Some h) f = turn_wants (name_in (in_next_round k.policy).turns h) (after_turn h (in_next_round k.policy)) k refl (named None (Some h) e f)
  by None e None f = record { asks = tt; owed = inl refl }

-- answers, questions and a report ask for nothing
record IsPlain (k : Keeping) (lines : List Line) (m : Keeping) : Type 0 where
  held : m.host.is.held ≡ k.host.is.held
  now : present m.host ≡ present k.host
  turns : m.policy.turns ≡ k.policy.turns
  owed : m.policy.owed ≡ k.policy.owed
  asks : AskNothing lines

answers_plain : (k : Keeping) → IsPlain k (lines_by answers k) (after_doing answers k) × ((after_doing answers k).policy.pace.due ≡ k.policy.pace.due)
answers_plain k = by (is_due v.now k.policy.questions.answer) (answers_each IsSmall are_small (sees k.host) k.policy) where
  v : View
  v = view_of k.host

  some : Doing
  some = doing (after_answer v.now (length (take 64 (pages_of v.held))) k.policy) (map (λ page. Says (state_of v page)) (take 64 (pages_of v.held)))

  none : Doing
  none = still (sees k.host) k.policy

  by : (b : Bool) → AreSmall (cond b some none).lines
      → IsPlain k (cond b some none).lines (having_done (cond b some none) k) × ((having_done (cond b some none) k).policy.pace.due ≡ k.policy.pace.due)
  by true small = let r = lines_rest some.lines k.host small in
      (record { held = r.held; now = r.now; turns = refl; owed = refl; asks = states_each (IsAskOf (λ n. ⊥)) v (λ page. tt) (take 64 (pages_of v.held)) }, refl)
  by false small = (record { held = refl; now = refl; turns = refl; owed = refl; asks = tt }, refl)

questions_plain : (k : Keeping)
    → IsPlain k (lines_by asks_pages k) (after_doing asks_pages k) × ((after_doing asks_pages k).policy.pace.due ≡ k.policy.pace.due)
questions_plain k = by (is_due v.now k.policy.questions.ask) where
  v : View
  v = view_of k.host

  some : Doing
  some = doing (after_question v.now k.policy) (Says (AskPages v.me) ∷ [])

  none : Doing
  none = still (sees k.host) k.policy

  by : (b : Bool)
      → IsPlain k (cond b some none).lines (having_done (cond b some none) k) × ((having_done (cond b some none) k).policy.pace.due ≡ k.policy.pace.due)
  by true = (record { held = refl; now = refl; turns = refl; owed = refl; asks = (tt, tt) }, refl)
  by false = (record { held = refl; now = refl; turns = refl; owed = refl; asks = tt }, refl)

rest_plain : (marks : List MarkValue) (k : Keeping) → IsPlain k (lines_by (reports_rest marks) k) (after_doing (reports_rest marks) k)
rest_plain [] k = record { held = refl; now = refl; turns = refl; owed = refl; asks = (tt, tt) }
rest_plain (m ∷ marks) k = record { held = refl; now = refl; turns = refl; owed = refl; asks = (tt, tt) }

either_plain : (name : Option NameValue) (k : Keeping) → IsPlain k (lines_by (reports_either name) k) (after_doing (reports_either name) k)
either_plain None k = rest_plain (rest_after k.policy.told.until k.policy.told.last (report_of k.host.is.held k.policy.told.page)) k
either_plain (Some name) k = record { held = refl; now = refl; turns = refl; owed = refl; asks = (tt, tt) }

report_plain : (k : Keeping)
    → IsPlain k (lines_by reports_due k) (after_doing reports_due k) × ((after_doing reports_due k).policy.pace.due ≡ k.policy.pace.due)
report_plain k = (by (nat_le k.policy.reports.due (present k.host)), (reports_leave (sees k.host) k.policy).beat) where
  by : (b : Bool) → (let d : Doing = cond b (reports (sees k.host) k.policy) (still (sees k.host) k.policy) in IsPlain k d.lines (having_done d k))
  by true = either_plain (newest_now k.host.is.held k.policy.told) k
  by false = record { held = refl; now = refl; turns = refl; owed = refl; asks = tt }

-- What is due asks for the name in turn, once a turn is due, and spends for that alone.
record TakesDue (k : Keeping) (lines : List Line) (m : Keeping) : Type 0 where
  asks : AskFor (HasTurn k (present k.host)) lines
  owed : (m.policy.owed ≡ k.policy.owed) ⊎ ((k.policy.pace.due ≤ present k.host) × (m.policy.owed ≡ spent k.policy.owed (present k.host)))

-- from a host on that a plain step led to
due_from : (k m n : Keeping) (one other : List Line) → IsPlain k one m → m.policy.pace.due ≡ k.policy.pace.due → TakesDue m other n
    → TakesDue k (one ++ other) n
due_from k m n one other p due d = record {
  asks = each_both (IsAskOf (HasTurn k (present k.host))) one other (for_nothing (HasTurn k (present k.host)) one p.asks)
      (asks_as (HasTurn m (present m.host)) (HasTurn k (present k.host)) had other d.asks);
  owed = ⊎_elim (λ (e : n.policy.owed ≡ m.policy.owed). inl (e ∙ p.owed))
      (λ (e : (m.policy.pace.due ≤ present m.host) × (n.policy.owed ≡ spent m.policy.owed (present m.host))).
      inr (in_time e.0, e.1 ∙ same_spent k.policy.owed (present k.host) m.policy.owed (present m.host) p.owed p.now)) d.owed;
} where
  in_time : m.policy.pace.due ≤ present m.host → k.policy.pace.due ≤ present k.host
  in_time le = subst (λ (x : ℕ). x ≤ present k.host) due (subst (λ (x : ℕ). m.policy.pace.due ≤ x) p.now le)

  had : (x : NameValue) → HasTurn m (present m.host) x → HasTurn k (present k.host) x
  had x h = record { due = in_time h.due; named = same_turn k m x p.held p.turns h.named }

due_taken : (k : Keeping) → TakesDue k (lines_by turns_due k) (after_doing turns_due k)
due_taken k = by (nat_le k.policy.pace.due (present k.host)) refl where
  -- where the clock gives a turn
  m : Keeping
  m = with_policy (after_beat (present k.host) k.policy) k

  none : Doing
  none = still (sees k.host) k.policy

  turned : nat_le k.policy.pace.due (present k.host) ≡ true → TakesDue k (lines_by turn m) (after_doing turn m)
  turned e =
      let t = turn_takes m in
      let due = leb-true _ _ e in
      let had : (x : NameValue) → name_in_turn m.host.is.held m.policy.turns ≡ Some x → HasTurn k (present k.host) x = λ x named. record { due = due; named = named } in
      record {
        asks = asks_as (λ x. name_in_turn m.host.is.held m.policy.turns ≡ Some x) (HasTurn k (present k.host)) had (lines_by turn m) t.asks;
        owed = ⊎_elim (λ (same : (after_doing turn m).policy.owed ≡ m.policy.owed). inl same)
            (λ (more : (after_doing turn m).policy.owed ≡ spent m.policy.owed (present m.host)). inr (due, more)) t.owed;
      }

  by : (b : Bool) → nat_le k.policy.pace.due (present k.host) ≡ b → TakesDue k (cond b (turn_by_clock (sees k.host) k.policy) none).lines (having_done (cond b (turn_by_clock (sees k.host) k.policy) none) k)
  by true e = turned e
  by false e = record { asks = tt; owed = inl refl }

then_due : (first second : Transition) (k : Keeping) → IsPlain k (lines_by first k) (after_doing first k)
    → (after_doing first k).policy.pace.due ≡ k.policy.pace.due
    → TakesDue (after_doing first k) (lines_by second (after_doing first k)) (after_doing second (after_doing first k))
    → TakesDue k (lines_by (and_then first second) k) (after_doing (and_then first second) k)
then_due first second k plain due d =
    let m = after_doing first k in
    subst (λ (n : Keeping). TakesDue k (lines_by (and_then first second) k) n) (sym (then_after first second k))
    (subst (λ (lines : List Line). TakesDue k lines (after_doing second m)) (sym (then_lines first second k))
    (due_from k m (after_doing second m) (lines_by first k) (lines_by second m) plain due d))

timed_taken : (k : Keeping) → TakesDue k (lines_by timed k) (after_doing timed k)
timed_taken k =
    let a = answers_plain k in
    let m = after_doing answers k in
    let q = questions_plain m in
    let n = after_doing asks_pages m in
    let r = report_plain n in
    then_due answers (and_then asks_pages two) k a.0 a.1
    (then_due asks_pages two m q.0 q.1 (then_due reports_due turns_due n r.0 r.1 (due_taken (after_doing reports_due n)))) where
      two : Transition
      two = and_then reports_due turns_due

-- ---- a call

-- What is held stays. From one moment on it asks for what reports tell, and for the name in turn, once a turn is due; it spends for that alone.
pub record IsCourse (P : NameValue → Type 0) (k : Keeping) (now : ℕ) (lines : List Line) (m : Keeping) : Type 0 where
  pub held : m.host.is.held ≡ k.host.is.held
  pub asks : AskFor (λ n. P n ⊎ HasTurn k now n) lines
  pub owed : ((n : NameValue) × Contains lines (Calls (Ask n)) × P n) ⊎ ((m.policy.owed ≡ k.policy.owed) ⊎ ((k.policy.pace.due ≤ now) × (m.policy.owed ≡ spent k.policy.owed now)))

module _ (P : NameValue → Type 0) (k : Keeping) (now : ℕ) where
  abbrev m : Keeping
  m = having (Calls (Tick now)) k

  abbrev Q : NameValue → Type 0
  Q n = P n ⊎ HasTurn k now n

  course_behind : (x : Keeping) (lines : List Line) → AsksFor P m lines x → IsCourse P k now (Calls (Tick now) ∷ (lines ++ lines_by timed x)) (after_doing timed x)
  course_behind x lines a =
      let s = a.stays in
      let t = timed_taken x in
      record {
        held = (does_rest timed (timed_each IsSmall are_small) x).held ∙ s.held;
        asks = (
          tt,
          each_both (IsAskOf Q) lines (lines_by timed x) (asks_as P Q (λ n is. inl is) lines a.asks)
              (asks_as (HasTurn x (present x.host)) Q (λ n h. inr (had n h)) (lines_by timed x) t.asks),
        );
        owed = ⊎_elim
            (λ (h : HasAsk lines).
            inl (h.0, Contains-there (Calls (Tick now)) (Calls (Ask h.0)) (lines ++ lines_by timed x) (Contains-append_left lines (lines_by timed x) (Calls (Ask h.0)) h.1), asked_is P lines h.0 a.asks h.1))
            (λ (e : x.policy.owed ≡ k.policy.owed). ⊎_elim
            (λ (f : (after_doing timed x).policy.owed ≡ x.policy.owed). inr (inl (f ∙ e)))
            (λ (f : (x.policy.pace.due ≤ present x.host) × ((after_doing timed x).policy.owed ≡ spent x.policy.owed (present x.host))).
            inr (inr (in_time f.0, f.1 ∙ same_spent k.policy.owed now x.policy.owed (present x.host) e s.now)))
            t.owed)
            a.owed;
      } where
        in_time : x.policy.pace.due ≤ present x.host → k.policy.pace.due ≤ now
        in_time le = subst (λ (t : ℕ). t ≤ now) a.stays.due (subst (λ (t : ℕ). x.policy.pace.due ≤ t) a.stays.now le)

        had : (n : NameValue) → HasTurn x (present x.host) n → HasTurn k now n
        had n h = record { due = in_time h.due; named = same_turn k x n a.stays.held a.stays.turns h.named }

  -- a tick
  pub ticked_course : IsCourse P k now (lines_by (ticks now) k) (after_doing (ticks now) k)
  ticked_course =
      subst (λ (n : Keeping). IsCourse P k now (lines_by (ticks now) k) n) (sym (then_after (performs (Calls (Tick now))) timed k))
      (course_behind m [] (record { stays = as_it_was m; asks = tt; owed = inr refl }))

  -- a datagram: what is held grows, or it is such a course
  pub came_course : (v : Datagram) → AreTold P k.host.is.number v
      → IsMore k (after_doing (came now v) k) ⊎ IsCourse P k now (lines_by (came now v) k) (after_doing (came now v) k)
  came_course v told =
      let x = after_doing (hears v) m in
      let behind = sym (came_after now v k) in
      ⊎_elim
      (λ (more : IsMore m x).
      let le = (lines_grow (lines_by timed x) x.host).longer in
      inl (subst (λ (n : Keeping). IsMore k n) behind (omega (arith, more, le))))
      (λ (a : AsksFor P m (lines_by (hears v) m) x).
      inr (subst (λ (n : Keeping). IsCourse P k now (lines_by (came now v) k) n) behind
      (subst (λ (lines : List Line). IsCourse P k now (Calls (Tick now) ∷ lines) (after_doing timed x)) (sym (then_lines (hears v) timed m))
      (course_behind x (lines_by (hears v) m) a))))
      (hears_asks P v m told)
