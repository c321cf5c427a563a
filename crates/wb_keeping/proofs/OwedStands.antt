-- The board is full, or no more is owed than stands asked, after each step of a policy.
use Rattle.std.proofs.Common.{◌≡◌, ℕ, ◌+◌, ◌-◌, ◌*◌, ◌≤◌, ◌<◌, Bool, true, false, cond, List, [], ◌∷◌, ◌++◌, ◌∙◌, Option, Some, None, ap, arith, inl, inr, is_some, length, length-append, max, refl, subst, sym, true≢false, ⊎_elim}
use Rattle.std.specs.Prelude.{◌⊎◌, ◌&&◌, ◌||◌, nat_eq, nat_le, not, take}
use Rattle.std.specs.List.{fold}
use Rattle.std.proofs.lemmas.Bool.{and_parts, false_from_ne_true, le-leb, leb-true, or_cases}
use Rattle.wb_names.specs.Arrivals.{Outcome, New, Again, Clash, Left, history_with, outcome_of}
use Rattle.wb_names.specs.Orders.{same_name}
use Rattle.wb_names.specs.Values.{DrawopValue, NameValue}
use Rattle.wb_names.proofs.Orders.{same_name-is}
use Rattle.wb_codec.specs.declared.datagram.Datagram.{Datagram}
use Rattle.wb_codec.specs.declared.datagram.Datagram.TheVariants.{Draw}
use Rattle.wb_gaps.specs.Answers.{pages_of, report_of}
use Rattle.wb_recovery.specs.Events.{timers_of}
use Rattle.wb_recovery.specs.Laws.{arrives, notices, since}
use Rattle.wb_recovery.specs.Stopping.{receipts}
use Rattle.wb_recovery.specs.declared.limits.TheConstants.{UNKNOWN_DELAY}
use Rattle.wb_recovery.specs.declared.tuning.Tuning.{Tuning}
use Rattle.wb_keeper.specs.Hearing.{asks_for_held}
use Rattle.wb_keeper.specs.Keeper.{delay_to, given_up, holds, received_of}
use Rattle.wb_member.specs.Board.{Held}
use Rattle.wb_member.specs.Members.{Misses}
use Rattle.wb_member.specs.Opened.{Opened, doing as doing_act, events, has_room_for, heard, may_ask, opened_with, present, word_at}
use Rattle.wb_member.specs.Random.{word_of}
use Rattle.wb_member.specs.declared.calls.Call.{Call}
use Rattle.wb_member.specs.declared.calls.Call.TheVariants.{Tick, Hear, SetDelay, Tune, Ask, Stop}
use Rattle.wb_member.proofs.KeptBoards.{calls_keep_boards}
use Rattle.wb_policy.specs.Policy.{Policy, after_answer, after_beat, after_came, after_drawing, after_echo, after_question, after_state, after_taking_up, after_wanting}
use Rattle.wb_policy.specs.Reports.{slice_after}
use Rattle.wb_policy.specs.Wanting.{gives_way, giving_way, goes_on, is_old, older, oldest, way_of}
use Rattle.wb_policy.specs.declared.wanting.AskedName.{AskedName}
use Rattle.wb_policy.proofs.Spending.{has_place}
use Rattle.wb_keeping.specs.Bounds.{FewAreNotRefused, NoMoreIsOwed, OwedStands, is_ask, new_keeping, timer_count}
use Rattle.wb_keeping.specs.Fairness.{AnswersWhatIsHeld, is_answering}
use Rattle.wb_keeping.specs.Kept.{Arrives, Calls, Doing, Line, Says, covers, reports_page, room_lines, still, stops_one, ticks_at, want, lending}
use Rattle.wb_keeping.specs.Laws.{AreTaken, KeptLine, after_kept}
use Rattle.wb_keeping.specs.Performing.{Keeping, after_doing, after_line, after_lines, sees, view_of}
use Rattle.wb_keeping.specs.Views.{View, is_asked, is_full, is_known, level}
use Rattle.wb_keeping.proofs.AskedTimers.{count_seen, level_seen}
use Rattle.wb_keeping.proofs.EachLine.{Each, each_both, lent_each, room_each}
use Rattle.wb_keeping.proofs.EachStep.{HoldsOfSteps, PaysNothing, all_hold, doing, having, having_done, with_policy}
use Rattle.wb_keeping.proofs.FewTimers.{oldest_stands}
use Rattle.wb_keeping.proofs.LittleSaid.{present_asks, present_heard}
use Rattle.wb_keeping.proofs.Performed.{after_both}
use Rattle.wb_keeping.proofs.Saying.{says, says_after}
use Rattle.wb_keeping.proofs.StandingTimers.{IsMissed, Stands, asked_or, come, is_some_level, keeps, missed_from, missed_to, no_more_stand, one_less, one_less_stands, one_more_stands, stands_asked}
use Rattle.wb_keeping.proofs.StayStanding.{still_missed, ticked_stands}
use Rattle.wb_keeping.proofs.Wanted.{is_wanted_here, parts_wanted}
use Rattle.wb_keeping.proofs.WantedNames.{IsSetting, asks_stand, lines_answer_held, only_held_is_answered, room_clears, settings_hold, wanted_is_asked}

-- ---- a full board

abbrev IsFull : Opened → Type 0
IsFull host = is_full (view_of host) ≡ true

full_with : (cells : ℕ) (held : List DrawopValue) (d : DrawopValue) (o : Outcome) → nat_le cells (length held) ≡ true → nat_le cells (length (history_with held d o)) ≡ true
full_with cells held d (New i) full =
    let le = leb-true cells (length held) full in
    let n = length-append held (d ∷ []) in
    le-leb cells (length (held ++ d ∷ [])) (omega (arith, le, n))
full_with cells held d (Again i) full = full
full_with cells held d (Clash i) full = full
full_with cells held d Left full = full

full_arrival : (d : DrawopValue) (host : Opened) → IsFull host → IsFull (after_line (Arrives d) host)
full_arrival d host full = full_with host.is.cells host.is.held d (outcome_of host.is.cells host.is.held d) full

full_call : (call : Call) (host : Opened) → IsFull host → IsFull (after_line (Calls call) host)
full_call call host full = ap (λ (b : Held). nat_le b.cells (length b.drawops)) (calls_keep_boards call host).board ∙ full

-- ---- what is held is not asked for

abbrev AreLacked : Opened → Type 0
AreLacked host = (n : NameValue) → Stands host n → holds host.is.held n ≡ false

came_new : (held : List DrawopValue) (d : DrawopValue) (n : NameValue) → holds held n ≡ false → holds (held ++ d ∷ []) n ≡ true → same_name d.name n ≡ true
came_new [] d n lacks e = by (same_name d.name n) e where
  by : (b : Bool) → (b || false) ≡ true → b ≡ true
  by true e = refl
  by false e = absurd (true≢false (sym e))
came_new (x ∷ held) d n lacks e = by (same_name x.name n) lacks e (came_new held d n) where
  by : (b : Bool) → (b || holds held n) ≡ false → (b || holds (held ++ d ∷ []) n) ≡ true → (holds held n ≡ false → holds (held ++ d ∷ []) n ≡ true → same_name d.name n ≡ true) → same_name d.name n ≡ true
  by true lacks e later = absurd (true≢false lacks)
  by false lacks e later = later lacks e

lacked_arrival : (d : DrawopValue) (host : Opened) → AreLacked host → AreLacked (after_line (Arrives d) host)
lacked_arrival d host lacked n stands = false_from_ne_true (holds then n) (λ h. by (outcome_of host.is.cells host.is.held d) refl h) where
  then : List DrawopValue
  then = (after_line (Arrives d) host).is.held

  lacks : holds host.is.held n ≡ false
  lacks = lacked n (keeps (Arrives d) host refl n stands)

  another : holds then d.name ≡ true → same_name d.name n ≡ false
  another h = (come n d.name (events host) (subst (λ (b : Bool). IsMissed n (receipts (present host) (events host) (received_of (delay_to host.is.number host.is.calls) (cond b (d.name ∷ []) [])))) h (missed_from (after_line (Arrives d) host) n stands))).1

  same_then : then ≡ host.is.held → holds then n ≡ true → ⊥
  same_then e h = true≢false (sym h ∙ ap (λ (held : List DrawopValue). holds held n) e ∙ lacks)

  by : (o : Outcome) → outcome_of host.is.cells host.is.held d ≡ o → holds then n ≡ true → ⊥
  by (New i) e h =
      let held : then ≡ host.is.held ++ d ∷ [] = ap (history_with host.is.held d) e in
      let same = came_new host.is.held d n lacks (ap (λ (held : List DrawopValue). holds held n) (sym held) ∙ h) in
      true≢false (sym same ∙ another (subst (λ (m : NameValue). holds then m ≡ true) (sym (same_name-is d.name n same)) h))
  by (Again i) e h = same_then (ap (history_with host.is.held d) e) h
  by (Clash i) e h = same_then (ap (history_with host.is.held d) e) h
  by Left e h = same_then (ap (history_with host.is.held d) e) h

lacked_call : (call : Call) (host : Opened) → is_ask (Calls call) ≡ false → AreLacked host → AreLacked (after_line (Calls call) host)
lacked_call call host other lacked n stands = ap (λ (b : Held). holds b.drawops n) (calls_keep_boards call host).board ∙ lacked n (keeps (Calls call) host other n stands)

lacked_ask : (name : NameValue) (host : Opened) → AreLacked host → AreLacked (after_line (Calls (Ask name)) host)
lacked_ask name host lacked = by (may_ask name host) refl where
  asking : Opened
  asking = doing_act (Misses (present host) (name ∷ []) (word_of host.random ∷ [])) 1 host

  first : (a b : Bool) → not (a || b) ≡ true → a ≡ false
  first true b e = absurd (true≢false (sym e))
  first false b e = refl

  by : (b : Bool) → may_ask name host ≡ b → AreLacked (cond b asking host)
  by true may = λ n stands. ⊎_elim
      (λ (e : name ≡ n). subst (λ (m : NameValue). holds host.is.held m ≡ false) e (first (holds host.is.held name) (is_some (timers_of host.is.constants (events host) name).ask || is_some (timers_of host.is.constants (events host) name).answer) may))
      (λ (missed : IsMissed n (events host)). lacked n (missed_to host n missed))
      (asked_or n name (events host) (missed_from asking n stands))
  by false may = lacked

-- ---- how many stand

-- a drawop that comes ends the timer of its name at most
one_ends : (d : DrawopValue) (host : Opened) (n : NameValue) → Stands host n → (d.name ≡ n) ⊎ Stands (after_line (Arrives d) host) n
one_ends d host n stands = by (same_name d.name n) refl where
  then : List DrawopValue
  then = (after_line (Arrives d) host).is.held

  missed : same_name d.name n ≡ false → (b : Bool) → IsMissed n (receipts (present host) (events host) (received_of (delay_to host.is.number host.is.calls) (cond b (d.name ∷ []) [])))
  missed other true = subst (λ (b : Bool). cond b false (since (notices n) (arrives n) (events host)) ≡ true) (sym other) (missed_from host n stands)
  missed other false = missed_from host n stands

  by : (b : Bool) → same_name d.name n ≡ b → (d.name ≡ n) ⊎ Stands (after_line (Arrives d) host) n
  by true same = inl (same_name-is d.name n same)
  by false other = inr (missed_to (after_line (Arrives d) host) n (missed other (holds then d.name)))

arrival_count : (d : DrawopValue) (host : Opened) → timer_count host ≤ timer_count (after_line (Arrives d) host) + 1
arrival_count d host = one_more_stands (after_line (Arrives d) host) host d.name (one_ends d host)

-- and none, if none stood for it
unasked_count : (d : DrawopValue) (host : Opened) → (Stands host d.name → ⊥) → timer_count host ≤ timer_count (after_line (Arrives d) host)
unasked_count d host none = no_more_stand (after_line (Arrives d) host) host (λ n stands. ⊎_elim
    (λ (e : d.name ≡ n). absurd (none (subst (Stands host) (sym e) stands)))
    (λ (then : Stands (after_line (Arrives d) host) n). then)
    (one_ends d host n stands))

tick_count : (now : ℕ) (host : Opened) → AreLacked host → timer_count host ≤ timer_count (after_line (Calls (Tick now)) host)
tick_count now host lacked = no_more_stand (after_line (Calls (Tick now)) host) host (λ n stands. ticked_stands now host n (lacked n stands) stands)

heard_count : (v : Datagram) (host : Opened) → timer_count host ≤ timer_count (after_line (Calls (Hear v)) host)
heard_count v host = by (has_room_for v host) where
  by : (b : Bool) → timer_count host ≤ timer_count (cond b (heard v host) host)
  by true = no_more_stand (heard v host) host (λ n stands. missed_to (heard v host) n (still_missed n host.is.number (present host) (delay_to host.is.number host.is.calls) v (word_at v host.random) (asks_for_held host.is.held v) (events host) (missed_from host n stands)))
  by false = omega arith

-- one that is stopped
stop_count : (name : NameValue) (host : Opened) → timer_count host ≤ timer_count (after_line (Calls (Stop name)) host) + 1
stop_count name host = one_more_stands (after_line (Calls (Stop name)) host) host name (λ n stands. by n stands (same_name name n) refl) where
  stopped : (n : NameValue) → same_name name n ≡ false → Stands host n → Stands (after_line (Calls (Stop name)) host) n
  stopped n other stands = missed_to (after_line (Calls (Stop name)) host) n (from (is_some (timers_of host.is.constants (events host) name).ask)) where
    from : (b : Bool) → IsMissed n (given_up (present host) name b (events host))
    from true = subst (λ (b : Bool). cond b false (since (notices n) (arrives n) (events host)) ≡ true) (sym other) (missed_from host n stands)
    from false = missed_from host n stands

  by : (n : NameValue) → Stands host n → (b : Bool) → same_name name n ≡ b → (name ≡ n) ⊎ Stands (after_line (Calls (Stop name)) host) n
  by n stands true same = inl (same_name-is name n same)
  by n stands false other = inr (stopped n other stands)

-- and one that is asked for and had none
ask_count_more : (name : NameValue) (host : Opened) → holds host.is.held name ≡ false → (Stands host name → ⊥) → (is_answering host name ≡ true → ⊥) → timer_count host < timer_count (after_line (Calls (Ask name)) host)
ask_count_more name host lacks unasked unanswered = one_less_stands (after_line (Calls (Ask name)) host) host name (asks_stand name host lacks unasked unanswered) (λ n stands. (
  stays n stands (may_ask name host),
  false_from_ne_true (same_name name n) (λ same. unasked (subst (Stands host) (sym (same_name-is name n same)) stands)),
)) where
  asking : Opened
  asking = doing_act (Misses (present host) (name ∷ []) (word_of host.random ∷ [])) 1 host

  second : (a b : Bool) → b ≡ true → (a || b) ≡ true
  second true b e = refl
  second false b e = e

  stays : (n : NameValue) → Stands host n → (b : Bool) → Stands (cond b asking host) n
  stays n stands true = missed_to asking n (second (same_name name n) (since (notices n) (arrives n) (events host)) (missed_from host n stands))
  stays n stands false = stands

lent_count : (source delay usual : ℕ) (name : NameValue) (host : Opened) → holds host.is.held name ≡ false → (Stands host name → ⊥) → (is_answering host name ≡ true → ⊥)
    → timer_count host < timer_count (after_lines (lending source delay usual (Calls (Ask name))) host)
lent_count source delay usual name host lacks unasked unanswered = by (nat_eq delay UNKNOWN_DELAY) where
  by : (b : Bool) → timer_count host < timer_count (after_lines (cond b (Calls (SetDelay source usual) ∷ Calls (Ask name) ∷ Calls (SetDelay source UNKNOWN_DELAY) ∷ []) (Calls (Ask name) ∷ [])) host)
  by true = ask_count_more name (after_line (Calls (SetDelay source usual)) host) lacks unasked unanswered
  by false = ask_count_more name host lacks unasked unanswered

-- ---- what is kept

-- It answers for what it holds alone, asks for nothing that it holds, and owes no more than stands.
record IsSound (k : Keeping) : Type 0 where
  answers : AnswersWhatIsHeld k.host
  lacked : AreLacked k.host
  owed : NoMoreIsOwed k

abbrev KeepsSound : Keeping → List Line → Keeping → Type 0
KeepsSound k lines m = IsSound k → IsSound m

owes : (then owed now count counts : ℕ) → owed ≤ now + count * 250000 → then ≤ owed → count ≤ counts → then ≤ now + counts * 250000
owes then owed now count counts le less more = omega (arith, le, less, more)

-- one that came or was drawn pays for two, and ends a timer
owes_less : (owed now count counts : ℕ) → owed ≤ now + count * 250000 → count ≤ counts + 1 → owed - 500000 ≤ now + counts * 250000
owes_less owed now count counts le more = omega (arith, le, more)

-- a step at which time stands and nothing is spent
steadily : (k m : Keeping) (lines : List Line) → m.host ≡ after_lines lines k.host → AreLacked m.host → (IsFull k.host → IsFull m.host) → present m.host ≡ present k.host → m.policy.owed ≤ k.policy.owed → timer_count k.host ≤ timer_count m.host
    → IsSound k → IsSound m
steadily k m lines at lacked full stands less more s = record {
  answers = subst AnswersWhatIsHeld (sym at) (λ name. lines_answer_held name lines k.host (s.answers name));
  lacked = lacked;
  owed = ⊎_elim
      (λ (e : IsFull k.host). inl (full e))
      (λ (le : k.policy.owed ≤ present k.host + timer_count k.host * 250000). inr (subst (λ (now : ℕ). m.policy.owed ≤ now + timer_count m.host * 250000) (sym stands)
      (owes m.policy.owed k.policy.owed (present k.host) (timer_count k.host) (timer_count m.host) le less more)))
      s.owed;
}

-- a drawop comes, or is drawn
comes : (d : DrawopValue) (line : Line) (k : Keeping) (p : Policy) → after_line line k.host ≡ after_line (Arrives d) k.host
    → ((k.policy.owed ≤ present k.host + timer_count k.host * 250000) → AreLacked k.host → (IsFull (after_line (Arrives d) k.host)) ⊎ (p.owed ≤ present k.host + timer_count (after_line (Arrives d) k.host) * 250000))
    → KeepsSound k (line ∷ []) (with_policy p (having line k))
comes d line k p same owed s = subst (λ (h : Opened). IsSound (record { host = h; policy = p })) (sym same) (record {
  answers = λ name. lines_answer_held name (Arrives d ∷ []) k.host (s.answers name);
  lacked = lacked_arrival d k.host s.lacked;
  owed = ⊎_elim
      (λ (e : IsFull k.host). inl (full_arrival d k.host e))
      (λ (le : k.policy.owed ≤ present k.host + timer_count k.host * 250000). owed le s.lacked)
      s.owed;
})

pays : (d : DrawopValue) (line : Line) (k : Keeping) (p : Policy) → after_line line k.host ≡ after_line (Arrives d) k.host → p.owed ≡ k.policy.owed - 500000 → KeepsSound k (line ∷ []) (with_policy p (having line k))
pays d line k p same paid = comes d line k p same (λ le lacked. inr (subst (λ (owed : ℕ). owed ≤ present k.host + timer_count (after_line (Arrives d) k.host) * 250000) (sym paid)
    (owes_less k.policy.owed (present k.host) (timer_count k.host) (timer_count (after_line (Arrives d) k.host)) le (arrival_count d k.host))))

unasked_stands : (host : Opened) (n : NameValue) → is_asked (view_of host) n ≡ false → Stands host n → ⊥
unasked_stands host n e stands = true≢false (sym (ap is_some (level_seen host n) ∙ is_some_level (timers_of host.is.constants (events host) n).ask ∙ stands) ∙ e)

pays_nothing : (d : DrawopValue) (line : Line) (k : Keeping) → after_line line k.host ≡ after_line (Arrives d) k.host → PaysNothing d k → KeepsSound k (line ∷ []) (having line k)
pays_nothing d line k same free = comes d line k k.policy same (λ le lacked. ⊎_elim
    (λ (unasked : is_asked (view_of k.host) d.name ≡ false). inr (none le (unasked_stands k.host d.name unasked)))
    (⊎_elim
    (λ (held : holds k.host.is.held d.name ≡ true). inr (none le (λ stands. true≢false (sym held ∙ lacked d.name stands))))
    (⊎_elim
    (λ (full : IsFull k.host). inl (full_arrival d k.host full))
    (λ (full : IsFull (after_line (Arrives d) k.host)). inl full)))
    free) where
      none : k.policy.owed ≤ present k.host + timer_count k.host * 250000 → (Stands k.host d.name → ⊥) → k.policy.owed ≤ present k.host + timer_count (after_line (Arrives d) k.host) * 250000
      none le unasked = owes k.policy.owed k.policy.owed (present k.host) (timer_count k.host) (timer_count (after_line (Arrives d) k.host)) le (omega arith) (unasked_count d k.host unasked)

-- ---- a name that is wanted

-- lines with which a policy asks
abbrev pub IsAsking : Line → Type 0
IsAsking (Calls (Ask name)) = Unit {0}
IsAsking (Calls (Stop name)) = Unit {0}
IsAsking (Calls (SetDelay source micros)) = Unit {0}
IsAsking line = ⊥

lacked_asking : (lines : List Line) (host : Opened) → Each IsAsking lines → AreLacked host → AreLacked (after_lines lines host)
lacked_asking [] host asking lacked = lacked
lacked_asking (Calls (Ask name) ∷ lines) host asking lacked = lacked_asking lines (after_line (Calls (Ask name)) host) asking.1 (lacked_ask name host lacked)
lacked_asking (Calls (Stop name) ∷ lines) host asking lacked = lacked_asking lines (after_line (Calls (Stop name)) host) asking.1 (lacked_call (Stop name) host refl lacked)
lacked_asking (Calls (SetDelay source micros) ∷ lines) host asking lacked = lacked_asking lines (after_line (Calls (SetDelay source micros)) host) asking.1 (lacked_call (SetDelay source micros) host refl lacked)
lacked_asking (Calls call ∷ lines) host asking lacked = absurd asking.0
lacked_asking (Arrives d ∷ lines) host asking lacked = absurd asking.0
lacked_asking (Says v ∷ lines) host asking lacked = absurd asking.0

pub present_asking : (lines : List Line) (host : Opened) → Each IsAsking lines → present (after_lines lines host) ≡ present host
present_asking [] host asking = refl
present_asking (Calls (Ask name) ∷ lines) host asking = present_asking lines (after_line (Calls (Ask name)) host) asking.1 ∙ present_asks name host
present_asking (Calls (Stop name) ∷ lines) host asking = present_asking lines (after_line (Calls (Stop name)) host) asking.1
present_asking (Calls (SetDelay source micros) ∷ lines) host asking = present_asking lines (after_line (Calls (SetDelay source micros)) host) asking.1
present_asking (Calls call ∷ lines) host asking = absurd asking.0
present_asking (Arrives d ∷ lines) host asking = absurd asking.0
present_asking (Says v ∷ lines) host asking = absurd asking.0

module _ (name : NameValue) (anew : Bool) (k : Keeping) (s : IsSound k) where
  abbrev v : View
  v = view_of k.host

  abbrev now : ℕ
  now = present k.host

  abbrev owed : ℕ
  owed = k.policy.owed

  abbrev ahead : ℕ
  ahead = max owed now - now

  abbrev covered : Bool
  covered = covers v k.policy

  abbrev first : List Line
  first = room_lines name covered v

  abbrev last : List Line
  last = lending name.source (v.delay name.source) k.policy.usual (Calls (Ask name))

  abbrev one : Opened
  one = after_lines first k.host

  -- behind these lines one timer more is enough for one name more
  abbrev HasRoom : List Line → Type 0
  HasRoom lines = ahead + 250000 ≤ (timer_count (after_lines lines k.host) + 1) * 250000

  few_covered : covered ≡ true → ahead ≤ (timer_count k.host - 1) * 250000
  few_covered e =
      let le = leb-true (max owed now - now) ((length v.asked - 1) * 250000) e in
      subst (λ (count : ℕ). ahead ≤ (count - 1) * 250000) (count_seen k.host) le

  -- a timer is stopped, where less is owed than stands
  one_stopped : (m : NameValue) → Stands k.host m → covered ≡ true → HasRoom (Calls (Stop m) ∷ [])
  one_stopped m stands e =
      let few = few_covered e in
      let lt = one_less m k.host stands in
      let le = stop_count m k.host in
      enough ahead (timer_count k.host) (timer_count (after_line (Calls (Stop m)) k.host)) few lt le where
        enough : (ahead count counts : ℕ) → ahead ≤ (count - 1) * 250000 → counts < count → count ≤ counts + 1 → ahead + 250000 ≤ (counts + 1) * 250000
        enough ahead count counts few lt le = omega (arith, few, lt, le)

  -- or 64 stood
  crowd_stopped : (m : NameValue) → ahead ≤ 63 * 250000 → 64 ≤ timer_count k.host → HasRoom (Calls (Stop m) ∷ [])
  crowd_stopped m credit many = let le = stop_count m k.host in omega (arith, credit, many, le)

  none_stopped : owed ≤ now + timer_count k.host * 250000 → HasRoom []
  none_stopped le = omega (arith, le)

  module _ (credit : ahead ≤ 63 * 250000) (le : owed ≤ now + timer_count k.host * 250000) where
    way_room : (asked : List AskedName) → v.asked ≡ asked → HasRoom (stops_one (way_of covered (length asked) (oldest asked)))
    way_room [] is = none_stopped le
    way_room (a ∷ later) is = by (gives_way covered (length (a ∷ later)) o.level) refl where
      o : AskedName
      o = fold older a later

      many : 64 ≤ length (a ∷ later) → 64 ≤ timer_count k.host
      many m = let count = sym (ap (λ (asked : List AskedName). length asked) is) ∙ count_seen k.host in omega (arith, m, count)

      by : (b : Bool) → gives_way covered (length (a ∷ later)) o.level ≡ b → HasRoom (stops_one (cond b (Some o) None))
      by false e = none_stopped le
      by true e = ⊎_elim
          (λ (m : nat_le 64 (length (a ∷ later)) ≡ true). crowd_stopped o.name credit (many (leb-true 64 (length (a ∷ later)) m)))
          (λ (old : (is_old o.level && covered) ≡ true). one_stopped o.name (oldest_stands k.host a later (sym is)) (and_parts (is_old o.level) covered old).1)
          (or_cases (nat_le 64 (length (a ∷ later))) (is_old o.level && covered) e)

    room : goes_on anew covered (level v name) ≡ false → HasRoom first
    room goes = by (level v name) refl goes where
      stood : (l : ℕ) → level v name ≡ Some l → Stands k.host name
      stood l e = stands_asked k.host name (ap is_some e)

      fresh : (anew old covered : Bool) → not (anew && (old && covered)) ≡ false → covered ≡ true
      fresh true true true e = refl
      fresh true true false e = absurd (true≢false e)
      fresh true false covered e = absurd (true≢false e)
      fresh false old covered e = absurd (true≢false e)

      by : (o : Option ℕ) → level v name ≡ o → goes_on anew covered o ≡ false → HasRoom (cond (is_some o) (Calls (Stop name) ∷ []) (stops_one (giving_way covered v.asked)))
      by (Some l) e goes = one_stopped name (stood l e) (fresh anew (is_old l) covered goes)
      by None e goes = way_room v.asked refl

  asking : Each IsAsking (first ++ last)
  asking = each_both IsAsking first last (room_each IsAsking (λ m. tt) name covered v) (lent_each IsAsking name.source (v.delay name.source) k.policy.usual (Calls (Ask name)) tt tt tt)

  lacks_then : holds k.host.is.held name ≡ false → holds one.is.held name ≡ false
  lacks_then lacks = ap (λ (h : List DrawopValue). holds h name) (settings_hold first k.host (room_each IsSetting (λ m. tt) name covered v)) ∙ lacks

  counts : holds k.host.is.held name ≡ false → timer_count one < timer_count (after_lines (first ++ last) k.host)
  counts lacks =
      let then = lacks_then lacks in
      subst (λ (h : Opened). timer_count one < timer_count h) (sym (after_both first last k.host))
      (lent_count name.source (v.delay name.source) k.policy.usual name one then (room_clears name covered k.host) (λ is. true≢false (sym (lines_answer_held name first k.host (s.answers name) is) ∙ then)))

  abbrev wanted : Doing
  wanted = doing (after_wanting now k.policy) (first ++ last)

  spends : (then count counts : ℕ) → then ≡ now → ahead + 250000 ≤ (count + 1) * 250000 → count < counts → max owed now + 250000 ≤ then + counts * 250000
  spends then count counts is room more = omega (arith, is, room, more)

  wanted_sound : is_wanted_here name anew (sees k.host) k.policy ≡ true → IsSound (having_done wanted k)
  wanted_sound e =
      let parts = parts_wanted name anew (sees k.host) k.policy e in
      let credit = leb-true ahead (63 * 250000) (has_place (anew || is_known v name.source) owed now parts.3) in
      record {
        answers = λ x. lines_answer_held x (first ++ last) k.host (s.answers x);
        lacked = lacked_asking (first ++ last) k.host asking s.lacked;
        owed = ⊎_elim
            (λ (full : IsFull k.host). absurd (true≢false (sym full ∙ parts.1)))
            (λ (le : owed ≤ now + timer_count k.host * 250000). inr (spends (present (after_lines (first ++ last) k.host)) (timer_count one) (timer_count (after_lines (first ++ last) k.host)) (present_asking (first ++ last) k.host asking) (room credit le parts.2) (counts parts.0)))
            s.owed;
      }

  wants_sound : IsSound (after_doing (want name anew) k)
  wants_sound = by (is_wanted_here name anew (sees k.host) k.policy) refl where
    by : (b : Bool) → is_wanted_here name anew (sees k.host) k.policy ≡ b → IsSound (having_done (cond b wanted (still (sees k.host) k.policy)) k)
    by true e = wanted_sound e
    by false e = s

-- ---- each step

-- what changes the policy alone, and not what it owes
same_owed : (p : Policy) (k : Keeping) → p.owed ≡ k.policy.owed → KeepsSound k [] (with_policy p k)
same_owed p k e s = record {
  answers = s.answers;
  lacked = s.lacked;
  owed = ⊎_elim (λ (full : IsFull k.host). inl full) (λ (le : k.policy.owed ≤ present k.host + timer_count k.host * 250000). inr (subst (λ (owed : ℕ). owed ≤ present k.host + timer_count k.host * 250000) (sym e) le)) s.owed;
}

ticks_sound : (now : ℕ) (k : Keeping) → present k.host ≤ now → KeepsSound k (Calls (Tick now) ∷ []) (having (Calls (Tick now)) k)
ticks_sound now k later s = record {
  answers = λ name. lines_answer_held name (Calls (Tick now) ∷ []) k.host (s.answers name);
  lacked = lacked_call (Tick now) k.host refl s.lacked;
  owed = ⊎_elim
      (λ (full : IsFull k.host). inl (full_call (Tick now) k.host full))
      (λ (le : k.policy.owed ≤ present k.host + timer_count k.host * 250000). let more = tick_count now k.host s.lacked in inr (omega (arith, le, later, more)))
      s.owed;
}

owed_steps : HoldsOfSteps KeepsSound
owed_steps = record {
  due = record {
    nothing = λ k s. s;
    both = λ k m n one other a b s. b (a s);
    wants = λ name anew k s. wants_sound name anew k s;
    turned = λ t l k. same_owed (record k.policy { turns = t; leaps = l }) k refl;
    beats = λ k due. same_owed (after_beat (present k.host) k.policy) k refl;
    answers = λ k is s. let v = view_of k.host in let pages = take 64 (pages_of k.host.is.held) in
        steadily k (having_done (doing (after_answer (present k.host) (length (take 64 (pages_of k.host.is.held))) k.policy) (says v pages)) k) (says v pages) refl (subst AreLacked (sym (says_after v pages k.host)) s.lacked) (λ full. subst IsFull (sym (says_after v pages k.host)) full) (ap present (says_after v pages k.host)) (omega arith)
        (let count = ap timer_count (says_after v pages k.host) in omega (arith, count)) s;
    asks_pages = λ k is. same_owed (after_question (present k.host) k.policy) k refl;
    reports = λ page then told k is. same_owed (reports_page page then (slice_after told (report_of k.host.is.held page)) (sees k.host) k.policy).policy k refl;
  };
  ticks = ticks_sound;
  arrives = λ d k free. pays_nothing d (Arrives d) k refl free;
  answered = λ d k lacks asked. pays d (Arrives d) k (after_came k.policy) refl refl;
  hears = λ v k s. steadily k (having (Calls (Hear v)) k) (Calls (Hear v) ∷ []) refl (lacked_call (Hear v) k.host refl s.lacked) (full_call (Hear v) k.host) (present_heard v k.host (has_room_for v k.host)) (omega arith) (heard_count v k.host) s;
  stops = λ name k full s. record {
    answers = λ n. lines_answer_held n (Calls (Stop name) ∷ []) k.host (s.answers n);
    lacked = lacked_call (Stop name) k.host refl s.lacked;
    owed = inl full;
  };
  sets = λ source micros k s. record { answers = s.answers; lacked = s.lacked; owed = s.owed };
  lends = λ source k s. record { answers = s.answers; lacked = s.lacked; owed = s.owed };
  takes_back = λ source k s. record { answers = s.answers; lacked = s.lacked; owed = s.owed };
  tunes = λ constants k within s. record { answers = λ name. lines_answer_held name (Calls (Tune constants) ∷ []) k.host (s.answers name); lacked = s.lacked; owed = s.owed };
  draws = λ d k unasked. pays_nothing d (Says (Draw d)) k refl (inl unasked);
  drawn = λ d k asked. pays d (Says (Draw d)) k (after_drawing k.policy) refl refl;
  measured = λ micros k. same_owed (after_echo micros k.policy) k refl;
  told = λ k. same_owed (after_state (present k.host) k.policy) k refl;
  takes_up = λ k is. same_owed (after_taking_up (present k.host) k.policy) k refl;
}

-- ---- from the opening on

ticks_lacked : (moments : List ℕ) (host : Opened) → AreLacked host → AreLacked (after_lines (ticks_at moments) host)
ticks_lacked [] host lacked = lacked
ticks_lacked (moment ∷ moments) host lacked = ticks_lacked moments (after_line (Calls (Tick moment)) host) (lacked_call (Tick moment) host refl lacked)

from_new : (constants : Tuning) (number cells seed : ℕ) (moments : List ℕ) (policy : Policy) (lines : List KeptLine)
    → let start = new_keeping constants number cells seed moments policy in policy.owed ≤ present start.host → AreTaken lines start → IsSound (after_kept lines start)
from_new constants number cells seed moments policy lines few taken =
    let start = new_keeping constants number cells seed moments policy in
    all_hold KeepsSound owed_steps lines start taken (record {
      answers = only_held_is_answered constants number cells seed (ticks_at moments);
      lacked = ticks_lacked moments (opened_with constants number cells seed) (λ n stands. refl);
      owed = inr (omega (arith, few));
    })

pub owed_stands : OwedStands
owed_stands constants number cells seed moments policy lines few taken = (from_new constants number cells seed moments policy lines few taken).owed

pub few_are_not_refused : FewAreNotRefused
few_are_not_refused constants number cells seed moments policy lines name few taken lt lacks room =
    let k = after_kept lines (new_keeping constants number cells seed moments policy) in
    let s = from_new constants number cells seed moments policy lines few taken in
    wanted_is_asked name true k s.answers lacks room (⊎_elim
    (λ (full : IsFull k.host). absurd (true≢false (sym full ∙ room)))
    (λ (le : k.policy.owed ≤ present k.host + timer_count k.host * 250000). le-leb (max k.policy.owed (present k.host) - present k.host) (63 * 250000) (few_owed k.policy.owed (present k.host) (timer_count k.host) le lt))
    s.owed) where
      few_owed : (owed now count : ℕ) → owed ≤ now + count * 250000 → count < 64 → max owed now - now ≤ 63 * 250000
      few_owed owed now count le lt = omega (arith, le, lt)
