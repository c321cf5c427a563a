-- A number below a top has its turn, and is asked for.
use Rattle.std.proofs.Common.{◌≡◌, ℕ, zero, suc, ◌+◌, ◌*◌, ◌<◌, ◌≤◌, Bool, true, false, cond, List, [], ◌∷◌, ◌++◌, ◌∙◌, Option, Some, None, ap, arith, append_assoc, eqb-true, inl, inr, length, map, refl, subst, sym, true≢false, ⊎_elim}
use Rattle.std.specs.Prelude.{◌⊎◌, ◌&&◌, Contains, max, nat_eq, nat_le, not}
use Rattle.std.specs.List.{flat_map}
use Rattle.std.proofs.lemmas.Bool.{leb-true, false_from_ne_true}
use Rattle.std.proofs.lemmas.List.Elements.{Contains-append_cases, Contains-append_left, Contains-append_right}
use Rattle.wb_names.specs.History.{IsHeld, highest, name_of}
use Rattle.wb_names.specs.Values.{DrawopValue, MarkValue, NameValue}
use Rattle.wb_names.specs.declared.gap.Gap.{Gap}
use Rattle.wb_names.specs.declared.name.PageId.{PageId}
use Rattle.wb_names.proofs.Listings.{Contains-cases, Contains-here, Contains-none, Contains-there}
use Rattle.wb_codec.specs.declared.datagram.Datagram.{Datagram}
use Rattle.wb_codec.specs.declared.datagram.Datagram.TheVariants.{Session}
use Rattle.wb_gaps.specs.Answers.{gaps_of, pages_of, report_of}
use Rattle.wb_gaps.specs.Gaps.{IsMissing}
use Rattle.wb_gaps.specs.Holes.{hole_on, holes_of, holes_on}
use Rattle.wb_gaps.specs.declared.holes.Hole.{Hole}
use Rattle.wb_gaps.proofs.MissingRanges.{gaps_of_page}
use Rattle.wb_gaps.proofs.PageAnswers.{pages_of_history}
use Rattle.wb_gaps.proofs.Reports.{greatest_held}
use Rattle.wb_keeper.specs.Keeper.{holds}
use Rattle.wb_keeper.proofs.KeptCalls.{holds_not}
use Rattle.wb_member.specs.Judged.{is_full}
use Rattle.wb_member.specs.Opened.{Opened, asks_for, opened_with, present}
use Rattle.wb_member.specs.declared.calls.Call.TheVariants.{Tick}
use Rattle.wb_policy.specs.Fairness.{after_reporting, after_reports, after_turn, after_turns, left_to_tell, marks_in_turn, marks_reported, name_in_turn, page_reported, where_left, where_newest}
use Rattle.wb_policy.specs.declared.reports.Told.{Told}
use Rattle.wb_keeping.specs.Fairness.{AnswersWhatIsHeld}
use Rattle.wb_keeping.specs.Kept.{Calls, performs, ticks, ticks_at, timed}
use Rattle.wb_keeping.specs.Laws.{Added, Came, KeptLine, Ticked, Tuned, doing_of}
use Rattle.wb_keeping.specs.Performing.{Keeping, after_doing, sees, sent_by_doing}
use Rattle.wb_policy.specs.Reports.{from_source, is_telling, is_untold, newest_now, page_after, slice_after, slice_with}
use Rattle.wb_policy.specs.Choices.{last_source}
use Rattle.wb_policy.specs.Turns.{windows_in}
use Rattle.wb_policy.specs.declared.turns.Turns.{Turns}
use Rattle.wb_keeping.specs.Refusing.{is_unknown}
use Rattle.wb_keeping.proofs.EachStep.{having}
use Rattle.wb_policy.proofs.FairTurns.{a_number_has_its_turn, each_number_has_its_turn, each_number_has_its_turn_soon}
use Rattle.wb_policy.proofs.Latest.{slices_are_short}
use Rattle.wb_keeping.proofs.Performed.{then_after}
use Rattle.wb_keeping.proofs.WantedNames.{lines_answer_held}
use Rattle.wb_kept_progress.specs.Repairs.{AreTicks, ComesToAsk, ComesToTell, IsBrought, IsLost, MissingCanCome, MissingIsAsked, MissingIsAskedInTurn, MissingIsAskedSoon, host_at, ready_at, repair}
use Rattle.wb_kept_progress.specs.Sessions.{AreHosts, AreSent, AreTaken, At, Opening, WasSent, at, kept_at, sent_since}
use Rattle.wb_kept_progress.proofs.Lines.{IsOf, lines_of}
use Rattle.wb_kept_progress.proofs.Repairs.{asked_can_come, did_send, is_itself, places_differ, tick_in_time, tick_rests}
use Rattle.wb_kept_progress.proofs.Leaving.{answers_on, told_of}
use Rattle.wb_kept_progress.proofs.InTurn.{IsReporting, IsTurning, call_is_now, due_asks, due_owed, is_reporting, is_turning}
use Rattle.wb_kept_progress.proofs.StillCalls.{ticked_call}
use Rattle.wb_kept_progress.proofs.WantedIn.{MayBeWanted}

-- ---- one who answers for what it holds alone

pub answers_at : (hosts : ℕ → Opening) (lines : List (At KeptLine)) (i : ℕ) → AnswersWhatIsHeld (host_at hosts lines i)
answers_at hosts [] i = λ name. lines_answer_held name (ticks_at (hosts i).moments) (opened_with (hosts i).constants (hosts i).number (hosts i).cells (hosts i).seed) (λ e. absurd (true≢false (sym e)))
answers_at hosts (e ∷ older) i = by (answers_at hosts older i) (nat_eq e.place i) where
  k : Keeping
  k = kept_at hosts older i

  by : AnswersWhatIsHeld k.host → (b : Bool) → AnswersWhatIsHeld (cond b (after_doing (doing_of e.event) k) k).host
  by rest true = answers_on (doing_of e.event) k rest
  by rest false = rest

-- ---- one tick

-- by a tick at which a report and a turn are due, and all names are paid for
module _ (k : Keeping) (now : ℕ) (late : k.policy.reports.due ≤ now) (turn : k.policy.pace.due ≤ now) (paid : k.policy.owed ≤ now) where
  abbrev m : Keeping
  m = having (Calls (Tick now)) k

  there : after_doing (ticks now) k ≡ after_doing timed m
  there = then_after (performs (Calls (Tick now))) timed k

  -- it may do so again 96 seconds later at most
  tick_soon : AnswersWhatIsHeld k.host → ready_at (after_doing (ticks now) k) ≤ now + 96000000
  tick_soon answers_held =
      let call = ticked_call now k answers_held in
      let r = is_reporting (ticks now) k now call late in
      let t = is_turning (ticks now) k now call turn in
      let most = r.most in
      let next = t.most in
      let at_now = call_is_now (ticks now) k now call in
      let e = ap (λ (x : Keeping). x.policy.owed) there in
      let le = due_owed m turn paid in
      later (present (after_doing (ticks now) k).host) (after_doing (ticks now) k).policy.reports.due (after_doing (ticks now) k).policy.pace.due (after_doing (ticks now) k).policy.owed now at_now most next (omega (arith, e, le)) where
        later : (a b c d now : ℕ) → a ≡ now → b ≤ now + 96000000 → c ≤ now + 16000000 → d ≤ now + 250000 → max a (max (max b c) d) ≤ now + 96000000
        later a b c d now e f g h = omega (arith, e, f, g, h)

  tick_asks : (n : NameValue) → AnswersWhatIsHeld k.host → holds k.host.is.held n ≡ false → is_full k.host ≡ false → name_in_turn k.host.is.held k.policy.turns ≡ Some n
      → asks_for n (after_doing (ticks now) k).host ≡ true
  tick_asks n answers_held lacks room in_turn =
      let may : MayBeWanted m n = record { answers_held = answers_on (performs (Calls (Tick now))) k answers_held; lacks = lacks; room = room } in
      ap (λ (x : Keeping). asks_for n x.host) there ∙ due_asks m turn paid n may in_turn

-- a report has few marks, in turn and else
few_in_turn : (held : List DrawopValue) (t : Told) → length (marks_in_turn held t) ≤ 64
few_in_turn held t = by (left_to_tell held t) (slices_are_short None (report_of held (page_after t.page (pages_of held)))) (short (is_telling t.until t.last)) where
  short : (b : Bool) → length (cond b (slice_after t.last (report_of held t.page)) []) ≤ 64
  short true = slices_are_short t.last (report_of held t.page)
  short false = omega arith

  other : List MarkValue
  other = slice_after None (report_of held (page_after t.page (pages_of held)))

  by : (marks : List MarkValue) → length other ≤ 64 → length marks ≤ 64 → length (where_left marks other marks) ≤ 64
  by [] a b = a
  by (m ∷ marks) a b = b

few_reported : (held : List DrawopValue) (t : Told) → length (marks_reported held t) ≤ 64
few_reported held t = by (newest_now held t) where
  by : (name : Option NameValue) → length (where_newest name (marks_in_turn held t) (λ name. slice_with name.source (report_of held name.page))) ≤ 64
  by None = few_in_turn held t
  by (Some name) =
      let marks = report_of held name.page in
      slices_are_short (cond (is_untold (last_source None (slice_after None marks)) name.source) (from_source name.source) None) marks

-- ---- ticks, one after the other

module _ (hosts : ℕ → Opening) (older : List (At KeptLine)) (i : ℕ) where
  abbrev pub some_ticks : ℕ → List (At KeptLine)
  some_ticks zero = []
  some_ticks (suc count) = at i (Ticked (ready_at (kept_at hosts (some_ticks count ++ older) i))) ∷ some_ticks count

  abbrev pub behind : ℕ → Keeping
  behind count = kept_at hosts (some_ticks count ++ older) i

  pub behind_next : (count : ℕ) → behind (suc count) ≡ after_doing (ticks (ready_at (behind count))) (behind count)
  behind_next count = ap (λ (b : Bool). cond b (after_doing (ticks (ready_at (behind count))) (behind count)) (behind count)) (is_itself i)

  pub are_ticks : (count : ℕ) → AreTicks i (some_ticks count)
  are_ticks zero = tt
  are_ticks (suc count) = ((refl, ready_at (behind count), refl), are_ticks count)

  first_of_four : (a b c d : ℕ) → a ≤ max a (max (max b c) d)
  first_of_four a b c d = omega arith

  second_of_four : (a b c d : ℕ) → b ≤ max a (max (max b c) d)
  second_of_four a b c d = omega arith

  third_of_four : (a b c d : ℕ) → c ≤ max a (max (max b c) d)
  third_of_four a b c d = omega arith

  fourth_of_four : (a b c d : ℕ) → d ≤ max a (max (max b c) d)
  fourth_of_four a b c d = omega arith

  pub due_for : (k : Keeping) → k.policy.reports.due ≤ ready_at k
  due_for k = second_of_four (present k.host) k.policy.reports.due k.policy.pace.due k.policy.owed

  pub turn_for : (k : Keeping) → k.policy.pace.due ≤ ready_at k
  turn_for k = third_of_four (present k.host) k.policy.reports.due k.policy.pace.due k.policy.owed

  pub paid_for : (k : Keeping) → k.policy.owed ≤ ready_at k
  paid_for k = fourth_of_four (present k.host) k.policy.reports.due k.policy.pace.due k.policy.owed

  -- each of them reports, and a name has its turn
  reporting : (count : ℕ) → IsReporting (ticks (ready_at (behind count))) (behind count) (ready_at (behind count))
  reporting count =
      let k = behind count in
      is_reporting (ticks (ready_at k)) k (ready_at k) (ticked_call (ready_at k) k (answers_at hosts (some_ticks count ++ older) i)) (due_for k)

  turning : (count : ℕ) → IsTurning (ticks (ready_at (behind count))) (behind count) (ready_at (behind count))
  turning count =
      let k = behind count in
      is_turning (ticks (ready_at k)) k (ready_at k) (ticked_call (ready_at k) k (answers_at hosts (some_ticks count ++ older) i)) (turn_for k)

  now_behind : (count : ℕ) → present (after_doing (ticks (ready_at (behind count))) (behind count)).host ≡ ready_at (behind count)
  now_behind count =
      let k = behind count in
      call_is_now (ticks (ready_at k)) k (ready_at k) (ticked_call (ready_at k) k (answers_at hosts (some_ticks count ++ older) i))

  pub ticks_taken : (count : ℕ) → AreTaken hosts older → AreTaken hosts (some_ticks count ++ older)
  ticks_taken zero taken = taken
  ticks_taken (suc count) taken =
      let k = behind count in
      (tick_in_time k (ready_at k) (first_of_four (present k.host) k.policy.reports.due k.policy.pace.due k.policy.owed), ticks_taken count taken)

  -- nothing comes by them
  pub ticks_sent : (count : ℕ) → AreSent hosts (some_ticks count) older
  ticks_sent zero = tt
  ticks_sent (suc count) = (tt, ticks_sent count)

  pub others_stay : (count j : ℕ) → (i ≡ j → ⊥) → kept_at hosts (some_ticks count ++ older) j ≡ kept_at hosts older j
  others_stay zero j differ = refl
  others_stay (suc count) j differ =
      ap (λ (b : Bool). cond b (after_doing (ticks (ready_at (behind count))) (kept_at hosts (some_ticks count ++ older) j)) (kept_at hosts (some_ticks count ++ older) j)) (false_from_ne_true (nat_eq i j) (λ e. differ (eqb-true i j e)))
      ∙ others_stay count j differ

  pub ticks_hold : (count : ℕ) → (behind count).host.is.held ≡ (host_at hosts older i).is.held
  ticks_hold zero = refl
  ticks_hold (suc count) =
      let k = behind count in
      ap (λ (x : Keeping). x.host.is.held) (behind_next count) ∙ (tick_rests (ready_at k) k).held ∙ ticks_hold count

  pub ticks_of : (count : ℕ) → IsOf (host_at hosts older i) (behind count).host
  ticks_of zero = record { number = refl; cells = refl; constants = refl }
  ticks_of (suc count) =
      let k = behind count in
      let one = lines_of (ticks (ready_at k) (sees k.host) k.policy).lines k.host in
      let rest = ticks_of count in
      subst (λ (x : Keeping). IsOf (host_at hosts older i) x.host) (sym (behind_next count)) (record { number = one.number ∙ rest.number; cells = one.cells ∙ rest.cells; constants = one.constants ∙ rest.constants })

  ticks_turn : (count : ℕ) → (behind count).policy.turns ≡ after_turns (host_at hosts older i).is.held count (kept_at hosts older i).policy.turns
  ticks_turn zero = refl
  ticks_turn (suc count) =
      let k = behind count in
      ap (λ (x : Keeping). x.policy.turns) (behind_next count) ∙ (turning count).turns
      ∙ ap (λ (h : List DrawopValue). after_turn h k.policy.turns) (ticks_hold count) ∙ ap (after_turn (host_at hosts older i).is.held) (ticks_turn count)

  ticks_tell : (count : ℕ) → told_of (behind count).policy ≡ after_reports (host_at hosts older i).is.held count (told_of (kept_at hosts older i).policy)
  ticks_tell zero = refl
  ticks_tell (suc count) =
      let k = behind count in
      ap (λ (x : Keeping). told_of x.policy) (behind_next count) ∙ (reporting count).told
      ∙ ap (λ (h : List DrawopValue). after_reporting h (told_of k.policy)) (ticks_hold count) ∙ ap (after_reporting (host_at hosts older i).is.held) (ticks_tell count)

  length_is : (count : ℕ) → length (some_ticks count) ≡ count
  length_is zero = refl
  length_is (suc count) = ap suc (length_is count)

  -- the next tick comes 96 seconds later at most
  ready_soon : (count : ℕ) → ready_at (behind count) ≤ ready_at (kept_at hosts older i) + count * 96000000
  ready_soon zero = omega arith
  ready_soon (suc count) =
      let k = behind count in
      let rest = ready_soon count in
      let one = tick_soon k (ready_at k) (due_for k) (turn_for k) (paid_for k) (answers_at hosts (some_ticks count ++ older) i) in
      let e = ap ready_at (behind_next count) in
      next (ready_at (behind (suc count))) (ready_at (after_doing (ticks (ready_at k)) k)) (ready_at k) (ready_at (kept_at hosts older i)) count e one rest where
        next : (a b c start count : ℕ) → a ≡ b → b ≤ c + 96000000 → c ≤ start + count * 96000000 → a ≤ start + suc count * 96000000
        next a b c start count e f g = omega (arith, e, f, g)

  pub ticks_soon : (count : ℕ) → present (behind (suc count)).host + 96000000 ≤ ready_at (kept_at hosts older i) + length (some_ticks (suc count)) * 96000000
  ticks_soon count =
      let k = behind count in
      let rest = ready_soon count in
      let now = ap (λ (x : Keeping). present x.host) (behind_next count) ∙ now_behind count in
      let many = length_is count in
      fits (present (behind (suc count)).host) (ready_at k) (ready_at (kept_at hosts older i)) (length (some_ticks count)) count now rest many where
        fits : (a b start many count : ℕ) → a ≡ b → b ≤ start + count * 96000000 → many ≡ count → a + 96000000 ≤ start + suc many * 96000000
        fits a b start many count e f g = omega (arith, e, f, g)

  pub count_of : (count : ℕ) → length (some_ticks count) ≡ count
  count_of count = length_is count

  pub room_behind : (count : ℕ) → is_full (host_at hosts older i) ≡ false → is_full (behind count).host ≡ false
  room_behind count room = ap (λ (h : List DrawopValue). nat_le (behind count).host.is.cells (length h)) (ticks_hold count) ∙ ap (λ (c : ℕ). nat_le c (length (host_at hosts older i).is.held)) (ticks_of count).cells ∙ room

  pub comes_to_ask : (n : NameValue) (count : ℕ) → AreTaken hosts older → holds (host_at hosts older i).is.held n ≡ false → is_full (host_at hosts older i) ≡ false
      → name_in_turn (host_at hosts older i).is.held (after_turns (host_at hosts older i).is.held count (kept_at hosts older i).policy.turns) ≡ Some n → ComesToAsk hosts (some_ticks (suc count)) older i n
  comes_to_ask n count taken lacks room in_turn =
      let k = behind count in
      let lacks_k : holds k.host.is.held n ≡ false = ap (λ (h : List DrawopValue). holds h n) (ticks_hold count) ∙ lacks in
      let turn_k : name_in_turn k.host.is.held k.policy.turns ≡ Some n = ap (λ (h : List DrawopValue). name_in_turn h k.policy.turns) (ticks_hold count) ∙ ap (name_in_turn (host_at hosts older i).is.held) (ticks_turn count) ∙ in_turn in
      record {
        ticks = are_ticks (suc count);
        taken = ticks_taken (suc count) taken;
        soon = ticks_soon count;
        same = ticks_hold (suc count);
        asked = subst (λ (x : Keeping). asks_for n x.host ≡ true) (sym (behind_next count)) (tick_asks k (ready_at k) (due_for k) (turn_for k) (paid_for k) n (answers_at hosts (some_ticks count ++ older) i) lacks_k (room_behind count room) turn_k);
      }

  -- after `count` reports, the next one tells what has its turn
  pub comes_to_tell : (page : PageId) (mark : MarkValue) (count : ℕ) → AreTaken hosts older
      → page_reported (host_at hosts older i).is.held (after_reports (host_at hosts older i).is.held count (told_of (kept_at hosts older i).policy)) ≡ page
      → Contains (marks_reported (host_at hosts older i).is.held (after_reports (host_at hosts older i).is.held count (told_of (kept_at hosts older i).policy))) mark
      → ComesToTell hosts (some_ticks (suc count)) older i page mark
  comes_to_tell page mark count taken page_is among =
      let k = behind count in
      let held = (host_at hosts older i).is.held in
      let t = after_reports held count (told_of (kept_at hosts older i).policy) in
      let said = reporting count in
      let there : Contains (sent_since hosts (some_ticks (suc count)) older) (Session k.host.is.number said.moment (page_reported k.host.is.held (told_of k.policy)) (marks_reported k.host.is.held (told_of k.policy)) said.echoes) =
      did_send hosts (some_ticks count) older i (Ticked (ready_at k)) k _ refl said.sends in
      record {
        ticks = are_ticks (suc count);
        taken = ticks_taken (suc count) taken;
        soon = ticks_soon count;
        same = ticks_hold (suc count);
        moment = said.moment;
        marks = marks_reported held t;
        echoes = said.echoes;
        sent = subst (λ (v : Datagram). Contains (sent_since hosts (some_ticks (suc count)) older) v)
            (ap (λ (me : ℕ). Session me said.moment (page_reported k.host.is.held (told_of k.policy)) (marks_reported k.host.is.held (told_of k.policy)) said.echoes) (ticks_of count).number
            ∙ ap (λ (h : List DrawopValue). Session (host_at hosts older i).is.number said.moment (page_reported h (told_of k.policy)) (marks_reported h (told_of k.policy)) said.echoes) (ticks_hold count)
            ∙ ap (λ (u : Told). Session (host_at hosts older i).is.number said.moment (page_reported held u) (marks_reported held u) said.echoes) (ticks_tell count)
            ∙ ap (λ (p : PageId). Session (host_at hosts older i).is.number said.moment p (marks_reported held t) said.echoes) page_is)
            there;
        among = among;
        few = few_reported held t;
      }

-- ---- a number below a top

module _ {X Y : Type 0} (f : X → List Y) where
  in_flat : (xs : List X) (x : X) (y : Y) → Contains xs x → Contains (f x) y → Contains (flat_map f xs) y
  in_flat [] x y among in_it = absurd (Contains-none x among)
  in_flat (z ∷ xs) x y among in_it = ⊎_elim
      (λ (e : z ≡ x). Contains-append_left (f z) (flat_map f xs) y (subst (λ (w : X). Contains (f w) y) (sym e) in_it))
      (λ (c : Contains xs x). Contains-append_right (f z) (flat_map f xs) y (in_flat xs x y c in_it))
      (Contains-cases z x xs among)

module _ {X Y : Type 0} (f : X → Y) where
  pub in_map : (xs : List X) (x : X) → Contains xs x → Contains (map f xs) (f x)
  in_map [] x c = absurd (Contains-none x c)
  in_map (z ∷ xs) x c = ⊎_elim
      (λ (e : z ≡ x). subst (λ (w : X). Contains (f z ∷ map f xs) (f w)) e (Contains-here (f z) (map f xs)))
      (λ (c : Contains xs x). Contains-there (f z) (f x) (map f xs) (in_map xs x c))
      (Contains-cases z x xs c)

pub missing_is_lacked : (held : List DrawopValue) (n : NameValue) → IsMissing held n.page [] n.source n.seq → holds held n ≡ false
missing_is_lacked held n missing = holds_not held n missing.not_held

-- it is in a hole
pub record IsInHole (held : List DrawopValue) (n : NameValue) : Type 0 where
  pub gap : Gap
  pub there : Contains (holes_of held) (hole_on n.page gap)
  pub source : gap.source ≡ n.source
  pub first : gap.first ≤ n.seq
  pub last : n.seq ≤ gap.last

-- its page has drawops
on_page : (held : List DrawopValue) (n : NameValue) → IsMissing held n.page [] n.source n.seq → Contains (pages_of held) n.page
on_page held n missing = by (greatest_held held n.page n.source).reached where
  by : (highest n.page n.source held ≡ 0) ⊎ IsHeld held n.page n.source (highest n.page n.source held) → Contains (pages_of held) n.page
  by (inl none) = let below = missing.below in let counted = missing.counted in absurd (omega (arith, none, below, counted))
  by (inr (i, d, lt, at_i, e)) = ((pages_of_history held).members n.page).1 (i, d, lt, at_i, ap (λ (m : NameValue). m.page) e)

pub in_hole : (held : List DrawopValue) (n : NameValue) → IsMissing held n.page [] n.source n.seq → IsInHole held n
in_hole held n missing =
    let c = ((gaps_of_page held n.page []).missing n.source n.seq).1 missing in
    record {
      gap = c.0;
      there = in_flat (holes_on held) (pages_of held) n.page (hole_on n.page c.0) (on_page held n missing) (in_map (hole_on n.page) (gaps_of held n.page []) c.0 c.1);
      source = c.2;
      first = c.3;
      last = c.4;
    }

pub has_a_turn : (held : List DrawopValue) (t : Turns) (n : NameValue) → IsMissing held n.page [] n.source n.seq → n.seq < 2147483648 → (count : ℕ) × (name_in_turn held (after_turns held count t) ≡ Some n)
has_a_turn held t n missing small =
    let h = in_hole held n missing in
    let first = h.first in
    let turn = a_number_has_its_turn held t (hole_on n.page h.gap) n.seq h.there first h.last (omega (arith, small, first)) in
    (turn.0, turn.1 ∙ ap (λ (s : ℕ). Some (name_of n.page s n.seq)) h.source)

-- a hole is of what is not held
module _ {X Y : Type 0} (f : X → List Y) where
  pub from_flat : (xs : List X) (y : Y) → Contains (flat_map f xs) y → (x : X) × Contains (f x) y
  from_flat [] y c = absurd (Contains-none y c)
  from_flat (x ∷ xs) y c = ⊎_elim
      (λ (h : Contains (f x) y). (x, h))
      (λ (h : Contains (flat_map f xs) y). from_flat xs y h)
      (Contains-append_cases (f x) (flat_map f xs) y c)

module _ {X Y : Type 0} (f : X → Y) where
  pub from_map : (xs : List X) (y : Y) → Contains (map f xs) y → (x : X) × Contains xs x × (f x ≡ y)
  from_map [] y c = absurd (Contains-none y c)
  from_map (x ∷ xs) y c = ⊎_elim
      (λ (e : f x ≡ y). (x, Contains-here x xs, e))
      (λ (h : Contains (map f xs) y). let rest = from_map xs y h in (rest.0, Contains-there x rest.0 xs rest.1, rest.2))
      (Contains-cases (f x) y (map f xs) c)

hole_is_lacked : (held : List DrawopValue) (hole : Hole) (number : ℕ) → Contains (holes_of held) hole → hole.gap.first ≤ number → number ≤ hole.gap.last → holds held (name_of hole.page hole.gap.source number) ≡ false
hole_is_lacked held hole number there low high =
    let p = from_flat (holes_on held) (pages_of held) hole there in
    let g = from_map (hole_on p.0) (gaps_of held p.0 []) hole p.1 in
    subst (λ (h : Hole). h.gap.first ≤ number → number ≤ h.gap.last → holds held (name_of h.page h.gap.source number) ≡ false) g.2
    (λ low high. missing_is_lacked held (name_of p.0 g.0.source number) (((gaps_of_page held p.0 []).missing g.0.source number).0 (g.0, g.1, refl, low, high))) low high

-- after `count` turns a number of a hole has its own, and is asked for by the next tick
asked_after : (hosts : ℕ → Opening) (older : List (At KeptLine)) (i : ℕ) (hole : Hole) (number count bound : ℕ) → AreTaken hosts older → Contains (holes_of (host_at hosts older i).is.held) hole → hole.gap.first ≤ number → number ≤ hole.gap.last → is_full (host_at hosts older i) ≡ false
    → count + 1 ≤ bound → (let k = kept_at hosts older i in name_in_turn k.host.is.held (after_turns k.host.is.held count k.policy.turns) ≡ Some (name_of hole.page hole.gap.source number))
    → (newer : List (At KeptLine)) × ComesToAsk hosts newer older i (name_of hole.page hole.gap.source number) × (length newer ≤ bound)
asked_after hosts older i hole number count bound taken there low high room few in_turn =
    let many = count_of hosts older i (suc count) in (
      some_ticks hosts older i (suc count),
      comes_to_ask hosts older i (name_of hole.page hole.gap.source number) count taken (hole_is_lacked (host_at hosts older i).is.held hole number there low high) room in_turn,
      omega (arith, many, few),
    )

pub missing_is_asked_in_turn : MissingIsAskedInTurn
missing_is_asked_in_turn hosts older i hole number are taken there low high room few =
    let k = kept_at hosts older i in
    let turn = each_number_has_its_turn k.host.is.held k.policy.turns hole number there low high few in
    asked_after hosts older i hole number turn.0 (windows_in hole.gap * length (holes_of k.host.is.held) * 64 + 1) taken there low high room (one_more turn.0 (windows_in hole.gap * length (holes_of k.host.is.held) * 64) turn.1) turn.2 where
      one_more : (count most : ℕ) → count ≤ most → count + 1 ≤ most + 1
      one_more count most le = omega (arith, le)

pub missing_is_asked_soon : MissingIsAskedSoon
missing_is_asked_soon hosts older i hole number most are taken there low high room all few =
    let k = kept_at hosts older i in
    let turn = each_number_has_its_turn_soon k.host.is.held k.policy.turns hole number most there low high all few in
    asked_after hosts older i hole number turn.0 (2 * most * length (holes_of k.host.is.held)) taken there low high room (within turn.0 (2 * most * length (holes_of k.host.is.held)) turn.1) turn.2 where
      within : (count most : ℕ) → count < most → count + 1 ≤ most
      within count most lt = omega (arith, lt)

pub missing_is_asked : MissingIsAsked
missing_is_asked hosts older i n are taken missing small room =
    let k = kept_at hosts older i in
    let turn = has_a_turn k.host.is.held k.policy.turns n missing small in
    (some_ticks hosts older i (suc turn.0), comes_to_ask hosts older i n turn.0 taken (missing_is_lacked k.host.is.held n missing) room turn.1)

-- ---- and comes

pub not_ours : (n : NameValue) (host : Opened) → n.seq < 2147483648 → is_unknown n host ≡ false
not_ours n host small = by (nat_eq n.source host.is.number) where
  less : nat_le 2147483648 n.seq ≡ false
  less = false_from_ne_true (nat_le 2147483648 n.seq) (λ e. let le = leb-true 2147483648 n.seq e in omega (arith, le, small))

  by : (b : Bool) → (b && (nat_le 2147483648 n.seq && not (holds host.is.held n))) ≡ false
  by true = ap (λ (b : Bool). b && not (holds host.is.held n)) less
  by false = refl

-- ---- lines that follow others

module _ (hosts : ℕ → Opening) (more older : List (At KeptLine)) where
  sent_later : (newer : List (At KeptLine)) (v : Datagram) → Contains (sent_since hosts newer (more ++ older)) v → Contains (sent_since hosts (newer ++ more) older) v
  sent_later [] v c = absurd (Contains-none v c)
  sent_later (e ∷ newer) v c =
      let by : List (At KeptLine) → List Datagram = λ (lines : List (At KeptLine)). sent_by_doing (doing_of e.event) (kept_at hosts lines e.place) in
      ⊎_elim
      (λ (now : Contains (by (newer ++ (more ++ older))) v). Contains-append_left (by ((newer ++ more) ++ older)) (sent_since hosts (newer ++ more) older) v (subst (λ (lines : List (At KeptLine)). Contains (by lines) v) (sym (append_assoc newer more older)) now))
      (λ (before : Contains (sent_since hosts newer (more ++ older)) v). Contains-append_right (by ((newer ++ more) ++ older)) (sent_since hosts (newer ++ more) older) v (sent_later newer v before))
      (Contains-append_cases (by (newer ++ (more ++ older))) (sent_since hosts newer (more ++ older)) v c)

  was_later : (newer : List (At KeptLine)) (line : KeptLine) → WasSent (sent_since hosts newer (more ++ older)) line → WasSent (sent_since hosts (newer ++ more) older) line
  was_later newer (Came now v) was = sent_later newer v was
  was_later newer (Ticked now) was = tt
  was_later newer (Added now page time op) was = tt
  was_later newer (Tuned constants) was = tt

  pub sent_both : (newer : List (At KeptLine)) → AreSent hosts newer (more ++ older) → AreSent hosts more older → AreSent hosts (newer ++ more) older
  sent_both [] one other = other
  sent_both (e ∷ newer) one other = (was_later newer e.event one.0, sent_both newer one.1 other)

-- what lines bring that follow others, all of them bring
pub brought_behind : (hosts : ℕ → Opening) (newer more older : List (At KeptLine)) (i j : ℕ) (d : DrawopValue) → AreSent hosts more older
    → (host_at hosts (more ++ older) i).is.held ≡ (host_at hosts older i).is.held → (host_at hosts (more ++ older) j).is.held ≡ (host_at hosts older j).is.held → IsBrought hosts newer (more ++ older) i j d → IsBrought hosts (newer ++ more) older i j d
brought_behind hosts newer more older i j d sent same_i same_j b =
    let e = append_assoc newer more older in
    record {
      taken = subst (AreTaken hosts) (sym e) b.taken;
      sent = sent_both hosts more older newer b.sent sent;
      held = ap (λ (lines : List (At KeptLine)). (host_at hosts lines i).is.held) e ∙ b.held ∙ ap (λ (h : List DrawopValue). h ++ d ∷ []) same_i;
      kept = ap (λ (lines : List (At KeptLine)). (host_at hosts lines j).is.held) e ∙ b.kept ∙ same_j;
    }

module _ (hosts : ℕ → Opening) (older : List (At KeptLine)) (i j : ℕ) (d : DrawopValue) (are : AreHosts hosts) (taken : AreTaken hosts older) (lost : IsLost hosts older i j d) where
  -- it is lost as it was, after some ticks of the one that lacks it
  still_lost : (count : ℕ) → d.name.seq < 2147483648 → IsLost hosts (some_ticks hosts older i count ++ older) i j d
  still_lost count small =
      let lines = some_ticks hosts older i count ++ older in
      record {
        held = subst (λ (k : Keeping). Contains k.host.is.held d) (sym (others_stay hosts older i count j (places_differ hosts older i j d lost))) lost.held;
        lost = ap (λ (h : List DrawopValue). holds h d.name) (ticks_hold hosts older i count) ∙ lost.lost;
        room = room_behind hosts older i count lost.room;
        known = not_ours d.name (host_at hosts lines i) small;
      }

  pub by_turn : IsMissing (host_at hosts older i).is.held d.name.page [] d.name.source d.name.seq → d.name.seq < 2147483648 → (newer : List (At KeptLine)) × IsBrought hosts newer older i j d
  by_turn missing small =
      let k = kept_at hosts older i in
      let turn = has_a_turn k.host.is.held k.policy.turns d.name missing small in
      let more = some_ticks hosts older i (suc turn.0) in
      let asks = comes_to_ask hosts older i d.name turn.0 taken lost.lost lost.room turn.1 in
      let lines = more ++ older in (
        repair i j (host_at hosts lines i) (host_at hosts lines j) d ++ more,
        brought_behind hosts (repair i j (host_at hosts lines i) (host_at hosts lines j) d) more older i j d (ticks_sent hosts older i (suc turn.0)) (ticks_hold hosts older i (suc turn.0)) (ap (λ (x : Keeping). x.host.is.held) (others_stay hosts older i (suc turn.0) j (places_differ hosts older i j d lost))) (asked_can_come hosts lines i j d are asks.taken (still_lost (suc turn.0) small) asks.asked),
      )

pub missing_can_come : MissingCanCome
missing_can_come hosts older i j d are taken lost missing small = by_turn hosts older i j d are taken lost missing small
