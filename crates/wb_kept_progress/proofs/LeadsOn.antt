-- What a drawop leads to that is new: its neighbours are asked for while credit lasts, and then a number far from it. So some missing number is
-- asked for, and what follows in the call gives it up only for another one.
use Rattle.std.proofs.Common.{◌≡◌, ℕ, ◌+◌, ◌-◌, ◌*◌, ◌<◌, ◌≤◌, Bool, true, false, cond, List, [], ◌∷◌, ◌++◌, ◌∙◌, None, ap, arith, inl, inr, length, max, refl, subst, sym, true≢false, ⊎_elim}
use Rattle.std.specs.Prelude.{◌⊎◌, ◌≢◌, ◌||◌, Contains, is_some, nat_le}
use Rattle.std.proofs.lemmas.Bool.{false_from_ne_true, le-leb, leb-false, leb-true}
use Rattle.std.proofs.lemmas.List.Elements.{Contains-append_right}
use Rattle.wb_names.specs.History.{IsHeld, highest, name_of}
use Rattle.wb_names.specs.Orders.{same_name}
use Rattle.wb_names.specs.Values.{DrawopValue, NameValue}
use Rattle.wb_names.proofs.Listings.{Contains-here}
use Rattle.wb_names.proofs.Orders.{same_name-is}
use Rattle.wb_codec.specs.declared.datagram.Datagram.TheVariants.{Draw}
use Rattle.wb_gaps.specs.Gaps.{IsMissing}
use Rattle.wb_gaps.proofs.HeldNames.{held-from}
use Rattle.wb_gaps.proofs.Reports.{greatest_held}
use Rattle.wb_recovery.specs.Events.{timers_of}
use Rattle.wb_recovery.specs.declared.tuning.Tuning.{Tuning}
use Rattle.wb_keeper.specs.Keeper.{holds}
use Rattle.wb_member.specs.Judged.{is_full}
use Rattle.wb_member.specs.Opened.{Opened, asks_for, events, present}
use Rattle.wb_member.specs.declared.calls.Call.TheVariants.{Tick}
use Rattle.wb_policy.specs.Choices.{near_names, numbers_near}
use Rattle.wb_policy.specs.Credit.{has_credit}
use Rattle.wb_policy.specs.Policy.{Policy}
use Rattle.wb_policy.specs.declared.limits.TheConstants.{COST}
use Rattle.wb_policy.proofs.NearNumbers.{each_near, near_is_among}
use Rattle.wb_keeping.specs.Fairness.{AnswersWhatIsHeld}
use Rattle.wb_keeping.specs.Kept.{Arrives, Calls, Doing, and_then, came, leaps_on, learned, paid_for, performs, takes, timed, turn_if, turns_past, want_near}
use Rattle.wb_keeping.specs.Laws.{Came, KeptLine, Tuned, fault_of}
use Rattle.wb_keeping.specs.Performing.{Keeping, after_doing, sees, view_of}
use Rattle.wb_keeping.specs.Views.{is_asked}
use Rattle.wb_keeping.proofs.AskedTimers.{level_seen}
use Rattle.wb_keeping.proofs.EachLine.{learned_each, timed_each}
use Rattle.wb_keeping.proofs.EachStep.{having, having_done, with_policy}
use Rattle.wb_keeping.proofs.Performed.{then_after}
use Rattle.wb_keeping.proofs.StandingTimers.{is_some_level, keeps, stands_asked}
use Rattle.wb_keeping.proofs.Wanted.{learned_room}
use Rattle.wb_kept_progress.specs.LeadsOn.{AskedLeadsOn, AsksForMissing, IsAskedBy, IsMissingAt, IsNeighbour, IsNew, IsShort, NeighboursAreAskedFor, with_drawop}
use Rattle.wb_kept_progress.specs.Sessions.{At, Opening, kept_at}
use Rattle.wb_kept_progress.proofs.Leaving.{answers_on}
use Rattle.wb_kept_progress.proofs.Lines.{IsSmall, are_small, does_rest, lines_grow, lines_of}
use Rattle.wb_kept_progress.proofs.Moments.{IsTuned}
use Rattle.wb_kept_progress.proofs.Onward.{not_back}
use Rattle.wb_kept_progress.proofs.OwedAndDue.{near_at}
use Rattle.wb_kept_progress.proofs.Repairs.{came_after, moved, taken_in}
use Rattle.wb_kept_progress.proofs.Turning.{answers_at, in_map, missing_is_lacked}
use Rattle.wb_kept_progress.proofs.WantedIn.{IsAskedIn, asked_behind_tick, asked_first, asked_second, costs_both, timed_costs}
use Rattle.wb_keeping.proofs.StayStanding.{arrival_stands, ticked_stands}
use Rattle.wb_kept_progress.proofs.LeadingSteps.{AreBelow, NearIsAsked, RunsShort, asked_as, leaps_lead, leaps_start, near_asks, near_leads, near_starts, past_leads, stays_short, timed_leads, timed_spends, timed_turns, turn_if_costs}

-- ---- a drawop that is new

-- what is lacked is lacked after a drawop of another name
lacks_more : (held : List DrawopValue) (d : DrawopValue) (n : NameValue) → holds held n ≡ false → same_name d.name n ≡ false → holds (held ++ d ∷ []) n ≡ false
lacks_more [] d n lacks other = ap (λ (b : Bool). b || false) other
lacks_more (x ∷ held) d n lacks other = by (same_name x.name n) refl (lacks_more held d n) where
  by : (b : Bool) → same_name x.name n ≡ b → (holds held n ≡ false → same_name d.name n ≡ false → holds (held ++ d ∷ []) n ≡ false) → holds (x ∷ (held ++ d ∷ [])) n ≡ false
  by true e rest = absurd (true≢false (sym (ap (λ (b : Bool). b || holds held n) e) ∙ lacks))
  by false e rest = ap (λ (b : Bool). b || holds (held ++ d ∷ []) n) e ∙ rest (sym (ap (λ (b : Bool). b || holds held n) e) ∙ lacks) other

-- a board that is not full then was not full before
room_before : (one next : Opened) → length one.is.held ≤ length next.is.held → next.is.cells ≡ one.is.cells → is_full next ≡ false → is_full one ≡ false
room_before one next longer cells room = false_from_ne_true (is_full one) (λ e.
    let full = leb-true one.is.cells (length one.is.held) e in
    true≢false (sym (le-leb next.is.cells (length next.is.held) (omega (arith, full, longer, cells))) ∙ room))

module _ (hosts : ℕ → Opening) (older : List (At KeptLine)) (i now : ℕ) (d : DrawopValue) (new : IsNew hosts older i now d) where
  abbrev pub k : Keeping
  k = kept_at hosts older i

  abbrev pub t : Keeping
  t = having (Calls (Tick now)) k

  abbrev pub was : Bool
  was = is_asked (view_of t.host) d.name

  abbrev pub a : Keeping
  a = having (Arrives d) t

  -- with what it pays, if it was asked for
  abbrev pub b : Keeping
  b = with_policy (paid_for was k.policy) a

  abbrev pub near : List NameValue
  near = near_names d.name (highest d.name.page d.name.source a.host.is.held)

  abbrev pub c : Keeping
  c = after_doing (want_near near) b

  abbrev pub e : Keeping
  e = after_doing (turn_if was) c

  abbrev pub m : Keeping
  m = kept_at hosts (with_drawop i now d older) i

  m_is : m ≡ after_doing (came now (Draw d)) k
  m_is = moved hosts older i (Came now (Draw d))

  taken : fault_of (Came now (Draw d)) k ≡ None
  taken = new.taken.0

  room : is_full k.host ≡ false
  room =
      let done = after_doing (came now (Draw d)) k in
      let lines = (came now (Draw d) (sees k.host) k.policy).lines in
      room_before k.host done.host (lines_grow lines k.host).longer (lines_of lines k.host).cells (ap (λ (x : Keeping). is_full x.host) (sym m_is) ∙ new.room)

  takes_so : takes d (sees t.host) t.policy ≡ and_then (performs (Arrives d)) (learned d.name was) (sees t.host) t.policy
  takes_so =
      let fresh = and_then (performs (Arrives d)) (learned d.name was) in
      ap (λ (held : Bool). cond (held || is_full k.host) (performs (Arrives d) (sees t.host) t.policy) (fresh (sees t.host) t.policy)) new.lacked
      ∙ ap (λ (full : Bool). cond full (performs (Arrives d) (sees t.host) t.policy) (fresh (sees t.host) t.policy)) room

  takes_it : after_doing (takes d) t ≡ after_doing (learned d.name was) a
  takes_it = ap (λ (does : Doing). having_done does t) takes_so ∙ then_after (performs (Arrives d)) (learned d.name was) t

  came_is : m ≡ after_doing timed (after_doing (learned d.name was) a)
  came_is = m_is ∙ came_after now (Draw d) k ∙ ap (after_doing timed) takes_it

  pub held_is : m.host.is.held ≡ a.host.is.held
  held_is =
      let l = after_doing (learned d.name was) a in
      ap (λ (x : Keeping). x.host.is.held) came_is ∙ (does_rest timed (timed_each IsSmall are_small) l).held ∙ (does_rest (learned d.name was) (learned_each IsSmall are_small d.name was) a).held

  room_then : is_full a.host ≡ false
  room_then =
      let l = (learned d.name was (sees a.host) a.policy).lines in
      let x = after_doing (learned d.name was) a in
      let y = after_doing timed x in
      let cells : y.host.is.cells ≡ a.host.is.cells = (lines_of (timed (sees x.host) x.policy).lines x.host).cells ∙ (lines_of l a.host).cells in
      let longer = (lines_grow l a.host).longer in
      let longer_then = (lines_grow (timed (sees x.host) x.policy).lines x.host).longer in
      room_before a.host y.host (omega (arith, longer, longer_then)) cells (ap (λ (x : Keeping). is_full x.host) (sym came_is) ∙ new.room)

  learned_is : after_doing (learned d.name was) a ≡ e
  learned_is =
      ap (λ (does : Doing). having_done does a) (learned_room d.name was (sees a.host) k.policy room_then)
      ∙ then_after (want_near near) (turn_if was) b

  there_is : m ≡ after_doing timed e
  there_is = came_is ∙ ap (after_doing timed) learned_is

  answers_held : AnswersWhatIsHeld b.host
  answers_held = answers_on (performs (Arrives d)) t (answers_on (performs (Calls (Tick now))) k (answers_at hosts older i))

  all_below : AreBelow a.host.is.held near
  all_below = each_near (λ (n : NameValue). holds a.host.is.held n ≡ false → IsMissing a.host.is.held n.page [] n.source n.seq) d.name (highest d.name.page d.name.source a.host.is.held)
      (λ x is lacks. let below = is.below in record { counted = is.counted; below = omega (arith, below); not_held = λ h. true≢false (sym (held-from a.host.is.held d.name.page d.name.source x h) ∙ lacks) })

  -- ---- its neighbours

  module _ (n : NameValue) (neighbour : IsNeighbour d.name n) (missing : IsMissingAt m n) where
    missing_near : IsMissingAt b n
    missing_near = subst (λ (held : List DrawopValue). IsMissing held n.page [] n.source n.seq) held_is missing

    same_n : name_of d.name.page d.name.source n.seq ≡ n
    same_n = λ i. name_of (sym neighbour.page i) (sym neighbour.source i) n.seq

    it_is_held : Contains a.host.is.held d
    it_is_held = subst (λ (held : List DrawopValue). Contains held d) (sym (taken_in t.host d new.lacked room)) (Contains-append_right k.host.is.held (d ∷ []) d (Contains-here d []))

    another : n.seq ≢ d.name.seq
    another same = missing_near.not_held (it_is_held.0, d, it_is_held.1, it_is_held.2, (λ i. name_of (sym neighbour.page i) (sym neighbour.source i) (sym same i)))

    abbrev top : ℕ
    top = highest n.page n.source a.host.is.held

    below : n.seq < top
    below = ⊎_elim
        (λ (none : top ≡ 0). let le = missing_near.below in let counted = missing_near.counted in absurd (omega (arith, none, le, counted)))
        (λ (held : IsHeld a.host.is.held n.page n.source top). by (nat_le top n.seq) refl held)
        (greatest_held a.host.is.held n.page n.source).reached where
          by : (b : Bool) → nat_le top n.seq ≡ b → IsHeld a.host.is.held n.page n.source top → n.seq < top
          by false e held = leb-false top n.seq e
          by true e held =
              let le = missing_near.below in
              let ge = leb-true top n.seq e in
              let same : top ≡ n.seq = omega (arith, le, ge) in
              absurd (missing_near.not_held (subst (IsHeld a.host.is.held n.page n.source) same held))

    among : Contains near n
    unfolding near_names
    among = subst (Contains near) same_n (listed (near_is_among d.name.seq (highest d.name.page d.name.source a.host.is.held) 64 n.seq (record {
      counted = missing_near.counted;
      below = subst (λ (top : ℕ). n.seq < top) (λ i. highest (neighbour.page i) (neighbour.source i) a.host.is.held) below;
      above = neighbour.above;
      under = neighbour.under;
    }) another)) where
      listed : Contains (numbers_near d.name.seq (highest d.name.page d.name.source a.host.is.held) 64) n.seq → Contains near (name_of d.name.page d.name.source n.seq)
      listed c = in_map (name_of d.name.page d.name.source) (numbers_near d.name.seq (highest d.name.page d.name.source a.host.is.held) 64) n.seq c

    asked_near : NearIsAsked n near b
    asked_near = near_asks near b n among (record { answers_held = answers_held; lacks = missing_is_lacked a.host.is.held n missing_near; room = room_then })

    asked_by : IsAskedIn n (want_near near) b → IsAskedBy (Came now (Draw d)) k n
    asked_by x =
        let both = and_then (want_near near) (turn_if was) in
        let fresh = and_then (performs (Arrives d)) (learned d.name was) in
        let one = asked_first n (want_near near) (turn_if was) b x in
        let two : IsAskedIn n (learned d.name was) a = record { before = one.before; later = one.later; lines = ap (λ (d : Doing). d.lines) (learned_room d.name was (sees a.host) k.policy room_then) ∙ one.lines; stands = one.stands } in
        let three = asked_as n (takes d) fresh t takes_so (asked_second n (performs (Arrives d)) (learned d.name was) t two) in
        let four = asked_behind_tick n now (and_then (takes d) timed) k (asked_first n (takes d) timed t three) in
        record { before = four.first ∷ four.before; later = four.later; lines = four.lines; stands = four.stands }

    is_short : RunsShort c → IsShort m
    is_short short =
        let at_end = stays_short c (after_doing timed e) (costs_both c e (after_doing timed e) (turn_if_costs was c) (timed_costs e)) short in
        subst IsShort (sym there_is) (by (after_doing timed e) at_end) where
          by : (x : Keeping) → RunsShort x → IsShort x
          by x short = let lt = leb-false (max x.policy.owed (present x.host) - present x.host) (47 * COST) short in omega (arith, lt)

    near_or_short : IsAskedBy (Came now (Draw d)) k n ⊎ IsShort m
    near_or_short = ⊎_elim (λ (x : IsAskedIn n (want_near near) b). inl (asked_by x)) (λ (short : RunsShort c). inr (is_short short)) asked_near

  -- ---- if it was asked for

  module _ (asked : asks_for d.name k.host ≡ true) (n : NameValue) (missing : IsMissingAt m n) where
    was_asked : was ≡ true
    was_asked =
        ap is_some (level_seen t.host d.name) ∙ is_some_level (timers_of t.host.is.constants (events t.host) d.name).ask
        ∙ ticked_stands now k.host d.name new.lacked asked

    missing_there : IsMissingAt b n
    missing_there = subst (λ (held : List DrawopValue). IsMissing held n.page [] n.source n.seq) held_is missing

    later : present k.host ≤ now
    later = ⊎_elim (λ (tuned : IsTuned (Came now (Draw d))). absurd (not_tuned tuned)) (λ (le : present k.host ≤ now). le) (not_back (Came now (Draw d)) k taken) where
      not_tuned : IsTuned (Came now (Draw d)) → ⊥
      not_tuned tuned = other tuned.0 tuned.1 where
        other : (constants : Tuning) → Came now (Draw d) ≡ Tuned constants → ⊥
        other constants same = cc

    -- it paid for two, so a place is left
    credit : has_credit b.policy.owed (present b.host) ≡ true
    credit =
        let near_now = (near_at hosts older i new.taken.1).owed in
        let le = later in
        ap (λ (p : Policy). has_credit p.owed now) (ap (λ (asked : Bool). paid_for asked k.policy) was_asked) ∙ le-leb _ _ (left k.policy.owed (present k.host) now near_now le) where
          left : (owed before now : ℕ) → owed ≤ before + 16000000 → before ≤ now → max (owed - 500000) now - now ≤ 63 * 250000
          left owed before now le later = omega (arith, le, later)

    leapt : AsksForMissing (after_doing (leaps_on 65) c)
    leapt = ⊎_elim
        (λ (asks : AsksForMissing c). leaps_lead 65 c (answers_on (want_near near) b answers_held) asks)
        (λ (same : c ≡ b). subst (λ (x : Keeping). AsksForMissing (after_doing (leaps_on 65) x)) (sym same) (leaps_start 64 b n answers_held room_then credit missing_there))
        (near_starts near b all_below answers_held)

    turned : AsksForMissing e
    turned =
        let held_c = answers_on (want_near near) b answers_held in
        subst (λ (asked : Bool). AsksForMissing (after_doing (turn_if asked) c)) (sym was_asked)
        (subst AsksForMissing (sym (then_after (leaps_on 65) turns_past c)) (past_leads (after_doing (leaps_on 65) c) (answers_on (leaps_on 65) c held_c) leapt))

    pub leads_on : AsksForMissing m
    leads_on = subst AsksForMissing (sym there_is) (timed_leads e (answers_on (turn_if was) c (answers_on (want_near near) b answers_held)) turned)

  -- ---- if it was not asked for

  -- it was, if its timer stands after the tick
  pub asked_before : was ≡ true → asks_for d.name k.host ≡ true
  asked_before e = keeps (Calls (Tick now)) k.host refl d.name (stands_asked t.host d.name e)

  module _ (unasked : was ≡ false) where
    owed_b : b.policy.owed ≡ k.policy.owed
    owed_b = ap (λ (asked : Bool). (let p : Policy = paid_for asked k.policy in p.owed)) unasked

    e_is : e ≡ c
    e_is = ap (λ (asked : Bool). after_doing (turn_if asked) c) unasked

    -- all but what is due
    pub before_due : after_doing (takes d) t ≡ c
    before_due = takes_it ∙ learned_is ∙ e_is

    m_due : m ≡ after_doing timed c
    m_due = there_is ∙ ap (after_doing timed) e_is

    held_c : AnswersWhatIsHeld c.host
    held_c = answers_on (want_near near) b answers_held

    -- what it asks for, it goes on asking for, or for another missing number
    pub goes_on : (x : NameValue) → holds k.host.is.held x ≡ false → asks_for x k.host ≡ true → (holds a.host.is.held x ≡ false → IsMissingAt a x) → AsksForMissing m
    goes_on x lacks asked missing = subst AsksForMissing (sym m_due) (timed_leads c held_c (near_leads near b all_below answers_held (record {
      name = x;
      missing = missing lacks_a;
      asked = arrival_stands d t.host x lacks_a asked_t;
    }))) where
      asked_t : asks_for x t.host ≡ true
      asked_t = ticked_stands now k.host x lacks asked

      is_other : same_name d.name x ≡ false
      is_other = false_from_ne_true (same_name d.name x) (λ same.
          true≢false (sym (ap is_some (level_seen t.host d.name) ∙ is_some_level (timers_of t.host.is.constants (events t.host) d.name).ask
          ∙ subst (λ (y : NameValue). asks_for y t.host ≡ true) (sym (same_name-is d.name x same)) asked_t) ∙ unasked))

      lacks_a : holds a.host.is.held x ≡ false
      lacks_a = ap (λ (held : List DrawopValue). holds held x) (taken_in t.host d new.lacked room) ∙ lacks_more k.host.is.held d x lacks is_other

    -- it asks for a missing number, or spends nothing
    pub spends : AsksForMissing m ⊎ (m.policy.owed ≤ k.policy.owed)
    spends = ⊎_elim
        (λ (asks : AsksForMissing c). inl (subst AsksForMissing (sym m_due) (timed_leads c held_c asks)))
        (λ (same : c ≡ b). ⊎_elim
        (λ (asks : AsksForMissing (after_doing timed c)). inl (subst AsksForMissing (sym m_due) asks))
        (λ (le : (after_doing timed c).policy.owed ≤ c.policy.owed).
        let one = owed_b in
        let two = ap (λ (x : Keeping). x.policy.owed) same in
        let three = ap (λ (x : Keeping). x.policy.owed) m_due in
        inr (omega (arith, le, one, two, three)))
        (timed_spends c held_c))
        (near_starts near b all_below answers_held)

    -- where a turn is due, and a number is missing, it asks for one if there was credit
    pub turned_so : (n : NameValue) → IsMissingAt m n → c.policy.pace.due ≤ present c.host → AsksForMissing m ⊎ (has_credit k.policy.owed now ≡ false)
    turned_so n missing late = ⊎_elim
        (λ (asks : AsksForMissing c). inl (subst AsksForMissing (sym m_due) (timed_leads c held_c asks)))
        (λ (same : c ≡ b). by same (has_credit k.policy.owed now) refl)
        (near_starts near b all_below answers_held) where
          by : c ≡ b → (some : Bool) → has_credit k.policy.owed now ≡ some → AsksForMissing m ⊎ (some ≡ false)
          by same false is = inr refl
          by same true is =
              inl (subst AsksForMissing (sym m_due)
              (timed_turns c held_c n (ap (λ (x : Keeping). is_full x.host) same ∙ room_then)
              (ap (λ (x : Keeping). has_credit x.policy.owed (present x.host)) same ∙ ap (λ (owed : ℕ). has_credit owed now) owed_b ∙ is)
              (subst (λ (x : Keeping). IsMissingAt x n) (sym same) (subst (λ (held : List DrawopValue). IsMissing held n.page [] n.source n.seq) held_is missing)) late))

pub neighbours_are_asked_for : NeighboursAreAskedFor
neighbours_are_asked_for hosts older i now d n new neighbour missing = near_or_short hosts older i now d new n neighbour missing

pub asked_leads_on : AskedLeadsOn
asked_leads_on hosts older i now d n new asked missing = leads_on hosts older i now d new asked n missing
