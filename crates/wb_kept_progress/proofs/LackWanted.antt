-- What a live host lacks is wanted in time: a report tells it the greatest number of its source, or its hole has its turn.
use Rattle.std.proofs.Common.{◌≡◌, ℕ, suc, ◌+◌, ◌*◌, ◌<◌, ◌≤◌, Bool, true, false, List, [], ◌∷◌, ◌++◌, ◌∙◌, Some, ap, append_assoc, arith, eqb-true, length, mul-le-mul, refl, subst, sym, true≢false, ⊎_elim}
use Rattle.std.specs.Prelude.{◌⊎◌, Contains}
use Rattle.std.proofs.lemmas.Bool.{eq-eqb}
use Rattle.std.proofs.Math.Nat.{le_refl}
use Rattle.wb_names.specs.History.{IsHeld, highest, name_of}
use Rattle.wb_names.specs.Values.{DrawopValue, MarkValue, NameValue}
use Rattle.wb_names.specs.declared.name.PageId.{PageId}
use Rattle.wb_codec.specs.declared.datagram.Datagram.{Datagram}
use Rattle.wb_codec.specs.declared.datagram.Datagram.TheVariants.{Session}
use Rattle.wb_gaps.specs.Answers.{top_mark}
use Rattle.wb_gaps.specs.Gaps.{IsMissing}
use Rattle.wb_gaps.specs.Holes.{hole_on, holes_of}
use Rattle.wb_gaps.proofs.HeldNames.{held-by, held-from}
use Rattle.wb_keeper.specs.Keeper.{holds}
use Rattle.wb_progress.specs.InTime.{known_from, repairing}
use Rattle.wb_progress.specs.Turns.{IsNowAt, Terms, settled_by}
use Rattle.wb_member.specs.Opened.{present}
use Rattle.wb_policy.specs.Fairness.{HaveAtMost, after_reports, after_turns, marks_reported, name_in_turn, page_reported, slices_of, slices_on}
use Rattle.wb_policy.specs.declared.reports.Told.{Told}
use Rattle.wb_policy.specs.Choices.{told_names}
use Rattle.wb_keeping.specs.Kept.{came}
use Rattle.wb_keeping.specs.Laws.{KeptLine, doing_of}
use Rattle.wb_keeping.specs.Performing.{Keeping, after_doing, sent_by_doing}
use Rattle.wb_policy.specs.Policy.{Policy}
use Rattle.wb_policy.proofs.FairTurns.{each_number_has_its_turn_soon}
use Rattle.wb_policy.proofs.Reporting.{each_mark_is_told}
use Rattle.wb_policy.proofs.HeldTops.{below_top, page_there, top_held, top_told}
use Rattle.wb_kept_progress.specs.Sessions.{Opening}
use Rattle.wb_kept_progress.specs.Timed.{AreInOrder, At, SaysNow, host_after, performed, start_of, time_of, until}
use Rattle.wb_kept_progress.specs.Whole.{AreSoon, AreWithin, HolesAreHeld, IsHandedIn, IsHeldBySome, IsTimelySession, Sizes, there, wanting}
use Rattle.wb_kept_progress.proofs.CallParts.{lacked_until}
use Rattle.wb_kept_progress.proofs.Coming.{missing_below, named_in}
use Rattle.wb_kept_progress.proofs.Beats.{ByReport, ByTurn, Kind, state_of, states_after}
use Rattle.wb_kept_progress.proofs.OwedAndDue.{beat_there}
use Rattle.wb_kept_progress.proofs.NextDue.{DueWithin, First, IsBehind, IsCut, before_is, cut, held_there, is_behind, next_behind, ordered, quiet_before, quiet_behind, room_there, split_there, state_there, still_older, still_there, told_there, window_there}
use Rattle.wb_kept_progress.proofs.ReportsCome.{reports_come}
use Rattle.wb_kept_progress.proofs.Repairs.{of_opening}
use Rattle.wb_kept_progress.proofs.StillCalls.{came_now}
use Rattle.wb_kept_progress.proofs.Told.{told_wants}
use Rattle.wb_kept_progress.proofs.Turning.{answers_at, in_hole, missing_is_lacked}
use Rattle.wb_kept_progress.proofs.TurnNames.{turn_names}
use Rattle.wb_kept_progress.proofs.WantedIn.{IsAskedInCall, LacksCredit}
use Rattle.wb_kept_progress.proofs.WantingCalls.{wanting_in_call}
use Rattle.wb_kept_progress.proofs.WholeParts.{HeldWasHeld, IsStill, IsWanting, LackIsWanted}
use Rattle.wb_kept_progress.proofs.Leaving.{told_of}
use Rattle.wb_progress.proofs.Parts.{before_end as ends_before, tails}

-- ---- spans

more_spans : (a b span : ℕ) → a ≤ b → a * span ≤ b * span
more_spans a b span le = mul-le-mul le (le_refl span)

more_turns : (numbers holes all : ℕ) → holes ≤ all → 2 * numbers * holes ≤ 2 * numbers * all
more_turns numbers holes all le = mul-le-mul (le_refl (2 * numbers)) le

-- ---- a call within a window

-- a call that comes before the end of a window comes in it
within : (newest front later between rest : List (At KeptLine)) (call : At KeptLine) → AreInOrder (newest ++ (front ++ rest))
    → newest ++ front ≡ later ++ call ∷ between → call.time < time_of (front ++ rest) → (c : List (At KeptLine)) × (front ≡ c ++ call ∷ between)
within [] front later between rest call order split lt = (later, split)
within (x ∷ newest) front [] between rest call order split lt =
    let same : x ≡ call = cc in
    let end = ends_before (x ∷ newest) (front ++ rest) order in
    let time : x.time ≡ call.time = ap (λ (y : At KeptLine). y.time) same in
    absurd (omega (arith, end, lt, time))
within (x ∷ newest) front (y ∷ later) between rest call order split lt =
    within newest front later between rest call order.1 (tails x y (newest ++ front) (later ++ call ∷ between) split) lt

module _ (was_held : HeldWasHeld) (hosts : ℕ → Opening) (terms : Terms) (trace newest window base : List (At KeptLine)) (sizes : Sizes) (most : ℕ)
    (s : IsTimelySession hosts terms trace) (small : AreWithin hosts terms trace sizes) (soonest : AreSoon hosts terms trace sizes most)
    (still : IsStill hosts terms trace newest window base) (settled : settled_by terms < time_of base) (behind_since : sizes.since ≤ time_of base) (from : ℕ) (since : time_of base ≤ from) where
  -- how soon the next report, or the next turn, is due, and since when; the longest from one to the next
  abbrev pause : Kind → ℕ
  pause ByReport = sizes.pause
  pause ByTurn = 16000000

  abbrev since_of : Kind → ℕ
  since_of ByReport = sizes.since
  since_of ByTurn = terms.quiet

  abbrev span : Kind → ℕ
  span kind = pause kind + terms.late

  within_pause : (kind : Kind) → DueWithin kind hosts terms trace (since_of kind) (pause kind)
  within_pause ByReport = soonest.reports
  within_pause ByTurn = λ newer older i split live. beat_there hosts terms trace newer older i s split live

  -- by then enough have come
  abbrev enough : ℕ
  enough = 2 * sizes.slices * span ByReport + sizes.turning

  abbrev by : ℕ
  by = from + wanting terms sizes

  quiet : terms.quiet < time_of base
  quiet = omega (arith, settled)

  behind_first : (kind : Kind) → since_of kind ≤ time_of base
  behind_first ByReport = behind_since
  behind_first ByTurn = let q = quiet in omega (arith, q)

  abbrev held_by : ℕ → List DrawopValue
  held_by j = (there hosts base j).host.is.held

  -- the calls of the window behind its first moment, and the policy of a host there
  abbrev cut_at : IsCut window base from
  cut_at = cut window base from since

  abbrev policy_at : ℕ → Policy
  policy_at k = (there hosts (cut_at.grown ++ base) k).policy

  module _ (kind : Kind) (k : ℕ) (live : Contains terms.live k) where
    -- a part after `count` of them, and the next one
    abbrev BehindAt : ℕ → Type 0
    BehindAt count = IsBehind kind hosts terms trace newest window base (since_of kind) (pause kind) s (within_pause kind) still quiet (behind_first kind) k live from since count

    abbrev NextAt : (count : ℕ) → BehindAt count → Type 0
    NextAt count p = First hosts terms trace s k live kind p.front p.part

    behind_at : (count : ℕ) → from + count * span kind < time_of (window ++ base) → BehindAt count
    behind_at count lt = is_behind kind hosts terms trace newest window base (since_of kind) (pause kind) s (within_pause kind) still quiet (behind_first kind) k live from since count lt

    next_at : (count : ℕ) (p : BehindAt count) → from + suc count * span kind < time_of (window ++ base)
        → (r : NextAt count p) × (r.e.time ≤ from + suc count * span kind)
    next_at count p lt = next_behind kind hosts terms trace newest window base (since_of kind) (pause kind) s (within_pause kind) still quiet (behind_first kind) k live from since count p lt

    -- what stands at it
    module _ (count : ℕ) (p : BehindAt count) (r : NextAt count p) where
      still_next : IsStill hosts terms trace newest (r.later ++ r.e ∷ r.between) p.part
      still_next = still_there kind hosts terms trace newest window base (since_of kind) (pause kind) s (within_pause kind) still quiet (behind_first kind) k live from since count p r

      split_next : trace ≡ (newest ++ r.later) ++ r.e ∷ (r.between ++ p.part)
      split_next = split_there kind hosts terms trace newest window base (since_of kind) (pause kind) s (within_pause kind) still quiet (behind_first kind) k live from since count p r

      held_next : (there hosts (r.between ++ p.part) k).host.is.held ≡ held_by k
      held_next = held_there kind hosts terms trace newest window base (since_of kind) (pause kind) s (within_pause kind) still quiet (behind_first kind) k live from since count p r

      state_next : state_of kind (there hosts (r.between ++ p.part) k).policy ≡ states_after kind (held_by k) count (state_of kind (policy_at k))
      state_next = state_there kind hosts terms trace newest window base (since_of kind) (pause kind) s (within_pause kind) still quiet (behind_first kind) k live from since count p r

      window_next : window ≡ r.later ++ r.e ∷ (r.between ++ p.grown)
      window_next = window_there kind hosts terms trace newest window base (since_of kind) (pause kind) s (within_pause kind) still quiet (behind_first kind) k live from since count p r

      before_next : r.between ++ p.part ≡ (r.between ++ p.grown) ++ base
      before_next = before_is kind hosts terms trace newest window base (since_of kind) (pause kind) s (within_pause kind) still quiet (behind_first kind) k live from since count p r

  -- what a report tells
  abbrev told_in : (k : ℕ) (live : Contains terms.live k) (count : ℕ) (p : BehindAt ByReport k live count) → NextAt ByReport k live count p → Datagram
  told_in k live count p r =
      let h = there hosts (r.between ++ p.part) k in
      Session h.host.is.number r.comes.moment (page_reported h.host.is.held (told_of h.policy))
      (marks_reported h.host.is.held (told_of h.policy)) r.comes.echoes

  abbrev WantedBy : ℕ → Type 0
  WantedBy i = IsWanting hosts terms trace window base i from by

  split_base : trace ≡ (newest ++ window) ++ base
  split_base = still.split ∙ sym (append_assoc newest window base)

  cut_split : (c : IsCut window base from) → trace ≡ (newest ++ c.front) ++ (c.grown ++ base)
  cut_split c =
      still.split ∙ ap (λ (t : List (At KeptLine)). newest ++ (t ++ base)) c.split
      ∙ ap (λ (t : List (At KeptLine)). newest ++ t) (append_assoc c.front c.grown base) ∙ sym (append_assoc newest c.front (c.grown ++ base))

  cut_quiet : (c : IsCut window base from) → terms.quiet < time_of (c.grown ++ base)
  cut_quiet c = quiet_behind hosts terms trace s (newest ++ c.front) c.grown base (cut_split c) quiet

  module _ (before_end : by < time_of (window ++ base)) (i : ℕ) (live : Contains terms.live i) where
    -- `count` + 1 of them come before the end
    in_time : (kind : Kind) (count : ℕ) → suc count * span kind ≤ enough → from + suc count * span kind < time_of (window ++ base)
    in_time kind count le = omega (arith, le, before_end)

    in_time_at_least : (kind : Kind) (count : ℕ) → suc count * span kind ≤ enough → from + count * span kind < time_of (window ++ base)
    in_time_at_least kind count le = let n = more_spans count (suc count) (span kind) (omega arith) in omega (arith, le, n, before_end)

    -- ---- the turn of a number that is missing

    -- the call in which it has its turn
    at_turn : (n : NameValue) → IsHeldBySome hosts terms trace n → holds (held_by i) n ≡ false → (count : ℕ) → suc count * span ByTurn ≤ enough
        → (p : BehindAt ByTurn i live count)
        → name_in_turn (held_by i) (after_turns (held_by i) count (policy_at i).turns) ≡ Some n → WantedBy i
    at_turn n held lacks count fits p n_is =
        let found = next_at ByTurn i live count p (in_time ByTurn count fits) in
        wanted_at n held lacks count fits p n_is found.0 found.1 where
          wanted_at : (n : NameValue) → IsHeldBySome hosts terms trace n → holds (held_by i) n ≡ false → (count : ℕ) → suc count * span ByTurn ≤ enough → (p : BehindAt ByTurn i live count)
              → name_in_turn (held_by i) (after_turns (held_by i) count (policy_at i).turns) ≡ Some n
              → (r : NextAt ByTurn i live count p) → r.e.time ≤ from + suc count * span ByTurn → WantedBy i
          wanted_at n held lacks count fits p n_is r soon =
              let older = r.between ++ p.part in
              let k = there hosts older i in
              let k_held = held_next ByTurn i live count p r in
              let wants = r.comes.wants n (ap (λ (h : List DrawopValue). holds h n) k_held ∙ lacks)
              (room_there hosts terms trace s (newest ++ r.later) older r.e i (split_next ByTurn i live count p r) live (quiet_before hosts terms trace s (newest ++ r.later) r.between p.part r.e (split_next ByTurn i live count p r) p.quiet))
              (ap (λ (h : List DrawopValue). name_in_turn h k.policy.turns) k_held ∙ ap (name_in_turn (held_by i)) (state_next ByTurn i live count p r) ∙ n_is) in
              let m = fits in
              wanting_in_call hosts terms trace i n held window base r.later (r.between ++ p.grown) older r.e from by
              (window_next ByTurn i live count p r) (before_next ByTurn i live count p r) r.place (subst (IsNowAt terms r.e.time i) (sym r.comes.now_is) r.now) wants (p.behind r.later r.between r.e r.split)
              (omega (arith, soon, m))

    by_its_turn : (n : NameValue) → IsHeldBySome hosts terms trace n → holds (held_by i) n ≡ false → IsMissing (held_by i) n.page [] n.source n.seq
        → 2 * sizes.numbers * sizes.holes * span ByTurn ≤ sizes.turning → WantedBy i
    by_its_turn n held lacks missing long =
        let p = policy_at i in
        let st = cut_at in
        let h = in_hole (held_by i) n missing in
        let hole = hole_on n.page h.gap in
        let first_number = h.first in
        let last_number = h.last in
        let numbers : HaveAtMost sizes.numbers (held_by i) = λ hole there. small.numbers (newest ++ window) base i hole split_base live quiet there in
        let holes = small.holes (newest ++ window) base i split_base live quiet in
        let few = small.rounds (newest ++ st.front) (st.grown ++ base) i (cut_split st) live (cut_quiet st) in
        let turn = each_number_has_its_turn_soon (held_by i) p.turns hole n.seq sizes.numbers h.there first_number last_number numbers few in
        let count = turn.0 in
        let less = turn.1 in
        let most = more_turns sizes.numbers (length (holes_of (held_by i))) sizes.holes holes in
        let fits : suc count * span ByTurn ≤ enough =
        under (2 * sizes.slices * span ByReport) (more_spans (suc count) (2 * sizes.numbers * sizes.holes) (span ByTurn) (one_less count (2 * sizes.numbers * length (holes_of (held_by i))) (2 * sizes.numbers * sizes.holes) less most)) long in
        let b = behind_at ByTurn i live count (in_time_at_least ByTurn count fits) in
        let n_is = turn.2 ∙ ap (λ (source : ℕ). Some (name_of n.page source n.seq)) h.source in
        at_turn n held lacks count fits b n_is where
          one_less : (count a b : ℕ) → count < a → a ≤ b → suc count ≤ b
          one_less count a b lt le = omega (arith, lt, le)

          under : {a b c : ℕ} (slices : ℕ) → a ≤ b → b ≤ c → a ≤ slices + c
          under slices le more = omega (arith, le, more)

    -- the next turn is of one that is held
    by_next_turn : (n : NameValue) → IsMissing (held_by i) n.page [] n.source n.seq → span ByTurn ≤ sizes.turning → HolesAreHeld hosts terms trace → WantedBy i
    by_next_turn n missing soon are_held =
        let p = policy_at i in
        let h = in_hole (held_by i) n missing in
        let next = turn_names (held_by i) p.turns (hole_on n.page h.gap) h.there in
        let m = next.0 in
        let fits : 1 * span ByTurn ≤ enough = omega (arith, soon) in
        let b = behind_at ByTurn i live 0 (in_time_at_least ByTurn 0 fits) in
        at_turn m (are_held (newest ++ window) base i m split_base live settled next.2) (missing_is_lacked (held_by i) m next.2) 0 fits b next.1

    by_turn : (n : NameValue) → IsHeldBySome hosts terms trace n → holds (held_by i) n ≡ false → IsMissing (held_by i) n.page [] n.source n.seq
        → WantedBy i
    by_turn n held lacks missing = ⊎_elim
        (λ (all : 2 * sizes.numbers * sizes.holes * span ByTurn ≤ sizes.turning). by_its_turn n held lacks missing all)
        (λ (any : (span ByTurn ≤ sizes.turning) × HolesAreHeld hosts terms trace). by_next_turn n missing any.0 any.1)
        soonest.turns

    -- ---- a report tells the greatest number of a source

    module _ (j : ℕ) (live_j : Contains terms.live j) (differ : j ≡ i → ⊥) (d : DrawopValue) (there_d : Contains (held_by j) d) (counted : 1 ≤ d.name.seq)
        (top_small : highest d.name.page d.name.source (held_by j) < 2147483648) where
      abbrev page : PageId
      page = d.name.page

      abbrev top : ℕ
      top = highest page d.name.source (held_by j)

      abbrev top_name : NameValue
      top_name = name_of page d.name.source top

      abbrev mark : MarkValue
      mark = top_mark (held_by j) page d.name.source

      abbrev u : Told
      u = told_of (policy_at j)

      -- among the names of a report
      in_names : (me : ℕ) (told : PageId) (marks : List MarkValue) → told ≡ page → Contains marks mark → Contains (told_names me told marks) top_name
      in_names me told marks same among = subst (λ (p : PageId). Contains (told_names me p marks) top_name) (sym same) (named_in me top_name marks top_small among)

      -- `count` reports come before the one that tells it
      record IsToldAt (count : ℕ) : Type 0 where
        fits : suc count * span ByReport ≤ enough
        page_is : page_reported (held_by j) (after_reports (held_by j) count u) ≡ page
        among : Contains (marks_reported (held_by j) (after_reports (held_by j) count u)) mark

      told_at : (count : ℕ) × IsToldAt count
      told_at =
          let st = cut_at in
          let same = still.same st.front st.grown j st.split live_j in
          let slices : slices_of (held_by j) + slices_on (held_by j) u.page ≤ sizes.slices =
          subst (λ (h : List DrawopValue). slices_of h + slices_on h u.page ≤ sizes.slices) same
          (small.slices (newest ++ st.front) (st.grown ++ base) j (cut_split st) live_j (cut_quiet st)) in
          let t = each_mark_is_told (held_by j) u page mark (page_there (held_by j) d there_d counted) (top_told (held_by j) d there_d counted) in
          let less = t.1 in
          (t.0, record { fits = under (more_spans (suc t.0) (2 * sizes.slices) (span ByReport) (one_less t.0 (slices_of (held_by j) + slices_on (held_by j) u.page) sizes.slices less slices)); page_is = t.2; among = t.3 }) where
            one_less : (count a slices : ℕ) → count < 2 * a → a ≤ slices → suc count ≤ 2 * slices
            one_less count a slices lt le = omega (arith, lt, le)

            under : {a b : ℕ} → a ≤ b → a ≤ b + sizes.turning
            under le = omega (arith, le)

      module _ (lacks : holds (held_by i) top_name ≡ false) (held : IsHeldBySome hosts terms trace top_name) where
        -- the report of it is handed in, and then it is wanted
        handed_in : (count : ℕ) → IsToldAt count
            → (b : BehindAt ByReport j live_j count) (r : NextAt ByReport j live_j count b)
            → r.e.time ≤ from + suc count * span ByReport
            → IsHandedIn (newest ++ r.later) i (r.e.time + terms.delivery) (told_in j live_j count b r) → WantedBy i
        handed_in count t b r soon h =
            wanting_in_call hosts terms trace i top_name held window base c.0
            (h.between ++ r.e ∷ (r.between ++ b.grown)) older h.call from by split_w is_w
            (eq-eqb h.call.place i h.place) now_is wants behind in_by where
              more : List (At KeptLine)
              more = r.e ∷ r.between

              part : List (At KeptLine)
              part = more ++ b.part

              older : List (At KeptLine)
              older = h.between ++ part

              k : Keeping
              k = there hosts older i

              kj : Keeping
              kj = there hosts (r.between ++ b.part) j

              st_all : IsStill hosts terms trace newest (r.later ++ more) b.part
              st_all = still_next ByReport j live_j count b r

              st_later : IsStill hosts terms trace newest r.later part
              st_later = still_older hosts terms trace newest r.later more b.part st_all

              last : time_of (window ++ base) ≡ time_of (r.later ++ part)
              last = ap time_of (ap (λ (t : List (At KeptLine)). t ++ base) (window_next ByReport j live_j count b r) ∙ append_assoc r.later (more ++ b.grown) base
                  ∙ ap (λ (t : List (At KeptLine)). r.later ++ r.e ∷ t) (sym (before_next ByReport j live_j count b r)))

              in_by : h.call.time ≤ by
              in_by = let at = h.soon in let m = t.fits in omega (arith, at, soon, m)

              order : AreInOrder (newest ++ (r.later ++ part))
              order = subst AreInOrder st_later.split s.order

              c : (c : List (At KeptLine)) × (r.later ≡ c ++ h.call ∷ h.between)
              c = within newest r.later h.later h.between part h.call order h.split (let le = in_by in let e = last in omega (arith, le, before_end, e))

              split_w : window ≡ c.0 ++ h.call ∷ (h.between ++ (more ++ b.grown))
              split_w =
                  window_next ByReport j live_j count b r ∙ ap (λ (t : List (At KeptLine)). t ++ (more ++ b.grown)) c.1
                  ∙ append_assoc c.0 (h.call ∷ h.between) (more ++ b.grown)

              is_w : older ≡ (h.between ++ (more ++ b.grown)) ++ base
              is_w = ap (λ (t : List (At KeptLine)). h.between ++ r.e ∷ t) (before_next ByReport j live_j count b r) ∙ sym (append_assoc h.between (more ++ b.grown) base)

              whole : trace ≡ (newest ++ c.0) ++ h.call ∷ older
              whole =
                  st_later.split ∙ ap (λ (t : List (At KeptLine)). newest ++ (t ++ part)) c.1
                  ∙ ap (λ (t : List (At KeptLine)). newest ++ t) (append_assoc c.0 (h.call ∷ h.between) part) ∙ sym (append_assoc newest c.0 (h.call ∷ older))

              quiet_older : terms.quiet < time_of older
              quiet_older =
                  quiet_before hosts terms trace s (newest ++ c.0) h.between part h.call whole
                  (quiet_behind hosts terms trace s (newest ++ r.later) more b.part (split_next ByReport j live_j count b r) b.quiet)

              k_held : k.host.is.held ≡ held_by i
              k_held =
                  st_later.same (c.0 ++ h.call ∷ []) h.between i (c.1 ∙ sym (append_assoc c.0 (h.call ∷ []) h.between)) live
                  ∙ st_all.same r.later more i refl live ∙ b.kept i live

              kj_held : kj.host.is.held ≡ held_by j
              kj_held = held_next ByReport j live_j count b r

              kj_told : told_of kj.policy ≡ after_reports (held_by j) count u
              kj_told = state_next ByReport j live_j count b r

              told_page : PageId
              told_page = page_reported kj.host.is.held (told_of kj.policy)

              marks : List MarkValue
              marks = marks_reported kj.host.is.held (told_of kj.policy)

              page_is : told_page ≡ page
              page_is = ap (λ (x : List DrawopValue). page_reported x (told_of kj.policy)) kj_held ∙ ap (page_reported (held_by j)) kj_told ∙ t.page_is

              among : Contains marks mark
              among = subst (λ (x : List MarkValue). Contains x mark)
                  (sym (ap (λ (x : List DrawopValue). marks_reported x (told_of kj.policy)) kj_held ∙ ap (marks_reported (held_by j)) kj_told)) t.among

              other : kj.host.is.number ≡ k.host.is.number → ⊥
              other e =
                  differ (s.distinct j i (sym (of_opening hosts (r.between ++ b.part) j).number ∙ e ∙ (of_opening hosts older i).number))

              report : Datagram
              report = told_in j live_j count b r

              told_so : IsAskedInCall top_name (came h.now report) k ⊎ LacksCredit (after_doing (came h.now report) k)
              told_so =
                  told_wants k h.now kj.host.is.number r.comes.moment told_page marks r.comes.echoes other top_name
                  (in_names k.host.is.number told_page marks page_is among) (record {
                    answers_held = answers_at hosts older i;
                    lacks = ap (λ (x : List DrawopValue). holds x top_name) k_held ∙ lacks;
                    room = room_there hosts terms trace s (newest ++ c.0) older h.call i whole live quiet_older;
                  })

              wants : IsAskedInCall top_name (doing_of h.call.event) k ⊎ LacksCredit (after_doing (doing_of h.call.event) k)
              wants = subst (λ (line : KeptLine). IsAskedInCall top_name (doing_of line) k ⊎ LacksCredit (after_doing (doing_of line) k)) (sym h.is) told_so

              now_is : IsNowAt terms h.call.time i (present (after_doing (doing_of h.call.event) k).host)
              now_is = subst (IsNowAt terms h.call.time i)
                  (sym (ap (λ (line : KeptLine). present (after_doing (doing_of line) k).host) h.is ∙ came_now h.now report k))
                  (subst (SaysNow terms h.call.time i) h.is (told_there hosts terms trace s (newest ++ c.0) older h.call i whole live (eq-eqb h.call.place i h.place)))

              behind : from < h.call.time
              behind =
                  let first = b.behind r.later r.between r.e r.split in
                  let end = ends_before (h.call ∷ h.between) part (ordered hosts terms trace s (newest ++ c.0) (h.call ∷ older) whole) in
                  omega (arith, first, end)

        by_report : WantedBy i
        by_report =
            let t = told_at in
            let count = t.0 in
            let b = behind_at ByReport j live_j count (in_time_at_least ByReport count t.1.fits) in
            let found = next_at ByReport j live_j count b (in_time ByReport count t.1.fits) in
            told_by count t.1 b found.0 found.1 where
              told_by : (count : ℕ) → IsToldAt count
                  → (b : BehindAt ByReport j live_j count) (r : NextAt ByReport j live_j count b)
                  → r.e.time ≤ from + suc count * span ByReport → WantedBy i
              told_by count t b r soon =
                  let older = r.between ++ b.part in
                  let at_j : r.e.place ≡ j = eqb-true r.e.place j r.place in
                  let sent =
                  subst (λ (p : ℕ). Contains (sent_by_doing (doing_of r.e.event) (there hosts older p)) (told_in j live_j count b r))
                  (sym at_j) r.comes.sends in
                  let first = b.behind r.later r.between r.e r.split in
                  let m = t.fits in
                  let end = ends_before newest (window ++ base) (subst AreInOrder still.split s.order) in
                  let last = ap time_of still.split in
                  let q = quiet in
                  handed_in count t b r soon
                  (reports_come hosts (newest ++ r.later) (r.e ∷ older) i (r.e.time + terms.delivery) (told_in j live_j count b r) refl (s.delivered (newest ++ r.later) older r.e i (told_in j live_j count b r) (split_next ByReport j live_j count b r) live (λ same. differ (sym at_j ∙ same))
                  (omega (arith, q, first, since)) sent (omega (arith, soon, m, end, last, before_end))))

      -- which of both
      top_or_turn : (is_lacked : holds (held_by i) d.name ≡ false) → IsHeldBySome hosts terms trace d.name → WantedBy i
      top_or_turn is_lacked held = by_top (holds (held_by i) top_name) refl where
        at_top : IsHeld (held_by j) page d.name.source top
        at_top = top_held (held_by j) d there_d counted

        by_top : (b : Bool) → holds (held_by i) top_name ≡ b → WantedBy i
        by_top true has =
            by_turn d.name held is_lacked
            (missing_below (held_by i) d.name top counted (below_top (held_by j) d there_d counted) is_lacked (held-by (held_by i) page d.name.source top has))
        by_top false lacks =
            by_report lacks (was_held hosts terms trace (newest ++ window) base j top_name s split_base live_j (held-from (held_by j) page d.name.source top at_top))

    -- ---- any name

    lack_is_wanted_here : (n : NameValue) → IsHeldBySome hosts terms trace n → holds (held_by i) n ≡ false → WantedBy i
    lack_is_wanted_here n held lacks = by_holder held.0 held.1 held.2 where
      by_holder : (j : ℕ) → Contains terms.live j
          → holds (host_after (λ k. start_of (hosts k)) (until (settled_by terms) (performed hosts trace)) j).is.held n ≡ true
          → WantedBy i
      by_holder j live_j has =
          top_or_turn j live_j (λ same. true≢false (sym holds_j ∙ ap (λ (k : ℕ). holds (held_by k) n) same ∙ lacks)) d there_d (numbered d there_d).0 top_small
          (subst (λ (m : NameValue). holds (held_by i) m ≡ false) (sym name_is) lacks) (subst (IsHeldBySome hosts terms trace) (sym name_is) held) where
            by_now : (b : Bool) → holds (held_by j) n ≡ b → b ≡ true
            by_now true e = refl
            by_now false e =
                let before = lacked_until hosts (newest ++ window) base (settled_by terms) j n (subst AreInOrder split_base s.order) settled e in
                absurd (true≢false (sym has ∙ ap (λ (t : List (At KeptLine)). holds (host_after (λ k. start_of (hosts k)) (until (settled_by terms) (performed hosts t)) j).is.held n) split_base ∙ before))

            holds_j : holds (held_by j) n ≡ true
            holds_j = by_now (holds (held_by j) n) refl

            at_n : IsHeld (held_by j) n.page n.source n.seq
            at_n = held-by (held_by j) n.page n.source n.seq holds_j

            d : DrawopValue
            d = at_n.1

            name_is : d.name ≡ n
            name_is = at_n.4

            there_d : Contains (held_by j) d
            there_d = (at_n.0, at_n.2, at_n.3)

            numbered : (x : DrawopValue) → Contains (held_by j) x → (1 ≤ x.name.seq) × (x.name.seq < 2147483648)
            numbered x c = small.named (newest ++ window) base j x split_base live_j quiet c

            at_top : IsHeld (held_by j) d.name.page d.name.source (highest d.name.page d.name.source (held_by j))
            at_top = top_held (held_by j) d there_d (numbered d there_d).0

            top_small : highest d.name.page d.name.source (held_by j) < 2147483648
            top_small =
                let small_top = (numbered at_top.1 (at_top.0, at_top.2, at_top.3)).1 in
                let e = ap (λ (m : NameValue). m.seq) at_top.4 in
                omega (arith, small_top, e)

pub lack_is_wanted : HeldWasHeld → LackIsWanted
lack_is_wanted was_held hosts terms trace newest window base sizes wait most i from n all still late live held lacks since before_end =
    lack_is_wanted_here was_held hosts terms trace newest window base sizes most all.session all.within all.soon still
    (settled terms (time_of base) wait late.known) late.since from since before_end i live n held lacks where
      settled : (terms : Terms) (time wait : ℕ) → known_from terms + wait + repairing terms ≤ time → settled_by terms < time
      settled terms time wait le = omega (arith, le)
