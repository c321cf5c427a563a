-- A live host tells what it holds in time, whatever comes meanwhile: each report brings it nearer to its turn, among the marks that the board of the host
-- has at the end.
use Rattle.std.proofs.Common.{◌≡◌, ℕ, zero, suc, ◌+◌, ◌*◌, ◌<◌, ◌≤◌, List, [], ◌∷◌, ◌++◌, ◌∙◌, ap, append-nil, append_assoc, arith, eqb-true, inl, inr, refl, subst, sym, ⊎_elim}
use Rattle.std.specs.Prelude.{◌⊎◌, Contains}
use Rattle.wb_names.specs.History.{highest}
use Rattle.wb_names.specs.Values.{DrawopValue, NameValue}
use Rattle.wb_names.specs.declared.name.PageId.{PageId}
use Rattle.wb_codec.specs.declared.datagram.Datagram.{Datagram}
use Rattle.wb_codec.specs.declared.datagram.Datagram.TheVariants.{Session}
use Rattle.wb_gaps.specs.Answers.{top_mark}
use Rattle.wb_progress.specs.Turns.{Terms}
use Rattle.wb_policy.specs.Fairness.{after_reporting, marks_reported, page_reported, slices_of}
use Rattle.wb_policy.specs.declared.reports.Told.{Told}
use Rattle.wb_keeping.specs.Laws.{KeptLine, doing_of}
use Rattle.wb_keeping.specs.Performing.{Keeping, after_doing, sent_by_doing}
use Rattle.wb_policy.proofs.HeldTops.{below_top, top_held}
use Rattle.wb_kept_progress.specs.Sessions.{Opening}
use Rattle.wb_kept_progress.specs.Telling.{EndsAtMark, HasMark, HeldNumbersAreTold, IsTold, LastNumbersAreTold}
use Rattle.wb_kept_progress.specs.Timed.{AreInOrder, At, time_of}
use Rattle.wb_kept_progress.specs.Whole.{IsTimelySession, ReportWithin, sends_then, there}
use Rattle.wb_kept_progress.proofs.Leaving.{told_of}
use Rattle.wb_kept_progress.proofs.NextDue.{ordered, quiet_behind, there_here}
use Rattle.wb_kept_progress.proofs.Repairs.{of_opening}
use Rattle.wb_kept_progress.proofs.TellingCalls.{FirstReport, calls_grow, next_report, ends_there_at}
use Rattle.wb_kept_progress.proofs.TellingGrows.{GrowsTo, TellsMark, comes_nearer, few_left_at_first, left, one_left, ends_later}
use Rattle.wb_progress.proofs.Parts.{before_end as ends_before}

module _ (hosts : ℕ → Opening) (terms : Terms) (trace newest window base : List (At KeptLine)) (since pause j : ℕ) (d : DrawopValue)
    (s : IsTimelySession hosts terms trace) (within : ReportWithin hosts terms trace since pause) (split_all : trace ≡ newest ++ (window ++ base)) (live : Contains terms.live j)
    (late : terms.quiet < time_of base) (behind_since : since ≤ time_of base) (there_d : Contains (there hosts base j).host.is.held d) (counted : 1 ≤ d.name.seq)
    (by : ℕ) (before_end : by < time_of (window ++ base)) where
  abbrev page : PageId
  page = d.name.page

  abbrev source : ℕ
  source = d.name.source

  -- what the host holds at the end
  abbrev whole : List DrawopValue
  whole = (there hosts (window ++ base) j).host.is.held

  abbrev span : ℕ
  span = pause + terms.late

  abbrev told_at : List (At KeptLine) → Told
  told_at calls = told_of (there hosts calls j).policy

  has : (more : List (At KeptLine)) → HasMark (there hosts (more ++ base) j).host.is.held page source
  has more = record { d = d; there = calls_grow hosts more base j d there_d; on = refl; by = refl; counted = counted }

  -- its mark is reported, as it is after some of the calls
  record IsToldThen : Type 0 where
    newer : List (At KeptLine)
    older : List (At KeptLine)
    split : window ++ base ≡ newer ++ older
    holds_it : Contains (there hosts older j).host.is.held d
    told : IsTold hosts window base j by page (top_mark (there hosts older j).host.is.held page source)

  -- a part of the window, with a report that comes next
  module _ (front grown part : List (At KeptLine)) (is : part ≡ grown ++ base) (split : window ≡ front ++ grown) (r : FirstReport hosts j front part) (soon : r.e.time ≤ by) where
    abbrev older : List (At KeptLine)
    older = r.between ++ part

    abbrev now : List (At KeptLine)
    now = r.e ∷ older

    abbrev k : Keeping
    k = there hosts older j

    abbrev held_now : List DrawopValue
    held_now = (there hosts now j).host.is.held

    abbrev told_before : Told
    told_before = told_at part

    now_is : there hosts now j ≡ after_doing (doing_of r.e.event) k
    now_is = there_here hosts r.e older j r.place

    between_is : older ≡ (r.between ++ grown) ++ base
    between_is = ap (λ (t : List (At KeptLine)). r.between ++ t) is ∙ sym (append_assoc r.between grown base)

    window_is : window ≡ r.later ++ r.e ∷ (r.between ++ grown)
    window_is = split ∙ ap (λ (t : List (At KeptLine)). t ++ grown) r.split ∙ append_assoc r.later (r.e ∷ r.between) grown

    base_is : now ≡ (r.e ∷ (r.between ++ grown)) ++ base
    base_is = ap (λ (t : List (At KeptLine)). r.e ∷ t) between_is

    end_is : window ++ base ≡ r.later ++ now
    end_is = ap (λ (t : List (At KeptLine)). t ++ base) window_is ∙ append_assoc r.later (r.e ∷ (r.between ++ grown)) base ∙ ap (λ (t : List (At KeptLine)). r.later ++ t) (sym base_is)

    trace_is : trace ≡ (newest ++ r.later) ++ now
    trace_is = split_all ∙ ap (λ (t : List (At KeptLine)). newest ++ t) end_is ∙ sym (append_assoc newest r.later now)

    not_before : time_of base ≤ r.e.time
    not_before = subst (λ (t : List (At KeptLine)). time_of base ≤ time_of t) (sym base_is) (ends_before (r.e ∷ (r.between ++ grown)) base (subst (λ (t : List (At KeptLine)). AreInOrder t) base_is (ordered hosts terms trace s (newest ++ r.later) now trace_is)))

    grows_now : GrowsTo held_now whole
    grows_now x c = subst (λ (t : List (At KeptLine)). Contains (there hosts t j).host.is.held x) (sym end_is) (calls_grow hosts r.later now j x c)

    has_now : HasMark held_now page source
    has_now = subst (λ (t : List (At KeptLine)). HasMark (there hosts t j).host.is.held page source) (sym base_is) (has (r.e ∷ (r.between ++ grown)))

    ends_now : EndsAtMark held_now told_before
    ends_now = ends_later k.host.is.held held_now told_before (calls_grow hosts (r.e ∷ []) older j) (subst (EndsAtMark k.host.is.held) r.told (ends_there_at hosts older j))

    told_now : told_at now ≡ after_reporting held_now told_before
    told_now =
        ap (λ (x : Keeping). told_of x.policy) now_is ∙ r.reports.told
        ∙ ap (λ (x : Keeping). after_reporting x.host.is.held (told_of k.policy)) (sym now_is)
        ∙ ap (after_reporting held_now) r.told

    -- it tells the number, or fewer are left
    tells : TellsMark whole page source held_now told_before → IsToldThen
    tells tells_it = record {
      newer = r.later;
      older = now;
      split = end_is;
      holds_it = d_now;
      told = record {
        later = r.later;
        e = r.e;
        between = r.between ++ grown;
        split = window_is;
        place = r.place;
        after = not_before;
        soon = soon;
        sent = r.reports.moment;
        marks = marks_reported held_now told_before;
        echoes = r.reports.echoes;
        report = subst (λ (t : List (At KeptLine)). Contains (sends_then hosts t r.e) report) between_is report_there;
        among = tells_it.1;
      };
    } where
      report : Datagram
      report = Session (hosts j).number r.reports.moment page (marks_reported held_now told_before) r.reports.echoes

      d_now : Contains held_now d
      d_now = subst (λ (t : List (At KeptLine)). Contains (there hosts t j).host.is.held d) (sym base_is) (calls_grow hosts (r.e ∷ (r.between ++ grown)) base j d there_d)

      same : Session k.host.is.number r.reports.moment (page_reported (after_doing (doing_of r.e.event) k).host.is.held (told_of k.policy)) (marks_reported (after_doing (doing_of r.e.event) k).host.is.held (told_of k.policy)) r.reports.echoes ≡ report
      same =
          ap (λ (x : Keeping). Session k.host.is.number r.reports.moment (page_reported x.host.is.held (told_of k.policy)) (marks_reported x.host.is.held (told_of k.policy)) r.reports.echoes) (sym now_is)
          ∙ ap (λ (t : Told). Session k.host.is.number r.reports.moment (page_reported held_now t) (marks_reported held_now t) r.reports.echoes) r.told
          ∙ ap (λ (p : PageId). Session k.host.is.number r.reports.moment p (marks_reported held_now told_before) r.reports.echoes) tells_it.0
          ∙ ap (λ (me : ℕ). Session me r.reports.moment page (marks_reported held_now told_before) r.reports.echoes) (of_opening hosts older j).number

      report_there : Contains (sends_then hosts older r.e) report
      report_there =
          subst (λ (p : ℕ). Contains (sent_by_doing (doing_of r.e.event) (there hosts older p)) report) (sym (eqb-true r.e.place j r.place))
          (subst (λ (v : Datagram). Contains (sent_by_doing (doing_of r.e.event) k) v) same r.reports.sends)

    tells_or_nearer : IsToldThen ⊎ (left whole page source (told_at now) + 1 ≤ left whole page source told_before)
    tells_or_nearer = ⊎_elim
        (λ (told : TellsMark whole page source held_now told_before). inl (tells told))
        (λ (fewer : left whole page source (after_reporting held_now told_before) + 1 ≤ left whole page source told_before). inr (subst (λ (t : Told). left whole page source t + 1 ≤ left whole page source told_before) (sym told_now) fewer))
        (comes_nearer whole page source held_now grows_now has_now told_before ends_now)

  -- ---- one after the other

  -- from a part on, in which the next report is due in time, one of `count` tells it
  abbrev Goes : ℕ → Type 0
  Goes count = (front grown part : List (At KeptLine)) (x : ℕ) → part ≡ grown ++ base → window ≡ front ++ grown → time_of base ≤ time_of part → time_of part ≤ x
      → (there hosts part j).policy.reports.due + terms.lag j ≤ x + pause → left whole page source (told_at part) ≤ count → x + count * span ≤ by → IsToldThen

  goes : (count : ℕ) → Goes count
  goes zero front grown part x is split after from due_by few fits = absurd (let one = one_left whole page source (told_at part) (has window) in omega (arith, one, few))
  goes (suc count) front grown part x is split after from due_by few fits =
      next (goes count) (next_report hosts j terms trace s live newest front part x pause trace_here (omega (arith, late, after)) from due_by (omega (arith, fits, before_end, end_time))) where
        end_here : window ++ base ≡ front ++ part
        end_here = ap (λ (t : List (At KeptLine)). t ++ base) split ∙ append_assoc front grown base ∙ ap (λ (t : List (At KeptLine)). front ++ t) (sym is)

        end_time : time_of (window ++ base) ≡ time_of (front ++ part)
        end_time = ap time_of end_here

        trace_here : trace ≡ newest ++ (front ++ part)
        trace_here = split_all ∙ ap (λ (t : List (At KeptLine)). newest ++ t) end_here

        next : Goes count → (r : FirstReport hosts j front part) × (r.e.time ≤ x + span) → IsToldThen
        next rest found =
            let r = found.0 in
            let soon = found.1 in
            let behind = not_before front grown part is split r (omega (arith, soon, fits)) in
            let due = within (newest ++ r.later) (r.e ∷ (r.between ++ part)) j (trace_is front grown part is split r (omega (arith, soon, fits))) live in
            ⊎_elim
            (λ (told : IsToldThen). told)
            (λ (fewer : left whole page source (told_at (r.e ∷ (r.between ++ part))) + 1 ≤ left whole page source (told_at part)).
            rest r.later (r.e ∷ (r.between ++ grown)) (r.e ∷ (r.between ++ part)) (x + span) (base_is front grown part is split r (omega (arith, soon, fits))) (window_is front grown part is split r (omega (arith, soon, fits)))
            behind soon (omega (arith, due, soon, behind, behind_since)) (omega (arith, fewer, few)) (omega (arith, fits)))
            (tells_or_nearer front grown part is split r (omega (arith, soon, fits)))

  goes_all : (slices : ℕ) → slices_of whole ≤ slices → time_of base + 4 * slices * span ≤ by → IsToldThen
  goes_all slices few fits =
      let due = within (newest ++ window) base j (split_all ∙ sym (append_assoc newest window base)) live in
      let most = few_left_at_first whole page source (told_at base) (has window) in
      goes (4 * slices) window [] base (time_of base) refl (sym (append-nil window)) (omega arith) (omega arith) (omega (arith, due, behind_since)) (omega (arith, most, few)) fits

  -- it is the number, or a greater one
  is_greater : IsToldThen → (high : ℕ) × (d.name.seq ≤ high) × IsTold hosts window base j by page (record { source = source; high = high })
  is_greater r = let held = (there hosts r.older j).host.is.held in (highest page source held, below_top held d r.holds_it counted, r.told)

  -- and the number if it stays the last
  is_last : ((newer older : List (At KeptLine)) (x : DrawopValue) → window ++ base ≡ newer ++ older → Contains (there hosts older j).host.is.held x → x.name.page ≡ d.name.page → x.name.source ≡ d.name.source → x.name.seq ≤ d.name.seq)
      → IsToldThen → IsTold hosts window base j by page (record { source = source; high = d.name.seq })
  is_last last r = subst (λ (n : ℕ). IsTold hosts window base j by page (record { source = source; high = n })) top r.told where
    held : List DrawopValue
    held = (there hosts r.older j).host.is.held

    top : highest page source held ≡ d.name.seq
    top =
        let at_top = top_held held d r.holds_it counted in
        let most = last r.newer r.older at_top.1 r.split (at_top.0, at_top.2, at_top.3) (ap (λ (n : NameValue). n.page) at_top.4) (ap (λ (n : NameValue). n.source) at_top.4) in
        let number : at_top.1.name.seq ≡ highest page source held = ap (λ (n : NameValue). n.seq) at_top.4 in
        let least = below_top held d r.holds_it counted in
        omega (arith, most, number, least)

  module _ (slices : ℕ) (few : slices_of whole ≤ slices) (fits : time_of base + 4 * slices * span ≤ by) where
    pub told_or_greater : (high : ℕ) × (d.name.seq ≤ high) × IsTold hosts window base j by page (record { source = source; high = high })
    told_or_greater = is_greater (goes_all slices few fits)

    pub told_as_last : ((newer older : List (At KeptLine)) (x : DrawopValue) → window ++ base ≡ newer ++ older → Contains (there hosts older j).host.is.held x → x.name.page ≡ d.name.page → x.name.source ≡ d.name.source → x.name.seq ≤ d.name.seq)
        → IsTold hosts window base j by page (record { source = source; high = d.name.seq })
    told_as_last last = is_last last (goes_all slices few fits)

pub held_numbers_are_told : HeldNumbersAreTold
held_numbers_are_told hosts terms trace newest window base slices since pause j d s within have split live late behind_since there_d counted before_end =
    told_or_greater hosts terms trace newest window base since pause j d s within split live late behind_since there_d counted
    (time_of base + 4 * slices * (pause + terms.late)) before_end slices
    (have newest (window ++ base) j split live (quiet_behind hosts terms trace s newest window base split late)) (omega arith)

pub last_numbers_are_told : LastNumbersAreTold
last_numbers_are_told hosts terms trace newest window base slices since pause j d s within have split live late behind_since there_d counted last before_end =
    told_as_last hosts terms trace newest window base since pause j d s within split live late behind_since there_d counted
    (time_of base + 4 * slices * (pause + terms.late)) before_end slices
    (have newest (window ++ base) j split live (quiet_behind hosts terms trace s newest window base split late)) (omega arith) last
