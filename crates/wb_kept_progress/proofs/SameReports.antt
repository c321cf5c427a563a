-- If live hosts report the same of each page, each holds the last number of each source, and lacks nothing but numbers below that.
use Rattle.std.proofs.Common.{◌≡◌, ℕ, ◌+◌, ◌<◌, ◌≤◌, Bool, true, false, List, [], ◌++◌, ◌∙◌, ap, arith, refl, subst, sym, true≢false}
use Rattle.std.specs.Prelude.{Contains}
use Rattle.wb_names.specs.History.{IsHeld, highest, name_of}
use Rattle.wb_names.specs.Values.{DrawopValue, MarkValue, NameValue}
use Rattle.wb_names.specs.declared.name.PageId.{PageId}
use Rattle.wb_gaps.specs.Answers.{top_mark}
use Rattle.wb_gaps.specs.Gaps.{IsMissing}
use Rattle.wb_gaps.proofs.HeldNames.{held-from}
use Rattle.wb_progress.specs.Turns.{Terms, settled_by}
use Rattle.wb_progress.proofs.Giving.{held_as}
use Rattle.wb_keeper.specs.Keeper.{holds}
use Rattle.wb_policy.proofs.HeldTops.{below_top, top_told}
use Rattle.wb_kept_progress.specs.Filling.{ReportTheSame, SameReportsLeaveHoles}
use Rattle.wb_kept_progress.specs.Promises.{host_then}
use Rattle.wb_kept_progress.specs.Sessions.{Opening}
use Rattle.wb_kept_progress.specs.Timed.{AreInOrder, At, performed, time_of, until}
use Rattle.wb_kept_progress.specs.Whole.{IsHeldBySome, IsTimelySession, there}
use Rattle.wb_kept_progress.proofs.Becoming.{held_on}
use Rattle.wb_kept_progress.proofs.CallParts.{lacked_until}
use Rattle.wb_kept_progress.proofs.Coming.{missing_below}
use Rattle.wb_kept_progress.proofs.ToldHeld.{report_held}
use Rattle.wb_keeping.specs.Laws.{KeptLine}
use Rattle.wb_progress.proofs.Parts.{in_past}

module _ (hosts : ℕ → Opening) (terms : Terms) (trace newer calls : List (At KeptLine)) (session : IsTimelySession hosts terms trace) (split : trace ≡ newer ++ calls) (settled : settled_by terms < time_of calls) where
  -- what some live host held at first it holds then
  pub still_held : (n : NameValue) (some : IsHeldBySome hosts terms trace n) → holds (there hosts calls some.0).host.is.held n ≡ true
  still_held n some = by (holds (there hosts calls some.0).host.is.held n) refl where
    by : (b : Bool) → holds (there hosts calls some.0).host.is.held n ≡ b → b ≡ true
    by true e = refl
    by false e =
        let lacked = lacked_until hosts newer calls (settled_by terms) some.0 n (subst AreInOrder split session.order) settled e in
        absurd (true≢false (sym some.2 ∙ ap (λ (t : List (At KeptLine)). holds (host_then hosts (until (settled_by terms) (performed hosts t)) some.0).is.held n) split ∙ lacked))

  module _ (same : ReportTheSame hosts terms calls) (newest older : List (At KeptLine)) (i j : ℕ) (d : DrawopValue) (split_older : trace ≡ newest ++ older) (live : Contains terms.live i) (live_j : Contains terms.live j) (late : time_of calls + 1 ≤ time_of older)
      (held : Contains (there hosts calls j).host.is.held d) (counted : 1 ≤ d.name.seq) where
    abbrev one : List DrawopValue
    one = (there hosts calls i).host.is.held

    abbrev other : List DrawopValue
    other = (there hosts calls j).host.is.held

    abbrev then : List DrawopValue
    then = (there hosts older i).host.is.held

    abbrev page : PageId
    page = d.name.page

    abbrev source : ℕ
    source = d.name.source

    abbrev top : ℕ
    top = highest page source other

    -- the report of the one has the last number of the source
    top_then : IsHeld one page source top
    top_then = report_held one page (top_mark other page source) (subst (λ (marks : List MarkValue). Contains marks (top_mark other page source)) (same j i page live_j live) (top_told other d held counted))

    within : (middle : List (At KeptLine)) × (older ≡ middle ++ calls)
    within = in_past newest older newer calls (sym split_older ∙ split) (subst AreInOrder split_older session.order) (omega (arith, late))

    top_held : IsHeld then page source top
    top_held =
        let name = name_of page source top in
        let on = held_on hosts within.0 calls i name (held-from one page source top top_then) in
        let x = held_as then name (subst (λ (t : List (At KeptLine)). holds (there hosts t i).host.is.held name ≡ true) (sym within.1) on) in
        (x.1.0, x.0, x.1.1, x.1.2, x.2)

    pub is_missing : holds then d.name ≡ false → IsMissing then d.name.page [] d.name.source d.name.seq
    is_missing lacks = missing_below then d.name top counted (below_top other d held counted) lacks top_held

pub same_reports_leave_holes : SameReportsLeaveHoles
same_reports_leave_holes hosts terms trace newer calls session split settled same counted newest older i n split_older live late some lacks =
    let x = held_as (there hosts calls some.0).host.is.held n (still_held hosts terms trace newer calls session split settled n some) in
    subst (λ (m : NameValue). holds (there hosts older i).host.is.held m ≡ false → IsMissing (there hosts older i).host.is.held m.page [] m.source m.seq) x.2
    (is_missing hosts terms trace newer calls session split settled same newest older i some.0 x.0 split_older live some.1 late x.1 (subst (λ (m : NameValue). 1 ≤ m.seq) (sym x.2) (counted n some))) lacks
