-- Live hosts hold the last number of each source once they have asked for more names than they do, and once more has come than they lack. So a session becomes whole.
use Rattle.std.proofs.Common.{◌≡◌, ℕ, ◌+◌, ◌*◌, ◌<◌, ◌≤◌, Bool, true, false, List, [], ◌∷◌, ◌++◌, ◌∙◌, ap, append_assoc, arith, inl, inr, refl, subst, sym, ⊎_elim}
use Rattle.std.specs.Prelude.{◌⊎◌, Contains}
use Rattle.std.proofs.lemmas.Bool.{cases_lt}
use Rattle.std.proofs.Math.Nat.{le_refl}
use Rattle.wb_names.specs.History.{IsHeld, highest, name_of}
use Rattle.wb_names.specs.Values.{DrawopValue, NameValue}
use Rattle.wb_names.specs.declared.name.PageId.{PageId}
use Rattle.wb_names.proofs.Listings.{Contains-cases, Contains-here, Contains-none, Contains-there}
use Rattle.wb_gaps.specs.Gaps.{IsMissing}
use Rattle.wb_gaps.proofs.HeldNames.{held-from}
use Rattle.wb_gaps.proofs.Reports.{greatest_held}
use Rattle.wb_progress.specs.Turns.{Terms, settled_by}
use Rattle.wb_progress.proofs.Giving.{held_as}
use Rattle.wb_keeper.specs.Keeper.{holds}
use Rattle.wb_policy.proofs.HeldTops.{below_top}
use Rattle.wb_kept_progress.specs.Rounds.{OneLacksAtMost}
use Rattle.wb_kept_progress.specs.Sessions.{Opening}
use Rattle.wb_kept_progress.specs.Telling.{HaveSlices, LastNumbersAreTold}
use Rattle.wb_kept_progress.specs.Timed.{At, time_of}
use Rattle.wb_kept_progress.specs.Topped.{AreNumbered, AskAtMost, SessionsBecomeWholeAnyway, SessionsBecomeWholeSoon, TopsAreHeldAnyway, TopsAreHeldSoon, asks_since, gained_by, gaining_span, topped_by, window_span, windows_from}
use Rattle.wb_kept_progress.specs.Whole.{HolesAreHeld, IsHeldBySome, IsTimelySession, ReportWithin, WaitAtMost, request_span, there, turn_span}
use Rattle.wb_kept_progress.proofs.Becoming.{lacked_before}
use Rattle.wb_kept_progress.proofs.Coming.{missing_below}
use Rattle.wb_kept_progress.proofs.InCrowds.{few_lacked}
use Rattle.wb_kept_progress.proofs.NothingNew.{held_was_held}
use Rattle.wb_kept_progress.proofs.OwedAndDue.{next_by_turn}
use Rattle.wb_kept_progress.proofs.RoundCounts.{IsThen, then_at}
use Rattle.wb_kept_progress.proofs.SameReports.{still_held}
use Rattle.wb_kept_progress.proofs.TopGains.{Gained, gained}
use Rattle.wb_kept_progress.proofs.TopWindows.{many_asks}
use Rattle.wb_kept_progress.proofs.Waking.{holes_are_filled}
use Rattle.wb_keeping.specs.Laws.{KeptLine}

-- ---- the greatest of some

-- one of them than which none is greater
record IsGreatest (places : List ℕ) (f : ℕ → ℕ) : Type 0 where
  place : ℕ
  among : Contains places place
  most : (other : ℕ) → Contains places other → f other ≤ f place

greatest : (places : List ℕ) (f : ℕ → ℕ) (one : ℕ) → Contains places one → IsGreatest places f
greatest [] f one c = absurd (Contains-none one c)
greatest (p ∷ []) f one c = record {
  place = p;
  among = Contains-here p [];
  most = λ other d. ⊎_elim (λ (same : p ≡ other). let is = ap f same in omega (arith, is)) (λ (none : Contains [] other). absurd (Contains-none other none)) (Contains-cases p other [] d);
}
greatest (p ∷ (x ∷ places)) f one c = by (greatest (x ∷ places) f x (Contains-here x places)) where
  by : IsGreatest (x ∷ places) f → IsGreatest (p ∷ (x ∷ places)) f
  by g = ⊎_elim
      (λ (more : f g.place < f p). record {
        place = p;
        among = Contains-here p (x ∷ places);
        most = λ other d. ⊎_elim (λ (same : p ≡ other). let is = ap f same in omega (arith, is)) (λ (old : Contains (x ∷ places) other). let le = g.most other old in omega (arith, le, more)) (Contains-cases p other (x ∷ places) d);
      })
      (λ (less : f p ≤ f g.place). record {
        place = g.place;
        among = Contains-there p g.place (x ∷ places) g.among;
        most = λ other d. ⊎_elim (λ (same : p ≡ other). let is = ap f same in omega (arith, is, less)) (λ (old : Contains (x ∷ places) other). g.most other old) (Contains-cases p other (x ∷ places) d);
      })
      (cases_lt (f g.place) (f p))

-- ---- the last number of a source

module _ (hosts : ℕ → Opening) (terms : Terms) (trace newer older : List (At KeptLine)) (session : IsTimelySession hosts terms trace) (split : trace ≡ newer ++ older) (settled : settled_by terms < time_of older) (n : NameValue) (some : IsHeldBySome hosts terms trace n)
    (counted : 1 ≤ n.seq) where
  abbrev held_at : ℕ → List DrawopValue
  held_at j = (there hosts older j).host.is.held

  -- what a live host held at first it holds then
  its : (m : NameValue) (s : IsHeldBySome hosts terms trace m) → (d : DrawopValue) × Contains (held_at s.0) d × (d.name ≡ m)
  its m s = held_as (held_at s.0) m (still_held hosts terms trace newer older session split settled m s)

  abbrev most_at : ℕ → ℕ
  most_at j = highest n.page n.source (held_at j)

  -- none of its row is above what its holder holds
  under : (m : NameValue) (s : IsHeldBySome hosts terms trace m) → m.page ≡ n.page → m.source ≡ n.source → 1 ≤ m.seq → m.seq ≤ most_at s.0
  under m s page source one = by (its m s) where
    by : (d : DrawopValue) × Contains (held_at s.0) d × (d.name ≡ m) → m.seq ≤ most_at s.0
    by x =
        subst (λ (g : PageId). m.seq ≤ highest g n.source (held_at s.0)) page
        (subst (λ (o : ℕ). m.seq ≤ highest m.page o (held_at s.0)) source
        (subst (λ (y : NameValue). y.seq ≤ highest y.page y.source (held_at s.0)) x.2
        (below_top (held_at s.0) x.0 x.1 (subst (λ (y : NameValue). 1 ≤ y.seq) (sym x.2) one))))

  g : IsGreatest terms.live most_at
  g = greatest terms.live most_at some.0 some.1

  abbrev top : NameValue
  top = name_of n.page n.source (most_at g.place)

  -- it is held
  top_some : IsHeldBySome hosts terms trace top
  top_some = held_was_held hosts terms trace newer older g.place top session split g.among (held-from (held_at g.place) n.page n.source (most_at g.place) reached) where
    first : n.seq ≤ most_at g.place
    first = let a = under n some refl refl counted in let b = g.most some.0 some.1 in omega (arith, a, b)

    reached : IsHeld (held_at g.place) n.page n.source (most_at g.place)
    reached = by (greatest_held (held_at g.place) n.page n.source).reached where
      by : (most_at g.place ≡ 0) ⊎ IsHeld (held_at g.place) n.page n.source (most_at g.place) → IsHeld (held_at g.place) n.page n.source (most_at g.place)
      by (inl none) = let le = first in absurd (omega (arith, none, le, counted))
      by (inr is) = is

  -- and it is the last
  top_last : ((m : NameValue) → IsHeldBySome hosts terms trace m → 1 ≤ m.seq) → (m : NameValue) → IsHeldBySome hosts terms trace m → m.page ≡ top.page → m.source ≡ top.source → m.seq ≤ top.seq
  top_last numbered m s page source = let a = under m s page source (numbered m s) in let b = g.most s.0 s.1 in omega (arith, a, b)

-- ---- the laws

module _ (told : LastNumbersAreTold) (hosts : ℕ → Opening) (terms : Terms) (trace : List (At KeptLine)) (since wait slices pause : ℕ) (session : IsTimelySession hosts terms trace) (waits : WaitAtMost hosts terms trace wait)
    (reports : ReportWithin hosts terms trace since pause) (have : HaveSlices hosts terms trace slices) (numbered : AreNumbered hosts terms trace) where
  abbrev start : ℕ
  start = windows_from terms since wait

  -- a live host lacks a name then that another holds, so one of the row is the last
  module _ (newer older : List (At KeptLine)) (i : ℕ) (n : NameValue) (split : trace ≡ newer ++ older) (late : start < time_of older) (live : Contains terms.live i) (some : IsHeldBySome hosts terms trace n) where
    settled : settled_by terms < time_of older
    settled = omega (arith, late)

    abbrev m : NameValue
    m = top hosts terms trace newer older session split settled n some (numbered n some).0

    m_some : IsHeldBySome hosts terms trace m
    m_some = top_some hosts terms trace newer older session split settled n some (numbered n some).0

    m_last : (x : NameValue) → IsHeldBySome hosts terms trace x → x.page ≡ m.page → x.source ≡ m.source → x.seq ≤ m.seq
    m_last = top_last hosts terms trace newer older session split settled n some (numbered n some).0 (λ x s. (numbered x s).0)

    -- if it holds that one, it lacks a number below
    is_missing : holds (there hosts older i).host.is.held m ≡ true → holds (there hosts older i).host.is.held n ≡ false → IsMissing (there hosts older i).host.is.held n.page [] n.source n.seq
    is_missing holds_it lacks =
        let x = held_as (there hosts older i).host.is.held m holds_it in
        missing_below (there hosts older i).host.is.held n m.seq (numbered n some).0 (m_last n some refl refl) lacks (x.1.0, x.0, x.1.1, x.1.2, x.2)

    unless : (holds (there hosts older i).host.is.held m ≡ false → ⊥) → holds (there hosts older i).host.is.held n ≡ false → IsMissing (there hosts older i).host.is.held n.page [] n.source n.seq
    unless never lacks = is_missing (by (holds (there hosts older i).host.is.held m) refl) lacks where
      by : (b : Bool) → holds (there hosts older i).host.is.held m ≡ b → b ≡ true
      by true e = refl
      by false e = absurd (never e)

    -- ---- more is asked for than a host asks for

    module _ (asks windows : ℕ) (few : AskAtMost hosts terms trace start asks) (enough : asks < 64 * windows) (later : start + windows * window_span terms slices pause < time_of older) (lacks : holds (there hosts older i).host.is.held m ≡ false) where
      abbrev time : ℕ
      time = start + windows * window_span terms slices pause

      v : IsThen older time
      v = then_at older time later

      split_v : trace ≡ (newer ++ v.front) ++ v.next ∷ v.part
      split_v = split ∙ ap (λ (l : List (At KeptLine)). newer ++ l) v.split ∙ sym (append_assoc newer v.front (v.next ∷ v.part))

      lacks_v : holds (there hosts (v.next ∷ v.part) i).host.is.held m ≡ false
      lacks_v = lacked_before hosts v.front (v.next ∷ v.part) i m (subst (λ (l : List (At KeptLine)). holds (there hosts l i).host.is.held m ≡ false) v.split lacks)

      in_part : (front part : List (At KeptLine)) → asks_since hosts start i part ≤ asks_since hosts start i (front ++ part)
      in_part [] part = omega arith
      in_part (e ∷ front) part = let rest = in_part front part in omega (arith, rest)

      too_many : ⊥
      too_many =
          let many = many_asks told hosts terms trace since wait slices pause start (window_span terms slices pause) i m (le_refl start) (le_refl (window_span terms slices pause)) session waits reports have live m_some m_last
          (numbered m m_some).0 (numbered m m_some).1 windows (newer ++ v.front) v.part v.next split_v v.by v.after lacks_v in
          let all = few i live in
          let part = subst (λ (l : List (At KeptLine)). asks_since hosts start i v.part ≤ asks_since hosts start i l)
          (append_assoc (newer ++ v.front) (v.next ∷ []) v.part ∙ sym split_v) (in_part ((newer ++ v.front) ++ v.next ∷ []) v.part) in
          omega (arith, many, all, part, enough)

    -- ---- more comes than it lacks

    module _ (crowds most : ℕ) (lacks_most : OneLacksAtMost hosts terms trace most) (holes_held : HolesAreHeld hosts terms trace) (enough : 64 * 250000 + (16000000 + terms.late) + crowds * (2 * request_span terms) < crowds * (64 * 250000))
        (later : start + turn_span terms + most * gaining_span terms slices pause crowds < time_of older) (lacks : holds (there hosts older i).host.is.held m ≡ false) where
      b : IsThen older start
      b = then_at older start late

      abbrev base : List (At KeptLine)
      base = b.next ∷ b.part

      split_base : trace ≡ (newer ++ b.front) ++ base
      split_base = split ∙ ap (λ (l : List (At KeptLine)). newer ++ l) b.split ∙ sym (append_assoc newer b.front base)

      -- the first call after the start comes soon
      begins : b.next.time ≤ start + turn_span terms
      begins =
          let after = b.after in
          let by = b.by in
          let soon = next_by_turn hosts terms trace (newer ++ b.front) b.part b.next i session split_base live (omega (arith, after)) in
          omega (arith, soon, by)

      after_start : start ≤ b.next.time
      after_start = let after = b.after in omega (arith, after)

      w : IsThen older (b.next.time + most * gaining_span terms slices pause crowds)
      w = then_at older (b.next.time + most * gaining_span terms slices pause crowds) (let first = begins in omega (arith, first, later))

      split_w : trace ≡ (newer ++ w.front) ++ w.next ∷ w.part
      split_w = split ∙ ap (λ (l : List (At KeptLine)). newer ++ l) w.split ∙ sym (append_assoc newer w.front (w.next ∷ w.part))

      c : Gained told hosts terms trace since wait slices pause crowds i m session waits reports have holes_held enough live m_some m_last (numbered m m_some).0 (numbered m m_some).1 (newer ++ b.front) base split_base after_start w.part most
      c = gained told hosts terms trace since wait slices pause crowds i m session waits reports have holes_held enough live m_some m_last (numbered m m_some).0 (numbered m m_some).1 (newer ++ b.front) base split_base after_start
          most (newer ++ w.front) w.part w.next split_w w.by w.after
          (lacked_before hosts w.front (w.next ∷ w.part) i m (subst (λ (l : List (At KeptLine)). holds (there hosts l i).host.is.held m ≡ false) w.split lacks))

      too_much : ⊥
      too_much =
          let after = b.after in
          let few = few_lacked hosts terms trace most i session lacks_most live (newer ++ b.front) base c.names split_base (omega (arith, after)) c.apart c.first in
          let count = c.count in
          omega (arith, few, count)

module _ (told : LastNumbersAreTold) where
  pub tops_are_held_soon : TopsAreHeldSoon
  tops_are_held_soon hosts terms trace since wait slices pause asks windows session waits reports have numbered few enough newer older i n split live late some lacks =
      unless told hosts terms trace since wait slices pause session waits reports have numbered newer older i n split (omega (arith, late)) live some
      (too_many told hosts terms trace since wait slices pause session waits reports have numbered newer older i n split (omega (arith, late)) live some asks windows few enough (omega (arith, late))) lacks

  pub tops_are_held_anyway : TopsAreHeldAnyway
  tops_are_held_anyway hosts terms trace since wait slices pause crowds most session waits reports have numbered lacks_most holes_held enough newer older i n split live late some lacks =
      unless told hosts terms trace since wait slices pause session waits reports have numbered newer older i n split (omega (arith, late)) live some
      (too_much told hosts terms trace since wait slices pause session waits reports have numbered newer older i n split (omega (arith, late)) live some crowds most lacks_most holes_held enough (omega (arith, late))) lacks

  pub sessions_become_whole_soon : SessionsBecomeWholeSoon
  sessions_become_whole_soon hosts terms trace since wait slices pause asks windows most crowded n session waits reports have numbered few enough lacks_most holes_held paid held =
      holes_are_filled hosts terms trace (topped_by terms since wait slices pause windows) wait most crowded n session waits lacks_most holes_held
      (tops_are_held_soon hosts terms trace since wait slices pause asks windows session waits reports have numbered few enough) paid held

  pub sessions_become_whole_anyway : SessionsBecomeWholeAnyway
  sessions_become_whole_anyway hosts terms trace since wait slices pause crowds most crowded n session waits reports have numbered lacks_most holes_held enough paid held =
      holes_are_filled hosts terms trace (gained_by terms since wait slices pause crowds most) wait most crowded n session waits lacks_most holes_held
      (tops_are_held_anyway hosts terms trace since wait slices pause crowds most session waits reports have numbered lacks_most holes_held enough) paid held
