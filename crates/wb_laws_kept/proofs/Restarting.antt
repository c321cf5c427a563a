-- Members whose records are whole know their own numbers: at each moment they hold all that they drew.
use Rattle.std.proofs.Common.{◌≡◌, ◌⊎◌, ℕ, ◌≤◌, Bool, true, false, cond, List, [], ◌∷◌, ◌++◌, ◌∙◌, ap, arith, eq-eqb, eqb-true, inr, length, map, refl, subst, sym, true≢false, ⊎_elim}
use Rattle.std.specs.Prelude.{Contains, nat_eq}
use Rattle.wb_names.specs.Arrivals.{outcome_of}
use Rattle.wb_names.specs.History.{highest}
use Rattle.wb_names.specs.Values.{DrawopValue}
use Rattle.wb_names.specs.declared.name.PageId.{PageId}
use Rattle.wb_names.proofs.Listings.{Contains-none}
use Rattle.wb_codec.specs.declared.datagram.Datagram.{Datagram}
use Rattle.wb_codec.specs.declared.datagram.Datagram.TheVariants.{Draw}
use Rattle.wb_recovery.specs.declared.tuning.Tuning.{Tuning}
use Rattle.wb_member.specs.Lines.{Line, Arrives, Says, after_line, Calls, ticks_at}
use Rattle.wb_member.specs.Opened.{Opened, opened_with, present}
use Rattle.wb_keeping.specs.Laws.{KeptLine, after_kept, doing_of, expand}
use Rattle.wb_laws_kept.specs.Openings.{Opening, opened}
use Rattle.wb_keeping.specs.Performing.{Keeping, sees}
use Rattle.wb_keeping.proofs.EachLine.{Each, each_both}
use Rattle.wb_laws_sessions.specs.Drawn.{AreHonest, WasDrawn, WasHeld, drawn_at}
use Rattle.wb_laws_sessions.specs.Members.{drawn_by, Deed, Does, Opens, after_deed}
use Rattle.wb_laws_sessions.specs.Sessions.{Step, host_at, steps_then}
use Rattle.wb_laws_machines.specs.Honest.{AreApart}
use Rattle.wb_laws_sessions.proofs.Deeds.{deed_draws}
use Rattle.wb_laws_sessions.proofs.Drawn.{drawn_cases, names_mean_one, numbers_count, once_held_was_drawn}
use Rattle.wb_laws_sessions.proofs.Honest.{IsGiven, given_draws_none}
use Rattle.wb_laws_machines.proofs.Names.{at_most_highest}
use Rattle.wb_laws_machines.proofs.Outcomes.{with_more}
use Rattle.wb_laws_sessions.proofs.Several.{number_at}
use Rattle.wb_laws_kept.specs.Restarts.{IsWholeRecord, KnowsItsOwn, KnowTheirOwn, RecordedReportsTellAgreement, RecordsAreWhole, WholeRecordsTell}
use Rattle.wb_laws_kept.specs.Sessions.{AreTaken, At, DrawopsWereHeld, kept_at, steps_of}
use Rattle.wb_laws_kept.proofs.Agreeing.{kept_reports_tell_agreement}
use Rattle.wb_laws_kept.proofs.Honest.{all_honest, moments_given, record_given}
use Rattle.wb_laws_kept.proofs.Replaying.{Among, MeanOne, call_stays, lines_stay, none, replayed}
use Rattle.wb_laws_kept.proofs.Steps.{kept_is_session}
use Rattle.wb_laws_kept.specs.Calls.{after_call, Begins, Call, drawops_in, given_lines, Handed}

-- ---- a line keeps what is held

pub line_grows : (line : Line) (host : Opened) (x : DrawopValue) → Contains host.is.held x → Contains (after_line line host).is.held x
line_grows (Arrives d) host x c = with_more host.is.held d x (outcome_of host.is.cells host.is.held d) c
line_grows (Calls call) host x c = subst (λ (h : List DrawopValue). Contains h x) (sym (call_stays call host).held) c
line_grows (Says (Draw d)) host x c = with_more host.is.held d x (outcome_of host.is.cells host.is.held d) c
line_grows line host x c = c

module _ (numbers : ℕ → ℕ) where
  -- ---- steps

  -- each place holds what it drew
  abbrev HoldTheirOwn : List Step → Type 0
  HoldTheirOwn steps = (i : ℕ) (d : DrawopValue) → Contains (drawn_at numbers steps i) d → Contains (host_at numbers steps i).is.held d

  module _ (time place : ℕ) where
    abbrev step : Deed → Step
    step deed = record { time = time; place = place; event = deed }

    line_holds : (line : Line) (older : List Step) → HoldTheirOwn older → HoldTheirOwn (step (Does line) ∷ older)
    line_holds line older own i d c = by (nat_eq place i) refl (drawn_cases numbers (step (Does line)) older i d c) where
      host : Opened
      host = host_at numbers older i

      by : (b : Bool) → nat_eq place i ≡ b → ((place ≡ i) × Contains (drawn_by (Does line) host) d) ⊎ Contains (drawn_at numbers older i) d → Contains (cond b (after_deed (Does line) host) host).is.held d
      by true is a = ⊎_elim
          (λ (now : (place ≡ i) × Contains (drawn_by (Does line) host) d). (deed_draws (Does line) host d now.1).held)
          (λ (before : Contains (drawn_at numbers older i) d). line_grows line host d (own i d before))
          a
      by false is a = ⊎_elim
          (λ (now : (place ≡ i) × Contains (drawn_by (Does line) host) d). absurd (true≢false (sym (eq-eqb place i now.0) ∙ is)))
          (λ (before : Contains (drawn_at numbers older i) d). own i d before)
          a

    lines_hold : (lines : List Line) (older : List Step) → HoldTheirOwn older → HoldTheirOwn (steps_then time place (map Does lines) older)
    lines_hold [] older own = own
    lines_hold (line ∷ lines) older own = lines_hold lines (step (Does line) ∷ older) (line_holds line older own)

    -- lines that say no drawop draw nothing
    given_draw_none : (comes : DrawopValue → Type 0) (lines : List Line) (older : List Step) → Each (IsGiven comes) lines → (i : ℕ) (d : DrawopValue) → Contains (drawn_at numbers (steps_then time place (map Does lines) older) i) d → Contains (drawn_at numbers older i) d
    given_draw_none comes [] older each i d c = c
    given_draw_none comes (line ∷ lines) older each i d c = ⊎_elim
        (λ (now : (place ≡ i) × Contains (drawn_by (Does line) (host_at numbers older i)) d). absurd (Contains-none d (subst (λ (xs : List DrawopValue). Contains xs d) (given_draws_none comes line (host_at numbers older i) each.0) now.1)))
        (λ (before : Contains (drawn_at numbers older i) d). before)
        (drawn_cases numbers (step (Does line)) older i d (given_draw_none comes lines (step (Does line) ∷ older) each.1 i d c))

    opening_draws_none : (constants : Tuning) (cells seed : ℕ) (older : List Step) (i : ℕ) (d : DrawopValue) → Contains (drawn_at numbers (step (Opens constants cells seed) ∷ older) i) d → Contains (drawn_at numbers older i) d
    opening_draws_none constants cells seed older i d c = ⊎_elim
        (λ (now : (place ≡ i) × Contains (drawn_by (Opens constants cells seed) (host_at numbers older i)) d). absurd (Contains-none d now.1))
        (λ (before : Contains (drawn_at numbers older i) d). before)
        (drawn_cases numbers (step (Opens constants cells seed)) older i d c)

  -- ---- calls

  abbrev Own : List (At Call) → Type 0
  Own calls = (i : ℕ) (d : DrawopValue) → Contains (drawn_at numbers (steps_of numbers calls) i) d → Contains (kept_at numbers calls i).host.is.held d

  knows : (older : List (At Call)) → AreHonest numbers (steps_of numbers older) → Own older → (i : ℕ) (page : PageId) → KnowsItsOwn numbers older i page
  knows older honest own i page d c here =
      let host : Opened = (kept_at numbers older i).host in
      let top : d.name.seq ≤ highest d.name.page d.name.source host.is.held = at_most_highest host.is.held d (own i d c) in
      let source : d.name.source ≡ host.is.number = (numbers_count numbers (steps_of numbers older) honest i d c).0 ∙ sym (number_at numbers (steps_of numbers older) i) ∙ ap (λ (h : Opened). h.is.number) (kept_is_session numbers older i) in
      let le : d.name.seq ≤ highest page host.is.number host.is.held = subst (λ (s : ℕ). d.name.seq ≤ highest page s host.is.held) source (subst (λ (p : PageId). d.name.seq ≤ highest p d.name.source host.is.held) here top) in
      omega (arith, le)

  module _ (apart : AreApart numbers) (time place : ℕ) (older : List (At Call)) (honest : AreHonest numbers (steps_of numbers older)) (own : Own older) where
    abbrev e : Call → At Call
    e call = record { time = time; place = place; event = call }

    handed_holds : (line : KeptLine) → Own (e (Handed line) ∷ older)
    handed_holds line i d c =
        subst (λ (h : Opened). Contains h.is.held d) (kept_is_session numbers (e (Handed line) ∷ older) i)
        (lines_hold time place (doing_of line (sees (kept_at numbers older place).host) (kept_at numbers older place).policy).lines (steps_of numbers older)
        (λ j x f. subst (λ (h : Opened). Contains h.is.held x) (sym (kept_is_session numbers older j)) (own j x f)) i d c)

    begun_holds : (o : Opening) (given : List Datagram) → IsWholeRecord numbers older place o given → ((d : DrawopValue) → Contains given (Draw d) → WasHeld numbers (steps_of numbers older) d) → Own (e (Begins o given) ∷ older)
    begun_holds o given whole were i d c = by (nat_eq place i) refl where
      k : ℕ → Keeping
      k j = kept_at numbers older j

      first : ℕ → Keeping
      first j = opened (k j).host.is.number o

      lines : List Line
      lines = ticks_at o.moments ++ expand (given_lines (first place) given) (first place)

      opening : Step
      opening = record { time = time; place = place; event = Opens o.constants o.cells o.seed }

      comes : DrawopValue → Type 0
      comes x = Contains given (Draw x)

      each : Each (IsGiven comes) lines
      each = each_both (IsGiven comes) (ticks_at o.moments) (expand (given_lines (first place) given) (first place)) (moments_given comes o.moments) (record_given comes (present (first place).host) given (first place) (λ d c. c))

      before : Contains (drawn_at numbers (steps_of numbers older) i) d
      before = opening_draws_none time place o.constants o.cells o.seed (steps_of numbers older) i d (given_draw_none time place comes lines (opening ∷ steps_of numbers older) each i d c)

      one : MeanOne given (first place).host.is.held
      one x y a b same = names_mean_one numbers (steps_of numbers older) apart honest x y (drawn x a) (drawn y b) same where
        start : Opened
        start = opened_with o.constants (k place).host.is.number o.cells o.seed

        drawn : (x : DrawopValue) → Among given (first place).host.is.held x → WasDrawn numbers (steps_of numbers older) x
        drawn x a = once_held_was_drawn numbers (steps_of numbers older) honest x (⊎_elim
            (λ (c : Contains (first place).host.is.held x). absurd (Contains-none x (subst (λ (h : List DrawopValue). Contains h x) (lines_stay (ticks_at o.moments) start (moments_given none o.moments)).held c)))
            (λ (c : Contains given (Draw x)). were x c)
            a)

      few : (length (first place).host.is.held ≡ 0) × ((first place).host.is.cells ≡ o.cells) × (length (drawops_in given) ≤ o.cells)
      few =
          let s = lines_stay (ticks_at o.moments) (opened_with o.constants (k place).host.is.number o.cells o.seed) (moments_given none o.moments) in
          let held : length (first place).host.is.held ≡ 0 = ap (λ (h : List DrawopValue). length h) s.held in
          let cells : (first place).host.is.cells ≡ o.cells = s.cells in
          let le = whole.few in
          (held, cells, le)

      here : place ≡ i → Contains (after_kept (given_lines (first place) given) (first place)).host.is.held d
      here is =
          let held = few.0 in
          let cells = few.1 in
          let le = few.2 in
          replayed (present (first place).host) given (first place) (omega (arith, held, cells, le)) one d
          (inr (whole.own d (subst (λ (j : ℕ). Contains (drawn_at numbers (steps_of numbers older) j) d) (sym is) before)))

      by : (b : Bool) → nat_eq place i ≡ b → Contains (cond b (after_call (Begins o given) (k i)) (k i)).host.is.held d
      by true is = subst (λ (j : ℕ). Contains (after_kept (given_lines (first j) given) (first j)).host.is.held d) (eqb-true place i is) (here (eqb-true place i is))
      by false is = own i d before

    call_holds : (call : Call) → ((o : Opening) (given : List Datagram) → call ≡ Begins o given → IsWholeRecord numbers older place o given)
        → ((o : Opening) (given : List Datagram) (d : DrawopValue) → call ≡ Begins o given → Contains given (Draw d) → WasHeld numbers (steps_of numbers older) d) → Own (e call ∷ older)
    call_holds (Handed line) whole were = handed_holds line
    call_holds (Begins o given) whole were = begun_holds o given (whole o given refl) (λ d c. were o given d refl c)

  record Are (calls : List (At Call)) : Type 0 where
    know : KnowTheirOwn numbers calls
    own : Own calls

  all_are : (calls : List (At Call)) → AreApart numbers → AreTaken numbers calls → DrawopsWereHeld numbers calls → RecordsAreWhole numbers calls → Are calls
  all_are [] apart taken were whole = record { know = tt; own = λ i d c. absurd (Contains-none d c) }
  all_are (e ∷ older) apart taken were whole =
      let rest = all_are older apart taken.1 were.1 whole.1 in
      let honest : AreHonest numbers (steps_of numbers older) = all_honest numbers older taken.1 were.1 rest.know in
      record {
        know = (λ now page time op is. knows older honest rest.own e.place page, rest.know);
        own = call_holds apart e.time e.place older honest rest.own e.event whole.0 were.0.given;
      }

pub whole_records_tell : WholeRecordsTell
whole_records_tell numbers calls apart taken were whole = (all_are numbers calls apart taken were whole).know

pub recorded_reports_tell_agreement : RecordedReportsTellAgreement
recorded_reports_tell_agreement numbers calls apart taken were whole =
    kept_reports_tell_agreement numbers calls apart taken were (whole_records_tell numbers calls apart taken were whole)
