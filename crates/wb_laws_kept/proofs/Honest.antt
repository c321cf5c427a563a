-- Self-managing members keep to the terms of a session, if what comes was held and they know their own numbers.
use Rattle.std.proofs.Common.{◌≡◌, ℕ, ◌<◌, ◌≤◌, Bool, true, false, cond, List, [], ◌∷◌, ◌++◌, ◌∙◌, ap, arith, inr, map, refl, subst, sym}
use Rattle.std.specs.Prelude.{Contains, nat_eq}
use Rattle.wb_names.specs.Values.{DrawopValue}
use Rattle.wb_names.specs.declared.name.PageId.{PageId}
use Rattle.wb_names.specs.declared.parts.Op.{Op}
use Rattle.wb_names.proofs.Listings.{Contains-here, Contains-there}
use Rattle.wb_codec.specs.declared.datagram.Datagram.{Datagram}
use Rattle.wb_codec.specs.declared.datagram.Datagram.TheVariants.{Draw}
use Rattle.wb_member.specs.Lines.{Line, Calls, Says, after_line, ticks_at}
use Rattle.wb_member.specs.Opened.{Opened, last_number, present}
use Rattle.wb_member.specs.declared.calls.Call.TheVariants.{Tick, Tune}
use Rattle.wb_keeping.specs.Kept.{adds, came, drawing, ends_full, hears, ticks, timed, drew}
use Rattle.wb_keeping.specs.Laws.{Added, Came, Ticked, Tuned, expand}
use Rattle.wb_laws_kept.specs.Openings.{opened}
use Rattle.wb_keeping.specs.Performing.{Keeping, after_doing, sees, view_of}
use Rattle.wb_policy.specs.Policy.{Policy}
use Rattle.wb_keeping.proofs.EachLine.{DoesEach, Each, OfPolicy, each_both, ends_each, hears_each, then_each, timed_each}
use Rattle.wb_laws_sessions.specs.Drawn.{AreHonest, WasHeld, drawn_at}
use Rattle.wb_laws_sessions.specs.Sessions.{Step, host_at, steps_then}
use Rattle.wb_laws_sessions.specs.Members.{Deed, Does, member, Opens}
use Rattle.wb_laws_sessions.proofs.Several.{number_at}
use Rattle.wb_laws_sessions.proofs.Honest.{IsGiven, call_is_honest, drawing_is_honest, given_is_honest, opening_is_honest}
use Rattle.wb_laws_kept.specs.Restarts.{KeptAreHonest, KnowTheirOwn, KnowsItsOwn}
use Rattle.wb_laws_kept.specs.Sessions.{AreTaken, At, DrawopsWereHeld, WereHeld, kept_at, steps_of}
use Rattle.wb_laws_kept.proofs.Steps.{kept_is_session}
use Rattle.wb_laws_kept.specs.Calls.{Begins, Call, Handed, IsTaken, given_lines, lines_of_call, opens_of_call}
use Rattle.wb_laws_machines.specs.Machines.{whole, part}
use Rattle.wb_laws_machines.proofs.Traces as traces

-- ---- lines that draw nothing

module _ (comes : DrawopValue → Type 0) where
  pub of_policy : OfPolicy (IsGiven comes)
  of_policy = record {
    asks = λ name. tt;
    stops = λ name. tt;
    sets = λ source micros. tt;
    states = λ v page. tt;
    asks_pages = λ asker. tt;
    reports = λ sender sent page marks echoes. tt;
  }

  pub timed_given : DoesEach (IsGiven comes) timed
  timed_given = timed_each (IsGiven comes) of_policy

  pub came_given : (now : ℕ) (v : Datagram) → ((d : DrawopValue) → v ≡ Draw d → comes d) → DoesEach (IsGiven comes) (came now v)
  came_given now v given see p =
      (tt, then_each (IsGiven comes) (hears v) timed (hears_each (IsGiven comes) of_policy (λ v. tt) v given) timed_given (λ (lines : List Line). see (Calls (Tick now) ∷ lines)) p)

  pub ticks_given : (now : ℕ) → DoesEach (IsGiven comes) (ticks now)
  ticks_given now see p = (tt, timed_given (λ (lines : List Line). see (Calls (Tick now) ∷ lines)) p)

  pub moments_given : (moments : List ℕ) → Each (IsGiven comes) (ticks_at moments)
  moments_given [] = tt
  moments_given (now ∷ moments) = (tt, moments_given moments)

  pub record_given : (now : ℕ) (given : List Datagram) (k : Keeping) → ((d : DrawopValue) → Contains given (Draw d) → comes d) → Each (IsGiven comes) (expand (map (Came now) given) k)
  record_given now [] k all = tt
  record_given now (v ∷ given) k all =
      each_both (IsGiven comes) (came now v (sees k.host) k.policy).lines (expand (map (Came now) given) (after_doing (came now v) k))
      (came_given now v (λ d is. all d (subst (λ (w : Datagram). Contains (v ∷ given) w) is (Contains-here v given))) (sees k.host) k.policy)
      (record_given now given (after_doing (came now v) k) (λ d c. all d (Contains-there v (Draw d) given c)))

-- ---- such lines as steps

module _ (numbers : ℕ → ℕ) where
  held_later : (e : Step) (older : List Step) (d : DrawopValue) → WasHeld numbers older d → WasHeld numbers (e ∷ older) d
  held_later e older d w = traces.held_later member numbers d (part whole) w

  module _ (time place : ℕ) (comes : DrawopValue → Type 0) where
    abbrev step : Line → Step
    step line = record { time = time; place = place; event = Does line }

    pub lines_honest : (lines : List Line) (older : List Step) → AreHonest numbers older → ((d : DrawopValue) → comes d → WasHeld numbers older d) → Each (IsGiven comes) lines → AreHonest numbers (steps_then time place (map Does lines) older)
    lines_honest [] older honest held each = honest
    lines_honest (line ∷ lines) older honest held each =
        lines_honest lines (step line ∷ older) (given_is_honest numbers older time place comes held line each.0, honest) (λ d is. held_later (step line) older d (held d is)) each.1

  -- a tick draws nothing
  drawn_behind : (time place now : ℕ) (older : List Step) (d : DrawopValue) → Contains (drawn_at numbers (record { time = time; place = place; event = Does (Calls (Tick now)) } ∷ older) place) d → Contains (drawn_at numbers older place) d
  drawn_behind time place now older d c = by (nat_eq place place) c where
    by : (b : Bool) → Contains (cond b (drawn_at numbers older place) (drawn_at numbers older place)) d → Contains (drawn_at numbers older place) d
    by true c = c
    by false c = c

  -- ---- a drawing

  module _ (time place : ℕ) (older : List Step) (honest : AreHonest numbers older) (k : Keeping) (there : host_at numbers older place ≡ k.host)
      (page : PageId) (knows : (d : DrawopValue) → Contains (drawn_at numbers older place) d → d.name.page ≡ page → d.name.seq ≤ last_number page k.host) (now told : ℕ) (op : Op) where
    abbrev ticked_host : Opened
    ticked_host = after_line (Calls (Tick now)) k.host

    abbrev its : DrawopValue
    its = drawing (view_of ticked_host) page told op

    abbrev with_tick : List Step
    with_tick = record { time = time; place = place; event = Does (Calls (Tick now)) } ∷ older

    its_own : its.name.source ≡ numbers place
    its_own = ap (λ (h : Opened). h.is.number) (sym there) ∙ number_at numbers older place

    same_last : last_number page ticked_host ≡ last_number page k.host
    same_last = refl

    is_above : (x : DrawopValue) → Contains (drawn_at numbers with_tick place) x → x.name.page ≡ its.name.page → x.name.seq < its.name.seq
    is_above x c here =
        let le : x.name.seq ≤ last_number page k.host = knows x (drawn_behind time place now older x c) here in
        let same = same_last in
        omega (arith, le, same)

    abbrev none : DrawopValue → Type 0
    none d = ⊥

    pub adds_honest : (p : Policy) → AreHonest numbers (steps_then time place (map Does (adds now page told op (sees k.host) p).lines) older)
    adds_honest p =
        let tick : AreHonest numbers with_tick = (call_is_honest numbers older time place (Tick now), honest) in
        let says : AreHonest numbers (record { time = time; place = place; event = Does (Says (Draw its)) } ∷ with_tick) =
        (drawing_is_honest numbers with_tick time place its its_own (omega arith) (inr is_above), tick) in
        lines_honest time place none _ (record { time = time; place = place; event = Does (Says (Draw its)) } ∷ with_tick) says (λ d is. absurd is)
        (then_each (IsGiven none) ends_full timed (ends_each (IsGiven none) (of_policy none)) (timed_given none) (λ (lines : List Line). sees k.host (Calls (Tick now) ∷ (Says (Draw its) ∷ lines))) (drew its (view_of ticked_host) p))

  -- ---- calls

  module _ (time place : ℕ) (older : List (At Call)) (honest : AreHonest numbers (steps_of numbers older)) where
    abbrev k : Keeping
    k = kept_at numbers older place

    abbrev deeds : Call → List Deed
    deeds call = opens_of_call call ++ map Does (lines_of_call call k)

    call_honest : (call : Call) → IsTaken call k → WereHeld numbers older (record { time = time; place = place; event = call })
        → ((now : ℕ) (page : PageId) (told : ℕ) (op : Op) → call ≡ Handed (Added now page told op) → KnowsItsOwn numbers older place page) → AreHonest numbers (steps_then time place (deeds call) (steps_of numbers older))
    call_honest (Handed (Came now v)) taken were knows =
        lines_honest time place (λ d. v ≡ Draw d) (came now v (sees k.host) k.policy).lines (steps_of numbers older) honest (λ d is. were.handed now d (ap (λ (w : Datagram). Handed (Came now w)) is)) (came_given (λ d. v ≡ Draw d) now v (λ d is. is) (sees k.host) k.policy)
    call_honest (Handed (Ticked now)) taken were knows =
        lines_honest time place (λ d. ⊥) (ticks now (sees k.host) k.policy).lines (steps_of numbers older) honest (λ d is. absurd is) (ticks_given (λ d. ⊥) now (sees k.host) k.policy)
    call_honest (Handed (Added now page told op)) taken were knows =
        adds_honest time place (steps_of numbers older) honest k (kept_is_session numbers older place) page (knows now page told op refl) now told op k.policy
    call_honest (Handed (Tuned constants)) taken were knows = (call_is_honest numbers (steps_of numbers older) time place (Tune constants), honest)
    call_honest (Begins o given) taken were knows =
        let first : Keeping = opened k.host.is.number o in
        let opening : Step = record { time = time; place = place; event = Opens o.constants o.cells o.seed } in
        lines_honest time place (λ d. Contains given (Draw d)) (ticks_at o.moments ++ expand (given_lines first given) first) (opening ∷ steps_of numbers older)
        (opening_is_honest numbers (steps_of numbers older) time place o.constants o.cells o.seed taken.0.small, honest)
        (λ d c. held_later opening (steps_of numbers older) d (were.given o given d refl c))
        (each_both (IsGiven (λ d. Contains given (Draw d))) (ticks_at o.moments) (expand (given_lines first given) first) (moments_given (λ d. Contains given (Draw d)) o.moments)
        (record_given (λ d. Contains given (Draw d)) (present first.host) given first (λ d c. c)))

  pub all_honest : (calls : List (At Call)) → AreTaken numbers calls → DrawopsWereHeld numbers calls → KnowTheirOwn numbers calls → AreHonest numbers (steps_of numbers calls)
  all_honest [] taken were know = tt
  all_honest (e ∷ older) taken were know = call_honest e.time e.place older (all_honest older taken.1 were.1 know.1) e.event taken.0 (record { handed = were.0.handed; given = were.0.given }) know.0

pub kept_are_honest : KeptAreHonest
kept_are_honest numbers calls taken were know = all_honest numbers calls taken were know

-- a self-managing member has the number of its place
pub number_of_kept : (numbers : ℕ → ℕ) (calls : List (At Call)) (i : ℕ) → (kept_at numbers calls i).host.is.number ≡ numbers i
number_of_kept numbers calls i = ap (λ (h : Opened). h.is.number) (sym (kept_is_session numbers calls i)) ∙ number_at numbers (steps_of numbers calls) i
