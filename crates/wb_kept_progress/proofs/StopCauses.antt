-- Why a self-managing host gives a name up.
use Rattle.std.proofs.Common.{◌≡◌, ℕ, ◌<◌, ◌≤◌, Bool, true, false, cond, List, [], ◌∷◌, ◌++◌, ◌∙◌, Option, Some, None, ap, arith, inl, inr, is_some, length, refl, subst, sym, true≢false, ⊎_elim}
use Rattle.std.specs.Prelude.{◌⊎◌, ◌&&◌, Contains, nat_le, not, take, unwrap_or}
use Rattle.std.proofs.lemmas.Bool.{and_parts, leb-false, leb-true, or_cases}
use Rattle.wb_names.specs.Values.{NameValue}
use Rattle.wb_gaps.specs.Answers.{pages_of}
use Rattle.wb_recovery.specs.Events.{timers_of}
use Rattle.wb_recovery.specs.declared.timers.AskTimer.{AskTimer}
use Rattle.wb_keeper.specs.GivingUp.{level as level_in}
use Rattle.wb_member.specs.Judged.{is_full}
use Rattle.wb_member.specs.Opened.{Opened, events}
use Rattle.wb_member.specs.declared.calls.Call.TheVariants.{Tick, Ask, Stop}
use Rattle.wb_keeping.specs.Kept.{Doing, Line, covers, room_lines, still, stops_one, want, lending, Calls}
use Rattle.wb_keeping.specs.Laws.{KeptLine, fault_of}
use Rattle.wb_keeping.specs.Performing.{Keeping, after_line, after_lines, sees, view_of}
use Rattle.wb_policy.specs.Policy.{Policy, after_wanting}
use Rattle.wb_keeping.specs.Views.{View, holds, level, is_full as shows_full, is_known}
use Rattle.wb_policy.specs.Wanting.{gives_way, goes_on, is_old, is_wanted, oldest, way_of}
use Rattle.wb_policy.specs.declared.wanting.AskedName.{AskedName}
use Rattle.wb_keeping.proofs.AskedTimers.{level_seen}
use Rattle.wb_keeping.proofs.EachStep.{HoldsOfSteps, doing, line_holds}
use Rattle.wb_keeping.proofs.Performed.{after_both}
use Rattle.wb_keeping.proofs.Wanted.{lines_wanted, parts_wanted}
use Rattle.wb_kept_progress.specs.Sessions.{AreTaken, Opening}
use Rattle.wb_kept_progress.specs.Timed.{At}
use Rattle.wb_kept_progress.specs.Whole.{there}
use Rattle.wb_kept_progress.proofs.Asking.{level_told, oldest_is_one}
use Rattle.wb_kept_progress.proofs.CallLines.{host_before}
use Rattle.wb_kept_progress.proofs.Coming.{has_room}
use Rattle.wb_kept_progress.proofs.Lines.{lines_of as lines_keep, lines_grow}
use Rattle.wb_kept_progress.proofs.Repairs.{moved}
use Rattle.wb_kept_progress.proofs.WholeParts.{LinesHaveCalls, StopsHaveCause, does, host_then}
use Rattle.wb_keeping.proofs.EachLine.{Each, lent_each, states_each}

-- ---- room on a board

-- what has room behind lines had room before
pub room_before : (lines : List Line) (host next : Opened) → next ≡ after_lines lines host → is_full next ≡ false → is_full host ≡ false
room_before lines host next is room =
    let then : is_full (after_lines lines host) ≡ false = subst (λ (h : Opened). is_full h ≡ false) is room in
    let lt = leb-false (after_lines lines host).is.cells (length (after_lines lines host).is.held) then in
    let cells = (lines_keep lines host).cells in
    let le = (lines_grow lines host).longer in
    has_room host (omega (arith, lt, cells, le))

-- ---- why it gives a name up

abbrev pub HasStopCause : Opened → NameValue → Type 0
HasStopCause host n = ((ask : AskTimer) × ((timers_of host.is.constants (events host) n).ask ≡ Some ask) × (4 ≤ ask.level))
    ⊎ ((64 ≤ length (view_of host).asked) × (a : AskedName) × (oldest (view_of host).asked ≡ Some a) × (a.name ≡ n))

abbrev pub IsCaused : Line → Opened → Type 0
IsCaused (Calls (Stop n)) host = HasStopCause host n
IsCaused line host = Unit {0}

abbrev pub AreCaused : List Line → Opened → Type 0
AreCaused [] host = Unit {0}
AreCaused (line ∷ lines) host = IsCaused line host × AreCaused lines (after_line line host)

caused_both : (one other : List Line) (host : Opened) → AreCaused one host → AreCaused other (after_lines one host) → AreCaused (one ++ other) host
caused_both [] other host a b = b
caused_both (line ∷ one) other host a b = (a.0, caused_both one other (after_line line host) a.1 b)

pub caused_at : (one other : List Line) (line : Line) (host : Opened) → AreCaused (one ++ line ∷ other) host → IsCaused line (after_lines one host)
caused_at [] other line host caused = caused.0
caused_at (first ∷ one) other line host caused = caused_at one other line (after_line first host) caused.1

-- lines that give nothing up
abbrev StopsNothing : Line → Type 0
StopsNothing (Calls (Stop n)) = ⊥
StopsNothing line = Unit {0}

abbrev StopNothing : List Line → Type 0
StopNothing lines = Each StopsNothing lines

nothing_caused : (line : Line) (host : Opened) → StopsNothing line → IsCaused line host
nothing_caused (Calls (Stop n)) host none = absurd none
nothing_caused line host none = tt

unstopped : (lines : List Line) (host : Opened) → StopNothing lines → AreCaused lines host
unstopped [] host none = tt
unstopped (line ∷ lines) host none = (nothing_caused line host none.0, unstopped lines (after_line line host) none.1)

-- ---- a name that is wanted

timer_of : (o : Option AskTimer) (l : ℕ) → level_in o ≡ Some l → (ask : AskTimer) × (o ≡ Some ask) × (ask.level ≡ l)
timer_of None l e = absurd cc
timer_of (Some a) l e = (a, refl, cc)

backed_off : (host : Opened) (n : NameValue) (l : ℕ) → level (view_of host) n ≡ Some l → 4 ≤ l → HasStopCause host n
backed_off host n l e le =
    let t = timer_of (timers_of host.is.constants (events host) n).ask l (sym (level_seen host n) ∙ e) in
    inl (t.0, t.1, subst (λ (m : ℕ). 4 ≤ m) (sym t.2) le)

-- the one that gives way to another
module _ (covered : Bool) (host : Opened) where
  abbrev asked_here : List AskedName
  asked_here = (view_of host).asked

  way_cause : (a : AskedName) → oldest asked_here ≡ Some a → gives_way covered (length asked_here) a.level ≡ true → HasStopCause host a.name
  way_cause a is way = ⊎_elim
      (λ (many : nat_le 64 (length asked_here) ≡ true). inr (leb-true 64 (length asked_here) many, a, is, refl))
      (λ (old : (is_old a.level && covered) ≡ true). backed_off host a.name a.level (level_seen host a.name ∙ level_told host a (oldest_among_asked asked_here a is)) (leb-true 4 a.level (and_parts (is_old a.level) covered old).0))
      (or_cases (nat_le 64 (length asked_here)) (is_old a.level && covered) way) where
        oldest_among_asked : (asked : List AskedName) (a : AskedName) → oldest asked ≡ Some a → Contains asked a
        oldest_among_asked [] a e = absurd cc
        oldest_among_asked (b ∷ later) a e = subst (λ (x : AskedName). Contains (b ∷ later) x) (ap (λ (o : Option AskedName). unwrap_or o a) e) (oldest_is_one b later)

  way_caused : (o : Option AskedName) → oldest asked_here ≡ o → AreCaused (stops_one (way_of covered (length asked_here) o)) host
  way_caused None is = tt
  way_caused (Some a) is = by (gives_way covered (length asked_here) a.level) refl where
    by : (b : Bool) → gives_way covered (length asked_here) a.level ≡ b → AreCaused (stops_one (cond b (Some a) None)) host
    by false e = tt
    by true e = (way_cause a is e, tt)

room_caused : (name : NameValue) (covered : Bool) (host : Opened) → ((l : ℕ) → level (view_of host) name ≡ Some l → 4 ≤ l) → AreCaused (room_lines name covered (view_of host)) host
room_caused name covered host old = by (level (view_of host) name) refl where
  by : (o : Option ℕ) → level (view_of host) name ≡ o → AreCaused (cond (is_some o) (Calls (Stop name) ∷ []) (stops_one (way_of covered (length (view_of host).asked) (oldest (view_of host).asked)))) host
  by (Some l) e = (backed_off host name l e (old l e), tt)
  by None e = way_caused covered host (oldest (view_of host).asked) refl

-- one whose timer stands is asked for anew where it is old
off_old : (anew covered : Bool) (l : ℕ) → goes_on anew covered (Some l) ≡ false → 4 ≤ l
off_old anew covered l e = leb-true _ _ (by anew (is_old l) e) where
  by : (anew late : Bool) → not (anew && (late && covered)) ≡ false → late ≡ true
  by true true e = refl
  by true false e = absurd (true≢false e)
  by false late e = absurd (true≢false e)

wanted_caused : (name : NameValue) (anew : Bool) (k : Keeping) → AreCaused (want name anew (sees k.host) k.policy).lines k.host
wanted_caused name anew k = by (is_wanted (holds v name) (shows_full v) anew (is_known v name.source) (level v name) (length v.asked) k.policy.owed v.now) refl where
  v : View
  v = view_of k.host

  wanted : Doing
  wanted = doing (after_wanting v.now k.policy) (lines_wanted name anew (sees k.host) k.policy)

  old : is_wanted (holds v name) (shows_full v) anew (is_known v name.source) (level v name) (length v.asked) k.policy.owed v.now ≡ true → (l : ℕ) → level v name ≡ Some l → 4 ≤ l
  old e l is = off_old anew (covers v k.policy) l (ap (goes_on anew (covers v k.policy)) (sym is) ∙ (parts_wanted name anew (sees k.host) k.policy e).2)

  by : (b : Bool) → is_wanted (holds v name) (shows_full v) anew (is_known v name.source) (level v name) (length v.asked) k.policy.owed v.now ≡ b
      → AreCaused (cond b wanted (still (sees k.host) k.policy)).lines k.host
  by false e = tt
  by true e =
      let last = lending name.source (v.delay name.source) k.policy.usual (Calls (Ask name)) in
      let room = room_lines name (covers v k.policy) v in
      caused_both room last k.host (room_caused name (covers v k.policy) k.host (old e))
      (unstopped last (after_lines room k.host) (lent_each StopsNothing name.source (v.delay name.source) k.policy.usual (Calls (Ask name)) tt tt tt))

-- ---- all that a kept host does

-- It gives names up for such causes, where there is room on the board behind all.
pub record GivesUpFor (k : Keeping) (lines : List Line) (m : Keeping) : Type 0 where
  pub at : m.host ≡ after_lines lines k.host
  pub caused : is_full m.host ≡ false → AreCaused lines k.host

quietly : (k : Keeping) (lines : List Line) (p : Policy) → StopNothing lines → GivesUpFor k lines (record { host = after_lines lines k.host; policy = p })
quietly k lines p none = record { at = refl; caused = λ room. unstopped lines k.host none }

both_give_up : (k m n : Keeping) (one other : List Line) → GivesUpFor k one m → GivesUpFor m other n → GivesUpFor k (one ++ other) n
both_give_up k m n one other a b = record {
  at = b.at ∙ ap (after_lines other) a.at ∙ sym (after_both one other k.host);
  caused = λ room.
      let first = a.caused (room_before other m.host n.host b.at room) in
      caused_both one other k.host first (subst (AreCaused other) a.at (b.caused room));
}

pub steps_give_up : HoldsOfSteps GivesUpFor
steps_give_up = record {
  due = record {
    nothing = λ k. quietly k [] k.policy tt;
    both = both_give_up;
    wants = λ name anew k. record { at = refl; caused = λ room. wanted_caused name anew k };
    turned = λ t l k. quietly k [] _ tt;
    beats = λ k due. quietly k [] _ tt;
    answers = λ k is. quietly k _ _ (states_each StopsNothing (view_of k.host) (λ page. tt) (take 64 (pages_of k.host.is.held)));
    asks_pages = λ k is. quietly k _ _ (tt, tt);
    reports = λ page until told k is. quietly k _ _ (tt, tt);
  };
  ticks = λ now k later. quietly k (Calls (Tick now) ∷ []) k.policy (tt, tt);
  arrives = λ d k free. quietly k _ k.policy (tt, tt);
  answered = λ d k lacks asked. quietly k _ _ (tt, tt);
  hears = λ v k. quietly k _ k.policy (tt, tt);
  stops = λ name k full. record { at = refl; caused = λ room. absurd (true≢false (sym full ∙ room)) };
  sets = λ source micros k. quietly k _ k.policy (tt, tt);
  lends = λ source k. quietly k _ k.policy (tt, tt);
  takes_back = λ source k. quietly k _ k.policy (tt, tt);
  tunes = λ constants k within. quietly k _ k.policy (tt, tt);
  draws = λ d k unasked. quietly k _ k.policy (tt, tt);
  drawn = λ d k asked. quietly k _ _ (tt, tt);
  measured = λ micros k. quietly k [] _ tt;
  told = λ k. quietly k [] _ tt;
  takes_up = λ k is. quietly k [] _ tt;
}

-- ---- a session

-- no call is refused
pub call_taken : (hosts : ℕ → Opening) (newer older : List (At KeptLine)) (e : At KeptLine) → AreTaken hosts (newer ++ e ∷ older)
    → fault_of e.event (there hosts older e.place) ≡ None
call_taken hosts [] older e taken = taken.0
call_taken hosts (x ∷ newer) older e taken = call_taken hosts newer older e taken.1

pub stops_have_cause : LinesHaveCalls → StopsHaveCause
stops_have_cause calls hosts terms trace front x back n session live late split is =
    let c = calls hosts trace front x back split in
    let place = c.e.place in
    let k = there hosts c.older place in
    let lines = does hosts c.e c.older in
    let none : fault_of c.e.event k ≡ None = call_taken hosts c.newer c.older c.e (subst (λ (t : List (At KeptLine)). AreTaken hosts t) c.split session.taken) in
    let behind : is_full (there hosts (c.e ∷ c.older) place).host ≡ false = session.room c.newer (c.e ∷ c.older) place c.split (subst (Contains terms.live) c.place live) (subst (λ (t : ℕ). terms.quiet < t) c.time late) in
    let room : is_full (after_lines lines k.host) ≡ false = subst (λ (m : Keeping). is_full m.host ≡ false) (moved hosts c.older place c.e.event) behind in
    let caused : AreCaused lines k.host = (line_holds GivesUpFor steps_give_up c.e.event k none).caused room in
    let at : IsCaused x.event (after_lines c.before k.host) = caused_at c.before c.later x.event k.host (subst (λ (ls : List Line). AreCaused ls k.host) c.lines caused) in
    let same : host_then hosts back x.place ≡ after_lines c.before k.host = host_before hosts trace x back c in
    subst (λ (h : Opened). HasStopCause h n) (sym same) (subst (λ (line : Line). IsCaused line (after_lines c.before k.host)) is at)
