-- Self-managing hosts perform lines, and each call of theirs begins with a tick.
use Rattle.std.proofs.Common.{◌≡◌, ℕ, Bool, true, false, cond, List, [], ◌∷◌, ◌++◌, ◌∙◌, ap, eqb-true, eq-eqb, refl, subst, sym, ⊎_elim}
use Rattle.std.specs.Prelude.{Contains, nat_eq}
use Rattle.wb_names.specs.declared.name.PageId.{PageId}
use Rattle.wb_names.specs.declared.parts.Op.{Op}
use Rattle.wb_codec.specs.declared.datagram.Datagram.{Datagram}
use Rattle.wb_progress.specs.Turns.{IsNowAt, Terms}
use Rattle.wb_member.specs.Opened.{present}
use Rattle.wb_member.specs.declared.calls.Call.TheVariants.{Tick, Hear, Tune}
use Rattle.wb_keeping.specs.Kept.{Line, Doing, Transition, adds, and_then, came, draws_it, ends_full, hears, ticks, timed, Calls}
use Rattle.wb_keeping.specs.Laws.{KeptLine, Came, Ticked, Added, Tuned, doing_of}
use Rattle.wb_keeping.specs.Performing.{Keeping, after_doing, after_line, after_lines, sees}
use Rattle.wb_policy.specs.Policy.{Policy}
use Rattle.wb_keeping.specs.Views.{View}
use Rattle.wb_kept_progress.specs.Sessions.{Opening, kept_at}
use Rattle.wb_kept_progress.specs.Timed.{At, KeptIsPerformed, KeptKeepsMoments, SaysNow, Start, TellTimes, host_after, performed, performed_then, start_of}
use Rattle.wb_kept_progress.proofs.PerLine.{line_moment}
use Rattle.wb_keeping.proofs.EachLine.{timed_each, DoesEach, Each, OfPolicy, ends_each, then_each, hears_each}

module _ (hosts : ℕ → Start) where
  -- the host at a place behind lines that one performed
  pub after_all : (time place : ℕ) (lines : List Line) (older : List (At Line)) (i : ℕ) (b : Bool) → nat_eq place i ≡ b → host_after hosts (performed_then time place lines older) i ≡ cond b (after_lines lines (host_after hosts older i)) (host_after hosts older i)
  after_all time place [] older i true e = refl
  after_all time place [] older i false e = refl
  after_all time place (line ∷ lines) older i true e =
      after_all time place lines (record { time = time; place = place; event = line } ∷ older) i true e
      ∙ ap (λ (b : Bool). after_lines lines (cond b (after_line line (host_after hosts older i)) (host_after hosts older i))) e
  after_all time place (line ∷ lines) older i false e =
      after_all time place lines (record { time = time; place = place; event = line } ∷ older) i false e
      ∙ ap (λ (b : Bool). cond b (after_line line (host_after hosts older i)) (host_after hosts older i)) e

pub kept_is_performed : KeptIsPerformed
kept_is_performed hosts trace = record { same = by trace } where
  by : (trace : List (At KeptLine)) (i : ℕ) → host_after (λ j. start_of (hosts j)) (performed hosts trace) i ≡ (kept_at hosts trace i).host
  by [] i = refl
  by (e ∷ older) i = from (nat_eq e.place i) refl (by older i) where
    k : Keeping
    k = kept_at hosts older e.place

    does : List Line
    does = (doing_of e.event (sees k.host) k.policy).lines

    from : (b : Bool) → nat_eq e.place i ≡ b → host_after (λ j. start_of (hosts j)) (performed hosts older) i ≡ (kept_at hosts older i).host
        → host_after (λ j. start_of (hosts j)) (performed_then e.time e.place does (performed hosts older)) i ≡ (cond b (after_doing (doing_of e.event) (kept_at hosts older i)) (kept_at hosts older i)).host
    from true same rest =
        after_all (λ j. start_of (hosts j)) e.time e.place does (performed hosts older) i true same
        ∙ ap (after_lines does) rest
        ∙ ap (λ (p : ℕ). let m = kept_at hosts older p in after_lines (doing_of e.event (sees m.host) m.policy).lines (kept_at hosts older i).host) (eqb-true e.place i same)
    from false same rest = after_all (λ j. start_of (hosts j)) e.time e.place does (performed hosts older) i false same ∙ rest

-- ---- no ticks but the first

abbrev pub IsNoTick : Line → Type 0
IsNoTick (Calls (Tick now)) = ⊥
IsNoTick line = Unit {0}

abbrev pub AreNoTicks : List Line → Type 0
AreNoTicks lines = Each IsNoTick lines

abbrev pub HasNoTick : Transition → Type 0
HasNoTick does = DoesEach IsNoTick does

no_ticks : OfPolicy IsNoTick
no_ticks = record {
  asks = λ name. tt;
  stops = λ name. tt;
  sets = λ source micros. tt;
  states = λ v page. tt;
  asks_pages = λ asker. tt;
  reports = λ sender sent page marks echoes. tt;
}

pub hears_none : (v : Datagram) → HasNoTick (hears v)
hears_none v = hears_each IsNoTick no_ticks (λ v. tt) v (λ d e. tt)

-- a call is a tick to its moment, and lines that are none
pub record Begins (now : ℕ) (d : Doing) : Type 0 where
  pub rest : List Line
  pub is : d.lines ≡ Calls (Tick now) ∷ rest
  pub none : AreNoTicks rest

pub came_begins : (now : ℕ) (v : Datagram) (see : List Line → View) (p : Policy) → Begins now (came now v see p)
came_begins now v see p = record { rest = _; is = refl; none = then_each IsNoTick (hears v) timed (hears_none v) (timed_each IsNoTick no_ticks) (λ (lines : List Line). see (Calls (Tick now) ∷ lines)) p }

pub ticks_begin : (now : ℕ) (see : List Line → View) (p : Policy) → Begins now (ticks now see p)
ticks_begin now see p = record { rest = _; is = refl; none = timed_each IsNoTick no_ticks (λ (lines : List Line). see (Calls (Tick now) ∷ lines)) p }

pub adds_begin : (now : ℕ) (page : PageId) (time : ℕ) (op : Op) (see : List Line → View) (p : Policy) → Begins now (adds now page time op see p)
adds_begin now page time op see p = record {
  rest = _;
  is = refl;
  none = then_each IsNoTick (draws_it page time op) (and_then ends_full timed) (λ see p. (tt, tt)) (then_each IsNoTick ends_full timed (ends_each IsNoTick no_ticks) (timed_each IsNoTick no_ticks)) (λ (lines : List Line). see (Calls (Tick now) ∷ lines)) p;
}

-- ---- moments

module _ (hosts : ℕ → Start) (terms : Terms) where
  record IsInTime (e : At Line) (older : List (At Line)) : Type 0 where
    ticks : (now : ℕ) → Contains terms.live e.place → e.event ≡ Calls (Tick now) → IsNowAt terms e.time e.place now
    hears : (v : Datagram) → Contains terms.live e.place → e.event ≡ Calls (Hear v) → IsNowAt terms e.time e.place (present (host_after hosts older e.place))

  abbrev AreInTime : List (At Line) → Type 0
  AreInTime [] = Unit {0}
  AreInTime (e ∷ older) = IsInTime e older × AreInTime older

  one_in : (newer older : List (At Line)) (e : At Line) → AreInTime (newer ++ e ∷ older) → IsInTime e older
  one_in [] older e all = all.0
  one_in (x ∷ newer) older e all = one_in newer older e all.1

  abbrev at_place : ℕ → ℕ → Line → At Line
  at_place time place line = record { time = time; place = place; event = line }

  here : (time place : ℕ) (line : Line) (older : List (At Line)) → host_after hosts (at_place time place line ∷ older) place ≡ after_line line (host_after hosts older place)
  here time place line older = ap (λ (b : Bool). cond b (after_line line (host_after hosts older place)) (host_after hosts older place)) (eq-eqb place place refl)

  no_tick : (line : Line) (now : ℕ) → IsNoTick line → line ≡ Calls (Tick now) → ⊥
  no_tick line now none e = subst IsNoTick e none

  then_in : (time place : ℕ) (lines : List Line) (older : List (At Line)) → AreNoTicks lines → AreInTime older → (Contains terms.live place → IsNowAt terms time place (present (host_after hosts older place))) → AreInTime (performed_then time place lines older)
  then_in time place [] older none all now = all
  then_in time place (line ∷ lines) older none all now =
      then_in time place lines (at_place time place line ∷ older) none.1
      (record { ticks = λ moment live e. absurd (no_tick line moment none.0 e); hears = λ v live e. now live }, all)
      (λ live. subst (IsNowAt terms time place) (sym (ap present (here time place line older) ∙ ⊎_elim
      (λ (same : present (after_line line (host_after hosts older place)) ≡ present (host_after hosts older place)). same)
      (λ (t : (moment : ℕ) × (line ≡ Calls (Tick moment)) × (present (after_line line (host_after hosts older place)) ≡ moment)). absurd (no_tick line t.0 none.0 t.1))
      (line_moment line (host_after hosts older place)))) (now live))

  call_in : (time place now : ℕ) (rest : List Line) (older : List (At Line)) → AreNoTicks rest → AreInTime older → (Contains terms.live place → IsNowAt terms time place now) → AreInTime (performed_then time place (Calls (Tick now) ∷ rest) older)
  call_in time place now rest older none all told =
      then_in time place rest (at_place time place (Calls (Tick now)) ∷ older) none
      (record { ticks = λ moment live e. subst (IsNowAt terms time place) (same moment e) (told live); hears = λ v live e. absurd (other v e) }, all)
      (λ live. subst (IsNowAt terms time place) (sym (ap present (here time place (Calls (Tick now)) older))) (told live)) where
        same : (moment : ℕ) → Calls (Tick now) ≡ Calls (Tick moment) → now ≡ moment
        same moment e = cc

        other : (v : Datagram) → Calls (Tick now) ≡ Calls (Hear v) → ⊥
        other v e = cc

  begun_in : (time place now : ℕ) (d : Doing) (older : List (At Line)) → Begins now d → AreInTime older → (Contains terms.live place → IsNowAt terms time place now) → AreInTime (performed_then time place d.lines older)
  begun_in time place now d older b all told = subst (λ (lines : List Line). AreInTime (performed_then time place lines older)) (sym b.is) (call_in time place now b.rest older b.none all told)

  line_in : (line : KeptLine) (time place : ℕ) (see : List Line → View) (p : Policy) (older : List (At Line)) → (Contains terms.live place → SaysNow terms time place line) → AreInTime older → AreInTime (performed_then time place (doing_of line see p).lines older)
  line_in (Came now v) time place see p older told all = begun_in time place now (came now v see p) older (came_begins now v see p) all told
  line_in (Ticked now) time place see p older told all = begun_in time place now (ticks now see p) older (ticks_begin now see p) all told
  line_in (Added now page t op) time place see p older told all = begun_in time place now (adds now page t op see p) older (adds_begin now page t op see p) all told
  line_in (Tuned constants) time place see p older told all = (record { ticks = λ moment live e. absurd (no_tick (Calls (Tune constants)) moment tt e); hears = λ v live e. absurd (unheard v e) }, all) where
    unheard : (v : Datagram) → Calls (Tune constants) ≡ Calls (Hear v) → ⊥
    unheard v e = cc

all_in : (hosts : ℕ → Opening) (terms : Terms) (trace : List (At KeptLine)) → TellTimes terms trace → AreInTime (λ j. start_of (hosts j)) terms (performed hosts trace)
all_in hosts terms [] tells = tt
all_in hosts terms (e ∷ older) tells =
    let k = kept_at hosts older e.place in
    line_in (λ j. start_of (hosts j)) terms e.event e.time e.place (sees k.host) k.policy (performed hosts older) tells.0 (all_in hosts terms older tells.1)

pub kept_keeps_moments : KeptKeepsMoments
kept_keeps_moments hosts terms trace tells = record {
  times = λ newer older e now split live is. (one_in (λ j. start_of (hosts j)) terms newer older e (subst (AreInTime (λ j. start_of (hosts j)) terms) split (all_in hosts terms trace tells))).ticks now live is;
  behind = λ newer older e v split live is. (one_in (λ j. start_of (hosts j)) terms newer older e (subst (AreInTime (λ j. start_of (hosts j)) terms) split (all_in hosts terms trace tells))).hears v live is;
}
