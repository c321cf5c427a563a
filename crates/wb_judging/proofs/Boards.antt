-- What a board holds after the lines of a kept member: what it held, and the drawops that arrived.
use Rattle.std.proofs.Common.{◌≡◌, ◌∙◌, ℕ, Bool, true, false, cond, List, [], ◌∷◌, ◌++◌, ap, append-nil, drop, length, refl, subst, sym}
use Rattle.std.specs.Prelude.{◌||◌}
use Rattle.std.proofs.lemmas.List.{drop_at}
use Rattle.wb_names.specs.Arrivals.{history_after, history_with, outcome_of}
use Rattle.wb_names.specs.Values.{DrawopValue}
use Rattle.wb_names.specs.declared.name.PageId.{PageId}
use Rattle.wb_names.specs.declared.parts.Op.{Op}
use Rattle.wb_codec.specs.declared.datagram.Datagram.{Datagram}
use Rattle.wb_codec.specs.declared.datagram.Datagram.TheVariants.{Draw, PageState}
use Rattle.wb_member.specs.Board.{Held}
use Rattle.wb_member.specs.Lines.{Arrives, Calls, Line, Says, after_line, after_lines}
use Rattle.wb_member.specs.Opened.{Opened, ticked}
use Rattle.wb_member.specs.declared.calls.Call.{Call}
use Rattle.wb_member.specs.declared.calls.Call.TheVariants as calls
use Rattle.wb_member.proofs.KeptBoards.{calls_keep_boards}
use Rattle.wb_keeping.specs.Kept.{Transition, and_then, came, drawing, drew, ends_full, hears, learned, performs, takes, ticks, timed}
use Rattle.wb_keeping.specs.Laws.{Added, Came, KeptLine, Ticked, doing_of}
use Rattle.wb_keeping.specs.Performing.{Keeping, sees, view_of}
use Rattle.wb_keeping.specs.Views.{View, holds, is_asked, is_full}
use Rattle.wb_policy.specs.Policy.{Policy}
use Rattle.wb_keeping.proofs.EachLine.{DoesEach, Each, OfPolicy, ends_each, hears_each, learned_each, then_each, timed_each}
use Rattle.wb_keeping.proofs.Performed.{after_both as lines_then}
use Rattle.wb_judging.specs.Handing.{recalled}
use Rattle.wb_judging.specs.Laws.{drawops_in}
use Rattle.wb_judging.specs.Performing.{after_kept_line, gained}
use Rattle.wb_judging.specs.declared.record.RecordLine.{RecordLine}
use Rattle.wb_judging.specs.declared.record.RecordLine.TheVariants.{Known, Mark, Owner, Said, Strange, Tick}
use Rattle.wb_judging.proofs.Histories.{Gains, after_both, gained_is, gains}

-- ---- whatever a host does

-- some drawops arrive, and it has as many cells
pub record Takes (host after : Opened) : Type 0 where
  pub ds : List DrawopValue
  pub held : after.is.held ≡ history_after host.is.cells host.is.held ds
  pub cells : after.is.cells ≡ host.is.cells

takes_line : (line : Line) (host : Opened) → Takes host (after_line line host)
takes_line (Calls call) host =
    let same = (calls_keep_boards call host).board in
    record { ds = []; held = ap (λ (board : Held). board.drawops) same; cells = ap (λ (board : Held). board.cells) same }
takes_line (Arrives d) host = record { ds = d ∷ []; held = refl; cells = refl }
takes_line (Says (Draw d)) host = record { ds = d ∷ []; held = refl; cells = refl }
takes_line (Says v) host = record { ds = []; held = refl; cells = refl }

takes_through : (lines : List Line) (host : Opened) → Takes host (after_lines lines host)
takes_through [] host = record { ds = []; held = refl; cells = refl }
takes_through (line ∷ lines) host =
    let one = takes_line line host in
    let rest = takes_through lines (after_line line host) in
    record {
      ds = one.ds ++ rest.ds;
      held = rest.held
          ∙ ap (λ (cells : ℕ). history_after cells (after_line line host).is.held rest.ds) one.cells
          ∙ ap (λ (held : List DrawopValue). history_after host.is.cells held rest.ds) one.held
          ∙ sym (after_both host.is.cells host.is.held one.ds rest.ds);
      cells = rest.cells ∙ one.cells;
    }

pub takes_kept : (line : KeptLine) (k : Keeping) → Takes k.host (after_kept_line line k).host
unfolding after_kept_line
takes_kept line k = takes_through (doing_of line (sees k.host) k.policy).lines k.host

pub gains_kept : (line : KeptLine) (k : Keeping) → Gains k.host.is.cells k.host.is.held (after_kept_line line k).host.is.held
gains_kept line k =
    let t = takes_kept line k in
    subst (λ (after : List DrawopValue). Gains k.host.is.cells k.host.is.held after) (sym t.held) (gains k.host.is.cells k.host.is.held t.ds)

pub gained_kept : (line : KeptLine) (k : Keeping) → gained line k ≡ (gains_kept line k).more
gained_kept line k = gained_is k.host.is.cells k.host.is.held (after_kept_line line k).host.is.held (gains_kept line k)

-- ---- what it does for a datagram, and as time goes on

-- a line that brings no drawop
abbrev IsStill : Line → Type 0
IsStill line = (host : Opened) → (after_line line host).is.held ≡ host.is.held

all_still : (lines : List Line) (host : Opened) → Each IsStill lines → (after_lines lines host).is.held ≡ host.is.held
all_still [] host each = refl
all_still (line ∷ lines) host each = all_still lines (after_line line host) each.1 ∙ each.0 host

still_call : (call : Call) → IsStill (Calls call)
still_call call host = ap (λ (board : Held). board.drawops) (calls_keep_boards call host).board

still_policy : OfPolicy IsStill
still_policy = record {
  asks = λ name. still_call (calls.Ask name);
  stops = λ name host. refl;
  sets = λ source micros host. refl;
  states = λ v page host. refl;
  asks_pages = λ asker host. refl;
  reports = λ sender sent page marks echoes host. refl;
}

still_ticks : (now : ℕ) → DoesEach IsStill (performs (Calls (calls.Tick now)))
still_ticks now see p = (λ host. refl, tt)

still_timed : DoesEach IsStill timed
still_timed = timed_each IsStill still_policy

pub held_ticked : (now : ℕ) (k : Keeping) → (after_kept_line (Ticked now) k).host.is.held ≡ k.host.is.held
unfolding after_kept_line
held_ticked now k =
    all_still (ticks now (sees k.host) k.policy).lines k.host (then_each IsStill (performs (Calls (calls.Tick now))) timed (still_ticks now) still_timed (sees k.host) k.policy)

-- it is another datagram than a drawop
abbrev pub IsOther : Datagram → Type 0
IsOther v = (d : DrawopValue) → v ≡ Draw d → ⊥

pub held_heard : (now : ℕ) (v : Datagram) (k : Keeping) → IsOther v → (after_kept_line (Came now v) k).host.is.held ≡ k.host.is.held
unfolding after_kept_line
held_heard now v k other =
    all_still (came now v (sees k.host) k.policy).lines k.host
    (then_each IsStill (performs (Calls (calls.Tick now))) (and_then (hears v) timed) (still_ticks now)
    (then_each IsStill (hears v) timed (hears_each IsStill still_policy (λ v. still_call (calls.Hear v)) v (λ d is. absurd (other d is))) still_timed) (sees k.host) k.policy)

held_takes : (d : DrawopValue) (see : List Line → View) (p : Policy) (host : Opened) → (after_lines (takes d see p).lines host).is.held ≡ (after_line (Arrives d) host).is.held
held_takes d see p host = by (holds (see []) d.name || is_full (see [])) where
  learns : Transition
  learns = learned d.name (is_asked (see []) d.name)

  by : (b : Bool) → (after_lines (cond b (performs (Arrives d) see p) (and_then (performs (Arrives d)) learns see p)).lines host).is.held ≡ (after_line (Arrives d) host).is.held
  by true = refl
  by false =
      all_still (learns (λ (lines : List Line). see (Arrives d ∷ lines)) p).lines (after_line (Arrives d) host)
      (learned_each IsStill still_policy d.name (is_asked (see []) d.name) (λ (lines : List Line). see (Arrives d ∷ lines)) p)

pub held_drawn : (now : ℕ) (d : DrawopValue) (k : Keeping) → (after_kept_line (Came now (Draw d)) k).host.is.held ≡ history_with k.host.is.held d (outcome_of k.host.is.cells k.host.is.held d)
unfolding after_kept_line
held_drawn now d k =
    let see : List Line → View = λ lines. sees k.host (Calls (calls.Tick now) ∷ lines) in
    let one = takes d see k.policy in
    let two = timed (λ (lines : List Line). see (one.lines ++ lines)) one.policy in
    let host = ticked now k.host in
    ap (λ (h : Opened). h.is.held) (lines_then one.lines two.lines host)
    ∙ all_still two.lines (after_lines one.lines host) (still_timed (λ (lines : List Line). see (one.lines ++ lines)) one.policy)
    ∙ held_takes d see k.policy host

-- its user draws
abbrev pub its : (now : ℕ) (page : PageId) (time : ℕ) (op : Op) (k : Keeping) → DrawopValue
its now page time op k = drawing (view_of (ticked now k.host)) page time op

pub held_added : (now : ℕ) (page : PageId) (time : ℕ) (op : Op) (k : Keeping)
    → (after_kept_line (Added now page time op) k).host.is.held ≡ history_with k.host.is.held (its now page time op k) (outcome_of k.host.is.cells k.host.is.held (its now page time op k))
unfolding after_kept_line
held_added now page time op k =
    let d = its now page time op k in
    let see : List Line → View = λ lines. sees k.host (Calls (calls.Tick now) ∷ (Says (Draw d) ∷ lines)) in
    let p = drew d (view_of (ticked now k.host)) k.policy in
    all_still (and_then ends_full timed see p).lines (after_line (Says (Draw d)) (ticked now k.host)) (then_each IsStill ends_full timed (ends_each IsStill still_policy) still_timed see p)

-- a line of the record
pub held_recalled : (now : ℕ) (line : RecordLine) (k : Keeping) → (after_kept_line (recalled now line) k).host.is.held ≡ history_after k.host.is.cells k.host.is.held (drawops_in line)
held_recalled now (Tick past) k = held_ticked now k
held_recalled now (Said d) k = held_drawn now d k
held_recalled now (Known d) k = held_drawn now d k
held_recalled now (Strange d) k = held_drawn now d k
held_recalled now (Mark speaker page mark) k = held_heard now (PageState speaker page (mark ∷ [])) k (λ d is. absurd cc)
held_recalled now (Owner number place owner) k = held_ticked now k

-- what is gained
none_more : (h after : List DrawopValue) → after ≡ h → drop (length h) after ≡ []
none_more h after same = ap (λ (ds : List DrawopValue). drop (length h) ds) (same ∙ sym (append-nil h)) ∙ drop_at h [] (length h) refl

pub gained_ticked : (now : ℕ) (k : Keeping) → gained (Ticked now) k ≡ []
gained_ticked now k = none_more k.host.is.held (after_kept_line (Ticked now) k).host.is.held (held_ticked now k)

pub gained_heard : (now : ℕ) (v : Datagram) (k : Keeping) → IsOther v → gained (Came now v) k ≡ []
gained_heard now v k other = none_more k.host.is.held (after_kept_line (Came now v) k).host.is.held (held_heard now v k other)
