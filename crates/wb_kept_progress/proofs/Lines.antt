-- What lines make of a host: of what it holds, and of the timers of a name.
use Rattle.wb_progress.specs.Keepers.{constants_at}
use Rattle.std.proofs.Common.{◌≡◌, Bool, true, false, cond, List, [], ◌∷◌, ◌∙◌, None, ap, refl, subst, sym, true≢false, ◌≤◌, arith, length, length-append}
use Rattle.std.specs.Prelude.{◌||◌, Contains, is_some, not}
use Rattle.std.proofs.lemmas.List.Elements.{Contains-append_left}
use Rattle.wb_names.specs.Arrivals.{Outcome, New, Again, Clash, Left, history_with, outcome_of}
use Rattle.wb_names.specs.History.{IsHistory}
use Rattle.wb_names.specs.Orders.{same_name}
use Rattle.wb_names.specs.Values.{DrawopValue, NameValue}
use Rattle.wb_names.proofs.Orders.{same_name-is}
use Rattle.wb_codec.specs.declared.datagram.Datagram.TheVariants.{Draw, Request}
use Rattle.wb_recovery.specs.Events.{timers_of}
use Rattle.wb_recovery.specs.Timing.{got, noticed}
use Rattle.wb_recovery.specs.declared.timers.Timers.{Timers}
use Rattle.wb_keeper.specs.Keeper.{delay_to, given_up, holds}
use Rattle.wb_member.specs.Members.{Misses}
use Rattle.wb_member.specs.Opened.{Opened, accepted, asks_for, doing, events, has_room_for, heard, may_ask, present}
use Rattle.wb_member.specs.Board.{Held}
use Rattle.wb_member.specs.Random.{word_of}
use Rattle.wb_member.specs.declared.calls.Call.{Call}
use Rattle.wb_member.specs.declared.calls.Call.TheVariants.{Hear, Ask, SetDelay, Stop}
use Rattle.wb_member.proofs.KeptBoards.{calls_keep_boards}
use Rattle.wb_keeping.specs.Kept.{Arrives, Line, Says, Transition, Calls}
use Rattle.wb_keeping.specs.Performing.{after_line, after_lines, Keeping, after_doing, sees}
use Rattle.wb_laws_sessions.proofs.Once.{with_once}
use Rattle.wb_keeping.proofs.EachLine.{DoesEach, Each, OfPolicy}
use Rattle.std.proofs.lemmas.Bool.{false_from_ne_true}

-- ---- any lines

-- the member stays whose it is
pub record IsOf (host next : Opened) : Type 0 where
  pub number : next.is.number ≡ host.is.number
  pub cells : next.is.cells ≡ host.is.cells
  pub constants : next.is.constants ≡ host.is.constants

pub same_member : (host : Opened) → IsOf host host
same_member host = record { number = refl; cells = refl; constants = refl }

pub line_of : (line : Line) (host : Opened) → IsOf host (after_line line host)
line_of (Calls (Hear v)) host = by (has_room_for v host) where
  by : (b : Bool) → IsOf host (cond b (heard v host) host)
  by true = record { number = refl; cells = refl; constants = refl }
  by false = same_member host
line_of (Calls (Ask name)) host = by (may_ask name host) where
  by : (b : Bool) → IsOf host (cond b (doing (Misses (present host) (name ∷ []) (word_of host.random ∷ [])) 1 host) host)
  by true = record { number = refl; cells = refl; constants = refl }
  by false = same_member host
line_of (Says (Draw d)) host = record { number = refl; cells = refl; constants = refl }
line_of line host = record { number = refl; cells = refl; constants = refl }

pub lines_of : (lines : List Line) (host : Opened) → IsOf host (after_lines lines host)
lines_of [] host = same_member host
lines_of (line ∷ lines) host =
    let one = line_of line host in
    let rest = lines_of lines (after_line line host) in
    record { number = rest.number ∙ one.number; cells = rest.cells ∙ one.cells; constants = rest.constants ∙ one.constants }

-- ---- what is held

with_grows : (h : List DrawopValue) (d : DrawopValue) (o : Outcome) (x : DrawopValue) → Contains h x → Contains (history_with h d o) x
with_grows h d (New i) x c = Contains-append_left h (d ∷ []) x c
with_grows h d (Again i) x c = c
with_grows h d (Clash i) x c = c
with_grows h d Left x c = c

with_longer : (h : List DrawopValue) (d : DrawopValue) (o : Outcome) → length h ≤ length (history_with h d o)
with_longer h d (New i) = let e = length-append h (d ∷ []) in omega (arith, e)
with_longer h d (Again i) = omega arith
with_longer h d (Clash i) = omega arith
with_longer h d Left = omega arith

-- no call brings a drawop
pub call_holds : (call : Call) (host : Opened) → (after_line (Calls call) host).is.held ≡ host.is.held
call_holds call host = ap (λ (b : Held). b.drawops) (calls_keep_boards call host).board

-- What is held stays, and no name comes to stand twice.
pub record Grows (host next : Opened) : Type 0 where
  pub kept : (x : DrawopValue) → Contains host.is.held x → Contains next.is.held x
  pub longer : length host.is.held ≤ length next.is.held
  pub once : IsHistory host.is.held → IsHistory next.is.held

stays : (host next : Opened) → next.is.held ≡ host.is.held → Grows host next
stays host next e = record {
  kept = λ x c. subst (λ (h : List DrawopValue). Contains h x) (sym e) c;
  longer = let same = ap (λ (h : List DrawopValue). length h) e in omega (arith, same);
  once = λ once. subst IsHistory (sym e) once;
}

accepts : (d : DrawopValue) (host : Opened) → Grows host (accepted d host)
accepts d host = record {
  kept = λ x c. with_grows host.is.held d (outcome_of host.is.cells host.is.held d) x c;
  longer = with_longer host.is.held d (outcome_of host.is.cells host.is.held d);
  once = λ once. with_once host.is.cells host.is.held d (outcome_of host.is.cells host.is.held d) refl once;
}

pub line_grows : (line : Line) (host : Opened) → Grows host (after_line line host)
line_grows (Arrives d) host = accepts d host
line_grows (Calls call) host = stays host (after_line (Calls call) host) (call_holds call host)
line_grows (Says (Draw d)) host = accepts d host
line_grows line host = stays host (after_line line host) refl

pub lines_grow : (lines : List Line) (host : Opened) → Grows host (after_lines lines host)
lines_grow [] host = stays host host refl
lines_grow (line ∷ lines) host =
    let one = line_grows line host in
    let rest = lines_grow lines (after_line line host) in
    let a = one.longer in
    let b = rest.longer in
    record { kept = λ x c. rest.kept x (one.kept x c); longer = omega (arith, a, b); once = λ once. rest.once (one.once once) }

-- ---- lines at which time stands still, nothing comes, and no request is said

abbrev pub IsSmall : Line → Type 0
IsSmall (Calls (Ask name)) = Unit {0}
IsSmall (Calls (Stop name)) = Unit {0}
IsSmall (Calls (SetDelay source micros)) = Unit {0}
IsSmall (Says (Draw d)) = ⊥
IsSmall (Says (Request asker name)) = ⊥
IsSmall (Says v) = Unit {0}
IsSmall line = ⊥

abbrev pub AreSmall : List Line → Type 0
AreSmall lines = Each IsSmall lines

-- such are those with which a policy asks and tells
pub are_small : OfPolicy IsSmall
are_small = record {
  asks = λ name. tt;
  stops = λ name. tt;
  sets = λ source micros. tt;
  states = λ v page. tt;
  asks_pages = λ asker. tt;
  reports = λ sender sent page marks echoes. tt;
}

-- What is held stays, and the moment; and so do the timers of a name that is held and is not asked for.
pub record Rests (host next : Opened) : Type 0 where
  pub held : next.is.held ≡ host.is.held
  pub now : present next ≡ present host
  pub timers : (n : NameValue) → holds host.is.held n ≡ true → (timers_of host.is.constants (events host) n).ask ≡ None → timers_of next.is.constants (events next) n ≡ timers_of host.is.constants (events host) n

rest : (host : Opened) → Rests host host
rest host = record { held = refl; now = refl; timers = λ n held none. refl }

-- another name than one that is held
another : (host : Opened) (name n : NameValue) → may_ask name host ≡ true → holds host.is.held n ≡ true → same_name name n ≡ false
another host name n may held = false_from_ne_true (same_name name n) (λ same.
    let e : holds host.is.held name ≡ true = subst (λ (m : NameValue). holds host.is.held m ≡ true) (sym (same_name-is name n same)) held in
    true≢false (sym may ∙ ap (λ (b : Bool). not (b || timed host name)) e)) where
      timed : Opened → NameValue → Bool
      timed host name = is_some (timers_of host.is.constants (events host) name).ask || is_some (timers_of host.is.constants (events host) name).answer

asks_rest : (name : NameValue) (host : Opened) → Rests host (after_line (Calls (Ask name)) host)
asks_rest name host = by (may_ask name host) refl where
  asking : Opened
  asking = doing (Misses (present host) (name ∷ []) (word_of host.random ∷ [])) 1 host

  by : (b : Bool) → may_ask name host ≡ b → Rests host (cond b asking host)
  by true may = record {
    held = refl;
    now = refl;
    timers = λ n held none. ap (λ (b : Bool). cond b (noticed (constants_at host.is.number host.is.constants host.is.calls) (present host) (delay_to host.is.number host.is.calls name.source) (word_of host.random) (timers_of host.is.constants (events host) n)) (timers_of host.is.constants (events host) n)) (another host name n may held);
  }
  by false may = rest host

stops_rest : (name : NameValue) (host : Opened) → Rests host (after_line (Calls (Stop name)) host)
stops_rest name host = record { held = refl; now = refl; timers = λ n held none. by n none (asks_for name host) refl } where
  by : (n : NameValue) → (timers_of host.is.constants (events host) n).ask ≡ None → (b : Bool) → asks_for name host ≡ b → timers_of host.is.constants (given_up (present host) name b (events host)) n ≡ timers_of host.is.constants (events host) n
  by n none false e = refl
  by n none true e = ap (λ (b : Bool). cond b (got (present host) 0 (timers_of host.is.constants (events host) n)) (timers_of host.is.constants (events host) n)) (false_from_ne_true (same_name name n) (λ same.
      let asked : is_some (timers_of host.is.constants (events host) n).ask ≡ true = subst (λ (m : NameValue). asks_for m host ≡ true) (same_name-is name n same) e in
      true≢false (sym asked ∙ ap is_some none)))

pub line_rests : (line : Line) (host : Opened) → IsSmall line → Rests host (after_line line host)
line_rests (Calls (Ask name)) host small = asks_rest name host
line_rests (Calls (Stop name)) host small = stops_rest name host
line_rests (Calls (SetDelay source micros)) host small = record { held = refl; now = refl; timers = λ n held none. refl }
line_rests (Says (Draw d)) host small = absurd small
line_rests (Says v) host small = rest host
line_rests line host small = absurd small

pub rests_then : (host next last : Opened) → Rests host next → Rests next last → Rests host last
rests_then host next last one more = record {
  held = more.held ∙ one.held;
  now = more.now ∙ one.now;
  timers = λ n held none.
      let e = one.timers n held none in
      more.timers n (ap (λ (h : List DrawopValue). holds h n) one.held ∙ held) (ap (λ (s : Timers). s.ask) e ∙ none) ∙ e;
}

pub lines_rest : (lines : List Line) (host : Opened) → AreSmall lines → Rests host (after_lines lines host)
lines_rest [] host small = rest host
lines_rest (line ∷ lines) host small =
    let next = after_line line host in
    rests_then host next (after_lines lines next) (line_rests line host small.0) (lines_rest lines next small.1)

pub does_rest : (does : Transition) → DoesEach IsSmall does → (k : Keeping) → Rests k.host (after_doing does k).host
does_rest does small k = lines_rest (does (sees k.host) k.policy).lines k.host (small (sees k.host) k.policy)
