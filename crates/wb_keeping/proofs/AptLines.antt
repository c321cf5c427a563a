-- A self-managing host sets and backs off timers by delays that are not below 10 milliseconds, and time does not go back.
use Rattle.std.proofs.Common.{◌≡◌, ℕ, ◌+◌, ◌≤◌, Bool, true, false, cond, List, [], ◌∷◌, ◌++◌, arith, map}
use Rattle.std.specs.Prelude.{◌&&◌, max, min, nat_eq, nat_le}
use Rattle.std.proofs.lemmas.Bool.{and_parts, leb-true}
use Rattle.wb_codec.specs.declared.datagram.Datagram.{Datagram}
use Rattle.wb_codec.specs.declared.datagram.Datagram.TheVariants.{Draw, Session, Request, AskPages, PageState}
use Rattle.wb_recovery.specs.Timing.{are_constants, is_constant}
use Rattle.wb_recovery.specs.declared.tuning.Tuning.{Tuning}
use Rattle.wb_member.specs.Opened.{Opened, opened_with}
use Rattle.wb_member.specs.declared.calls.Call.TheVariants.{Tick, Hear}
use Rattle.wb_keeping.specs.Bounds.{new_keeping}
use Rattle.wb_policy.specs.Delays.{bounded, known}
use Rattle.wb_recovery.specs.declared.limits.TheConstants.{UNKNOWN_DELAY}
use Rattle.wb_keeping.specs.Kept.{Calls, Line, ticks_at}
use Rattle.wb_keeping.specs.Laws.{AreTaken, KeptLine, expand}
use Rattle.wb_keeping.specs.Performing.{Keeping, after_line, after_lines}
use Rattle.wb_policy.specs.Policy.{Policy}
use Rattle.wb_keeping.proofs.EachStep.{all_parts_hold}
use Rattle.wb_keeping.proofs.KeptDelays.{AreSo, Keeps, Terms, parts_keep, ticks_so}
use Rattle.wb_keeping.proofs.SpacedLines.{AreApt, IsApt, IsSpacedHost, tick_spaced}

pub apt_parts : (one other : List Line) (host : Opened) → AreApt (one ++ other) host → AreApt one host × AreApt other (after_lines one host)
apt_parts [] other host apt = (tt, apt)
apt_parts (line ∷ one) other host apt = let rest = apt_parts one other (after_line line host) apt.1 in ((apt.0, rest.0), rest.1)

-- ---- what is so of each line

abbrev IsLong : ℕ → Type 0
IsLong micros = 10000 ≤ micros

bounded_long : (micros : ℕ) → IsLong (bounded micros)
bounded_long micros = by (min (max micros 10000) 1000000) (omega arith) where
  by : (m : ℕ) → 10000 ≤ m → 10000 ≤ known m
  by m le = either (nat_eq m UNKNOWN_DELAY) where
    either : (b : Bool) → 10000 ≤ cond b (UNKNOWN_DELAY + 1) m
    either true = omega arith
    either false = le

first_constant : (constants : Tuning) → are_constants constants ≡ true → 1 ≤ constants.c1
first_constant constants within =
    let three = and_parts (is_constant constants.c1 && is_constant constants.c2 && is_constant constants.d1) (is_constant constants.d2) within in
    let two = and_parts (is_constant constants.c1 && is_constant constants.c2) (is_constant constants.d1) three.0 in
    let one = and_parts (is_constant constants.c1) (is_constant constants.c2) two.0 in
    let least = and_parts (nat_le 1 constants.c1) (nat_le constants.c1 16) one.0 in
    leb-true 1 constants.c1 least.0

hears_apt : (v : Datagram) (host : Opened) → AreSo IsLong host → IsApt (Calls (Hear v)) host
hears_apt (Draw d) host far = tt
hears_apt (Session sender sent page marks echoes) host far = tt
hears_apt (Request asker name) host far = far name.source
hears_apt (AskPages asker) host far = tt
hears_apt (PageState sender page marks) host far = tt

apt_terms : Terms IsLong IsApt
apt_terms = record {
  unknown = omega arith;
  told = bounded_long;
  mean = λ usual micros is le. omega (arith, le, is);
  ticks = λ now host later far. later;
  arrives = λ d host far. tt;
  hears = hears_apt;
  asks = λ name host far. far name.source;
  stops = λ name host far. tt;
  sets = λ source micros host. tt;
  tunes = λ constants host within far. first_constant constants within;
  draws = λ d host far. tt;
  reports = λ sender sent page marks echoes host far. tt;
  asks_pages = λ asker host far. tt;
  states = λ sender page marks host far. tt;
}

-- ---- from the opening on

ticks_spaced : (moments : List ℕ) (host : Opened) → IsSpacedHost host → IsSpacedHost (after_lines (ticks_at moments) host)
ticks_spaced [] host is = is
ticks_spaced (moment ∷ moments) host is = ticks_spaced moments (after_line (Calls (Tick moment)) host) (tick_spaced moment host is)

module _ (constants : Tuning) (number cells seed : ℕ) (moments : List ℕ) (policy : Policy) where
  abbrev start : Keeping
  start = new_keeping constants number cells seed moments policy

  pub new_spaced : are_constants constants ≡ true → IsSpacedHost start.host
  new_spaced within = ticks_spaced moments (opened_with constants number cells seed) (first_constant constants within, tt)

  pub apt_from_new : (lines : List KeptLine) → 10000 ≤ policy.usual → AreTaken lines start → AreApt (expand lines start) start.host
  apt_from_new lines usual taken =
      let far = ticks_so IsLong moments (opened_with constants number cells seed) (λ source. omega arith) in
      ((all_parts_hold (Keeps IsLong IsApt) (parts_keep IsLong IsApt apt_terms) lines start taken).so (record { delays = far; usual = usual })).0
