-- At each self-managing host time goes on, and delays are in range.
use Rattle.wb_recovery.specs.Timing.{are_constants}
use Rattle.std.proofs.Common.{◌≡◌, ℕ, ◌≤◌, Bool, true, false, cond, List, [], ◌∷◌, ◌∙◌, None, ap, arith, refl, subst, sym, eqb-true, length}
use Rattle.std.proofs.Math.Nat.{le_refl}
use Rattle.std.specs.Prelude.{nat_eq, take, ◌*◌, ◌/◌, ◌+◌, max, min}
use Rattle.wb_names.specs.Values.{NameValue}
use Rattle.wb_codec.specs.declared.datagram.Datagram.{Datagram}
use Rattle.wb_codec.specs.declared.datagram.Datagram.TheVariants.{Draw}
use Rattle.wb_gaps.specs.Answers.{pages_of}
use Rattle.wb_member.specs.Members.{Misses}
use Rattle.wb_member.specs.Opened.{Opened, doing, has_room_for, heard, may_ask, opened_with, present}
use Rattle.wb_member.specs.Random.{word_of}
use Rattle.wb_member.specs.declared.calls.Call.TheVariants.{Tick, Hear, SetDelay, Tune, Ask, Stop}
use Rattle.wb_progress.specs.Keepers.{AreOrderly, farthest}
use Rattle.wb_policy.specs.Delays.{bounded, usual_with}
use Rattle.wb_recovery.specs.declared.limits.TheConstants.{UNKNOWN_DELAY}
use Rattle.wb_policy.specs.declared.limits.TheConstants.{FIRST_DELAY}
use Rattle.wb_keeping.specs.Kept.{Doing, Line, Says, still, want, Calls, ticks_at}
use Rattle.wb_keeping.specs.Laws.{KeptLine, doing_of, fault_of}
use Rattle.wb_keeping.specs.Performing.{Keeping, after_doing, after_line, after_lines, sees, view_of}
use Rattle.wb_policy.specs.Policy.{Policy, after_wanting}
use Rattle.wb_keeping.specs.Views.{View, holds, is_full, level, is_known}
use Rattle.wb_policy.specs.Wanting.{is_wanted}
use Rattle.wb_keeping.proofs.EachStep.{HoldsOfSteps, line_holds}
use Rattle.wb_keeping.proofs.Performed.{after_both}
use Rattle.wb_keeping.proofs.Wanted.{lines_wanted}
use Rattle.wb_kept_progress.specs.Sessions.{AreHosts, AreTaken, At, DoNotGoBack, Opening, kept_at}
use Rattle.wb_kept_progress.proofs.Lines.{IsSmall}
use Rattle.wb_keeping.proofs.EachLine.{Each, states_each, wanted_each}

-- ---- delays in range

abbrev pub IsNear : Policy → Type 0
IsNear p = p.usual ≤ 1000000

abbrev IsFit : Line → Type 0
IsFit (Calls (SetDelay source micros)) = micros ≤ farthest
IsFit (Calls (Tune constants)) = are_constants constants ≡ true
IsFit line = IsSmall line

abbrev pub AreFit : List Line → Type 0
AreFit lines = Each IsFit lines

fits_orderly : (line : Line) (host : Opened) → IsFit line → AreOrderly host.is.calls → AreOrderly (after_line line host).is.calls
fits_orderly (Calls (Ask name)) host fit is = by (may_ask name host) where
  by : (b : Bool) → AreOrderly (cond b (doing (Misses (present host) (name ∷ []) (word_of host.random ∷ [])) 1 host) host).is.calls
  by true = (le_refl (present host), tt, is)
  by false = is
fits_orderly (Calls (Stop name)) host fit is = (le_refl (present host), tt, is)
fits_orderly (Calls (SetDelay source micros)) host fit is = (le_refl (present host), fit, is)
fits_orderly (Calls (Tune constants)) host fit is = (le_refl (present host), fit, is)
fits_orderly (Says (Draw d)) host fit is = absurd fit
fits_orderly (Says v) host fit is = is
fits_orderly line host fit is = absurd fit

fit_orderly : (lines : List Line) (host : Opened) → AreFit lines → AreOrderly host.is.calls → AreOrderly (after_lines lines host).is.calls
fit_orderly [] host fit is = is
fit_orderly (line ∷ lines) host fit is = fit_orderly lines (after_line line host) fit.1 (fits_orderly line host fit.0 is)

near_fits : (usual : ℕ) → usual ≤ 1000000 → usual ≤ farthest
near_fits usual near = omega (arith, near)

-- ---- each step

pub record Goes (k : Keeping) : Type 0 where
  pub orderly : AreOrderly k.host.is.calls
  pub near : IsNear k.policy

record GoesOn (k : Keeping) (lines : List Line) (m : Keeping) : Type 0 where
  at : m.host ≡ after_lines lines k.host
  goes : Goes k → Goes m

changes : (k m : Keeping) → m.host ≡ k.host → (IsNear k.policy → IsNear m.policy) → GoesOn k [] m
changes k m e near = record { at = e; goes = λ g. record { orderly = subst (λ (h : Opened). AreOrderly h.is.calls) (sym e) g.orderly; near = near g.near } }

hears_orderly : (v : Datagram) (host : Opened) → AreOrderly host.is.calls → AreOrderly (after_line (Calls (Hear v)) host).is.calls
hears_orderly v host is = by (has_room_for v host) where
  by : (b : Bool) → AreOrderly (cond b (heard v host) host).is.calls
  by true = (le_refl (present host), tt, is)
  by false = is

unknown_fits : UNKNOWN_DELAY ≤ farthest
unknown_fits = omega arith

bounded_near : (micros : ℕ) → bounded micros ≤ 1000000
bounded_near micros = by (nat_eq (min (max micros 10000) 1000000) UNKNOWN_DELAY) where
  by : (b : Bool) → cond b (UNKNOWN_DELAY + 1) (min (max micros 10000) 1000000) ≤ 1000000
  by true = omega arith
  by false = omega arith

usual_near : (u micros : ℕ) → u ≤ 1000000 → usual_with u (bounded micros) ≤ 1000000
usual_near u micros is = by (bounded micros) (bounded_near micros) where
  by : (m : ℕ) → m ≤ 1000000 → (7 * u + m) / 8 ≤ 1000000
  by m le = omega (arith, le, is)

bounded_fits : (micros : ℕ) → bounded micros ≤ farthest
bounded_fits micros = let near = bounded_near micros in omega (arith, near)

wants_on : (name : NameValue) (anew : Bool) (k : Keeping) → GoesOn k (want name anew (sees k.host) k.policy).lines (after_doing (want name anew) k)
wants_on name anew k = record { at = refl; goes = λ g. by g (is_wanted (holds v name) (is_full v) anew (is_known v name.source) (level v name) (length v.asked) k.policy.owed v.now) } where
  v : View
  v = view_of k.host

  wanted : Doing
  wanted = record { policy = after_wanting v.now k.policy; lines = lines_wanted name anew (sees k.host) k.policy }

  by : Goes k → (b : Bool) → Goes (let d : Doing = cond b wanted (still (sees k.host) k.policy) in record { host = after_lines d.lines k.host; policy = d.policy })
  by g true = record {
    orderly = fit_orderly (lines_wanted name anew (sees k.host) k.policy) k.host (wanted_each IsFit (λ name. tt) name tt anew (sees k.host) k.policy (near_fits k.policy.usual g.near) unknown_fits) g.orderly;
    near = g.near;
  }
  by g false = g

steps_go_on : HoldsOfSteps GoesOn
steps_go_on = record {
  due = record {
    nothing = λ k. changes k k refl (λ near. near);
    both = λ k m n one other a b. record { at = b.at ∙ ap (after_lines other) a.at ∙ sym (after_both one other k.host); goes = λ g. b.goes (a.goes g) };
    wants = wants_on;
    turned = λ t l k. changes k _ refl (λ near. near);
    beats = λ k due. changes k _ refl (λ near. near);
    answers = λ k is. record { at = refl; goes = λ g. record { orderly = fit_orderly _ k.host (states_each IsFit (view_of k.host) (λ page. tt) (take 64 (pages_of k.host.is.held))) g.orderly; near = g.near } };
    asks_pages = λ k is. record { at = refl; goes = λ g. record { orderly = g.orderly; near = g.near } };
    reports = λ page until told k is. record { at = refl; goes = λ g. record { orderly = g.orderly; near = g.near } };
  };
  ticks = λ now k later. record { at = refl; goes = λ g. record { orderly = (later, tt, g.orderly); near = g.near } };
  arrives = λ d k free. record { at = refl; goes = λ g. record { orderly = (le_refl (present k.host), tt, g.orderly); near = g.near } };
  answered = λ d k lacks asked. record { at = refl; goes = λ g. record { orderly = (le_refl (present k.host), tt, g.orderly); near = g.near } };
  hears = λ v k. record { at = refl; goes = λ g. record { orderly = hears_orderly v k.host g.orderly; near = g.near } };
  stops = λ name k full. record { at = refl; goes = λ g. record { orderly = (le_refl (present k.host), tt, g.orderly); near = g.near } };
  tunes = λ constants k within. record { at = refl; goes = λ g. record { orderly = (le_refl (present k.host), within, g.orderly); near = g.near } };
  sets = λ source micros k. record { at = refl; goes = λ g. record { orderly = (le_refl (present k.host), bounded_fits micros, g.orderly); near = g.near } };
  lends = λ source k. record { at = refl; goes = λ g. record { orderly = (le_refl (present k.host), near_fits k.policy.usual g.near, g.orderly); near = g.near } };
  takes_back = λ source k. record { at = refl; goes = λ g. record { orderly = (le_refl (present k.host), unknown_fits, g.orderly); near = g.near } };
  draws = λ d k unasked. record { at = refl; goes = λ g. record { orderly = (le_refl (present k.host), tt, g.orderly); near = g.near } };
  drawn = λ d k asked. record { at = refl; goes = λ g. record { orderly = (le_refl (present k.host), tt, g.orderly); near = g.near } };
  measured = λ micros k. changes k _ refl (λ near. usual_near k.policy.usual micros near);
  told = λ k. changes k _ refl (λ near. near);
  takes_up = λ k is. changes k _ refl (λ near. near);
}

pub line_goes : (line : KeptLine) (k : Keeping) → fault_of line k ≡ None → Goes k → Goes (after_doing (doing_of line) k)
line_goes line k none g = (line_holds GoesOn steps_go_on line k none).goes g

-- ---- from the opening on

opening_goes : (moments : List ℕ) (host : Opened) (now : ℕ) → present host ≡ now → DoNotGoBack now moments → AreOrderly host.is.calls → AreOrderly (after_lines (ticks_at moments) host).is.calls
opening_goes [] host now e on is = is
opening_goes (moment ∷ moments) host now e on is = opening_goes moments (after_line (Calls (Tick moment)) host) moment refl on.1 (subst (λ (n : ℕ). n ≤ moment) (sym e) on.0, tt, is)

first_near : FIRST_DELAY ≤ 1000000
first_near = omega arith

pub kept_goes : (hosts : ℕ → Opening) → AreHosts hosts → (lines : List (At KeptLine)) → AreTaken hosts lines → (i : ℕ) → Goes (kept_at hosts lines i)
kept_goes hosts are [] taken i =
    let o = hosts i in
    record { orderly = opening_goes o.moments (opened_with o.constants o.number o.cells o.seed) 0 refl (are.moments i) tt; near = first_near }
kept_goes hosts are (e ∷ older) taken i = by (kept_goes hosts are older taken.1 i) (nat_eq e.place i) refl where
  by : Goes (kept_at hosts older i) → (b : Bool) → nat_eq e.place i ≡ b → Goes (cond b (after_doing (doing_of e.event) (kept_at hosts older i)) (kept_at hosts older i))
  by goes false other = goes
  by goes true same =
      let at_i = eqb-true e.place i same in
      line_goes e.event (kept_at hosts older i) (subst (λ (k : ℕ). fault_of e.event (kept_at hosts older k) ≡ None) at_i taken.0) goes
