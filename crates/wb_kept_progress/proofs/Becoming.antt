-- A session of self-managing hosts becomes whole: while something is lacked that some hold, something new comes in each step.
use Rattle.std.proofs.Common.{◌≡◌, ℕ, ◌+◌, ◌*◌, ◌<◌, ◌≤◌, Bool, true, false, cond, List, [], ◌∷◌, ◌++◌, ◌∙◌, ap, append-nil, append_assoc, arith, inl, inr, max, refl, subst, suc, sym, zero, ⊎_elim, true≢false, get_or}
use Rattle.std.specs.Prelude.{◌⊎◌, Contains, length, nat_eq}
use Rattle.std.proofs.lemmas.List.{append_cancel_left, get_or_append_left}
use Rattle.std.proofs.lemmas.Bool.Decides.{leb_tells}
use Rattle.wb_names.specs.Arrivals.{Outcome, New, Again, Clash, Left, history_with, outcome_of}
use Rattle.wb_names.specs.History.{IsHistory}
use Rattle.wb_names.specs.Values.{DrawopValue, NameValue}
use Rattle.std.proofs.lemmas.List.Elements.{Contains-append_left, Contains-append_right}
use Rattle.wb_names.proofs.Listings.{Contains-cases, Contains-here, Contains-none, Contains-there}
use Rattle.wb_codec.specs.declared.datagram.Datagram.TheVariants.{Draw}
use Rattle.wb_keeper.proofs.KeptCalls.{holds_from}
use Rattle.wb_progress.specs.InTime.{AreApart, known_from, repairing}
use Rattle.wb_progress.specs.Turns.{Terms, settled_by}
use Rattle.wb_progress.proofs.Giving.{held_as}
use Rattle.wb_keeper.specs.Keeper.{holds as history_holds}
use Rattle.wb_member.specs.Judged.{holds}
use Rattle.wb_member.specs.Opened.{Opened, accepted}
use Rattle.wb_keeping.specs.Kept.{Line, Arrives, Says, Calls}
use Rattle.wb_keeping.specs.Laws.{KeptLine, doing_of}
use Rattle.wb_keeping.specs.Performing.{Keeping, after_doing, after_line, after_lines, sees}
use Rattle.wb_kept_progress.specs.Sessions.{Opening, kept_at}
use Rattle.wb_kept_progress.specs.Timed.{AllKeptHoldBehind, AreInOrder, At, host_after, performed, start_of, time_of, until}
use Rattle.wb_kept_progress.specs.Promises.{Holds, IsLate, IsStill, LackIsAsked, PromisesSuffice}
use Rattle.wb_kept_progress.specs.Whole.{IsHeldBySome, IsLackedAt, Lack, Sizes, asked_within, report_span, request_span, step, there, whole_by}
use Rattle.wb_kept_progress.proofs.CallsInTime.{performed_is_timely}
use Rattle.wb_kept_progress.proofs.GivenUp.{timer_leads_or_is_given_up}
use Rattle.wb_kept_progress.proofs.NothingNew.{held_was_held}
use Rattle.wb_kept_progress.proofs.Stillness.{stillness_ends}
use Rattle.wb_kept_progress.proofs.Young.{timers_are_young}
use Rattle.wb_kept_progress.proofs.Reached.{reached}
use Rattle.wb_kept_progress.proofs.Repairs.{held_once}
use Rattle.wb_kept_progress.proofs.WholeParts.{HeldWasHeld, StillnessEnds}
use Rattle.wb_kept_progress.proofs.CallParts.{lacked_until}
use Rattle.wb_kept_progress.proofs.Lines.{call_holds}

-- ---- what is held is followed by what comes

pub record Appends (old new : List DrawopValue) : Type 0 where
  pub more : List DrawopValue
  pub is : new ≡ old ++ more

nothing : (held : List DrawopValue) → Appends held held
nothing held = record { more = []; is = sym (append-nil held) }

joined : (a b c : List DrawopValue) → Appends a b → Appends b c → Appends a c
joined a b c one two = record { more = one.more ++ two.more; is = two.is ∙ ap (λ (h : List DrawopValue). h ++ two.more) one.is ∙ append_assoc a one.more two.more }

with_appends : (h : List DrawopValue) (d : DrawopValue) (o : Outcome) → Appends h (history_with h d o)
with_appends h d (New i) = record { more = d ∷ []; is = refl }
with_appends h d (Again i) = nothing h
with_appends h d (Clash i) = nothing h
with_appends h d Left = nothing h

accepts : (d : DrawopValue) (host : Opened) → Appends host.is.held (accepted d host).is.held
accepts d host = with_appends host.is.held d (outcome_of host.is.cells host.is.held d)

line_appends : (line : Line) (host : Opened) → Appends host.is.held (after_line line host).is.held
line_appends (Arrives d) host = accepts d host
line_appends (Calls call) host = record { more = []; is = call_holds call host ∙ sym (append-nil host.is.held) }
line_appends (Says (Draw d)) host = accepts d host
line_appends (Says v) host = nothing host.is.held

lines_append : (lines : List Line) (host : Opened) → Appends host.is.held (after_lines lines host).is.held
lines_append [] host = nothing host.is.held
lines_append (line ∷ lines) host = joined host.is.held (after_line line host).is.held (after_lines lines (after_line line host)).is.held (line_appends line host) (lines_append lines (after_line line host))

-- nothing follows where the end is the beginning
pub nothing_more : (a b c : List DrawopValue) (one : Appends a b) (two : Appends b c) → c ≡ a → b ≡ a
nothing_more a b c one two same = one.is ∙ ap (λ (m : List DrawopValue). a ++ m) (first one.more two.more none) ∙ append-nil a where
  none : one.more ++ two.more ≡ []
  none = append_cancel_left a (one.more ++ two.more) [] (sym (append_assoc a one.more two.more) ∙ ap (λ (h : List DrawopValue). h ++ two.more) (sym one.is) ∙ sym two.is ∙ same ∙ sym (append-nil a))

  first : (x y : List DrawopValue) → x ++ y ≡ [] → x ≡ []
  first [] y e = refl
  first (d ∷ x) y e = absurd (no e) where
    no : d ∷ (x ++ y) ≡ [] → ⊥
    no f = cc

-- what follows in a history has another name than all before
apart : (h more : List DrawopValue) (d x : DrawopValue) → IsHistory (h ++ d ∷ more) → Contains h x → x.name ≡ d.name → ⊥
apart h more d x once c same =
    once c.0 (length h) x c.1 (within h)
    (ap (λ (y : DrawopValue). y.name) (get_or_append_left h (d ∷ more) x c.0 c.1 ∙ c.2) ∙ same ∙ sym (ap (λ (y : DrawopValue). y.name) (at_end h))) where
      within : (h : List DrawopValue) → length h < length (h ++ d ∷ more)
      within [] = omega arith
      within (y ∷ h) = let rest = within h in omega (arith, rest)

      at_end : (h : List DrawopValue) → get_or (h ++ d ∷ more) (length h) x ≡ d
      at_end [] = refl
      at_end (y ∷ h) = at_end h

new_name : (h more : List DrawopValue) (d : DrawopValue) → IsHistory (h ++ d ∷ more) → history_holds h d.name ≡ true → ⊥
new_name h more d once held = let x = held_as h d.name held in apart h more d x.0 once x.1 x.2

-- ---- what hosts hold after calls

module _ (hosts : ℕ → Opening) where
  abbrev held_at : List (At KeptLine) → ℕ → List DrawopValue
  held_at calls i = (there hosts calls i).host.is.held

  call_appends : (e : At KeptLine) (older : List (At KeptLine)) (i : ℕ) → Appends (held_at older i) (held_at (e ∷ older) i)
  call_appends e older i = by (nat_eq e.place i) where
    k : Keeping
    k = there hosts older i

    by : (b : Bool) → Appends (held_at older i) (cond b (after_doing (doing_of e.event) k) k).host.is.held
    by true = lines_append (doing_of e.event (sees k.host) k.policy).lines k.host
    by false = nothing (held_at older i)

  pub appends : (front part : List (At KeptLine)) (i : ℕ) → Appends (held_at part i) (held_at (front ++ part) i)
  appends [] part i = nothing (held_at part i)
  appends (e ∷ front) part i = joined (held_at part i) (held_at (front ++ part) i) (held_at (e ∷ (front ++ part)) i) (appends front part i) (call_appends e (front ++ part) i)

  -- what is held stays
  pub held_on : (front part : List (At KeptLine)) (i : ℕ) (n : NameValue) → holds (there hosts part i).host n ≡ true → holds (there hosts (front ++ part) i).host n ≡ true
  held_on front part i n h =
      let a = appends front part i in
      let d = held_as (held_at part i) n h in
      holds_from (held_at (front ++ part) i) n d.0 (subst (λ (held : List DrawopValue). Contains held d.0) (sym a.is) (Contains-append_left (held_at part i) a.more d.0 d.1)) d.2

  pub lacked_before : (front part : List (At KeptLine)) (i : ℕ) (n : NameValue) → holds (there hosts (front ++ part) i).host n ≡ false → holds (there hosts part i).host n ≡ false
  lacked_before front part i n lacks = by (holds (there hosts part i).host n) refl where
    by : (b : Bool) → holds (there hosts part i).host n ≡ b → b ≡ false
    by false e = refl
    by true e = absurd (true≢false (sym (held_on front part i n e) ∙ lacks))

  -- ---- something new, or nothing

  -- a live host got something new
  record Gains (live : List ℕ) (window base : List (At KeptLine)) : Type 0 where
    place : ℕ
    among : Contains live place
    name : NameValue
    held : holds (there hosts (window ++ base) place).host name ≡ true
    lacked : holds (there hosts base place).host name ≡ false

  abbrev AreSame : List ℕ → List (At KeptLine) → List (At KeptLine) → Type 0
  AreSame live window base = (i : ℕ) → Contains live i → held_at (window ++ base) i ≡ held_at base i

  pub one_gains : (window base : List (At KeptLine)) (i : ℕ) → IsHistory (held_at (window ++ base) i)
      → (held_at (window ++ base) i ≡ held_at base i) ⊎ ((n : NameValue) × (holds (there hosts (window ++ base) i).host n ≡ true) × (holds (there hosts base i).host n ≡ false))
  one_gains window base i once = by (appends window base i) where
    by : Appends (held_at base i) (held_at (window ++ base) i)
        → (held_at (window ++ base) i ≡ held_at base i) ⊎ ((n : NameValue) × (holds (there hosts (window ++ base) i).host n ≡ true) × (holds (there hosts base i).host n ≡ false))
    by a = from a.more a.is where
      from : (more : List DrawopValue) → held_at (window ++ base) i ≡ held_at base i ++ more
          → (held_at (window ++ base) i ≡ held_at base i) ⊎ ((n : NameValue) × (holds (there hosts (window ++ base) i).host n ≡ true) × (holds (there hosts base i).host n ≡ false))
      from [] is = inl (is ∙ append-nil (held_at base i))
      from (d ∷ more) is = inr (
        d.name,
        holds_from (held_at (window ++ base) i) d.name d (subst (λ (h : List DrawopValue). Contains h d) (sym is) (Contains-append_right (held_at base i) (d ∷ more) d (Contains-here d more))) refl,
        lacked (history_holds (held_at base i) d.name) refl,
      ) where
        lacked : (b : Bool) → history_holds (held_at base i) d.name ≡ b → b ≡ false
        lacked false e = refl
        lacked true e = absurd (new_name (held_at base i) more d (subst IsHistory is once) e)

  gains : (live : List ℕ) (window base : List (At KeptLine)) → ((i : ℕ) → IsHistory (held_at (window ++ base) i)) → AreSame live window base ⊎ Gains live window base
  gains [] window base once = inl (λ i c. absurd (Contains-none i c))
  gains (i ∷ live) window base once = ⊎_elim
      (λ (same : held_at (window ++ base) i ≡ held_at base i). ⊎_elim
      (λ (rest : AreSame live window base). inl (λ j c. ⊎_elim (λ (here : i ≡ j). subst (λ (k : ℕ). held_at (window ++ base) k ≡ held_at base k) here same) (λ (later : Contains live j). rest j later) (Contains-cases i j live c)))
      (λ (g : Gains live window base). inr (record { place = g.place; among = Contains-there i g.place live g.among; name = g.name; held = g.held; lacked = g.lacked }))
      (gains live window base once))
      (λ (g : (n : NameValue) × (holds (there hosts (window ++ base) i).host n ≡ true) × (holds (there hosts base i).host n ≡ false)).
      inr (record { place = i; among = Contains-here i live; name = g.0; held = g.1; lacked = g.2 }))
      (one_gains window base i (once i))

-- ---- a session

-- what a live host lacks behind a time that is late enough, and another held, it lacked at first
pub lacked_first : (hosts : ℕ → Opening) (terms : Terms) (trace newer part : List (At KeptLine)) (i : ℕ) (n : NameValue) → AreInOrder trace → trace ≡ newer ++ part → settled_by terms < time_of part → Contains terms.live i → IsHeldBySome hosts terms trace n
    → holds (there hosts part i).host n ≡ false → IsLackedAt hosts terms trace (until (settled_by terms) (performed hosts trace)) (record { place = i; name = n })
lacked_first hosts terms trace newer part i n order split late live held lacks = (
  live,
  held,
  subst (λ (t : List (At KeptLine)). holds (host_after (λ j. start_of (hosts j)) (until (settled_by terms) (performed hosts t)) i) n ≡ false) (sym split)
      (lacked_until hosts newer part (settled_by terms) i n (subst AreInOrder split order) late lacks),
)

module _ (hosts : ℕ → Opening) (terms : Terms) (trace : List (At KeptLine)) (sizes : Sizes) (wait most : ℕ) (all : Holds hosts terms trace sizes wait most)
    (was_held : HeldWasHeld) (asked : LackIsAsked) (ends : StillnessEnds) where
  abbrev start : ℕ
  start = max (known_from terms + wait + repairing terms) sizes.since

  -- ---- a still window in which something is lacked

  -- a still window ends by then
  abbrev still_by : ℕ → ℕ
  still_by from = from + asked_within terms sizes + sizes.gives * request_span terms + repairing terms

  ends_soon : (newest window base : List (At KeptLine)) → IsStill hosts terms trace newest window base → IsLate terms sizes wait base → (i : ℕ) → Contains terms.live i → (n : NameValue) → IsHeldBySome hosts terms trace n
      → holds (there hosts base i).host n ≡ false → time_of (window ++ base) ≤ still_by (time_of base)
  ends_soon newest window base still late i live n held lacks = ⊎_elim
      (λ no. let le = no.1 in omega (arith, le))
      (λ yes.
      let a = asked hosts terms trace newest window base sizes wait most i n all still late live held lacks yes.1 in
      let soon = a.3 in
      let e = ends hosts terms trace newest window base sizes wait most i a.0 all still late live a.1 a.2 in
      omega (arith, e, soon))
      (leb_tells (time_of (window ++ base)) (time_of base + asked_within terms sizes))

  -- ---- step by step

  abbrev at_step : ℕ → ℕ
  at_step k = start + k * step terms sizes

  -- Of k + 1 lacks at first, each but the last is filled after k steps.
  record AreFilled (part : List (At KeptLine)) (i : ℕ) (n : NameValue) (k : ℕ) : Type 0 where
    lacks : List Lack
    apart : AreApart lacks
    count : length lacks ≡ k + 1
    first : (x : Lack) → Contains lacks x → IsLackedAt hosts terms trace (until (settled_by terms) (performed hosts trace)) x
    then : (x : Lack) → Contains lacks x → (x ≡ record { place = i; name = n }) ⊎ (holds (there hosts part x.place).host x.name ≡ true)

  filled : (k : ℕ) (newer part : List (At KeptLine)) (i : ℕ) (n : NameValue) → trace ≡ newer ++ part → at_step k < time_of part → Contains terms.live i → IsHeldBySome hosts terms trace n → holds (there hosts part i).host n ≡ false → AreFilled part i n k
  filled zero newer part i n split late live held lacks = record {
    lacks = record { place = i; name = n } ∷ [];
    apart = (λ c. absurd (Contains-none _ c), tt);
    count = refl;
    first = λ x c. ⊎_elim
        (λ (same : record { place = i; name = n } ≡ x). subst (IsLackedAt hosts terms trace (until (settled_by terms) (performed hosts trace))) same (lacked_first hosts terms trace newer part i n all.session.order split (omega (arith, late)) live held lacks))
        (λ (none : Contains [] x). absurd (Contains-none x none))
        (Contains-cases (record { place = i; name = n }) x [] c);
    then = λ x c. ⊎_elim (λ (same : record { place = i; name = n } ≡ x). inl (sym same)) (λ (none : Contains [] x). absurd (Contains-none x none)) (Contains-cases (record { place = i; name = n }) x [] c);
  }
  filled (suc k) newer part i n split late live held lacks =
      let r = reached hosts terms trace all.session sizes.since sizes.pause all.soon.reports newer part (at_step k) i split live (omega arith) (omega arith) (omega (arith, late)) in
      by_window r.window r.base r.split r.from r.soon (filled k (newer ++ r.window) r.base) where
        by_window : (window base : List (At KeptLine)) → part ≡ window ++ base → at_step k < time_of base → time_of base ≤ at_step k + report_span terms sizes
            → ((j : ℕ) (m : NameValue) → trace ≡ (newer ++ window) ++ base → at_step k < time_of base → Contains terms.live j → IsHeldBySome hosts terms trace m → holds (there hosts base j).host m ≡ false → AreFilled base j m k) → AreFilled part i n (suc k)
        by_window window base is from soon before = ⊎_elim
            (λ (same : AreSame hosts terms.live window base).
            let still : IsStill hosts terms trace newer window base = record {
              split = whole;
              same = λ front mid j f live_j. nothing_more (held_at hosts base j) (held_at hosts (mid ++ base) j) (held_at hosts (window ++ base) j) (appends hosts mid base j)
                  (subst (λ (t : List (At KeptLine)). Appends (held_at hosts (mid ++ base) j) (held_at hosts t j)) (sym (ap (λ (t : List (At KeptLine)). t ++ base) f ∙ append_assoc front mid base)) (appends hosts front (mid ++ base) j)) (same j live_j);
            } in
            let e = ends_soon newer window base still (record { known = omega (arith, from); since = omega (arith, from) }) i live n held lacked in
            let top : time_of part ≡ time_of (window ++ base) = ap time_of is in
            absurd (omega (arith, e, soon, late, top)))
            (λ (g : Gains hosts terms.live window base). more g (before g.place g.name (whole ∙ sym (append_assoc newer window base)) from g.among
            (was_held hosts terms trace newer (window ++ base) g.place g.name all.session whole g.among g.held) g.lacked))
            (gains hosts terms.live window base (λ j. held_once hosts (window ++ base) j)) where
              whole : trace ≡ newer ++ (window ++ base)
              whole = split ∙ ap (λ (t : List (At KeptLine)). newer ++ t) is

              lacked : holds (there hosts base i).host n ≡ false
              lacked = lacked_before hosts window base i n (subst (λ (t : List (At KeptLine)). holds (there hosts t i).host n ≡ false) is lacks)

              x : Lack
              x = record { place = i; name = n }

              more : (g : Gains hosts terms.live window base) → AreFilled base g.place g.name k → AreFilled part i n (suc k)
              more g f = record {
                lacks = x ∷ f.lacks;
                apart = (λ c. true≢false (sym (here x c) ∙ lacks), f.apart);
                count = let c = f.count in omega (arith, c);
                first = λ y c. ⊎_elim
                    (λ (same : x ≡ y). subst (IsLackedAt hosts terms trace (until (settled_by terms) (performed hosts trace))) same (lacked_first hosts terms trace newer part i n all.session.order split (omega (arith, late)) live held lacks))
                    (λ (later : Contains f.lacks y). f.first y later)
                    (Contains-cases x y f.lacks c);
                then = λ y c. ⊎_elim (λ (same : x ≡ y). inl (sym same)) (λ (later : Contains f.lacks y). inr (here y later)) (Contains-cases x y f.lacks c);
              } where
                -- those that were found before are held now
                here : (y : Lack) → Contains f.lacks y → holds (there hosts part y.place).host y.name ≡ true
                here y c = subst (λ (t : List (At KeptLine)). holds (there hosts t y.place).host y.name ≡ true) (sym is) (⊎_elim
                    (λ (same : y ≡ record { place = g.place; name = g.name }). subst (λ (z : Lack). holds (there hosts (window ++ base) z.place).host z.name ≡ true) (sym same) g.held)
                    (λ (h : holds (there hosts base y.place).host y.name ≡ true). held_on hosts window base y.place y.name h)
                    (f.then y c))

  all_hold : (n : NameValue) → IsHeldBySome hosts terms trace n → AllKeptHoldBehind hosts terms trace (whole_by terms sizes wait most) n
  all_hold n held newer later i split lt live = by (holds (kept_at hosts later i).host n) refl where
    by : (b : Bool) → holds (kept_at hosts later i).host n ≡ b → b ≡ true
    by true e = refl
    by false e =
        let f = filled most newer later i n split (omega (arith, lt)) live held e in
        let le = all.lacks f.lacks f.apart f.first in
        let c = f.count in
        absurd (omega (arith, le, c))

pub promises_suffice : PromisesSuffice
promises_suffice promises hosts terms trace sizes wait most n session within soon waits lacks short held =
    all_hold hosts terms trace sizes wait most (record { session = session; within = within; soon = soon; waits = waits; lacks = lacks; short = short })
    held_was_held promises.asks (stillness_ends timers_are_young timer_leads_or_is_given_up performed_is_timely promises.keeps)
    n held
