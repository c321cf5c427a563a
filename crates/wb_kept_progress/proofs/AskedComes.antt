-- What a live host asks for comes, or is given up before its timer was backed off.
use Rattle.std.proofs.Common.{◌≡◌, ℕ, ◌+◌, ◌*◌, ◌<◌, ◌≤◌, Bool, true, false, List, ◌∷◌, ◌++◌, ◌∙◌, Option, Some, None, ap, arith, inl, inr, max, refl, subst, sym, true≢false, ⊎_elim}
use Rattle.std.specs.Prelude.{◌⊎◌, Contains, is_some}
use Rattle.wb_names.specs.Values.{NameValue}
use Rattle.wb_recovery.specs.declared.timers.AskTimer.{AskTimer}
use Rattle.wb_progress.specs.InTime.{known_from, repairing}
use Rattle.wb_progress.specs.Turns.{Terms, settled_by}
use Rattle.wb_member.specs.Judged.{holds}
use Rattle.wb_member.specs.Opened.{Opened, asks_for}
use Rattle.wb_kept_progress.specs.Promises.{host_then, timer_then}
use Rattle.wb_kept_progress.specs.Sessions.{Opening}
use Rattle.wb_kept_progress.specs.Timed.{AllHoldBehind, AreInOrder, At, IsGivenUp, IsTimely, Start, performed, start_of, time_of}
use Rattle.wb_kept_progress.specs.Whole.{IsHeldBySome, NewAreKept, WaitAtMost, request_span, there}
use Rattle.wb_kept_progress.proofs.AskedSince.{was_asked}
use Rattle.wb_kept_progress.proofs.CallParts.{host_is}
use Rattle.wb_kept_progress.proofs.GivenUp.{timer_leads_or_is_given_up}
use Rattle.wb_kept_progress.proofs.Timely.{none_held}
use Rattle.wb_kept_progress.proofs.WindowParts.{line_by}
use Rattle.wb_kept_progress.proofs.Young.{timers_are_young}
use Rattle.wb_keeping.specs.Laws.{KeptLine}
use Rattle.wb_member.specs.Lines.{Line}
use Rattle.wb_progress.proofs.Parts.{before_end, order_of}

-- a timer that stands
pub the_ask : (o : Option AskTimer) → is_some o ≡ true → (ask : AskTimer) × (o ≡ Some ask)
the_ask (Some ask) e = (ask, refl)
the_ask None e = absurd (true≢false (sym e))

-- ---- what is asked for

module _ (hosts : ℕ → Opening) (part : List (At KeptLine)) (i : ℕ) (n : NameValue) (asked : asks_for n (there hosts part i).host ≡ true) where
  -- a request timer stands for it
  pub timer_of : is_some (timer_then hosts (performed hosts part) i n) ≡ true
  timer_of = ap (λ (h : Opened). asks_for n h) (host_is hosts part i) ∙ asked

  -- and it is lacked
  pub asked_lacked : holds (there hosts part i).host n ≡ false
  asked_lacked = by (holds (there hosts part i).host n) refl where
    by : (b : Bool) → holds (there hosts part i).host n ≡ b → b ≡ false
    by false e = refl
    by true e =
        let held : holds (host_then hosts (performed hosts part) i) n ≡ true = ap (λ (h : Opened). holds h n) (host_is hosts part i) ∙ e in
        absurd (true≢false (sym timer_of ∙ ap is_some (none_held (λ j. start_of (hosts j)) (performed hosts part) i n held)))

-- ---- by when it comes

module _ (hosts : ℕ → Opening) (terms : Terms) (trace : List (At KeptLine)) (wait : ℕ) (timely : IsTimely (λ j. start_of (hosts j)) terms (performed hosts trace)) (waits : WaitAtMost hosts terms trace wait)
    (front back : List (At Line)) (i : ℕ) (n : NameValue) (ask : AskTimer) (split : performed hosts trace ≡ front ++ back)
    (known : known_from terms + wait + repairing terms < time_of back) (live : Contains terms.live i)
    (held : IsHeldBySome hosts terms trace n) (stands : timer_then hosts back i n ≡ Some ask) where
  abbrev starts : ℕ → Start
  starts j = start_of (hosts j)

  abbrev all : List (At Line)
  all = performed hosts trace

  abbrev due : ℕ
  due = time_of back + terms.asking * terms.far

  abbrev Comes : Type 0
  Comes = AllHoldBehind starts terms all (time_of back + request_span terms + repairing terms) n

  -- it is given up, and its timer was not backed off
  abbrev IsGivenUpNew : Type 0
  IsGivenUpNew = (ask.level ≡ 0) × IsGivenUp starts all back i n ask (max (time_of back) due + terms.late)

  settled : settled_by terms < time_of back
  settled = omega (arith, known)

  by_then : (by : ℕ) → by ≤ time_of back + request_span terms + repairing terms → AllHoldBehind starts terms all by n → Comes
  by_then by le comes newer later j is lt live_j = comes newer later j is (omega (arith, le, lt)) live_j

  new_comes : ask.level ≡ 0 → Comes ⊎ IsGivenUpNew
  new_comes new =
      let w = was_asked hosts terms trace timely front back i n ask split (let s = settled in omega (arith, s)) live stands new in
      let by = line_by back w.newer w.older w.x (order_of front back (subst AreInOrder split timely.order)) w.split in
      let due_by = w.due in
      let after = settled in
      ⊎_elim
      (λ (comes : AllHoldBehind starts terms all (max (time_of back) due + repairing terms) n). inl (by_then (max (time_of back) due + repairing terms) (omega arith) comes))
      (λ (g : IsGivenUp starts all back i n ask (max (time_of back) due + terms.late)). inr (new, g))
      (timer_leads_or_is_given_up starts terms all front back i n ask due timely split live (omega (arith, known)) stands (omega (arith, due_by, by, after)) held)

  pub comes_or_is_given_up : Comes ⊎ IsGivenUpNew
  comes_or_is_given_up = ⊎_elim
      (λ (new : ask.level ≡ 0). new_comes new)
      (λ (comes : AllHoldBehind starts terms all (time_of back + repairing terms) n). inl (by_then (time_of back + repairing terms) (omega arith) comes))
      (timers_are_young hosts terms trace front back i wait n ask timely waits split live (omega (arith, known)) held stands)

-- if none is given up before its timer was backed off
module _ (hosts : ℕ → Opening) (terms : Terms) (trace : List (At KeptLine)) (since wait : ℕ) (timely : IsTimely (λ j. start_of (hosts j)) terms (performed hosts trace)) (waits : WaitAtMost hosts terms trace wait)
    (kept : NewAreKept hosts terms trace since) (front back : List (At Line)) (i : ℕ) (n : NameValue) (ask : AskTimer) (split : performed hosts trace ≡ front ++ back)
    (known : known_from terms + wait + repairing terms < time_of back) (late : since < time_of back) (live : Contains terms.live i)
    (held : IsHeldBySome hosts terms trace n) (stands : timer_then hosts back i n ≡ Some ask) where
  not_given_up : ask.level ≡ 0 → (by : ℕ) → IsGivenUp (λ j. start_of (hosts j)) (performed hosts trace) back i n ask by → ⊥
  not_given_up new by g =
      let order = order_of g.front (g.e ∷ (g.between ++ back)) (subst AreInOrder g.split timely.order) in
      let first = order.0 in
      let end : time_of back ≤ time_of (g.between ++ back) = before_end g.between back order.1 in
      let least =
      kept g.front (g.between ++ back) g.e n ask g.split (subst (Contains terms.live) (sym g.place) live) (omega (arith, first, end, late)) g.line
      (subst (λ (p : ℕ). timer_then hosts (g.between ++ back) p n ≡ Some ask) (sym g.place) g.stands) in
      none ask.level new least where
        none : (level : ℕ) → level ≡ 0 → 1 ≤ level → ⊥
        none level new least = omega (arith, new, least)

  pub asked_comes : AllHoldBehind (λ j. start_of (hosts j)) terms (performed hosts trace) (time_of back + request_span terms + repairing terms) n
  asked_comes = ⊎_elim
      (λ (comes : AllHoldBehind (λ j. start_of (hosts j)) terms (performed hosts trace) (time_of back + request_span terms + repairing terms) n). comes)
      (λ (g : (ask.level ≡ 0) × IsGivenUp (λ j. start_of (hosts j)) (performed hosts trace) back i n ask (max (time_of back) (time_of back + terms.asking * terms.far) + terms.late)). absurd (not_given_up g.0 (max (time_of back) (time_of back + terms.asking * terms.far) + terms.late) g.1))
      (comes_or_is_given_up hosts terms trace wait timely waits front back i n ask split known live held stands)
