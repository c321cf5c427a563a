-- A call in which a name is wanted: a timer stands after some of its lines, or it has no credit.
use Rattle.std.proofs.Common.{◌≡◌, ℕ, ◌<◌, ◌≤◌, true, List, ◌∷◌, ◌++◌, ◌∙◌, Some, ap, append_assoc, eqb-true, inl, inr, subst, sym, ⊎_elim}
use Rattle.std.specs.Prelude.{◌⊎◌, nat_eq}
use Rattle.wb_names.specs.Values.{NameValue}
use Rattle.wb_recovery.specs.declared.timers.AskTimer.{AskTimer}
use Rattle.wb_progress.specs.Turns.{IsNowAt, Terms}
use Rattle.wb_member.specs.Opened.{asks_for, present}
use Rattle.wb_policy.specs.Credit.{has_credit}
use Rattle.wb_keeping.specs.Kept.{Line}
use Rattle.wb_keeping.specs.Laws.{KeptLine, doing_of}
use Rattle.wb_keeping.specs.Performing.{Keeping, after_doing, after_lines, sees}
use Rattle.wb_kept_progress.specs.Sessions.{Opening}
use Rattle.wb_kept_progress.specs.Timed.{At, host_after, performed, performed_then, start_of, time_of}
use Rattle.wb_kept_progress.specs.Whole.{IsHeldBySome, there}
use Rattle.wb_kept_progress.proofs.AskedComes.{the_ask}
use Rattle.wb_kept_progress.proofs.CallParts.{host_is}
use Rattle.wb_kept_progress.proofs.KeptInTime.{front_of, then_both, then_front, then_time}
use Rattle.wb_kept_progress.proofs.NextDue.{there_here}
use Rattle.wb_kept_progress.proofs.Performed.{after_all}
use Rattle.wb_kept_progress.proofs.WantedIn.{IsAskedInCall, LacksCredit}
use Rattle.wb_kept_progress.proofs.WholeParts.{HasNoCredit, IsAsking, IsWanting, does, timer_then}

-- behind some lines that were performed a timer of the name stands
pub record HasTimer (hosts : ℕ → Opening) (calls : List (At KeptLine)) (i : ℕ) (n : NameValue) (back : List (At Line)) : Type 0 where
  pub front : List (At Line)
  pub split : performed hosts calls ≡ front ++ back
  pub ask : AskTimer
  pub stands : timer_then hosts back i n ≡ Some ask

module _ (hosts : ℕ → Opening) (i : ℕ) (n : NameValue) where
  -- so it is behind lines of a call
  pub timer_in_call : (window base front grown : List (At KeptLine)) (e : At KeptLine) → window ≡ front ++ e ∷ grown → nat_eq e.place i ≡ true
      → IsAskedInCall n (doing_of e.event) (there hosts (grown ++ base) i)
      → (back : List (At Line)) × HasTimer hosts (window ++ base) i n back × (time_of back ≡ e.time)
  timer_in_call window base front grown e split same a = (back, record { front = f.0 ++ g.0; split = whole; ask = timer.0; stands = timer.1 }, then_time e.time e.place a.before a.first (performed hosts older)) where
    older : List (At KeptLine)
    older = grown ++ base

    k : Keeping
    k = there hosts older i

    at_i : e.place ≡ i
    at_i = eqb-true e.place i same

    back : List (At Line)
    back = performed_then e.time e.place (a.first ∷ a.before) (performed hosts older)

    lines : does hosts e older ≡ (a.first ∷ a.before) ++ a.later
    lines = ap (λ (p : ℕ). let m = there hosts older p in (doing_of e.event (sees m.host) m.policy).lines) at_i ∙ a.lines

    f : (newer : List (At Line)) × (performed hosts (front ++ e ∷ older) ≡ newer ++ performed hosts (e ∷ older))
    f = front_of hosts front (e ∷ older)

    g : (newer : List (At Line)) × (performed_then e.time e.place a.later back ≡ newer ++ back)
    g = then_front e.time e.place a.later back

    of_call : performed hosts (e ∷ older) ≡ g.0 ++ back
    of_call =
        ap (λ (ls : List Line). performed_then e.time e.place ls (performed hosts older)) lines
        ∙ then_both e.time e.place (a.first ∷ a.before) a.later (performed hosts older) ∙ g.1

    whole : performed hosts (window ++ base) ≡ (f.0 ++ g.0) ++ back
    whole =
        ap (λ (t : List (At KeptLine)). performed hosts (t ++ base)) split ∙ ap (performed hosts) (append_assoc front (e ∷ grown) base)
        ∙ f.1 ∙ ap (λ (t : List (At Line)). f.0 ++ t) of_call ∙ sym (append_assoc f.0 g.0 back)

    there_is : host_after (λ j. start_of (hosts j)) back i ≡ after_lines (a.first ∷ a.before) k.host
    there_is =
        after_all (λ j. start_of (hosts j)) e.time e.place (a.first ∷ a.before) (performed hosts older) i true same
        ∙ ap (after_lines (a.first ∷ a.before)) (host_is hosts older i)

    timer : (ask : AskTimer) × (timer_then hosts back i n ≡ Some ask)
    timer = the_ask (timer_then hosts back i n) (ap (asks_for n) there_is ∙ a.stands)

module _ (hosts : ℕ → Opening) (terms : Terms) (trace : List (At KeptLine)) (i : ℕ) (n : NameValue)
    (held : IsHeldBySome hosts terms trace n) where
  pub asking_in_call : (window base front grown : List (At KeptLine)) (e : At KeptLine) → window ≡ front ++ e ∷ grown → nat_eq e.place i ≡ true
      → IsAskedInCall n (doing_of e.event) (there hosts (grown ++ base) i)
      → (back : List (At Line)) × IsAsking hosts terms trace (window ++ base) i back × (time_of back ≡ e.time)
  asking_in_call window base front grown e split same a =
      let t = timer_in_call hosts i n window base front grown e split same a in
      (t.0, record { front = t.1.front; split = t.1.split; name = n; ask = t.1.ask; stands = t.1.stands; held = held }, t.2)

  -- so a name that is wanted in a call is asked for, or there is no credit
  pub wanting_in_call : (window base front grown older : List (At KeptLine)) (e : At KeptLine) (from by : ℕ) → window ≡ front ++ e ∷ grown → older ≡ grown ++ base
      → nat_eq e.place i ≡ true
      → IsNowAt terms e.time i (present (after_doing (doing_of e.event) (there hosts older i)).host)
      → IsAskedInCall n (doing_of e.event) (there hosts older i) ⊎ LacksCredit
      (after_doing (doing_of e.event) (there hosts older i)) → from < e.time → e.time ≤ by → IsWanting hosts terms trace window base i from by
  wanting_in_call window base front grown older e from by split is same now wants behind soon = record {
    front = front;
    part = e ∷ grown;
    split = split;
    behind = behind;
    soon = soon;
    wants = ⊎_elim
        (λ (a : IsAskedInCall n (doing_of e.event) (there hosts older i)). inl (asking_in_call window base front grown e split same (subst (λ (t : List (At KeptLine)). IsAskedInCall n (doing_of e.event) (there hosts t i)) is a)))
        (λ (without : LacksCredit (after_doing (doing_of e.event) (there hosts older i))). inr (subst (λ (t : List (At KeptLine)). HasNoCredit hosts terms (e ∷ t) i) is (
          subst (λ (x : Keeping). IsNowAt terms e.time i (present x.host)) (sym (there_here hosts e older i same)) now,
          ap (λ (x : Keeping). has_credit x.policy.owed (present x.host)) (there_here hosts e older i same) ∙ without,
        )))
        wants;
  }
