-- A request timer for what some live host held is of the lowest level, once the timers that stood when requests began to be answered are past; or all
-- come to hold its name soon.
use Rattle.std.proofs.Common.{◌≡◌, ℕ, ◌+◌, ◌<◌, ◌≤◌, List, ◌++◌, ◌∙◌, Some, ap, arith, inl, inr, subst, sym, ⊎_elim}
use Rattle.std.specs.Prelude.{◌⊎◌, Contains}
use Rattle.wb_names.specs.Values.{NameValue}
use Rattle.wb_recovery.specs.declared.timers.AskTimer.{AskTimer}
use Rattle.wb_recovery.specs.declared.timers.Timers.{Timers}
use Rattle.wb_progress.specs.InTime.{answering_by, known_from}
use Rattle.wb_progress.specs.Turns.{IsOtherOrLacked, Terms, Turn}
use Rattle.wb_progress.specs.Turns as turning
use Rattle.wb_progress.proofs.Giving.{spares_held}
use Rattle.wb_progress.proofs.Young.{timers_are_young as keepers_are_young}
use Rattle.wb_kept_progress.specs.Timed.{AllHoldBehind, At, IsAnswerable, IsTimely, Start, performed, start_of, time_of, timers_after, until}
use Rattle.wb_kept_progress.proofs.Lining.{places, time_is, turns_of, turns_over, until_is}
use Rattle.wb_kept_progress.proofs.Timely.{answerable, holding, joined, keep_time, timers_here}
use Rattle.wb_kept_progress.proofs.WholeParts.{TimersAreYoung}
use Rattle.wb_member.specs.Lines.{Line}

module _ (hosts : ℕ → Start) (terms : Terms) (trace : List (At Line)) (timely : IsTimely hosts terms trace) where
  pub are_young : (front back : List (At Line)) (i wait : ℕ) (n : NameValue) (ask : AskTimer) → ((other : AskTimer) → (timers_after hosts (until (known_from terms) trace) i n).ask ≡ Some other → other.due + terms.lag i ≤ known_from terms + wait)
      → trace ≡ front ++ back → Contains terms.live i → known_from terms + wait + terms.late < time_of back → IsAnswerable hosts terms trace n → (timers_after hosts back i n).ask ≡ Some ask → (ask.level ≡ 0) ⊎ AllHoldBehind hosts terms trace (time_of back + answering_by terms) n
  are_young front back i wait n ask waits split live lt a stands =
      let time = time_is hosts back in
      ⊎_elim
      (λ (z : ask.level ≡ 0). inl z)
      (λ (h : turning.AllHoldBehind (places hosts) terms (turns_of hosts trace) (turning.time_of (turns_of hosts back) + answering_by terms) n). inr (holding hosts terms trace timely n (time_of back + answering_by terms) (subst (λ (t : ℕ). turning.AllHoldBehind (places hosts) terms (turns_of hosts trace) (t + answering_by terms) n) time h)))
      (keepers_are_young (IsOtherOrLacked (places hosts) n) (places hosts) terms (turns_of hosts trace) (turns_over hosts front back) (turns_of hosts back) i wait n ask (keep_time hosts terms trace timely n) (spares_held (places hosts) n) waits_there (joined hosts terms trace timely front back split) live
      (subst (λ (t : ℕ). known_from terms + wait + terms.late < t) (sym time) lt) (answerable hosts terms trace timely n a) (ap (λ (s : Timers). s.ask) (timers_here hosts back i n) ∙ stands)) where
        waits_there : (other : AskTimer) → (turning.timers_there (places hosts) (turning.until (known_from terms) (turns_of hosts trace)) i n).ask ≡ Some other → other.due + terms.lag i ≤ known_from terms + wait
        waits_there other is = waits other (sym (ap (λ (s : Timers). s.ask) (timers_here hosts (until (known_from terms) trace) i n)) ∙ ap (λ (t : List (At Turn)). (turning.timers_there (places hosts) t i n).ask) (sym (until_is hosts (known_from terms) trace)) ∙ is)

pub timers_are_young : TimersAreYoung
timers_are_young hosts terms trace front back i wait n ask timely waits split live lt held stands = ⊎_elim
    (λ (z : ask.level ≡ 0). inl z)
    (λ (h : AllHoldBehind (λ j. start_of (hosts j)) terms (performed hosts trace) (time_of back + answering_by terms) n). inr (λ newer later j part behind live_j. h newer later j part (omega (arith, behind)) live_j))
    (are_young (λ j. start_of (hosts j)) terms (performed hosts trace) timely front back i wait n ask (λ other is. waits i n other live held is) split live lt held stands)
