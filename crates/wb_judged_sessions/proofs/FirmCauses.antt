-- Why a name is given up: its timer is old, or 64 stand, or the board is full.
use Rattle.std.proofs.Common.{◌≡◌, ◌≤◌, Bool, true, false, List, ◌∷◌, ◌++◌, ◌∙◌, Some, None, arith, inl, inr, refl, subst, sym}
use Rattle.std.specs.Prelude.{◌⊎◌}
use Rattle.std.proofs.lemmas.Option.{same_Some}
use Rattle.wb_names.specs.Values.{NameValue}
use Rattle.wb_recovery.specs.Events.{timers_of}
use Rattle.wb_recovery.specs.declared.timers.AskTimer.{AskTimer}
use Rattle.wb_member.specs.Judged.{is_full}
use Rattle.wb_member.specs.Opened.{Opened, events}
use Rattle.wb_member.specs.declared.calls.Call.TheVariants.{Stop}
use Rattle.wb_keeping.specs.Bounds.{timer_count}
use Rattle.wb_keeping.specs.Kept.{Calls, Line}
use Rattle.wb_keeping.specs.Laws.{KeptLine, doing_of, fault_of}
use Rattle.wb_keeping.specs.Performing.{Keeping, after_doing, after_lines, sees}
use Rattle.wb_keeping.proofs.AskedTimers.{count_seen}
use Rattle.wb_keeping.proofs.EachStep.{line_holds}
use Rattle.wb_kept_progress.proofs.StopCauses.{AreCaused, GivesUpFor, HasStopCause, caused_at, steps_give_up}

module _ (n : NameValue) (x : AskTimer) where
  abbrev pub IsCause : Opened → Opened → Type 0
  IsCause host last = (4 ≤ x.level) ⊎ (64 ≤ timer_count host) ⊎ (is_full last ≡ true)

  by_timer : (host last : Opened) → (timers_of host.is.constants (events host) n).ask ≡ Some x → HasStopCause host n → IsCause host last
  by_timer host last stands (inl old) = inl (subst (λ (a : AskTimer). 4 ≤ a.level) (same_Some old.0 x (sym old.1 ∙ stands)) old.2)
  by_timer host last stands (inr many) = let le = many.0 in let seen = count_seen host in inr (inl (omega (arith, le, seen)))

  pub why_given_up : (call : KeptLine) (k : Keeping) (before later : List Line) → fault_of call k ≡ None → (doing_of call (sees k.host) k.policy).lines ≡ before ++ Calls (Stop n) ∷ later
      → let host = after_lines before k.host in (timers_of host.is.constants (events host) n).ask ≡ Some x → IsCause host (after_doing (doing_of call) k).host
  why_given_up call k before later taken split stands = by (is_full last) refl where
    host : Opened
    host = after_lines before k.host

    last : Opened
    last = (after_doing (doing_of call) k).host

    by : (b : Bool) → is_full last ≡ b → IsCause host last
    by true full = inr (inr full)
    by false room =
        let caused = subst (λ (lines : List Line). AreCaused lines k.host) split ((line_holds GivesUpFor steps_give_up call k taken).caused room) in
        by_timer host last stands (caused_at before later (Calls (Stop n)) k.host caused)
