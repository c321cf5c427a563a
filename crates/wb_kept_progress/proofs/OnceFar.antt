-- The example with a long delay before `quiet` computes.
use Rattle.std.proofs.Common.{◌≡◌, ℕ, ◌+◌, ◌<◌, ◌≤◌, ◌∙◌, Bool, true, false, Option, None, Some, ap, arith, inr, leb-true, ltb-true, nat_lt, refl, subst, sym, true≢false, ⊎_elim}
use Rattle.wb_gaps.specs.Answers.{gaps_of, pages_of, report_of}
use Rattle.wb_recovery.specs.declared.timers.AskTimer.{AskTimer}
use Rattle.wb_recovery.specs.declared.timers.Timers.{Timers}
use Rattle.wb_member.specs.Judged.{holds}
use Rattle.wb_member.specs.Random.{after_word, started, word_of}
use Rattle.wb_policy.specs.Choices.{near_names}
use Rattle.wb_policy.specs.Words as words
use Rattle.wb_keeping.specs.Kept.{leaps_on, turns_on}
use Rattle.wb_kept_progress.specs.Examples.{drawn, hosts}
use Rattle.wb_kept_progress.specs.OnceFar.{OnceFarMeets, once_far, once_far_lines}
use Rattle.wb_kept_progress.specs.Whole.{there}
use Rattle.wb_kept_progress.proofs.StandTested.{early, near_since, short_of, stands_at, stood, there_stands}
use Rattle.wb_kept_progress.proofs.Tested.{Begins, passes, session_of}
use Rattle.wb_kept_progress.proofs.Testing.{two_live}
use Rattle.wb_kept_progress.specs.Timed.{AreInOrder}

-- ---- what computes

keeps : passes hosts once_far once_far_lines ≡ true
unfolding started word_of after_word words.started report_of gaps_of pages_of near_names leaps_on turns_on
keeps = refl

near : near_since hosts once_far once_far_lines ≡ true
unfolding started word_of after_word words.started report_of gaps_of pages_of near_names leaps_on turns_on
near = refl

stand : stands_at hosts once_far (early hosts once_far once_far_lines) ≡ true
unfolding started word_of after_word words.started report_of gaps_of pages_of near_names leaps_on turns_on
stand = refl

abbrev is_long : Option AskTimer → Bool
is_long None = false
is_long (Some ask) = nat_lt once_far.far ask.delay

long : is_long (there_stands hosts once_far once_far_lines 1 drawn).ask ≡ true
unfolding started word_of after_word words.started report_of gaps_of pages_of near_names leaps_on turns_on
long = refl

come : holds (there hosts once_far_lines 1).host drawn ≡ true
unfolding started word_of after_word words.started report_of gaps_of pages_of near_names leaps_on turns_on
come = refl

-- ---- so it meets the premises

begins : Begins hosts once_far
begins = record {
  moments = λ i. (omega arith, tt);
  begun = λ i live. ⊎_elim
      (λ (zero : i ≡ 0). subst (λ (j : ℕ). 1 + once_far.lag j ≤ once_far.quiet) (sym zero) (leb-true _ _ refl))
      (λ (one : i ≡ 1). subst (λ (j : ℕ). 1 + once_far.lag j ≤ once_far.quiet) (sym one) (leb-true _ _ refl))
      (two_live i live);
  distinct = λ i j same. by i j same;
  waits = λ i live. (leb-true _ _ refl, leb-true _ _ refl);
  covered = leb-true _ _ refl;
} where
  by : (i j : ℕ) → 10 + i ≡ 10 + j → i ≡ j
  by i j same = omega (arith, same)

in_order : AreInOrder once_far_lines
in_order = (session_of hosts once_far {Delays = Unit {0}} once_far_lines begins tt keeps).order

long_timer : (o : Option AskTimer) → is_long o ≡ true → (ask : AskTimer) × (o ≡ Some ask) × (once_far.far < ask.delay)
long_timer None e = absurd (true≢false (sym e))
long_timer (Some ask) e = (ask, refl, ltb-true _ _ e)

pub once_far_meets : OnceFarMeets
once_far_meets = record {
  session = session_of hosts once_far once_far_lines begins (inr (short_of hosts once_far (leb-true _ _ refl) once_far_lines in_order near stand)) keeps;
  ask = t.0;
  stands = ap (λ (s : Timers). s.ask) (stood hosts once_far once_far_lines 1 drawn) ∙ t.1;
  long = t.2;
  comes = come;
} where
  t : (ask : AskTimer) × ((there_stands hosts once_far once_far_lines 1 drawn).ask ≡ Some ask) × (once_far.far < ask.delay)
  t = long_timer (there_stands hosts once_far once_far_lines 1 drawn).ask long
