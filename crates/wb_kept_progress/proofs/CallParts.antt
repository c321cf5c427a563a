-- Parts of a trace of calls, and of the lines that are performed in them.
use Rattle.std.proofs.Common.{◌≡◌, ℕ, ◌<◌, ◌≤◌, Bool, true, false, List, [], ◌∷◌, ◌++◌, ◌∙◌, ap, arith, refl, subst, sym, true≢false}
use Rattle.std.specs.Prelude.{Option, Some, None, min}
use Rattle.wb_names.specs.Values.{NameValue}
use Rattle.wb_member.specs.Judged.{holds}
use Rattle.wb_member.specs.Opened.{Opened, next_due}
use Rattle.wb_keeping.specs.Kept.{Line}
use Rattle.wb_keeping.specs.Performing.{Keeping, due, sooner_of}
use Rattle.wb_policy.specs.Policy.{next_moment, sooner}
use Rattle.wb_kept_progress.specs.Sessions.{Opening}
use Rattle.wb_kept_progress.specs.Timed.{AreInOrder, At, host_after, performed, performed_then, start_of, time_of, until}
use Rattle.wb_kept_progress.specs.Whole.{there}
use Rattle.wb_kept_progress.proofs.KeptInTime.{front_of, time_is}
use Rattle.wb_kept_progress.proofs.Performed.{kept_is_performed}
use Rattle.wb_kept_progress.proofs.Timely.{held_later, of_start}
use Rattle.wb_kept_progress.proofs.WholeParts.{does}
use Rattle.wb_keeping.specs.Laws.{KeptLine}
use Rattle.wb_progress.proofs.Parts.{IsSplitAt, before_end, behind, split_at}

-- a host has something to do when its report is due, and when its turn is
due_by_first : (k : Keeping) → due k ≤ min k.policy.reports.due k.policy.pace.due
due_by_first k = by where
  less : (m : ℕ) (other : Option ℕ) → sooner_of m other ≤ m
  less m None = omega arith
  less m (Some o) = omega arith

  fewer : (m : ℕ) (other : Option ℕ) → sooner m other ≤ m
  fewer m None = omega arith
  fewer m (Some o) = omega arith

  by : due k ≤ min k.policy.reports.due k.policy.pace.due
  by =
      let a = less (next_moment k.policy) (next_due k.host) in
      let b = fewer (sooner (min k.policy.reports.due k.policy.pace.due) k.policy.questions.ask) k.policy.questions.answer in
      let c = fewer (min k.policy.reports.due k.policy.pace.due) k.policy.questions.ask in
      omega (arith, a, b, c)

pub due_by_report : (k : Keeping) → due k ≤ k.policy.reports.due
due_by_report k = let le = due_by_first k in omega (arith, le)

pub due_by_turn : (k : Keeping) → due k ≤ k.policy.pace.due
due_by_turn k = let le = due_by_first k in omega (arith, le)

-- the lines of one call have its time
lines_in_order : (time place : ℕ) (lines : List Line) (older : List (At Line)) → time_of older ≤ time → AreInOrder older → AreInOrder (performed_then time place lines older)
lines_in_order time place [] older le order = order
lines_in_order time place (line ∷ lines) older le order = lines_in_order time place lines (record { time = time; place = place; event = line } ∷ older) (omega arith) (le, order)

module _ (hosts : ℕ → Opening) where
  pub lines_order : (part : List (At KeptLine)) → AreInOrder part → AreInOrder (performed hosts part)
  lines_order [] order = tt
  lines_order (e ∷ older) order = lines_in_order e.time e.place (does hosts e older) (performed hosts older) (subst (λ (t : ℕ). t ≤ e.time) (sym (time_is hosts older)) order.0) (lines_order older order.1)

  -- lines that are performed in a part end with it
  pub lines_end : (part : List (At KeptLine)) (front back : List (At Line)) → AreInOrder part → performed hosts part ≡ front ++ back → time_of back ≤ time_of part
  lines_end part front back order is = subst (λ (t : ℕ). time_of back ≤ t) (ap time_of (sym is) ∙ time_is hosts part) (before_end front back (subst AreInOrder is (lines_order part order)))

  -- a host is that of the lines that were performed
  pub host_is : (part : List (At KeptLine)) (i : ℕ) → host_after (λ j. start_of (hosts j)) (performed hosts part) i ≡ (there hosts part i).host
  host_is part i = (kept_is_performed hosts part).same i

  pub number_is : (part : List (At KeptLine)) (i : ℕ) → (there hosts part i).host.is.number ≡ (hosts i).number
  number_is part i = ap (λ (h : Opened). h.is.number) (sym (host_is part i)) ∙ (of_start (λ j. start_of (hosts j)) (performed hosts part) i).number

  -- what is lacked behind a time was lacked at that time
  pub lacked_until : (newer part : List (At KeptLine)) (s i : ℕ) (n : NameValue) → AreInOrder (newer ++ part) → s < time_of part → holds (there hosts part i).host n ≡ false
      → holds (host_after (λ j. start_of (hosts j)) (until s (performed hosts (newer ++ part))) i) n ≡ false
  lacked_until newer part s i n order late lacks = by (holds (host_after (λ j. start_of (hosts j)) first i) n) refl where
    first : List (At Line)
    first = until s (performed hosts (newer ++ part))

    f : (front : List (At Line)) × (performed hosts (newer ++ part) ≡ front ++ performed hosts part)
    f = front_of hosts newer part

    same : first ≡ until s (performed hosts part)
    same = ap (until s) f.1 ∙ behind s f.0 (performed hosts part) (subst AreInOrder f.1 (lines_order (newer ++ part) order)) (subst (λ (t : ℕ). s < t) (sym (time_is hosts part)) late)

    w : IsSplitAt s (performed hosts part)
    w = split_at s (performed hosts part)

    split : performed hosts part ≡ w.newer ++ first
    split = w.split ∙ ap (λ (t : List (At Line)). w.newer ++ t) (sym same)

    by : (b : Bool) → holds (host_after (λ j. start_of (hosts j)) first i) n ≡ b → b ≡ false
    by false e = refl
    by true e =
        let later = held_later (λ j. start_of (hosts j)) w.newer first i n e in
        absurd (true≢false (sym later ∙ ap (λ (t : List (At Line)). holds (host_after (λ j. start_of (hosts j)) t i) n) (sym split) ∙ ap (λ (h : Opened). holds h n) (host_is part i) ∙ lacks))
