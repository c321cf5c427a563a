-- What a list holds that has no gaps below its report.
use Rattle.std.proofs.Common.{◌≡◌, ℕ, Bool, true, false, List, refl, ◌∙◌, sym, arith, ◌⊎◌, inl, inr, ⊎_elim, true≢false}
use Rattle.wb_names.specs.Values.{DrawopValue}
use Rattle.wb_names.specs.History.{IsHeld}
use Rattle.wb_names.specs.declared.name.PageId.{PageId}
use Rattle.wb_names.proofs.Listings.{Contains-none}
use Rattle.wb_gaps.specs.Answers.{is_held}
use Rattle.wb_gaps.specs.Laws.{HoldsUpToReport, HoldTheSame}
use Rattle.wb_gaps.proofs.HeldNames.{held-by, held-from}
use Rattle.wb_gaps.proofs.Reports.{greatest_held}

held_or_not : (history : List DrawopValue) (page : PageId) (source n : ℕ) → IsHeld history page source n ⊎ (IsHeld history page source n → ⊥)
held_or_not history page source n = at (is_held history page source n) refl where
  at : (b : Bool) → is_held history page source n ≡ b → IsHeld history page source n ⊎ (IsHeld history page source n → ⊥)
  at true e = inl (held-by history page source n e)
  at false e = inr (λ h. true≢false (sym (held-from history page source n h) ∙ e))

pub holds_up_to_report : HoldsUpToReport
holds_up_to_report history page marks report gaps source n pos =
    let top = report.1 source in (
      λ held. let bound = (greatest_held history page source).bound n held in omega arith,
      λ within. ⊎_elim (λ (h : IsHeld history page source n). h)
          (λ (absent : IsHeld history page source n → ⊥). let c = (gaps.missing source n).1 (record { counted = pos; below = omega arith; not_held = absent }) in absurd (Contains-none c.0 c.1))
          (held_or_not history page source n),
    )

pub hold_the_same : HoldTheSame
hold_the_same one other page marks a b no_gaps none source n pos =
    let of_one = holds_up_to_report one page marks a no_gaps source n pos in
    let of_other = holds_up_to_report other page marks b none source n pos in
    (λ h. of_other.1 (of_one.0 h), λ h. of_one.1 (of_other.0 h))
