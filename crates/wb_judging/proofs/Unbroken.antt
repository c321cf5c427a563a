-- What a stranger gives leaves no hole.
use Rattle.std.proofs.Common.{◌≡◌, ◌⊎◌, ◌∙◌, ◌≤◌, ◌<◌, ◌+◌, ℕ, Bool, true, false, cond, max, List, [], ◌∷◌, ◌++◌, None, ap, arith, refl, subst, sym, ⊎_elim, eqb-true}
use Rattle.std.proofs.lemmas.Bool.{cases_lt}
use Rattle.std.specs.Prelude.{Option, Some}
use Rattle.wb_names.specs.Arrivals.{Again, Clash, Left, New, Outcome, history_with, outcome_of}
use Rattle.wb_names.specs.History.{IsHeld, highest, is_of, name_of}
use Rattle.wb_names.specs.Values.{DrawopValue}
use Rattle.wb_names.specs.declared.name.PageId.{PageId}
use Rattle.wb_names.proofs.Orders.{and_both, same_page-is}
use Rattle.wb_gaps.specs.Gaps.{IsMissing}
use Rattle.wb_gaps.proofs.Reports.{greatest_held, held_cases, held_there}
use Rattle.wb_codec.specs.declared.datagram.Datagram.TheVariants.{Draw}
use Rattle.wb_judge.specs.declared.verdict.Why.{Why}
use Rattle.wb_judge.proofs.Telling.{strangers_leave_no_holes}
use Rattle.wb_judging.specs.Handing.{facts_of, handed_for, verdict_on}
use Rattle.wb_judging.specs.Laws.{StrangersLeaveNoHoles}
use Rattle.wb_judging.specs.Performing.{after_kept_line}
use Rattle.wb_judging.proofs.Boards.{held_drawn, held_ticked}
use Rattle.wb_judging.proofs.Histories.{fresh_is_new}

-- ---- one drawop more

held_before : (history : List DrawopValue) (d : DrawopValue) (page : PageId) (source n : ℕ) → IsHeld history page source n → IsHeld (history ++ d ∷ []) page source n
held_before [] d page source n h = let lt : h.0 < 0 = h.2 in absurd (omega arith)
held_before (x ∷ history) d page source n h =
    ⊎_elim
    (λ (same : x.name ≡ name_of page source n). (0, x, omega arith, refl, same))
    (λ (rest : IsHeld history page source n). held_there x (history ++ d ∷ []) page source n (held_before history d page source n rest))
    (held_cases x history page source n h)

highest_more : (page : PageId) (source : ℕ) (history : List DrawopValue) (d : DrawopValue) → highest page source (history ++ d ∷ []) ≡ max (highest page source history) (cond (is_of page source d) d.name.seq 0)
highest_more page source [] d = omega arith
highest_more page source (e ∷ history) d = let rest = highest_more page source history d in omega (arith, rest)

-- the next of its source on its page, or an earlier one
abbrev IsNext : DrawopValue → List DrawopValue → Type 0
IsNext d history = d.name.seq ≤ highest d.name.page d.name.source history + 1

rises_by_one : (page : PageId) (source : ℕ) (history : List DrawopValue) (d : DrawopValue) → IsNext d history → highest page source (history ++ d ∷ []) ≤ highest page source history + 1
rises_by_one page source history d next = by (is_of page source d) refl (highest_more page source history d) where
  by : (b : Bool) → is_of page source d ≡ b → highest page source (history ++ d ∷ []) ≡ max (highest page source history) (cond b d.name.seq 0) → highest page source (history ++ d ∷ []) ≤ highest page source history + 1
  by false e more = omega (arith, more)
  by true e more =
      let parts = and_both _ _ e in
      let here : highest d.name.page d.name.source history ≡ highest page source history =
      ap (λ (p : PageId). highest p d.name.source history) (same_page-is d.name.page page parts.0) ∙ ap (λ (s : ℕ). highest page s history) (eqb-true d.name.source source parts.1) in
      omega (arith, more, here, next)

missing_before : (history : List DrawopValue) (d : DrawopValue) → IsNext d history → (page : PageId) (source n : ℕ) → IsMissing (history ++ d ∷ []) page [] source n → IsMissing history page [] source n
missing_before history d next page source n m = record {
  counted = m.counted;
  below = ⊎_elim (λ (above : highest page source history < n). absurd (m.not_held (last above))) (λ (le : n ≤ highest page source history). let up : n ≤ max (highest page source history) 0 = omega (arith, le) in up) (cases_lt (highest page source history) n);
  not_held = λ held. m.not_held (held_before history d page source n held);
} where
  last : highest page source history < n → IsHeld (history ++ d ∷ []) page source n
  last above =
      let top = highest page source (history ++ d ∷ []) in
      let le = rises_by_one page source history d next in
      let below : n ≤ max top 0 = m.below in
      let is : top ≡ n = omega (arith, le, above, below) in
      ⊎_elim (λ (none : top ≡ 0). absurd (omega (arith, none, is, m.counted))) (λ (held : IsHeld (history ++ d ∷ []) page source top). subst (IsHeld (history ++ d ∷ []) page source) is held)
      (greatest_held (history ++ d ∷ []) page source).reached

-- ---- one datagram

pub strangers_leave_none : StrangersLeaveNoHoles
unfolding verdict_on
strangers_leave_none now o d h unknown untold page source n = by (verdict_on now o (Draw d) h).why refl where
  held : List DrawopValue
  held = h.kept.host.is.held

  Leaves : List DrawopValue → Type 0
  Leaves after = IsMissing after page [] source n → IsMissing held page [] source n

  taken : (verdict_on now o (Draw d) h).why ≡ None → (outcome : Outcome) → outcome_of h.kept.host.is.cells held d ≡ outcome → Leaves (history_with held d outcome)
  taken why (New place) e =
      missing_before held d (strangers_leave_no_holes o d (facts_of now (Draw d) h.kept) h.judge unknown (fresh_is_new h.kept.host.is.cells held d place e) why untold) page source n
  taken why (Again place) e = λ m. m
  taken why (Clash place) e = λ m. m
  taken why Left e = λ m. m

  by : (why : Option Why) → (verdict_on now o (Draw d) h).why ≡ why → Leaves (after_kept_line (handed_for now (Draw d) why) h.kept).host.is.held
  by None e = subst Leaves (sym (held_drawn now d h.kept)) (taken e (outcome_of h.kept.host.is.cells held d) refl)
  by (Some why) e = subst Leaves (sym (held_ticked now h.kept)) (λ m. m)
