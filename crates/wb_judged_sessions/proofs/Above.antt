-- The time of a drawing, by the times of what its page has; and what a judge lets in.
use Rattle.std.proofs.Common.{◌≡◌, ◌≤◌, ◌<◌, ◌+◌, ◌^◌, ◌⊎◌, ◌∙◌, ℕ, Bool, true, false, cond, List, [], ◌∷◌, None, ap, arith, filter, inl, inr, length, map, refl, sym, true≢false, ⊎_elim}
use Rattle.std.specs.Prelude.{Contains, ◌&&◌, max, nat_lt, not}
use Rattle.std.proofs.lemmas.List.{length_push}
use Rattle.std.proofs.lemmas.List.Elements.{Contains-push_cases}
use Rattle.std.proofs.lemmas.Bool.{lt-ltb, ltb-false}
use Rattle.wb_names.specs.Arrivals.{Clash, New, Again, Left, Outcome, history_with}
use Rattle.wb_names.specs.Orders.{same_page}
use Rattle.wb_names.specs.Values.{DrawopValue}
use Rattle.wb_names.specs.declared.name.PageId.{PageId}
use Rattle.wb_names.proofs.Listings.{Contains-cases, Contains-here, Contains-none, Contains-there}
use Rattle.wb_names.proofs.Orders.{same_page-itself}
use Rattle.wb_judge.specs.Days.{time_of_day}
use Rattle.wb_judge.specs.Judge.{Judge, knows}
use Rattle.wb_judge.specs.Judging.{ahead_of, drawop_verdict, is_ahead, is_claimed, is_forged_drawop}
use Rattle.wb_judge.specs.Verdicts.{dropped}
use Rattle.wb_judge.specs.declared.facts.Facts.{Facts}
use Rattle.wb_judge.specs.declared.limits.TheConstants.{AHEAD_KNOWN}
use Rattle.wb_judge.specs.declared.origin.Origin.{Origin}
use Rattle.wb_judge.specs.declared.verdict.Verdict.{Verdict}
use Rattle.wb_judge.specs.declared.verdict.Why.TheVariants.{Ahead, Own, Speaks}
use Rattle.wb_keeping.specs.Drawings.{after_all, drawing_time, is_near}
use Rattle.wb_keeping.specs.declared.limits.TheConstants.{AHEAD}

-- ---- the time of a drawing

module _ (page : PageId) (time : ℕ) where
  abbrev near : List DrawopValue → List DrawopValue
  near list = filter (is_near page time) list

  abbrev times : List DrawopValue → List ℕ
  times list = map (λ (d : DrawopValue). d.time) list

  near_at_most : (list : List DrawopValue) (most : ℕ) → ((d : DrawopValue) → Contains list d → d.time ≤ most) → after_all (times (near list)) ≤ most + 1
  near_at_most [] most each = omega arith
  near_at_most (d ∷ list) most each = by (is_near page time d) (each d (Contains-here d list)) (near_at_most list most (λ x c. each x (Contains-there d x list c))) where
    by : (b : Bool) → d.time ≤ most → after_all (times (near list)) ≤ most + 1 → after_all (times (cond b (d ∷ near list) (near list))) ≤ most + 1
    by true here rest = omega (arith, here, rest)
    by false here rest = rest

  near_above : (list : List DrawopValue) (d : DrawopValue) → Contains list d → is_near page time d ≡ true → d.time + 1 ≤ after_all (times (near list))
  near_above [] d c is = absurd (Contains-none d c)
  near_above (x ∷ list) d c is = by (is_near page time x) refl (Contains-cases x d list c) (λ more. near_above list d more is) where
    by : (b : Bool) → is_near page time x ≡ b → (x ≡ d) ⊎ Contains list d → (Contains list d → d.time + 1 ≤ after_all (times (near list))) → d.time + 1 ≤ after_all (times (cond b (x ∷ near list) (near list)))
    by true e (inl same) rest = let t : x.time ≡ d.time = ap (λ (y : DrawopValue). y.time) same in omega (arith, t)
    by true e (inr more) rest = let le = rest more in omega (arith, le)
    by false e (inl same) rest = absurd (true≢false (sym is ∙ ap (is_near page time) (sym same) ∙ e))
    by false e (inr more) rest = rest more

  near_if : (d : DrawopValue) → d.name.page ≡ page → d.time < time + AHEAD → is_near page time d ≡ true
  near_if d on lt =
      ap (λ (p : PageId). same_page p page && nat_lt d.time (time + AHEAD)) on
      ∙ ap (λ (b : Bool). b && nat_lt d.time (time + AHEAD)) (same_page-itself page)
      ∙ lt-ltb d.time (time + AHEAD) lt

  -- it is at most one more than the greatest of a list, unless its user's clock shows more
  pub drawn_at_most : (list : List DrawopValue) (most : ℕ) → ((d : DrawopValue) → Contains list d → d.time ≤ most) → drawing_time list page time ≤ max time (most + 1)
  drawn_at_most list most each = let le = near_at_most list most each in omega (arith, le)

  -- it comes after each drawop of the page that is less than two days ahead
  pub drawn_after : (list : List DrawopValue) (d : DrawopValue) → Contains list d → d.name.page ≡ page → d.time < time + AHEAD → d.time + 1 < 2 ^ 64 → d.time < drawing_time list page time
  drawn_after list d c on lt small = let le = near_above list d c (near_if d on lt) in omega (arith, le, small)

-- ---- what a judge lets in

ahead_at_most : (known : Bool) → ahead_of known ≤ AHEAD_KNOWN
ahead_at_most true = omega arith
ahead_at_most false = omega arith

not_ahead : (known : Bool) (time now : ℕ) (j : Judge) → is_ahead known time now j ≡ false → time ≤ time_of_day j.clock now + AHEAD_KNOWN
unfolding is_ahead
not_ahead known time now j is =
    let le = ltb-false (time_of_day j.clock now + ahead_of known) time is in
    let most = ahead_at_most known in
    omega (arith, le, most)

-- the order of its questions
asked : (holds forged elsewhere ahead : Bool) (again rest : Verdict) → holds ≡ false
    → (cond holds again (cond forged (dropped Own) (cond elsewhere (dropped Speaks) (cond ahead (dropped Ahead) rest)))).why ≡ None → ahead ≡ false
asked true forged elsewhere ahead again rest new none = absurd (true≢false new)
asked false true elsewhere ahead again rest new none = absurd cc
asked false false true ahead again rest new none = absurd cc
asked false false false true again rest new none = absurd cc
asked false false false false again rest new none = refl

-- what is new and not dropped is at most a day ahead
pub let_in : (o : Origin) (d : DrawopValue) (f : Facts) (j : Judge) → f.holds ≡ false → (drawop_verdict o d f j).why ≡ None → d.time ≤ time_of_day j.clock f.at + AHEAD_KNOWN
unfolding drawop_verdict
let_in o d f j new none =
    let known = knows o f.at j in
    not_ahead known d.time f.at j
    (asked f.holds (is_forged_drawop known d f j) (not known && is_claimed o d.name.source f.at j) (is_ahead known d.time f.at j) _ _ new none)

-- ---- a list of drawops whose times grow no faster than it

-- each is at most a day ahead of a time of day, and a microsecond for each that is there
abbrev pub IsWithin : ℕ → List DrawopValue → Type 0
IsWithin latest held = (d : DrawopValue) → Contains held d → d.time ≤ latest + AHEAD_KNOWN + length held

pub later_within : (one other : ℕ) (held : List DrawopValue) → one ≤ other → IsWithin one held → IsWithin other held
later_within one other held le each d c = let is = each d c in omega (arith, le, is)

pub within_more : (latest : ℕ) (held : List DrawopValue) (d : DrawopValue) (o : Outcome) → IsWithin latest held
    → ((place : ℕ) → o ≡ New place → d.time ≤ latest + AHEAD_KNOWN + length held + 1) → IsWithin latest (history_with held d o)
within_more latest held d (New place) each new = λ x c.
    let long = length_push held d in
    ⊎_elim
    (λ (before : Contains held x). let is = each x before in omega (arith, is, long))
    (λ (same : d ≡ x). let is = new place refl in let t : d.time ≡ x.time = ap (λ (y : DrawopValue). y.time) same in omega (arith, is, long, t))
    (Contains-push_cases held d x c)
within_more latest held d (Again place) each new = each
within_more latest held d (Clash place) each new = each
within_more latest held d Left each new = each
