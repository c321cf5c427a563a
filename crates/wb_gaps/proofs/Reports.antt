-- The marks of the numbers that a page holds are its report.
use Rattle.std.proofs.Common.{◌≡◌, ℕ, zero, suc, ◌<◌, ◌≤◌, true, false, cond, max, List, [], ◌∷◌, length, refl, ap, ◌∙◌, sym, subst, arith, ◌⊎◌, inl, inr, ⊎_elim, eqb-true, true≢false}
use Rattle.std.proofs.lemmas.Bool.{cases_lt}
use Rattle.std.proofs.lemmas.Bool.Decides.{nat_tests}
use Rattle.std.proofs.lemmas.Grind.{common_steps}
use Rattle.wb_names.specs.Values.{NameValue, DrawopValue, MarkValue}
use Rattle.wb_names.specs.History.{IsHeld, name_of, is_of, highest}
use Rattle.wb_names.specs.Marks.{mark_of, IsReport}
use Rattle.wb_names.specs.declared.name.PageId.{PageId}
use Rattle.wb_names.proofs.Orders.{and_both, same_page-is, name_parts}
use Rattle.wb_gaps.specs.Runs.{AreRunsOf, InRuns}
use Rattle.wb_gaps.specs.Greatest.{IsGreatest}
use Rattle.wb_gaps.specs.LastNumbers.{AreGreatest}
use Rattle.wb_gaps.proofs.HeldNumbers.{same_page-here}
use Rattle.wb_gaps.proofs.GreatestNumbers.{one_greatest}
use Rattle.wb_gaps.specs.declared.run.Run.{Run}
use Rattle.wb_names.specs.declared.entries.TheConstants.{MAX_ENTRIES}

pub held_here : (d : DrawopValue) (history : List DrawopValue) (page : PageId) (source : ℕ) → is_of page source d ≡ true → IsHeld (d ∷ history) page source d.name.seq
held_here d history page source e = let h = and_both _ _ e in (0, d, omega arith, refl, name_parts _ _ _ _ _ _ (eqb-true d.name.source source h.1) (same_page-is d.name.page page h.0) refl)

pub held_there : (d : DrawopValue) (history : List DrawopValue) (page : PageId) (source n : ℕ) → IsHeld history page source n → IsHeld (d ∷ history) page source n
held_there d history page source n h = (suc h.0, h.1, omega arith, h.3, h.4)

pub is_of-here : (d : DrawopValue) (page : PageId) (source n : ℕ) → d.name ≡ name_of page source n → is_of page source d ≡ true
is_of-here d page source n e = grind (arith, common_steps, nat_tests, same_page-here)

-- of a first member: it has this number, or a later one has it
pub held_cases : (d : DrawopValue) (history : List DrawopValue) (page : PageId) (source n : ℕ) → IsHeld (d ∷ history) page source n → (d.name ≡ name_of page source n) ⊎ IsHeld history page source n
held_cases d history page source n (zero, x, lt, is, e) = inl (ap (λ (v : DrawopValue). v.name) is ∙ e)
held_cases d history page source n (suc k, x, lt, is, e) = inr (k, x, omega arith, is, e)

greatest_own : (d : DrawopValue) (history : List DrawopValue) (page : PageId) (source high : ℕ) → is_of page source d ≡ true → IsGreatest (IsHeld history page source) high → IsGreatest (IsHeld (d ∷ history) page source) (max d.name.seq high)
greatest_own d history page source high own g = record {
  bound = λ n h. ⊎_elim
      (λ (e : d.name ≡ name_of page source n). let seq : d.name.seq ≡ n = ap (λ (v : NameValue). v.seq) e in omega arith)
      (λ (c : IsHeld history page source n). let le : n ≤ high = g.bound n c in omega arith)
      (held_cases d history page source n h);
  reached = ⊎_elim
      (λ (lt : d.name.seq < high).
      let top : max d.name.seq high ≡ high = omega arith in
      ⊎_elim (λ (e : high ≡ 0). absurd (omega arith)) (λ (c : IsHeld history page source high). inr (subst (IsHeld (d ∷ history) page source) (sym top) (held_there d history page source high c))) g.reached)
      (λ (le : high ≤ d.name.seq).
      let top : max d.name.seq high ≡ d.name.seq = omega arith in
      inr (subst (IsHeld (d ∷ history) page source) (sym top) (held_here d history page source own)))
      (cases_lt d.name.seq high);
}

greatest_other : (d : DrawopValue) (history : List DrawopValue) (page : PageId) (source high : ℕ) → is_of page source d ≡ false → IsGreatest (IsHeld history page source) high → IsGreatest (IsHeld (d ∷ history) page source) (max 0 high)
greatest_other d history page source high other g =
    let top : max 0 high ≡ high = omega arith in
    subst (IsGreatest (IsHeld (d ∷ history) page source)) (sym top) (record {
      bound = λ n h. ⊎_elim
          (λ (e : d.name ≡ name_of page source n). absurd (true≢false (sym (is_of-here d page source n e) ∙ other)))
          (λ (c : IsHeld history page source n). g.bound n c)
          (held_cases d history page source n h);
      reached = ⊎_elim (λ (e : high ≡ 0). inl e) (λ (c : IsHeld history page source high). inr (held_there d history page source high c)) g.reached;
    })

pub greatest_held : (history : List DrawopValue) (page : PageId) (source : ℕ) → IsGreatest (IsHeld history page source) (highest page source history)
greatest_held [] page source = record { bound = λ n h. let lt : h.0 < 0 = h.2 in absurd (omega arith); reached = inl refl }
greatest_held (d ∷ history) page source =
    let rest = greatest_held history page source in
    elim (is_of page source d) as (λ b. is_of page source d ≡ b → IsGreatest (IsHeld (d ∷ history) page source) (max (cond b d.name.seq 0) (highest page source history))) [
      | true ↦ λ e. greatest_own d history page source _ e rest
      | false ↦ λ e. greatest_other d history page source _ e rest
    ] refl

-- the marks have the greatest number that is held
pub highest_from_marks : (history : List DrawopValue) (page : PageId) (runs : List Run) (marks : List MarkValue) → AreRunsOf history page runs → AreGreatest runs marks → (source : ℕ) → mark_of marks source ≡ highest page source history
highest_from_marks history page runs marks of tops source =
    one_greatest (InRuns runs source) (IsHeld history page source) _ _ (tops.greatest source) (greatest_held history page source)
    (λ n h. (of.held source n).0 h)
    (λ n h. (of.held source n).1 h)

-- the marks of the runs of a page, of which there are few, are its report
pub report_of_runs : (history : List DrawopValue) (page : PageId) (runs : List Run) (marks : List MarkValue) → AreRunsOf history page runs → AreGreatest runs marks → length runs ≤ MAX_ENTRIES → IsReport history page marks
report_of_runs history page runs marks of tops few =
    let fewer = tops.few in
    (record { ascending = tops.ascending; positive = tops.positive; few = omega arith }, highest_from_marks history page runs marks of tops)
