-- Calls come one after the other as soon as live hosts report.
use Rattle.std.proofs.Common.{◌≡◌, ℕ, ◌+◌, ◌<◌, ◌≤◌, List, [], ◌∷◌, ◌++◌, ◌∙◌, ap, append_assoc, arith, max, refl, sym, ⊎_elim}
use Rattle.std.specs.Prelude.{Contains}
use Rattle.std.proofs.lemmas.Bool.Decides.{leb_tells}
use Rattle.wb_progress.specs.Turns.{Terms}
use Rattle.wb_kept_progress.specs.Sessions.{Opening}
use Rattle.wb_kept_progress.specs.Timed.{At, time_of}
use Rattle.wb_kept_progress.specs.Whole.{IsTimelySession, ReportWithin, there}
use Rattle.wb_kept_progress.proofs.CallParts.{due_by_report}
use Rattle.wb_keeping.specs.Laws.{KeptLine}

-- the first part of some calls behind a time
pub record IsReached (later : List (At KeptLine)) (s span : ℕ) : Type 0 where
  pub window : List (At KeptLine)
  pub base : List (At KeptLine)
  pub split : later ≡ window ++ base
  pub from : s < time_of base
  pub soon : time_of base ≤ s + span

module _ (hosts : ℕ → Opening) (terms : Terms) (trace : List (At KeptLine)) (session : IsTimelySession hosts terms trace) (since pause : ℕ) (reports : ReportWithin hosts terms trace since pause) where
  gap : (newer older : List (At KeptLine)) (e : At KeptLine) (i : ℕ) → trace ≡ newer ++ e ∷ older → Contains terms.live i → terms.quiet < e.time → e.time ≤ max (time_of older) since + (pause + terms.late)
  gap newer older e i split live after =
      let soon = session.soon newer older e i split live after in
      let due_by = reports (newer ++ e ∷ []) older i (split ∙ sym (append_assoc newer (e ∷ []) older)) live in
      let least = due_by_report (there hosts older i) in
      omega (arith, soon, due_by, least)

  pub reached : (newer later : List (At KeptLine)) (s i : ℕ) → trace ≡ newer ++ later → Contains terms.live i → terms.quiet ≤ s → since ≤ s → s < time_of later → IsReached later s (pause + terms.late)
  reached newer [] s i split live after first lt = absurd (omega (arith, lt))
  reached newer (e ∷ older) s i split live after first lt = ⊎_elim
      (λ no. let g = gap newer older e i split live (omega (arith, after, lt)) in let le = no.1 in record { window = []; base = e ∷ older; split = refl; from = lt; soon = omega (arith, g, le, after, first) })
      (λ yes.
      let r = reached (newer ++ e ∷ []) older s i (split ∙ sym (append_assoc newer (e ∷ []) older)) live after first yes.1 in
      record { window = e ∷ r.window; base = r.base; split = ap (λ (t : List (At KeptLine)). e ∷ t) r.split; from = r.from; soon = r.soon })
      (leb_tells (time_of older) s)
