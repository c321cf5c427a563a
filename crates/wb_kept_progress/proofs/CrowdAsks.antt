-- The 64 names of a crowd are asked for in the calls of a window, if it begins a request before the crowd and goes on to it.
use Rattle.std.proofs.Common.{◌≡◌, ℕ, ◌+◌, ◌<◌, ◌≤◌, List, [], ◌∷◌, ◌++◌, ◌∙◌, ap, append_assoc, arith, subst, sym}
use Rattle.std.specs.Prelude.{Contains}
use Rattle.wb_names.specs.Values.{NameValue}
use Rattle.wb_progress.specs.Turns.{Terms}
use Rattle.wb_member.specs.declared.calls.Call.TheVariants.{Ask}
use Rattle.wb_keeping.specs.Bounds.{ask_count}
use Rattle.wb_keeping.specs.Kept.{Calls}
use Rattle.wb_kept_progress.specs.Sessions.{Opening}
use Rattle.wb_kept_progress.specs.Timed.{AreInOrder, At, time_of}
use Rattle.wb_kept_progress.specs.Whole.{request_span}
use Rattle.wb_kept_progress.proofs.CallLines.{among_call, lines_have_calls}
use Rattle.wb_kept_progress.proofs.Crowds.{IsAskedFor, IsCrowd}
use Rattle.wb_kept_progress.proofs.Handed.{asks_at_least, performs_in, stands_in}
use Rattle.wb_progress.proofs.Parts.{in_past, order_of, tails}
use Rattle.wb_kept_progress.proofs.WholeParts.{IsOfCall, does}
use Rattle.wb_kept_progress.proofs.WindowParts.{in_window}
use Rattle.wb_keeping.specs.Laws.{KeptLine}

-- what comes before the newest call
pub before_newest : (front : List (At KeptLine)) (e y : At KeptLine) (part rest : List (At KeptLine)) → e ∷ part ≡ front ++ y ∷ rest → y.time < e.time → (more : List (At KeptLine)) × (part ≡ more ++ y ∷ rest)
before_newest [] e y part rest same lt = let is : e.time ≡ y.time = ap time_of same in absurd (omega (arith, is, lt))
before_newest (z ∷ front) e y part rest same lt = (front, tails e z part (front ++ y ∷ rest) same)

module _ (hosts : ℕ → Opening) (terms : Terms) (trace newer window base : List (At KeptLine)) (e : At KeptLine) (i time : ℕ) (order : AreInOrder trace) (split : trace ≡ newer ++ e ∷ (window ++ base)) (begins : time_of base + request_span terms < time)
    (quiet : terms.quiet + request_span terms < time) (ends : time < e.time) where
  asked_in : (m : NameValue) → IsAskedFor hosts terms trace i time m → Contains (performs_in hosts i window base) (Calls (Ask m))
  asked_in m x = of_call (lines_have_calls hosts trace x.newer x.y x.older x.split) where
    after : time_of base < x.y.time
    after = let s = x.since in omega (arith, s, begins, quiet)

    before : x.y.time < e.time
    before = let le = x.before in omega (arith, le, ends)

    of_call : IsOfCall hosts trace x.y x.older → Contains (performs_in hosts i window base) (Calls (Ask m))
    of_call d =
        let is = d.time in
        let w = in_past newer (e ∷ (window ++ base)) d.newer (d.e ∷ d.older) (sym split ∙ d.split) (subst AreInOrder split order) (omega (arith, is, before)) in
        let y = before_newest w.0 e d.e (window ++ base) d.older w.1 (omega (arith, is, before)) in
        let upto : trace ≡ (newer ++ e ∷ []) ++ (window ++ base) = split ∙ sym (append_assoc newer (e ∷ []) (window ++ base)) in
        let v = in_window window base y.0 d.older d.e y.1 (order_of (newer ++ e ∷ []) (window ++ base) (subst AreInOrder upto order)) (let t = after in omega (arith, t, is)) in
        let asks = subst (Contains (does hosts d.e d.older)) x.line (among_call hosts trace x.y x.older d) in
        subst (λ (l : List (At KeptLine)). Contains (performs_in hosts i l base) (Calls (Ask m))) (sym v.window_is)
        (stands_in hosts i y.0 v.part base d.e (Calls (Ask m)) (sym d.place ∙ x.place) (subst (λ (l : List (At KeptLine)). Contains (does hosts d.e l) (Calls (Ask m))) v.older_is asks))

  pub crowd_asks : IsCrowd hosts terms trace i time → 64 ≤ ask_count (performs_in hosts i window base)
  crowd_asks x =
      let least = asks_at_least x.names (performs_in hosts i window base) x.apart (λ m d. asked_in m (x.asked m d)) in
      let many = x.many in
      omega (arith, least, many)
