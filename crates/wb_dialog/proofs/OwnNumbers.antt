-- The next number on a page is a new one.
use Rattle.std.proofs.Common.{◌≡◌, ◌≤◌, ◌<◌, ℕ, ◌+◌, Bool, true, false, Option, Some, None, ap, cond, arith}
use Rattle.std.specs.Prelude.{nat_lt, max, unwrap_or}
use Rattle.wb_names.specs.History.{highest}
use Rattle.wb_names.specs.Marks.{mark_of}
use Rattle.wb_gaps.proofs.Reports.{greatest_held}
use Rattle.wb_keeper.specs.Hearing.{marks_heard}
use Rattle.wb_member.specs.Opened.{last_number}
use Rattle.wb_dialog.specs.Laws.{NextIsNew}

next_above : (more : Bool) (last n : ℕ) → ◌≡◌ {A = Option ℕ} (cond more (Some (last + 1)) None) (Some n) → last < n
next_above true last n e = let same : last + 1 ≡ n = ap (λ (o : Option ℕ). unwrap_or o 0) e in omega arith
next_above false last n e = absurd cc

below_greater : (a b n : ℕ) → max a b < n → (a < n) × (b < n)
below_greater a b n lt = (omega arith, omega arith)

pub next_is_new : NextIsNew
next_is_new page host n e =
    let held = highest page host.is.number host.is.held in
    let heard = mark_of (marks_heard host.is.number host.is.calls page) host.is.number in
    let below = below_greater held heard n (next_above (nat_lt (last_number page host) 4294967295) (last_number page host) n e) in (
      λ m is. let le : m ≤ held = (greatest_held host.is.held page host.is.number).bound m is in let lt : held < n = below.0 in omega arith,
      below.1,
    )
