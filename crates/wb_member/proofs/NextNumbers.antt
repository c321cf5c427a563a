-- The next number of a host is above all of its own that are held or that others told.
use Rattle.std.proofs.Common.{◌≡◌, ℕ, ◌+◌, ◌<◌, Bool, true, false, cond, List, Option, Some, None, ap, ◌∙◌, sym, arith, IfSome, nat_lt}
use Rattle.std.proofs.Math.Nat.{le-max_left, le-max_right}
use Rattle.wb_names.specs.Values.{MarkValue}
use Rattle.wb_names.specs.History.{highest}
use Rattle.wb_names.specs.Marks.{mark_of}
use Rattle.wb_names.specs.declared.name.PageId.{PageId}
use Rattle.wb_gaps.proofs.Reports.{greatest_held}
use Rattle.wb_keeper.specs.Hearing.{marks_heard}
use Rattle.wb_keeper.specs.Keeper.{high_heard}
use Rattle.wb_keeper.proofs.HeardNumbers.{marks_are_greatest}
use Rattle.wb_member.specs.Opened.{Opened, last_number, next_number}
use Rattle.wb_member.specs.Holding.{MemberValue, IsOpenAt, IsUnreached}

module _ (page : PageId) (host : Opened) (marks : mark_of (marks_heard host.is.number host.is.calls page) host.is.number ≡ high_heard host.is.number host.is.calls page host.is.number) where
  above : (number : ℕ) → last_number page host < number → IsUnreached page host number
  above number lt = record {
    held = λ n h.
        let le = (greatest_held host.is.held page host.is.number).bound n h in
        let most = le-max_left (highest page host.is.number host.is.held) (mark_of (marks_heard host.is.number host.is.calls page) host.is.number) in
        omega (arith, le, most, lt);
    reported = λ n t.
        let le = (marks_are_greatest host.is.number host.is.calls page host.is.number).greatest n t in
        let most = le-max_right (highest page host.is.number host.is.held) (mark_of (marks_heard host.is.number host.is.calls page) host.is.number) in
        omega (arith, le, marks, most, lt);
  }

  pub unreached : (number : ℕ) → next_number page host ≡ Some number → IsUnreached page host number
  unreached number next = from (nat_lt (last_number page host) 4294967295) next where
    from : (b : Bool) → cond b (Some (last_number page host + 1)) None ≡ Some number → IsUnreached page host number
    from true e = let is : last_number page host + 1 ≡ number = cc in above number (omega (arith, is))
    from false e = absurd cc

-- so where a member gives it
pub by_number : (result : Option ℕ) (v : MemberValue) (page : PageId) → ((host : Opened) → IsOpenAt v host → result ≡ next_number page host) → IfSome result (λ (number : ℕ). (host : Opened) → IsOpenAt v host → IsUnreached page host number)
by_number None v page same = tt
by_number (Some number) v page same = λ host at.
    let marks = ap (λ (l : List MarkValue). mark_of l host.is.number) (sym (at.keeper.merged page)) ∙ at.keeper.marks page host.is.number in
    unreached page host marks number (sym (same host at))
