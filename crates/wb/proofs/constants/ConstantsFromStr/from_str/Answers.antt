use Rattle.std.proofs.Common.{◌∙◌, sym, true≢false}
use Rattle.std.proofs.lemmas.Result.{err_from_is_err_and}
use Rattle.wb_recovery.specs.Timing.{are_constants}
use Rattle.wb.proofs.constants.ConstantsFromStr.from_str.Goals as goal

pub returns-in_err-front : goal.returns-in_err-front
returns-in_err-front c =
    let p = err_from_is_err_and c.from_residual.result c.from_residual.ensures.1 in
    let no = c.in_err-front.ensures in
    rw p.1 (λ t s. no s.first.0)

pub returns-in_err-middle : goal.returns-in_err-middle
returns-in_err-middle c =
    let p = err_from_is_err_and c.from_residual-in_err-middle.result c.from_residual-in_err-middle.ensures.1 in
    let no = rw c.in_ok-front.ensures.2 at c.in_err-middle.ensures in
    rw p.1 (λ t s. no s.second.0)

pub returns-in_err-back : goal.returns-in_err-back
returns-in_err-back c =
    let p = err_from_is_err_and c.from_residual-in_err-back.result c.from_residual-in_err-back.ensures.1 in
    let no = rw (c.in_ok-middle.ensures.2, c.in_ok-front.ensures.2) at c.in_err-back.ensures in
    rw p.1 (λ t s. no s.third.0)

pub returns-in_err-c1 : goal.returns-in_err-c1
returns-in_err-c1 c =
    let p = err_from_is_err_and c.from_residual-in_err-c1.result c.from_residual-in_err-c1.ensures.1 in
    let no = rw c.in_ok-front.ensures.1 at c.in_err-c1.ensures in
    rw p.1 (λ t s. no t.c1 s.first.1)

pub returns-in_err-c2 : goal.returns-in_err-c2
returns-in_err-c2 c =
    let p = err_from_is_err_and c.from_residual-in_err-c2.result c.from_residual-in_err-c2.ensures.1 in
    let no = rw (c.in_ok-middle.ensures.1, c.in_ok-front.ensures.2) at c.in_err-c2.ensures in
    rw p.1 (λ t s. no t.c2 s.second.1)

pub returns-in_err-d1 : goal.returns-in_err-d1
returns-in_err-d1 c =
    let p = err_from_is_err_and c.from_residual-in_err-d1.result c.from_residual-in_err-d1.ensures.1 in
    let no = rw (c.in_ok-back.ensures.1, c.in_ok-middle.ensures.2, c.in_ok-front.ensures.2) at c.in_err-d1.ensures in
    rw p.1 (λ t s. no t.d1 s.third.1)

pub returns-in_err-d2 : goal.returns-in_err-d2
returns-in_err-d2 c =
    let p = err_from_is_err_and c.from_residual-in_err-d2.result c.from_residual-in_err-d2.ensures.1 in
    let no = rw (c.in_ok-back.ensures.2, c.in_ok-middle.ensures.2, c.in_ok-front.ensures.2) at c.in_err-d2.ensures in
    rw p.1 (λ t s. no t.d2 s.last)

pub returns-then-is_in_range : goal.returns-then-is_in_range
returns-then-is_in_range c =
    let c1 = rw c.in_ok-front.ensures.1 at c.in_ok-c1.ensures in
    let c2 = rw (c.in_ok-middle.ensures.1, c.in_ok-front.ensures.2) at c.in_ok-c2.ensures in
    let d1 = rw (c.in_ok-back.ensures.1, c.in_ok-middle.ensures.2, c.in_ok-front.ensures.2) at c.in_ok-d1.ensures in
    let d2 = rw (c.in_ok-back.ensures.2, c.in_ok-middle.ensures.2, c.in_ok-front.ensures.2) at c.in_ok-d2.ensures in
    record {
      first = (c.in_ok-front.ensures.0, c1);
      second = (rw c.in_ok-front.ensures.2 at c.in_ok-middle.ensures.0, c2);
      third = (rw (c.in_ok-middle.ensures.2, c.in_ok-front.ensures.2) at c.in_ok-back.ensures.0, d1);
      last = d2;
      range = sym c.is_in_range.ensures ∙ c.if-is_in_range.true;
    }

pub returns-else-is_in_range : goal.returns-else-is_in_range
returns-else-is_in_range c = λ t s.
    let c1 = rw c.in_ok-front.ensures.1 at c.in_ok-c1.ensures in
    let c2 = rw (c.in_ok-middle.ensures.1, c.in_ok-front.ensures.2) at c.in_ok-c2.ensures in
    let d1 = rw (c.in_ok-back.ensures.1, c.in_ok-middle.ensures.2, c.in_ok-front.ensures.2) at c.in_ok-d1.ensures in
    let d2 = rw (c.in_ok-back.ensures.2, c.in_ok-middle.ensures.2, c.in_ok-front.ensures.2) at c.in_ok-d2.ensures in
    let e1 = s.first.1.1.1 ∙ sym c1.1.1 in
    let e2 = s.second.1.1.1 ∙ sym c2.1.1 in
    let e3 = s.third.1.1.1 ∙ sym d1.1.1 in
    let e4 = s.last.1.1 ∙ sym d2.1.1 in
    true≢false (sym s.range ∙ (λ i. are_constants (record { c1 = e1 i; c2 = e2 i; d1 = e3 i; d2 = e4 i })) ∙ sym c.is_in_range.ensures ∙ c.if-is_in_range.false)
