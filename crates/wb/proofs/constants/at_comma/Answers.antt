use Rattle.std.proofs.Common.{lit<, arith}
use Rattle.wb.proofs.constants.at_comma.Goals as goal

pub returns-in-Some : goal.returns-in-Some
returns-in-Some c =
    let t = c.in-Some.ensures.byte (lit< tt) (λ w o h. h) in
    (t.2, t.0, t.1)

pub returns-in-None : goal.returns-in-None
returns-in-None c = λ has.
    let none = c.in-None.ensures.byte (lit< tt) (λ w o h. h) in
    absurd (omega (arith, none, has))
