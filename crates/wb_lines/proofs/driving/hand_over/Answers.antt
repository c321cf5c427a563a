use Rattle.std.proofs.Common.{refl}
use Rattle.std.proofs.lemmas.Result.{err_from_is_err_and}
use Rattle.wb_lines.proofs.LoneLines.{lone, lone_stopped, lone_passed}
use Rattle.wb_lines.proofs.driving.hand_over.Goals as goal

pub returns-in-Line : goal.returns-in-Line
returns-in-Line g c =
    let t = c.take.ensures in
    rw c.in-Line.is
    (lone g.H.Handler.step (g.H.Handler.is_at c.args.handler.now) (g.H.Handler.is_at c.take.new.self) c.in-Line.field-0 t.0 c.take.result c.requires.taken refl refl refl refl refl t.1
    (λ s at. rw (c.done-number.ensures.count, c.line.ensures, c.is_ended.ensures) at t.2 s at))

pub returns-in_err-take_too_long-in-TooLong : goal.returns-in_err-take_too_long-in-TooLong
returns-in_err-take_too_long-in-TooLong g c =
    let t = c.in_err-take_too_long-in-TooLong.ensures in
    let p = err_from_is_err_and c.from_residual.result c.from_residual.ensures.1 in
    rw (c.in-TooLong.is, p.1, p.2)
    (lone_stopped g.H.Handler.step (g.H.Handler.is_at c.args.handler.now) (g.H.Handler.is_at c.take_too_long.new.self) t.0 c.in_err-take_too_long-in-TooLong.field-0.0 refl refl refl refl refl t.1
    (λ s at. rw c.done-number.ensures.count at t.2 s at))

pub returns-in_ok-take_too_long-in-TooLong : goal.returns-in_ok-take_too_long-in-TooLong
returns-in_ok-take_too_long-in-TooLong g c =
    let t = c.in_ok-take_too_long-in-TooLong.ensures in
    rw c.in-TooLong.is
    (lone_passed g.H.Handler.step (g.H.Handler.is_at c.args.handler.now) (g.H.Handler.is_at c.take_too_long.new.self) t.0 refl refl refl refl refl t.1 c.pass_over.ensures.passes
    (λ s at. rw c.done-number.ensures.count at t.2 s at))
