use Rattle.std.proofs.Common.{◌≡◌, ◌+◌, arith}
use Rattle.std.specs.Prelude.{max, min}
use Rattle.wb_display.proofs.Overlaying.{row_filled}
use Rattle.wb_display.proofs.strokes.draw_row.Goals as goal

pub returns : goal.returns
returns c =
    let first : c.from-first.result ≡ min c.args.from c.args.to = omega arith in
    let end : c.min-end.result ≡ min (max c.args.from c.args.to + 1) c.args.size.width = omega arith in
    let row : c.from-2.result ≡ c.args.y = omega arith in
    row_filled _ _ _ _ _ _ _ _ _ _ _ row first end c.if-end-first.false (omega arith) c.requires (c.fill.ensures.after (λ y e. e))
