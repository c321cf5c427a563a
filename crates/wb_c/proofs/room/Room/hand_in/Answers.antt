use Rattle.std.proofs.Common.{arith}
use Rattle.wb_lines.specs.Handling.{whole, too_long}
use Rattle.wb_c.specs.Blocks.{ended}
use Rattle.wb_c.proofs.Lines.{met_long, met_whole, took_by}
use Rattle.wb_c.proofs.room.Room.hand_in.Goals as goal

pub returns-then-line-gt-MAX_LINE_LEN-clause-took : goal.returns-then-line-gt-MAX_LINE_LEN-clause-took
returns-then-line-gt-MAX_LINE_LEN-clause-took c =
    let told = c.take_too_long.ensures in
    took_by c.take_too_long.result c.args.self.now.dialog c.take_too_long.new.self c.args.line.now c.args.output.now c.take_too_long.new.output told.0 too_long
    (met_long c.args.line.now (omega (arith, c.if-line-gt-MAX_LINE_LEN.true))) c.requires told.1 told.2

pub returns-else-line-gt-MAX_LINE_LEN-clause-took : goal.returns-else-line-gt-MAX_LINE_LEN-clause-took
returns-else-line-gt-MAX_LINE_LEN-clause-took c =
    let told = c.take.ensures in
    took_by c.take.result c.args.self.now.dialog c.take.new.self c.args.line.now c.args.output.now c.take.new.output told.0 (whole (ended c.args.line.now))
    (met_whole c.args.line.now (omega (arith, c.if-line-gt-MAX_LINE_LEN.false))) c.requires told.1 told.2
