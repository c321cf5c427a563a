use Rattle.std.proofs.Common.{arith}
use Rattle.wb_c.proofs.Lines.{line_taken}
use Rattle.wb_c.proofs.calls.serve.Goals as goal

pub returns-in-Ok-clause-told : goal.returns-in-Ok-clause-told
returns-in-Ok-clause-told c =
    line_taken c.args.room.now.block.items c.args.room.now c.fetch.new.room c.args.line.now c.args.buffer.now c.fetch.new.buffer c.fetch.new.size c.fetch.result
    (omega (arith, c.len.ensures, c.if-size-gt0.false)) (c.answer.new.self, c.in-Ok.ensures.took, c.in-Ok.ensures.events, c.fetch.ensures)
