use Rattle.std.proofs.Common.{sym, ◌∙◌}
use Rattle.wb_codec.specs.Reading.{reading}
use Rattle.wb_c.proofs.Served.{came_as_read, garbled_as_read}
use Rattle.wb_c.proofs.judged_serving.arrival.Goals as goal

pub returns-in-Ok-clause-call : goal.returns-in-Ok-clause-call
returns-in-Ok-clause-call c = came_as_read c.args.now c.args.origin (reading c.args.bytes.now) c.in-Ok.datagram (sym c.in-Ok.is ∙ c.in_ok-datagram.ensures)

pub returns-in-Err-clause-call : goal.returns-in-Err-clause-call
returns-in-Err-clause-call c = garbled_as_read c.args.now c.args.origin (reading c.args.bytes.now) c.in-Err.field-0 (sym c.in-Err.is ∙ c.in_ok-datagram.ensures)
