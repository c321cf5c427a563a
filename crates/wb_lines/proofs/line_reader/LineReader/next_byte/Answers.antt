use Rattle.std.proofs.Common.{[], ◌∙◌, append-nil}
use Rattle.wb_lines.proofs.LineBytes.{ReadsAhead-none, ReadsAhead-on}
use Rattle.wb_lines.proofs.line_reader.LineReader.next_byte.Goals as goal

pub returns-else-is_used_up-clause-read : goal.returns-else-is_used_up-clause-read
returns-else-is_used_up-clause-read g c =
    let left = g.R.Source.left c.args.source.now in
    let failed = g.R.Source.has_failed c.args.source.now in
    let taken = c.take_byte-else-is_used_up.ensures in (
      [],
      ReadsAhead-on c.args.self.now c.args.self.now c.take_byte-else-is_used_up.new.self left left failed failed [] taken.ended (ReadsAhead-none c.args.self.now left failed),
      append-nil c.args.self.now.bytes ∙ taken.byte,
    )
