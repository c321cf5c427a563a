use Rattle.wb_lines.proofs.LineBytes.{before_feed}
use Rattle.wb_lines.proofs.line_reader.len_before_line_feed.Goals as goal

pub returns-clause-before : goal.returns-clause-before
returns-clause-before c = rw c.unwrap_or.ensures (before_feed c.args.bytes.now c.memchr.result c.memchr.ensures)
