use Rattle.std.proofs.Common.{◌≡◌, take, flat_map}
use Rattle.std.specs.String.{string_bytes}
use Rattle.wb_commands.specs.SentLines.{send_line}
use Rattle.wb_commands.proofs.sent_lines.sends_text.Given as goal

abbrev pub invariant-loop-datagram : goal.invariant-loop-datagram
invariant-loop-datagram l = string_bytes l.text ≡ flat_map send_line (take l.datagram-index l.sent)
