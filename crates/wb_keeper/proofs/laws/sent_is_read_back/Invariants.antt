use Rattle.std.specs.Prelude.{All, take}
use Rattle.wb_codec.specs.Ranges.{IsDatagram}
use Rattle.wb_keeper.proofs.laws.sent_is_read_back.Given as goal

abbrev pub invariant-loop-datagram : goal.invariant-loop-datagram
invariant-loop-datagram l = All IsDatagram (take l.datagram-index l.sent)
