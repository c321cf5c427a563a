use Rattle.std.proofs.Common.{arith, subst}
use Rattle.std.specs.Prelude.{All}
use Rattle.std.proofs.lemmas.List.{take_all}
use Rattle.std.proofs.lemmas.List.Elements.{All-more}
use Rattle.wb_codec.specs.Ranges.{IsDatagram}
use Rattle.wb_keeper.proofs.laws.sent_is_read_back.Goals as goal

pub loop-datagram-preserved : goal.loop-datagram-preserved
loop-datagram-preserved c = All-more IsDatagram c.args.sent.now c.loop-datagram.datagram-index c.datagram-item.result (omega arith) c.loop-datagram.invariant (subst IsDatagram c.datagram-item.is c.datagrams_are_in_range.ensures)

pub returns-clause-ranges : goal.returns-clause-ranges
returns-clause-ranges c = subst (All IsDatagram) (take_all c.loop-datagram.datagram-index c.args.sent.now (omega arith)) c.loop-datagram.invariant

pub returns-clause-read : goal.returns-clause-read
returns-clause-read c =
    let all = subst (All IsDatagram) (take_all c.loop-datagram.datagram-index c.args.sent.now (omega arith)) c.loop-datagram.invariant in
    λ k d h. c.reading_undoes_spelling.ensures.reads _ (all k d h)
