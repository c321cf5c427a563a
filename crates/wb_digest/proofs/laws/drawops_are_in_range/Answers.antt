use Rattle.std.proofs.Common.{arith, subst}
use Rattle.std.specs.Prelude.{All}
use Rattle.std.proofs.lemmas.List.{take_all}
use Rattle.std.proofs.lemmas.List.Elements.{All-more}
use Rattle.wb_codec.specs.Ranges.{IsDrawop}
use Rattle.wb_digest.proofs.laws.drawops_are_in_range.Goals as goal

pub loop-drawop-preserved : goal.loop-drawop-preserved
loop-drawop-preserved c = All-more IsDrawop c.args.drawops.now c.loop-drawop.drawop-index c.drawop-item.result (omega arith) c.loop-drawop.invariant (subst IsDrawop c.drawop-item.is c.datagrams_are_in_range.ensures)

pub returns : goal.returns
returns c = subst (All IsDrawop) (take_all c.loop-drawop.drawop-index c.args.drawops.now (omega arith)) c.loop-drawop.invariant
