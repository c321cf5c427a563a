use Rattle.std.proofs.Common.{[]}
use Rattle.std.proofs.lemmas.Result.{err_from_is_err_and}
use Rattle.wb_script.proofs.Reading.{starts}
use Rattle.wb_script.proofs.taking.take_from.Goals as goal

pub returns-in_err-member-clause-reads : goal.returns-in_err-member-clause-reads
returns-in_err-member-clause-reads g c =
    let p = err_from_is_err_and c.from_residual.result c.from_residual.ensures.1 in
    let gives = c.in_err-member.ensures.arrived in
    (gives.0, gives.1.3 _ [] (starts _ c.requires.start), rw p.1 tt)

pub returns-clause-reads : goal.returns-clause-reads
returns-clause-reads g c =
    (c.in_ok-member._drawops.items, c.in_ok-member.ensures.given.3 _ [] (starts _ c.requires.start), (c.in_ok-member.ensures.taken, c.in_ok-member.ensures.ended))
