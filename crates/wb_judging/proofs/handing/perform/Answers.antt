use Rattle.wb_judging.proofs.Kept.{refused_so}
use Rattle.wb_judging.proofs.handing.perform.Goals as goal

pub returns-in-Err-clause-fault : goal.returns-in-Err-clause-fault
returns-in-Err-clause-fault c = λ k at. refused_so _ _ _ c.in-Err.fault (c.in-Err.ensures.fault k at)
