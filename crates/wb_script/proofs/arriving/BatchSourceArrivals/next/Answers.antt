use Rattle.std.proofs.Common.{refl}
use Rattle.wb_script.proofs.Reading.{arrived_on, ended_on}
use Rattle.wb_script.proofs.arriving.BatchSourceArrivals.next.Goals as goal

pub returns-in-Some-clause-first : goal.returns-in-Some-clause-first
returns-in-Some-clause-first g c = (refl, refl, refl, arrived_on _ _ c.in-Some.drawop c.if-self.false c.in-Some.ensures)

pub returns-in-None-clause-rest : goal.returns-in-None-clause-rest
returns-in-None-clause-rest g c = (refl, refl, refl, ended_on _ _ c.in-None.ensures)
