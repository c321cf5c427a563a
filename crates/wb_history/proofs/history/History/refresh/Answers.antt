use Rattle.std.proofs.Common.{arith, ⊎_elim}
use Rattle.wb_history.proofs.Shows.{pass_on, walked_agree, end_agrees, reads_on}
use Rattle.wb_history.proofs.history.History.refresh.Goals as goal

pub invariant_of-pass : goal.invariant_of-pass
invariant_of-pass c =
    let w = c.in_err-catch_up.ensures.done in
    pass_on _ _ c.pass.inside.cursor c.catch_up.new.cursor c.pass.invariant (walked_agree c.pass.inside.cursor w.0 1 c.catch_up.new.cursor c.pass.invariant.0 w.1)

pub invariant_of-pass-2 : goal.invariant_of-pass-2
invariant_of-pass-2 c =
    let e = c.in_ok-catch_up.ensures.done in
    pass_on _ _ c.pass.inside.cursor c.catch_up.new.cursor c.pass.invariant (end_agrees c.self.inside.cells.cells c.pass.inside.cursor e.0 c.catch_up.new.cursor c.pass.invariant.0 e.1)

pub returns-in_err-catch_up-clause-reads : goal.returns-in_err-catch_up-clause-reads
returns-in_err-catch_up-clause-reads c = let w = c.in_err-catch_up.ensures.done in reads_on c.pass.inside.cursor w.0 1 c.catch_up.new.cursor (omega arith) c.pass.view_is c.pass.invariant.0 w.1

pub returns-clause-reads : goal.returns-clause-reads
returns-clause-reads c =
    let e = c.in_ok-catch_up.ensures.done in
    ⊎_elim (λ x. reads_on c.pass.inside.cursor e.0 1 c.catch_up.new.cursor (omega arith) c.pass.view_is c.pass.invariant.0 x.0) (λ x. reads_on c.pass.inside.cursor e.0 0 c.catch_up.new.cursor (omega arith) c.pass.view_is c.pass.invariant.0 x.0) e.1
