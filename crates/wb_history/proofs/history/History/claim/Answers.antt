use Rattle.std.proofs.Common.{arith, subst}
use Rattle.std.proofs.lemmas.Grind.{common_steps}
use mathlib.Core.List.{IsPrefix}
use Rattle.wb_history.specs.Passes.{PassValue}
use Rattle.wb_history.proofs.Shows.{shown, sits, sound, pass_on, parts_after}
use Rattle.wb_history.proofs.history.History.claim.Goals as goal

pub invariant_of-pass : goal.invariant_of-pass
invariant_of-pass c =
    pass_on c.pass.inside.spares.items c.pass.inside.cells c.pass.inside.cursor c.claim_with.new.cursor c.pass.invariant
    (parts_after c.self.inside.cells.cells c.pass.inside.cursor c.args.drawop.now c.claim_with.new.cursor c.claim_with.result c.pass.invariant.0 c.claim_with.ensures.done)

pub returns-clause-sound : goal.returns-clause-sound
returns-clause-sound c = sound c.claim_with.new.cursor (invariant_of-pass c).0

pub returns-clause-grows : goal.returns-clause-grows
returns-clause-grows c =
    let on = parts_after c.self.inside.cells.cells c.pass.inside.cursor c.args.drawop.now c.claim_with.new.cursor c.claim_with.result c.pass.invariant.0 c.claim_with.ensures.done in
    subst (λ (p : PassValue). IsPrefix p.seen c.claim_with.new.cursor.seen.items) c.pass.view_is on.2

pub returns-clause-answer : goal.returns-clause-answer
returns-clause-answer c = grind (arith, common_steps, sits, shown)
