use Rattle.std.proofs.Common.{◌≡◌, ◌∙◌, [], ◌∷◌, None, ap, rules, subst, sym}
use Rattle.std.specs.Prelude.{Option}
use Rattle.wb_keeping.specs.Laws.{fault_of}
use Rattle.wb_keeping.specs.Refusing.{IsRefusedBy}
use Rattle.wb_keeping.specs.declared.kept_fault.KeptFault.{KeptFault}
use Rattle.wb_judging.specs.Handing.{recalled}
use Rattle.wb_judging.specs.declared.handing.Did.{Did}
use Rattle.wb_judging.specs.declared.record.RecordLine.{RecordLine}
use Rattle.wb_judging.proofs.Handed.{state_fault}
use Rattle.wb_judging.proofs.handing.recall.Goals as goal

pub returns-in_err-only-in-Mark-clause-fault : goal.returns-in_err-only-in-Mark-clause-fault
returns-in_err-only-in-Mark-clause-fault c = λ k at time.
    let none : fault_of (recalled c.args.now c.args.line.now) k ≡ None =
    ap (λ (l : RecordLine). fault_of (recalled c.args.now l) k) c.in-Mark.is ∙ state_fault c.args.now c.in-Mark.speaker c.in-Mark.page (c.in-Mark.mark ∷ []) k time in
    subst (λ (f : Option KeptFault). IsRefusedBy {X = Did} f c.from_residual.result) (sym none) (search rules)
