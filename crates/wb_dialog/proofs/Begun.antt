-- How a judged member begins.
use Rattle.std.proofs.Common.{◌≡◌, Result, Ok, Err, subst}
use Rattle.std.specs.Prelude.{IfOk}
use Rattle.wb_recovery.specs.declared.tuning.Tuning.{Tuning}
use Rattle.wb_member.specs.Holding.{IsOpenAt, MemberValue}
use Rattle.wb_member.specs.Opened.{Opened, opened_with, ticked}
use Rattle.wb_judging.specs.Opening.{opened}
use Rattle.wb_judging.specs.Performing.{IsJudgedAt, JudgedValue}
use Rattle.wb_judging.specs.declared.judged_member.Opening.{Opening}
use Rattle.wb_dialog.specs.Boards.{BoardValue}
use Rattle.wb_dialog.specs.declared.judged_line.JudgeLine.{JudgeLine}
use Rattle.wb_dialog.specs.Judged.{begun, opening_of}

pub begun_by : {E : Type 0} (tuning : Tuning) (line : JudgeLine) (b : BoardValue) (opening : Opening) (member : MemberValue) (r : Result JudgedValue E) → opening ≡ opening_of line b
    → IsOpenAt member (ticked line.now (opened_with tuning b.member b.cells b.seed)) → IfOk r (λ m. (host : Opened) → IsOpenAt member host → IsJudgedAt m (opened opening host)) → IfOk r (λ m. IsJudgedAt m (begun tuning line b))
begun_by tuning line b opening member (Ok m) is at begins =
    let host = ticked line.now (opened_with tuning b.member b.cells b.seed) in
    subst (λ (o : Opening). IsJudgedAt m (opened o host)) is (begins host at)
begun_by tuning line b opening member (Err e) is at begins = tt
