use Rattle.std.proofs.Common.{◌≡◌, [], sym, ap, ◌∙◌, Some, None}
use Rattle.wb_lines.proofs.Moments.{Reads-none}
use Rattle.wb_script.specs.Inside.Parts.{by_batches}
use Rattle.wb_script.specs.Inside.Steps.{HostValue}
use Rattle.wb_script.proofs.Steps.{arrives_nowhere, arrives_refused, arrives_open}
use Rattle.wb_script.proofs.host.Host.arrive.Goals as goal

pub returns-in_default-clause-text : goal.returns-in_default-clause-text
returns-in_default-clause-text g c =
    let new : HostValue = record { member = c.take.new.self; workers = c.self.inside.workers; refused = c.self.inside.refused } in
    let closed : c.args.self.now.member ≡ None = ap (λ (h : HostValue). h.member) (sym c.self.view_is) ∙ sym c.take.ensures.value ∙ c.in_default.is in
    ([], [], Reads-none by_batches _, λ s at. arrives_nowhere s c.args.progress.now.lines.done c.args.self.now new c.args.drawop c.args.progress.now.lines.line c.args.progress.now.lines at closed c.requires.part)

pub returns-in-Ok-clause-text : goal.returns-in-Ok-clause-text
returns-in-Ok-clause-text g c =
    let stood : c.args.self.now.member ≡ Some c.in-Some.member = ap (λ (h : HostValue). h.member) (sym c.self.view_is) ∙ sym c.take.ensures.value ∙ c.in-Some.is in
    let same : c.self.inside.workers ≡ c.args.self.now.workers = ap (λ (h : HostValue). h.workers) c.self.view_is in
    let t = c.in-Ok.ensures in (
      t.0,
      t.1,
      t.2,
      λ s at.
          arrives_open s c.args.progress.now.lines.done c.args.self.now c.in-Some.member c.in-Ok.member c.self.inside.workers c.self.inside.refused c.worker_count-workers.result c.args.drawop c.args.progress.now.lines.line t.1 c.take_batch.new.progress.lines t.3.0 t.0
          at stood same c.worker_count-workers.ensures.alone c.requires.part t.3.1 t.3.2,
    )

pub returns-after-matches-clause-text : goal.returns-after-matches-clause-text
returns-after-matches-clause-text g c =
    let new : HostValue = record { member = c.take.new.self; workers = c.self.inside.workers; refused = c.self.inside.refused } in
    let t = c.in-Err.ensures in
    (t.0, t.1, t.2, λ s at. arrives_refused s c.args.progress.now.lines.done new c.args.progress.now.lines.line t.1 c.take_batch.new.progress.lines t.0 t.3)
