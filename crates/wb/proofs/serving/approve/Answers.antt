use Rattle.std.proofs.Common.{[], ◌++◌, ◌∙◌, List, ℕ, ap, ap₂, append-nil, inl, inr, refl, sym}
use Rattle.std.proofs.lemmas.Result.{err_from_is_err_and}
use Rattle.wb_lines.proofs.KnownBytes.{Appends-none}
use Rattle.wb.specs.Serving.{approval}
use Rattle.wb.proofs.serving.approve.Goals as goal

pub returns-in_err-text-clause-text : goal.returns-in_err-text-clause-text
returns-in_err-text-clause-text g c =
    let p = err_from_is_err_and c.from_residual.result c.from_residual.ensures.1 in
    rw p.1 ([], Appends-none (g.W.Sink.taken c.args.sink.now), ((approval c.args.lines, refl), inr p.2))

pub returns-in_err-text-clause-read : goal.returns-in_err-text-clause-read
returns-in_err-text-clause-read g c = λ e.
    let p = err_from_is_err_and c.from_residual.result c.from_residual.ensures.1 in
    let is = p.1 in
    let memory = p.2 in
    cc

pub returns-in_err-text-clause-write : goal.returns-in_err-text-clause-write
returns-in_err-text-clause-write g c = λ e.
    let p = err_from_is_err_and c.from_residual.result c.from_residual.ensures.1 in
    let is = p.1 in
    let memory = p.2 in
    cc

pub returns-in_err-add-clause-text : goal.returns-in_err-add-clause-text
returns-in_err-add-clause-text g c =
    let p = err_from_is_err_and c.from_residual-in_err-add.result c.from_residual-in_err-add.ensures.1 in
    rw p.1 ([], Appends-none (g.W.Sink.taken c.args.sink.now), ((approval c.args.lines, refl), inr p.2))

pub returns-in_err-add-clause-read : goal.returns-in_err-add-clause-read
returns-in_err-add-clause-read g c = λ e.
    let p = err_from_is_err_and c.from_residual-in_err-add.result c.from_residual-in_err-add.ensures.1 in
    let is = p.1 in
    let memory = p.2 in
    cc

pub returns-in_err-add-clause-write : goal.returns-in_err-add-clause-write
returns-in_err-add-clause-write g c = λ e.
    let p = err_from_is_err_and c.from_residual-in_err-add.result c.from_residual-in_err-add.ensures.1 in
    let is = p.1 in
    let memory = p.2 in
    cc

pub returns-in-Ok-clause-text : goal.returns-in-Ok-clause-text
returns-in-Ok-clause-text g c =
    let s = c.in-Ok.ensures.sends in
    let waits = c.in_ok-add.ensures.ok ∙ ap₂ ◌++◌ c.new-output.ensures (c.as_bytes.ensures.value ∙ c.in_ok-text.ensures) in
    (s.0, s.1, sym (append-nil s.0) ∙ ap (λ (t : List ℕ). s.0 ++ t) (sym c.in-Ok.ensures.ok) ∙ sym s.2 ∙ append-nil _ ∙ waits)

pub returns-clause-text : goal.returns-clause-text
returns-clause-text g c =
    let s = c.in-Err.ensures.sends in
    let waits = c.in_ok-add.ensures.ok ∙ ap₂ ◌++◌ c.new-output.ensures (c.as_bytes.ensures.value ∙ c.in_ok-text.ensures) in
    (s.0, s.1, ((_, sym waits ∙ sym (append-nil _) ∙ s.2), inl refl))
