use Rattle.std.proofs.Common.{[], refl, sym, subst, Result, ap, ◌∙◌, Ok, Err, ◌≡◌}
use Rattle.wb_lines.specs.declared.handler.Stop.TheVariants as stops
use Rattle.wb_commands.specs.declared.command.Command.{Command}
use Rattle.wb_commands.specs.declared.fault.LineFault.{LineFault}
use Rattle.wb_lines.proofs.Moments.{Reads-none, Reads-prints}
use Rattle.wb_script.specs.Script.{Nothing, Arrival, Faulty, End, part_of, part_in}
use Rattle.wb_script.specs.Inside.Parts.{by_batches, EndsBatchAt}
use Rattle.wb_script.proofs.Steps.{lone, skips, refuses, ends_apart}
use Rattle.wb_script.proofs.host.Host.take.Goals as goal

pub arrive-requires-clause-part : goal.arrive-requires-clause-part
arrive-requires-clause-part g c =
    let is : part_of c.args.said.said ≡ Arrival c.in-Arrival.drawop = rw c.in-Arrival.is at c.part.ensures in
    let part : part_in c.args.progress.now.lines.line ≡ Arrival c.in-Arrival.drawop = ap part_of (sym c.requires.said.0) ∙ is in
    λ κs outlive. part

pub returns-in-Skipped-clause-text : goal.returns-in-Skipped-clause-text
returns-in-Skipped-clause-text g c =
    let is : part_of c.args.said.said ≡ Nothing = rw c.in-Skipped.is at c.part.ensures in
    let part = ap part_of (sym c.requires.said.0) ∙ is in
    ([], [], Reads-none by_batches _, λ s at. lone s c.args.progress.now.lines.done Nothing c.args.progress.now.lines.line c.args.progress.now.lines c.args.self.now [] (Ok tt) c.requires.taken part refl (skips c.args.self.now s at))

pub returns-in-Ok-clause-text : goal.returns-in-Ok-clause-text
returns-in-Ok-clause-text g c =
    let t = c.take_line.ensures.text in
    let other : EndsBatchAt (part_of c.args.said.said) = rw c.in-Other.is at c.part.ensures in
    let ends : EndsBatchAt (part_of (Ok c.in-Ok.command)) = subst (λ (x : Result Command LineFault). EndsBatchAt (part_of x)) c.in-Ok.is other in
    let part = ap part_of (sym c.requires.said.0 ∙ c.in-Ok.is) in (
      t.0,
      [],
      Reads-prints by_batches _ _ t.0 refl refl refl refl refl t.1,
      λ s at. lone s c.args.progress.now.lines.done (part_of (Ok c.in-Ok.command)) c.args.progress.now.lines.line c.args.progress.now.lines c.take_line.new.self t.0 c.take_line.result c.requires.taken part (ends_apart (part_of (Ok c.in-Ok.command)) ends) (t.2 s at),
    )

pub returns-clause-text : goal.returns-clause-text
returns-clause-text g c =
    let part = ap part_of (sym c.requires.said.0 ∙ c.in-Err.is) in
    ([], [], Reads-none by_batches _, λ s at. lone s c.args.progress.now.lines.done (End (Faulty c.in-Err.fault)) c.args.progress.now.lines.line c.args.progress.now.lines c.args.self.now [] (Err (stops.Fault c.in-Err.fault)) c.requires.taken part refl (refuses c.args.self.now c.args.self.now s c.in-Err.fault at))
