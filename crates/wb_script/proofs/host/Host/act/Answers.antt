use Rattle.std.proofs.Common.{[], sym, append-nil}
use Rattle.wb_script.proofs.Steps.{ends_empty, ends_nowhere, ends_then}
use Rattle.wb_script.proofs.host.Host.act.Goals.{in-None, in-Some}
use Rattle.wb_script.proofs.host.Host.act.Goals as goal

pub returns-clause-text : goal.returns-clause-text
returns-clause-text g c = elim c.match-self.branch [
  | in-None w ↦
      rw (w.output-is, w.result-is, w.self-inside-is) (
        [],
        sym (append-nil c.args.output.now),
        λ s at. let e = ends_empty c.args.self.now s at in (e.0, e.1, ends_nowhere s e.0 c.args.self.now c.self.inside.member c.self.inside.workers c.self.inside.refused c.args.command.now c.self.view_is w.in-None.is e.2),
      )
  | in-Some w ↦
      let b = w.act.ensures.text in
      rw (w.output-is, w.result-is, w.self-inside-is) (
        b.0,
        b.1,
        λ s at. let e = ends_empty c.args.self.now s at in (e.0, e.1, rw w.faulted.ensures (ends_then s e.0 c.args.self.now c.self.inside.member w.in-Some.member w.act.new.member c.self.inside.workers c.self.inside.refused b.0 c.args.command.now w.act.result c.self.view_is w.in-Some.is e.2 b.2)),
      )
]
