use Rattle.std.proofs.Common.{◌≡◌, List, ℕ, Result, Ok, Err, [], append-nil, refl, subst, sym}
use Rattle.wb_lines.specs.declared.handler.Stop.{Stop}
use Rattle.wb_lines.specs.declared.handler.Stop.TheVariants as stops
use Rattle.wb_lines.specs.Handling.{Does}
use Rattle.wb_commands.specs.declared.command.Command.{Command}
use Rattle.wb_commands.specs.declared.fault.LineFault.{LineFault}
use Rattle.wb_commands.specs.declared.fault.Untaken.{Untaken}
use Rattle.wb_commands.specs.Parsing.{ParsesLine, script_line_of}
use Rattle.wb_script.specs.Checking.{parsed_step}
use Rattle.wb_script.proofs.checking.CheckerHandler.take.Goals as goal
use Rattle.wb_script.proofs.checking.CheckerHandler.take.Goals.{in-Ok, in-Err-Line, in-Err-Memory}

-- It is answered so.
abbrev Answers : Result (Unit {0}) (Stop LineFault) → Result Command LineFault → Type 0
Answers result said = Does (λ (s : Unit {0}). Unit {0}) [] result (parsed_step said)

goes_on : (said : Result Command LineFault) (line : Command) → said ≡ Ok line → Answers (Ok tt) said
goes_on said line e = subst (Answers (Ok tt)) (sym e) (refl, tt)

stops_so : (said : Result Command LineFault) (e : LineFault) → said ≡ Err e → Answers (Err (stops.Fault e)) said
stops_so said e is = subst (Answers (Err (stops.Fault e))) (sym is) (refl, refl)

prints_none : (said : Result Command LineFault) → Answers (Err stops.Memory) said
prints_none (Ok line) = ([], refl)
prints_none (Err e) = ([], refl)

pub returns : goal.returns
returns c =
    let said : Result Command LineFault = script_line_of c.without_end.result.now in (
      [],
      sym (append-nil c.args._output.now),
      λ s at.
          subst (λ (bytes : List ℕ). Answers c.match-parse_line.result (script_line_of bytes)) c.without_end.ensures (elim c.match-parse_line.branch [
            | in-Ok w ↦ subst (λ (r : Result (Unit {0}) (Stop LineFault)). Answers r said) (sym w.result-is) (goes_on said w.in-Ok.field-0 w.in-Ok.ensures.line)
            | in-Err-Line w ↦ subst (λ (r : Result (Unit {0}) (Stop LineFault)). Answers r said) (sym w.result-is)
                (stops_so said w.in-Err-Line.fault (subst (λ (u : Untaken). ParsesLine (Err u) said) w.in-Err-Line.field-0-is w.in-Err-Line.ensures.line))
            | in-Err-Memory w ↦ subst (λ (r : Result (Unit {0}) (Stop LineFault)). Answers r said) (sym w.result-is) (prints_none said)
          ]),
    )
