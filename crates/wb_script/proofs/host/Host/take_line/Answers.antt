use Rattle.std.proofs.Common.{◌≡◌, ℕ, [], Ok, refl, sym, subst, append-nil}
use Rattle.wb_lines.specs.Handling.{Does}
use Rattle.wb_commands.specs.declared.command.Command.{Command}
use Rattle.wb_commands.specs.declared.command.Command.TheVariants.{Skip, Board, Arrive}
use Rattle.wb_script.specs.Inside.Parts.{EndsBatchAt}
use Rattle.wb_script.specs.Script.{Acts, Part, End, part_of, part_step}
use Rattle.wb_script.specs.Inside.Steps.{IsRunAt, as_step}
use Rattle.wb_script.proofs.host.Host.take_line.Goals as goal

-- A line that ends its batch, and opens no board, acts at the board.
acts_then : (line : Command) → EndsBatchAt (part_of (Ok line)) → ((member cells workers seed : ℕ) → line ≡ Board member cells workers seed → ⊥) → part_of (Ok line) ≡ End (Acts line)
acts_then Skip ends other = absurd ends
acts_then (Arrive d) ends other = absurd ends
acts_then (Board member cells workers seed) ends other = absurd (other member cells workers seed refl)
acts_then line ends other = refl

pub returns-in-Board-clause-text : goal.returns-in-Board-clause-text
returns-in-Board-clause-text g c = ([], sym (append-nil c.args.output.now), λ s at. rw c.in-Board.is (c.open_board.ensures.text s at))

pub returns-in_default-clause-text : goal.returns-in_default-clause-text
returns-in_default-clause-text g c =
    let t = c.act.ensures.text in (
      t.0,
      t.1,
      λ s at.
          let d = t.2 s at in
          (d.0, d.1, subst (λ (part : Part). Does {U = Unit {0}} (IsRunAt c.act.new.self) t.0 c.act.result (as_step (part_step s d.0 part))) (sym (acts_then c.args.command.now c.requires.other c.in_default.not-Board)) d.2),
    )
