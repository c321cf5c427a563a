-- Something can always be done with a line, and with a batch.
use Rattle.std.proofs.Common.{ℕ, List, [], ◌∷◌, refl, Option, Some, None}
use Rattle.wb_lines.specs.Input.{InputLine}
use Rattle.wb_lines.specs.Handling.{Met, whole, too_long, Step as LineStep, goes as goes_on, ends}
use Rattle.wb_commands.specs.declared.fault.LineFault.{LineFault}
use Rattle.wb_member.specs.Opened.{Opened}
use Rattle.wb_script.specs.Script.{RunState, closing_text, after_batch, Part, Arrival, Nothing, End, part_in, part_step}
use Rattle.wb_script.specs.Shows.{arrivals_of}
use Rattle.wb_script.proofs.Outcomes.{as_it_came}
use Rattle.wb_script.specs.Inside.Steps.{with_more, as_step, MayDo, may_take_at, may_take}

pub some_step : (s : RunState) (number : ℕ) (met : Met) (joined : List InputLine) → (one : LineStep RunState LineFault) × may_take s number met joined one
some_step s number too_long joined = (ends [], refl)
some_step s number (whole line) joined = at s.host (part_in line) where
  plain : (part : Part) → (one : LineStep RunState LineFault) × MayDo s part one
  plain part = (as_step (part_step s s.waiting part), (s.waiting, as_it_came s.workers s.waiting, refl))

  at : (host : Option Opened) (part : Part) → (one : LineStep RunState LineFault) × may_take_at s host part joined one
  at None part = plain part
  at (Some host) Nothing = plain Nothing
  at (Some host) (End c) = plain (End c)
  at (Some host) (Arrival d) =
      let m : RunState = with_more s (d ∷ arrivals_of joined) in
      (goes_on (closing_text m m.waiting) (after_batch m m.waiting), (m.waiting, as_it_came m.workers m.waiting, refl))
