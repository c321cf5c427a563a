use Rattle.std.proofs.Common.{ℕ, ◌<◌, get_or}
use Rattle.wb_names.specs.declared.echo.Echo.{Echo}
use Rattle.wb_codec.specs.Ranges.{IsEcho}
use Rattle.wb_codec.proofs.laws.echoes_are_in_range.Given as goal

abbrev pub invariant-loop-echo : goal.invariant-loop-echo
invariant-loop-echo l = (k : ℕ) (d : Echo) → k < l.echo-index → IsEcho (get_or l.echoes k d)
