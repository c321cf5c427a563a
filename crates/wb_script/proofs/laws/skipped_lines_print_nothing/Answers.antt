use Rattle.wb_script.proofs.ScriptLaws.{skipped_prints_nothing}
use Rattle.wb_script.proofs.laws.skipped_lines_print_nothing.Goals as goal

pub returns : goal.returns
returns c = skipped_prints_nothing
