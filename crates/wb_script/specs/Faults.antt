-- The numbers of the faults of a run, and their texts.
use Rattle.std.specs.Prelude.{ℕ, List, ◌++◌, codes, decimal}
use Rattle.wb_commands.specs.Faults.{line_text}
use Rattle.wb_script.specs.declared.fault.RunFault.{RunFault}
use Rattle.wb_script.specs.declared.fault.RunFault.TheVariants.{Line, Read, Write, Start, Memory, Endless}

abbrev pub run_code : RunFault → ℕ
run_code (Line n e) = 1
run_code Read = 2
run_code Write = 3
run_code Start = 4
run_code Memory = 5
run_code Endless = 6

abbrev pub run_text : RunFault → List ℕ
run_text (Line number fault) = codes "line " ++ (decimal number ++ (codes ": " ++ line_text fault))
run_text Read = codes "read"
run_text Write = codes "write"
run_text Start = codes "start"
run_text Memory = codes "memory"
run_text Endless = codes "endless"
