-- The text that says why a driver stopped.
use Rattle.std.specs.Prelude.{ℕ, List, ◌++◌, Option, Some, codes, decimal}
use Rattle.std.specs.Fmt.{◌++?◌}
use Rattle.wb_lines.specs.declared.fault.DriveFault.{DriveFault}
use Rattle.wb_lines.specs.declared.fault.DriveFault.TheVariants.{Line, Read, Write, Memory, Endless}

-- given the text of a handler's fault
abbrev pub drive_text : {F : Type 0} → (F → Option (List ℕ)) → DriveFault F → Option (List ℕ)
drive_text said (Line number fault) = Some (codes "line " ++ (decimal number ++ codes ": ")) ++? said fault
drive_text said Read = Some (codes "read")
drive_text said Write = Some (codes "write")
drive_text said Memory = Some (codes "memory")
drive_text said Endless = Some (codes "endless")
