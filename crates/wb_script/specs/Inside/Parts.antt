-- What a line is to a batch, for the code that reads it.
use Rattle.std.specs.Prelude.{◌≡◌, Bool, true, false, IfOk}
use Rattle.wb_script.specs.declared.part.Part.{Part as ReadPart}
use Rattle.wb_script.specs.declared.part.Part.TheVariants as parts
use Rattle.wb_script.specs.declared.said.Said.{Said}
use Rattle.wb_lines.specs.Input.{InputLine, content}
use Rattle.wb_lines.specs.Items.{Grouping}
use Rattle.wb_commands.specs.Parsing.{script_line_of, IsScriptWithin}
use Rattle.wb_script.specs.Script.{Part, Arrival, Nothing, End, part_in}

-- It is neither skipped nor an arrival.
abbrev pub EndsBatchAt : Part → Type 0
EndsBatchAt (End c) = Unit {0}
EndsBatchAt part = ⊥

-- what a line is to a batch
abbrev pub IsPart : ReadPart → Part → Type 0
IsPart parts.Skipped part = part ≡ Nothing
IsPart (parts.Arrival d) part = part ≡ Arrival d
IsPart parts.Other part = EndsBatchAt part

abbrev pub joins : ReadPart → Bool
joins parts.Other = false
joins part = true

abbrev pub is_arrival : Part → Bool
is_arrival (Arrival d) = true
is_arrival part = false

abbrev pub joins_batch : Part → Bool
joins_batch (End c) = false
joins_batch part = true

-- A batch begins with an arrival. Arrivals join it, and what is skipped between them.
abbrev pub by_batches : Grouping
by_batches = record { gathers = λ line. is_arrival (part_in line); joins = λ line. joins_batch (part_in line) }

-- A line says this, with its numbers in range.
abbrev pub LineSays : InputLine → Said → Type 0
LineSays line said = (said.said ≡ script_line_of (content line)) × IfOk said.said IsScriptWithin
