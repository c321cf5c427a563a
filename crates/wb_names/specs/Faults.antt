-- The numbers of the faults, and the first fault of a row of checks.
use Rattle.std.specs.Prelude.{ℕ, Bool, true, false, Option, Some, None, Result, Ok, Err, List, [], ◌∷◌}
use Rattle.wb_names.specs.declared.fault.FieldFault.{FieldFault}
use Rattle.wb_names.specs.declared.fault.FieldFault.TheVariants.{SeqZero, Coordinate, Glyph, TextLength, TextByte, TargetZero, TargetSelf}
use Rattle.wb_names.specs.declared.fault.ListFault.{ListFault}
use Rattle.wb_names.specs.declared.fault.ListFault.TheVariants.{TooMany, Order}

abbrev pub field_code : FieldFault → ℕ
field_code SeqZero = 1
field_code Coordinate = 2
field_code Glyph = 3
field_code TextLength = 4
field_code TextByte = 5
field_code TargetZero = 6
field_code TargetSelf = 7

abbrev pub list_code : ListFault → ℕ
list_code TooMany = 1
list_code Order = 2

-- the fault, where the check fails
abbrev pub fault_unless : {F : Type 0} → Bool → F → Option F
fault_unless true fault = None
fault_unless false fault = Some fault

-- the first fault of a row of checks
abbrev pub first_of : {F : Type 0} → List (Option F) → Option F
first_of [] = None
first_of (None ∷ rest) = first_of rest
first_of (Some fault ∷ rest) = Some fault

-- the value, where there is no fault
abbrev pub value_unless : {A F : Type 0} → Option F → A → Result A F
value_unless None x = Ok x
value_unless (Some fault) x = Err fault
