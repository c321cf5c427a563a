-- The lengths of texts, apart from the other checks of a drawop; and all these checks in their order.
use Rattle.std.specs.Prelude.{ℕ, Bool, true, Option, Some, Result, length}
use Rattle.wb_names.specs.Values.{NameValue, DrawopValue}
use Rattle.wb_names.specs.Drawing.{seq_fault}
use Rattle.wb_names.specs.declared.fault.FieldFault.{FieldFault}
use Rattle.wb_names.specs.declared.fault.FieldFault.TheVariants.{Coordinate, TextLength}
use Rattle.wb_names.specs.declared.parts.Op.{Op}
use Rattle.wb_names.specs.declared.parts.Op.TheVariants.{Text}
use Rattle.wb_codec.specs.declared.version.Version.{Version}
use Rattle.wb_codec.specs.declared.fault.ReadFault.{ReadFault}
use Rattle.wb_codec.specs.Reading.{◌>>=◌, is_length_of, in_range, fault_in_version}

-- the version says texts of this length
abbrev pub has_length : Version → Op → Bool
has_length version (Text x y text) = is_length_of version (length text)
has_length version op = true

-- The fault of a text whose length is not told, by what is wrong with the operation else: it stands where lengths are checked, after the coordinates and before the bytes.
abbrev pub fault_at_length : Option FieldFault → FieldFault
fault_at_length (Some Coordinate) = Coordinate
fault_at_length other = TextLength

-- the drawop of these fields, or the first that has a fault
abbrev pub drawop_in_version : Version → NameValue → ℕ → Op → Result DrawopValue ReadFault
drawop_in_version version name time op = do
  named ← in_range (seq_fault name.seq) name
  in_range (fault_in_version version named op) (record { name = named; time = time; op = op })
