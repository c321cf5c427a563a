-- The text of a fault.
use Rattle.std.specs.Prelude.{ℕ, List, codes}
use Rattle.wb_names.specs.declared.fault.FieldFault.{FieldFault}
use Rattle.wb_names.specs.declared.fault.FieldFault.TheVariants.{SeqZero, Coordinate, Glyph, TextLength, TextByte, TargetZero, TargetSelf}

abbrev pub field_text : FieldFault → List ℕ
field_text SeqZero = codes "sequence number 0"
field_text Coordinate = codes "coordinate over 4095"
field_text Glyph = codes "glyph outside ! to ~"
field_text TextLength = codes "text of 0 or over 64 bytes"
field_text TextByte = codes "text byte outside space to ~"
field_text TargetZero = codes "target sequence number 0"
field_text TargetSelf = codes "target is the drawop itself"
