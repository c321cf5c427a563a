-- Which names and operations there are: the first fault of each, in the order of the checks.
use Rattle.std.specs.Prelude.{◌≡◌, ℕ, Bool, not, ◌&&◌, Option, None, nat_eq, nat_le, List, [], ◌∷◌, length}
use Rattle.std.specs.List.{list_all}
use Rattle.wb_names.specs.Values.{NameValue}
use Rattle.wb_names.specs.Faults.{first_of, fault_unless}
use Rattle.wb_names.specs.declared.fault.FieldFault.{FieldFault}
use Rattle.wb_names.specs.declared.fault.FieldFault.TheVariants.{SeqZero, Coordinate, Glyph, TextLength, TextByte, TargetZero, TargetSelf}
use Rattle.wb_names.specs.declared.parts.Stroke.{Stroke}
use Rattle.wb_names.specs.declared.parts.Target.{Target}
use Rattle.wb_names.specs.declared.parts.Op.{Op}
use Rattle.wb_names.specs.declared.shape.TheConstants.{MAX_COORDINATE}
use Rattle.wb_names.specs.declared.text.TheConstants.Text.{MAX_LEN}
use Rattle.wb_names.specs.declared.parts.Op.TheVariants.{Drawn, Text, Aimed}

-- sequence numbers begin at 1
abbrev pub seq_fault : ℕ → Option FieldFault
seq_fault seq = fault_unless (nat_le 1 seq) SeqZero

abbrev pub is_coordinate : ℕ → Bool
is_coordinate n = nat_le n MAX_COORDINATE

-- a visible character of ASCII, `!` to `~`
abbrev pub is_glyph : ℕ → Bool
is_glyph byte = nat_le 0x21 byte && nat_le byte 0x7e

-- a character of ASCII that may stand in a text, space to `~`
abbrev pub is_printable : ℕ → Bool
is_printable byte = nat_le 0x20 byte && nat_le byte 0x7e

-- a text has a byte at least
abbrev pub is_text_length : ℕ → Bool
is_text_length n = nat_le 1 n && nat_le n MAX_LEN

-- of two corners or ends, and the glyph that is drawn
abbrev pub stroke_fault : Stroke → Option FieldFault
stroke_fault s = first_of (
    fault_unless (is_coordinate s.x0 && is_coordinate s.y0 && is_coordinate s.x1 && is_coordinate s.y1) Coordinate
    ∷ fault_unless (is_glyph s.glyph) Glyph
    ∷ [])

abbrev pub text_fault : ℕ → ℕ → List ℕ → Option FieldFault
text_fault x y bytes = first_of (
    fault_unless (is_coordinate x && is_coordinate y) Coordinate
    ∷ fault_unless (is_text_length (length bytes)) TextLength
    ∷ fault_unless (list_all is_printable bytes) TextByte
    ∷ [])

-- of the source and number that a delete or a restore of this name is aimed at
abbrev pub target_fault : NameValue → Target → Option FieldFault
target_fault name t = first_of (
    fault_unless (nat_le 1 t.seq) TargetZero
    ∷ fault_unless (not (nat_eq t.source name.source && nat_eq t.seq name.seq)) TargetSelf
    ∷ [])

-- the first fault of an operation under a name
abbrev pub op_fault : NameValue → Op → Option FieldFault
op_fault name (Drawn figure s) = stroke_fault s
op_fault name (Text x y text) = text_fault x y text
op_fault name (Aimed change t) = target_fault name t

-- a drawop of this name may carry this operation
abbrev pub IsLawful : NameValue → Op → Type 0
IsLawful name op = op_fault name op ≡ None

-- the bytes that an operation writes: none, where it is no text
abbrev pub text_of : Op → List ℕ
text_of (Drawn figure s) = []
text_of (Text x y text) = text
text_of (Aimed change t) = []
