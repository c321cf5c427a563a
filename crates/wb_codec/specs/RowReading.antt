-- What the words of a record say, read back from left to right. That it undoes the record is a law.
use Rattle.std.specs.Prelude.{ℕ, ◌/◌, ◌%◌, ◌^◌, List, take, Option, Some, None, option_and_then, nat_le, if◌then◌else◌}
use Rattle.wb_names.specs.declared.parts.Stroke.{Stroke}
use Rattle.wb_names.specs.declared.parts.Target.{Target}
use Rattle.wb_names.specs.declared.parts.OpKind.{OpKind}
use Rattle.wb_names.specs.declared.parts.OpKind.TheVariants as kinds
use Rattle.wb_names.specs.declared.parts.Op.{Op}
use Rattle.wb_names.specs.declared.parts.Op.TheVariants.{Drawn, Text, Aimed}
use Rattle.wb_names.specs.declared.text.TheConstants.Text.{MAX_LEN}
use Rattle.wb_codec.specs.Kinds.{op_kind_of}

abbrev pub high_half : ℕ → ℕ
high_half word = word / 2 ^ 32

abbrev pub low_half : ℕ → ℕ
low_half word = word % 2 ^ 32

-- the parts of an operation's word
abbrev pub code_in : ℕ → ℕ
code_in word = word / 2 ^ 56

abbrev pub byte_in : ℕ → ℕ
byte_in word = word / 2 ^ 48 % 2 ^ 8

abbrev pub p_in : ℕ → ℕ
p_in word = word / 2 ^ 36 % 2 ^ 12

abbrev pub q_in : ℕ → ℕ
q_in word = word / 2 ^ 24 % 2 ^ 12

abbrev pub r_in : ℕ → ℕ
r_in word = word / 2 ^ 12 % 2 ^ 12

abbrev pub s_in : ℕ → ℕ
s_in word = word % 2 ^ 12

abbrev pub stroke_in : ℕ → Stroke
stroke_in word = record { x0 = p_in word; y0 = q_in word; x1 = r_in word; y1 = s_in word; glyph = byte_in word }

abbrev pub target_in : ℕ → Target
target_in word = record { source = high_half word; seq = low_half word }

-- the operation of a kind with this word, this target's word and these bytes of text
abbrev pub op_of_kind : OpKind → ℕ → ℕ → List ℕ → Option Op
op_of_kind (kinds.Drawn figure) word target bytes = Some (Drawn figure (stroke_in word))
op_of_kind kinds.Text word target bytes = if nat_le (byte_in word) MAX_LEN then Some (Text (p_in word) (q_in word) (take (byte_in word) bytes)) else None
op_of_kind (kinds.Aimed change) word target bytes = Some (Aimed change (target_in target))

unfoldable pub op_in : ℕ → ℕ → List ℕ → Option Op
op_in word target bytes = option_and_then (λ kind. op_of_kind kind word target bytes) (op_kind_of (code_in word))
