-- The operation that a caller's shape asks for.
use Rattle.std.specs.Prelude.{◌≤◌, length}
use Rattle.wb_names.specs.declared.parts.Op.{Op}
use Rattle.wb_names.specs.declared.parts.Op.TheVariants as ops
use Rattle.wb_names.specs.declared.shape.Shape.{Shape}
use Rattle.wb_names.specs.declared.shape.Shape.TheVariants.{Drawn, Text, Aimed}
use Rattle.wb_names.specs.declared.text.TheConstants.Text.{MAX_LEN}

abbrev pub op_of : Shape → Op
op_of (Drawn figure s) = ops.Drawn figure s
op_of (Text x y bytes) = ops.Text x y bytes.now
op_of (Aimed change t) = ops.Aimed change t

-- its text fits into a drawop
abbrev pub TextFits : Shape → Type 0
TextFits (Drawn figure s) = Unit {0}
TextFits (Text x y bytes) = length bytes.now ≤ MAX_LEN
TextFits (Aimed change t) = Unit {0}
