-- The number of each kind of operation, and the versions that have it.
use Rattle.std.specs.Prelude.{ℕ, Bool, true, false, Option, nat_eq}
use Rattle.wb_names.specs.Kinds.{kind_with}
use Rattle.wb_names.specs.declared.parts.Figure.TheVariants.{Line, Frame}
use Rattle.wb_names.specs.declared.parts.Change.TheVariants.{Delete, Restore}
use Rattle.wb_names.specs.declared.parts.OpKind.{OpKind}
use Rattle.wb_names.specs.declared.parts.OpKind.TheVariants.{Drawn, Text, Aimed}
use Rattle.wb_codec.specs.declared.version.Version.{Version}
use Rattle.wb_codec.specs.declared.version.Version.TheVariants.{One, Two}

abbrev pub op_code : OpKind → ℕ
op_code (Drawn Line) = 1
op_code (Drawn Frame) = 2
op_code Text = 3
op_code (Aimed Delete) = 4
op_code (Aimed Restore) = 5

-- the kind with a number
unfoldable pub op_kind_of : ℕ → Option OpKind
op_kind_of number = kind_with nat_eq op_code number

-- the first version that has a kind: version 2 is used for what version 1 cannot say
abbrev pub first_version : OpKind → Version
first_version (Aimed Restore) = Two
first_version kind = One

abbrev pub is_version : Version → Version → Bool
is_version One One = true
is_version Two Two = true
is_version version other = false

-- whether a version has a kind: both have texts, by their length; all else belongs to the first that can
abbrev pub has_kind : Version → OpKind → Bool
has_kind version Text = true
has_kind version kind = is_version version (first_version kind)
