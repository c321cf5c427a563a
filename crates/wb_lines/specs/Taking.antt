-- Which lines of an input are taken, and as what.
use Rattle.std.specs.Prelude.{ℕ, ◌+◌, ◌^◌, length, Bool, nat_le, nat_lt, ◌||◌, not, if◌then◌else◌}
use Rattle.wb_lines.specs.Input.{InputLine, most_bytes}
use Rattle.wb_lines.specs.Handling.{Met, whole, too_long}

abbrev pub is_short : InputLine → Bool
is_short l = nat_le (length l.bytes) most_bytes

-- what a handler is handed for a line
abbrev pub met : InputLine → Met
met l = if is_short l then whole l else too_long

-- A line is taken once its end is seen, or as soon as it is too long. If the input is cut off, what follows the last line feed has no end.
abbrev pub is_taken : Bool → InputLine → Bool
is_taken cut l = not (is_short l) || (l.ended || not cut)

-- A handler that goes on after a line that is too long passes over the rest of it, which has fewer bytes than these in all.
abbrev pub most_passed : ℕ
most_passed = 2 ^ 64 + most_bytes

abbrev pub is_passed : InputLine → Bool
is_passed l = nat_lt (length l.bytes) most_passed
