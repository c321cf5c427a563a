-- The lines of an input.
use Rattle.std.specs.Prelude.{◌≡◌, ℕ, List, [], ◌∷◌, ◌++◌, Bool, true, false, nat_eq, if◌then◌else◌}
use Rattle.std.specs.Str.Lines.{strip_carriage_return}
use Rattle.wb_lines.specs.declared.line_reader.TheConstants.{MAX_LINE_LEN}

-- a line as it stands in the input: the bytes before its end, and whether a line feed ends it
pub record InputLine : Type 0 where
  pub bytes : List ℕ
  pub ended : Bool

-- a byte goes to the front of the first line
abbrev pub onto_first : ℕ → List InputLine → List InputLine
onto_first b [] = record { bytes = b ∷ []; ended = false } ∷ []
onto_first b (line ∷ lines) = record { bytes = b ∷ line.bytes; ended = line.ended } ∷ lines

-- The lines of an input. What follows the last line feed is a line too, unless it is empty.
abbrev pub input_lines : List ℕ → List InputLine
input_lines [] = []
input_lines (b ∷ bytes) =
    if nat_eq b 10 then record { bytes = []; ended = true } ∷ input_lines bytes else onto_first b (input_lines bytes)

-- a line without its end, of which one carriage return is a part
abbrev pub content : InputLine → List ℕ
content line = if line.ended then strip_carriage_return line.bytes else line.bytes

-- The most bytes that a line has before its line feed.
abbrev pub most_bytes : ℕ
most_bytes = MAX_LINE_LEN

-- the line feed that ends a line
abbrev pub feed : Bool → List ℕ
feed ended = if ended then 10 ∷ [] else []

-- its bytes as they stand in the input
abbrev pub standing : InputLine → List ℕ
standing line = line.bytes ++ feed line.ended

-- a text begins with some bytes
abbrev pub BeginsWith : List ℕ → List ℕ → Type 0
BeginsWith text bytes = (rest : List ℕ) × (text ≡ bytes ++ rest)

-- What may still be pulled, and whether reading fails after it: nothing and no failure after the end.
abbrev pub MayFollow : Bool → List ℕ → Bool → Type 0
MayFollow ended more cut = ended ≡ true → (more ≡ []) × (cut ≡ false)

-- What may still come of an input at the end of a run: nothing after the end or a failure.
pub record MayRemain (ended failed : Bool) (more : List ℕ) : Type 0 where
  pub none_after_end : ended ≡ true → more ≡ []
  pub none_after_failure : failed ≡ true → more ≡ []
