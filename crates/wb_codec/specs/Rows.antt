-- The record of a drawop: a row of words of 64 bits, for memory that threads share word by word.
use Rattle.std.specs.Prelude.{ℕ, ◌+◌, ◌*◌, ◌^◌, List, ◌∷◌, length, map, take, drop, replicate}
use Rattle.std.specs.List.{range_with_len}
use Rattle.std.specs.Int.{w64, from_be_bytes}
use Rattle.wb_names.specs.Values.{DrawopValue}
use Rattle.wb_names.specs.TextFields.{padded}
use Rattle.wb_names.specs.declared.parts.OpKind.TheVariants as kinds
use Rattle.wb_names.specs.declared.parts.Op.{Op}
use Rattle.wb_names.specs.declared.parts.Op.TheVariants.{Drawn, Text, Aimed}
use Rattle.wb_codec.specs.Kinds.{op_code}

-- how many words a record has
abbrev pub row_words : ℕ
row_words = 12

-- two numbers of four bytes in a word
abbrev pub pair_word : ℕ → ℕ → ℕ
pair_word high low = high * 2 ^ 32 + low

-- an operation's number, a byte, and four numbers of twelve bits
abbrev pub op_word : ℕ → ℕ → ℕ → ℕ → ℕ → ℕ → ℕ
op_word kind byte p q r s = kind * 2 ^ 56 + byte * 2 ^ 48 + p * 2 ^ 36 + q * 2 ^ 24 + r * 2 ^ 12 + s

-- the k-th eight bytes as a word, the first in the most significant byte
abbrev pub text_word : List ℕ → ℕ → ℕ
text_word bytes k = from_be_bytes w64 (take 8 (drop (8 * k) bytes))

-- a text and the zeros after it as eight words
abbrev pub text_words : List ℕ → List ℕ
text_words text = map (text_word (padded text)) (range_with_len 0 8)

-- the words that depend on the operation
abbrev pub op_words : Op → List ℕ
op_words (Drawn figure s) = op_word (op_code (kinds.Drawn figure)) s.glyph s.x0 s.y0 s.x1 s.y1 ∷ replicate 8 0
op_words (Text x y text) = op_word (op_code kinds.Text) (length text) x y 0 0 ∷ text_words text
op_words (Aimed change t) = op_word (op_code (kinds.Aimed change)) 0 0 0 0 0 ∷ pair_word t.source t.seq ∷ replicate 7 0

abbrev pub row : DrawopValue → List ℕ
row d = pair_word d.name.source d.name.seq ∷ pair_word d.name.page.creator d.name.page.number ∷ d.time ∷ op_words d.op
