-- The words of a line, and what a word may say.
use Rattle.std.specs.Prelude.{ℕ, ◌-◌, ◌^◌, Bool, true, false, not, ◌&&◌, ◌||◌, List, [], ◌∷◌, ◌++◌, length, Option, Some, None, nat_eq, nat_le, if◌then◌else◌, decimal}
use Rattle.std.specs.List.{slice_split, join_with_byte}
use Rattle.std.specs.Str.{bytes_eq}
use Rattle.std.specs.Str.Parse.{digits_value}
use Rattle.wb_names.specs.Values.{MarkValue}
use Rattle.wb_names.specs.declared.name.PageId.{PageId}
use Rattle.wb_names.specs.declared.echo.Echo.{Echo}

abbrev pub is_space : ℕ → Bool
is_space byte = nat_eq byte 32

-- the words of a line: one space stands between each two
abbrev pub words : List ℕ → List (List ℕ)
words line = slice_split is_space line

-- the line of these words
abbrev pub joined : List (List ℕ) → List ℕ
joined ws = join_with_byte 32 ws

infixl 10 ◌>>=◌
abbrev pub ◌>>=◌ : {A B : Type 0} → Option A → (A → Option B) → Option B
(Some x) >>= f = f x
None >>= f = None

-- what stands before and after the first byte that is the mark, where some bytes before it have been passed
abbrev pub split_after : List ℕ → ℕ → List ℕ → Option (List ℕ × List ℕ)
split_after passed mark [] = None
split_after passed mark (b ∷ bytes) = if nat_eq b mark then Some (passed, bytes) else split_after (passed ++ b ∷ []) mark bytes

abbrev pub split_once : ℕ → List ℕ → Option (List ℕ × List ℕ)
split_once mark word = split_after [] mark word

-- the number up to a greatest one whose decimal digits are the word: no sign, no zero in front
unfoldable pub number_in : ℕ → List ℕ → Option ℕ
number_in most word = if bytes_eq (decimal (digits_value 10 word)) word && nat_le (digits_value 10 word) most then Some (digits_value 10 word) else None

-- digits with no zero in front of others
abbrev pub is_plain : List ℕ → Bool
is_plain [] = false
is_plain (b ∷ []) = true
is_plain (b ∷ c ∷ bytes) = not (nat_eq b 48)

abbrev pub most32 : ℕ
most32 = 2 ^ 32 - 1

abbrev pub most64 : ℕ
most64 = 2 ^ 64 - 1

-- two numbers of 32 bits, with the mark between them
unfoldable pub pair_in : ℕ → List ℕ → Option (ℕ × ℕ)
pair_in mark word = do
  parts ← split_once mark word
  first ← number_in most32 parts.0
  second ← number_in most32 parts.1
  Some (first, second)

-- `CREATOR/NUMBER`
unfoldable pub page_in : List ℕ → Option PageId
page_in word = do
  pair ← pair_in 47 word
  Some (record { creator = pair.0; number = pair.1 })

-- one byte
abbrev pub glyph_in : List ℕ → Option ℕ
glyph_in [] = None
glyph_in (b ∷ []) = Some b
glyph_in (b ∷ c ∷ bytes) = None

-- `SOURCE=HIGH`
unfoldable pub mark_in : List ℕ → Option MarkValue
mark_in word = do
  pair ← pair_in 61 word
  Some (record { source = pair.0; high = pair.1 })

-- `SOURCE@SENT+HELD`
unfoldable pub echo_in : List ℕ → Option Echo
echo_in word = do
  parts ← split_once 64 word
  moments ← split_once 43 parts.1
  source ← number_in most32 parts.0
  sent ← number_in most64 moments.0
  held ← number_in most64 moments.1
  Some (record { source = source; sent = sent; held = held })

-- a quote or a backslash, before which a backslash stands in a quoted text
abbrev pub is_special : ℕ → Bool
is_special byte = nat_eq byte 34 || nat_eq byte 92

-- The text up to the quote that ends it, which has to be the last byte. Some of it has been passed, and the byte before may be a backslash.
abbrev pub text_after : List ℕ → Bool → List ℕ → Option (List ℕ)
text_after passed escaped [] = None
text_after passed true (b ∷ bytes) = if is_special b then text_after (passed ++ b ∷ []) false bytes else None
text_after passed false (b ∷ bytes) =
    if nat_eq b 34 then (if nat_eq (length bytes) 0 then Some passed else None)
    else (if nat_eq b 92 then text_after passed true bytes
    else text_after (passed ++ b ∷ []) false bytes)

-- a text in quotes
abbrev pub text_in : List ℕ → Option (List ℕ)
text_in [] = None
text_in (b ∷ bytes) = if nat_eq b 34 then text_after [] false bytes else None
