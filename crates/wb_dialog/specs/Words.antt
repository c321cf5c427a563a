-- The words of a line, and what follows the first of them.
use Rattle.std.specs.Prelude.{ℕ, ◌-◌, ◌^◌, List, [], ◌∷◌, Option, Some, None, Result, Ok, if◌then◌else◌, codes}
use Rattle.std.specs.Str.{bytes_eq}
use Rattle.wb_words.specs.Words.{split_once}
use Rattle.wb_judge.specs.declared.origin.Origin.{Origin}
use Rattle.wb_commands.specs.declared.fault.LineFault.{LineFault}
use Rattle.wb_commands.specs.Parsing.{number, ◌>>=◌}

-- what follows a word and a space, with which a line begins
abbrev pub behind_parts : List ℕ → Option (List ℕ × List ℕ) → Option (List ℕ)
behind_parts opener None = None
behind_parts opener (Some parts) = if bytes_eq parts.0 opener then Some parts.1 else None

abbrev pub behind : List ℕ → List ℕ → Option (List ℕ)
behind opener line = behind_parts opener (split_once 32 line)

-- the only three words, of which the last stands alone in a list, and the only six
abbrev pub three_of : List (List ℕ) → Option (List ℕ × List ℕ × List (List ℕ))
three_of (a ∷ b ∷ c ∷ []) = Some (a, b, c ∷ [])
three_of ws = None

abbrev pub six_of : List (List ℕ) → Option (List ℕ × List ℕ × List ℕ × List ℕ × List ℕ × List ℕ)
six_of (a ∷ b ∷ c ∷ d ∷ e ∷ f ∷ []) = Some (a, b, c, d, e, f)
six_of ws = None

-- a number from 0, or none for `-`
abbrev pub number_or_none : ℕ → List ℕ → Result (Option ℕ) LineFault
number_or_none high word = if bytes_eq word (codes "-") then Ok None else number 0 high word >>= λ n. Ok (Some n)

abbrev pub most64 : ℕ
most64 = 2 ^ 64 - 1

-- `PLACE`, or by the parts before and after its mark `PLACE@OWNER`
unfoldable pub origin_by : List ℕ → Option (List ℕ × List ℕ) → Result Origin LineFault
origin_by word None = do
  place ← number 0 most64 word
  Ok (record { place = place; owner = None })
origin_by word (Some parts) = do
  place ← number 0 most64 parts.0
  owner ← number 0 most64 parts.1
  Ok (record { place = place; owner = Some owner })

abbrev pub origin : List ℕ → Result Origin LineFault
origin word = origin_by word (split_once 64 word)
