-- The words of a line, and what numbers and hexadecimal digits stand for.
use Rattle.std.specs.Prelude.{ℕ, ◌+◌, ◌-◌, ◌*◌, ◌/◌, ◌%◌, List, [], ◌∷◌, ◌++◌, length, Bool, nat_eq, nat_le, ◌&&◌, Option, Some, None, if◌then◌else◌}
use Rattle.std.specs.List.{list_all}
use Rattle.std.specs.Result.{result_ok}
use Rattle.hex.specs.Hex.{decode_of, is_hex_digit}

-- the words from here on, of which the first may have begun before
abbrev pub words_after : List ℕ → List ℕ → List (List ℕ)
words_after begun [] = if nat_eq (length begun) 0 then [] else begun ∷ []
words_after begun (b ∷ bs) =
    if nat_eq b 32
    then (if nat_eq (length begun) 0 then words_after [] bs else begun ∷ words_after [] bs)
    else words_after (begun ++ b ∷ []) bs

-- the runs of bytes other than space
abbrev pub words : List ℕ → List (List ℕ)
words line = words_after [] line

abbrev pub is_digit : ℕ → Bool
is_digit b = nat_le 48 b && nat_le b 57

-- the number whose first digits stand for a number that is known, if it is in range
abbrev pub number_from : ℕ → ℕ → ℕ → List ℕ → Option ℕ
number_from low high begun [] = if nat_le low begun && nat_le begun high then Some begun else None
number_from low high begun (b ∷ bs) = if is_digit b then number_from low high (10 * begun + (b - 48)) bs else None

-- the number that a word of decimal digits stands for, if it is in range
abbrev pub number_of : ℕ → ℕ → List ℕ → Option ℕ
number_of low high word = if nat_eq (length word) 0 then None else number_from low high 0 word

-- an even number of hexadecimal digits, of either case
abbrev pub is_hex : List ℕ → Bool
is_hex word = nat_eq (length word % 2) 0 && list_all is_hex_digit word

-- the value of a hexadecimal digit: the last four bits, and nine more for a letter; of another byte a number below 16
abbrev pub digit_of : ℕ → ℕ
digit_of c = (c % 16 + 9 * (c / 64)) % 16

-- the bytes that an even number of hexadecimal digits stand for
abbrev pub unhex : List ℕ → Option (List ℕ)
unhex word = result_ok (decode_of word)
