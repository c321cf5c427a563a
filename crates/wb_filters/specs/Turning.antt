-- What becomes of one line, which stands without its end.
use Rattle.std.specs.Prelude.{◌≡◌, ℕ, Bool, true, false, List, ◌++◌, Option, Some, None, Result, Ok, Err, nat_eq, codes, is_some, if◌then◌else◌, bytes_eq}
use Rattle.hex.specs.Hex.{encode_lower}
use Rattle.wb_codec.specs.declared.datagram.Datagram.{Datagram}
use Rattle.wb_codec.specs.declared.datagram.Datagram.TheVariants.{Draw}
use Rattle.wb_codec.specs.declared.fault.ReadFault.{ReadFault}
use Rattle.wb_codec.specs.Spelling.{spelling}
use Rattle.wb_codec.specs.Reading.{reading}
use Rattle.wb_words.specs.declared.fault.WrongWord.{WrongWord}
use Rattle.wb_words.specs.Words.{split_once}
use Rattle.wb_words.specs.Spelling.{spelled}
use Rattle.wb_words.specs.Reading.{reading as reading_words}
use Rattle.wb_words.specs.declared.digits_fault.DigitsFault.TheVariants as digit_faults
use Rattle.wb_lines.specs.Words.{unhex}
use Rattle.wb_filters.specs.declared.carrier.Carrier.{Carrier}
use Rattle.wb_filters.specs.declared.carrier.Carrier.TheVariants.{Arrive, Hear, Send}
use Rattle.wb_filters.specs.declared.fault.LineFault.{LineFault}
use Rattle.wb_filters.specs.declared.fault.LineFault.TheVariants as faults
use Rattle.wb_filters.specs.declared.fault.TurnFault.{TurnFault}
use Rattle.wb_filters.specs.declared.fault.TurnFault.TheVariants as turn_faults

-- ---- lines that carry bytes in hexadecimal

abbrev pub carrier_of : List ℕ → Option Carrier
carrier_of word =
    if bytes_eq word (codes "arrive") then Some Arrive
    else (if bytes_eq word (codes "hear") then Some Hear
    else (if bytes_eq word (codes "send") then Some Send
    else None))

-- a drawop that comes in arrives, and every other datagram is heard
abbrev pub carrier_for : Datagram → Carrier
carrier_for (Draw d) = Arrive
carrier_for v = Hear

abbrev pub front : Carrier → List ℕ
front Arrive = codes "arrive "
front Hear = codes "hear "
front Send = codes "send "

abbrev pub is_draw : Datagram → Bool
is_draw (Draw d) = true
is_draw v = false

-- drawops alone arrive, what is heard is none, and each datagram may be sent
abbrev pub may_carry : Carrier → Datagram → Bool
may_carry Arrive v = is_draw v
may_carry Hear v = if is_draw v then false else true
may_carry Send v = true

-- the line that carries a datagram
abbrev pub digits_line : Carrier → Datagram → List ℕ
digits_line carrier v = front carrier ++ encode_lower (spelling v)

-- ---- lines in words

-- the words of a datagram, after `send` if it is sent
abbrev pub carried_words : Carrier → Datagram → List ℕ
carried_words Send v = codes "send " ++ spelled v
carried_words carrier v = spelled v

-- ---- from words to digits

-- what follows the word `send`
abbrev pub sent_part : Option (List ℕ × List ℕ) → Option (List ℕ)
sent_part None = None
sent_part (Some parts) = if bytes_eq parts.0 (codes "send") then Some parts.1 else None

-- a line whose first word is no kind of datagram is none in words, and stays
abbrev pub unless_other : List ℕ → WrongWord → Result (List ℕ) LineFault
unless_other line wrong = if nat_eq wrong.place 1 then Ok line else Err (faults.Word wrong)

abbrev pub hexed_in : List ℕ → Result Datagram WrongWord → Result (List ℕ) LineFault
hexed_in line (Ok v) = Ok (digits_line (carrier_for v) v)
hexed_in line (Err wrong) = unless_other line wrong

abbrev pub hexed_sent : List ℕ → Result Datagram WrongWord → Result (List ℕ) LineFault
hexed_sent line (Ok v) = Ok (digits_line Send v)
hexed_sent line (Err wrong) = unless_other line wrong

abbrev pub hexed_by : List ℕ → Option (List ℕ) → Result (List ℕ) LineFault
hexed_by line None = hexed_in line (reading_words line)
hexed_by line (Some rest) = hexed_sent line (reading_words rest)

-- the line with the bytes of the datagram that a line says, or its first word that is wrong; a line that says none stays
abbrev pub hexed : List ℕ → Result (List ℕ) LineFault
hexed line = hexed_by line (sent_part (split_once 32 line))

-- ---- from digits to words

-- what the bytes say
abbrev pub worded_as : Carrier → Result Datagram ReadFault → Result (List ℕ) LineFault
worded_as carrier (Ok v) = if may_carry carrier v then Ok (carried_words carrier v) else Err (faults.Digits digit_faults.Kind)
worded_as carrier (Err e) = Err (faults.Digits (digit_faults.Datagram e))

-- One word that is no even number of digits is wrong. A line of more words carries nothing, and stays.
abbrev pub without_digits : List ℕ → List ℕ → Result (List ℕ) LineFault
without_digits line rest = if is_some (split_once 32 rest) then Ok line else Err (faults.Digits digit_faults.Hex)

abbrev pub worded_digits : List ℕ → List ℕ → Carrier → Option (List ℕ) → Result (List ℕ) LineFault
worded_digits line rest carrier None = without_digits line rest
worded_digits line rest carrier (Some bytes) = worded_as carrier (reading bytes)

abbrev pub worded_by : List ℕ → List ℕ → Option Carrier → Result (List ℕ) LineFault
worded_by line rest None = Ok line
worded_by line rest (Some carrier) = worded_digits line rest carrier (unhex rest)

abbrev pub worded_at : List ℕ → Option (List ℕ × List ℕ) → Result (List ℕ) LineFault
worded_at line None = Ok line
worded_at line (Some parts) = worded_by line parts.1 (carrier_of parts.0)

-- the words of the datagram that a line carries, or what is wrong with its digits or bytes; a line that carries none stays
abbrev pub worded : List ℕ → Result (List ℕ) LineFault
worded line = worded_at line (split_once 32 line)

-- ---- what the code answers

-- The answer of the code is this one, or memory ran out.
abbrev pub MayTurn : {X : Type 0} → (X → List ℕ) → Result X TurnFault → Result (List ℕ) LineFault → Type 0
MayTurn view (Ok x) turned = turned ≡ Ok (view x)
MayTurn view (Err (turn_faults.Line e)) turned = turned ≡ Err e
MayTurn view (Err turn_faults.Memory) turned = Unit {0}
