-- Laws of the two filters.
use Rattle.std.specs.Prelude.{◌≡◌, ◌≢◌, ◌≤◌, ◌⊎◌, ℕ, List, [], ◌∷◌, length, All, codes, Bool, true, false, Ok, Err}
use Rattle.wb_codec.specs.declared.datagram.Datagram.{Datagram}
use Rattle.wb_codec.specs.Ranges.{IsDatagram}
use Rattle.wb_words.specs.Words.{words}
use Rattle.wb_lines.specs.Input.{InputLine, input_lines, content, most_bytes}
use Rattle.wb_filters.specs.declared.carrier.Carrier.{Carrier}
use Rattle.wb_filters.specs.declared.filtering.Direction.{Direction}
use Rattle.wb_filters.specs.declared.filtering.Direction.TheVariants.{Hex, Words}
use Rattle.wb_filters.specs.Turning.{may_carry, digits_line, carried_words, hexed, worded}
use Rattle.wb_lines.specs.declared.fault.DriveFault.TheVariants as faults
use Rattle.wb_lines.specs.Driving.{writes}
use Rattle.wb_filters.specs.declared.fault.LineFault.{LineFault}
use Rattle.wb_filters.specs.declared.filtering.Filter.{Filter}
use Rattle.wb_filters.specs.Filtering.{most_filter_lines, filter_outcome}

-- the words of a datagram that comes in or is sent become the line that carries it
abbrev pub WordsAreTurned : Type 0
WordsAreTurned = (carrier : Carrier) (v : Datagram) → IsDatagram v → may_carry carrier v ≡ true → hexed (carried_words carrier v) ≡ Ok (digits_line carrier v)

-- and that line becomes the words again
abbrev pub DigitsAreTurned : Type 0
DigitsAreTurned = (carrier : Carrier) (v : Datagram) → IsDatagram v → may_carry carrier v ≡ true → worded (digits_line carrier v) ≡ Ok (carried_words carrier v)

-- ---- whole scripts

-- a datagram in words, which comes in or is sent
abbrev pub IsInWords : List ℕ → Type 0
IsInWords line = (carrier : Carrier) × (v : Datagram) × IsDatagram v × (may_carry carrier v ≡ true) × (line ≡ carried_words carrier v)

-- one in digits, in lower case, as `wb` prints it
abbrev pub IsInDigits : List ℕ → Type 0
IsInDigits line = (carrier : Carrier) × (v : Datagram) × IsDatagram v × (may_carry carrier v ≡ true) × (line ≡ digits_line carrier v)

-- no line of a datagram: each filter leaves it as it is
abbrev pub IsOther : List ℕ → Type 0
IsOther line = (hexed line ≡ Ok line) × (worded line ≡ Ok line)

-- the words that begin a line of a datagram, in words or in digits
abbrev pub openers : List (List ℕ)
openers = codes "draw" ∷ codes "session-message" ∷ codes "request" ∷ codes "ask-pages" ∷ codes "page-state" ∷ codes "arrive" ∷ codes "hear" ∷ codes "send" ∷ []

-- A line that begins with another word is not a line of a datagram.
abbrev pub OtherLinesStay : Type 0
OtherLinesStay = (line word : List ℕ) (others : List (List ℕ)) → words line ≡ word ∷ others → All (λ opener. word ≢ opener) openers → IsOther line

-- a script as people write it: each line is a datagram in words, or no line of a datagram
abbrev pub IsWritten : List ℕ → Type 0
IsWritten script = All (λ (line : InputLine). IsInWords (content line) ⊎ IsOther (content line)) (input_lines script)

-- a script as `wb` prints it: each line is a datagram in digits, or no line of a datagram
abbrev pub IsPrinted : List ℕ → Type 0
IsPrinted script = All (λ (line : InputLine). IsInDigits (content line) ⊎ IsOther (content line)) (input_lines script)

-- no more lines, and no longer ones, than a filter takes
abbrev pub IsWithinFilterLimits : List ℕ → Type 0
IsWithinFilterLimits script = (length (input_lines script) ≤ most_filter_lines) × All (λ (line : InputLine). length line.bytes ≤ most_bytes) (input_lines script)

-- A filter comes to the end of a script, and what it writes is this text.
abbrev pub Turns : Direction → Bool → List ℕ → List ℕ → Type 0
Turns direction keeps script text = filter_outcome (record { direction = direction; keeps_going = keeps }) false script ≡ writes text (Ok (length (input_lines script)))

-- `wb words` of `wb hex` of a script in words is the script, byte for byte.
abbrev pub WordsComeBack : Type 0
WordsComeBack = (keeps keeps' : Bool) (script : List ℕ) → IsWritten script → IsWithinFilterLimits script
    → (text : List ℕ) × Turns Hex keeps script text × IsPrinted text × (IsWithinFilterLimits text → Turns Words keeps' text script)

-- `wb hex` of `wb words` of a script as `wb` prints it is the script, byte for byte.
abbrev pub DigitsComeBack : Type 0
DigitsComeBack = (keeps keeps' : Bool) (script : List ℕ) → IsPrinted script → IsWithinFilterLimits script
    → (text : List ℕ) × Turns Words keeps script text × IsWritten text × (IsWithinFilterLimits text → Turns Hex keeps' text script)

-- A filter that keeps going does not end at a line that can't be turned, whatever the input.
abbrev pub NoLineIsRefused : Type 0
NoLineIsRefused = (filter : Filter) (cut : Bool) (input : List ℕ) → filter.keeps_going ≡ true
    → (text : List ℕ) (number : ℕ) (e : LineFault) → filter_outcome filter cut input ≢ writes text (Err (faults.Line number e))
