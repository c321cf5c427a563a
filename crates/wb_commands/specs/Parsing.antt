-- What a line of a script says, or its first fault.
use Rattle.std.specs.Prelude.{◌≡◌, ◌≤◌, IfErr, MatchResult, ℕ, ◌-◌, ◌^◌, List, [], ◌∷◌, Bool, false, nat_eq, Option, Some, None, Result, Ok, Err, if◌then◌else◌, codes, bytes_eq}
use Rattle.wb_names.specs.declared.moment.TheConstants.{MAX_MOMENT}
use Rattle.wb_names.specs.declared.name.PageId.{PageId}
use Rattle.wb_codec.specs.Reading.{reading}
use Rattle.wb_codec.specs.declared.datagram.Datagram.{Datagram}
use Rattle.wb_codec.specs.declared.datagram.Datagram.TheVariants as datagrams
use Rattle.wb_codec.specs.declared.fault.ReadFault.{ReadFault}
use Rattle.wb_words.specs.Reading.{begins_datagram, reading as reading_words}
use Rattle.wb_words.specs.declared.digits_fault.DigitsFault.TheVariants as digit_faults
use Rattle.wb_words.specs.declared.fault.WrongWord.{WrongWord}
use Rattle.wb_commands.specs.declared.fault.LineFault.{LineFault}
use Rattle.wb_commands.specs.declared.fault.LineFault.TheVariants as faults
use Rattle.wb_commands.specs.declared.fault.Untaken.{Untaken}
use Rattle.wb_commands.specs.declared.fault.Untaken.TheVariants as untaken
use Rattle.wb_display.specs.declared.canvas.TheConstants.Canvas.{MAX_WIDTH, MAX_HEIGHT}
use Rattle.wb_recovery.specs.declared.fault.TheConstants.{MAX_DELAY}
use Rattle.wb_recovery.specs.declared.tuning.TheConstants.{MAX_CONSTANT}
use Rattle.wb_board.specs.Counts.{IsCellCount, MAX_CELLS}
use Rattle.wb_board.specs.declared.board.TheConstants.{MAX_WORKERS}
use Rattle.wb_commands.specs.Faults.{line_code}
use Rattle.wb_commands.specs.declared.command.Command.{Command}
use Rattle.wb_commands.specs.declared.command.Command.TheVariants.{Skip, Board, Arrive, Call as Calls, Question}
use Rattle.wb_member.specs.Calls.{IsWithin as IsCallWithin}
use Rattle.wb_member.specs.declared.calls.Call.TheVariants.{Hear, SetDelay, Tune, Tick, Look, Session}
use Rattle.wb_member.specs.Questions.{IsAnswerable}
use Rattle.wb_member.specs.declared.questions.Query.{Query}
use Rattle.wb_member.specs.declared.questions.Query.TheVariants.{Canvas, Gaps, Report, Pages, Digest}
use Rattle.wb_lines.specs.Words.{words, number_of, unhex}

infixl 10 ◌>>=◌
abbrev pub ◌>>=◌ : {A B : Type 0} → Result A LineFault → (A → Result B LineFault) → Result B LineFault
(Ok x) >>= f = f x
(Err e) >>= f = Err e

abbrev pub or_fault : {A : Type 0} → LineFault → Option A → Result A LineFault
or_fault e (Some x) = Ok x
or_fault e None = Err e

-- a number of a range
abbrev pub number : ℕ → ℕ → List ℕ → Result ℕ LineFault
number low high word = or_fault faults.Number (number_of low high word)

-- no words, the only word, the only two, and the only four
abbrev pub none_of : List (List ℕ) → Option (Unit {0})
none_of [] = Some tt
none_of (a ∷ more) = None

abbrev pub one_of : List (List ℕ) → Option (List ℕ)
one_of (a ∷ []) = Some a
one_of ws = None

abbrev pub two_of : List (List ℕ) → Option (List ℕ × List ℕ)
two_of (a ∷ b ∷ []) = Some (a, b)
two_of ws = None

abbrev pub four_of : List (List ℕ) → Option (List ℕ × List ℕ × List ℕ × List ℕ)
four_of (a ∷ b ∷ c ∷ d ∷ []) = Some (a, b, c, d)
four_of ws = None

-- the member, the cells, the workers and the seed of a board
unfoldable pub board : List (List ℕ) → Result Command LineFault
board arguments = do
  words' ← or_fault faults.Words (four_of arguments)
  member ← number 0 (2 ^ 32 - 1) words'.0
  cells ← number 1 MAX_CELLS words'.1
  workers ← number 1 MAX_WORKERS words'.2
  seed ← number 0 (2 ^ 64 - 1) words'.3
  Ok (Board member cells workers seed)

-- the page, the width and the height of a canvas
unfoldable pub show : List (List ℕ) → Result Query LineFault
show arguments = do
  words' ← or_fault faults.Words (four_of arguments)
  creator ← number 0 (2 ^ 32 - 1) words'.0
  number' ← number 0 (2 ^ 32 - 1) words'.1
  width ← number 1 MAX_WIDTH words'.2
  height ← number 1 MAX_HEIGHT words'.3
  Ok (Canvas (record { creator = creator; number = number' }) width height)

-- a source, and a delay in microseconds
unfoldable pub distance_set : List (List ℕ) → Result Command LineFault
distance_set arguments = do
  words' ← or_fault faults.Words (two_of arguments)
  source ← number 0 (2 ^ 32 - 1) words'.0
  micros ← number 0 MAX_DELAY words'.1
  Ok (Calls (SetDelay source micros))

-- four constants
unfoldable pub tuning : List (List ℕ) → Result Command LineFault
tuning arguments = do
  words' ← or_fault faults.Words (four_of arguments)
  c1 ← number 1 MAX_CONSTANT words'.0
  c2 ← number 1 MAX_CONSTANT words'.1
  d1 ← number 1 MAX_CONSTANT words'.2
  d2 ← number 1 MAX_CONSTANT words'.3
  Ok (Calls (Tune (record { c1 = c1; c2 = c2; d1 = d1; d2 = d2 })))

-- a moment in microseconds
unfoldable pub tick : List (List ℕ) → Result Command LineFault
tick arguments = do
  word ← or_fault faults.Words (one_of arguments)
  moment ← number 0 MAX_MOMENT word
  Ok (Calls (Tick moment))

-- a page, by its creator and its number
unfoldable pub page : List (List ℕ) → Result PageId LineFault
page arguments = do
  words' ← or_fault faults.Words (two_of arguments)
  creator ← number 0 (2 ^ 32 - 1) words'.0
  number' ← number 0 (2 ^ 32 - 1) words'.1
  Ok (record { creator = creator; number = number' })

abbrev pub pages : List (List ℕ) → Result Query LineFault
pages arguments = or_fault faults.Words (none_of arguments) >>= λ nothing. Ok Pages

-- the question with this first word
unfoldable pub script_question : List ℕ → List (List ℕ) → Result Query LineFault
script_question word arguments =
    if bytes_eq word (codes "show") then show arguments
    else (if bytes_eq word (codes "gaps") then page arguments >>= (λ p. Ok (Gaps p))
    else (if bytes_eq word (codes "report") then page arguments >>= (λ p. Ok (Report p))
    else (if bytes_eq word (codes "pages") then pages arguments
    else (if bytes_eq word (codes "digest") then page arguments >>= (λ p. Ok (Digest p))
    else Err faults.Unknown))))

-- the datagram that bytes spell
abbrev pub read_or_fault : Result Datagram ReadFault → Result Datagram LineFault
read_or_fault (Ok v) = Ok v
read_or_fault (Err e) = Err (faults.Digits (digit_faults.Datagram e))

-- the datagram that digits spell
unfoldable pub datagram : List (List ℕ) → Result Datagram LineFault
datagram arguments = do
  digits ← or_fault faults.Words (one_of arguments)
  bytes ← or_fault (faults.Digits digit_faults.Hex) (unhex digits)
  read_or_fault (reading bytes)

-- drawops arrive, and every other datagram is heard
abbrev pub arrived_line : Datagram → Result Command LineFault
arrived_line (datagrams.Draw d) = Ok (Arrive d)
arrived_line v = Err (faults.Digits digit_faults.Kind)

abbrev pub heard_line : Datagram → Result Command LineFault
heard_line (datagrams.Draw d) = Err (faults.Digits digit_faults.Kind)
heard_line v = Ok (Calls (Hear v))

-- If a line does not say which it is to be, a drawop arrives, and every other datagram is heard.
abbrev pub handed_in : Datagram → Command
handed_in (datagrams.Draw d) = Arrive d
handed_in v = Calls (Hear v)

abbrev pub arrive : List (List ℕ) → Result Command LineFault
arrive arguments = datagram arguments >>= arrived_line

abbrev pub hear : List (List ℕ) → Result Command LineFault
hear arguments = datagram arguments >>= heard_line

abbrev pub bytes_line : List (List ℕ) → Result Command LineFault
bytes_line arguments = datagram arguments >>= λ v. Ok (handed_in v)

-- the line of a page with this first word, or a question
unfoldable pub line_of_page : List ℕ → List (List ℕ) → Result Command LineFault
line_of_page word arguments =
    if bytes_eq word (codes "look") then page arguments >>= (λ p. Ok (Calls (Look p)))
    else (if bytes_eq word (codes "session") then page arguments >>= (λ p. Ok (Calls (Session p)))
    else script_question word arguments >>= (λ query. Ok (Question query)))

-- the line with this first word and these further ones
unfoldable pub script_command : List ℕ → List (List ℕ) → Result Command LineFault
script_command word arguments =
    if bytes_eq word (codes "board") then board arguments
    else (if bytes_eq word (codes "arrive") then arrive arguments
    else (if bytes_eq word (codes "hear") then hear arguments
    else (if bytes_eq word (codes "datagram") then bytes_line arguments
    else (if bytes_eq word (codes "distance") then distance_set arguments
    else (if bytes_eq word (codes "tuning") then tuning arguments
    else (if bytes_eq word (codes "tick") then tick arguments
    else line_of_page word arguments))))))

-- a comment begins with `#`
abbrev pub begins_comment : List ℕ → Bool
begins_comment [] = false
begins_comment (b ∷ bs) = nat_eq b 35

abbrev pub script_line_of_words : List (List ℕ) → Result Command LineFault
script_line_of_words [] = Ok Skip
script_line_of_words (word ∷ arguments) = if begins_comment word then Ok Skip else script_command word arguments

-- a datagram in words
abbrev pub script_in_words : Result Datagram WrongWord → Result Command LineFault
script_in_words (Ok v) = Ok (handed_in v)
script_in_words (Err wrong) = Err (faults.Word wrong)

-- The line, which stands without its end. One whose first word tells the kind of a datagram is a datagram in words.
abbrev pub script_line_of : List ℕ → Result Command LineFault
script_line_of bytes = if begins_datagram bytes then script_in_words (reading_words bytes) else script_line_of_words (words bytes)

-- What a line carries is in its range: the cells of a board, the size of a canvas, and the numbers of a call.
abbrev pub IsScriptWithin : Command → Type 0
IsScriptWithin (Board member cells workers seed) = IsCellCount cells
IsScriptWithin (Question query) = IsAnswerable query
IsScriptWithin (Calls call) = IsCallWithin call
IsScriptWithin line = Unit {0}

-- A line that carries a datagram, for which memory is taken.
abbrev pub CarriesDatagram : Command → Type 0
CarriesDatagram (Arrive d) = Unit {0}
CarriesDatagram (Calls (Hear v)) = Unit {0}
CarriesDatagram line = ⊥

-- What parsing answers to the words of a line: what they say, or the first fault; or an allocation failed, once the digits have been looked at.
abbrev pub Parses : {X : Type 0} → Result X Untaken → Result X LineFault → Type 0
Parses (Ok line) said = said ≡ Ok line
Parses (Err (untaken.Line e)) said = said ≡ Err e
Parses (Err untaken.Memory) said = IfErr said (λ e. 5 ≤ line_code e)

-- What parsing answers to a line. Memory runs out only for one that carries a datagram, or whose fault comes after its digits.
abbrev pub ParsesLine : Result Command Untaken → Result Command LineFault → Type 0
ParsesLine (Ok line) said = said ≡ Ok line
ParsesLine (Err (untaken.Line e)) said = said ≡ Err e
ParsesLine (Err untaken.Memory) said = MatchResult said CarriesDatagram (λ e. 5 ≤ line_code e)
