-- What a line of a script carries is in range.
use Rattle.std.proofs.Common.{◌≡◌, ◌<◌, ◌≤◌, ◌-◌, ◌*◌, ◌+◌, ◌^◌, ℕ, Bool, true, false, List, [], ◌∷◌, length, Option, Some, None, Result, Ok, Err, refl, ap, ◌∙◌, arith, leb-true}
use Rattle.std.specs.Prelude.{◌&&◌, IfSome, IfOk, nat_eq, nat_le, codes, if◌then◌else◌}
use Rattle.std.specs.Result.{result_ok}
use Rattle.std.specs.Str.{bytes_eq}
use Rattle.hex.specs.Hex.{decode_of, IsBytes}
use Rattle.hex.specs.declared.error.FromHexError.{FromHexError}
use Rattle.hex.proofs.HexLemmas.{decode_of-ok}
use Rattle.wb_names.proofs.Orders.{and_both}
use Rattle.wb_codec.specs.Ranges.{IsDatagram}
use Rattle.wb_codec.specs.Reading.{reading}
use Rattle.wb_codec.specs.Spelling.{spelling}
use Rattle.wb_codec.specs.declared.datagram.Datagram.{Datagram}
use Rattle.wb_codec.specs.declared.datagram.Datagram.TheVariants as datagrams
use Rattle.wb_codec.specs.declared.fault.ReadFault.{ReadFault}
use Rattle.wb_codec.proofs.GrammarLaws.{reading_takes}
use Rattle.wb_words.specs.Reading.{begins_datagram, reading as reading_words}
use Rattle.wb_words.specs.declared.fault.WrongWord.{WrongWord}
use Rattle.wb_words.specs.declared.digits_fault.DigitsFault.TheVariants as digit_faults
use Rattle.wb_lines.specs.Words.{words, is_digit, number_from, number_of, unhex}
use Rattle.wb_member.specs.declared.calls.Call.TheVariants as calls
use Rattle.wb_commands.specs.Parsing.{◌>>=◌, or_fault, number, one_of, two_of, four_of, board, distance_set, tuning, tick, page, script_question, read_or_fault, datagram, arrived_line, heard_line, arrive, hear, handed_in, bytes_line, line_of_page, script_command, begins_comment, script_line_of_words, script_in_words, script_line_of}
use Rattle.wb_commands.specs.declared.fault.LineFault.{LineFault}
use Rattle.wb_commands.specs.declared.fault.LineFault.TheVariants as faults
use Rattle.wb_commands.specs.declared.command.Command.{Command}
use Rattle.wb_commands.specs.declared.command.Command.TheVariants as lines
use Rattle.wb_board.specs.Counts.{MAX_CELLS}

-- ---- steps

-- What is read has a property, where a step before it has one.
pub bound : {A B : Type 0} (P : A → Type 0) (Q : B → Type 0) (r : Result A LineFault) (f : A → Result B LineFault) → IfOk r P → ((x : A) → P x → IfOk (f x) Q) → IfOk (r >>= f) Q
bound P Q (Ok x) f p q = q x p
bound P Q (Err e) f p q = tt

-- the same, whatever the step before it
pub behind : {A B : Type 0} (Q : B → Type 0) (r : Result A LineFault) (f : A → Result B LineFault) → ((x : A) → IfOk (f x) Q) → IfOk (r >>= f) Q
behind Q (Ok x) f q = q x
behind Q (Err e) f q = tt

pub either : {A : Type 0} (P : A → Type 0) (b : Bool) (x y : Result A LineFault) → IfOk x P → IfOk y P → IfOk (if b then x else y) P
either P true x y p q = p
either P false x y p q = q

-- ---- numbers

abbrev pub IsWithin : ℕ → ℕ → ℕ → Type 0
IsWithin low high n = (low ≤ n) × (n ≤ high)

number_after_fits : (low high begun : ℕ) (word : List ℕ) → IfSome (number_from low high begun word) (IsWithin low high)
number_after_fits low high begun [] = from (nat_le low begun && nat_le begun high) refl where
  from : (b : Bool) → (nat_le low begun && nat_le begun high) ≡ b → IfSome (if b then Some begun else None) (IsWithin low high)
  from true e = let both = and_both (nat_le low begun) (nat_le begun high) e in (leb-true low begun both.0, leb-true begun high both.1)
  from false e = tt
number_after_fits low high begun (b ∷ bs) = from (number_after_fits low high (10 * begun + (b - 48)) bs) (is_digit b) where
  from : IfSome (number_from low high (10 * begun + (b - 48)) bs) (IsWithin low high) → (digit : Bool) → IfSome (if digit then number_from low high (10 * begun + (b - 48)) bs else None) (IsWithin low high)
  from rest true = rest
  from rest false = tt

number_of_fits : (low high : ℕ) (word : List ℕ) → IfSome (number_of low high word) (IsWithin low high)
number_of_fits low high word = from (nat_eq (length word) 0) where
  from : (empty : Bool) → IfSome (if empty then None else number_from low high 0 word) (IsWithin low high)
  from true = tt
  from false = number_after_fits low high 0 word

or_fault_fits : {A : Type 0} (P : A → Type 0) (e : LineFault) (o : Option A) → IfSome o P → IfOk (or_fault e o) P
or_fault_fits P e (Some x) p = p
or_fault_fits P e None p = tt

pub number_fits : (low high : ℕ) (word : List ℕ) → IfOk (number low high word) (IsWithin low high)
number_fits low high word = or_fault_fits (IsWithin low high) faults.Number (number_of low high word) (number_of_fits low high word)

-- ---- datagrams

decoded : (r : Result (List ℕ) FromHexError) → ((bytes : List ℕ) → r ≡ Ok bytes → IsBytes bytes) → IfSome (result_ok r) IsBytes
decoded (Ok bytes) fit = fit bytes refl
decoded (Err e) fit = tt

unhex_fits : (digits : List ℕ) → IfSome (unhex digits) IsBytes
unhex_fits digits = decoded (decode_of digits) (λ bytes e. (decode_of-ok digits bytes e).3)

spelled_fits : (bytes : List ℕ) → IsBytes bytes → (r : Result Datagram ReadFault) → reading bytes ≡ r → IfOk (read_or_fault r) IsDatagram
spelled_fits bytes fit (Ok v) e = (reading_takes bytes v fit e).1
spelled_fits bytes fit (Err f) e = tt

pub datagram_fits : (arguments : List (List ℕ)) → IfOk (datagram arguments) IsDatagram
unfolding datagram
datagram_fits arguments = behind IsDatagram (or_fault faults.Words (one_of arguments)) _ (λ digits.
    bound IsBytes IsDatagram (or_fault (faults.Digits digit_faults.Hex) (unhex digits)) _ (or_fault_fits IsBytes (faults.Digits digit_faults.Hex) (unhex digits) (unhex_fits digits)) (λ bytes fit.
    spelled_fits bytes fit (reading bytes) refl))

-- the only argument is the digits of its bytes
abbrev pub IsDigitsOf : List (List ℕ) → Datagram → Type 0
IsDigitsOf arguments v = (digits : List ℕ) × (arguments ≡ digits ∷ []) × (unhex digits ≡ Some (spelling v))

only : (arguments : List (List ℕ)) → IfSome (one_of arguments) (λ digits. arguments ≡ digits ∷ [])
only [] = tt
only (a ∷ []) = refl
only (a ∷ b ∷ more) = tt

read_is : (o : Option (List ℕ)) → IfSome o IsBytes → IfSome o (λ bytes. IsBytes bytes × (o ≡ Some bytes))
read_is (Some bytes) fit = (fit, refl)
read_is None fit = tt

spelled_is : (bytes : List ℕ) → IsBytes bytes → (r : Result Datagram ReadFault) → reading bytes ≡ r → IfOk (read_or_fault r) (λ v. bytes ≡ spelling v)
spelled_is bytes fit (Ok v) e = (reading_takes bytes v fit e).0
spelled_is bytes fit (Err f) e = tt

weaker : {A : Type 0} (P Q : A → Type 0) (r : Result A LineFault) → IfOk r P → ((x : A) → P x → Q x) → IfOk r Q
weaker P Q (Ok x) p f = f x p
weaker P Q (Err e) p f = tt

pub datagram_digits : (arguments : List (List ℕ)) → IfOk (datagram arguments) (IsDigitsOf arguments)
unfolding datagram
datagram_digits arguments =
    let IsOnly : List ℕ → Type 0 = λ digits. arguments ≡ digits ∷ [] in
    bound IsOnly (IsDigitsOf arguments) (or_fault faults.Words (one_of arguments)) _ (or_fault_fits IsOnly faults.Words (one_of arguments) (only arguments)) (λ digits are.
    let IsRead : List ℕ → Type 0 = λ bytes. IsBytes bytes × (unhex digits ≡ Some bytes) in
    bound IsRead (IsDigitsOf arguments) (or_fault (faults.Digits digit_faults.Hex) (unhex digits)) _ (or_fault_fits IsRead (faults.Digits digit_faults.Hex) (unhex digits) (read_is (unhex digits) (unhex_fits digits))) (λ bytes read.
    weaker (λ v. bytes ≡ spelling v) (IsDigitsOf arguments) (read_or_fault (reading bytes)) (spelled_is bytes read.0 (reading bytes) refl) (λ v e. (digits, are, read.1 ∙ ap (λ (b : List ℕ). Some b) e))))

-- ---- lines

-- A datagram that a line of a script carries has a property, and a board that it opens is in range.
abbrev pub Carries : (Datagram → Type 0) → Command → Type 0
Carries P (lines.Board member cells workers seed) = (member < 2 ^ 32) × (cells ≤ MAX_CELLS)
Carries P (lines.Arrive d) = P (datagrams.Draw d)
Carries P (lines.Call (calls.Hear v)) = P v
Carries P line = Unit {0}

-- what it carries is in range
abbrev pub Fits : Command → Type 0
Fits line = Carries IsDatagram line

-- What is asked of the datagram that a line says in words, or behind its first word.
pub record Asks (P : Datagram → Type 0) (line : List ℕ) : Type 0 where
  pub in_words : IfOk (reading_words line) P
  pub in_bytes : (word : List ℕ) (arguments : List (List ℕ)) → words line ≡ word ∷ arguments → IfOk (datagram arguments) P

module _ (P : Datagram → Type 0) where
  abbrev Has : Command → Type 0
  Has line = Carries P line

  board_fits : (arguments : List (List ℕ)) → IfOk (board arguments) Has
  unfolding board
  board_fits arguments = behind Has (or_fault faults.Words (four_of arguments)) _ (λ ws.
      bound (IsWithin 0 (2 ^ 32 - 1)) Has (number 0 (2 ^ 32 - 1) ws.0) _ (number_fits 0 (2 ^ 32 - 1) ws.0) (λ member m.
      bound (IsWithin 1 MAX_CELLS) Has (number 1 MAX_CELLS ws.1) _ (number_fits 1 MAX_CELLS ws.1) (λ cells c.
      behind Has (number 1 8 ws.2) _ (λ workers.
      behind Has (number 0 (2 ^ 64 - 1) ws.3) _ (λ seed.
      let a = m.1 in (omega arith, c.1))))))

  tick_fits : (arguments : List (List ℕ)) → IfOk (tick arguments) Has
  unfolding tick
  tick_fits arguments = behind Has (or_fault faults.Words (one_of arguments)) _ (λ word. behind Has (number 0 (2 ^ 48 - 1) word) _ (λ moment. tt))

  distance_fits : (arguments : List (List ℕ)) → IfOk (distance_set arguments) Has
  unfolding distance_set
  distance_fits arguments = behind Has (or_fault faults.Words (two_of arguments)) _ (λ ws.
      behind Has (number 0 (2 ^ 32 - 1) ws.0) _ (λ source. behind Has (number 0 (2 ^ 24 - 1) ws.1) _ (λ micros. tt)))

  tuning_fits : (arguments : List (List ℕ)) → IfOk (tuning arguments) Has
  unfolding tuning
  tuning_fits arguments = behind Has (or_fault faults.Words (four_of arguments)) _ (λ ws.
      behind Has (number 1 16 ws.0) _ (λ c1. behind Has (number 1 16 ws.1) _ (λ c2. behind Has (number 1 16 ws.2) _ (λ d1. behind Has (number 1 16 ws.3) _ (λ d2. tt)))))

  arrived_fits : (v : Datagram) → P v → IfOk (arrived_line v) Has
  arrived_fits (datagrams.Draw d) fit = fit
  arrived_fits v fit = tt

  heard_fits : (v : Datagram) → P v → IfOk (heard_line v) Has
  heard_fits (datagrams.Draw d) fit = tt
  heard_fits (datagrams.Session sender sent page marks echoes) fit = fit
  heard_fits (datagrams.Request asker name) fit = fit
  heard_fits (datagrams.AskPages asker) fit = fit
  heard_fits (datagrams.PageState sender page marks) fit = fit

  pub handed_fits : (v : Datagram) → P v → Has (handed_in v)
  handed_fits (datagrams.Draw d) has = has
  handed_fits (datagrams.Session sender sent page marks echoes) has = has
  handed_fits (datagrams.Request asker name) has = has
  handed_fits (datagrams.AskPages asker) has = has
  handed_fits (datagrams.PageState sender page marks) has = has

  arrive_fits : (arguments : List (List ℕ)) → IfOk (datagram arguments) P → IfOk (arrive arguments) Has
  arrive_fits arguments has = bound P Has (datagram arguments) arrived_line has arrived_fits

  hear_fits : (arguments : List (List ℕ)) → IfOk (datagram arguments) P → IfOk (hear arguments) Has
  hear_fits arguments has = bound P Has (datagram arguments) heard_line has heard_fits

  bytes_line_fits : (arguments : List (List ℕ)) → IfOk (datagram arguments) P → IfOk (bytes_line arguments) Has
  bytes_line_fits arguments has = bound P Has (datagram arguments) (λ v. Ok (handed_in v)) has handed_fits

  page_line_fits : (word : List ℕ) (arguments : List (List ℕ)) → IfOk (line_of_page word arguments) Has
  unfolding line_of_page
  page_line_fits word arguments =
      either Has (bytes_eq word (codes "look")) _ _ (behind Has (page arguments) (λ p. Ok (lines.Call (calls.Look p))) (λ p. tt))
      (either Has (bytes_eq word (codes "session")) _ _ (behind Has (page arguments) (λ p. Ok (lines.Call (calls.Session p))) (λ p. tt))
      (behind Has (script_question word arguments) (λ query. Ok (lines.Question query)) (λ query. tt)))

  command_fits : (word : List ℕ) (arguments : List (List ℕ)) → IfOk (datagram arguments) P → IfOk (script_command word arguments) Has
  unfolding script_command
  command_fits word arguments has =
      either Has (bytes_eq word (codes "board")) _ _ (board_fits arguments)
      (either Has (bytes_eq word (codes "arrive")) _ _ (arrive_fits arguments has)
      (either Has (bytes_eq word (codes "hear")) _ _ (hear_fits arguments has)
      (either Has (bytes_eq word (codes "datagram")) _ _ (bytes_line_fits arguments has)
      (either Has (bytes_eq word (codes "distance")) _ _ (distance_fits arguments)
      (either Has (bytes_eq word (codes "tuning")) _ _ (tuning_fits arguments)
      (either Has (bytes_eq word (codes "tick")) _ _ (tick_fits arguments)
      (page_line_fits word arguments)))))))

  -- the words of a line, of which those behind the first may say a datagram
  words_fit : (ws : List (List ℕ)) → ((word : List ℕ) (arguments : List (List ℕ)) → ws ≡ word ∷ arguments → IfOk (datagram arguments) P) → IfOk (script_line_of_words ws) Has
  words_fit [] has = tt
  words_fit (word ∷ arguments) has = either Has (begins_comment word) (Ok lines.Skip) _ tt (command_fits word arguments (has word arguments refl))

  in_words_fit : (r : Result Datagram WrongWord) → IfOk r P → IfOk (script_in_words r) Has
  in_words_fit (Ok v) has = handed_fits v has
  in_words_fit (Err wrong) has = tt

  pub line_fits : (line : List ℕ) → Asks P line → IfOk (script_line_of line) Has
  line_fits line asks = either Has (begins_datagram line) _ _ (in_words_fit (reading_words line) asks.in_words) (words_fit (words line) asks.in_bytes)
