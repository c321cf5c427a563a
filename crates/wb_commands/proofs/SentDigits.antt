-- The digits of a datagram are one word, which is read as that datagram.
use Rattle.std.proofs.Common.{◌≡◌, ℕ, zero, suc, ◌/◌, ◌%◌, Bool, true, false, cond, List, [], ◌∷◌, ◌++◌, Some, Ok, refl, sym, ap, ◌∙◌, append_assoc, length, arith, nat_eq, slice_index, codes, append-nil}
use Rattle.std.specs.Result.{result_ok}
use Rattle.std.specs.Int.{w32, to_be_bytes}
use Rattle.std.proofs.lemmas.Bool.Decides.{nat_tests}
use Rattle.hex.specs.Hex.{encode_with, lower_digits}
use Rattle.hex.proofs.HexLemmas.{decode_of-encode_lower, length-encode_with}
use Rattle.wb_codec.specs.declared.datagram.Datagram.{Datagram}
use Rattle.wb_codec.specs.declared.datagram.Datagram.TheVariants.{Draw, Session, Request, AskPages, PageState}
use Rattle.wb_codec.specs.Ranges.{IsDatagram}
use Rattle.wb_codec.specs.Spelling.{body, kind_code, version_of, version_code, spelling}
use Rattle.wb_codec.proofs.GrammarLaws.{reading_again}
use Rattle.wb_lines.specs.Words.{words, words_after, unhex}
use Rattle.wb_words.specs.Reading.{is_kind, first_is_kind, begins_datagram}
use Rattle.wb_words.specs.Spelling.{word_list, spelled}
use Rattle.wb_words.proofs.SpellingLaws.{words_spelled, read_again}
use Rattle.wb_commands.specs.Parsing.{datagram, script_command, script_line_of_words, script_line_of, arrived_line, heard_line, handed_in}
use Rattle.wb_commands.specs.SentLines.{digits_of, SentIsTaken}
use Rattle.wb_codec.proofs.SpelledBytes.{spelled_bytes}

-- no byte of a table is a space
abbrev no_space : List ℕ → Bool
no_space [] = true
no_space (c ∷ t) = cond (nat_eq c 32) false (no_space t)

both : (a b : Bool) → cond a false b ≡ true → (a ≡ false) × (b ≡ true)
both true b h = absurd cc
both false b h = (refl, h)

no_space_at : (t : List ℕ) → no_space t ≡ true → (k : ℕ) → nat_eq (slice_index t k) 32 ≡ false
no_space_at [] h k = refl
no_space_at (c ∷ t) h zero = (both (nat_eq c 32) (no_space t) h).0
no_space_at (c ∷ t) h (suc k) = no_space_at t (both (nat_eq c 32) (no_space t) h).1 k

no_digit : (k : ℕ) → nat_eq (slice_index lower_digits k) 32 ≡ false
no_digit k = no_space_at lower_digits refl k

longer : (begun : List ℕ) (a b : ℕ) (rest : List ℕ) → ((begun ++ a ∷ []) ++ b ∷ []) ++ rest ≡ begun ++ a ∷ b ∷ rest
longer begun a b rest = append_assoc (begun ++ a ∷ []) (b ∷ []) rest ∙ append_assoc begun (a ∷ []) (b ∷ rest)

-- digits go on with the word
go_on : (begun bytes : List ℕ) → words_after begun (encode_with lower_digits bytes) ≡ words_after (begun ++ encode_with lower_digits bytes) []
unfolding encode_with
go_on begun [] = ap (λ (t : List ℕ). words_after t []) (sym (append-nil begun))
go_on begun (b ∷ rest) =
    let high = slice_index lower_digits (b / 16) in
    let low = slice_index lower_digits (b % 16) in
    rw (no_digit (b / 16), no_digit (b % 16))
    (go_on ((begun ++ high ∷ []) ++ low ∷ []) rest ∙ ap (λ (t : List ℕ). words_after t []) (longer begun high low (encode_with lower_digits rest)))

-- of a byte or more they are one word
is_word : (b : ℕ) (rest : List ℕ) → words (encode_with lower_digits (b ∷ rest)) ≡ encode_with lower_digits (b ∷ rest) ∷ []
unfolding encode_with
is_word b rest =
    let long : nat_eq (length (encode_with lower_digits (b ∷ rest))) 0 ≡ false = grind (arith, nat_tests, length-encode_with lower_digits (b ∷ rest)) in
    go_on [] (b ∷ rest) ∙ rw long refl

pub one_word : (v : Datagram) → words (digits_of v) ≡ digits_of v ∷ []
one_word v = is_word 0x57 (0x42 ∷ version_code (version_of v) ∷ kind_code v ∷ to_be_bytes w32 (length (body v)) ++ body v)

-- their bytes
bytes_read : (v : Datagram) → IsDatagram v → unhex (digits_of v) ≡ Some (spelling v)
bytes_read v fits = ap result_ok (decode_of-encode_lower (spelling v) (spelled_bytes v fits))

pub datagram_read : (v : Datagram) → IsDatagram v → datagram (digits_of v ∷ []) ≡ Ok v
unfolding datagram
datagram_read v fits = rw (bytes_read v fits, reading_again v fits) refl

as_arrival : (v : Datagram) → IsDatagram v → script_command (codes "arrive") (digits_of v ∷ []) ≡ arrived_line v
unfolding script_command
as_arrival v fits = rw (datagram_read v fits) refl

as_heard : (v : Datagram) → IsDatagram v → script_command (codes "hear") (digits_of v ∷ []) ≡ heard_line v
unfolding script_command
as_heard v fits = rw (datagram_read v fits) refl

as_bytes : (v : Datagram) → IsDatagram v → script_command (codes "datagram") (digits_of v ∷ []) ≡ Ok (handed_in v)
unfolding script_command
as_bytes v fits = rw (datagram_read v fits) refl

-- ---- a datagram in words, and other lines

opens : (v : Datagram) → first_is_kind (word_list v) ≡ true
unfolding is_kind
opens (Draw d) = refl
opens (Session sender sent page marks echoes) = refl
opens (Request asker name) = refl
opens (AskPages asker) = refl
opens (PageState sender page marks) = refl

as_words : (v : Datagram) → IsDatagram v → script_line_of (spelled v) ≡ Ok (handed_in v)
as_words v fits =
    let begins : begins_datagram (spelled v) ≡ true = ap first_is_kind (words_spelled v fits) ∙ opens v in
    rw (begins, read_again (spelled v) v (fits, refl)) refl

record AreOther (rest : List ℕ) : Type 0 where
  pub arrive : begins_datagram (codes "arrive " ++ rest) ≡ false
  pub hear : begins_datagram (codes "hear " ++ rest) ≡ false
  pub bytes : begins_datagram (codes "datagram " ++ rest) ≡ false

no_kind_first : (word : List ℕ) (ws : List (List ℕ)) → is_kind word ≡ false → first_is_kind (word ∷ ws) ≡ false
no_kind_first word [] other = refl
no_kind_first word (next ∷ ws) other = other

others : (rest : List ℕ) → AreOther rest
unfolding is_kind
others rest = record {
  arrive = no_kind_first (codes "arrive") _ refl;
  hear = no_kind_first (codes "hear") _ refl;
  bytes = no_kind_first (codes "datagram") _ refl;
}

-- a line that does not begin like a datagram is read by its words
told : (line : List ℕ) (ws : List (List ℕ)) → begins_datagram line ≡ false → words line ≡ ws → script_line_of line ≡ script_line_of_words ws
told line ws other e = rw other (ap script_line_of_words e)

pub taken : SentIsTaken
taken v fits =
    let rest = digits_of v in
    let one = one_word v in record {
      arrives = told (codes "arrive " ++ rest) (codes "arrive" ∷ rest ∷ []) (others rest).arrive (ap (λ (ws : List (List ℕ)). codes "arrive" ∷ ws) one) ∙ as_arrival v fits;
      hears = told (codes "hear " ++ rest) (codes "hear" ∷ rest ∷ []) (others rest).hear (ap (λ (ws : List (List ℕ)). codes "hear" ∷ ws) one) ∙ as_heard v fits;
      by_bytes = told (codes "datagram " ++ rest) (codes "datagram" ∷ rest ∷ []) (others rest).bytes (ap (λ (ws : List (List ℕ)). codes "datagram" ∷ ws) one) ∙ as_bytes v fits;
      by_words = as_words v fits;
    }
