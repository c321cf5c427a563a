-- What is recorded is read as what it was.
use Rattle.std.proofs.Common.{◌≡◌, ℕ, ◌+◌, ◌*◌, ◌-◌, ◌^◌, ◌<◌, ◌≤◌, Bool, true, false, List, [], ◌∷◌, ◌++◌, length, Some, Ok, Err, refl, sym, ap, ◌∙◌, append_assoc, append-nil, arith}
use Rattle.std.specs.Prelude.{All, codes, decimal, nat_eq}
use Rattle.std.specs.Char.{digit_value}
use Rattle.std.specs.Str.Parse.{AllDigits, digits_value, digits_value_after}
use Rattle.std.proofs.lemmas.Bool.Decides.{nat_tests}
use Rattle.std.proofs.lemmas.Fmt.{decimal_is_IsNumeral, decimal_nonempty}
use Rattle.std.proofs.lemmas.List.Elements.{All-append, All-cons, All-head, All-tail}
use Rattle.std.proofs.lemmas.Str.{digit_value_digit}
use Rattle.std.proofs.lemmas.Str.Parse.{digit_from_value}
use Rattle.wb_names.specs.Values.{DrawopValue}
use Rattle.wb_names.specs.declared.moment.TheConstants.{MAX_MOMENT}
use Rattle.wb_codec.specs.Ranges.{IsDrawop}
use Rattle.wb_codec.specs.declared.datagram.Datagram.{Datagram}
use Rattle.wb_codec.specs.declared.datagram.Datagram.TheVariants.{Draw, PageState}
use Rattle.wb_words.specs.Reading.{begins_datagram, first_is_kind, is_kind}
use Rattle.wb_words.specs.Spelling.{spelled}
use Rattle.wb_words.proofs.SpellingLaws.{read_again, words_spelled}
use Rattle.wb_words.proofs.Splitting.{decimal_lacks, split_once_again}
use Rattle.wb_lines.specs.Words.{number_from, number_of, words, words_after}
use Rattle.wb_member.specs.declared.calls.Call.TheVariants.{Tick}
use Rattle.wb_commands.specs.declared.command.Command.{Command}
use Rattle.wb_commands.specs.declared.command.Command.TheVariants as lines
use Rattle.wb_commands.specs.Parsing.{handed_in, line_of_page, script_command, script_line_of, script_question, tick, ◌>>=◌}
use Rattle.wb_commands.specs.declared.fault.LineFault.TheVariants as faults
use Rattle.wb_commands.specs.SentLines.{digits_of}
use Rattle.wb_commands.proofs.SentDigits.{taken}
use Rattle.wb_judging.specs.declared.record.RecordLine.{RecordLine}
use Rattle.wb_judging.specs.declared.record.RecordLine.TheVariants as records
use Rattle.wb_dialog.specs.JudgedLines.{held_by, held_line, own_row}
use Rattle.wb_dialog.specs.Lines.{common_row, row, said_of, unless_script}
use Rattle.wb_dialog.specs.declared.said.Said.TheVariants.{Own}
use Rattle.wb_dialog.specs.RecordLaws.{IsRecord, RecordsAreRead}
use Rattle.wb_dialog.specs.Records.{owner_line, record_of, recorded, said}
use Rattle.wb_dialog.specs.Texts.{record_text}
use Rattle.wb_dialog.specs.Words.{most64, origin, origin_by}

-- ---- a number is read from its digits

digit : (b : ℕ) → digit_value b < 10 → (48 ≤ b) × (b ≤ 57) × (digit_value b + 48 ≡ b)
digit b d = let k = digit_from_value b d in (k.0, k.1, digit_value_digit b k)

number_again : (high begun : ℕ) (ds : List ℕ) → AllDigits 10 ds → digits_value_after 10 begun ds ≤ high → number_from 0 high begun ds ≡ Some (digits_value_after 10 begun ds)
number_again high begun [] d le = grind (arith, nat_tests)
number_again high begun (c ∷ cs) d le =
    let k = digit c d.0 in
    let same : 10 * begun + (c - 48) ≡ begun * 10 + digit_value c = omega (arith, k.2) in
    grind (arith, nat_tests, k.0, k.1, same, number_again high (begun * 10 + digit_value c) cs d.1 le)

value_again : (high n : ℕ) → n ≤ high → n < 2 ^ 64 → number_of 0 high (decimal n) ≡ Some n
value_again high n le small =
    let d = decimal_is_IsNumeral n small in
    let some : nat_eq (length (decimal n)) 0 ≡ false = grind (arith, nat_tests, d.0.0) in
    let value : number_from 0 high 0 (decimal n) ≡ Some (digits_value 10 (decimal n)) = number_again high 0 (decimal n) d.0.1 (omega (arith, le, d.1)) in
    rw some (value ∙ ap Some d.1)

moment_again : (now : ℕ) → now ≤ MAX_MOMENT → number_of 0 MAX_MOMENT (decimal now) ≡ Some now
moment_again now le = value_again MAX_MOMENT now le (omega (arith, le))

-- ---- a run of bytes that are no spaces is one word

abbrev NoSpace : List ℕ → Type 0
NoSpace bytes = All (λ b. nat_eq b 32 ≡ false) bytes

go_on : (begun bytes rest : List ℕ) → NoSpace bytes → words_after begun (bytes ++ rest) ≡ words_after (begun ++ bytes) rest
go_on begun [] rest none = ap (λ (t : List ℕ). words_after t rest) (sym (append-nil begun))
go_on begun (b ∷ bytes) rest none =
    let other : nat_eq b 32 ≡ false = All-head (λ c. nat_eq c 32 ≡ false) b bytes none in
    rw other (go_on (begun ++ b ∷ []) bytes rest (All-tail (λ c. nat_eq c 32 ≡ false) b bytes none) ∙ ap (λ (t : List ℕ). words_after t rest) (append_assoc begun (b ∷ []) bytes))

one_word : (word : List ℕ) → NoSpace word → nat_eq (length word) 0 ≡ false → words word ≡ word ∷ []
one_word word none some = ap (λ (t : List ℕ). words_after [] t) (sym (append-nil word)) ∙ go_on [] word [] none ∙ rw some refl

two_words : (first second : List ℕ) → NoSpace first → nat_eq (length first) 0 ≡ false → NoSpace second → nat_eq (length second) 0 ≡ false
    → words (first ++ (codes " " ++ second)) ≡ first ∷ second ∷ []
two_words first second none some none_there some_there =
    go_on [] first (codes " " ++ second) none ∙ rw some (ap (λ (ws : List (List ℕ)). first ∷ ws) (one_word second none_there some_there))

some_digits : (n : ℕ) → n < 2 ^ 64 → nat_eq (length (decimal n)) 0 ≡ false
some_digits n small = grind (arith, nat_tests, decimal_nonempty n small)

number_is_word : (n : ℕ) → n < 2 ^ 64 → words (decimal n) ≡ decimal n ∷ []
number_is_word n small = one_word (decimal n) (decimal_lacks 32 n (omega arith) small) (some_digits n small)

-- ---- lines that are not a datagram in words, and lines that are

no_kind_first : (word : List ℕ) (ws : List (List ℕ)) → is_kind word ≡ false → first_is_kind (word ∷ ws) ≡ false
no_kind_first word [] other = refl
no_kind_first word (next ∷ ws) other = other

ticks : (rest : List ℕ) → begins_datagram (codes "tick " ++ rest) ≡ false
unfolding is_kind
ticks rest = no_kind_first (codes "tick") _ refl

digits : (rest : List ℕ) → begins_datagram (codes "datagram " ++ rest) ≡ false
unfolding is_kind
digits rest = no_kind_first (codes "datagram") _ refl

draws : (d : DrawopValue) → IsDrawop d → begins_datagram (spelled (Draw d)) ≡ true
unfolding is_kind
draws d fits = ap first_is_kind (words_spelled (Draw d) fits)

-- ---- each line

tick_line : (now : ℕ) → now ≤ MAX_MOMENT → script_line_of (codes "tick " ++ decimal now) ≡ Ok (lines.Call (Tick now))
unfolding script_command tick
tick_line now le = rw (ticks (decimal now), number_is_word now (omega (arith, le)), moment_again now le) refl

origin_again : (place owner : ℕ) → place < 2 ^ 64 → owner < 2 ^ 64 → origin (decimal place ++ (codes "@" ++ decimal owner)) ≡ Ok (record { place = place; owner = Some owner })
unfolding origin_by
origin_again place owner place_small owner_small =
    let parts = split_once_again 64 [] (decimal place) (decimal owner) (decimal_lacks 64 place (omega arith) place_small) in
    rw (parts, value_again most64 place (omega (arith, place_small)) place_small, value_again most64 owner (omega (arith, owner_small)) owner_small) refl

owner_again : (n place owner : ℕ) → n < 2 ^ 32 → place < 2 ^ 64 → owner < 2 ^ 64
    → owner_line (words (decimal n ++ (codes " " ++ (decimal place ++ (codes "@" ++ decimal owner))))) ≡ Ok (records.Owner n place owner)
unfolding owner_line
owner_again n place owner small place_small owner_small =
    let word = decimal place ++ (codes "@" ++ decimal owner) in
    let none : NoSpace word =
    All-append (λ b. nat_eq b 32 ≡ false) (decimal place) (codes "@" ++ decimal owner) (decimal_lacks 32 place (omega arith) place_small)
    (All-cons (λ b. nat_eq b 32 ≡ false) 64 (decimal owner) refl (decimal_lacks 32 owner (omega arith) owner_small)) in
    let some : nat_eq (length word) 0 ≡ false = longer (decimal place) (decimal owner) in
    let both = two_words (decimal n) word (decimal_lacks 32 n (omega arith) (omega (arith, small))) (some_digits n (omega (arith, small))) none some in
    rw (both, value_again (2 ^ 32 - 1) n (omega (arith, small)) (omega (arith, small)), origin_again place owner place_small owner_small) refl where
      longer : (one other : List ℕ) → nat_eq (length (one ++ (codes "@" ++ other))) 0 ≡ false
      longer [] other = grind (arith, nat_tests)
      longer (b ∷ one) other = grind (arith, nat_tests)

recorded_as : (line : List ℕ) (words' : Bool) (command' : Command) → script_line_of line ≡ Ok command' → begins_datagram line ≡ words' → (script_line_of line >>= recorded (begins_datagram line)) ≡ recorded words' command'
recorded_as line words' command' one two = rw (one, two) refl

again : (line : RecordLine) → IsRecord line → record_of (record_text line) ≡ Ok (Some line)
again (records.Tick now) fits = recorded_as (codes "tick " ++ decimal now) false (lines.Call (Tick now)) (tick_line now (omega (arith, fits))) (ticks (decimal now))
again (records.Said d) fits = ap said (read_again (spelled (Draw d)) (Draw d) (fits, refl))
again (records.Known d) fits = recorded_as (codes "datagram " ++ digits_of (Draw d)) false (lines.Arrive d) (taken (Draw d) fits).by_bytes (digits (digits_of (Draw d)))
again (records.Strange d) fits = recorded_as (spelled (Draw d)) true (lines.Arrive d) (taken (Draw d) fits).by_words (draws d fits)
again (records.Mark speaker page mark) fits =
    let v : Datagram = PageState speaker page (mark ∷ []) in
    recorded_as (spelled v) (begins_datagram (spelled v)) (handed_in v) (taken v fits).by_words refl
again (records.Owner n place owner) fits = ap (λ r. r >>= λ owner'. Ok (Some owner')) (owner_again n place owner fits.0 fits.1 fits.2)

-- behind the word `held`, which no script has
no_script : (rest : List ℕ) → script_line_of (codes "held " ++ rest) ≡ Err faults.Unknown
unfolding is_kind line_of_page script_command script_question
no_script rest =
    let other : begins_datagram (codes "held " ++ rest) ≡ false = no_kind_first (codes "held") _ refl in
    rw other refl

held : (rest : List ℕ) → said_of (codes "held " ++ rest) ≡ Own (held_line rest) faults.Unknown
unfolding common_row own_row row
held rest = ap (unless_script (codes "held " ++ rest)) (no_script rest)

pub records_are_read : RecordsAreRead
records_are_read line fits = held (record_text line) ∙ ap (λ r. Own (r >>= λ record'. Ok (held_by record')) faults.Unknown) (again line fits)
