-- The text of a wrong word, and of wrong digits.
use Rattle.std.specs.Prelude.{ℕ, List, ◌++◌, codes, decimal}
use Rattle.wb_names.specs.FaultTexts.{field_text}
use Rattle.wb_codec.specs.Fault.{read_code}
use Rattle.wb_words.specs.declared.digits_fault.DigitsFault.{DigitsFault}
use Rattle.wb_words.specs.declared.digits_fault.DigitsFault.TheVariants as digit_faults
use Rattle.wb_words.specs.declared.fault.WordFault.{WordFault}
use Rattle.wb_words.specs.declared.fault.WordFault.TheVariants as words
use Rattle.wb_words.specs.declared.fault.WrongWord.{WrongWord}

abbrev pub word_text : WordFault → List ℕ
word_text words.Missing = codes "missing"
word_text words.Extra = codes "one too many"
word_text words.Unknown = codes "unknown"
word_text words.Operation = codes "operation"
word_text words.Number = codes "number"
word_text words.Page = codes "page"
word_text words.Glyph = codes "glyph"
word_text words.Text = codes "text"
word_text words.Mark = codes "mark"
word_text words.Echo = codes "echo"
word_text words.Order = codes "order"
word_text words.TooMany = codes "too many"
word_text (words.Field fault) = field_text fault

-- `word PLACE: FAULT`
abbrev pub wrong_text : WrongWord → List ℕ
wrong_text wrong = codes "word " ++ (decimal wrong.place ++ (codes ": " ++ word_text wrong.fault))

-- the text of digits that spell no datagram for their line
abbrev pub digits_text : DigitsFault → List ℕ
digits_text digit_faults.Hex = codes "hex"
digits_text (digit_faults.Datagram fault) = codes "datagram " ++ decimal (read_code fault)
digits_text digit_faults.Kind = codes "kind"
