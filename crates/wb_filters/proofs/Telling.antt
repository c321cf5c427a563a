-- What the bytes that a line carries say.
use Rattle.std.proofs.Common.{◌≡◌, ℕ, true, false, List, Ok, Err, Some, refl, ap, ◌∙◌}
use Rattle.wb_codec.specs.declared.datagram.Datagram.{Datagram}
use Rattle.wb_codec.specs.Reading.{reading}
use Rattle.wb_codec.specs.Grammar.{Spells}
use Rattle.wb_codec.proofs.GrammarLaws.{reading_again}
use Rattle.wb_words.specs.Words.{split_once}
use Rattle.wb_words.specs.declared.digits_fault.DigitsFault.TheVariants as digit_faults
use Rattle.wb_lines.specs.Words.{is_hex}
use Rattle.wb_lines.proofs.HexWords.{unhex-not_hex}
use Rattle.wb_filters.specs.declared.carrier.Carrier.{Carrier}
use Rattle.wb_filters.specs.declared.fault.LineFault.TheVariants as faults
use Rattle.wb_filters.specs.Turning.{carrier_of, may_carry, carried_words, worded_as, without_digits, worded}

pub read_so : (bytes : List ℕ) (v : Datagram) → Spells bytes v → reading bytes ≡ Ok v
read_so bytes v s = ap reading s.1 ∙ reading_again v s.0

pub told_kind : (carrier : Carrier) (bytes : List ℕ) (v : Datagram) → Spells bytes v → may_carry carrier v ≡ false → worded_as carrier (reading bytes) ≡ Err (faults.Digits digit_faults.Kind)
told_kind carrier bytes v s e = ap (worded_as carrier) (read_so bytes v s) ∙ rw e refl

pub told_words : (carrier : Carrier) (bytes : List ℕ) (v : Datagram) → Spells bytes v → may_carry carrier v ≡ true → worded_as carrier (reading bytes) ≡ Ok (carried_words carrier v)
told_words carrier bytes v s e = ap (worded_as carrier) (read_so bytes v s) ∙ rw e refl

pub no_digits : (line word rest : List ℕ) (carrier : Carrier) → split_once 32 line ≡ Some (word, rest) → carrier_of word ≡ Some carrier → is_hex rest ≡ false → worded line ≡ without_digits line rest
no_digits line word rest carrier e named no_hex = rw (e, named, unhex-not_hex rest no_hex) refl
