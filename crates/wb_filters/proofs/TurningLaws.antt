-- Words become digits, and digits words.
use Rattle.std.proofs.Common.{◌≡◌, ℕ, true, List, Some, None, Ok, refl, ap, ◌∙◌}
use Rattle.std.specs.Result.{result_ok}
use Rattle.hex.specs.Hex.{encode_lower}
use Rattle.hex.proofs.HexLemmas.{decode_of-encode_lower}
use Rattle.wb_codec.specs.declared.datagram.Datagram.{Datagram}
use Rattle.wb_codec.specs.declared.datagram.Datagram.TheVariants.{Draw}
use Rattle.wb_codec.specs.Ranges.{IsDatagram}
use Rattle.wb_codec.specs.Spelling.{spelling}
use Rattle.wb_codec.proofs.GrammarLaws.{reading_again}
use Rattle.wb_words.specs.Words.{split_once}
use Rattle.wb_words.specs.Spelling.{spelled}
use Rattle.wb_words.proofs.SpellingLaws.{read_again}
use Rattle.wb_lines.specs.Words.{unhex}
use Rattle.wb_filters.specs.declared.carrier.Carrier.{Carrier}
use Rattle.wb_filters.specs.declared.carrier.Carrier.TheVariants.{Arrive, Hear, Send}
use Rattle.wb_filters.specs.Turning.{may_carry, carrier_for, digits_line, carried_words, sent_part, hexed_in, hexed_sent, hexed_by, hexed, worded_as, worded_digits}
use Rattle.wb_filters.specs.Laws.{WordsAreTurned, DigitsAreTurned}
use Rattle.wb_codec.proofs.SpelledBytes.{spelled_bytes}

-- ---- words to digits

not_sent : (v : Datagram) → sent_part (split_once 32 (spelled v)) ≡ None
not_sent (Draw d) = refl
not_sent v = refl

comes_in : (v : Datagram) → IsDatagram v → hexed (spelled v) ≡ Ok (digits_line (carrier_for v) v)
comes_in v fits = ap (hexed_by (spelled v)) (not_sent v) ∙ ap (hexed_in (spelled v)) (read_again (spelled v) v (fits, refl))

is_sent : (v : Datagram) → IsDatagram v → hexed (carried_words Send v) ≡ Ok (digits_line Send v)
is_sent v fits = ap (hexed_sent (carried_words Send v)) (read_again (spelled v) v (fits, refl))

pub words_are_turned : WordsAreTurned
words_are_turned Arrive (Draw d) fits may_carry = comes_in (Draw d) fits
words_are_turned Arrive v fits may_carry = absurd cc
words_are_turned Hear (Draw d) fits may_carry = absurd cc
words_are_turned Hear v fits may_carry = comes_in v fits
words_are_turned Send v fits may_carry = is_sent v fits

-- ---- digits to words

digits_read : (v : Datagram) → IsDatagram v → unhex (encode_lower (spelling v)) ≡ Some (spelling v)
digits_read v fits = ap result_ok (decode_of-encode_lower (spelling v) (spelled_bytes v fits))

told_again : (carrier : Carrier) (v : Datagram) → IsDatagram v → may_carry carrier v ≡ true → worded_as carrier (Ok v) ≡ Ok (carried_words carrier v)
told_again carrier v fits e = rw e refl

carried : (carrier : Carrier) (v : Datagram) (line : List ℕ) → IsDatagram v → may_carry carrier v ≡ true → worded_digits line (encode_lower (spelling v)) carrier (unhex (encode_lower (spelling v))) ≡ Ok (carried_words carrier v)
carried carrier v line fits e =
    ap (worded_digits line (encode_lower (spelling v)) carrier) (digits_read v fits) ∙ ap (worded_as carrier) (reading_again v fits) ∙ told_again carrier v fits e

pub digits_are_turned : DigitsAreTurned
digits_are_turned Arrive v fits e = carried Arrive v (digits_line Arrive v) fits e
digits_are_turned carrier v fits e = carried carrier v (digits_line carrier v) fits e
