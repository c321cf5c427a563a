-- Each byte of a line in words, and of one in digits, is a space or above it.
use Rattle.std.proofs.Common.{◌≡◌, ◌≢◌, ℕ, suc, ◌<◌, ◌≤◌, ◌%◌, ◌/◌, Some, List, [], ◌∷◌, refl, arith, slice_index, codes}
use Rattle.std.proofs.lemmas.Bool.Decides.{nat_tests}
use Rattle.hex.specs.Hex.{IsBytes, hex_digit_value, lower_digits, encode_with, encode_lower}
use Rattle.hex.proofs.HexLemmas.{IsDigits-lower_digits}
use Rattle.wb_codec.specs.declared.datagram.Datagram.{Datagram}
use Rattle.wb_codec.specs.declared.datagram.Datagram.TheVariants.{Draw}
use Rattle.wb_codec.specs.Ranges.{IsDatagram}
use Rattle.wb_codec.specs.Spelling.{spelling}
use Rattle.wb_words.specs.Spelling.{spelled}
use Rattle.wb_lines.specs.Ahead.{NoLineFeed}
use Rattle.wb_filters.specs.declared.carrier.Carrier.{Carrier}
use Rattle.wb_filters.specs.declared.carrier.Carrier.TheVariants.{Arrive, Hear, Send}
use Rattle.wb_filters.specs.Turning.{front, digits_line, carried_words}
use Rattle.wb_codec.proofs.SpelledBytes.{spelled_bytes}
use Rattle.wb_words.proofs.Visible.{AllSeen, Visible, cat, text_of, spelled_visible}

seen_free : (bytes : List ℕ) → AllSeen bytes → NoLineFeed bytes
seen_free [] p = tt
seen_free (b ∷ bytes) p = (omega (arith, p.0), seen_free bytes p.1)

pub no_feed : (bytes : List ℕ) → Visible bytes → NoLineFeed bytes
no_feed bytes p = seen_free bytes p.each

-- ---- digits

digit_seen : (c d : ℕ) → hex_digit_value c ≡ Some d → 32 ≤ c
digit_seen c d e = grind (arith, nat_tests)

encoded : (bytes : List ℕ) → IsBytes bytes → AllSeen (encode_with lower_digits bytes)
unfolding encode_with
encoded [] h = tt
encoded (b ∷ bytes) h =
    let fits : b < 256 = h 0 in
    let high : b / 16 < 16 = omega arith in
    let low : b % 16 < 16 = omega arith in
    (digit_seen (slice_index lower_digits (b / 16)) (b / 16) (IsDigits-lower_digits (b / 16) high), (digit_seen (slice_index lower_digits (b % 16)) (b % 16) (IsDigits-lower_digits (b % 16) low), encoded bytes (λ i. h (suc i))))

pub digits_visible : (carrier : Carrier) (v : Datagram) → IsDatagram v → Visible (digits_line carrier v)
digits_visible carrier v fits = cat (front carrier) (encode_lower (spelling v)) (front_visible carrier) (record { each = encoded (spelling v) (spelled_bytes v fits) }) where
  front_visible : (c : Carrier) → Visible (front c)
  front_visible Arrive = text_of (codes "arrive ") refl
  front_visible Hear = text_of (codes "hear ") refl
  front_visible Send = text_of (codes "send ") refl

pub digits_some : (carrier : Carrier) (v : Datagram) → digits_line carrier v ≢ []
digits_some Arrive v = λ h. absurd cc
digits_some carrier v = λ h. absurd cc

pub words_visible : (carrier : Carrier) (v : Datagram) → IsDatagram v → Visible (carried_words carrier v)
words_visible Send v fits = cat (codes "send ") (spelled v) (text_of (codes "send ") refl) (spelled_visible v fits)
words_visible carrier v fits = spelled_visible v fits

spelled_some : (v : Datagram) → spelled v ≢ []
spelled_some (Draw d) = λ h. absurd cc
spelled_some v = λ h. absurd cc

pub words_some : (carrier : Carrier) (v : Datagram) → carried_words carrier v ≢ []
words_some Send v = λ h. absurd cc
words_some carrier v = spelled_some v
