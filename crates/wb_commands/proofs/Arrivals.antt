-- What an arrive line says.
use Rattle.std.proofs.Common.{◌≡◌, ◌≤◌, ℕ, List, true, false, Result, Ok, Err, refl, ap, ◌∙◌, arith, Some, IfErr}
use Rattle.std.specs.Result.{result_ok}
use Rattle.hex.specs.Hex.{decode_of}
use Rattle.wb_codec.specs.Reading.{reading}
use Rattle.wb_codec.specs.Grammar.{Spells}
use Rattle.wb_codec.proofs.GrammarLaws.{reading_again}
use Rattle.wb_codec.specs.declared.datagram.Datagram.{Datagram}
use Rattle.wb_codec.specs.declared.fault.ReadFault.{ReadFault}
use Rattle.wb_words.specs.declared.digits_fault.DigitsFault.TheVariants as digit_faults
use Rattle.wb_commands.specs.declared.fault.LineFault.TheVariants as faults
use Rattle.wb_commands.specs.Faults.{line_code}
use Rattle.wb_lines.specs.Words.{is_hex}
use Rattle.wb_lines.proofs.HexWords.{unhex-not_hex, unhex-hex}
use Rattle.wb_commands.specs.Parsing.{one_of, datagram, read_or_fault}

pub datagram-not_hex : (ws : List (List ℕ)) (digits : List ℕ) → one_of ws ≡ Some digits → is_hex digits ≡ false → datagram ws ≡ Err (faults.Digits digit_faults.Hex)
unfolding datagram
datagram-not_hex ws digits e no_hex = rw (e, unhex-not_hex digits no_hex) refl

late : (r : Result Datagram ReadFault) → IfErr (read_or_fault r) (λ e. 5 ≤ line_code e)
late (Ok v) = tt
late (Err e) = omega arith

pub datagram-late : (ws : List (List ℕ)) (digits : List ℕ) → one_of ws ≡ Some digits → is_hex digits ≡ true → IfErr (datagram ws) (λ e. 5 ≤ line_code e)
unfolding datagram
datagram-late ws digits e hex = let d = unhex-hex digits hex in rw (e, d.1) (late (reading d.0))

-- what a reading of the bytes tells of the line
pub datagram-read : (ws : List (List ℕ)) (digits bytes : List ℕ) → one_of ws ≡ Some digits → decode_of digits ≡ Ok bytes → datagram ws ≡ read_or_fault (reading bytes)
unfolding datagram
datagram-read ws digits bytes e d = rw (e, ap result_ok d) refl

pub datagram-spelled : (ws : List (List ℕ)) (digits bytes : List ℕ) (v : Datagram) → one_of ws ≡ Some digits → decode_of digits ≡ Ok bytes → Spells bytes v → datagram ws ≡ Ok v
datagram-spelled ws digits bytes v e d s = datagram-read ws digits bytes e d ∙ ap read_or_fault (ap reading s.1 ∙ reading_again v s.0)
