-- Which words stand for bytes.
use Rattle.std.proofs.Common.{◌≡◌, ℕ, ◌%◌, List, true, false, Ok, Err, refl, ap, sym, ◌∙◌, arith, length, Some, None, nat_eq, true≢false}
use Rattle.std.specs.List.{list_all}
use Rattle.std.specs.Result.{result_ok}
use Rattle.std.proofs.lemmas.Bool.Decides.{nat_tests}
use Rattle.std.proofs.lemmas.Bool.{and_parts}
use Rattle.std.proofs.lemmas.List.Sums.{AllPass-from_list_all, list_all-from_AllPass}
use Rattle.hex.specs.Hex.{decode_of, is_hex_digit}
use Rattle.hex.proofs.HexLemmas.{decode_of-ok, decode_of-digits}
use Rattle.wb_lines.specs.Words.{is_hex, unhex}

-- the digits are as many as they should be, and each is one
is_hex-from : (word : List ℕ) → length word % 2 ≡ 0 → list_all is_hex_digit word ≡ true → is_hex word ≡ true
is_hex-from word even all = let test : nat_eq (length word % 2) 0 ≡ true = grind (arith, nat_tests) in rw (test, all) refl

pub unhex-not_hex : (word : List ℕ) → is_hex word ≡ false → unhex word ≡ None
unhex-not_hex word no_hex =
    elim (decode_of word) as (λ r. decode_of word ≡ r → result_ok r ≡ None) [
      | Ok bytes ↦ λ e. let ok = decode_of-ok word bytes e in absurd (true≢false (sym (is_hex-from word ok.0 (list_all-from_AllPass is_hex_digit word ok.1)) ∙ no_hex))
      | Err f ↦ λ e. refl
    ] refl

pub unhex-hex : (word : List ℕ) → is_hex word ≡ true → (bytes : List ℕ) × (unhex word ≡ Some bytes)
unhex-hex word hex =
    let h = and_parts (nat_eq (length word % 2) 0) (list_all is_hex_digit word) hex in
    let even : length word % 2 ≡ 0 = grind (arith, nat_tests, h.0) in
    let d = decode_of-digits word even (AllPass-from_list_all is_hex_digit word h.1) in
    (d.0, ap result_ok d.1)
