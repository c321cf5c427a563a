use Rattle.std.proofs.Common.{◌≡◌, ◌*◌, ◌≤◌, ◌++◌, drop, ◌&&◌, vec_len, vec_capacity}
use Rattle.std.specs.List.{list_all}
use Rattle.hex.specs.Hex.{is_hex_digit}
use Rattle.wb_lines.proofs.DigitPairs.{bytes_of}
use Rattle.wb_lines.proofs.hexadecimal.unhex.Given as goal

abbrev pub invariant-loop-i : goal.invariant-loop-i
invariant-loop-i l = record {
  len : vec_len l.bytes ≡ l.i;
  room : l.count ≤ vec_capacity l.bytes;
  written : l.bytes.items ++ bytes_of (drop (2 * l.i) l.word) ≡ bytes_of l.word;
  digits : (l.are_digits && list_all is_hex_digit (drop (2 * l.i) l.word)) ≡ list_all is_hex_digit l.word;
}
