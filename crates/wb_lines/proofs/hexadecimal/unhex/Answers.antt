use Rattle.std.proofs.Common.{◌≡◌, ◌<◌, ◌+◌, ◌*◌, ◌%◌, length, Ok, List, ℕ, true, sym, ap, ◌∙◌, arith}
use Rattle.std.specs.List.{list_all}
use Rattle.hex.specs.Hex.{is_hex_digit}
use Rattle.wb_lines.proofs.DigitPairs.{pair_read, digits_read, all_read, is_hex-even, decodes}
use Rattle.wb_lines.proofs.hexadecimal.unhex.Goals as goal
use Rattle.wb_lines.proofs.hexadecimal.unhex.Goals.{then-are_digits, else-are_digits}

pub loop-i-preserved : goal.loop-i-preserved
loop-i-preserved c =
    let word = c.args.word.now in
    let i = c.loop-i.i in
    let lt : 2 * i + 1 < length word = omega arith in
    record {
      len = omega (arith, c.push_reserved.ensures.len, c.loop-i.invariant.len);
      room = omega (arith, c.push_reserved.ensures.capacity, c.loop-i.invariant.room);
      written = rw (c.push_reserved.ensures.items, c.digit_value.ensures.value, c.digit_value-in-loop-i.ensures.value) (pair_read word c.loop-i.bytes.items i lt c.loop-i.invariant.written);
      digits = rw (c.is_hex_digit.ensures, c.is_hex_digit-in-loop-i.ensures) (digits_read word c.loop-i.are_digits (list_all is_hex_digit word) i lt c.loop-i.invariant.digits);
    }

pub returns-clause-bytes : goal.returns-clause-bytes
returns-clause-bytes c =
    let word = c.args.word.now in
    let even : length word % 2 ≡ 0 = omega arith in
    let read = all_read word c.loop-i.bytes.items c.loop-i.are_digits c.loop-i.i even c.loop-i-test.false c.loop-i.invariant.written c.loop-i.invariant.digits in
    elim c.if-are_digits.branch [
      | then-are_digits w ↦
          let all : list_all is_hex_digit word ≡ true = sym read.digits ∙ w.if-are_digits.true in
          rw w.result-is (is_hex-even word even ∙ all, decodes word even all ∙ ap (λ (bytes : List ℕ). Ok bytes) (sym read.bytes))
      | else-are_digits w ↦ rw w.result-is (is_hex-even word even ∙ sym read.digits ∙ w.if-are_digits.false)
    ]
