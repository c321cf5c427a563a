use Rattle.std.proofs.lemmas.Grind.{common_steps}
use Rattle.std.proofs.Common.{◌<◌, ◌+◌, ◌-◌, ◌*◌, get_or, refl, sym, arith}
use Rattle.std.proofs.lemmas.Bool.Decides.{nat_tests}
use Rattle.wb_words.proofs.Numerals.{not_plain, walked_stops, walked_past, walked_all, not_digit, a_digit}
use Rattle.wb_words.proofs.number.number_in.Goals as goal

pub returns-then-not-is_plain-clause-value : goal.returns-then-not-is_plain-clause-value
returns-then-not-is_plain-clause-value c = grind (arith, common_steps, not_plain)

pub returns-then-not-is_ascii_digit-clause-value : goal.returns-then-not-is_ascii_digit-clause-value
returns-then-not-is_ascii_digit-clause-value c =
    sym (walked_stops c.args.most c.args.word.now c.loop-byte.byte-index c.loop-byte.value _ (omega arith) c.loop-byte.invariant.0 c.loop-byte-test.true refl (not_digit _ _ c.is_ascii_digit.ensures.value c.if-not-is_ascii_digit.true))

pub returns-in_err-checked_mul-clause-value : goal.returns-in_err-checked_mul-clause-value
returns-in_err-checked_mul-clause-value c =
    let b = get_or c.args.word.now c.loop-byte.byte-index 0 in
    let digit = a_digit b _ c.is_ascii_digit.ensures.value c.if-not-is_ascii_digit.false in
    let large : c.args.most < c.loop-byte.value * 10 + (b - 48) = omega (arith, c.in_err-checked_mul.ensures) in
    rw c.from_residual.ensures (sym (walked_past c.args.most c.args.word.now c.loop-byte.byte-index c.loop-byte.value b (omega arith) c.loop-byte.invariant.0 c.loop-byte-test.true refl digit.0 digit.1 large))

pub returns-in_err-value-clause-value : goal.returns-in_err-value-clause-value
returns-in_err-value-clause-value c =
    let b = get_or c.args.word.now c.loop-byte.byte-index 0 in
    let digit = a_digit b _ c.is_ascii_digit.ensures.value c.if-not-is_ascii_digit.false in
    let large : c.args.most < c.loop-byte.value * 10 + (b - 48) = omega (arith, c.in_err-value.ensures) in
    rw c.from_residual-in_err-value.ensures (sym (walked_past c.args.most c.args.word.now c.loop-byte.byte-index c.loop-byte.value b (omega arith) c.loop-byte.invariant.0 c.loop-byte-test.true refl digit.0 digit.1 large))

pub returns-then-value-most-clause-value : goal.returns-then-value-most-clause-value
returns-then-value-most-clause-value c = grind (arith, common_steps, walked_all, nat_tests)

pub returns-else-value-most-clause-value : goal.returns-else-value-most-clause-value
returns-else-value-most-clause-value c = grind (arith, common_steps, walked_all, nat_tests)
