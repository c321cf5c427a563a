use Rattle.std.proofs.Common.{◌<◌, ◌+◌, ◌-◌, ◌*◌, get_or, sym, ◌∙◌, arith}
use Rattle.wb_lines.proofs.Digits.{overflows}
use Rattle.wb_lines.proofs.numbers.number.Goals as goal

pub returns-in_err-checked_mul-clause-value : goal.returns-in_err-checked_mul-clause-value
returns-in_err-checked_mul-clause-value c =
    let large : c.args.high < 10 * c.loop-byte.value + (get_or c.args.word.now c.loop-byte.byte-index 0 - 48) = omega (arith, c.in_err-checked_mul.ensures) in
    rw c.from_residual.ensures (sym (c.loop-byte.invariant ∙ overflows c.args.low c.args.high c.loop-byte.value c.args.word.now c.loop-byte.byte-index c.loop-byte-test.true large))

pub returns-in_err-value-clause-value : goal.returns-in_err-value-clause-value
returns-in_err-value-clause-value c =
    let large : c.args.high < 10 * c.loop-byte.value + (get_or c.args.word.now c.loop-byte.byte-index 0 - 48) = omega (arith, c.in_err-value.ensures) in
    rw c.from_residual-in_err-value.ensures (sym (c.loop-byte.invariant ∙ overflows c.args.low c.args.high c.loop-byte.value c.args.word.now c.loop-byte.byte-index c.loop-byte-test.true large))
