use Rattle.std.proofs.Common.{sym}
use Rattle.wb_filters.proofs.Telling.{no_digits}
use Rattle.wb_filters.proofs.wording.words_line.Goals as goal

pub returns-in-None : goal.returns-in-None
returns-in-None c =
    let parts = rw c.in-Some.is at c.split_once.ensures in
    let named = rw c.in-Some-carrier_of.is at c.carrier_of.ensures in
    let no_hex = rw c.in-None.is at c.in_ok-bytes.ensures.bytes in
    rw (no_digits c.args.line.now c.in-Some.word.now c.in-Some.rest.now c.in-Some-carrier_of.carrier (sym parts) (sym named) no_hex) c.without_digits.ensures
