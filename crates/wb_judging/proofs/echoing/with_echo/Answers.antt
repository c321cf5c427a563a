use Rattle.std.proofs.Common.{◌<◌, ap, arith, length, subst, sym}
use Rattle.wb_names.specs.Ascending.{AreEchoes}
use Rattle.wb_names.specs.declared.entries.TheConstants.{MAX_ENTRIES}
use Rattle.wb_judging.proofs.Placed.{lawful_placed}
use Rattle.wb_judging.proofs.echoing.with_echo.Goals as goal

pub from_ascending-requires : goal.from_ascending-requires
from_ascending-requires c =
    let e = c.in-Some.echo in
    let es = c.as_slice-2.result.now in
    let same = c.in_ok-all.ensures in
    let one = ap length c.as_slice.ensures.entries in
    let other = ap length c.as_slice-2.ensures.entries in
    let room : length es < MAX_ENTRIES = omega (arith, c.if-as_slice-ge-MAX_LEN.false, one, other) in
    subst AreEchoes (sym same) (lawful_placed e es (subst AreEchoes (sym c.as_slice-2.ensures.entries) c.as_slice-2.ensures.lawful) room)
