use Rattle.std.proofs.Common.{◌≡◌, refl}
use Rattle.wb_codec.specs.Checked.{marks_in, echoes_in}
use Rattle.wb_codec.proofs.reading.datagram_from.Goals as goal

pub returns-in_ok-echoes-in-Session-clause-datagram : goal.returns-in_ok-echoes-in-Session-clause-datagram
returns-in_ok-echoes-in-Session-clause-datagram c =
    let marks : c.in_ok-marks-in-Session.marks ≡ marks_in c.in-Session.marks.count c.in-Session.marks.bytes.now = c.in_ok-marks-in-Session.ensures in
    let echoes : c.in_ok-echoes-in-Session.echoes ≡ echoes_in c.in-Session.echoes.count c.in-Session.echoes.bytes.now = c.in_ok-echoes-in-Session.ensures in
    rw (marks, echoes, c.in-Session.is) refl

pub returns-in_ok-marks-in-PageState-clause-datagram : goal.returns-in_ok-marks-in-PageState-clause-datagram
returns-in_ok-marks-in-PageState-clause-datagram c =
    let marks : c.in_ok-marks-in-PageState.marks ≡ marks_in c.in-PageState.marks.count c.in-PageState.marks.bytes.now = c.in_ok-marks-in-PageState.ensures in
    rw (marks, c.in-PageState.is) refl
