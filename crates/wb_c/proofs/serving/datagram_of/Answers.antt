use Rattle.std.proofs.Common.{sym, ap, ◌∙◌}
use Rattle.wb_codec.specs.Reading.{reading}
use Rattle.wb_codec.proofs.GrammarLaws.{reading_again}
use Rattle.wb_c.specs.Serving.{read_by}
use Rattle.wb_c.proofs.serving.datagram_of.Goals as goal

pub returns-in-Ok : goal.returns-in-Ok
returns-in-Ok c =
    let spells = c.in-Ok.ensures.found in
    sym (ap read_by (ap reading spells.1 ∙ reading_again c.in-Ok.datagram spells.0))
