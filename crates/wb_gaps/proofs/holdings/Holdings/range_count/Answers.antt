use Rattle.std.proofs.Common.{◌∙◌, ap, length, sym}
use Rattle.std.proofs.lemmas.List.{length-map}
use Rattle.wb_gaps.specs.Starts.{range_of}
use Rattle.wb_gaps.proofs.holdings.Holdings.range_count.Goals as goal

pub returns : goal.returns
returns c = c.len.ensures.len ∙ sym (length-map c.self.inside.ranges.entries range_of) ∙ ap length c.self.view_is
