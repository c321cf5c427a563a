-- How many marks a merge has. Its look-ups say it, even if there would be too many for a list of marks.
use Rattle.std.proofs.Common.{◌≡◌, length, ap, ◌∙◌, sym}
use Rattle.wb_gaps.specs.Laws.{MergesAllSources}
use Rattle.wb_names.proofs.MarkLists.{same_marks}
use Rattle.wb_gaps.specs.Joining.{joined}
use Rattle.wb_gaps.proofs.JoinedMarks.{joins}

pub merges_all_sources : MergesAllSources
merges_all_sources a b marks la lb m =
    let j = joins a la.ascending la.positive b lb.ascending in
    let same : marks ≡ joined a b = same_marks marks (joined a b) m.0.ascending j.rises m.0.positive (j.positive la.positive lb.positive) (λ s. m.1 s ∙ sym (j.highs s)) in
    ap length same ∙ j.count
