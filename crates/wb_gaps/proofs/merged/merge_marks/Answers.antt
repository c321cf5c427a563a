use Rattle.std.proofs.Common.{arith, subst, sym}
use Rattle.wb_names.specs.Ascending.{AreMarks}
use Rattle.wb_gaps.proofs.JoinedMarks.{joined_marks, is_merge}
use Rattle.wb_gaps.proofs.merged.merge_marks.Goals as goal

pub from_ascending-requires : goal.from_ascending-requires
from_ascending-requires c =
    joined_marks _ _ _ _ _ c.as_slice-first.ensures.entries c.as_slice-second.ensures.entries c.as_slice-first.ensures.lawful c.as_slice-second.ensures.lawful c.in-Ok.ensures (omega (arith, c.count_sources-count.ensures))

pub returns-clause-merge : goal.returns-clause-merge
returns-clause-merge c =
    let lawful = joined_marks _ _ _ _ _ c.as_slice-first.ensures.entries c.as_slice-second.ensures.entries c.as_slice-first.ensures.lawful c.as_slice-second.ensures.lawful c.in-Ok.ensures (omega (arith, c.count_sources-count.ensures)) in
    is_merge _ _ _ _ _ _ c.as_slice-first.ensures.entries c.as_slice-second.ensures.entries c.as_slice-first.ensures.lawful c.as_slice-second.ensures.lawful c.in-Ok.ensures c.from_ascending.ensures (subst AreMarks (sym c.from_ascending.ensures) lawful)
