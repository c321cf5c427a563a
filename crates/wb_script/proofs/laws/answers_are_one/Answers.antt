use Rattle.wb_gaps.proofs.MissingRanges.{only_gaps}
use Rattle.wb_gaps.proofs.PageAnswers.{only_report, only_pages}
use Rattle.wb_member.proofs.Queries.{only_view}
use Rattle.wb_script.proofs.laws.answers_are_one.Goals as goal

pub returns : goal.returns
returns c = record { view = only_view; gaps = only_gaps; report = only_report; pages = only_pages }
