use Rattle.wb_gaps.proofs.MissingRanges.{gaps_of_page}
use Rattle.wb_gaps.proofs.PageAnswers.{report_of_page, pages_of_history}
use Rattle.wb_member.proofs.Queries.{view_of_page}
use Rattle.wb_script.proofs.laws.queries_are_answered.Goals as goal

pub returns : goal.returns
returns c = record { view = view_of_page; gaps = gaps_of_page; report = report_of_page; pages = pages_of_history }
