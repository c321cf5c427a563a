use Rattle.wb_member.proofs.Queries.{view_of_page, only_view}
use Rattle.wb_member.proofs.laws.views_are_one.Goals as goal

pub returns-clause-view : goal.returns-clause-view
returns-clause-view c = view_of_page

pub returns-clause-only : goal.returns-clause-only
returns-clause-only c = only_view
