use Rattle.wb_display.proofs.Pages.{stands_alone}
use Rattle.wb_display.proofs.laws.page_stands_alone.Goals as goal

pub returns : goal.returns
returns c = stands_alone
