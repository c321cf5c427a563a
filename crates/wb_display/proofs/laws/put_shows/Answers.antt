use Rattle.wb_display.proofs.Putting.{put_shows}
use Rattle.wb_display.proofs.laws.put_shows.Goals as goal

pub returns : goal.returns
returns c = put_shows
