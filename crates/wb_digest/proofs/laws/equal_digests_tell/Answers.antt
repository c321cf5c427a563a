use Rattle.wb_digest.proofs.Telling.{tell_pages}
use Rattle.wb_digest.proofs.laws.equal_digests_tell.Goals as goal

pub returns : goal.returns
returns c = tell_pages c.reading_undoes_spelling.ensures.reads c.only_whole_datagrams_are_read.ensures.short c.reading_undoes_spelling.ensures.one c.page_stands_alone.ensures c.order_is_free.ensures _ _ c.drawops_are_in_range.ensures c.drawops_are_in_range-2.ensures
