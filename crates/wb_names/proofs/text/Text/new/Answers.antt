use Rattle.std.proofs.Common.{length}
use Rattle.std.proofs.lemmas.List.{drop-replicate}
use Rattle.wb_names.proofs.Buffers.{text_in_front}
use Rattle.wb_names.proofs.text.Text.new.Goals as goal

-- src/text.rt:31:5
pub invariant_of-result : goal.invariant_of-result
invariant_of-result c = rw c.copy_from_slice.ensures.after (text_in_front _ _ c.requires (drop-replicate (length c.args.bytes.now) 64 0))
