use Rattle.std.proofs.Common.{[], sym, append-nil}
use Rattle.wb_dialog.specs.Kinds.{block_of, response_to}
use Rattle.wb_dialog.proofs.Closings.{Blocks-closed, Blocks-refused}
use Rattle.wb_dialog.proofs.Fronts.{begins_empty}
use Rattle.wb_dialog.proofs.dialog.Dialog.answer.Goals as goal

pub returns-in-Ok-clause-text : goal.returns-in-Ok-clause-text
returns-in-Ok-clause-text c =
    let printed = c.print_block.ensures in (
      printed.0,
      printed.1,
      λ s at. Blocks-closed c.act.new.self.host printed.0 c.print_block.result s c.in-Ok.told c.next_due.result (response_to c.args.self.now.tuning s c.args.content.now) (c.in-Ok.ensures.does s at) c.next_due.ensures printed.2,
    )

pub returns-in-Err-Refused-clause-text : goal.returns-in-Err-Refused-clause-text
returns-in-Err-Refused-clause-text c =
    let did = rw c.in-Err-Refused.field-0-is at c.in-Err-Refused.ensures.does in
    let refused = c.refuse.ensures.text in (
      refused.0,
      refused.1,
      λ s at. Blocks-refused s c.act.new.self.host c.refuse.new.self.host refused.0 c.in-Err-Refused.refusal c.refuse.result (response_to c.args.self.now.tuning s c.args.content.now) (did s at) (λ now. refused.2 s now),
    )

pub returns-in-Err-Memory-clause-text : goal.returns-in-Err-Memory-clause-text
returns-in-Err-Memory-clause-text c = ([], sym (append-nil c.args.output.now), λ s at. begins_empty (block_of (response_to c.args.self.now.tuning s c.args.content.now)))
