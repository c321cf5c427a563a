use Rattle.std.proofs.Common.{◌∙◌}
use Rattle.wb_codec.proofs.RowLaws.{row_op_back, row_name_back, row_back}
use Rattle.wb_codec.proofs.row.drawop_in.Goals as goal

pub returns-in_err-shape : goal.returns-in_err-shape
returns-in_err-shape c = λ d h e. let op = row_op_back d c.args.words.now _ _ h e c.text_bytes-bytes.ensures c.in_err-shape.ensures in absurd cc

pub returns : goal.returns
returns c = λ d h e.
    let op = row_op_back d c.args.words.now _ _ h e c.text_bytes-bytes.ensures c.in_ok-shape.ensures in
    let name = row_name_back d c.args.words.now _ _ _ _ _ _ h e c.halves-source.ensures.high c.halves-source.ensures.low c.halves-creator.ensures.high c.halves-creator.ensures.low c.new.ensures c.in_ok-name.ensures.value in
    c.ok-2.ensures.value ∙ row_back d c.args.words.now _ _ _ h e name op c.new-2.ensures.drawop
