use Rattle.std.proofs.Common.{◌++◌, ◌∷◌, ap, ◌∙◌}
use Rattle.std.specs.Prelude.{codes, decimal}
use Rattle.wb_words.specs.Words.{joined}
use Rattle.wb_words.specs.Spelling.{name_words, op_words, tailed}
use Rattle.wb_words.proofs.Appending.{draw_text}
use Rattle.wb_words.proofs.writing.write_draw.Goals as goal

pub returns : goal.returns
returns c =
    let d = c.args.drawop.now in
    let told = ap (λ v. v.items) c.into_bytes-line.ensures.value ∙ c.in_ok-front.ensures.ok in
    let front = rw (c.source-source.ensures, c.page-creator.ensures, c.seq-seq.ensures.seq, c.time-time.ensures, c.name-name.ensures) at told in
    c.in_ok-put_op.ensures ∙ ap (λ t. t ++ tailed (op_words c.op.result.now)) front ∙ draw_text d.name.source d.name.page.creator d.name.page.number d.name.seq d.time (op_words c.op.result.now) ∙ ap (λ op. joined (codes "draw" ∷ name_words d.name (decimal d.time ∷ op_words op))) c.op.ensures.op
