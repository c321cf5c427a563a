use Rattle.std.proofs.Common.{◌++◌, ◌∷◌, [], sym, ap, ◌∙◌}
use Rattle.std.proofs.lemmas.Result.{on_ok_weaker}
use Rattle.wb_names.specs.Kinds.{op_kind}
use Rattle.wb_names.specs.declared.parts.Op.TheVariants.{Text}
use Rattle.wb_words.specs.Spelling.{kind_word, stroke_words, field_words, quoted, tailed}
use Rattle.wb_words.proofs.Appending.{glued, stroke_text, text_text}
use Rattle.wb_words.proofs.writing.put_op.Goals as goal

pub returns-in_ok-push-in-Drawn : goal.returns-in_ok-push-in-Drawn
returns-in_ok-push-in-Drawn c =
    let text = c.as_bytes.ensures.value ∙ c.in_ok-text-in-Drawn.ensures.ok in
    glued c.args.out.now.items c.extend_from_slice.new.self.items c.push.new.self.items _ _ _ c.in_ok-extend_from_slice-in-Drawn.ensures.items c.in_ok-push-in-Drawn.ensures.items (ap (λ t. t ++ c.in-Drawn.stroke.glyph ∷ []) text ∙ stroke_text c.kind_word-word.result.now c.in-Drawn.stroke)
    ∙ ap (λ w. c.args.out.now.items ++ tailed (w ∷ stroke_words c.in-Drawn.stroke)) (c.kind_word-word.ensures ∙ ap kind_word c.kind.ensures)
    ∙ ap (λ op. c.args.out.now.items ++ tailed (kind_word (op_kind c.args.op.now) ∷ field_words op)) (sym c.in-Drawn.is)

pub returns-in_ok-extend_from_slice-in-Text : goal.returns-in_ok-extend_from_slice-in-Text
returns-in_ok-extend_from_slice-in-Text c =
    let front = c.as_bytes-in-Text.ensures.value ∙ c.in_ok-front-in-Text.ensures.ok in
    on_ok_weaker c.put_text.result (λ h.
    glued c.args.out.now.items c.extend_from_slice-in-Text.new.self.items c.put_text.new.out.items _ _ _ c.in_ok-extend_from_slice-in-Text.ensures.items (h ∙ ap (λ t. c.extend_from_slice-in-Text.new.self.items ++ 32 ∷ quoted t) c.as_slice.ensures) (ap (λ t. t ++ 32 ∷ quoted c.in-Text.text) front ∙ text_text c.kind_word-word.result.now c.in-Text.x c.in-Text.y c.in-Text.text)
    ∙ ap (λ w. c.args.out.now.items ++ tailed (w ∷ field_words (Text c.in-Text.x c.in-Text.y c.in-Text.text))) (c.kind_word-word.ensures ∙ ap kind_word c.kind.ensures)
    ∙ ap (λ op. c.args.out.now.items ++ tailed (kind_word (op_kind c.args.op.now) ∷ field_words op)) (sym c.in-Text.is)) c.put_text.ensures
