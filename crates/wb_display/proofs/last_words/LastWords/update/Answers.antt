use Rattle.std.proofs.Common.{◌∙◌, ap, sym}
use Rattle.std.specs.Prelude.{Some, cond}
use Rattle.wb_display.specs.LastWord.{aimed_target, later_word}
use Rattle.wb_names.specs.Same.{same_target}
use Rattle.wb_display.specs.LastWords.{word_on}
use Rattle.wb_display.specs.declared.last_words.LastWord.{LastWord}
use Rattle.wb_display.proofs.Deciding.{update_nothing, update_word}
use Rattle.wb_display.proofs.last_words.LastWords.update.Goals as goal

pub returns-in_default-clause-ok : goal.returns-in_default-clause-ok
returns-in_default-clause-ok c history last = update_nothing history _ _ (word_on c.args.self.now) (word_on c.args.self.now) (sym (ap aimed_target c.op.ensures.op) ∙ sym c.aimed_at.ensures ∙ c.in_default.is) last

pub returns-clause-ok : goal.returns-clause-ok
returns-clause-ok c history last =
    update_word history _ c.args.drawop.now (word_on c.args.self.now) (λ l. word_on (record { page = c.args.self.now.page; latest = c.insert.new.self }) l) c.in-Some.target
    (sym c.if-not-is_on_page.ensures)
    (sym (ap aimed_target c.op.ensures.op) ∙ sym c.aimed_at.ensures ∙ c.in-Some.is)
    (λ q. c.in_ok-insert.ensures.updates.0 q ∙ ap (λ (w : LastWord). cond (same_target c.in-Some.target q) (Some w) (word_on c.args.self.now q)) (c.later_word-word.ensures ∙ ap (later_word (word_on c.args.self.now c.in-Some.target)) c.of.ensures))
    last
