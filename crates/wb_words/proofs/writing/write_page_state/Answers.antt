use Rattle.std.proofs.Common.{◌++◌, map, ap, ◌∙◌}
use Rattle.wb_words.specs.Spelling.{mark_word, tailed}
use Rattle.wb_words.proofs.Appending.{page_state_text}
use Rattle.wb_words.proofs.writing.write_page_state.Goals as goal

pub returns : goal.returns
returns c =
    let marks = map mark_word c.args.marks.now in
    let front = ap (λ v. v.items) c.into_bytes-line.ensures.value ∙ c.in_ok-front.ensures.ok in
    c.in_ok-put_entries.ensures ∙ ap (λ t. t ++ tailed marks) front ∙ page_state_text c.args.sender c.args.page.creator c.args.page.number marks
