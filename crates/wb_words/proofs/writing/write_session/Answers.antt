use Rattle.std.proofs.Common.{◌++◌, map, ap, ◌∙◌}
use Rattle.wb_words.specs.Spelling.{mark_word, echo_word, tailed}
use Rattle.wb_words.proofs.Appending.{session_text}
use Rattle.wb_words.proofs.writing.write_session.Goals as goal

pub returns : goal.returns
returns c =
    let marks = map mark_word c.args.marks.now in
    let echoes = map echo_word c.args.echoes.now in
    let front = ap (λ v. v.items) c.into_bytes-line.ensures.value ∙ c.in_ok-front.ensures.ok in
    c.in_ok-put_entries-2.ensures ∙ ap (λ t. t ++ tailed echoes) (c.in_ok-put_entries.ensures ∙ ap (λ t. t ++ tailed marks) front) ∙ session_text c.args.sender c.args.sent c.args.page.creator c.args.page.number marks echoes
