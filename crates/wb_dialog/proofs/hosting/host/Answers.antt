use Rattle.wb_dialog.proofs.hosting.host.Goals as goal

pub returns-clause-text : goal.returns-clause-text
returns-clause-text g c = rw c.new-dialog.ensures at c.answer_all.ensures.text
