use Rattle.std.proofs.Common.{Ok, sym, ap, ◌∙◌, List, ℕ}
use Rattle.wb_filters.proofs.Telling.{told_kind, told_words}
use Rattle.wb_filters.proofs.wording.told.Goals as goal

pub returns-then-not-takes : goal.returns-then-not-takes
returns-then-not-takes c = told_kind c.args.carrier c.args.bytes.now c.in-Ok.datagram c.in-Ok.ensures.found (sym c.takes.ensures ∙ c.if-not-takes.true)

pub returns-in_ok-words_behind-in-Ok : goal.returns-in_ok-words_behind-in-Ok
returns-in_ok-words_behind-in-Ok c =
    told_words c.args.carrier c.args.bytes.now c.in-Ok.datagram c.in-Ok.ensures.found (sym c.takes.ensures ∙ c.if-not-takes.false) ∙ ap (λ (text : List ℕ). Ok text) (sym c.in_ok-words_behind-in-Ok.ensures)
