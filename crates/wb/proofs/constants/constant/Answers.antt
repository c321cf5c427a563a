use Rattle.std.proofs.Common.{◌∙◌, sym, lit<, eq-eqb, true≢false}
use Rattle.std.proofs.lemmas.Bool.{eqb-true}
use Rattle.wb.proofs.constants.constant.Goals as goal

pub returns-then-starts_with : goal.returns-then-starts_with
returns-then-starts_with c = λ n h.
    let plus = sym (c.starts_with.ensures.byte (lit< tt) (lit< tt) (λ w o g. g)) ∙ c.if-starts_with.true in
    h.0 (eqb-true _ _ plus)

pub returns-in-Ok : goal.returns-in-Ok
returns-in-Ok c =
    let none = sym (c.starts_with.ensures.byte (lit< tt) (lit< tt) (λ w o g. g)) ∙ c.if-starts_with.false in
    (λ e. true≢false (sym (eq-eqb _ _ e) ∙ none), c.in-Ok.ensures.value.0)

pub returns-in-Err : goal.returns-in-Err
returns-in-Err c = λ n h. c.in-Err.ensures.value.0 h.1.0
