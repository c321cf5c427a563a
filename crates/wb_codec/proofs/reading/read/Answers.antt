use Rattle.std.proofs.Common.{Ok, refl, ap, sym, subst, ◌∙◌, inl, inr, arith}
use Rattle.wb_codec.specs.Grammar.{HasLists}
use Rattle.wb_codec.proofs.GrammarLaws.{spells, same_datagram, is_fault, no_spelling}
use Rattle.wb_codec.proofs.reading.read.Goals as goal

pub returns-in-Ok-datagram_from-clause-found : goal.returns-in-Ok-datagram_from-clause-found
returns-in-Ok-datagram_from-clause-found c = spells _ _ (λ i. omega (arith, c.type_inv.bytes i)) (c.in-Ok.ensures.body ∙ ap (λ v. Ok v) (sym c.in-Ok-datagram_from.ensures.datagram))

pub returns-in-Ok-datagram_from-clause-only : goal.returns-in-Ok-datagram_from-clause-only
returns-in-Ok-datagram_from-clause-only c = λ v s. inl (ap (λ w. Ok w) (same_datagram _ v _ (c.in-Ok.ensures.body ∙ ap (λ w. Ok w) (sym c.in-Ok-datagram_from.ensures.datagram)) s))

pub returns-in-Err-datagram_from-clause-fault : goal.returns-in-Err-datagram_from-clause-fault
returns-in-Err-datagram_from-clause-fault c = (_, spells _ _ (λ i. omega (arith, c.type_inv.bytes i)) c.in-Ok.ensures.body, c.in-Err-datagram_from.ensures.lists)

pub returns-in-Err-datagram_from-clause-only : goal.returns-in-Err-datagram_from-clause-only
returns-in-Err-datagram_from-clause-only c = λ v s. inr (refl, subst HasLists (same_datagram _ v _ c.in-Ok.ensures.body s) c.in-Err-datagram_from.ensures.lists)

pub returns-in-Err-clause-only : goal.returns-in-Err-clause-only
returns-in-Err-clause-only c = λ v s. absurd (no_spelling _ v _ c.in-Err.ensures.body s)

pub returns-in-Err-clause-fault : goal.returns-in-Err-clause-fault
returns-in-Err-clause-fault c = is_fault _ _ (λ i. omega (arith, c.type_inv.bytes i)) c.in-Err.ensures.body
