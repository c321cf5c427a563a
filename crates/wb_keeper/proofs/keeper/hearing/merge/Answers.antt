use Rattle.std.proofs.Common.{◌≡◌, ◌∷◌, [], ◌∙◌, Bool, List, Option, true, None, Ok, sym, ap, subst}
use Rattle.wb_names.specs.Values.{MarkValue}
use Rattle.wb_names.specs.Faults.{first_of, fault_unless}
use Rattle.wb_keeper.specs.KeepFaults.{IsKeptBy}
use Rattle.wb_keeper.specs.TakingIn.{has_all}
use Rattle.wb_keeper.specs.declared.keep_fault.KeepFault.TheVariants.{TooMany}
use Rattle.wb_keeper.proofs.NothingNew.{nothing_new, room_for_nothing_new}
use Rattle.wb_keeper.proofs.keeper.hearing.merge.Goals as goal

pub returns-then-have_all-clause-fault : goal.returns-then-have_all-clause-fault
returns-then-have_all-clause-fault c =
    let all : has_all c.args.heard.now c.args.told.now ≡ true = ap (λ (ms : List MarkValue). has_all ms c.args.told.now) (sym c.as_slice.ensures.entries) ∙ ap (has_all c.as_slice.result.now) (sym c.as_slice-2.ensures.entries) ∙ sym c.have_all.ensures ∙ c.if-have_all.true in
    subst (λ (b : Bool). IsKeptBy {X = Option (List MarkValue)} (first_of (fault_unless b TooMany ∷ [])) (Ok None)) (sym (room_for_nothing_new c.args.heard.now c.args.told.now c.as_slice.ensures.lawful c.as_slice-2.ensures.lawful all)) tt

pub returns-then-have_all-clause-merged : goal.returns-then-have_all-clause-merged
returns-then-have_all-clause-merged c =
    let all : has_all c.args.heard.now c.args.told.now ≡ true = ap (λ (ms : List MarkValue). has_all ms c.args.told.now) (sym c.as_slice.ensures.entries) ∙ ap (has_all c.as_slice.result.now) (sym c.as_slice-2.ensures.entries) ∙ sym c.have_all.ensures ∙ c.if-have_all.true in
    nothing_new c.args.heard.now c.args.told.now c.as_slice.ensures.lawful c.as_slice-2.ensures.lawful all
