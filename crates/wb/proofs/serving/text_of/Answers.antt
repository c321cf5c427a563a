use Rattle.std.proofs.Common.{◌≡◌, ◌++◌, ℕ, List, Option, Some, IfOk, IfSome, codes, subst}
use Rattle.std.specs.Fmt.{◌++?◌}
use Rattle.std.specs.String.{string_bytes}
use Rattle.wb.proofs.Statuses.{said_of_filters}
use Rattle.wb.proofs.serving.text_of.Goals as goal

pub returns-in-Filter : goal.returns-in-Filter
returns-in-Filter c =
    let said = subst (λ (o : Option (List ℕ)). IfOk c.format-in-Filter.result (λ s. IfSome (Some (codes "wb: ") ++? o ++? Some (codes "\n")) (λ bs. string_bytes s ≡ bs))) (said_of_filters c.in-Filter.fault) c.format-in-Filter.ensures.ok in
    rw c.in-Filter.is said
