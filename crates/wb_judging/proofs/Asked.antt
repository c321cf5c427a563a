-- What is listed of a page.
use Rattle.std.proofs.Common.{◌≤◌, ℕ, Bool, List, filter, length, subst, sym}
use Rattle.std.proofs.lemmas.List.{length-map}
use Rattle.wb_names.specs.Orders.{same_page}
use Rattle.wb_names.specs.Values.{DrawopValue}
use Rattle.wb_names.specs.declared.name.PageId.{PageId}
use Rattle.wb_judge.proofs.Sizes.{filter_length}
use Rattle.wb_judging.specs.Asking.{names_on}

-- no page has more drawops than are held
pub names_few : (page : PageId) (held : List DrawopValue) → length (names_on page held) ≤ length held
names_few page held =
    let on_page : DrawopValue → Bool = λ d. same_page d.name.page page in
    subst (λ (n : ℕ). n ≤ length held) (sym (length-map (filter on_page held) (λ (d : DrawopValue). d.name))) (filter_length on_page held)
