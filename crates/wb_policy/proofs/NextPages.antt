-- The next page in the cycle, by the first of the later pages and the first of all.
use Rattle.std.proofs.Common.{◌≡◌, Bool, true, false, cond, List, [], ◌∷◌, ◌∙◌, Option, Some, ap, refl, sym}
use Rattle.std.specs.Prelude.{filter, take, unwrap_or}
use Rattle.std.specs.List.{find}
use Rattle.std.specs.Option.{option_or}
use Rattle.wb_names.specs.declared.name.PageId.{PageId}
use Rattle.wb_policy.specs.Reports.{first_of_pages, is_after, page_after}
use Rattle.wb_policy.specs.Turns.{nowhere}

first_found : (p : PageId → Bool) (pages : List PageId) → find p pages ≡ first_of_pages (take 1 (filter p pages))
first_found p [] = refl
first_found p (page ∷ pages) = by (p page) (first_found p pages) where
  by : (b : Bool) → find p pages ≡ first_of_pages (take 1 (filter p pages)) → cond b (Some page) (find p pages) ≡ first_of_pages (take 1 (cond b (page ∷ filter p pages) (filter p pages)))
  by true rest = refl
  by false rest = rest

first_kept : (pages : List PageId) → first_of_pages pages ≡ first_of_pages (take 1 pages)
first_kept [] = refl
first_kept (page ∷ pages) = refl

pub in_turn : (last : PageId) (all later pages : List PageId) → later ≡ take 1 (filter (is_after last) all) → pages ≡ take 1 all → unwrap_or (option_or (first_of_pages later) (first_of_pages pages)) nowhere ≡ page_after last all
in_turn last all later pages after first =
    ap (λ (ps : List PageId). unwrap_or (option_or (first_of_pages ps) (first_of_pages pages)) nowhere) after
    ∙ ap (λ (o : Option PageId). unwrap_or (option_or o (first_of_pages pages)) nowhere) (sym (first_found (is_after last) all))
    ∙ ap (λ (ps : List PageId). unwrap_or (option_or (find (is_after last) all) (first_of_pages ps)) nowhere) first
    ∙ ap (λ (o : Option PageId). unwrap_or (option_or (find (is_after last) all) o) nowhere) (sym (first_kept all))
