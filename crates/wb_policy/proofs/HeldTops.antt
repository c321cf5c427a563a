-- The greatest number of a source that is held stands in the report of its page.
use Rattle.std.proofs.Common.{◌≡◌, ℕ, ◌+◌, ◌<◌, ◌≤◌, true, List, [], ◌∷◌, arith, inl, inr, map, refl, subst, ⊎_elim}
use Rattle.std.specs.Prelude.{◌⊎◌, Contains, nat_lt}
use Rattle.std.proofs.lemmas.Bool.Decides.{nat_tests}
use Rattle.wb_names.specs.History.{IsHeld, highest}
use Rattle.wb_names.specs.Values.{DrawopValue, MarkValue}
use Rattle.wb_names.specs.declared.name.PageId.{PageId}
use Rattle.wb_names.proofs.Listings.{Contains-cases, Contains-filter, Contains-here, Contains-none, Contains-there}
use Rattle.wb_gaps.specs.Answers.{pages_of, report_of, sources_of, top_mark}
use Rattle.wb_gaps.proofs.PageAnswers.{has_source, pages_of_history}
use Rattle.wb_gaps.proofs.Reports.{greatest_held}

module _ (held : List DrawopValue) (d : DrawopValue) (there : Contains held d) (counted : 1 ≤ d.name.seq) where
  abbrev on_page : PageId
  on_page = d.name.page

  abbrev by_source : ℕ
  by_source = d.name.source

  abbrev greatest : ℕ
  greatest = highest on_page by_source held

  is_held : IsHeld held on_page by_source d.name.seq
  is_held = (there.0, d, there.1, there.2, refl)

  pub below_top : d.name.seq ≤ greatest
  below_top = (greatest_held held on_page by_source).bound d.name.seq is_held

  pub top_held : IsHeld held on_page by_source greatest
  top_held = by (greatest_held held on_page by_source).reached where
    by : (greatest ≡ 0) ⊎ IsHeld held on_page by_source greatest → IsHeld held on_page by_source greatest
    by (inl none) = let le = below_top in absurd (omega (arith, none, le, counted))
    by (inr h) = h

  pub page_there : Contains (pages_of held) on_page
  page_there = ((pages_of_history held).members on_page).1 (there.0, d, there.1, there.2, refl)

  pub top_told : Contains (report_of held on_page) (top_mark held on_page by_source)
  unfolding report_of
  top_told =
      let le = below_top in
      Contains-filter (λ (m : MarkValue). nat_lt 0 m.high) (map (top_mark held on_page) (sources_of held on_page)) (top_mark held on_page by_source)
      (its_mark (sources_of held on_page) (has_source held on_page by_source d.name.seq is_held)) (above greatest (omega (arith, le, counted))) where
        its_mark : (sources : List ℕ) → Contains sources by_source → Contains (map (top_mark held on_page) sources) (top_mark held on_page by_source)
        its_mark [] c = absurd (Contains-none by_source c)
        its_mark (s ∷ sources) c = ⊎_elim
            (λ (e : s ≡ by_source). subst (λ (n : ℕ). Contains (map (top_mark held on_page) (s ∷ sources)) (top_mark held on_page n)) e (Contains-here (top_mark held on_page s) (map (top_mark held on_page) sources)))
            (λ (there : Contains sources by_source). Contains-there (top_mark held on_page s) (top_mark held on_page by_source) (map (top_mark held on_page) sources) (its_mark sources there))
            (Contains-cases s by_source sources c)

        above : (n : ℕ) → 0 < n → nat_lt 0 n ≡ true
        above n lt = grind (arith, nat_tests)
