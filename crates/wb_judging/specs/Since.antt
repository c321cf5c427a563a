-- What a page shows otherwise than it did when fewer drawops were held.
use Rattle.std.specs.Prelude.{◌≡◌, ℕ, ◌+◌, Bool, not, ◌&&◌, List, [], ◌∷◌, ◌++◌, drop, filter, fold, length, map, take, if◌then◌else◌}
use Rattle.std.specs.HashSet.{contains}
use Rattle.std.specs.List.{list_any}
use Rattle.wb_names.specs.History.{IsHistory}
use Rattle.wb_names.specs.Orders.{same_page}
use Rattle.wb_names.specs.Same.{same_target}
use Rattle.wb_names.specs.Values.{DrawopValue}
use Rattle.wb_names.specs.declared.name.PageId.{PageId}
use Rattle.wb_names.specs.declared.parts.Target.{Target}
use Rattle.wb_display.specs.Display.{is_drawing}
use Rattle.wb_display.specs.LastWord.{affected_target, own_target}
use Rattle.wb_member.specs.Queries.{view_of}
use Rattle.wb_judging.specs.declared.since.ShownAt.{ShownAt}
use Rattle.wb_judging.specs.declared.since.Since.{Since}
use Rattle.wb_judging.specs.declared.since.Touched.{Touched}

-- what names the drawings on a page whose showing these drawops may have changed: those among them, and the targets of their deletes and
-- restores
abbrev pub touched_by : PageId → List DrawopValue → List Target
touched_by page news = map affected_target (filter (λ d. same_page d.name.page page) news)

-- a drawing on the page, of which these may have changed whether it is shown
abbrev pub is_touched : PageId → List DrawopValue → DrawopValue → Bool
is_touched page news d = (same_page d.name.page page && is_drawing d.op) && list_any (same_target (own_target d)) (touched_by page news)

-- those of a list that pass a test, each with its place, where the first of the list stands at `place`
abbrev pub placed_if : Bool → ℕ → DrawopValue → List ShownAt
placed_if wanted place d = if wanted then record { place = place; drawop = d } ∷ [] else []

abbrev pub placed_from : (DrawopValue → Bool) → ℕ → List DrawopValue → List ShownAt
placed_from test place [] = []
placed_from test place (d ∷ ds) = placed_if (test d) place d ++ placed_from test (place + 1) ds

-- What a page shows otherwise than when the first `count` of these drawops were held: those that were held then and may be hidden now, and
-- those that may not have been shown then and are shown now, at their places.
abbrev pub hidden_since : PageId → ℕ → List DrawopValue → List Target
hidden_since page count held = map own_target (filter (is_touched page (drop count held)) (take count held))

abbrev pub shown_since : PageId → ℕ → List DrawopValue → List ShownAt
shown_since page count held = placed_from (is_touched page (drop count held)) 0 (view_of held page)

-- what a member answers that holds these drawops
pub record IsSince (page : PageId) (count : ℕ) (held : List DrawopValue) (since : Since) : Type 0 where
  pub held_now : since.held ≡ length held
  pub hidden : since.hidden.items ≡ hidden_since page count held
  pub shown : since.shown.items ≡ shown_since page count held

-- the same test, by what the code holds
abbrev pub is_among : Touched → DrawopValue → Bool
is_among touched d = (same_page d.name.page touched.page && is_drawing d.op) && contains same_target touched.names (own_target d)

-- ---- the law

-- Drawings that have one of these names are taken off, and one is put in at its place.
abbrev pub without : List Target → List DrawopValue → List DrawopValue
without hidden shown = filter (λ d. not (list_any (same_target (own_target d)) hidden)) shown

abbrev pub put_in : List DrawopValue → ShownAt → List DrawopValue
put_in shown p = take p.place shown ++ p.drawop ∷ drop p.place shown

abbrev pub patched : List Target → List ShownAt → List DrawopValue → List DrawopValue
patched hidden placed shown = fold put_in (without hidden shown) placed

-- The view of then, where the hidden ones are taken off and then the shown ones are put in, one after another, is the view of now.
abbrev pub SincePatches : Type 0
SincePatches = (page : PageId) (count : ℕ) (held : List DrawopValue) → IsHistory held
    → patched (hidden_since page count held) (shown_since page count held) (view_of (take count held) page) ≡ view_of held page
