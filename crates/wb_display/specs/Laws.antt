-- Laws of what a page shows.
use Rattle.std.specs.Prelude.{◌≡◌, ◌≢◌, ℕ, ◌<◌, ◌↔◌, Bool, true, false, not, ◌&&◌, IsTrue, List, [], ◌∷◌, ◌++◌, All, Contains, IsPermutation, filter, nat_eq}
use Rattle.std.specs.List.{list_any}
use Rattle.wb_names.specs.Values.{DrawopValue}
use Rattle.wb_names.specs.History.{IsHistory}
use Rattle.wb_names.specs.Listing.{Lists}
use Rattle.wb_names.specs.Orders.{same_page, display_cmp}
use Rattle.wb_names.specs.declared.name.PageId.{PageId}
use Rattle.wb_display.specs.Canvas.{canvas_text, share, is_on_line}
use Rattle.wb_display.specs.Display.{is_drawing, is_delete, is_restore, is_aimed_at, is_last_word, is_hidden_in, IsView}
use Rattle.wb_display.specs.Layer.{held_with, held_after}

-- Histories that hold the same drawops, in any order, show the same list on every page.
abbrev pub Converges : Type 0
Converges = (one other : List DrawopValue) (page : PageId) (shown again : List DrawopValue) → IsPermutation one other → IsView one page shown → IsView other page again → shown ≡ again

-- What a page shows by one history it shows by each that holds the same drawops.
abbrev pub StaysAView : Type 0
StaysAView = (one other : List DrawopValue) (page : PageId) (shown : List DrawopValue) → IsPermutation one other → IsView one page shown → IsView other page shown

-- And so they paint the same canvas, of every size.
abbrev pub PaintsAlike : Type 0
PaintsAlike = (one other : List DrawopValue) (page : PageId) (shown again : List DrawopValue) (w h : ℕ) → IsPermutation one other → IsView one page shown → IsView other page again → canvas_text shown w h ≡ canvas_text again w h

-- The older rule, which knew no restores: a drawop is hidden where some delete names it.
abbrev pub is_deleted_in : List DrawopValue → DrawopValue → Bool
is_deleted_in history d = list_any (λ e. is_delete e.op && is_aimed_at e d) history

abbrev pub was_shown : List DrawopValue → PageId → DrawopValue → Bool
was_shown history page d = (same_page d.name.page page && is_drawing d.op) && not (is_deleted_in history d)

abbrev pub IsOlderView : List DrawopValue → PageId → List DrawopValue → Type 0
IsOlderView history page shown = Lists display_cmp (λ d. Contains history d × IsTrue (was_shown history page d)) shown

-- If nothing is restored, the view is the one of the older rule.
abbrev pub AgreesWithOlderRule : Type 0
AgreesWithOlderRule = (history : List DrawopValue) (page : PageId) (shown : List DrawopValue) → All (λ e. is_restore e.op ≡ false) history → IsView history page shown ↔ IsOlderView history page shown

-- what one more drawop d, after held, changes of what is shown
pub record PutChanges (held : List DrawopValue) (d : DrawopValue) (shown after : List DrawopValue) : Type 0 where
  -- a drawing enters, unless a word on it that came before hides it
  pub enters : is_drawing d.op ≡ true → Contains after d ↔ (is_hidden_in held d ≡ false)
  -- it changes nothing else
  pub alone : is_drawing d.op ≡ true → (x : DrawopValue) → x ≢ d → Contains after x ↔ Contains shown x
  -- a delete or a restore changes nothing that it does not name
  pub others : is_drawing d.op ≡ false → (x : DrawopValue) → is_aimed_at d x ≡ false → Contains after x ↔ Contains shown x
  -- it shows or hides its target, if no later word on that is held
  pub decides : (x : DrawopValue) → Contains held x → is_drawing x.op ≡ true → is_aimed_at d x ≡ true → is_last_word held x d ≡ true → Contains after x ↔ (is_delete d.op ≡ false)
  -- and changes nothing if a later word is
  pub outdone : is_drawing d.op ≡ false → (x : DrawopValue) → is_aimed_at d x ≡ true → is_last_word held x d ≡ false → Contains after x ↔ Contains shown x

-- What a put does to the view of a page.
abbrev pub PutsShow : Type 0
PutsShow = (page : PageId) (held : List DrawopValue) (d : DrawopValue) (shown after : List DrawopValue) → IsHistory (held ++ d ∷ []) → All (λ x. same_page x.name.page page ≡ true) (held ++ d ∷ []) → IsView held page shown → IsView (held ++ d ∷ []) page after → PutChanges held d shown after

-- the drawops of a page
abbrev pub on_page : PageId → List DrawopValue → List DrawopValue
on_page page history = filter (λ d. same_page d.name.page page) history

-- Drawops of other pages change nothing of a page's view.
abbrev pub StandsAlone : Type 0
StandsAlone = (history : List DrawopValue) (page : PageId) (shown : List DrawopValue) → IsView (on_page page history) page shown ↔ IsView history page shown

-- A layer that was given a history, member after member, holds what the history has of its page.
abbrev pub HoldsItsPage : Type 0
HoldsItsPage = (history : List DrawopValue) (page : PageId) → IsHistory history → held_after page history ≡ on_page page history

-- Whatever is put, no name is held twice.
abbrev pub HoldsAHistory : Type 0
HoldsAHistory = (puts : List DrawopValue) (page : PageId) → IsHistory (held_after page puts)

-- A line as it is walked: along the longer distance each point is one step on, and along the other it lies at the share
-- of that many steps; equal ends give one point.
abbrev pub LinesStepByOne : Type 0
LinesStepByOne = ((d k : ℕ) → 0 < d → share d k d ≡ k) × ((x0 y0 x y : ℕ) → is_on_line x0 y0 x0 y0 x y ≡ (nat_eq x x0 && nat_eq y y0))

-- Of two drawops of one name a layer keeps the one that was put first.
abbrev pub KeepsTheFirst : Type 0
KeepsTheFirst = (page : PageId) (held : List DrawopValue) (first later : DrawopValue) → first.name ≡ later.name → held_with page (held_with page held first) later ≡ held_with page held first
