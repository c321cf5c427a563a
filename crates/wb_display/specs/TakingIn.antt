-- What a layer keeps after a new drawop.
use Rattle.std.specs.Prelude.{◌≡◌, ◌↔◌, true, false, IsTrue, All, Contains, List, [], ◌∷◌, ◌++◌}
use Rattle.wb_names.specs.Values.{DrawopValue}
use Rattle.wb_names.specs.History.{IsHistory}
use Rattle.wb_names.specs.Orders.{same_page}
use Rattle.wb_display.specs.Display.{is_shown, IsView}
use Rattle.wb_display.specs.LastWord.{own_target}
use Rattle.wb_display.specs.LastWords.{AreLastWords}
use Rattle.wb_display.specs.Layer.{holds_name, held_of}
use Rattle.wb_names.specs.declared.name.PageId.{PageId}
use Rattle.wb_names.specs.declared.parts.Target.{Target}
use Rattle.wb_display.specs.declared.last_words.LastWords.{LastWords}

-- an entry stands under the target of its drawop, which is of the page
abbrev pub IsKeyed : PageId → Target × DrawopValue → Type 0
IsKeyed page e = (e.0 ≡ own_target e.1) × (same_page e.1.name.page page ≡ true)

-- no name is held twice, each drawop stands under its target and is of the page, and the last words are those of what
-- is held
pub record AreHeld (words : LastWords) (entries : List (Target × DrawopValue)) : Type 0 where
  pub names : IsHistory (held_of entries)
  pub keys : All (IsKeyed words.page) entries
  pub last_words : AreLastWords (held_of entries) words

-- and so is what is shown
pub record AreKept (words : LastWords) (entries : List (Target × DrawopValue)) (shown : List DrawopValue) : Type 0 where
  pub held : AreHeld words entries
  pub view : IsView (held_of entries) words.page shown

-- a new drawop of the page is held too, last
abbrev pub HoldsToo : LastWords → List (Target × DrawopValue) → DrawopValue → LastWords → List (Target × DrawopValue) → Type 0
HoldsToo words entries d words' entries' =
    same_page d.name.page words.page ≡ true → holds_name (held_of entries) d.name ≡ false → AreHeld words entries
    → AreHeld words' entries' × (entries' ≡ entries ++ (own_target d, d) ∷ [])

-- a new drawop of the page is taken in
abbrev pub TakesIn : LastWords → List (Target × DrawopValue) → List DrawopValue → DrawopValue → LastWords → List (Target × DrawopValue) → List DrawopValue → Type 0
TakesIn words entries shown d words' entries' shown' =
    same_page d.name.page words.page ≡ true → holds_name (held_of entries) d.name ≡ false → AreKept words entries shown
    → AreKept words' entries' shown' × (entries' ≡ entries ++ (own_target d, d) ∷ [])

-- a member of the history that its view shows
abbrev pub IsShownIn : List DrawopValue → PageId → DrawopValue → Type 0
IsShownIn history page d = Contains history d × IsTrue (is_shown history page d)

-- more is held than before, and what was not touched is shown as it was
pub record Touches (page : PageId) (before after touched : List DrawopValue) : Type 0 where
  pub more : (x : DrawopValue) → Contains before x → Contains after x
  pub among : (x : DrawopValue) → Contains touched x → Contains after x
  pub others : (x : DrawopValue) → ¬ Contains touched x → IsShownIn after page x ↔ IsShownIn before page x
