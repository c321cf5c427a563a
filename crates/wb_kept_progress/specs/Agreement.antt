-- What self-managing hosts show alike, once all of a session has come to each of them.
use Rattle.std.specs.Prelude.{◌≡◌, ℕ, ◌+◌, ◌<◌, ◌≤◌, List, ◌++◌, Contains}
use Rattle.wb_names.specs.Values.{DrawopValue}
use Rattle.wb_names.specs.declared.name.PageId.{PageId}
use Rattle.wb_gaps.specs.Answers.{pages_of, report_of}
use Rattle.wb_display.specs.Canvas.{canvas_text}
use Rattle.wb_progress.specs.Turns.{Terms}
use Rattle.wb_member.specs.Queries.{view_of}
use Rattle.wb_kept_progress.specs.Repairs.{host_at}
use Rattle.wb_kept_progress.specs.Sessions.{At, Opening}
use Rattle.wb_kept_progress.specs.Timed.{time_of}
use Rattle.wb_kept_progress.specs.Whole.{AreSoon, AreWithin, IsTimelySession, LackAtMost, Sizes, WaitAtMost, minute, request_span, there, whole_by}
use Rattle.wb_keeping.specs.Laws.{KeptLine}

-- ---- what a name means

-- the hosts at two places hold no two drawops of one name
abbrev pub NamesMeanOneAt : (ℕ → Opening) → List (At KeptLine) → ℕ → ℕ → Type 0
NamesMeanOneAt hosts lines i j = (d e : DrawopValue) → Contains (host_at hosts lines i).is.held d → Contains (host_at hosts lines j).is.held e → d.name ≡ e.name → d ≡ e

-- ---- what is shown

-- Of two boards the pages are the same, and of each page the report, the view, and its characters at each size.
pub record LookAlike (one other : List DrawopValue) : Type 0 where
  pub pages : pages_of one ≡ pages_of other
  pub reports : (page : PageId) → report_of one page ≡ report_of other page
  pub views : (page : PageId) → view_of one page ≡ view_of other page
  pub canvases : (page : PageId) (width height : ℕ) → canvas_text (view_of one page) width height ≡ canvas_text (view_of other page) width height

-- After the time at which a session is whole, the boards of any two live hosts look alike, if no name means two drawops to them.
abbrev pub SessionsAgree : Type 0
SessionsAgree = (hosts : ℕ → Opening) (terms : Terms) (trace newer later : List (At KeptLine)) (sizes : Sizes) (wait most i j : ℕ)
    → IsTimelySession hosts terms trace → AreWithin hosts terms trace sizes → AreSoon hosts terms trace sizes most → WaitAtMost hosts terms trace wait → LackAtMost hosts terms trace most → request_span terms + terms.drift ≤ minute
    → trace ≡ newer ++ later → whole_by terms sizes wait most < time_of later → Contains terms.live i → Contains terms.live j → NamesMeanOneAt hosts later i j
    → LookAlike (there hosts later i).host.is.held (there hosts later j).host.is.held
