-- Once a session is whole, the boards of its live hosts look alike.
use Rattle.std.proofs.Common.{◌≡◌, ℕ, ◌+◌, ◌<◌, ◌≤◌, List, ◌++◌, ap, refl, subst, sym}
use Rattle.std.specs.Prelude.{Contains}
use Rattle.wb_names.specs.History.{IsHistory}
use Rattle.wb_names.specs.Values.{DrawopValue}
use Rattle.wb_names.specs.declared.name.PageId.{PageId}
use Rattle.wb_display.specs.Canvas.{canvas_text}
use Rattle.wb_keeper.proofs.KeptCalls.{holds_from}
use Rattle.wb_progress.specs.Turns.{Terms}
use Rattle.wb_progress.proofs.Giving.{held_as}
use Rattle.wb_member.specs.Queries.{view_of}
use Rattle.wb_laws_machines.proofs.Sharing.{ShareAll, on_page, pages_alike, report_alike, view_alike}
use Rattle.wb_kept_progress.specs.Agreement.{LookAlike, NamesMeanOneAt, SessionsAgree}
use Rattle.wb_kept_progress.specs.Sessions.{Opening}
use Rattle.wb_kept_progress.specs.Timed.{At, time_of}
use Rattle.wb_kept_progress.specs.Whole.{AreSoon, AreWithin, IsTimelySession, LackAtMost, Sizes, WaitAtMost, request_span, there, whole_by}
use Rattle.wb_kept_progress.proofs.Promised.{sessions_become_whole}
use Rattle.wb_kept_progress.proofs.NothingNew.{held_was_held}
use Rattle.wb_kept_progress.proofs.Repairs.{held_once}
use Rattle.wb_keeping.specs.Laws.{KeptLine}

look_alike : (one other : List DrawopValue) → IsHistory one → IsHistory other → ShareAll one other → LookAlike one other
look_alike one other once once' share = record {
  pages = pages_alike one other share;
  reports = λ page. report_alike one other page (on_page one other share page);
  views = view;
  canvases = λ page width height. ap (λ (shown : List DrawopValue). canvas_text shown width height) (view page);
} where
  view : (page : PageId) → view_of one page ≡ view_of other page
  view page = view_alike one other page (on_page one other share page) once once'

module _ (hosts : ℕ → Opening) (terms : Terms) (trace newer later : List (At KeptLine)) (sizes : Sizes) (wait most : ℕ) (session : IsTimelySession hosts terms trace) (within : AreWithin hosts terms trace sizes)
    (soon : AreSoon hosts terms trace sizes most) (waits : WaitAtMost hosts terms trace wait) (lacks : LackAtMost hosts terms trace most) (short : request_span terms + terms.drift ≤ 60000000) (split : trace ≡ newer ++ later) (late : whole_by terms sizes wait most < time_of later) where
  -- what one live host holds, the other holds under its name
  over : (i j : ℕ) → Contains terms.live i → Contains terms.live j → (d : DrawopValue) → Contains (there hosts later i).host.is.held d → (x : DrawopValue) × Contains (there hosts later j).host.is.held x × (x.name ≡ d.name)
  over i j live_i live_j d c =
      let held = held_was_held hosts terms trace newer later i d.name session split live_i (holds_from (there hosts later i).host.is.held d.name d c refl) in
      held_as (there hosts later j).host.is.held d.name (sessions_become_whole hosts terms trace sizes wait most d.name session within soon waits lacks short held newer later j split late live_j)

  pub share : (i j : ℕ) → Contains terms.live i → Contains terms.live j → NamesMeanOneAt hosts later i j → ShareAll (there hosts later i).host.is.held (there hosts later j).host.is.held
  share i j live_i live_j one = record {
    over = λ d c. let x = over i j live_i live_j d c in subst (Contains (there hosts later j).host.is.held) (sym (one d x.0 c x.1 (sym x.2))) x.1;
    back = λ d c. let x = over j i live_j live_i d c in subst (Contains (there hosts later i).host.is.held) (one x.0 d x.1 c x.2) x.1;
  }

pub sessions_agree : SessionsAgree
sessions_agree hosts terms trace newer later sizes wait most i j session within soon waits lacks short split late live_i live_j one =
    look_alike (there hosts later i).host.is.held (there hosts later j).host.is.held (held_once hosts later i) (held_once hosts later j)
    (share hosts terms trace newer later sizes wait most session within soon waits lacks short split late i j live_i live_j one)
