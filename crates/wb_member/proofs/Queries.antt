-- The view of a page that a member shows is what wb_display defines.
use Rattle.std.proofs.Common.{◌≡◌, true, List, ap, Contains, filter, ◌&&◌, not, IsTrue, is_eq, Equal}
use Rattle.wb_names.specs.Values.{DrawopValue}
use Rattle.wb_names.specs.Orders.{same_page, display_cmp}
use Rattle.wb_names.specs.History.{IsHistory}
use Rattle.wb_names.specs.declared.name.PageId.{PageId}
use Rattle.wb_names.proofs.Listings.{Contains-filter, Contains-from_filter, lists_same, one_list}
use Rattle.wb_names.proofs.Orders.{and_both}
use Rattle.wb_display.specs.Display.{is_drawing, is_hidden_in, is_shown}
use Rattle.wb_display.proofs.Deciding.{display_total, one_drawop, tie_names}
use Rattle.wb_gaps.proofs.Sorting.{lists_sorted}
use Rattle.wb_member.specs.Queries.{view_of, ViewOfPage, OnlyView}

on_page : (history : List DrawopValue) (page : PageId) (d : DrawopValue) → IsTrue (is_shown history page d) → same_page d.name.page page ≡ true
on_page history page d shown = (and_both (same_page d.name.page page) (is_drawing d.op) (and_both (same_page d.name.page page && is_drawing d.op) (not (is_hidden_in history d)) shown).0).0

-- shown members that tie are one
one_shown : (history : List DrawopValue) (page : PageId) → IsHistory history → (d e : DrawopValue) → Contains (filter (is_shown history page) history) d → Contains (filter (is_shown history page) history) e → display_cmp d e ≡ Equal → d ≡ e
one_shown history page names d e cd ce tie =
    let p = Contains-from_filter (is_shown history page) history d cd in
    let q = Contains-from_filter (is_shown history page) history e ce in
    one_drawop history names d e p.0 q.0 (tie_names page d e (on_page history page d p.1) (on_page history page e q.1) (ap is_eq tie))

pub view_of_page : ViewOfPage
unfolding view_of
view_of_page history page names =
    lists_same display_total (Contains (filter (is_shown history page) history)) (λ d. Contains history d × IsTrue (is_shown history page d)) _
    (Contains-from_filter (is_shown history page) history)
    (λ d h. Contains-filter (is_shown history page) history d h.0 h.1)
    (lists_sorted display_total (filter (is_shown history page) history) (one_shown history page names))

pub only_view : OnlyView
only_view history page shown names view = one_list display_total _ shown (view_of history page) view (view_of_page history page names)
