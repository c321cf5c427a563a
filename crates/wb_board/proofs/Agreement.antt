-- Boards that hold the same answer the same.
use Rattle.std.proofs.Common.{◌≡◌, ◌≤◌, Bool, true, false, not, ◌&&◌, List, refl, sym, ap, subst, ◌∙◌, true≢false}
use Rattle.std.specs.Prelude.{All, Contains}
use Rattle.std.specs.List.{list_any}
use Rattle.std.specs.Ordering.{is_lt}
use Rattle.wb_names.specs.Values.{NameValue, DrawopValue, MarkValue}
use Rattle.wb_names.specs.History.{IsHeld, name_of}
use Rattle.wb_names.specs.Marks.{IsReport}
use Rattle.wb_names.specs.Orders.{same_page, display_cmp}
use Rattle.wb_names.specs.declared.name.PageId.{PageId}
use Rattle.wb_names.specs.declared.gap.Gap.{Gap}
use Rattle.wb_names.proofs.Listings.{same_sorted}
use Rattle.wb_names.proofs.Orders.{and_both, same_page-is, name_parts}
use Rattle.wb_gaps.specs.Gaps.{AreGaps}
use Rattle.wb_gaps.specs.Pages.{ArePages}
use Rattle.wb_gaps.proofs.OneGaps.{one_gaps}
use Rattle.wb_gaps.proofs.Rearranged.{one_report, one_pages, gaps_moved, report_moved, pages_moved}
use Rattle.wb_gaps.proofs.NoGaps.{hold_the_same}
use Rattle.wb_display.specs.Display.{is_drawing, is_delete, has_target, is_aimed_at, is_last_word, is_hidden_in, IsView}
use Rattle.wb_display.proofs.Deciding.{display_total, list_any_nowhere, nowhere_from}
use Rattle.wb_display.proofs.Convergence.{converges, paints_alike, list_any_agree}
use Rattle.wb_board.specs.Board.{Accept, AskGaps, AskReport, AskPages, AskView, Answer, Replied, Gaps, Marks, Pages, Shown, IsAnswer}
use Rattle.wb_board.specs.Laws.{AnswersConverge, CanvasesConverge, HoldsAllOf, ReportsAgree}

-- an answer is of the kind that was asked for
gaps_of : (history : List DrawopValue) (page : PageId) (marks : List MarkValue) (a : Answer) → IsAnswer history (AskGaps page marks) a → (gaps : List Gap) × (a ≡ Gaps gaps) × AreGaps history page marks gaps
gaps_of history page marks (Gaps gaps) h = (gaps, refl, h)
gaps_of history page marks (Replied r) h = absurd h
gaps_of history page marks (Marks m) h = absurd h
gaps_of history page marks (Pages p) h = absurd h
gaps_of history page marks (Shown d) h = absurd h

report_of : (history : List DrawopValue) (page : PageId) (a : Answer) → IsAnswer history (AskReport page) a → (marks : List MarkValue) × (a ≡ Marks marks) × IsReport history page marks
report_of history page (Marks m) h = (m, refl, h)
report_of history page (Replied r) h = absurd h
report_of history page (Gaps g) h = absurd h
report_of history page (Pages p) h = absurd h
report_of history page (Shown d) h = absurd h

pages_of : (history : List DrawopValue) (a : Answer) → IsAnswer history AskPages a → (pages : List PageId) × (a ≡ Pages pages) × ArePages history pages
pages_of history (Pages p) h = (p, refl, h)
pages_of history (Replied r) h = absurd h
pages_of history (Gaps g) h = absurd h
pages_of history (Marks m) h = absurd h
pages_of history (Shown d) h = absurd h

view_of : (history : List DrawopValue) (page : PageId) (a : Answer) → IsAnswer history (AskView page) a → (shown : List DrawopValue) × (a ≡ Shown shown) × IsView history page shown
view_of history page (Shown d) h = (d, refl, h)
view_of history page (Replied r) h = absurd h
view_of history page (Gaps g) h = absurd h
view_of history page (Marks m) h = absurd h
view_of history page (Pages p) h = absurd h

pub answers_converge : AnswersConverge
answers_converge one other moved (Accept d) a b question of_one of_other = absurd question
answers_converge one other moved (AskGaps page marks) a b question of_one of_other =
    let x = gaps_of one page marks a of_one in
    let y = gaps_of other page marks b of_other in
    x.1 ∙ ap Gaps (one_gaps other page marks x.0 y.0 (gaps_moved one other moved page marks x.0 x.2) y.2) ∙ sym y.1
answers_converge one other moved (AskReport page) a b question of_one of_other =
    let x = report_of one page a of_one in
    let y = report_of other page b of_other in
    x.1 ∙ ap Marks (one_report other page x.0 y.0 (report_moved one other moved page x.0 x.2) y.2) ∙ sym y.1
answers_converge one other moved AskPages a b question of_one of_other =
    let x = pages_of one a of_one in
    let y = pages_of other b of_other in
    x.1 ∙ ap Pages (one_pages other x.0 y.0 (pages_moved one other moved x.0 x.2) y.2) ∙ sym y.1
answers_converge one other moved (AskView page) a b question of_one of_other =
    let x = view_of one page a of_one in
    let y = view_of other page b of_other in
    x.1 ∙ ap Shown (converges one other page x.0 y.0 moved x.2 y.2) ∙ sym y.1

pub canvases_converge : CanvasesConverge
canvases_converge one other moved page shown again w h a b = paints_alike one other page shown again w h moved a b

-- what a test finds, where all that passes it is in both lists
same_test : (b c : Bool) → (b ≡ false → c ≡ false) → (c ≡ false → b ≡ false) → b ≡ c
same_test true true f g = refl
same_test false false f g = refl
same_test true false f g = g refl
same_test false true f g = sym (f refl)

not_here : (p : DrawopValue → Bool) (x : DrawopValue) (b : Bool) → p x ≡ b → (p x ≡ true → p x ≡ false) → b ≡ false
not_here p x false e f = refl
not_here p x true e f = absurd (true≢false (sym e ∙ f e))

found_nowhere : (p : DrawopValue → Bool) (one other : List DrawopValue) → ((x : DrawopValue) → p x ≡ true → Contains other x → Contains one x) → list_any p one ≡ false → list_any p other ≡ false
found_nowhere p one other over none = list_any_nowhere p other (λ x h. not_here p x (p x) refl (λ e. nowhere_from p one none x (over x e h)))

found_alike : (p : DrawopValue → Bool) (one other : List DrawopValue) → ((x : DrawopValue) → p x ≡ true → Contains one x → Contains other x) → ((x : DrawopValue) → p x ≡ true → Contains other x → Contains one x) → list_any p one ≡ list_any p other
found_alike p one other over back = same_test (list_any p one) (list_any p other) (found_nowhere p one other back) (found_nowhere p other one over)

-- the drawops of the page are in both
pub record ShareAPage (one other : List DrawopValue) (page : PageId) : Type 0 where
  pub over : (x : DrawopValue) → x.name.page ≡ page → Contains one x → Contains other x
  pub back : (x : DrawopValue) → x.name.page ≡ page → Contains other x → Contains one x

aimed_here : (page : PageId) (d f : DrawopValue) → d.name.page ≡ page → is_aimed_at f d ≡ true → f.name.page ≡ page
aimed_here page d f here e = same_page-is f.name.page d.name.page (and_both (same_page f.name.page d.name.page) (has_target f.op d.name.source d.name.seq) e).0 ∙ here

last_alike : (one other : List DrawopValue) (page : PageId) (d e : DrawopValue) → ShareAPage one other page → d.name.page ≡ page → is_last_word one d e ≡ is_last_word other d e
last_alike one other page d e share here =
    let p : DrawopValue → Bool = λ f. is_aimed_at f d && is_lt (display_cmp e f) in
    let on : (x : DrawopValue) → p x ≡ true → x.name.page ≡ page = λ x h. aimed_here page d x here (and_both (is_aimed_at x d) (is_lt (display_cmp e x)) h).0 in
    ap not (found_alike p one other (λ x h. share.over x (on x h)) (λ x h. share.back x (on x h)))

hidden_alike : (one other : List DrawopValue) (page : PageId) (d : DrawopValue) → ShareAPage one other page → d.name.page ≡ page → is_hidden_in one d ≡ is_hidden_in other d
hidden_alike one other page d share here =
    let p : DrawopValue → Bool = λ e. (is_delete e.op && is_aimed_at e d) && is_last_word other d e in
    let on : (x : DrawopValue) → p x ≡ true → x.name.page ≡ page = λ x h. aimed_here page d x here (and_both (is_delete x.op) (is_aimed_at x d) (and_both (is_delete x.op && is_aimed_at x d) (is_last_word other d x) h).0).1 in
    list_any_agree (λ e. (is_delete e.op && is_aimed_at e d) && is_last_word one d e) p (λ e. ap (λ (b : Bool). (is_delete e.op && is_aimed_at e d) && b) (last_alike one other page d e share here)) one
    ∙ found_alike p one other (λ x h. share.over x (on x h)) (λ x h. share.back x (on x h))

-- what is shown of the page is shown by both
pub carried : (one other : List DrawopValue) (page : PageId) (shown again : List DrawopValue) → ShareAPage one other page → IsView one page shown → IsView other page again → (d : DrawopValue) → Contains shown d → Contains again d
carried one other page shown again share a b d h =
    let m = (a.members d).0 h in
    let here = same_page-is d.name.page page (and_both (same_page d.name.page page) (is_drawing d.op) (and_both (same_page d.name.page page && is_drawing d.op) (not (is_hidden_in one d)) m.1).0).0 in
    (b.members d).1 (share.over d here m.0, ap (λ (c : Bool). (same_page d.name.page page && is_drawing d.op) && not c) (sym (hidden_alike one other page d share here)) ∙ m.1)

-- a drawop of the page is held by both, where its name is
over_page : (one other : List DrawopValue) (page : PageId) (marks : List MarkValue) → All (λ d. 1 ≤ d.name.seq) one → HoldsAllOf one page marks → HoldsAllOf other page marks → ((d e : DrawopValue) → Contains one d → Contains other e → d.name.page ≡ page → d.name ≡ e.name → d ≡ e) → (x : DrawopValue) → x.name.page ≡ page → Contains one x → Contains other x
over_page one other page marks numbered a b same x here h =
    let named : x.name ≡ name_of page x.name.source x.name.seq = name_parts _ _ _ _ _ _ refl here refl in
    let pos : 1 ≤ x.name.seq = subst (λ (y : DrawopValue). 1 ≤ y.name.seq) h.2 (numbered h.0 x h.1) in
    let held : IsHeld other page x.name.source x.name.seq = (hold_the_same one other page marks a.0 b.0 a.1 b.1 x.name.source x.name.seq pos).0 (h.0, x, h.1, h.2, named) in
    let there : Contains other held.1 = (held.0, held.2, held.3) in
    subst (Contains other) (sym (same x held.1 h there here (named ∙ sym held.4))) there

pub reports_agree : ReportsAgree
reports_agree one other page marks shown again numbered numbered' a b agree of_one of_other =
    let share : ShareAPage one other page = record {
      over = over_page one other page marks numbered a b agree;
      back = over_page other one page marks numbered' b a (λ d e in_other in_one here named. sym (agree e d in_one in_other (ap (λ (n : NameValue). n.page) (sym named) ∙ here) (sym named)));
    } in
    let turned : ShareAPage other one page = record { over = share.back; back = share.over } in
    same_sorted display_total shown again of_one.rising of_other.rising
    (carried one other page shown again share of_one of_other)
    (carried other one page again shown turned of_other of_one)
