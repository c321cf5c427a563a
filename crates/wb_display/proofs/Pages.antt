-- A page by itself, and what a layer holds of it.
use Rattle.std.proofs.Common.{◌≡◌, List, [], ◌∷◌, ◌++◌, length, refl, ap, ◌∙◌, sym, subst, arith, append-nil, append_assoc, length-append}
use Rattle.std.specs.Prelude.{Bool, true, false, not, cond, ◌&&◌, Contains, fold}
use Rattle.std.specs.Ordering.{is_lt}
use Rattle.std.proofs.lemmas.List.{get_or_append_left, get_or_at}
use Rattle.std.proofs.lemmas.List.Elements.{filter-append}
use Rattle.std.proofs.lemmas.Map.Views.{any-filter_same}
use Rattle.std.proofs.lemmas.Bool.{and_parts, false_from_ne_true, not-true}
use Rattle.wb_names.specs.Values.{DrawopValue}
use Rattle.wb_names.specs.History.{IsHistory}
use Rattle.wb_names.specs.Orders.{same_page, same_name, display_cmp}
use Rattle.wb_names.specs.declared.name.PageId.{PageId}
use Rattle.wb_names.proofs.Listings.{lists_same, Contains-filter, Contains-from_filter}
use Rattle.wb_names.proofs.Orders.{same_page-is, same_name-is}
use Rattle.wb_display.specs.Display.{is_drawing, is_delete, is_aimed_at, is_last_word, is_hidden_in, is_shown}
use Rattle.wb_display.specs.Layer.{holds_name, is_news, held_with}
use Rattle.wb_display.specs.Laws.{on_page, StandsAlone, HoldsItsPage, HoldsAHistory}
use Rattle.wb_display.proofs.Deciding.{display_total, list_any_nowhere, off_page}
use Rattle.wb_display.proofs.Convergence.{list_any_agree}
use Rattle.wb_display.proofs.Layers.{names_more}

module _ (history : List DrawopValue) (page : PageId) where
  -- what is aimed at a drawop of the page is of the page
  aimed_here : (d : DrawopValue) → d.name.page ≡ page → (f : DrawopValue) → is_aimed_at f d ≡ true → same_page f.name.page page ≡ true
  aimed_here d on f aimed = sym (ap (same_page f.name.page) on) ∙ (and_parts (same_page f.name.page d.name.page) _ aimed).0

  hidden_alone : (d : DrawopValue) → d.name.page ≡ page → is_hidden_in (on_page page history) d ≡ is_hidden_in history d
  hidden_alone d on =
      list_any_agree (λ e. (is_delete e.op && is_aimed_at e d) && is_last_word (on_page page history) d e) (λ e. (is_delete e.op && is_aimed_at e d) && is_last_word history d e)
      (λ e. ap (λ (b : Bool). (is_delete e.op && is_aimed_at e d) && not b) (any-filter_same (λ f. is_aimed_at f d && is_lt (display_cmp e f)) (λ f. same_page f.name.page page) true (λ f t. aimed_here d on f (and_parts (is_aimed_at f d) _ t).0) history))
      (on_page page history)
      ∙ any-filter_same (λ e. (is_delete e.op && is_aimed_at e d) && is_last_word history d e) (λ f. same_page f.name.page page) true (λ e t. aimed_here d on e (and_parts (is_delete e.op) _ (and_parts (is_delete e.op && is_aimed_at e d) _ t).0).1) history

  shown_alone : (d : DrawopValue) → is_shown (on_page page history) page d ≡ is_shown history page d
  shown_alone d = at (same_page d.name.page page) refl where
    at : (b : Bool) → same_page d.name.page page ≡ b → is_shown (on_page page history) page d ≡ is_shown history page d
    at true e = ap (λ (h : Bool). (same_page d.name.page page && is_drawing d.op) && not h) (hidden_alone d (same_page-is d.name.page page e))
    at false e = off_page _ _ _ e ∙ sym (off_page _ _ _ e)

  of_page : (d : DrawopValue) → is_shown history page d ≡ true → same_page d.name.page page ≡ true
  of_page d s = (and_parts (same_page d.name.page page) _ (and_parts (same_page d.name.page page && is_drawing d.op) _ s).0).0

pub stands_alone : StandsAlone
stands_alone history page shown = (
  λ v. lists_same display_total _ _ shown
      (λ d m. ((Contains-from_filter (λ x. same_page x.name.page page) history d m.0).0, sym (shown_alone history page d) ∙ m.1))
      (λ d m. (Contains-filter (λ x. same_page x.name.page page) history d m.0 (of_page history page d m.1), shown_alone history page d ∙ m.1)) v,
  λ v. lists_same display_total _ _ shown
      (λ d m. (Contains-filter (λ x. same_page x.name.page page) history d m.0 (of_page history page d m.1), shown_alone history page d ∙ m.1))
      (λ d m. ((Contains-from_filter (λ x. same_page x.name.page page) history d m.0).0, sym (shown_alone history page d) ∙ m.1)) v,
)

-- a later member's name is new to what stands before it
new_name : (done : List DrawopValue) (d : DrawopValue) (rest : List DrawopValue) (page : PageId) → IsHistory (done ++ d ∷ rest) → holds_name (on_page page done) d.name ≡ false
new_name done d rest page names = list_any_nowhere (λ e. same_name e.name d.name) (on_page page done) (λ e c. false_from_ne_true _ (λ (t : same_name e.name d.name ≡ true). clash e (Contains-from_filter (λ x. same_page x.name.page page) done e c).0 (same_name-is e.name d.name t))) where
  clash : (e : DrawopValue) → Contains done e → e.name ≡ d.name → ⊥
  clash e (k, h, is) same =
      names k (length done) e h (omega (arith, length-append done (d ∷ rest)))
      (ap (λ (x : DrawopValue). x.name) (get_or_append_left done (d ∷ rest) e k h ∙ is) ∙ same ∙ ap (λ (x : DrawopValue). x.name) (sym (get_or_at done d rest e (length done) refl)))

-- a put of the next member
next_held : (done : List DrawopValue) (d : DrawopValue) (rest : List DrawopValue) (page : PageId) → IsHistory (done ++ d ∷ rest) → held_with page (on_page page done) d ≡ on_page page (done ++ d ∷ [])
next_held done d rest page names =
    at (same_page d.name.page page) (holds_name (on_page page done) d.name) (new_name done d rest page names)
    ∙ sym (filter-append (λ x. same_page x.name.page page) done (d ∷ [])) where
      at : (b h : Bool) → h ≡ false → cond (b && not h) (on_page page done ++ d ∷ []) (on_page page done) ≡ on_page page done ++ cond b (d ∷ []) []
      at true true e = cc
      at true false e = refl
      at false h e = sym (append-nil (on_page page done))

all_held : (done rest : List DrawopValue) (page : PageId) → IsHistory (done ++ rest) → fold (held_with page) (on_page page done) rest ≡ on_page page (done ++ rest)
all_held done [] page names = ap (on_page page) (sym (append-nil done))
all_held done (d ∷ rest) page names =
    ap (λ (h : List DrawopValue). fold (held_with page) h rest) (next_held done d rest page names)
    ∙ all_held (done ++ d ∷ []) rest page (subst IsHistory (sym (append_assoc done (d ∷ []) rest)) names)
    ∙ ap (on_page page) (append_assoc done (d ∷ []) rest)

pub holds_its_page : HoldsItsPage
holds_its_page history page names = all_held [] history page names

names_kept : (page : PageId) (held puts : List DrawopValue) → IsHistory held → IsHistory (fold (held_with page) held puts)
names_kept page held [] names = names
names_kept page held (d ∷ puts) names = names_kept page (held_with page held d) puts (at (is_news page held d) refl) where
  at : (b : Bool) → is_news page held d ≡ b → IsHistory (cond b (held ++ d ∷ []) held)
  at true e = names_more held d names (not-true _ (and_parts (same_page d.name.page page) _ e).1)
  at false e = names

pub holds_a_history : HoldsAHistory
holds_a_history puts page = names_kept page [] puts (λ i j d lt h. absurd (omega arith))
