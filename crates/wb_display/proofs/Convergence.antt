-- Histories that hold the same drawops show the same; and if nothing is restored, as by the rule that knows deletes alone.
use Rattle.std.proofs.Common.{◌≡◌, List, refl, ap, ◌∙◌, sym, subst, ℕ}
use Rattle.std.specs.Prelude.{Bool, ◌↔◌, not, ◌&&◌, Contains, IsPermutation, true, false, All, Option, Some, None}
use Rattle.std.specs.List.{list_any}
use Rattle.std.specs.Ordering.{is_lt}
use Rattle.std.proofs.lemmas.List.Sorted.{Contains-permutation, IsPermutation-sym, list_any-IsPermutation}
use Rattle.wb_names.specs.Values.{DrawopValue}
use Rattle.wb_names.specs.Orders.{same_page, display_cmp}
use Rattle.wb_names.specs.declared.name.PageId.{PageId}
use Rattle.wb_names.specs.Listing.{Lists}
use Rattle.wb_names.proofs.Listings.{one_list}
use Rattle.wb_display.specs.Canvas.{canvas_text}
use Rattle.wb_display.specs.Display.{is_drawing, is_delete, is_aimed_at, is_last_word, is_hidden_in, is_shown, IsView, is_restore, has_target}
use Rattle.wb_display.specs.Laws.{Converges, StaysAView, PaintsAlike, is_deleted_in, was_shown, IsOlderView, AgreesWithOlderRule}
use Rattle.wb_display.proofs.Deciding.{display_total, list_any_here, list_any_nowhere, last_word-is}
use Rattle.std.proofs.lemmas.List.Elements.{All-contains}
use Rattle.std.proofs.lemmas.Bool.{and_parts, false_from_ne_true, and_from}
use Rattle.wb_names.specs.declared.parts.Change.TheVariants.{Delete}
use Rattle.wb_names.specs.declared.parts.Op.{Op}
use Rattle.wb_names.specs.declared.parts.Op.TheVariants.{Aimed}
use Rattle.wb_display.specs.LastWord.{own_target, word_of, word_cmp, IsLastWord}
use Rattle.wb_display.specs.declared.last_words.LastWord.{LastWord}
use Rattle.wb_display.proofs.Putting.{last_word_of}

-- tests that agree are passed alike
pub list_any_agree : (p q : DrawopValue → Bool) → ((x : DrawopValue) → p x ≡ q x) → (xs : List DrawopValue) → list_any p xs ≡ list_any q xs
list_any_agree p q e xs = λ i. list_any (λ x. e x i) xs

same_last_word : (one other : List DrawopValue) → IsPermutation one other → (d e : DrawopValue) → is_last_word one d e ≡ is_last_word other d e
same_last_word one other moved d e = ap not (list_any-IsPermutation (λ f. is_aimed_at f d && is_lt (display_cmp e f)) one other moved)

same_hidden : (one other : List DrawopValue) → IsPermutation one other → (d : DrawopValue) → is_hidden_in one d ≡ is_hidden_in other d
same_hidden one other moved d =
    list_any_agree (λ e. (is_delete e.op && is_aimed_at e d) && is_last_word one d e) (λ e. (is_delete e.op && is_aimed_at e d) && is_last_word other d e) (λ e. ap (λ (b : Bool). (is_delete e.op && is_aimed_at e d) && b) (same_last_word one other moved d e)) one
    ∙ list_any-IsPermutation (λ e. (is_delete e.op && is_aimed_at e d) && is_last_word other d e) one other moved

same_test : (one other : List DrawopValue) (page : PageId) → IsPermutation one other → (d : DrawopValue) → is_shown one page d ≡ is_shown other page d
same_test one other page moved d = ap (λ (h : Bool). (same_page d.name.page page && is_drawing d.op) && not h) (same_hidden one other moved d)

-- the view of one is the view of the other
pub stays_a_view : StaysAView
stays_a_view one other page shown moved a = record {
  rising = a.rising;
  members = λ d. (
    (λ h. let m = (a.members d).0 h in (Contains-permutation one other d moved m.0, sym (same_test one other page moved d) ∙ m.1)),
    (λ m. (a.members d).1 (Contains-permutation other one d (IsPermutation-sym one other moved) m.0, same_test one other page moved d ∙ m.1)),
  );
}

pub converges : Converges
converges one other page shown again moved a b = one_list display_total _ shown again (stays_a_view one other page shown moved a) b

pub paints_alike : PaintsAlike
paints_alike one other page shown again w h moved a b = ap (λ (ds : List DrawopValue). canvas_text ds w h) (converges one other page shown again moved a b)

-- ---- if nothing is restored, the latest word on a drawop is a delete, if there is a word at all

deletes_unless : (op : Op) (s n : ℕ) → has_target op s n ≡ true → is_restore op ≡ false → is_delete op ≡ true
deletes_unless (Aimed Delete target) s n t r = refl
deletes_unless op s n t r = cc

module _ (history : List DrawopValue) (nothing : All (λ e. is_restore e.op ≡ false) history) (d : DrawopValue) where
  hidden_as_before : (r : Option LastWord) → IsLastWord history d.name.page (own_target d) r → is_hidden_in history d ≡ is_deleted_in history d
  hidden_as_before None none =
      list_any_nowhere (λ e. (is_delete e.op && is_aimed_at e d) && is_last_word history d e) history (λ e c. false_from_ne_true _ (λ (t : ((is_delete e.op && is_aimed_at e d) && is_last_word history d e) ≡ true). let p = (and_parts (is_delete e.op) _ (and_parts (is_delete e.op && is_aimed_at e d) _ t).0).1 in let g : true ≡ false = sym p ∙ none e c in cc))
      ∙ sym (list_any_nowhere (λ e. is_delete e.op && is_aimed_at e d) history (λ e c. false_from_ne_true _ (λ (t : (is_delete e.op && is_aimed_at e d) ≡ true). let p = (and_parts (is_delete e.op) _ t).1 in let g : true ≡ false = sym p ∙ none e c in cc)))
  hidden_as_before (Some w) (from, last) =
      let e : DrawopValue = from.0 in
      let deletes : is_delete e.op ≡ true = deletes_unless e.op d.name.source d.name.seq (and_parts (same_page e.name.page d.name.page) _ from.2).1 (All-contains (λ (x : DrawopValue). is_restore x.op ≡ false) history e nothing from.1) in
      let latest : (f : DrawopValue) → Contains history f → is_aimed_at f d ≡ true → is_lt (display_cmp e f) ≡ false = λ f c aimed. ap (λ (v : LastWord). is_lt (word_cmp v (word_of f))) from.3 ∙ last f c aimed in
      list_any_here (λ e. (is_delete e.op && is_aimed_at e d) && is_last_word history d e) history e from.1 (and_from _ _ (and_from _ _ deletes from.2) (last_word-is history d e latest))
      ∙ sym (list_any_here (λ e. is_delete e.op && is_aimed_at e d) history e from.1 (and_from _ _ deletes from.2))

  shown_as_before : (page : PageId) → is_shown history page d ≡ was_shown history page d
  shown_as_before page = let r = last_word_of history d.name.page (own_target d) in ap (λ (h : Bool). (same_page d.name.page page && is_drawing d.op) && not h) (hidden_as_before r.0 r.1)

pub older_rule : AgreesWithOlderRule
older_rule history page shown nothing =
    let same : IsView history page shown ≡ IsOlderView history page shown = λ i. Lists display_cmp (λ d. Contains history d × (shown_as_before history nothing d page i ≡ true)) shown in
    subst (λ (View : Type 0). IsView history page shown ↔ View) same ((λ v. v), (λ v. v))
