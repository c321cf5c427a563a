-- The view of then becomes the view of now.
use Rattle.std.proofs.Common.{◌≡◌, ℕ, ◌+◌, List, [], ◌∷◌, ◌++◌, length, take, drop, refl, ap, ◌∙◌, sym, subst, append_assoc, append-nil, arith, ⊎_elim, take-append-drop, length-append, get_or, ◌<◌, ◌≤◌, true≢false}
use Rattle.std.specs.Prelude.{Option, unwrap_or, Bool, true, false, not, cond, ◌&&◌, ◌||◌, Contains, filter, fold, map}
use Rattle.std.specs.HashSet.{contains}
use Rattle.std.specs.List.{list_any}
use Rattle.std.specs.Ordering.{is_lt}
use Rattle.std.proofs.lemmas.Bool.{and_parts, and_from, and_right, false_from_ne_true, not-true, not_from_false}
use Rattle.std.proofs.lemmas.Bool.Decides.{nat_tests}
use Rattle.std.proofs.lemmas.List.{get_or_append_left, take-append-le, drop-append-le, take_all, take_more, drop_all, drop_more}
use Rattle.std.proofs.lemmas.List.Elements.{Contains-append_left, Contains-append_cases}
use Rattle.std.proofs.lemmas.List.Folds.{list_any-append, Any-from_list_any}
use Rattle.std.proofs.lemmas.List.Kept.{IsStrictlySortedBy-filter}
use Rattle.std.proofs.Math.Bool.{or-false}
use Rattle.wb_names.specs.History.{IsHistory}
use Rattle.wb_names.specs.Orders.{same_page, display_cmp}
use Rattle.wb_names.specs.Same.{same_target, same_target-is}
use Rattle.wb_names.specs.Values.{DrawopValue}
use Rattle.wb_names.specs.declared.name.PageId.{PageId}
use Rattle.wb_names.specs.declared.parts.Op.{Op}
use Rattle.wb_names.specs.declared.parts.Op.TheVariants.{Aimed}
use Rattle.wb_names.specs.declared.parts.Target.{Target}
use Rattle.wb_names.proofs.Listings.{Contains-filter, Contains-from_filter, same_sorted}
use Rattle.wb_names.proofs.Orders.{name_parts, same_page-is}
use Rattle.wb_display.specs.Display.{is_drawing, is_shown, is_hidden_in, is_delete, is_aimed_at, is_last_word, has_target, IsView}
use Rattle.wb_display.specs.LastWord.{affected_target, aimed_target, own_target}
use Rattle.wb_display.proofs.Deciding.{display_total, one_drawop, list_any_here, list_any_nowhere}
use Rattle.wb_display.proofs.Convergence.{list_any_agree}
use Rattle.wb_display.proofs.Putting.{drawing_names_nothing}
use Rattle.wb_member.specs.Queries.{view_of}
use Rattle.wb_member.proofs.Queries.{view_of_page}
use Rattle.wb_judging.specs.Since.{IsSince, SincePatches, hidden_since, is_among, is_touched, patched, placed_from, placed_if, put_in, touched_by, without}
use Rattle.wb_judging.specs.declared.since.ShownAt.{ShownAt}
use Rattle.wb_judging.specs.declared.since.Since.{Since}
use Rattle.wb_judging.specs.declared.since.Touched.{Touched}

-- ---- those that pass a test are put in where they stood

module _ (test : DrawopValue → Bool) where
  grown : (front : List DrawopValue) (x : DrawopValue) (ys : List DrawopValue) → (front ++ x ∷ []) ++ ys ≡ front ++ x ∷ ys
  grown front x ys = append_assoc front (x ∷ []) ys

  put_at : (front : List DrawopValue) (x : DrawopValue) (place : ℕ) → place ≡ length front → (ys : List DrawopValue) → put_in (front ++ ys) (record { place = place; drawop = x }) ≡ front ++ x ∷ ys
  put_at front x place at ys =
      ap (λ (zs : List DrawopValue). zs ++ x ∷ drop place (front ++ ys)) (take-append-le place front ys (omega arith) ∙ take_all place front (omega arith))
      ∙ ap (λ (zs : List DrawopValue). front ++ x ∷ zs) (drop-append-le place front ys (omega arith) ∙ ap (λ (zs : List DrawopValue). zs ++ ys) (drop_all place front (omega arith)))

  put_one : (front : List DrawopValue) (x : DrawopValue) (xs : List DrawopValue) (place : ℕ) → place ≡ length front → fold put_in ((front ++ x ∷ []) ++ filter (λ d. not (test d)) xs) (placed_from test (place + 1) xs) ≡ (front ++ x ∷ []) ++ xs
      → (b : Bool) → fold put_in (front ++ cond (not b) (x ∷ filter (λ d. not (test d)) xs) (filter (λ d. not (test d)) xs)) (placed_if b place x ++ placed_from test (place + 1) xs) ≡ front ++ x ∷ xs
  put_one front x xs place at next true =
      ap (λ (zs : List DrawopValue). fold put_in zs (placed_from test (place + 1) xs)) (put_at front x place at (filter (λ d. not (test d)) xs) ∙ sym (grown front x (filter (λ d. not (test d)) xs)))
      ∙ next ∙ grown front x xs
  put_one front x xs place at next false =
      ap (λ (zs : List DrawopValue). fold put_in zs (placed_from test (place + 1) xs)) (sym (grown front x (filter (λ d. not (test d)) xs)))
      ∙ next ∙ grown front x xs

  pub put_back : (front xs : List DrawopValue) (place : ℕ) → place ≡ length front → fold put_in (front ++ filter (λ d. not (test d)) xs) (placed_from test place xs) ≡ front ++ xs
  put_back front [] place at = refl
  put_back front (x ∷ xs) place at = put_one front x xs place at (put_back (front ++ x ∷ []) xs (place + 1) (let n = length-append front (x ∷ []) in omega (arith, n, at))) (test x)

-- ---- what is touched

any_map : (p : Target → Bool) (f : DrawopValue → Target) (xs : List DrawopValue) → list_any p (map f xs) ≡ list_any (λ x. p (f x)) xs
any_map p f [] = refl
any_map p f (x ∷ xs) = ap (λ (b : Bool). p (f x) || b) (any_map p f xs)

same_here : (t : Target) → same_target t t ≡ true
same_here t = grind (arith, nat_tests)

-- what a delete or a restore is aimed at is what it may have changed
aims : (op : Op) (own other : Target) → has_target op own.source own.seq ≡ true → same_target own (unwrap_or (aimed_target op) other) ≡ true
aims (Aimed change t) own other h = grind (arith, nat_tests)
aims op own other h = cc

-- a drawing is what it may have changed
touches_itself : (d : DrawopValue) → is_drawing d.op ≡ true → same_target (own_target d) (affected_target d) ≡ true
touches_itself d e = subst (λ (t : Option Target). same_target (own_target d) (unwrap_or t (own_target d)) ≡ true) (sym (drawing_names_nothing d.op e)) (same_here (own_target d))

module _ (page : PageId) (news : List DrawopValue) (d : DrawopValue) where
  on_page : DrawopValue → Bool
  on_page x = same_page x.name.page page

  pub touched_at : (e : DrawopValue) → Contains news e → same_page e.name.page page ≡ true → same_target (own_target d) (affected_target e) ≡ true → list_any (same_target (own_target d)) (touched_by page news) ≡ true
  touched_at e c here same =
      any_map (same_target (own_target d)) affected_target (filter (λ x. same_page x.name.page page) news)
      ∙ list_any_here (λ x. same_target (own_target d) (affected_target x)) (filter (λ x. same_page x.name.page page) news) e (Contains-filter (λ x. same_page x.name.page page) news e c here) same

  -- what is not touched is not aimed at
  pub unaimed : same_page d.name.page page ≡ true → list_any (same_target (own_target d)) (touched_by page news) ≡ false → (e : DrawopValue) → Contains news e → is_aimed_at e d ≡ false
  unaimed here none e c = false_from_ne_true (is_aimed_at e d) (λ (t : is_aimed_at e d ≡ true).
      let p = and_parts (same_page e.name.page d.name.page) _ t in
      let at : same_page e.name.page page ≡ true = subst (λ (q : PageId). same_page e.name.page q ≡ true) (same_page-is d.name.page page here) p.0 in
      let f : true ≡ false = sym (touched_at e c at (aims e.op (own_target d) (own_target e) p.1)) ∙ none in cc)

-- ---- what is not aimed at stays as it was

module _ (xs ys : List DrawopValue) (d : DrawopValue) (still : (e : DrawopValue) → Contains ys e → is_aimed_at e d ≡ false) where
  any_stays : (p : DrawopValue → Bool) → ((e : DrawopValue) → Contains ys e → p e ≡ false) → list_any p (xs ++ ys) ≡ list_any p xs
  any_stays p none = list_any-append p xs ys ∙ ap (λ (b : Bool). list_any p xs || b) (list_any_nowhere p ys none) ∙ or-false (list_any p xs)

  word_stays : (e : DrawopValue) → is_last_word (xs ++ ys) d e ≡ is_last_word xs d e
  word_stays e = ap not (any_stays (λ f. is_aimed_at f d && is_lt (display_cmp e f)) (λ f c. ap (λ (b : Bool). b && is_lt (display_cmp e f)) (still f c)))

  hides_none : (e : DrawopValue) → Contains ys e → ((is_delete e.op && is_aimed_at e d) && is_last_word (xs ++ ys) d e) ≡ false
  hides_none e c = ap (λ (b : Bool). b && is_last_word (xs ++ ys) d e) (and_right (is_delete e.op) (is_aimed_at e d) (still e c))

  hidden_stays : is_hidden_in (xs ++ ys) d ≡ is_hidden_in xs d
  hidden_stays =
      any_stays (λ e. (is_delete e.op && is_aimed_at e d) && is_last_word (xs ++ ys) d e) hides_none
      ∙ list_any_agree (λ e. (is_delete e.op && is_aimed_at e d) && is_last_word (xs ++ ys) d e) (λ e. (is_delete e.op && is_aimed_at e d) && is_last_word xs d e) (λ e. ap (λ (b : Bool). (is_delete e.op && is_aimed_at e d) && b) (word_stays e)) xs

  pub shown_stays : (page : PageId) → is_shown (xs ++ ys) page d ≡ is_shown xs page d
  shown_stays page = ap (λ (b : Bool). (same_page d.name.page page && is_drawing d.op) && not b) hidden_stays

-- ---- the view of then

front_names : (xs ys : List DrawopValue) → IsHistory (xs ++ ys) → IsHistory xs
front_names xs ys names i j e lt h s =
    names i j e lt (omega (arith, length-append xs ys))
    (ap (λ (x : DrawopValue). x.name) (get_or_append_left xs ys e i (omega arith)) ∙ s ∙ ap (λ (x : DrawopValue). x.name) (sym (get_or_append_left xs ys e j h)))

module _ (page : PageId) (xs ys : List DrawopValue) (names : IsHistory (xs ++ ys)) where
  abbrev pub hidden : List Target
  hidden = map own_target (filter (is_touched page ys) xs)

  old_view : IsView xs page (view_of xs page)
  old_view = view_of_page xs page (front_names xs ys names)

  now_view : IsView (xs ++ ys) page (view_of (xs ++ ys) page)
  now_view = view_of_page (xs ++ ys) page names

  module _ (z : DrawopValue) (drawn : (same_page z.name.page page && is_drawing z.op) ≡ true) (untouched : is_touched page ys z ≡ false) where
    here : same_page z.name.page page ≡ true
    here = (and_parts (same_page z.name.page page) _ drawn).0

    unnamed : list_any (same_target (own_target z)) (touched_by page ys) ≡ false
    unnamed = false_from_ne_true _ (λ (t : list_any (same_target (own_target z)) (touched_by page ys) ≡ true). let f : true ≡ false = sym (and_from _ _ drawn t) ∙ untouched in cc)

    stays : is_shown (xs ++ ys) page z ≡ is_shown xs page z
    stays = shown_stays xs ys z (unaimed page ys z here unnamed) page

    -- it did not come since then
    was_held : Contains (xs ++ ys) z → Contains xs z
    was_held c = ⊎_elim (λ (c : Contains xs z). c) (λ (c : Contains ys z). absurd (true≢false (sym (touched_at page ys z z c here (touches_itself z (and_parts (same_page z.name.page page) _ drawn).1)) ∙ unnamed))) (Contains-append_cases xs ys z c)

    -- it is not taken off
    not_hidden : Contains xs z → list_any (same_target (own_target z)) (map own_target (filter (is_touched page ys) xs)) ≡ false
    not_hidden c = false_from_ne_true _ (λ (t : list_any (same_target (own_target z)) (map own_target (filter (is_touched page ys) xs)) ≡ true).
        let found = Any-from_list_any (λ x. same_target (own_target z) (own_target x)) (filter (is_touched page ys) xs) (sym (any_map (same_target (own_target z)) own_target (filter (is_touched page ys) xs)) ∙ t) in
        let y : DrawopValue = found.1 in
        let there = Contains-from_filter (is_touched page ys) xs y (found.0, found.2, found.3) in
        let same : own_target z ≡ own_target y = same_target-is (own_target z) (own_target y) found.4 in
        let at : y.name.page ≡ page = same_page-is y.name.page page (and_parts (same_page y.name.page page) _ (and_parts (same_page y.name.page page && is_drawing y.op) _ there.1).0).0 in
        let name : z.name ≡ y.name = name_parts z.name.source y.name.source z.name.page y.name.page z.name.seq y.name.seq (ap (λ (v : Target). v.source) same) (same_page-is z.name.page page here ∙ sym at) (ap (λ (v : Target). v.seq) same) in
        let one : z ≡ y = one_drawop xs (front_names xs ys names) z y c there.0 name in
        let f : true ≡ false = sym there.1 ∙ ap (is_touched page ys) (sym one) ∙ untouched in cc)

  to : (z : DrawopValue) → Contains (without hidden (view_of xs page)) z → Contains (filter (λ d. not (is_touched page ys d)) (view_of (xs ++ ys) page)) z
  to z c =
      let f = Contains-from_filter (λ d. not (list_any (same_target (own_target d)) hidden)) (view_of xs page) z c in
      let m = (old_view.members z).0 f.0 in
      let drawn = (and_parts (same_page z.name.page page && is_drawing z.op) _ m.1).0 in
      let untouched : is_touched page ys z ≡ false = false_from_ne_true _ (λ (t : is_touched page ys z ≡ true).
      let named : list_any (same_target (own_target z)) hidden ≡ true = any_map (same_target (own_target z)) own_target (filter (is_touched page ys) xs) ∙ list_any_here (λ x. same_target (own_target z) (own_target x)) (filter (is_touched page ys) xs) z (Contains-filter (is_touched page ys) xs z m.0 t) (same_here (own_target z)) in
      let g : true ≡ false = sym named ∙ not-true _ f.1 in cc) in
      Contains-filter (λ d. not (is_touched page ys d)) (view_of (xs ++ ys) page) z ((now_view.members z).1 (Contains-append_left xs ys z m.0, stays z drawn untouched ∙ m.1)) (not_from_false _ untouched)

  from : (z : DrawopValue) → Contains (filter (λ d. not (is_touched page ys d)) (view_of (xs ++ ys) page)) z → Contains (without hidden (view_of xs page)) z
  from z c =
      let f = Contains-from_filter (λ d. not (is_touched page ys d)) (view_of (xs ++ ys) page) z c in
      let m = (now_view.members z).0 f.0 in
      let drawn = (and_parts (same_page z.name.page page && is_drawing z.op) _ m.1).0 in
      let untouched : is_touched page ys z ≡ false = not-true _ f.1 in
      let held = was_held z drawn untouched m.0 in
      Contains-filter (λ d. not (list_any (same_target (own_target d)) hidden)) (view_of xs page) z ((old_view.members z).1 (held, sym (stays z drawn untouched) ∙ m.1)) (not_from_false _ (not_hidden z drawn untouched held))

  -- without the hidden ones, the view of then is the view of now without what may have changed
  pub left : without hidden (view_of xs page) ≡ filter (λ d. not (is_touched page ys d)) (view_of (xs ++ ys) page)
  left = same_sorted display_total _ _ (IsStrictlySortedBy-filter display_cmp _ (view_of xs page) old_view.rising) (IsStrictlySortedBy-filter display_cmp _ (view_of (xs ++ ys) page) now_view.rising) to from

  pub patches : patched hidden (placed_from (is_touched page ys) 0 (view_of (xs ++ ys) page)) (view_of xs page) ≡ view_of (xs ++ ys) page
  patches = ap (λ (zs : List DrawopValue). fold put_in zs (placed_from (is_touched page ys) 0 (view_of (xs ++ ys) page))) left ∙ put_back (is_touched page ys) [] (view_of (xs ++ ys) page) 0 refl

pub since_patches : SincePatches
since_patches page count held names =
    let whole = take-append-drop count held in
    subst (λ (h : List DrawopValue). patched (hidden_since page count held) (placed_from (is_touched page (drop count held)) 0 (view_of h page)) (view_of (take count held) page) ≡ view_of h page) whole
    (patches page (take count held) (drop count held) (subst IsHistory (sym whole) names))

-- ---- what the code gathers

same_flipped : (t u : Target) → same_target t u ≡ same_target u t
same_flipped t u = grind (arith, nat_tests)

or_cond : (b c : Bool) → cond b true c ≡ (c || (b || false))
or_cond true true = refl
or_cond true false = refl
or_cond false true = refl
or_cond false false = refl

-- one more of a list is put into a set
pub inserted : (targets : List Target) (i : ℕ) (d t : Target) (before after : Bool) → i < length targets → after ≡ cond (same_target (get_or targets i d) t) true before → before ≡ list_any (same_target t) (take i targets)
    → after ≡ list_any (same_target t) (take (i + 1) targets)
inserted targets i d t before after lt puts was =
    puts ∙ or_cond (same_target (get_or targets i d) t) before ∙ ap (λ (b : Bool). b || (same_target (get_or targets i d) t || false)) was
    ∙ ap (λ (b : Bool). list_any (same_target t) (take i targets) || (b || false)) (same_flipped (get_or targets i d) t)
    ∙ sym (list_any-append (same_target t) (take i targets) (get_or targets i d ∷ []))
    ∙ ap (list_any (same_target t)) (sym (take_more targets i d lt))

-- one more of a list is looked at
pub placed_step : (test : DrawopValue → Bool) (place : ℕ) (list : List DrawopValue) (d : DrawopValue) (before after : List ShownAt) → place < length list → d ≡ get_or list place d → after ≡ before ++ placed_if (test d) place d
    → before ++ placed_from test place (drop place list) ≡ placed_from test 0 list → after ++ placed_from test (place + 1) (drop (place + 1) list) ≡ placed_from test 0 list
placed_step test place list d before after lt is grown was =
    ap (λ (ps : List ShownAt). ps ++ placed_from test (place + 1) (drop (place + 1) list)) grown
    ∙ append_assoc before (placed_if (test d) place d) (placed_from test (place + 1) (drop (place + 1) list))
    ∙ ap (λ (x : DrawopValue). before ++ (placed_if (test x) place x ++ placed_from test (place + 1) (drop (place + 1) list))) is
    ∙ ap (λ (ds : List DrawopValue). before ++ placed_from test place ds) (sym (drop_more list place d lt))
    ∙ was

-- the test that the code makes is the one that is meant
pub same_test : (page : PageId) (news : List DrawopValue) (touched : Touched) → touched.page ≡ page → ((t : Target) → contains same_target touched.names t ≡ list_any (same_target t) (touched_by page news)) → is_among touched ≡ is_touched page news
same_test page news touched at names = λ i d. (same_page d.name.page (at i) && is_drawing d.op) && names (own_target d) i

-- all of a list was looked at
pub placed_end : (test : DrawopValue → Bool) (place : ℕ) (list : List DrawopValue) (before : List ShownAt) → length list ≤ place → before ++ placed_from test place (drop place list) ≡ placed_from test 0 list → before ≡ placed_from test 0 list
placed_end test place list before le was = sym (append-nil before) ∙ ap (λ (ds : List DrawopValue). before ++ placed_from test place ds) (sym (drop_all place list le)) ∙ was

pub compared : (page : PageId) (count : ℕ) (held view before news : List DrawopValue) (touched : Touched) (since : Since) → is_among touched ≡ is_touched page news → before ≡ take count held → news ≡ drop count held
    → since.held ≡ length held → since.hidden.items ≡ map own_target (filter (is_among touched) before) → since.shown.items ≡ placed_from (is_among touched) 0 view → view ≡ view_of held page → IsSince page count held since
compared page count held view before news touched since test first last many hidden shown is =
    let same : is_among touched ≡ is_touched page (drop count held) = test ∙ ap (is_touched page) last in record {
      held_now = many;
      hidden = hidden ∙ ap (λ (p : DrawopValue → Bool). map own_target (filter p before)) same ∙ ap (λ (ds : List DrawopValue). map own_target (filter (is_touched page (drop count held)) ds)) first;
      shown = shown ∙ ap (λ (p : DrawopValue → Bool). placed_from p 0 view) same ∙ ap (placed_from (is_touched page (drop count held)) 0) is;
    }
