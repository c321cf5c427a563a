-- What one more drawop changes of a view.
use Rattle.std.proofs.lemmas.Grind.{common_steps}
use Rattle.std.proofs.Common.{◌≡◌, List, [], ◌∷◌, ◌++◌, refl, ap, ◌∙◌, sym, subst, ⊎_elim, append-nil, append_assoc, arith, ℕ, ◌<◌, length, get_or, length-append}
use Rattle.std.proofs.lemmas.Bool.Decides.{nat_tests}
use Rattle.std.specs.Prelude.{◌≢◌, ◌↔◌, Bool, true, false, ◌&&◌, Contains, Option, Some, None, unwrap_or, All}
use Rattle.std.specs.Ordering.{is_eq, is_lt}
use Rattle.std.proofs.lemmas.List.Elements.{Contains-append_left, Contains-push, Contains-push_cases, All-contains}
use Rattle.std.proofs.lemmas.Bool.{and_parts, and_right, both_ways, false_from_ne_true, and_from, not-false, not-true, not_from_false}
use Rattle.wb_names.specs.Values.{DrawopValue}
use Rattle.wb_names.specs.History.{IsHistory}
use Rattle.wb_names.specs.Orders.{same_page, display_cmp}
use Rattle.wb_names.specs.Same.{same_drawop, same_drawop-Decides, same_target, same_target-is}
use Rattle.wb_names.specs.declared.name.PageId.{PageId}
use Rattle.wb_names.specs.declared.parts.Op.{Op}
use Rattle.wb_names.specs.declared.parts.Op.TheVariants.{Aimed}
use Rattle.wb_names.proofs.Listings.{Contains-cases, Contains-none}
use Rattle.wb_names.proofs.Orders.{name_parts, same_page-is}
use Rattle.wb_display.specs.Display.{is_drawing, is_shown, IsView, is_delete, has_target, is_aimed_at, is_last_word, is_hidden_in}
use Rattle.wb_display.specs.DisplayList.{SetsShown, TiesAlone}
use Rattle.wb_display.specs.TakingIn.{IsShownIn, Touches}
use Rattle.wb_display.specs.LastWord.{own_target, aimed_target, affected_target, word_of, later_word, speaks_of, IsLastWord, word_cmp}
use Rattle.wb_names.specs.declared.parts.Target.{Target}
use Rattle.wb_display.specs.declared.last_words.LastWord.{LastWord}
use Rattle.wb_display.proofs.Deciding.{word_said, unsaid, aims_nowhere, one_drawop, tie_names, shown_by, not_before_itself, stays_last, hidden_by, last_word-says}
use Rattle.std.proofs.lemmas.List.{get_or_append_left}
use Rattle.std.proofs.lemmas.List.Folds.{Any-from_list_any}
use Rattle.wb_display.specs.Laws.{PutChanges, PutsShow}

-- there is a last word on each target
more_words : (page : PageId) (target : Target) (xs ys : List DrawopValue) → (r : Option LastWord) × IsLastWord xs page target r → (r : Option LastWord) × IsLastWord (xs ++ ys) page target r
more_words page target xs [] known = (known.0, subst (λ (zs : List DrawopValue). IsLastWord zs page target known.0) (sym (append-nil xs)) known.1)
more_words page target xs (y ∷ ys) known =
    let next : (r : Option LastWord) × IsLastWord (xs ++ y ∷ []) page target r =
    (let at : (b : Bool) → speaks_of page target y ≡ b → (r : Option LastWord) × IsLastWord (xs ++ y ∷ []) page target r =
    λ b. elim b as (λ b. speaks_of page target y ≡ b → (r : Option LastWord) × IsLastWord (xs ++ y ∷ []) page target r) [
      | true ↦ λ e. (Some (later_word known.0 (word_of y)), word_said xs page target y known.0 e known.1)
      | false ↦ λ e. (known.0, unsaid xs page target y known.0 e known.1)
    ] in at (speaks_of page target y) refl) in
    let all = more_words page target (xs ++ y ∷ []) ys next in
    (all.0, subst (λ (zs : List DrawopValue). IsLastWord zs page target all.0) (append_assoc xs (y ∷ []) ys) all.1)

pub last_word_of : (history : List DrawopValue) (page : PageId) (target : Target) → (r : Option LastWord) × IsLastWord history page target r
last_word_of history page target = more_words page target [] history (None, λ e c. absurd (Contains-none e c))

pub drawing_names_nothing : (op : Op) → is_drawing op ≡ true → aimed_target op ≡ None
drawing_names_nothing (Aimed change t) e = cc
drawing_names_nothing op e = refl

-- a drawop says nothing of another target than the one that it affects
silent : (page : PageId) (d : DrawopValue) (l : Target) → same_target (affected_target d) l ≡ false → speaks_of page l d ≡ false
silent page d l differs = grind (arith, common_steps)

-- nothing is touched before the first
pub touched_none : (page : PageId) (held : List DrawopValue) → Touches page held held []
touched_none page held = grind (arith, common_steps)

module _ (held : List DrawopValue) (d : DrawopValue) (page : PageId) (names : IsHistory held) (more : IsHistory (held ++ d ∷ [])) (here : (x : DrawopValue) → Contains (held ++ d ∷ []) x → same_page x.name.page page ≡ true) where
  -- whether a drawop of which nothing is said is shown stays
  pub unspoken : (x : DrawopValue) → speaks_of page (own_target x) d ≡ false → is_shown (held ++ d ∷ []) page x ≡ is_shown held page x
  unspoken x still =
      let r = last_word_of held page (own_target x) in
      shown_by (held ++ d ∷ []) page x r.0 more (unsaid held page (own_target x) d r.0 still r.1) ∙ sym (shown_by held page x r.0 names r.1)

  -- whether any other drawop is shown stays
  pub unaffected : (x : DrawopValue) → same_target (affected_target d) (own_target x) ≡ false → is_shown (held ++ d ∷ []) page x ≡ is_shown held page x
  unaffected x differs = unspoken x (silent page d (own_target x) differs)

  -- a shown drawop of another target was there before
  before : (x : DrawopValue) → Contains (held ++ d ∷ []) x → is_shown (held ++ d ∷ []) page x ≡ true → same_target (affected_target d) (own_target x) ≡ false → Contains held x
  before x c s differs = ⊎_elim (λ (h : Contains held x). h) (λ (e : d ≡ x). absurd (
      let draws : is_drawing x.op ≡ true = (and_parts (same_page x.name.page page) _ (and_parts (same_page x.name.page page && is_drawing x.op) _ s).0).1 in
      let none : aimed_target d.op ≡ None = drawing_names_nothing d.op (ap (λ (y : DrawopValue). is_drawing y.op) e ∙ draws) in
      let own : affected_target d ≡ own_target x = ap (λ (o : Option Target). unwrap_or o (own_target d)) none ∙ ap own_target e in
      let t : true ≡ false = sym (same_target-here (own_target x)) ∙ ap (λ (l : Target). same_target l (own_target x)) (sym own) ∙ differs in
      cc)) (Contains-push_cases held d x c) where
        same_target-here : (l : Target) → same_target l l ≡ true
        same_target-here l = grind (arith, nat_tests)

  -- two held drawops of one target are one
  one_target : (l : Target) (x y : DrawopValue) → Contains (held ++ d ∷ []) x → Contains (held ++ d ∷ []) y → same_target l (own_target x) ≡ true → same_target l (own_target y) ≡ true → x ≡ y
  one_target l x y cx cy ex ey =
      let same : own_target x ≡ own_target y = sym (same_target-is l (own_target x) ex) ∙ same_target-is l (own_target y) ey in
      one_drawop (held ++ d ∷ []) more x y cx cy (name_parts _ _ _ _ _ _ (ap (λ (m : Target). m.source) same) (same_page-is x.name.page page (here x cx) ∙ sym (same_page-is y.name.page page (here y cy))) (ap (λ (m : Target). m.seq) same))

  -- of what is shown the affected drawop alone changes
  stays_elsewhere : (x : DrawopValue) → same_target (affected_target d) (own_target x) ≡ false → IsShownIn (held ++ d ∷ []) page x ↔ IsShownIn held page x
  stays_elsewhere x differs = (
    (λ m. (before x m.0 m.1 differs, sym (unaffected x differs) ∙ m.1)),
    (λ m. let c = Contains-append_left held (d ∷ []) x m.0 in (c, unaffected x differs ∙ m.1)),
  )

  -- the affected one is touched
  pub touches_stake : (start touched : List DrawopValue) (a : DrawopValue) → Contains (held ++ d ∷ []) a → same_target (affected_target d) (own_target a) ≡ true → Touches page start held touched → Touches page start (held ++ d ∷ []) (touched ++ a ∷ [])
  touches_stake start touched a ca la t = record {
    more = λ x c. Contains-append_left held (d ∷ []) x (t.more x c);
    among = λ x c. ⊎_elim (λ (h : Contains touched x). Contains-append_left held (d ∷ []) x (t.among x h)) (λ (e : a ≡ x). subst (Contains (held ++ d ∷ [])) e ca) (Contains-push_cases touched a x c);
    others = λ x out. ((λ m. to x out (same_target (affected_target d) (own_target x)) refl m), (λ m. from x out (same_target (affected_target d) (own_target x)) refl m));
  } where
    was_out : (x : DrawopValue) → ¬ Contains (touched ++ a ∷ []) x → ¬ Contains touched x
    was_out x out c = out (Contains-append_left touched (a ∷ []) x c)

    not_stake : (x : DrawopValue) → ¬ Contains (touched ++ a ∷ []) x → Contains (held ++ d ∷ []) x → same_target (affected_target d) (own_target x) ≡ true → ⊥
    not_stake x out c l = out (subst (Contains (touched ++ a ∷ [])) (one_target (affected_target d) a x ca c la l) (Contains-push touched a))

    to : (x : DrawopValue) → ¬ Contains (touched ++ a ∷ []) x → (b : Bool) → same_target (affected_target d) (own_target x) ≡ b → IsShownIn (held ++ d ∷ []) page x → IsShownIn start page x
    to x out true l m = absurd (not_stake x out m.0 l)
    to x out false l m = (t.others x (was_out x out)).0 ((stays_elsewhere x l).0 m)

    from : (x : DrawopValue) → ¬ Contains (touched ++ a ∷ []) x → (b : Bool) → same_target (affected_target d) (own_target x) ≡ b → IsShownIn start page x → IsShownIn (held ++ d ∷ []) page x
    from x out true l m = absurd (not_stake x out (Contains-append_left held (d ∷ []) x ((t.others x (was_out x out)).1 m).0) l)
    from x out false l m = (stays_elsewhere x l).1 ((t.others x (was_out x out)).1 m)

  -- none is affected
  pub touches_no_stake : (start touched : List DrawopValue) → ((x : DrawopValue) → Contains (held ++ d ∷ []) x → same_target (affected_target d) (own_target x) ≡ false) → Touches page start held touched → Touches page start (held ++ d ∷ []) touched
  touches_no_stake start touched differs t = record {
    more = λ x c. Contains-append_left held (d ∷ []) x (t.more x c);
    among = λ x c. Contains-append_left held (d ∷ []) x (t.among x c);
    others = λ x out. (
      (λ m. (t.others x out).0 ((stays_elsewhere x (differs x m.0)).0 m)),
      (λ m. let s = (t.others x out).1 m in (stays_elsewhere x (differs x (Contains-append_left held (d ∷ []) x s.0))).1 s),
    );
  }

  -- the affected drawop is held: the view after is the view before, with it shown or not
  pub view_changed : (a : DrawopValue) (shown after : List DrawopValue) → Contains (held ++ d ∷ []) a → same_target (affected_target d) (own_target a) ≡ true → IsView held page shown → SetsShown a (is_shown (held ++ d ∷ []) page a) shown after → IsView (held ++ d ∷ []) page after
  view_changed a shown after ca la view changed = record { rising = changed.rising; members = λ x. at x (same_drawop x a) refl } where
    touches : Touches page held (held ++ d ∷ []) (a ∷ [])
    touches = touches_stake held [] a ca la (touched_none page held)

    at : (x : DrawopValue) (b : Bool) → same_drawop x a ≡ b → Contains after x ↔ IsShownIn (held ++ d ∷ []) page x
    at x true e = subst (λ (y : DrawopValue). Contains after y ↔ IsShownIn (held ++ d ∷ []) page y) (sym ((same_drawop-Decides x a).0 e)) ((λ h. (ca, changed.itself.0 h)), (λ m. changed.itself.1 m.1))
    at x false e =
        let ne : x ≢ a = λ s. both_ways _ e ((same_drawop-Decides x a).1 s) in
        let stays = touches.others x (λ c. ⊎_elim (λ (s : a ≡ x). ne (sym s)) (λ (n : Contains [] x). Contains-none x n) (Contains-cases a x [] c)) in
        ((λ h. stays.1 ((view.members x).0 ((changed.others x ne).0 h))), (λ m. (changed.others x ne).1 ((view.members x).1 (stays.0 m))))

  -- no affected drawop is held: the view stays
  pub view_stays : (shown : List DrawopValue) → ((x : DrawopValue) → Contains (held ++ d ∷ []) x → same_target (affected_target d) (own_target x) ≡ false) → IsView held page shown → IsView (held ++ d ∷ []) page shown
  view_stays shown differs view = record { rising = view.rising; members = λ x. ((λ h. (stays x).1 ((view.members x).0 h)), (λ m. (view.members x).1 ((stays x).0 m))) } where
    stays : (x : DrawopValue) → IsShownIn (held ++ d ∷ []) page x ↔ IsShownIn held page x
    stays x = (touches_no_stake held [] differs (touched_none page held)).others x (Contains-none x)

  -- what ties with a held drawop in the view is that drawop
  pub ties_alone : (a : DrawopValue) (shown : List DrawopValue) → Contains (held ++ d ∷ []) a → IsView held page shown → TiesAlone shown a
  ties_alone a shown ca view x h tie =
      let c = Contains-append_left held (d ∷ []) x ((view.members x).0 h).0 in
      one_drawop (held ++ d ∷ []) more x a c ca (tie_names page x a (here x c) (here a ca) (ap is_eq tie))

-- ---- the same, said of the view

-- the front of a history is one
pub names_before : (held : List DrawopValue) (d : DrawopValue) → IsHistory (held ++ d ∷ []) → IsHistory held
names_before held d more i j e lt h s =
    more i j e lt (omega (arith, length-append held (d ∷ [])))
    (ap (λ (x : DrawopValue). x.name) (get_or_append_left held (d ∷ []) e i (omega arith)) ∙ s ∙ ap (λ (x : DrawopValue). x.name) (sym (get_or_append_left held (d ∷ []) e j h)))

module _ (page : PageId) (held : List DrawopValue) (d : DrawopValue) (shown after : List DrawopValue) (more : IsHistory (held ++ d ∷ [])) (all : All (λ x. same_page x.name.page page ≡ true) (held ++ d ∷ [])) (view : IsView held page shown) (viewed : IsView (held ++ d ∷ []) page after) where
  names : IsHistory held
  names = names_before held d more

  here : (x : DrawopValue) → Contains (held ++ d ∷ []) x → same_page x.name.page page ≡ true
  here x c = All-contains (λ (x : DrawopValue). same_page x.name.page page ≡ true) (held ++ d ∷ []) x all c

  draws : (x : DrawopValue) → is_shown (held ++ d ∷ []) page x ≡ true → is_drawing x.op ≡ true
  draws x s = (and_parts (same_page x.name.page page) _ (and_parts (same_page x.name.page page && is_drawing x.op) _ s).0).1

  -- what is aimed at a drawop of the page speaks of its target
  speaks : (x f : DrawopValue) → same_page x.name.page page ≡ true → is_aimed_at f x ≡ speaks_of page (own_target x) f
  speaks x f on = ap (λ (p : PageId). same_page f.name.page p && has_target f.op x.name.source x.name.seq) (same_page-is x.name.page page on)

  silent_drawing : is_drawing d.op ≡ true → (p : PageId) (x : DrawopValue) → speaks_of p (own_target x) d ≡ false
  silent_drawing drawn p x = and_right (same_page d.name.page p) _ (aims_nowhere d.op (own_target x) (drawing_names_nothing d.op drawn))

  -- where showing stays, and d is not x, the view has x as before
  stays : (x : DrawopValue) → (Contains (held ++ d ∷ []) x → is_shown (held ++ d ∷ []) page x ≡ is_shown held page x) → (is_shown (held ++ d ∷ []) page x ≡ true → d ≢ x) → Contains after x ↔ Contains shown x
  stays x still ne = (
    (λ h. let m = (viewed.members x).0 h in (view.members x).1 (⊎_elim (λ (c : Contains held x). c) (λ (e : d ≡ x). absurd (ne m.1 e)) (Contains-push_cases held d x m.0), sym (still m.0) ∙ m.1)),
    (λ h. let m = (view.members x).0 h in let c = Contains-append_left held (d ∷ []) x m.0 in (viewed.members x).1 (c, still c ∙ m.1)),
  )

  not_drawn : is_drawing d.op ≡ false → (x : DrawopValue) → is_shown (held ++ d ∷ []) page x ≡ true → d ≢ x
  not_drawn changes x s e = let t : true ≡ false = sym (draws x s) ∙ ap (λ (y : DrawopValue). is_drawing y.op) (sym e) ∙ changes in cc

  same_hidden : is_drawing d.op ≡ true → is_hidden_in (held ++ d ∷ []) d ≡ is_hidden_in held d
  same_hidden drawn =
      let r = last_word_of held d.name.page (own_target d) in
      hidden_by (held ++ d ∷ []) d more r.0 (unsaid held d.name.page (own_target d) d r.0 (silent_drawing drawn d.name.page d) r.1) ∙ sym (hidden_by held d names r.0 r.1)

  enters : is_drawing d.op ≡ true → Contains after d ↔ (is_hidden_in held d ≡ false)
  enters drawn = (
    (λ h. let s = ((viewed.members d).0 h).1 in sym (same_hidden drawn) ∙ not-true _ (and_parts (same_page d.name.page page && is_drawing d.op) _ s).1),
    (λ e. (viewed.members d).1 (Contains-push held d, and_from _ _ (and_from _ _ (here d (Contains-push held d)) drawn) (not_from_false _ (same_hidden drawn ∙ e)))),
  )

  -- d is the last word on x
  decides : (x : DrawopValue) → Contains held x → is_drawing x.op ≡ true → is_aimed_at d x ≡ true → is_last_word held x d ≡ true → Contains after x ↔ (is_delete d.op ≡ false)
  decides x c drawn aimed last =
      let cx = Contains-append_left held (d ∷ []) x c in
      let on = here x cx in
      let word : IsLastWord (held ++ d ∷ []) page (own_target x) (Some (word_of d)) = (
        (d, Contains-push held d, sym (speaks x d on) ∙ aimed, refl),
        λ f h said. ⊎_elim (λ (cf : Contains held f). last_word-says held x d last f cf (speaks x f on ∙ said)) (λ (e : d ≡ f). ap (λ (g : DrawopValue). is_lt (word_cmp (word_of d) (word_of g))) (sym e) ∙ not_before_itself (word_of d)) (Contains-push_cases held d f h),
      ) in
      let by = shown_by (held ++ d ∷ []) page x (Some (word_of d)) more word in (
        (λ h. not-true _ (and_parts (same_page x.name.page page && is_drawing x.op) _ (sym by ∙ ((viewed.members x).0 h).1)).1),
        (λ e. (viewed.members x).1 (cx, by ∙ and_from _ _ (and_from _ _ on drawn) (not_from_false _ e))),
      )

  -- a later word on x is held
  outdone : is_drawing d.op ≡ false → (x : DrawopValue) → is_aimed_at d x ≡ true → is_last_word held x d ≡ false → Contains after x ↔ Contains shown x
  outdone changes x aimed late = stays x (λ cx. still (here x cx) (last_word_of held page (own_target x)).0 (last_word_of held page (own_target x)).1) (not_drawn changes x) where
    later : (k : ℕ) × (f : DrawopValue) × (k < length held) × (get_or held k f ≡ f) × ((is_aimed_at f x && is_lt (display_cmp d f)) ≡ true)
    later = Any-from_list_any (λ f. is_aimed_at f x && is_lt (display_cmp d f)) held (not-false _ late)

    f : DrawopValue
    f = later.1

    cf : Contains held f
    cf = (later.0, later.2, later.3)

    still : same_page x.name.page page ≡ true → (r : Option LastWord) → IsLastWord held page (own_target x) r → is_shown (held ++ d ∷ []) page x ≡ is_shown held page x
    still on None none = let p = and_parts (is_aimed_at f x) _ later.4 in let t : true ≡ false = sym p.0 ∙ speaks x f on ∙ none f cf in cc
    still on (Some w) (from, last) =
        let p = and_parts (is_aimed_at f x) _ later.4 in
        let not_past : is_lt (word_cmp w (word_of d)) ≡ false = false_from_ne_true _ (λ t. both_ways _ (stays_last w (word_of d) (word_of f) t (last f cf (sym (speaks x f on) ∙ p.0))) p.1) in
        let word : IsLastWord (held ++ d ∷ []) page (own_target x) (Some w) = (
          (from.0, Contains-append_left held (d ∷ []) from.0 from.1, from.2, from.3),
          λ g h said. ⊎_elim (λ (cg : Contains held g). last g cg said) (λ (e : d ≡ g). ap (λ (y : DrawopValue). is_lt (word_cmp w (word_of y))) (sym e) ∙ not_past) (Contains-push_cases held d g h),
        ) in
        shown_by (held ++ d ∷ []) page x (Some w) more word ∙ sym (shown_by held page x (Some w) names (from, last))

  changes_all : PutChanges held d shown after
  changes_all = record {
    enters = enters;
    alone = λ drawn x ne. stays x (λ c. unspoken held d page names more here x (silent_drawing drawn page x)) (λ s e. ne (sym e));
    others = λ changes x off. stays x (λ c. unspoken held d page names more here x (sym (speaks x d (here x c)) ∙ off)) (not_drawn changes x);
    decides = decides;
    outdone = outdone;
  }

pub put_shows : PutsShow
put_shows page held d shown after more all view viewed = changes_all page held d shown after more all view viewed
