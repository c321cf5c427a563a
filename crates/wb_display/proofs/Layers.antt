-- What a layer holds and keeps, from its making on.
use Rattle.std.proofs.lemmas.Grind.{common_steps}
use Rattle.std.proofs.Common.{◌≡◌, ℕ, ◌<◌, length, take, List, [], ◌∷◌, ◌++◌, get_or, refl, ap, ◌∙◌, sym, subst, arith, ⊎_elim, ◌+◌, ◌≤◌, drop, ◌⊎◌, inl, inr}
use Rattle.std.specs.Prelude.{Bool, true, false, cond, ◌||◌, All, Contains, Option, Some, None, is_some, not, ◌&&◌, Result, Ok, OnOk, filter}
use Rattle.std.specs.Map.{lookup, keys_of}
use Rattle.std.proofs.lemmas.Map.{none_passes_from_lookup}
use Rattle.std.proofs.lemmas.Map.Made.{is_some-lookup}
use Rattle.std.proofs.lemmas.Map.Views.{Contains-from_lookup}
use Rattle.indexmap.proofs.MapLemmas.{insert_entry-absent, absent_from_lookup}
use Rattle.std.proofs.lemmas.Bool.Decides.{nat_tests}
use Rattle.std.proofs.lemmas.List.{length-take, get_or-take, get_or_default, map-append}
use Rattle.std.proofs.lemmas.List.Folds.{Any-from_list_any}
use Rattle.wb_names.proofs.Orders.{same_name-is}
use Rattle.std.proofs.lemmas.List.Elements.{All-contains, All-from_recursion, All-head, All-tail, All-push}
use Rattle.wb_names.specs.Values.{DrawopValue}
use Rattle.wb_names.specs.History.{IsHistory}
use Rattle.wb_names.specs.Orders.{same_page, same_name, display_cmp}
use Rattle.wb_names.specs.declared.name.PageId.{PageId}
use Rattle.wb_names.proofs.Listings.{Contains-none, Any-from_map, Contains-map}
use Rattle.wb_display.specs.LastWord.{own_target, affected_target, is_shown_by}
use Rattle.wb_names.specs.Same.{same_target, same_target-is, same_drawop, same_drawop-Decides}
use Rattle.wb_display.specs.Layer.{holds_name, LayerValue, is_news, held_with, held_with_all, news_count, held_of}
use Rattle.wb_display.specs.TakingIn.{IsKeyed, AreHeld, AreKept, TakesIn, Touches, HoldsToo, IsShownIn}
use Rattle.wb_names.specs.declared.parts.Target.{Target}
use Rattle.wb_display.proofs.Deciding.{nowhere_from, shown_here, one_drawop, tie_names}
use Rattle.std.specs.List.Sorted.{IsStrictlySortedBy}
use Rattle.std.proofs.lemmas.Bool.{and_parts, not-true}
use Rattle.indexmap.specs.IndexMap.{insert_entry}
use Rattle.wb_display.specs.Display.{is_shown, IsView}
use Rattle.wb_display.specs.DisplayList.{SetsShown, TiesAlone, ShowsOthers, TieOnce}
use Rattle.wb_display.specs.LastWords.{AreLastWords, word_on, is_shown_now}
use Rattle.wb_display.specs.declared.last_words.LastWords.{LastWords}
use Rattle.wb_display.proofs.Putting.{view_changed, view_stays, ties_alone, touches_stake, touches_no_stake}
use Rattle.std.specs.List.{list_any}
use Rattle.std.specs.Ordering.{is_eq}
use Rattle.wb_names.specs.Listing.{Lists}

-- ---- what is held, by the keys of the drawops

target_is_name : (page : PageId) (d e : DrawopValue) → same_page d.name.page page ≡ true → same_page e.name.page page ≡ true → same_target (own_target d) (own_target e) ≡ same_name e.name d.name
target_is_name page d e pd pe = grind (arith, nat_tests)

-- the table has a target exactly where the name is held
known_keys : (page : PageId) (d : DrawopValue) (entries : List (Target × DrawopValue)) → same_page d.name.page page ≡ true → All (IsKeyed page) entries → list_any (same_target (own_target d)) (keys_of entries) ≡ holds_name (held_of entries) d.name
known_keys page d [] here all = refl
known_keys page d (e ∷ es) here all =
    let head = All-head (IsKeyed page) e es all in
    ap (λ (b : Bool). b || list_any (same_target (own_target d)) (keys_of es)) (ap (same_target (own_target d)) head.0 ∙ target_is_name page d e.1 here head.1)
    ∙ ap (λ (b : Bool). same_name e.1.name d.name || b) (known_keys page d es here (All-tail (IsKeyed page) e es all))

pub known_name : (page : PageId) (d : DrawopValue) (entries : List (Target × DrawopValue)) → same_page d.name.page page ≡ true → All (IsKeyed page) entries → is_some (lookup (same_target (own_target d)) entries) ≡ holds_name (held_of entries) d.name
known_name page d entries here all = is_some-lookup (same_target (own_target d)) entries ∙ known_keys page d entries here all

-- what is held is of the page, and stands under its target
keyed : (page : PageId) (entries : List (Target × DrawopValue)) → All (IsKeyed page) entries → (x : DrawopValue) → Contains (held_of entries) x → Contains entries (own_target x, x) × (same_page x.name.page page ≡ true)
keyed page entries all x c =
    let found = Any-from_map (λ (e : Target × DrawopValue). e.1) entries x c in
    let key = All-contains (IsKeyed page) entries found.1 all (found.0, found.2, found.3) in (
      subst (λ (y : DrawopValue). Contains entries (own_target y, y)) found.4 (subst (λ (k : Target). Contains entries (k, found.1.1)) key.0 (found.0, found.2, found.3)),
      subst (λ (y : DrawopValue). same_page y.name.page page ≡ true) found.4 key.1,
    )

same_target-here : (l : Target) → same_target l l ≡ true
same_target-here l = grind (arith, nat_tests)

-- what the table finds is held under that target
found_held : (page : PageId) (l : Target) (a : DrawopValue) (entries : List (Target × DrawopValue)) → All (IsKeyed page) entries → lookup (same_target l) entries ≡ Some a → Contains (held_of entries) a × (same_target l (own_target a) ≡ true)
found_held page l a entries all f =
    let c = Contains-from_lookup same_target-is l a entries f in
    let key = All-contains (IsKeyed page) entries (l, a) all c in
    (Contains-map (λ (e : Target × DrawopValue). e.1) entries a (c.0, (l, a), c.1, c.2, refl), ap (same_target l) (sym key.0) ∙ same_target-here l)

-- what it does not find is not held
not_found : (page : PageId) (l : Target) (entries : List (Target × DrawopValue)) → All (IsKeyed page) entries → lookup (same_target l) entries ≡ None → (x : DrawopValue) → Contains (held_of entries) x → same_target l (own_target x) ≡ false
not_found page l entries all e x c =
    All-contains (λ (k : Target × DrawopValue). same_target l k.0 ≡ false) entries (own_target x, x) (All-from_recursion _ entries (none_passes_from_lookup (same_target l) entries e)) (keyed page entries all x c).0

-- with a name that is not held, no name stands twice
pub names_more : (held : List DrawopValue) (d : DrawopValue) → IsHistory held → holds_name held d.name ≡ false → IsHistory (held ++ d ∷ [])
names_more held d names new = grind (arith, common_steps)

-- all that is held is of the page
pub held_here : (page : PageId) (entries : List (Target × DrawopValue)) → All (IsKeyed page) entries → (x : DrawopValue) → Contains (held_of entries) x → same_page x.name.page page ≡ true
held_here page entries all x c = (keyed page entries all x c).1

-- a name that stood before stands twice
pub named_twice : (list : List DrawopValue) (i : ℕ) (d : DrawopValue) → i < length list → get_or list i d ≡ d → holds_name (take i list) d.name ≡ true → IsHistory list → ⊥
named_twice list i d h is known names =
    let found = Any-from_list_any (λ e. same_name e.name d.name) (take i list) known in
    let low : found.0 < i = omega (arith, found.2, length-take i list) in
    let at : get_or list found.0 found.1 ≡ found.1 = sym (get_or-take i list found.0 found.1 low) ∙ found.3 in
    names found.0 i d low h (ap (λ (e : DrawopValue). e.name) (get_or_default list found.0 d found.1 (omega arith) ∙ at) ∙ same_name-is found.1.name d.name found.4 ∙ ap (λ (e : DrawopValue). e.name) (sym is))

-- ---- what one put keeps

nothing_rises : IsStrictlySortedBy display_cmp []
unfolding IsStrictlySortedBy
nothing_rises = tt

pub nothing_shown : (page : PageId) → IsView [] page []
nothing_shown page = record {
  rising = nothing_rises;
  members = λ d. ((λ h. absurd (Contains-none d h)), (λ h. absurd (Contains-none d h.0)));
}

none_is : (r : Option DrawopValue) → is_some r ≡ false → r ≡ None
none_is None e = refl
none_is (Some x) e = cc

module _ (words words' : LastWords) (entries : List (Target × DrawopValue)) (d : DrawopValue) (here : same_page d.name.page words.page ≡ true) (new : holds_name (held_of entries) d.name ≡ false) (held : AreHeld words entries) (page : words'.page ≡ words.page) (last_words : (history : List DrawopValue) → AreLastWords history words → AreLastWords (history ++ d ∷ []) words') where
  same_held : held_of (entries ++ (own_target d, d) ∷ []) ≡ held_of entries ++ d ∷ []
  same_held = map-append (λ (e : Target × DrawopValue). e.1) entries ((own_target d, d) ∷ [])

  -- the table after it was inserted
  pub entries_with : insert_entry same_target entries (own_target d) d ≡ entries ++ (own_target d, d) ∷ []
  entries_with = insert_entry-absent same_target (own_target d) d entries (absent_from_lookup (same_target (own_target d)) entries (none_is _ (known_name words.page d entries here held.keys ∙ new)))

  pub held_more_of : AreHeld words' (entries ++ (own_target d, d) ∷ [])
  held_more_of = record {
    names = subst IsHistory (sym same_held) (names_more (held_of entries) d held.names new);
    keys = subst (λ (p : PageId). All (IsKeyed p) (entries ++ (own_target d, d) ∷ [])) (sym page) (All-push (IsKeyed words.page) entries (own_target d, d) held.keys (refl, here));
    last_words = subst (λ (h : List DrawopValue). AreLastWords h words') (sym same_held) (last_words (held_of entries) held.last_words);
  }

module _ (words words' : LastWords) (entries entries' : List (Target × DrawopValue)) (d : DrawopValue) (page : words'.page ≡ words.page) (old : AreHeld words entries) (after : AreHeld words' entries') (grown : entries' ≡ entries ++ (own_target d, d) ∷ []) where
  same : held_of entries' ≡ held_of entries ++ d ∷ []
  same = ap held_of grown ∙ map-append (λ (e : Target × DrawopValue). e.1) entries ((own_target d, d) ∷ [])

  names' : IsHistory (held_of entries ++ d ∷ [])
  names' = subst IsHistory same after.names

  all_here : (x : DrawopValue) → Contains (held_of entries ++ d ∷ []) x → same_page x.name.page words.page ≡ true
  all_here x c = subst (λ (p : PageId). same_page x.name.page p ≡ true) page (held_here words'.page entries' after.keys x (subst (λ (h : List DrawopValue). Contains h x) (sym same) c))

  found : (a : DrawopValue) → lookup (same_target (affected_target d)) entries' ≡ Some a → Contains (held_of entries ++ d ∷ []) a × (same_target (affected_target d) (own_target a) ≡ true)
  found a e = let f = found_held words'.page (affected_target d) a entries' after.keys e in (subst (λ (h : List DrawopValue). Contains h a) same f.0, f.1)

  missing : lookup (same_target (affected_target d)) entries' ≡ None → (x : DrawopValue) → Contains (held_of entries ++ d ∷ []) x → same_target (affected_target d) (own_target x) ≡ false
  missing none x c = not_found words'.page (affected_target d) entries' after.keys none x (subst (λ (h : List DrawopValue). Contains h x) (sym same) c)

  viewed : (shown : List DrawopValue) → IsView (held_of entries ++ d ∷ []) words.page shown → AreKept words' entries' shown
  viewed shown view = grind (arith, common_steps)

  -- the affected drawop was found, and what is shown changed with it
  pub took_in : (shown shown' : List DrawopValue) (a : DrawopValue) (show : Bool) → IsView (held_of entries) words.page shown → lookup (same_target (affected_target d)) entries' ≡ Some a → show ≡ is_shown_by words'.page a (word_on words' (own_target a)) → (IsStrictlySortedBy display_cmp shown → TiesAlone shown a → SetsShown a show shown shown') → AreKept words' entries' shown'
  took_in shown shown' a show view at says set_shown =
      let f = found a at in
      let shows : show ≡ is_shown (held_of entries ++ d ∷ []) words.page a = says ∙ sym (shown_here (held_of entries ++ d ∷ []) words.page words' a names' page (subst (λ (h : List DrawopValue). AreLastWords h words') same after.last_words)) in
      let changed = set_shown view.rising (ties_alone (held_of entries) d words.page old.names names' all_here a shown f.0 view) in
      viewed shown' (view_changed (held_of entries) d words.page old.names names' all_here a shown shown' f.0 f.1 view (subst (λ (s : Bool). SetsShown a s shown shown') shows changed))

  -- none was found: its target is not held yet
  pub took_in_alone : (shown : List DrawopValue) → IsView (held_of entries) words.page shown → lookup (same_target (affected_target d)) entries' ≡ None → AreKept words' entries' shown
  took_in_alone shown view none = viewed shown (view_stays (held_of entries) d words.page old.names names' all_here shown (missing none) view)

  -- the same, where what is touched is listed
  pub touched_more : (before touched : List DrawopValue) (a : DrawopValue) → lookup (same_target (affected_target d)) entries' ≡ Some a → Touches words.page before (held_of entries) touched → Touches words.page before (held_of entries') (touched ++ a ∷ [])
  touched_more before touched a at t = let f = found a at in subst (λ (h : List DrawopValue). Touches words.page before h (touched ++ a ∷ [])) (sym same) (touches_stake (held_of entries) d words.page old.names names' all_here before touched a f.0 f.1 t)

  pub touched_alone : (before touched : List DrawopValue) → lookup (same_target (affected_target d)) entries' ≡ None → Touches words.page before (held_of entries) touched → Touches words.page before (held_of entries') touched
  touched_alone before touched none t = subst (λ (h : List DrawopValue). Touches words.page before h touched) (sym same) (touches_no_stake (held_of entries) d words.page old.names names' all_here before touched (missing none) t)

-- what holds at Ok
pub on_ok : (X F : Type 0) (P : Type 0) (r : Result X F) (v : X) → r ≡ Ok v → OnOk r P → P
on_ok X F P r v e h = subst (λ (s : Result X F). OnOk s P) e h

-- room made changes nothing that is kept
pub kept_with_room : (words words' : LastWords) (entries entries' : List (Target × DrawopValue)) (shown shown' : List DrawopValue) → words'.page ≡ words.page → ((l : Target) → word_on words' l ≡ word_on words l) → entries' ≡ entries → shown' ≡ shown → AreKept words entries shown → AreKept words' entries' shown'
kept_with_room words words' entries entries' shown shown' page same e s kept = grind (arith, common_steps)

-- a new drawop is held last
pub held_more : (page : PageId) (held : List DrawopValue) (d : DrawopValue) → is_news page held d ≡ true → held_with page held d ≡ held ++ d ∷ []
held_more page held d e = ap (λ (b : Bool). cond b (held ++ d ∷ []) held) e

pub news_parts : (page : PageId) (held : List DrawopValue) (d : DrawopValue) → is_news page held d ≡ true → (same_page d.name.page page ≡ true) × (holds_name held d.name ≡ false)
news_parts page held d e = let p = and_parts (same_page d.name.page page) _ e in (p.0, not-true _ p.1)

pub news_from : (page : PageId) (d : DrawopValue) (entries : List (Target × DrawopValue)) (l : Target) (b : Bool) → true ≡ same_page d.name.page page → All (IsKeyed page) entries → l ≡ own_target d → b ≡ is_some (lookup (same_target l) entries) → not b ≡ is_news page (held_of entries) d
news_from page d entries l b here keys el e =
    ap not (e ∙ ap (λ (k : Target). is_some (lookup (same_target k) entries)) el ∙ known_name page d entries (sym here) keys)
    ∙ ap (λ (t : Bool). t && not (holds_name (held_of entries) d.name)) here

layer_parts : (p q : PageId) (xs ys : List DrawopValue) → p ≡ q → xs ≡ ys → let v : LayerValue = record { page = p; held = xs } in let w : LayerValue = record { page = q; held = ys } in v ≡ w
layer_parts p q xs ys e f = cc

abbrev pub layer_value : PageId → List DrawopValue → LayerValue
layer_value page held = record { page = page; held = held }

-- a put of news: room is made, and the drawop is taken in
pub put_news : (words roomy words' : LastWords) (entries wider entries' : List (Target × DrawopValue)) (shown longer shown' : List DrawopValue) (d : DrawopValue) (v : LayerValue)
    → layer_value words.page (held_of entries) ≡ v → is_news v.page v.held d ≡ true
    → roomy.page ≡ words.page → ((l : Target) → word_on roomy l ≡ word_on words l) → wider ≡ entries → longer ≡ shown
    → words'.page ≡ roomy.page → TakesIn roomy wider longer d words' entries' shown' → AreKept words entries shown
    → AreKept words' entries' shown' × (layer_value words'.page (held_of entries') ≡ layer_value v.page (held_with v.page v.held d))
put_news words roomy words' entries wider entries' shown longer shown' d v is news page alike e s page' takes kept =
    let room = kept_with_room words roomy entries wider shown longer page alike e s kept in
    let vp : words.page ≡ v.page = ap (λ (w : LayerValue). w.page) is in
    let vh : held_of entries ≡ v.held = ap (λ (w : LayerValue). w.held) is in
    let wh : held_of wider ≡ v.held = ap held_of e ∙ vh in
    let parts = news_parts v.page v.held d news in
    let here : same_page d.name.page roomy.page ≡ true = ap (same_page d.name.page) (page ∙ vp) ∙ parts.0 in
    let new : holds_name (held_of wider) d.name ≡ false = ap (λ (h : List DrawopValue). holds_name h d.name) wh ∙ parts.1 in
    let t = takes here new room in
    (t.0, layer_parts _ _ _ _ (page' ∙ page ∙ vp) (ap held_of t.1 ∙ map-append (λ (e : Target × DrawopValue). e.1) wider ((own_target d, d) ∷ []) ∙ ap (λ (h : List DrawopValue). h ++ d ∷ []) wh ∙ sym (held_more v.page v.held d news)))

-- ---- many puts, one after another: there is room for what is still news, and what is held is as after that many puts

-- what is news later was news before
news_before : (page : PageId) (held : List DrawopValue) (d x : DrawopValue) → is_news page (held ++ d ∷ []) x ≡ true → is_news page held x ≡ true
news_before page held d x e = grind (arith, common_steps)

-- a narrower test keeps no more
filter_narrows : (p q : DrawopValue → Bool) → ((x : DrawopValue) → q x ≡ true → p x ≡ true) → (xs : List DrawopValue) → length (filter q xs) ≤ length (filter p xs)
filter_narrows p q h [] = omega arith
filter_narrows p q h (x ∷ xs) = at (q x) (p x) (h x) (filter_narrows p q h xs) where
  at : (b c : Bool) → (b ≡ true → c ≡ true) → length (filter q xs) ≤ length (filter p xs) → length (cond b (x ∷ filter q xs) (filter q xs)) ≤ length (cond c (x ∷ filter p xs) (filter p xs))
  at true true t rest = omega arith
  at true false t rest = let e : false ≡ true = t refl in cc
  at false true t rest = omega arith
  at false false t rest = rest

module _ (page : PageId) (held list : List DrawopValue) (i : ℕ) (d : DrawopValue) (h : i < length list) (is : get_or list i d ≡ d) where
  here : (b : Bool) → is_news page held d ≡ b → news_count page held (drop i list) ≡ length (cond b (d ∷ filter (is_news page held) (drop (i + 1) list)) (filter (is_news page held) (drop (i + 1) list)))
  here b e = grind (arith, common_steps)

  -- a step over what is news takes one place
  pub room_taken : is_news page held d ≡ true → news_count page (held_with page held d) (drop (i + 1) list) + 1 ≤ news_count page held (drop i list)
  room_taken e =
      let less = filter_narrows (is_news page held) (is_news page (held ++ d ∷ [])) (news_before page held d) (drop (i + 1) list) in
      rw (here true e, e) (omega arith)

  -- and one over what is not takes none
  pub room_left : is_news page held d ≡ false → news_count page held (drop (i + 1) list) ≤ news_count page held (drop i list)
  room_left e = rw (here false e) (omega arith)

-- one put more
pub held_more_puts : (page here : PageId) (start held held' list : List DrawopValue) (i : ℕ) (d : DrawopValue) → i < length list → get_or list i d ≡ d → here ≡ page
    → held ≡ held_with_all page start (take i list) → held' ≡ held_with here held d → held' ≡ held_with_all page start (take (i + 1) list)
held_more_puts page here start held held' list i d h is at so then = grind (arith, common_steps)

-- what is no news changes nothing
pub held_not_more : (page : PageId) (held : List DrawopValue) (d : DrawopValue) → is_news page held d ≡ false → held ≡ held_with page held d
held_not_more page held d e = sym (ap (λ (b : Bool). cond b (held ++ d ∷ []) held) e)

-- what is news is held from now on
pub step_held : (words words' : LastWords) (entries entries' : List (Target × DrawopValue)) (list : List DrawopValue) (i : ℕ) (d : DrawopValue)
    → i < length list → get_or list i d ≡ d → is_news words.page (held_of entries) d ≡ true → words'.page ≡ words.page
    → HoldsToo words entries d words' entries' → AreHeld words entries
    → AreHeld words' entries' × (entries' ≡ entries ++ (own_target d, d) ∷ []) × (held_of entries' ≡ held_with words.page (held_of entries) d) × (news_count words'.page (held_of entries') (drop (i + 1) list) + 1 ≤ news_count words.page (held_of entries) (drop i list))
step_held words words' entries entries' list i d h is news page holds held =
    let parts = news_parts words.page (held_of entries) d news in
    let t = holds parts.0 parts.1 held in
    let e : held_of entries' ≡ held_with words.page (held_of entries) d = ap held_of t.1 ∙ map-append (λ (e : Target × DrawopValue). e.1) entries ((own_target d, d) ∷ []) ∙ sym (held_more words.page (held_of entries) d news) in
    (t.0, t.1, e, rw (page, e) (room_taken words.page (held_of entries) list i d h is news))

-- if there is no news, nothing needs room
pub news_none : (page : PageId) (held list : List DrawopValue) → All (λ d. is_news page held d ≡ false) list → news_count page held list ≡ 0
news_none page held [] all = refl
news_none page held (x ∷ xs) all =
    let f : is_news page held x ≡ false = All-head (λ d. is_news page held d ≡ false) x xs all in
    ap (λ (b : Bool). length (cond b (x ∷ filter (is_news page held) xs) (filter (is_news page held) xs))) f ∙ news_none page held xs (All-tail (λ d. is_news page held d ≡ false) x xs all)

-- and what is held stays
pub held_stays : (page : PageId) (held list : List DrawopValue) → news_count page held list ≡ 0 → held ≡ held_with_all page held list
held_stays page held [] e = refl
held_stays page held (x ∷ xs) e = at (is_news page held x) refl e (held_stays page held xs) where
  at : (b : Bool) → is_news page held x ≡ b → length (cond b (x ∷ filter (is_news page held) xs) (filter (is_news page held) xs)) ≡ 0 → (news_count page held xs ≡ 0 → held ≡ held_with_all page held xs) → held ≡ held_with_all page (held_with page held x) xs
  at true f none rest = absurd (omega arith)
  at false f none rest = rest none ∙ ap (λ (h : List DrawopValue). held_with_all page h xs) (held_not_more page held x f)

pub value_stays : (v : LayerValue) (list : List DrawopValue) → news_count v.page v.held list ≡ 0 → v ≡ layer_value v.page (held_with_all v.page v.held list)
value_stays v list e = ap (layer_value v.page) (held_stays v.page v.held list e)

-- a drawop is a member or not
member_or_not : (xs : List DrawopValue) (x : DrawopValue) → Contains xs x ⊎ ¬ Contains xs x
member_or_not xs x = at (list_any (λ y. same_drawop y x) xs) refl where
  at : (b : Bool) → list_any (λ y. same_drawop y x) xs ≡ b → Contains xs x ⊎ ¬ Contains xs x
  at true e =
      let found = Any-from_list_any (λ y. same_drawop y x) xs e in
      let c : Contains xs found.1 = (found.0, found.2, found.3) in
      inl (subst (Contains xs) ((same_drawop-Decides found.1 x).0 found.4) c)
  at false e = inr (λ c. let f : true ≡ false = sym ((same_drawop-Decides x x).1 refl) ∙ nowhere_from (λ y. same_drawop y x) xs e x c in cc)

-- what is held grew, and what is shown is still as it was before
module _ (words words' : LastWords) (entries entries' : List (Target × DrawopValue)) (shown touched : List DrawopValue) (kept : AreKept words entries shown) (held : AreHeld words' entries') (page : words'.page ≡ words.page) (touches : Touches words.page (held_of entries) (held_of entries') touched) where
  among : (x : DrawopValue) → Contains shown x ⊎ Contains touched x → Contains (held_of entries') x
  among x (inl c) = touches.more x ((kept.view.members x).0 c).0
  among x (inr c) = touches.among x c

  pub ties_once : TieOnce shown touched
  ties_once x y cx cy tie = one_drawop (held_of entries') held.names x y (among x cx) (among y cy) (tie_names words'.page x y (held_here words'.page entries' held.keys x (among x cx)) (held_here words'.page entries' held.keys y (among y cy)) (ap is_eq tie))

  shows : (x : DrawopValue) → is_shown_now words' x ≡ is_shown (held_of entries') words.page x
  shows x = sym (shown_here (held_of entries') words.page words' x held.names page held.last_words)

  pub shows_others : ShowsOthers (is_shown_now words') shown touched
  shows_others x c out = shows x ∙ ((touches.others x out).1 ((kept.view.members x).0 c)).1

  -- once all that was touched is shown or hidden, it is the view of what is held now
  pub kept_after : (after : List DrawopValue) → Lists display_cmp (λ x. (Contains shown x ⊎ Contains touched x) × (is_shown_now words' x ≡ true)) after → AreKept words' entries' after
  kept_after after listed = record {
    held = held;
    view = subst (λ (p : PageId). IsView (held_of entries') p after) (sym page) (record {
      rising = listed.rising;
      members = λ x. ((λ c. let m = (listed.members x).0 c in (among x m.0, sym (shows x) ∙ m.1)), (λ m. (listed.members x).1 (from x m, shows x ∙ m.1)));
    });
  } where
    from : (x : DrawopValue) → IsShownIn (held_of entries') words.page x → Contains shown x ⊎ Contains touched x
    from x m = ⊎_elim (λ (c : Contains touched x). inr c) (λ (out : ¬ Contains touched x). inl ((kept.view.members x).1 ((touches.others x out).0 m))) (member_or_not touched x)
