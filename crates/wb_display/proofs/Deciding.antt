-- The last word on a drawop decides whether it is shown, and on one page the order of display tells drawops apart.
use Rattle.std.proofs.lemmas.Grind.{common_steps}
use Rattle.std.proofs.Common.{◌≡◌, ℕ, List, [], ◌∷◌, ◌++◌, refl, ap, ◌∙◌, sym, subst, ⊎_elim, ◌<◌, ◌≤◌, length, get_or, arith, ◌+◌, take, append-nil}
use Rattle.std.specs.Prelude.{Bool, true, false, cond, ◌&&◌, Contains, Option, Some, None, ◌≢◌, not, AllPairs, filter}
use Rattle.std.specs.declared.cmp.Ordering.{Ordering}
use Rattle.std.specs.declared.cmp.Ordering.TheVariants.{Less, Equal}
use Rattle.std.specs.Cmp.{IsTotalOrder, nat_cmp_total}
use Rattle.std.specs.Ordering.{is_lt, eq_by_cmp, is_eq, ordering_reverse}
use Rattle.std.proofs.lemmas.Cmp.{on_total, then_total, tied_itself}
use Rattle.std.proofs.lemmas.List.Elements.{Contains-append_left, Contains-push, Contains-push_cases, filter_passes, Contains-get_or, filter_more}
use Rattle.std.proofs.lemmas.Bool.{and_parts, false_from_ne_true, cases_lt, not_from_false, and_from}
use Rattle.wb_names.specs.Values.{DrawopValue}
use Rattle.wb_names.specs.Orders.{same_page, display_cmp}
use Rattle.wb_names.specs.declared.name.PageId.{PageId}
use Rattle.wb_names.specs.declared.parts.Op.{Op}
use Rattle.wb_names.specs.declared.parts.Op.TheVariants.{Aimed}
use Rattle.wb_display.specs.Display.{has_target, is_drawing, is_delete, is_aimed_at, is_last_word, is_hidden_in, is_shown}
use Rattle.wb_display.specs.LastWord.{aimed_target, word_cmp, word_of, later_word, speaks_of, IsLastWord, own_target, hides, is_shown_by}
use Rattle.wb_names.specs.Same.{same_target, same_target-is}
use Rattle.wb_names.specs.declared.parts.Target.{Target}
use Rattle.wb_display.specs.declared.last_words.LastWord.{LastWord}
use Rattle.std.specs.List.{list_any}
use Rattle.std.proofs.lemmas.List.{get_or_default}
use Rattle.std.proofs.lemmas.List.Folds.{list_any_none, list_any_at}
use Rattle.std.proofs.lemmas.List.Kept.{AllPairs-filter}
use Rattle.wb_names.specs.History.{IsHistory}
use Rattle.wb_names.proofs.Orders.{same_page-is}
use Rattle.wb_display.specs.LastWords.{AreLastWords, word_on}
use Rattle.wb_display.specs.declared.last_words.LastWords.{LastWords}

-- ---- the last word, as more is said

word_total : IsTotalOrder word_cmp
word_total = then_total (on_total (λ (w : LastWord). w.time) nat_cmp_total) (then_total (on_total (λ (w : LastWord). w.source) nat_cmp_total) (on_total (λ (w : LastWord). w.seq) nat_cmp_total))

less_is : (r : Ordering) → is_lt r ≡ true → r ≡ Less
less_is Less e = refl
less_is r e = cc

pub not_before_itself : (w : LastWord) → is_lt (word_cmp w w) ≡ false
not_before_itself w = ap is_lt (tied_itself word_total w)

-- what is not below a is not below what is below a, read the other way
pub stays_last : (a b c : LastWord) → is_lt (word_cmp a b) ≡ true → is_lt (word_cmp a c) ≡ false → is_lt (word_cmp b c) ≡ false
stays_last a b c low above = false_from_ne_true _ (λ (e : is_lt (word_cmp b c) ≡ true). let f : true ≡ false = sym (ap is_lt (word_total.trans a b c (less_is _ low) (less_is _ e))) ∙ above in cc)

module _ (history : List DrawopValue) (page : PageId) (target : Target) (e : DrawopValue) where
  -- a drawop that says nothing of the target
  pub unsaid : (r : Option LastWord) → speaks_of page target e ≡ false → IsLastWord history page target r → IsLastWord (history ++ e ∷ []) page target r
  unsaid None silent last = λ f h. ⊎_elim (λ (c : Contains history f). last f c) (λ (s : e ≡ f). ap (speaks_of page target) (sym s) ∙ silent) (Contains-push_cases history e f h)
  unsaid (Some w) silent last =
      let from = last.0 in (
        (from.0, Contains-append_left history (e ∷ []) from.0 from.1, from.2, from.3),
        λ f h spoken. ⊎_elim (λ (c : Contains history f). last.1 f c spoken) (λ (s : e ≡ f). absurd (let t : true ≡ false = sym spoken ∙ ap (speaks_of page target) (sym s) ∙ silent in cc)) (Contains-push_cases history e f h),
      )

  -- one that says something
  pub word_said : (r : Option LastWord) → speaks_of page target e ≡ true → IsLastWord history page target r → IsLastWord (history ++ e ∷ []) page target (Some (later_word r (word_of e)))
  word_said None spoken last = (
    (e, Contains-push history e, spoken, refl),
    λ f h said. ⊎_elim (λ (c : Contains history f). absurd (let t : true ≡ false = sym said ∙ last f c in cc)) (λ (s : e ≡ f). ap (λ (g : DrawopValue). is_lt (word_cmp (word_of e) (word_of g))) (sym s) ∙ not_before_itself (word_of e)) (Contains-push_cases history e f h),
  )
  word_said (Some w) spoken last =
      elim (is_lt (word_cmp w (word_of e))) as (λ b. is_lt (word_cmp w (word_of e)) ≡ b → IsLastWord (history ++ e ∷ []) page target (Some (cond b (word_of e) w))) [
        | true ↦ λ later. (
          (e, Contains-push history e, spoken, refl),
          λ f h said. ⊎_elim (λ (c : Contains history f). stays_last w (word_of e) (word_of f) later (last.1 f c said)) (λ (s : e ≡ f). ap (λ (g : DrawopValue). is_lt (word_cmp (word_of e) (word_of g))) (sym s) ∙ not_before_itself (word_of e)) (Contains-push_cases history e f h),
        )
        | false ↦ λ earlier. let from = last.0 in (
          (from.0, Contains-append_left history (e ∷ []) from.0 from.1, from.2, from.3),
          λ f h said. ⊎_elim (λ (c : Contains history f). last.1 f c said) (λ (s : e ≡ f). ap (λ (g : DrawopValue). is_lt (word_cmp w (word_of g))) (sym s) ∙ earlier) (Contains-push_cases history e f h),
        )
      ] refl

-- an operation has the target that it names, and no other
pub aims_where : (op : Op) (l k : Target) → aimed_target op ≡ Some l → has_target op k.source k.seq ≡ same_target l k
aims_where (Aimed change t) l k e = let f : t ≡ l = cc in ap (λ (m : Target). same_target m k) f
aims_where op l k e = cc

pub aims_nowhere : (op : Op) (k : Target) → aimed_target op ≡ None → has_target op k.source k.seq ≡ false
aims_nowhere (Aimed change t) k e = cc
aims_nowhere op k e = refl

module _ (history : List DrawopValue) (page : PageId) (d : DrawopValue) (f g : Target → Option LastWord) where
  -- a drawop that names nothing leaves all words
  pub update_nothing : aimed_target d.op ≡ None → ((l : Target) → IsLastWord history page l (f l)) → (l : Target) → IsLastWord (history ++ d ∷ []) page l (f l)
  update_nothing none last l = unsaid history page l d (f l) (false_from_ne_true _ (λ (t : speaks_of page l d ≡ true). let e : true ≡ false = sym (and_parts (same_page d.name.page page) (has_target d.op l.source l.seq) t).1 ∙ aims_nowhere d.op l none in cc)) (last l)

  -- one that names a target changes the word on that alone
  pub update_word : (l : Target) → same_page d.name.page page ≡ true → aimed_target d.op ≡ Some l → ((q : Target) → g q ≡ cond (same_target l q) (Some (later_word (f l) (word_of d))) (f q)) → ((q : Target) → IsLastWord history page q (f q)) → (q : Target) → IsLastWord (history ++ d ∷ []) page q (g q)
  update_word l here named changed last q = at (same_target l q) refl where
    spoken : speaks_of page q d ≡ same_target l q
    spoken = ap (λ (b : Bool). b && has_target d.op q.source q.seq) here ∙ aims_where d.op l q named

    at : (b : Bool) → same_target l q ≡ b → IsLastWord (history ++ d ∷ []) page q (g q)
    at true e =
        let s : l ≡ q = same_target-is l q e in
        let new : Some (later_word (f q) (word_of d)) ≡ g q = sym (changed q ∙ ap (λ (b : Bool). cond b (Some (later_word (f l) (word_of d))) (f q)) e ∙ ap (λ (k : Target). Some (later_word (f k) (word_of d))) s) in
        subst (IsLastWord (history ++ d ∷ []) page q) new (word_said history page q d (f q) (spoken ∙ e) (last q))
    at false e =
        let new : f q ≡ g q = sym (changed q ∙ ap (λ (b : Bool). cond b (Some (later_word (f l) (word_of d))) (f q)) e) in
        subst (IsLastWord (history ++ d ∷ []) page q) new (unsaid history page q d (f q) (spoken ∙ e) (last q))

-- ---- what it decides

pub display_total : IsTotalOrder display_cmp
display_total = then_total (on_total (λ (d : DrawopValue). d.time) nat_cmp_total) (then_total (on_total (λ (d : DrawopValue). d.name.source) nat_cmp_total) (on_total (λ (d : DrawopValue). d.name.seq) nat_cmp_total))

-- no name stands twice
pub one_drawop : (history : List DrawopValue) → IsHistory history → (e f : DrawopValue) → Contains history e → Contains history f → e.name ≡ f.name → e ≡ f
one_drawop history names e f (j, lj, ej) (k, lk, ek) same =
    let fk : get_or history k e ≡ f = get_or_default history k e f lk ∙ ek in
    ⊎_elim
    (λ (lt : j < k). absurd (names j k e lt lk (ap (λ (d : DrawopValue). d.name) ej ∙ same ∙ ap (λ (d : DrawopValue). d.name) (sym fk))))
    (λ (ge : k ≤ j). ⊎_elim
    (λ (lt : k < j). absurd (names k j e lt lj (ap (λ (d : DrawopValue). d.name) fk ∙ sym same ∙ ap (λ (d : DrawopValue). d.name) (sym ej))))
    (λ (le : j ≤ k). let at : j ≡ k = omega arith in sym ej ∙ ap (λ (i : ℕ). get_or history i e) at ∙ fk)
    (cases_lt k j))
    (cases_lt j k)

-- two of one page that tie have one name
pub tie_names : (page : PageId) (e f : DrawopValue) → same_page e.name.page page ≡ true → same_page f.name.page page ≡ true → is_eq (display_cmp e f) ≡ true → e.name ≡ f.name
tie_names page e f pe pf tie = grind (arith, common_steps)

tied_unless : (r s : Ordering) → r ≡ ordering_reverse s → is_lt r ≡ false → is_lt s ≡ false → is_eq r ≡ true
tied_unless Equal s e p q = refl
tied_unless r Less e p q = cc
tied_unless r s e p q = cc

-- a test of the members that one passes, or that none passes
pub list_any_here : (p : DrawopValue → Bool) (xs : List DrawopValue) (x : DrawopValue) → Contains xs x → p x ≡ true → list_any p xs ≡ true
list_any_here p xs x (k, h, e) t = list_any_at p xs k x h (ap p e ∙ t)

pub list_any_nowhere : (p : DrawopValue → Bool) (xs : List DrawopValue) → ((x : DrawopValue) → Contains xs x → p x ≡ false) → list_any p xs ≡ false
list_any_nowhere p xs none = list_any_none p xs (λ k d h. none (get_or xs k d) (Contains-get_or xs k d h))

pub nowhere_from : (p : DrawopValue → Bool) (xs : List DrawopValue) → list_any p xs ≡ false → (x : DrawopValue) → Contains xs x → p x ≡ false
nowhere_from p xs none x c = false_from_ne_true (p x) (λ (t : p x ≡ true). let e : true ≡ false = sym (list_any_here p xs x c t) ∙ none in cc)

module _ (history : List DrawopValue) (d : DrawopValue) where
  -- nothing later is said than what the last word says
  pub last_word-is : (e : DrawopValue) → ((f : DrawopValue) → Contains history f → is_aimed_at f d ≡ true → is_lt (display_cmp e f) ≡ false) → is_last_word history d e ≡ true
  last_word-is e last = not_from_false _ (list_any_nowhere (λ f. is_aimed_at f d && is_lt (display_cmp e f)) history (λ f c. false_from_ne_true _ (λ (t : (is_aimed_at f d && is_lt (display_cmp e f)) ≡ true). let p = and_parts (is_aimed_at f d) _ t in let g : true ≡ false = sym p.1 ∙ last f c p.0 in cc)))

  pub last_word-says : (e : DrawopValue) → is_last_word history d e ≡ true → (f : DrawopValue) → Contains history f → is_aimed_at f d ≡ true → is_lt (display_cmp e f) ≡ false
  last_word-says e last f c aimed = grind (arith, common_steps)

  -- a drawop is hidden exactly where the last word on it hides
  pub hidden_by : IsHistory history → (r : Option LastWord) → IsLastWord history d.name.page (own_target d) r → is_hidden_in history d ≡ hides r
  hidden_by names None none = list_any_nowhere (λ e. (is_delete e.op && is_aimed_at e d) && is_last_word history d e) history (λ e c. false_from_ne_true _ (λ (t : ((is_delete e.op && is_aimed_at e d) && is_last_word history d e) ≡ true). let p = (and_parts (is_delete e.op) _ (and_parts (is_delete e.op && is_aimed_at e d) _ t).0).1 in let g : true ≡ false = sym p ∙ none e c in cc))
  hidden_by names (Some w) (from, last) = at (is_delete e.op) refl ∙ ap (λ (v : LastWord). v.hides) from.3 where
    e : DrawopValue
    e = from.0

    latest : (f : DrawopValue) → Contains history f → is_aimed_at f d ≡ true → is_lt (display_cmp e f) ≡ false
    latest f c aimed = ap (λ (v : LastWord). is_lt (word_cmp v (word_of f))) from.3 ∙ last f c aimed

    -- another last word is the same drawop
    same : (f : DrawopValue) → Contains history f → is_aimed_at f d ≡ true → is_last_word history d f ≡ true → e ≡ f
    same f c aimed says =
        let pe = (and_parts (same_page e.name.page d.name.page) _ from.2).0 in
        let pf = (and_parts (same_page f.name.page d.name.page) _ aimed).0 in
        one_drawop history names e f from.1 c (tie_names d.name.page e f pe pf (tied_unless (display_cmp e f) (display_cmp f e) (display_total.antisymm e f) (latest f c aimed) (last_word-says f says e from.1 from.2)))

    at : (b : Bool) → is_delete e.op ≡ b → is_hidden_in history d ≡ is_delete e.op
    at true h = list_any_here (λ e. (is_delete e.op && is_aimed_at e d) && is_last_word history d e) history e from.1 (and_from _ _ (and_from _ _ h from.2) (last_word-is e latest)) ∙ sym h
    at false h = list_any_nowhere (λ e. (is_delete e.op && is_aimed_at e d) && is_last_word history d e) history (λ f c. false_from_ne_true _ (λ (t : ((is_delete f.op && is_aimed_at f d) && is_last_word history d f) ≡ true).
        let p = and_parts (is_delete f.op && is_aimed_at f d) _ t in
        let q = and_parts (is_delete f.op) _ p.0 in
        let g : true ≡ false = sym q.0 ∙ ap (λ (x : DrawopValue). is_delete x.op) (sym (same f c q.1 p.1)) ∙ h in cc)) ∙ sym h

-- what is not of the page is not shown on it
pub off_page : (a b c : Bool) → a ≡ false → ((a && b) && c) ≡ false
off_page a b c h = ap (λ (t : Bool). (t && b) && c) h

-- so the last word decides what is shown
pub shown_by : (history : List DrawopValue) (page : PageId) (d : DrawopValue) (r : Option LastWord) → IsHistory history → IsLastWord history page (own_target d) r → is_shown history page d ≡ is_shown_by page d r
shown_by history page d r names last = at (same_page d.name.page page) refl where
  at : (b : Bool) → same_page d.name.page page ≡ b → is_shown history page d ≡ is_shown_by page d r
  at true e =
      let here : IsLastWord history d.name.page (own_target d) r = subst (λ (p : PageId). IsLastWord history p (own_target d) r) (sym (same_page-is d.name.page page e)) last in
      ap (λ (h : Bool). (same_page d.name.page page && is_drawing d.op) && not h) (hidden_by history d names r here)
  at false e = off_page _ _ _ e ∙ sym (off_page _ _ _ e)

-- no two shown members tie
pub shown_apart : (history : List DrawopValue) (page : PageId) → IsHistory history → AllPairs (λ x y. eq_by_cmp display_cmp x y ≡ false) (filter (is_shown history page) history)
shown_apart history page names i j d ij jn =
    let shown : List DrawopValue = filter (is_shown history page) history in
    let all = filter_passes (is_shown history page) history in
    let differ = AllPairs-filter (λ (x y : DrawopValue). x.name ≢ y.name) (is_shown history page) history names i j d ij jn in
    let here : (k : ℕ) → k < length shown → same_page (get_or shown k d).name.page page ≡ true = λ k lt. (and_parts (same_page (get_or shown k d).name.page page) _ (and_parts (same_page (get_or shown k d).name.page page && is_drawing (get_or shown k d).op) _ (all k d lt)).0).0 in
    false_from_ne_true _ (λ tie. differ (tie_names page (get_or shown i d) (get_or shown j d) (here i (omega arith)) (here j jn) tie))

-- ---- a view, picked from a list by the last words on it and sorted

-- by its last words a page is shown as by the whole history
pub shown_here : (history : List DrawopValue) (page : PageId) (words : LastWords) (d : DrawopValue) → IsHistory history → words.page ≡ page → AreLastWords history words → is_shown history page d ≡ is_shown_by words.page d (word_on words (own_target d))
shown_here history page words d names e last = ap (λ (p : PageId). is_shown history p d) (sym e) ∙ shown_by history words.page d (word_on words (own_target d)) names (last (own_target d))

module _ (p : DrawopValue → Bool) (xs : List DrawopValue) (i : ℕ) (d : DrawopValue) (lt : i < length xs) (is : d ≡ get_or xs i d) where
  next : filter p (take (i + 1) xs) ≡ filter p (take i xs) ++ cond (p d) (d ∷ []) []
  next = filter_more p xs i d lt ∙ ap (λ (e : DrawopValue). filter p (take i xs) ++ cond (p e) (e ∷ []) []) (sym is)

  pub picked : (old new : List DrawopValue) → p d ≡ true → old ≡ filter p (take i xs) → new ≡ old ++ d ∷ [] → new ≡ filter p (take (i + 1) xs)
  picked old new t e f = f ∙ ap (λ (ys : List DrawopValue). ys ++ d ∷ []) e ∙ ap (λ (b : Bool). filter p (take i xs) ++ cond b (d ∷ []) []) (sym t) ∙ sym next

  pub passed_over : (old : List DrawopValue) → p d ≡ false → old ≡ filter p (take i xs) → old ≡ filter p (take (i + 1) xs)
  passed_over old t e = e ∙ sym (append-nil _) ∙ ap (λ (b : Bool). filter p (take i xs) ++ cond b (d ∷ []) []) (sym t) ∙ sym next
