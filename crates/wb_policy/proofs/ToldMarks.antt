-- Reports tell each mark of a board, page by page, and of a page 64 at a time.
use Rattle.std.proofs.Common.{◌≡◌, ℕ, zero, suc, ◌+◌, ◌-◌, ◌*◌, ◌≤◌, ◌<◌, Bool, true, false, cond, List, [], ◌∷◌, ◌∙◌, Option, Some, None, ap, arith, drop, filter, get_or, inl, inr, length, map, max, refl, subst, sym, true≢false, ⊎_elim}
use Rattle.std.specs.Prelude.{◌⊎◌, ◌/◌, Contains, nat_le, nat_lt, take, unwrap_or}
use Rattle.std.specs.List.{AllByRecursion, find, sum_by}
use Rattle.std.specs.Cmp.{nat_cmp_total}
use Rattle.std.specs.List.Sorted.{IsStrictlySortedBy}
use Rattle.std.specs.Option.{option_or}
use Rattle.std.specs.Ordering.{is_lt, nat_cmp, ordering_reverse}
use Rattle.std.specs.declared.cmp.Ordering.TheVariants.{Less}
use Rattle.std.proofs.Math.ListN.{drop_of_length-le}
use Rattle.std.proofs.Math.Numerals.{suc-eq-add-one}
use Rattle.std.proofs.lemmas.Bool.{leb-false, leb-true, lt-ltb, ltb-true}
use Rattle.std.proofs.lemmas.Bool.Decides.{nat_tests}
use Rattle.std.proofs.lemmas.List.{get_or-drop, get_or-take, length-drop, length-take, take_all}
use Rattle.std.proofs.lemmas.List.Elements.{Contains-get_or}
use Rattle.std.proofs.lemmas.List.Sums.{count_by-le-length, length-filter, sum_by_more, sum_by_more_le}
use Rattle.std.proofs.lemmas.Map.Keys.{sorted_head, sorted_tail}
use Rattle.std.proofs.lemmas.Cmp.{ranked}
use Rattle.wb_names.specs.Orders.{page_cmp, same_page}
use Rattle.wb_names.specs.Values.{DrawopValue, MarkValue}
use Rattle.wb_names.specs.declared.name.PageId.{PageId}
use Rattle.wb_names.proofs.Orders.{page_total}
use Rattle.wb_gaps.specs.Answers.{pages_of, report_of, sources_of, top_mark}
use Rattle.wb_gaps.proofs.PageAnswers.{pages_of_history}
use Rattle.wb_gaps.proofs.Sorting.{sorted_rises}
use Rattle.wb_gaps.proofs.Starts.{page_itself}
use Rattle.wb_policy.specs.Fairness.{Told, after_telling, left_to_tell, marks_in_turn, page_in_turn, slices_of, slices_on, until_in_turn, where_left}
use Rattle.wb_policy.specs.Choices.{last_source, until_in}
use Rattle.wb_policy.specs.Reports.{first_of_pages, is_after, is_telling, is_untold, page_after, slice_after}
use Rattle.wb_policy.specs.Turns.{nowhere}
use Rattle.wb_policy.proofs.Cycle as cycle
use Rattle.wb_policy.proofs.Cycle.{found_at}

-- ---- one report in turn after the other

abbrev pub after_tellings : List DrawopValue → ℕ → Told → Told
after_tellings held zero t = t
after_tellings held (suc count) t = after_telling held (after_tellings held count t)

-- ---- marks that ascend

abbrev AreAbove : ℕ → List MarkValue → Type 0
AreAbove a [] = Unit {0}
AreAbove a (m ∷ marks) = (a < m.source) × AreAbove a marks

abbrev Ascend : List MarkValue → Type 0
Ascend [] = Unit {0}
Ascend (m ∷ marks) = AreAbove m.source marks × Ascend marks

above_of : (p : MarkValue → Bool) (a : ℕ) (marks : List MarkValue) → AreAbove a marks → AreAbove a (filter p marks)
above_of p a [] above = tt
above_of p a (m ∷ marks) above = by (p m) (above_of p a marks above.1) where
  by : (b : Bool) → AreAbove a (filter p marks) → AreAbove a (cond b (m ∷ filter p marks) (filter p marks))
  by true rest = (above.0, rest)
  by false rest = rest

ascend_of : (p : MarkValue → Bool) (marks : List MarkValue) → Ascend marks → Ascend (filter p marks)
ascend_of p [] all = tt
ascend_of p (m ∷ marks) all = by (p m) (ascend_of p marks all.1) where
  by : (b : Bool) → Ascend (filter p marks) → Ascend (cond b (m ∷ filter p marks) (filter p marks))
  by true rest = (above_of p m.source marks all.0, rest)
  by false rest = rest

module _ (history : List DrawopValue) (page : PageId) where
  tops_above : (a : ℕ) (sources : List ℕ) → AllByRecursion (λ s. nat_cmp a s ≡ Less) sources → AreAbove a (map (top_mark history page) sources)
  tops_above a [] all = tt
  tops_above a (s ∷ sources) all = (ranked a s Less (sym all.0), tops_above a sources all.1)

  tops_ascend : (sources : List ℕ) → IsStrictlySortedBy nat_cmp sources → Ascend (map (top_mark history page) sources)
  tops_ascend [] rising = tt
  tops_ascend (s ∷ sources) rising = (tops_above s sources (sorted_head nat_cmp s sources rising), tops_ascend sources (sorted_tail nat_cmp s sources rising))

report_ascends : (history : List DrawopValue) (page : PageId) → Ascend (report_of history page)
unfolding report_of
report_ascends history page = ascend_of (λ m. nat_lt 0 m.high) (map (top_mark history page) (sources_of history page)) (tops_ascend history page (sources_of history page) (sorted_rises nat_cmp_total (map (λ (d : DrawopValue). d.name.source) (filter (λ (d : DrawopValue). same_page d.name.page page) history))))

-- ---- what is left behind a slice

-- each is above the last source before
abbrev IsLeft : Option ℕ → List MarkValue → Type 0
IsLeft told [] = Unit {0}
IsLeft told (m ∷ marks) = (is_untold told m.source ≡ true) × IsLeft (Some m.source) marks

left_above : (a : ℕ) (marks : List MarkValue) → AreAbove a marks → Ascend marks → IsLeft (Some a) marks
left_above a [] above all = tt
left_above a (m ∷ marks) above all = (lt-ltb a m.source above.0, left_above m.source marks all.0 all.1)

left_of : (told : Option ℕ) (marks : List MarkValue) → Ascend marks → IsLeft told (filter (λ m. is_untold told m.source) marks)
left_of told [] all = tt
left_of told (m ∷ marks) all = by (is_untold told m.source) refl (left_of told marks all.1) where
  rest : List MarkValue
  rest = filter (λ m. is_untold told m.source) marks

  by : (b : Bool) → is_untold told m.source ≡ b → IsLeft told rest → IsLeft told (cond b (m ∷ rest) rest)
  by true e later = (e, left_above m.source rest (above_of (λ m. is_untold told m.source) m.source marks all.0) (ascend_of (λ m. is_untold told m.source) marks all.1))
  by false e later = later

pub higher : (told : Option ℕ) (a n : ℕ) → is_untold told a ≡ true → nat_lt a n ≡ true → is_untold told n ≡ true
higher None a n e f = refl
higher (Some t) a n e f = grind (arith, nat_tests)

-- the last source of some marks that are left is not below the last before
no_lower : (told : Option ℕ) (marks : List MarkValue) (n : ℕ) → IsLeft told marks → is_untold (last_source told marks) n ≡ true → is_untold told n ≡ true
no_lower told [] n left untold = untold
no_lower told (m ∷ marks) n left untold = higher told m.source n left.0 (no_lower (Some m.source) marks n left.1 untold)

first_left : (k : ℕ) (told : Option ℕ) (marks : List MarkValue) → IsLeft told marks → IsLeft told (take k marks)
first_left zero told marks left = tt
first_left (suc k) told [] left = tt
first_left (suc k) told (m ∷ marks) left = (left.0, first_left k (Some m.source) marks left.1)

all_left : (told : Option ℕ) (marks : List MarkValue) → ((m : MarkValue) → is_untold told m.source ≡ true → is_untold told m.source ≡ true) → IsLeft told marks → filter (λ m. is_untold told m.source) marks ≡ marks
all_left told [] same left = refl
all_left told (m ∷ marks) same left =
    ap (λ (b : Bool). cond b (m ∷ filter (λ m. is_untold told m.source) marks) (filter (λ m. is_untold told m.source) marks)) left.0
    ∙ ap (λ (ms : List MarkValue). m ∷ ms) (all_left told marks same (lower (Some m.source) marks (λ n e. no_lower told (m ∷ []) n (left.0, tt) e) left.1)) where
      lower : (other : Option ℕ) (ms : List MarkValue) → ((n : ℕ) → is_untold other n ≡ true → is_untold told n ≡ true) → IsLeft other ms → IsLeft told ms
      lower other [] less rest = tt
      lower other (n ∷ ms) less rest = (less n.source rest.0, rest.1)

-- behind the first so many that are left, the others are left
drop_left : (k : ℕ) (told : Option ℕ) (marks : List MarkValue) → IsLeft told marks → filter (λ m. is_untold (last_source told (take k marks)) m.source) marks ≡ drop k marks
drop_left zero told marks left = all_left told marks (λ m e. e) left
drop_left (suc k) told [] left = refl
drop_left (suc k) told (m ∷ marks) left =
    let last = last_source (Some m.source) (take k marks) in
    ap (λ (b : Bool). cond b (m ∷ filter (λ m. is_untold last m.source) marks) (filter (λ m. is_untold last m.source) marks)) (told_now last (λ e. no_lower (Some m.source) (take k marks) m.source (first_left k (Some m.source) marks left.1) e))
    ∙ drop_left k (Some m.source) marks left.1 where
      itself : (n : ℕ) → nat_lt n n ≡ true → ⊥
      itself n e = let lt = ltb-true n n e in omega (arith, lt)

      told_now : (last : Option ℕ) → (is_untold last m.source ≡ true → nat_lt m.source m.source ≡ true) → is_untold last m.source ≡ false
      told_now last known = by (is_untold last m.source) refl where
        by : (b : Bool) → is_untold last m.source ≡ b → is_untold last m.source ≡ false
        by true e = absurd (itself m.source (known e))
        by false e = e

-- a test that passes less, behind one that passes more
filter_both : (p q : MarkValue → Bool) → ((m : MarkValue) → q m ≡ true → p m ≡ true) → (marks : List MarkValue) → filter q (filter p marks) ≡ filter q marks
filter_both p q less [] = refl
filter_both p q less (m ∷ marks) = by (p m) (q m) refl refl (filter_both p q less marks) where
  by : (a b : Bool) → p m ≡ a → q m ≡ b → filter q (filter p marks) ≡ filter q marks → filter q (cond a (m ∷ filter p marks) (filter p marks)) ≡ cond b (m ∷ filter q marks) (filter q marks)
  by true true e f rest = ap (λ (b : Bool). cond b (m ∷ filter q (filter p marks)) (filter q (filter p marks))) f ∙ ap (λ (ms : List MarkValue). m ∷ ms) rest
  by true false e f rest = ap (λ (b : Bool). cond b (m ∷ filter q (filter p marks)) (filter q (filter p marks))) f ∙ rest
  by false true e f rest = absurd (true≢false (sym (less m f) ∙ e))
  by false false e f rest = rest

-- what is left of a report, after a slice of what was left
behind_slice : (told : Option ℕ) (report rest : List MarkValue) → Ascend report → rest ≡ filter (λ m. is_untold told m.source) report → ((rest ≡ []) → told ≡ None)
    → filter (λ m. is_untold (last_source None (take 64 rest)) m.source) report ≡ drop 64 rest
behind_slice told report [] all e none =
    ap (λ (o : Option ℕ). filter (λ m. is_untold o m.source) report) (sym (none refl)) ∙ sym e
behind_slice told report (m ∷ rest) all e none =
    let left : IsLeft told (m ∷ rest) = subst (IsLeft told) (sym e) (left_of told report all) in
    let last = last_source told (take 64 (m ∷ rest)) in
    sym (filter_both (λ m. is_untold told m.source) (λ m. is_untold last m.source) (λ n untold. no_lower told (take 64 (m ∷ rest)) n.source (first_left 64 told (m ∷ rest) left) untold) report)
    ∙ ap (filter (λ m. is_untold last m.source)) (sym e)
    ∙ drop_left 64 told (m ∷ rest) left

-- ---- where a telling ends

last_above : (a : ℕ) (marks : List MarkValue) → AreAbove a marks → Ascend marks → a ≤ unwrap_or (last_source (Some a) marks) 0
last_above a [] above all = omega arith
last_above a (m ∷ marks) above all = let lt = above.0 in let le = last_above m.source marks all.0 all.1 in omega (arith, lt, le)

first_source : (n m : MarkValue) (ns ms : List MarkValue) → n ∷ ns ≡ m ∷ ms → n.source ≡ m.source
first_source n m ns ms e = cc

-- no source of a page is above its last
below_last : (p : MarkValue → Bool) (marks : List MarkValue) (m : MarkValue) (left : List MarkValue) → Ascend marks → filter p marks ≡ m ∷ left → m.source ≤ until_in marks
below_last p [] m left all e = absurd cc
below_last p (x ∷ []) m left all e = by (p x) e where
  by : (b : Bool) → cond b (x ∷ []) [] ≡ m ∷ left → m.source ≤ x.source
  by true e = let same = first_source x m [] left e in omega (arith, same)
  by false e = absurd cc
below_last p (x ∷ y ∷ marks) m left all e = by (p x) e (λ rest. below_last p (y ∷ marks) m left all.1 rest) where
  by : (b : Bool) → cond b (x ∷ filter p (y ∷ marks)) (filter p (y ∷ marks)) ≡ m ∷ left → (filter p (y ∷ marks) ≡ m ∷ left → m.source ≤ until_in (y ∷ marks)) → m.source ≤ until_in (y ∷ marks)
  by true e later = let same = first_source x m (filter p (y ∷ marks)) left e in let le = last_above x.source (y ∷ marks) all.0 all.1 in omega (arith, same, le)
  by false e later = later e

-- the first that is left passes the test
passes : (p : MarkValue → Bool) (marks : List MarkValue) (m : MarkValue) (left : List MarkValue) → filter p marks ≡ m ∷ left → p m ≡ true
passes p [] m left e = absurd cc
passes p (x ∷ marks) m left e = by (p x) refl e (λ rest. passes p marks m left rest) where
  same : (ns : List MarkValue) → x ∷ ns ≡ m ∷ left → x ≡ m
  same ns e = cc

  by : (b : Bool) → p x ≡ b → cond b (x ∷ filter p marks) (filter p marks) ≡ m ∷ left → (filter p marks ≡ m ∷ left → p m ≡ true) → p m ≡ true
  by true is e later = ap p (sym (same (filter p marks) e)) ∙ is
  by false is e later = later e

some_last : (a : ℕ) (marks : List MarkValue) → (b : ℕ) × (last_source (Some a) marks ≡ Some b)
some_last a [] = (a, refl)
some_last a (m ∷ marks) = some_last m.source marks

-- something is left to tell where a source is left
tells_on : (until : ℕ) (told : Option ℕ) (some : (b : ℕ) × (told ≡ Some b)) (source : ℕ) → is_untold told source ≡ true → source ≤ until → is_telling until told ≡ true
tells_on until told some source untold le =
    ap (is_telling until) some.1 ∙ (
    let lt = ltb-true some.0 source (ap (λ (o : Option ℕ). is_untold o source) (sym some.1) ∙ untold) in
    lt-ltb some.0 until (omega (arith, lt, le)))

-- ---- pages ascend

behind_pages : (p : PageId) (pages : List PageId) → AllByRecursion (λ q. page_cmp p q ≡ Less) pages → cycle.AreBehind is_after p pages
behind_pages p [] all = tt
behind_pages p (q ∷ pages) all = ((ap is_lt all.0, ap is_lt (page_total.antisymm q p ∙ ap ordering_reverse all.0)), behind_pages p pages all.1)

ascending : (pages : List PageId) → IsStrictlySortedBy page_cmp pages → cycle.Ascend is_after pages
ascending [] rising = tt
ascending (p ∷ pages) rising = (ap is_lt (page_itself p), behind_pages p pages (sorted_head page_cmp p pages rising), ascending pages (sorted_tail page_cmp p pages rising))

pages_ascend : (held : List DrawopValue) → cycle.Ascend is_after (pages_of held)
pages_ascend held = ascending (pages_of held) (pages_of_history held).rising

-- ---- one report after the other

module _ (held : List DrawopValue) (t : Told) where
  abbrev at : ℕ → Told
  at count = after_tellings held count t

  -- what is left of its page, told or not
  abbrev left_at : ℕ → List MarkValue
  left_at count = filter (λ m. is_untold (at count).last m.source) (report_of held (at count).page)

  abbrev going : ℕ → Bool
  going count = is_telling (at count).until (at count).last

  -- after `count` reports, the next one tells the first of these marks of a page
  record Tells (count : ℕ) (page : PageId) (rest : List MarkValue) : Type 0 where
    page_is : page_in_turn held (at count) ≡ page
    marks_are : marks_in_turn held (at count) ≡ take 64 rest
    until_is : until_in_turn held (at count) ≡ until_in (report_of held page)
    told : Option ℕ
    left : rest ≡ filter (λ m. is_untold told m.source) (report_of held page)
    whole : (rest ≡ []) → told ≡ None

  -- and then the others are left
  leaves : (count : ℕ) (page : PageId) (rest : List MarkValue) → Tells count page rest → left_at (suc count) ≡ drop 64 rest
  leaves count page rest s =
      ap (λ (p : PageId). filter (λ m. is_untold (last_source None (marks_in_turn held (at count))) m.source) (report_of held p)) s.page_is
      ∙ ap (λ (ms : List MarkValue). filter (λ m. is_untold (last_source None ms) m.source) (report_of held page)) s.marks_are
      ∙ behind_slice s.told (report_of held page) rest (report_ascends held page) s.left s.whole

  -- something is left to tell
  left_is : (count : ℕ) (rest : List MarkValue) → going count ≡ true → left_at count ≡ rest → left_to_tell held (at count) ≡ take 64 rest
  left_is count rest on e = ap (λ (b : Bool). cond b (take 64 (left_at count)) []) on ∙ ap (take 64) e

  page_on : (count : ℕ) (m : MarkValue) (rest : List MarkValue) → left_to_tell held (at count) ≡ m ∷ rest → page_in_turn held (at count) ≡ (at count).page
  page_on count m rest e = ap (λ (ms : List MarkValue). where_left ms (page_after (at count).page (pages_of held)) (at count).page) e

  marks_on : (count : ℕ) (m : MarkValue) (rest : List MarkValue) → left_to_tell held (at count) ≡ m ∷ rest → marks_in_turn held (at count) ≡ m ∷ rest
  marks_on count m rest e = ap (λ (ms : List MarkValue). where_left ms (slice_after None (report_of held (page_after (at count).page (pages_of held)))) ms) e

  until_on : (count : ℕ) (m : MarkValue) (rest : List MarkValue) → left_to_tell held (at count) ≡ m ∷ rest → until_in_turn held (at count) ≡ (at count).until
  until_on count m rest e = ap (λ (ms : List MarkValue). where_left ms (until_in (report_of held (page_after (at count).page (pages_of held)))) (at count).until) e

  all_of : (marks : List MarkValue) → marks ≡ filter (λ m. is_untold None m.source) marks
  all_of [] = refl
  all_of (m ∷ marks) = ap (λ (ms : List MarkValue). m ∷ ms) (all_of marks)

  -- nothing is left to tell, and the next page begins
  goes_over : (count : ℕ) → left_to_tell held (at count) ≡ [] → let q = page_after (at count).page (pages_of held) in Tells count q (report_of held q)
  goes_over count e =
      let q = page_after (at count).page (pages_of held) in
      record {
        page_is = ap (λ (ms : List MarkValue). where_left ms q (at count).page) e;
        marks_are = ap (λ (ms : List MarkValue). where_left ms (slice_after None (report_of held q)) ms) e ∙ ap (take 64) (sym (all_of (report_of held q)));
        until_is = ap (λ (ms : List MarkValue). where_left ms (until_in (report_of held q)) (at count).until) e;
        told = None;
        left = all_of (report_of held q);
        whole = λ none. refl;
      }

  -- nothing is left of the page
  none_left : (count : ℕ) → left_at count ≡ [] → left_to_tell held (at count) ≡ []
  none_left count e = by (going count) where
    by : (b : Bool) → cond b (take 64 (left_at count)) [] ≡ []
    by true = ap (take 64) e
    by false = refl

  -- a report tells the first marks of what is left of the page, and the others are left then
  told_on : (count : ℕ) (m : MarkValue) (rest : List MarkValue) → left_to_tell held (at count) ≡ m ∷ rest → ((at (suc count)).page ≡ (at count).page) × (left_at (suc count) ≡ drop 64 (left_at count))
  told_on count m rest e = (page_on count m rest e, left) where
    none_some : [] ≡ m ∷ rest → ⊥
    none_some e = cc

    slice : take 64 (left_at count) ≡ m ∷ rest
    slice = by (going count) e where
      by : (b : Bool) → cond b (take 64 (left_at count)) [] ≡ m ∷ rest → take 64 (left_at count) ≡ m ∷ rest
      by true is = is
      by false is = absurd (none_some is)

    left : left_at (suc count) ≡ drop 64 (left_at count)
    left =
        ap (λ (p : PageId). filter (λ m. is_untold (last_source None (marks_in_turn held (at count))) m.source) (report_of held p)) (page_on count m rest e)
        ∙ ap (λ (ms : List MarkValue). filter (λ m. is_untold (last_source None ms) m.source) (report_of held (at count).page)) (marks_on count m rest e ∙ sym slice)
        ∙ behind_slice (at count).last (report_of held (at count).page) (left_at count) (report_ascends held (at count).page) refl (λ none. absurd (none_some (sym (ap (take 64) none) ∙ slice)))

  -- the source was not told yet at which a telling ends
  still_going : (count : ℕ) (page : PageId) (rest : List MarkValue) (m : MarkValue) (left : List MarkValue) → Tells count page rest → 64 < length rest → drop 64 rest ≡ m ∷ left → going (suc count) ≡ true
  still_going count page rest m left s long e =
      tells_on (at (suc count)).until (at (suc count)).last (told_some rest s.marks_are long) m.source untold (subst (λ (n : ℕ). m.source ≤ n) (sym s.until_is) (below_last (λ m. is_untold (at (suc count)).last m.source) (report_of held page) m left (report_ascends held page) is_left)) where
        told_some : (rest : List MarkValue) → marks_in_turn held (at count) ≡ take 64 rest → 64 < length rest → (b : ℕ) × ((at (suc count)).last ≡ Some b)
        told_some [] e long = absurd (omega (arith, long))
        told_some (x ∷ rest) e long = let l = some_last x.source (take 63 rest) in (l.0, ap (last_source None) e ∙ l.1)

        is_left : filter (λ m. is_untold (at (suc count)).last m.source) (report_of held page) ≡ m ∷ left
        is_left = ap (λ (p : PageId). filter (λ m. is_untold (at (suc count)).last m.source) (report_of held p)) (sym s.page_is) ∙ leaves count page rest s ∙ e

        untold : is_untold (at (suc count)).last m.source ≡ true
        untold = passes (λ m. is_untold (at (suc count)).last m.source) (report_of held page) m left is_left

  onward : (count : ℕ) (page : PageId) (rest : List MarkValue) → Tells count page rest → 64 < length rest → Tells (suc count) page (drop 64 rest)
  onward count page rest s long = by (drop 64 rest) refl where
    next : (m : MarkValue) (left : List MarkValue) → drop 64 rest ≡ m ∷ left → left_to_tell held (at (suc count)) ≡ take 64 (m ∷ left) → Tells (suc count) page (m ∷ left)
    next m left e told = record {
      page_is = page_on (suc count) m (take 63 left) told ∙ s.page_is;
      marks_are = marks_on (suc count) m (take 63 left) told;
      until_is = until_on (suc count) m (take 63 left) told ∙ s.until_is;
      told = (at (suc count)).last;
      left = sym (ap (λ (p : PageId). filter (λ m. is_untold (at (suc count)).last m.source) (report_of held p)) (sym s.page_is) ∙ leaves count page rest s ∙ e);
      whole = λ none. absurd cc;
    }

    by : (left : List MarkValue) → drop 64 rest ≡ left → Tells (suc count) page left
    by [] e = absurd (let a = length-drop 64 rest in let b : length (drop 64 rest) ≡ 0 = ap (λ (ms : List MarkValue). length ms) e in omega (arith, a, b, long))
    by (m ∷ left) e = next m left e (left_is (suc count) (m ∷ left) (still_going count page rest m left s long e) (leaves count page rest s ∙ e))

  over : (count : ℕ) (page : PageId) (rest : List MarkValue) → Tells count page rest → length rest ≤ 64 → Tells (suc count) (page_after page (pages_of held)) (report_of held (page_after page (pages_of held)))
  over count page rest s short =
      subst (λ (p : PageId). Tells (suc count) (page_after p (pages_of held)) (report_of held (page_after p (pages_of held)))) s.page_is
      (goes_over (suc count) (none_left (suc count) (leaves count page rest s ∙ drop_of_length-le rest short)))

  -- the page ends after as many reports as what is left has slices
  ended : (k count : ℕ) (page : PageId) (rest : List MarkValue) → (k * 64 < length rest) ⊎ (k ≡ 0) → length rest ≤ suc k * 64 → Tells count page rest
      → Tells (suc k + count) (page_after page (pages_of held)) (report_of held (page_after page (pages_of held)))
  ended zero count page rest some few s = subst (λ (n : ℕ). Tells n (page_after page (pages_of held)) (report_of held (page_after page (pages_of held)))) (omega arith) (over count page rest s (omega (arith, few)))
  ended (suc k) count page rest some few s =
      let long : suc k * 64 < length rest = ⊎_elim (λ (lt : suc k * 64 < length rest). lt) (λ (none : suc k ≡ 0). absurd (omega (arith, none))) some in
      let left = length-drop 64 rest in
      subst (λ (n : ℕ). Tells n (page_after page (pages_of held)) (report_of held (page_after page (pages_of held)))) (omega arith)
      (ended k (suc count) page (drop 64 rest) (inl (omega (arith, long, left))) (omega (arith, few, left)) (onward count page rest s (omega (arith, long))))

  page_ends : (count : ℕ) (page : PageId) (rest : List MarkValue) → Tells count page rest → Tells (max 1 ((length rest + 63) / 64) + count) (page_after page (pages_of held)) (report_of held (page_after page (pages_of held)))
  page_ends count page rest s = by (nat_le 1 (length rest)) refl where
    q : PageId
    q = page_after page (pages_of held)

    by : (b : Bool) → nat_le 1 (length rest) ≡ b → Tells (max 1 ((length rest + 63) / 64) + count) q (report_of held q)
    by true e =
        let some = leb-true _ _ e in
        subst (λ (n : ℕ). Tells n q (report_of held q)) (full (length rest) count some) (ended ((length rest - 1) / 64) count page rest (inl (low (length rest) some)) (high (length rest) some) s) where
          full : (n count : ℕ) → 1 ≤ n → suc ((n - 1) / 64) + count ≡ max 1 ((n + 63) / 64) + count
          full n count some = omega (arith, some)

          low : (n : ℕ) → 1 ≤ n → (n - 1) / 64 * 64 < n
          low n some = omega (arith, some)

          high : (n : ℕ) → 1 ≤ n → n ≤ suc ((n - 1) / 64) * 64
          high n some = omega (arith, some)
    by false e =
        let none = leb-false _ _ e in
        subst (λ (n : ℕ). Tells n q (report_of held q)) (empty (length rest) count none) (ended 0 count page rest (inr refl) (omega (arith, none)) s) where
          empty : (n count : ℕ) → n < 1 → suc 0 + count ≡ max 1 ((n + 63) / 64) + count
          empty n count none = omega (arith, none)

  -- a report tells a mark of what is left
  told_in : (k count j : ℕ) (page : PageId) (rest : List MarkValue) (d : MarkValue) → k * 64 ≤ j → j < suc k * 64 → j < length rest → Tells count page rest
      → (page_in_turn held (at (k + count)) ≡ page) × Contains (marks_in_turn held (at (k + count))) (get_or rest j d)
  told_in zero count j page rest d low high lt s =
      let within : j < length (take 64 rest) = let l = length-take 64 rest in omega (arith, l, high, lt) in
      let there : Contains (marks_in_turn held (at count)) (get_or rest j d) = subst (λ (ms : List MarkValue). Contains ms (get_or rest j d)) (sym s.marks_are) (subst (λ (m : MarkValue). Contains (take 64 rest) m) (get_or-take 64 rest j d (omega (arith, high))) (Contains-get_or (take 64 rest) j d within)) in
      let none : count ≡ zero + count = omega arith in
      subst (λ (n : ℕ). (page_in_turn held (at n) ≡ page) × Contains (marks_in_turn held (at n)) (get_or rest j d)) none (s.page_is, there)
  told_in (suc k) count j page rest d low high lt s =
      let left = length-drop 64 rest in
      let there = told_in k (suc count) (j - 64) page (drop 64 rest) d (omega (arith, low)) (omega (arith, high)) (omega (arith, lt, left, low)) (onward count page rest s (omega (arith, low, lt))) in
      let next : k + suc count ≡ suc k + count = omega arith in
      let same : get_or (drop 64 rest) (j - 64) d ≡ get_or rest j d = get_or-drop 64 rest (j - 64) d ∙ ap (λ (n : ℕ). get_or rest n d) (omega (arith, low)) in
      subst (λ (m : MarkValue). (page_in_turn held (at (suc k + count)) ≡ page) × Contains (marks_in_turn held (at (suc k + count))) m) same
      (subst (λ (n : ℕ). (page_in_turn held (at n) ≡ page) × Contains (marks_in_turn held (at n)) (get_or (drop 64 rest) (j - 64) d)) next there)

  -- ---- page by page

  abbrev pages : List PageId
  pages = pages_of held

  module _ (d : PageId) where
    abbrev page_at : ℕ → PageId
    page_at i = get_or pages i d

    -- after `count` reports, a page begins
    record Begins (count i : ℕ) : Type 0 where
      within : i < length pages
      tells : Tells count (page_at i) (report_of held (page_at i))

    -- the slices of the pages before it
    abbrev before : ℕ → ℕ
    before i = sum_by (slices_on held) (take i pages)

    before_more : (i : ℕ) → i < length pages → before (suc i) ≡ before i + slices_on held (page_at i)
    before_more i lt = ap (λ (n : ℕ). before n) (suc-eq-add-one i) ∙ sum_by_more (slices_on held) pages i d lt

    next_page : (i : ℕ) → i + 1 < length pages → page_after (page_at i) pages ≡ page_at (suc i)
    next_page i lt = ap (λ (o : Option PageId). unwrap_or (option_or o (first_of_pages pages)) nowhere) (cycle.found_next is_after pages i d (pages_ascend held) lt)

    first_page : 0 < length pages → first_of_pages pages ≡ Some (page_at 0)
    first_page some = by pages some where
      by : (ps : List PageId) → 0 < length ps → first_of_pages ps ≡ Some (get_or ps 0 d)
      by [] lt = absurd (omega (arith, lt))
      by (p ∷ ps) lt = refl

    last_page : (i : ℕ) → i + 1 ≡ length pages → page_after (page_at i) pages ≡ page_at 0
    last_page i is =
        ap (λ (o : Option PageId). unwrap_or (option_or o (first_of_pages pages)) nowhere) (cycle.found_none is_after pages i d (pages_ascend held) is)
        ∙ ap (λ (o : Option PageId). unwrap_or o nowhere) (first_page (omega (arith, is)))

    then_page : (count i j : ℕ) → page_after (page_at i) pages ≡ page_at j → j < length pages → Begins count i → Begins (slices_on held (page_at i) + count) j
    then_page count i j e lt b = record { within = lt; tells = subst (λ (p : PageId). Tells (slices_on held (page_at i) + count) p (report_of held p)) e (page_ends count (page_at i) (report_of held (page_at i)) b.tells) }

    -- `more` pages further
    record Further (count i more : ℕ) : Type 0 where
      there : ℕ
      begins : Begins there (more + i)
      is : there + before i ≡ count + before (more + i)

    further : (count i more : ℕ) → i + more < length pages → Begins count i → Further count i more
    further count i zero lt b = record { there = count; begins = subst (λ (n : ℕ). Begins count n) (none i) b; is = ap (λ (n : ℕ). count + before n) (none i) } where
      none : (i : ℕ) → i ≡ zero + i
      none i = omega arith
    further count i (suc more) lt b =
        let f = further count i more (omega (arith, lt)) b in
        let is = f.is in
        let sum = before_more (more + i) (omega (arith, lt)) in
        let next = then_page f.there (more + i) (suc (more + i)) (next_page (more + i) (omega (arith, lt))) (omega (arith, lt)) f.begins in
        record {
          there = slices_on held (page_at (more + i)) + f.there;
          begins = subst (λ (n : ℕ). Begins (slices_on held (page_at (more + i)) + f.there) n) (same more i) next;
          is = summed (slices_on held (page_at (more + i))) f.there (before i) count (before (more + i)) (before (suc (more + i))) is sum ∙ ap (λ (n : ℕ). count + before n) (same more i);
        } where
          same : (m i : ℕ) → suc (m + i) ≡ suc m + i
          same m i = omega arith

          summed : (s there low count high next : ℕ) → there + low ≡ count + high → next ≡ high + s → s + there + low ≡ count + next
          summed s there low count high next a b = omega (arith, a, b)

    -- from any page to the first
    to_first : (count i : ℕ) → Begins count i → (there : ℕ) × Begins there 0 × (there + before i ≡ count + slices_of held)
    to_first count i b =
        let lt = b.within in
        let more = length pages - 1 - i in
        let f = further count i more (omega (arith, lt)) b in
        let is = f.is in
        let last : more + i + 1 ≡ length pages = omega (arith, lt) in
        let sum = before_more (more + i) (omega (arith, last)) in
        let all : before (suc (more + i)) ≡ slices_of held = ap (λ (n : ℕ). before n) (end (more + i) (length pages) last) ∙ ap (λ (ps : List PageId). sum_by (slices_on held) ps) (take_all (length pages) pages (omega arith)) in (
          slices_on held (page_at (more + i)) + f.there,
          then_page f.there (more + i) 0 (last_page (more + i) last) (omega (arith, lt)) f.begins,
          summed (slices_on held (page_at (more + i))) f.there (before i) count (before (more + i)) (before (suc (more + i))) (slices_of held) is sum all,
        ) where
          end : (m l : ℕ) → m + 1 ≡ l → suc m ≡ l
          end m l e = omega (arith, e)

          summed : (s there low count high next whole : ℕ) → there + low ≡ count + high → next ≡ high + s → next ≡ whole → s + there + low ≡ count + whole
          summed s there low count high next whole a b c = omega (arith, a, b, c)

    -- ---- a mark

    -- one of the first `most` reports tells the mark of the page
    record IsToldIn (page : PageId) (m : MarkValue) (most : ℕ) : Type 0 where
      count : ℕ
      few : count < most
      page_is : page_in_turn held (at count) ≡ page
      among : Contains (marks_in_turn held (at count)) m

    told_then : (count i : ℕ) (m : MarkValue) (most : ℕ) → Contains (report_of held (page_at i)) m → count + slices_on held (page_at i) ≤ most → Begins count i → IsToldIn (page_at i) m most
    told_then count i m most (j, lt, e) le b =
        let marks = report_of held (page_at i) in
        let t = told_in (j / 64) count j (page_at i) marks m (low j) (high j) lt b.tells in
        record { count = j / 64 + count; few = soon (length marks) j count most lt le; page_is = t.0; among = subst (λ (x : MarkValue). Contains (marks_in_turn held (at (j / 64 + count))) x) e t.1 } where
          low : (j : ℕ) → j / 64 * 64 ≤ j
          low j = omega arith

          high : (j : ℕ) → j < suc (j / 64) * 64
          high j = omega arith

          soon : (n j count most : ℕ) → j < n → count + max 1 ((n + 63) / 64) ≤ most → j / 64 + count < most
          soon n j count most lt le = omega (arith, lt, le)

    -- the pages before one are among those before a later one
    up_to : (j i : ℕ) → j < i → i < length pages → before (suc j) ≤ before i
    up_to j zero less within = absurd (omega (arith, less))
    up_to j (suc i) less within = on (nat_le (suc j) i) refl (λ (lt : j < i). up_to j i lt (omega (arith, within))) where
      at_last : suc j ≡ suc i → before (suc j) ≤ before (suc i)
      at_last same = subst (λ (n : ℕ). before (suc j) ≤ before n) same (omega arith)

      on : (o : Bool) → nat_le (suc j) i ≡ o → (j < i → before (suc j) ≤ before i) → before (suc j) ≤ before (suc i)
      on true e rest = let le = rest (leb-true _ _ e) in let more = before_more i (omega (arith, within)) in omega (arith, le, more)
      on false e rest = let no = leb-false _ _ e in at_last (omega (arith, no, less))

    -- from a page that begins, reports tell each mark of each page before all have begun once
    told_from : (count i j : ℕ) (m : MarkValue) → j < length pages → Contains (report_of held (page_at j)) m → Begins count i → IsToldIn (page_at j) m (slices_of held + count)
    told_from count i j m lt there b = by (nat_le i j) refl where
      by : (o : Bool) → nat_le i j ≡ o → IsToldIn (page_at j) m (slices_of held + count)
      by true e =
          let le = leb-true _ _ e in
          let f = further count i (j - i) (omega (arith, lt, le)) b in
          let is = f.is in
          let same : j - i + i ≡ j = omega (arith, le) in
          let begins = subst (λ (n : ℕ). Begins f.there n) same f.begins in
          let sum : f.there + before i ≡ count + before j = is ∙ ap (λ (n : ℕ). count + before n) same in
          let most = sum_by_more_le (slices_on held) pages j d lt in
          told_then f.there j m (slices_of held + count) there (omega (arith, sum, most)) begins
      by false e =
          let less = leb-false _ _ e in
          let first = to_first count i b in
          let f = further first.0 0 j (omega (arith, lt)) first.1 in
          let is = f.is in
          let whole = first.2 in
          let same : j + 0 ≡ j = omega arith in
          let begins = subst (λ (n : ℕ). Begins f.there n) same f.begins in
          let sum : f.there + before 0 ≡ first.0 + before j = is ∙ ap (λ (n : ℕ). first.0 + before n) same in
          let within = up_to j i less (b.within) in
          let last = before_more j lt in
          told_then f.there j m (slices_of held + count) there (fits f.there (before 0) first.0 (before j) (before i) count (slices_of held) (slices_on held (page_at j)) (before (suc j)) sum whole last within) begins where
            fits : (there zero_sum first bj bi count whole s next : ℕ) → there + zero_sum ≡ first + bj → first + bi ≡ count + whole → next ≡ bj + s → next ≤ bi → there + s ≤ whole + count
            fits there zero_sum first bj bi count whole s next a b c e = omega (arith, a, b, c, e)

    -- wherever the reports stand, a page begins soon
    record Soon : Type 0 where
      count : ℕ
      few : count ≤ slices_on held t.page
      begins : (page : PageId) → page ≡ page_after t.page pages → Tells count page (report_of held page)

    begins_at : (count : ℕ) → left_to_tell held (at count) ≡ [] → (at count).page ≡ t.page → count ≤ slices_on held t.page → Soon
    begins_at count e same few = record {
      count = count;
      few = few;
      begins = λ page is. subst (λ (p : PageId). Tells count p (report_of held p)) (ap (λ (p : PageId). page_after p pages) same ∙ sym is) (goes_over count e);
    }

    -- as many reports as the page has slices, or fewer, tell what is left of it
    finish : (slices count : ℕ) → length (left_at count) ≤ slices * 64 → (at count).page ≡ t.page → count + slices ≤ slices_on held t.page → Soon
    finish zero count few same le = begins_at count (none_left count (empty (left_at count) few)) same (omega (arith, le)) where
      empty : (marks : List MarkValue) → length marks ≤ 0 → marks ≡ []
      empty [] few = refl
      empty (m ∷ marks) few = absurd (omega (arith, few))
    finish (suc slices) count few same le = by (left_to_tell held (at count)) refl (λ (m : MarkValue) (rest : List MarkValue) (e : left_to_tell held (at count) ≡ m ∷ rest).
        let is = told_on count m rest e in
        let less : length (left_at (suc count)) ≤ slices * 64 = let l = ap (λ (ms : List MarkValue). length ms) is.1 in let d = length-drop 64 (left_at count) in omega (arith, l, d, few) in
        finish slices (suc count) less (is.0 ∙ same) (omega (arith, le))) where
          by : (rest : List MarkValue) → left_to_tell held (at count) ≡ rest → ((m : MarkValue) (rest : List MarkValue) → left_to_tell held (at count) ≡ m ∷ rest → Soon) → Soon
          by [] e next = begins_at count e same (omega (arith, le))
          by (m ∷ rest) e next = next m rest e

    soon : Soon
    soon =
        let counts = length-filter (λ (m : MarkValue). is_untold t.last m.source) (report_of held t.page) in
        let few = count_by-le-length (λ (m : MarkValue). is_untold t.last m.source) (report_of held t.page) in
        finish ((length (left_at 0) + 63) / 64) 0 (whole (length (left_at 0))) refl (fits (length (left_at 0)) (length (report_of held t.page)) (omega (arith, counts, few))) where
          whole : (a : ℕ) → a ≤ (a + 63) / 64 * 64
          whole a = omega arith

          fits : (a b : ℕ) → a ≤ b → 0 + (a + 63) / 64 ≤ max 1 ((b + 63) / 64)
          fits a b le = omega (arith, le)

    -- it is one of the pages
    page_among : 0 < length pages → (i : ℕ) × (i < length pages) × (page_at i ≡ page_after t.page pages)
    page_among some = by (find (is_after t.page) pages) refl where
      by : (o : Option PageId) → find (is_after t.page) pages ≡ o → (i : ℕ) × (i < length pages) × (page_at i ≡ page_after t.page pages)
      by None e = (0, some, sym (ap (λ (o : Option PageId). unwrap_or (option_or o (first_of_pages pages)) nowhere) e ∙ ap (λ (o : Option PageId). unwrap_or o nowhere) (first_page some)))
      by (Some q) e = let found = found_at (is_after t.page) pages q d e in (found.0, found.1, found.2 ∙ sym (ap (λ (o : Option PageId). unwrap_or (option_or o (first_of_pages pages)) nowhere) e))

    told_at_last : (j : ℕ) (m : MarkValue) → j < length pages → Contains (report_of held (page_at j)) m → IsToldIn (page_at j) m (slices_of held + slices_on held t.page)
    told_at_last j m lt there =
        let i = page_among (omega (arith, lt)) in
        let tells = soon.begins (page_at i.0) i.2 in
        let told = told_from soon.count i.0 j m lt there (record { within = i.1; tells = tells }) in
        let few = told.few in
        let le = soon.few in
        record { count = told.count; few = omega (arith, few, le); page_is = told.page_is; among = told.among }

-- of that many reports in turn one tells a mark
pub has_its_turn : (held : List DrawopValue) (t : Told) (page : PageId) (m : MarkValue) → Contains (pages_of held) page → Contains (report_of held page) m
    → (count : ℕ) × (count < slices_of held + slices_on held t.page) × (page_in_turn held (after_tellings held count t) ≡ page) × Contains (marks_in_turn held (after_tellings held count t)) m
has_its_turn held t page m (j, lt, e) there =
    let told = told_at_last held t page j m lt (subst (λ (p : PageId). Contains (report_of held p) m) (sym e) there) in
    (told.count, told.few, told.page_is ∙ e, told.among)
