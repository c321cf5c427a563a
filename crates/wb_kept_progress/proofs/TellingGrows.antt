-- While a board grows, each report brings a mark of it nearer to its turn: fewer reports may come before the one that tells it.
use Rattle.std.proofs.Common.{◌≡◌, ℕ, zero, suc, ◌+◌, ◌-◌, ◌*◌, ◌<◌, ◌≤◌, Bool, true, false, cond, List, [], ◌∷◌, ◌∙◌, Option, Some, None, ap, arith, inl, inr, length, map, max, refl, subst, sym, true≢false, ⊎_elim}
use Rattle.std.specs.Prelude.{◌⊎◌, ◌/◌, ◌&&◌, Contains, filter, nat_le, nat_lt}
use Rattle.std.specs.List.Sorted.{IsStrictlySortedBy}
use Rattle.std.proofs.lemmas.Bool.{and_from, and_parts, le-leb, leb-true, lt-ltb, ltb-false, ltb-true}
use Rattle.std.proofs.lemmas.Option.{none-some}
use Rattle.wb_names.specs.Orders.{page_cmp, same_page}
use Rattle.wb_names.specs.Values.{DrawopValue, MarkValue, NameValue}
use Rattle.wb_names.specs.declared.name.PageId.{PageId}
use Rattle.wb_names.proofs.Listings.{Contains-filter, Contains-from_filter, Contains-from_take, Contains-here, Contains-none, Contains-there}
use Rattle.wb_names.proofs.Orders.{same_page-is}
use Rattle.wb_gaps.specs.Answers.{pages_of, report_of, sources_of, top_mark}
use Rattle.wb_gaps.proofs.HeldNumbers.{same_page-here}
use Rattle.wb_gaps.proofs.PageAnswers.{pages_of_history}
use Rattle.wb_policy.specs.Choices.{last_source, newest, until_in}
use Rattle.wb_policy.specs.Fairness.{after_reporting, after_telling, left_to_tell, marks_in_turn, marks_reported, page_in_turn, page_reported, slices_of, slices_on, where_left, where_newest}
use Rattle.wb_policy.specs.declared.reports.Told.{Told}
use Rattle.wb_policy.specs.Reports.{is_telling, is_untold, newest_now, page_after, slice_after, slice_with, told_newest}
use Rattle.wb_policy.proofs.HeldTops.{page_there, top_told}
use Rattle.wb_kept_progress.specs.Telling.{AreGrowing, EachMarkIsToldOfGrowing, EndsAtMark, HasMark, after_growing}
use Rattle.wb_kept_progress.proofs.PagesInTurn.{all_where, begins_behind, count_where, fewer_where, goes_on, is_between, next_page, one_where, reaches, sum_where}
use Rattle.wb_policy.proofs.Slices.{Rise, first_or_above, none_above, report_rises, rise_first, rise_untold}
use Rattle.wb_kept_progress.proofs.Slices.{count_above, fewer_above}
use Rattle.wb_kept_progress.proofs.ToldHeld.{report_held}

-- ---- the marks of a board

-- what is held stays
abbrev pub GrowsTo : List DrawopValue → List DrawopValue → Type 0
GrowsTo held more = (d : DrawopValue) → Contains held d → Contains more d

pub mark_stays : (held more : List DrawopValue) (page : PageId) (source : ℕ) → GrowsTo held more → HasMark held page source → HasMark more page source
mark_stays held more page source grows h = record { d = h.d; there = grows h.d h.there; on = h.on; by = h.by; counted = h.counted }

its_mark : (held : List DrawopValue) (page : PageId) (source : ℕ) → HasMark held page source → Contains (report_of held page) (top_mark held page source)
its_mark held page source h =
    subst (λ (p : PageId). Contains (report_of held p) (top_mark held p source)) h.on
    (subst (λ (s : ℕ). Contains (report_of held h.d.name.page) (top_mark held h.d.name.page s)) h.by (top_told held h.d h.there h.counted))

its_page : (held : List DrawopValue) (page : PageId) (source : ℕ) → HasMark held page source → Contains (pages_of held) page
its_page held page source h = subst (λ (p : PageId). Contains (pages_of held) p) h.on (page_there held h.d h.there h.counted)

-- each mark of a report is one
positive : (held : List DrawopValue) (page : PageId) (m : MarkValue) → Contains (report_of held page) m → 1 ≤ m.high
unfolding report_of
positive held page m c = ltb-true 0 m.high (Contains-from_filter (λ (m : MarkValue). nat_lt 0 m.high) (map (top_mark held page) (sources_of held page)) m c).1

has_mark : (held : List DrawopValue) (page : PageId) (m : MarkValue) → Contains (report_of held page) m → HasMark held page m.source
has_mark held page m c =
    let h = report_held held page m c in
    record {
      d = h.1;
      there = (h.0, h.2, h.3);
      on = ap (λ (n : NameValue). n.page) h.4;
      by = ap (λ (n : NameValue). n.source) h.4;
      counted = counted h.1.name.seq m.high (ap (λ (n : NameValue). n.seq) h.4) (positive held page m c);
    } where
      counted : (seq high : ℕ) → seq ≡ high → 1 ≤ high → 1 ≤ seq
      counted seq high e le = omega (arith, e, le)

-- ---- tests of a telling

untold_until : (until : ℕ) (told : Option ℕ) → is_telling until told ≡ true → is_untold told until ≡ true
untold_until until None e = refl
untold_until until (Some b) e = e

ended : (until : ℕ) (told : Option ℕ) → is_untold told until ≡ false → is_telling until told ≡ false
ended until None e = refl
ended until (Some b) e = e

tells_some : (until : ℕ) → is_telling until None ≡ true → ⊥
tells_some until e = true≢false (sym e)

-- it goes on while a source is left up to its end
tells_on : (m : MarkValue) (marks : List MarkValue) (source until : ℕ) → is_untold (last_source None (m ∷ marks)) source ≡ true → source ≤ until → is_telling until (last_source None (m ∷ marks)) ≡ true
tells_on m [] source until e le = let lt = ltb-true m.source source e in lt-ltb m.source until (omega (arith, lt, le))
tells_on m (x ∷ marks) source until e le = tells_on x marks source until e le

-- the last source of a page is one of it, and none is above it
last_is : (m : MarkValue) (marks : List MarkValue) → (x : MarkValue) × Contains (m ∷ marks) x × (until_in (m ∷ marks) ≡ x.source)
last_is m [] = (m, Contains-here m [], refl)
last_is m (y ∷ marks) = let rest = last_is y marks in (rest.0, Contains-there m rest.0 (y ∷ marks) rest.1, rest.2)

some_last : (m : MarkValue) (marks : List MarkValue) → last_source None (m ∷ marks) ≡ Some (until_in (m ∷ marks))
some_last m [] = refl
some_last m (x ∷ marks) = some_last x marks

up_to_last : (marks : List MarkValue) (m : MarkValue) → Rise None marks → Contains marks m → m.source ≤ until_in marks
up_to_last [] m rises c = absurd (Contains-none m c)
up_to_last (x ∷ marks) m rises c =
    by (nat_lt (until_in (x ∷ marks)) m.source) refl (sym (ap (λ (o : Option ℕ). is_untold o m.source) (some_last x marks)) ∙ none_above None (x ∷ marks) m rises c) where
      by : (b : Bool) → nat_lt (until_in (x ∷ marks)) m.source ≡ b → nat_lt (until_in (x ∷ marks)) m.source ≡ false → m.source ≤ until_in (x ∷ marks)
      by true e f = absurd (true≢false (sym e ∙ f))
      by false e f = let no = ltb-false (until_in (x ∷ marks)) m.source f in omega (arith, no)

-- ---- the next report

-- the page that begins if the telling ended, and where the reports stand then, by what is left of the telling
abbrev next_of : List DrawopValue → Told → PageId
next_of held t = page_after t.page (pages_of held)

abbrev then_told : List DrawopValue → Told → List MarkValue → Told
then_told held t marks = record {
  page = where_left marks (next_of held t) t.page;
  last = last_source None (where_left marks (slice_after None (report_of held (next_of held t))) marks);
  until = where_left marks (until_in (report_of held (next_of held t))) t.until;
  in_turn = true;
}

-- something is left while the telling goes on
is_on : (held : List DrawopValue) (t : Told) (m : MarkValue) (marks : List MarkValue) → left_to_tell held t ≡ m ∷ marks → is_telling t.until t.last ≡ true
is_on held t m marks e = by (is_telling t.until t.last) refl where
  nothing : [] ≡ m ∷ marks → ⊥
  nothing e = cc

  by : (b : Bool) → is_telling t.until t.last ≡ b → b ≡ true
  by true is = refl
  by false is = absurd (nothing (sym (ap (λ (b : Bool). cond b (slice_after t.last (report_of held t.page)) []) is) ∙ e))

-- a telling that begins ends at a source of its page
ends_there : (held : List DrawopValue) (page : PageId) → let report = report_of held page in is_telling (until_in report) (last_source None (slice_after None report)) ≡ true
    → (x : MarkValue) × Contains (report_of held page) x × (until_in (report_of held page) ≡ x.source)
ends_there held page is = by (report_of held page) is where
  by : (marks : List MarkValue) → is_telling (until_in marks) (last_source None (slice_after None marks)) ≡ true → (x : MarkValue) × Contains marks x × (until_in marks ≡ x.source)
  by [] is = absurd (tells_some 0 is)
  by (m ∷ marks) is = last_is m marks

pub ends_in_turn : (held : List DrawopValue) (t : Told) → EndsAtMark held t → EndsAtMark held (after_telling held t)
ends_in_turn held t ends = by (left_to_tell held t) refl where
  by : (marks : List MarkValue) → left_to_tell held t ≡ marks → EndsAtMark held (then_told held t (left_to_tell held t))
  by [] e = subst (λ (ms : List MarkValue). EndsAtMark held (then_told held t ms)) (sym e) (λ is.
      let x = ends_there held (next_of held t) is in
      subst (HasMark held (next_of held t)) (sym x.2) (has_mark held (next_of held t) x.0 x.1))
  by (m ∷ marks) e = subst (λ (ms : List MarkValue). EndsAtMark held (then_told held t ms)) (sym e) (λ is. ends (is_on held t m marks e))

pub ends_still : (held : List DrawopValue) (t : Told) → EndsAtMark held t → EndsAtMark held (after_reporting held t)
ends_still held t ends = by (newest_now held t) where
  by : (name : Option NameValue) → EndsAtMark held (where_newest name (after_telling held t) (λ name. told_newest t))
  by None = ends_in_turn held t ends
  by (Some name) = ends

pub ends_later : (held more : List DrawopValue) (t : Told) → GrowsTo held more → EndsAtMark held t → EndsAtMark more t
ends_later held more t grows ends = λ is. mark_stays held more t.page t.until grows (ends is)

-- ---- how many reports may come before one tells a mark

-- a 64th of what is left of a telling, if it goes on
one_fewer : (b : Bool) (n many : ℕ) → n + 64 ≤ many → cond b ((n + 63) / 64) 0 + 1 ≤ (many + 63) / 64
one_fewer true n many le = omega (arith, le)
one_fewer false n many le = omega (arith, le)

the_last : (b : Bool) (n many : ℕ) → b ≡ false → 1 ≤ many → cond b ((n + 63) / 64) 0 + 1 ≤ (many + 63) / 64
the_last true n many e le = absurd (true≢false e)
the_last false n many e le = omega (arith, le)

or_none : (b : Bool) (n : ℕ) → cond b 0 n ≤ n
or_none true n = omega arith
or_none false n = omega arith

module _ (whole : List DrawopValue) (to : PageId) (source : ℕ) where
  -- the marks that the page has above a source
  abbrev above : Option ℕ → PageId → ℕ
  above told page = count_above told (report_of whole page)

  -- the reports of the telling that goes on; whether it comes to the mark; the slices of the pages up to that of the mark
  abbrev telling : Told → ℕ
  telling t = cond (is_telling t.until t.last) ((above t.last t.page + 63) / 64) 0

  abbrev comes : Told → Bool
  comes t = same_page t.page to && (is_telling t.until t.last && (is_untold t.last source && nat_le source t.until))

  abbrev later : PageId → ℕ
  later page = sum_where (slices_on whole) (is_between page to) (pages_of whole)

  abbrev pub left_in_turn : Told → ℕ
  left_in_turn t = telling t + cond (comes t) 0 (later t.page)

  -- the next report tells the mark
  abbrev pub TellsInTurn : List DrawopValue → Told → Type 0
  TellsInTurn held t = (page_in_turn held t ≡ to) × Contains (marks_in_turn held t) (top_mark held to source)

  module _ (held : List DrawopValue) (grows : GrowsTo held whole) (has : HasMark held to source) where
    -- ---- a slice of a page

    module _ (told : Option ℕ) (page : PageId) where
      abbrev untold : List MarkValue
      untold = filter (λ m. is_untold told m.source) (report_of held page)

      abbrev slice : List MarkValue
      slice = slice_after told (report_of held page)

      untold_rises : Rise told untold
      untold_rises = rise_untold told (report_of held page) (report_rises held page)

      slice_rises : Rise told slice
      slice_rises = rise_first 64 told untold untold_rises

      slice_among : (m : MarkValue) → Contains slice m → (x : MarkValue) × Contains (report_of whole page) x × (x.source ≡ m.source)
      slice_among m c =
          let there = (Contains-from_filter (λ m. is_untold told m.source) (report_of held page) m (Contains-from_take 64 untold m c)).0 in
          (top_mark whole page m.source, its_mark whole page m.source (mark_stays held whole page m.source grows (has_mark held page m there)), refl)

      fewer_left : above (last_source told slice) page + length slice ≤ above told page
      fewer_left = fewer_above (report_of whole page) told slice slice_rises slice_among

      -- a mark that was not told is in the slice, or above 64 that are
      in_slice : (m : MarkValue) → Contains (report_of held page) m → is_untold told m.source ≡ true → Contains slice m ⊎ ((length slice ≡ 64) × (is_untold (last_source told slice) m.source ≡ true))
      in_slice m c e = first_or_above 64 told untold m untold_rises (Contains-filter (λ m. is_untold told m.source) (report_of held page) m c e)

      -- some mark of it is the first
      some_above : (m : MarkValue) (rest : List MarkValue) → slice ≡ m ∷ rest → 1 ≤ above told page
      some_above m rest e = let few = fewer_left in let long = ap (λ (ms : List MarkValue). length ms) e in omega (arith, few, long)

    -- ---- a report

    module _ (t : Told) where
      abbrev rest_of : List MarkValue
      rest_of = left_to_tell held t

      abbrev next : PageId
      next = next_of held t

      abbrev then : List MarkValue → Told
      then marks = then_told held t marks

      -- what the next report does
      abbrev Nearer : Type 0
      Nearer = TellsInTurn held t ⊎ (left_in_turn (after_telling held t) + 1 ≤ left_in_turn t)

      nearer_then : (marks : List MarkValue) → rest_of ≡ marks → left_in_turn (then marks) + 1 ≤ left_in_turn t → Nearer
      nearer_then marks e le = inr (subst (λ (ms : List MarkValue). left_in_turn (then ms) + 1 ≤ left_in_turn t) (sym e) le)

      -- ---- the telling goes on

      module _ (ends : EndsAtMark held t) (m : MarkValue) (marks : List MarkValue) (e : rest_of ≡ m ∷ marks) where
        on : is_telling t.until t.last ≡ true
        on = is_on held t m marks e

        slice_is : slice t.last t.page ≡ m ∷ marks
        slice_is = sym (ap (λ (b : Bool). cond b (slice t.last t.page) []) on) ∙ e

        abbrev last_then : Option ℕ
        last_then = last_source None (m ∷ marks)

        last_is_then : last_source t.last (slice t.last t.page) ≡ last_then
        last_is_then = ap (last_source t.last) slice_is

        -- the report tells 64, or the telling ends
        fewer_telling : telling (then (m ∷ marks)) + 1 ≤ telling t
        fewer_telling =
            let few = fewer_left t.last t.page in
            let count : above (last_source t.last (slice t.last t.page)) t.page ≡ above last_then t.page = ap (λ (o : Option ℕ). above o t.page) last_is_then in
            subst (λ (b : Bool). cond (is_telling t.until last_then) ((above last_then t.page + 63) / 64) 0 + 1 ≤ cond b ((above t.last t.page + 63) / 64) 0) (sym on)
            (⊎_elim
            (λ (c : Contains (slice t.last t.page) (top_mark held t.page t.until)).
            the_last (is_telling t.until last_then) (above last_then t.page) (above t.last t.page)
            (ended t.until last_then (ap (λ (o : Option ℕ). is_untold o t.until) (sym last_is_then) ∙ none_above t.last (slice t.last t.page) (top_mark held t.page t.until) (slice_rises t.last t.page) c))
            (some_above t.last t.page m marks slice_is))
            (λ full. let long = full.0 in one_fewer (is_telling t.until last_then) (above last_then t.page) (above t.last t.page) (omega (arith, few, count, long)))
            (in_slice t.last t.page (top_mark held t.page t.until) (its_mark held t.page t.until (ends on)) (untold_until t.until t.last on)))

        -- it comes to the mark
        module _ (is : comes t ≡ true) where
          here : t.page ≡ to
          here = same_page-is t.page to (and_parts (same_page t.page to) _ is).0

          untold_there : is_untold t.last source ≡ true
          untold_there = (and_parts (is_untold t.last source) _ (and_parts (is_telling t.until t.last) _ (and_parts (same_page t.page to) _ is).1).1).0

          up_to : source ≤ t.until
          up_to = leb-true source t.until (and_parts (is_untold t.last source) _ (and_parts (is_telling t.until t.last) _ (and_parts (same_page t.page to) _ is).1).1).1

          told_or_nearer : Nearer
          told_or_nearer = ⊎_elim
              (λ (c : Contains (slice t.last t.page) (top_mark held t.page source)). inl (
                ap (λ (ms : List MarkValue). where_left ms next t.page) e ∙ here,
                subst (λ (ms : List MarkValue). Contains ms (top_mark held to source)) (sym (ap (λ (ms : List MarkValue). where_left ms (slice_after None (report_of held next)) ms) e))
                    (subst (λ (p : PageId). Contains (m ∷ marks) (top_mark held p source)) here (subst (λ (ms : List MarkValue). Contains ms (top_mark held t.page source)) slice_is c)),
              ))
              (λ full. nearer_then (m ∷ marks) e (still full.1))
              (in_slice t.last t.page (top_mark held t.page source) (its_mark held t.page source (subst (λ (p : PageId). HasMark held p source) (sym here) has)) untold_there) where
                both : (a b : Bool) (n o more : ℕ) → a ≡ true → b ≡ true → n + 1 ≤ o → n + cond a 0 more + 1 ≤ o + cond b 0 more
                both true true n o more f g le = omega (arith, le)
                both true false n o more f g le = absurd (true≢false (sym g))
                both false b n o more f g le = absurd (true≢false (sym f))

                still : is_untold (last_source t.last (slice t.last t.page)) source ≡ true → left_in_turn (then (m ∷ marks)) + 1 ≤ left_in_turn t
                still untold_then =
                    let untold_last : is_untold last_then source ≡ true = ap (λ (o : Option ℕ). is_untold o source) (sym last_is_then) ∙ untold_then in
                    let comes_then : comes (then (m ∷ marks)) ≡ true =
                    and_from (same_page t.page to) _ (and_parts (same_page t.page to) _ is).0
                    (and_from (is_telling t.until last_then) _ (tells_on m marks source t.until untold_last up_to)
                    (and_from (is_untold last_then source) _ untold_last (le-leb source t.until up_to))) in
                    both (comes (then (m ∷ marks))) (comes t) (telling (then (m ∷ marks))) (telling t) (later t.page) comes_then is fewer_telling

        -- it does not
        nearer_later : comes t ≡ false → Nearer
        nearer_later is_not = nearer_then (m ∷ marks) e (fewer (comes t) is_not fewer_telling (or_none (comes (then (m ∷ marks))) (later t.page))) where
          fewer : (b : Bool) → b ≡ false → telling (then (m ∷ marks)) + 1 ≤ telling t → cond (comes (then (m ∷ marks))) 0 (later t.page) ≤ later t.page → telling (then (m ∷ marks)) + cond (comes (then (m ∷ marks))) 0 (later t.page) + 1 ≤ telling t + cond b 0 (later t.page)
          fewer true f le more = absurd (true≢false f)
          fewer false f le more = omega (arith, le, more)

        goes_nearer : Nearer
        goes_nearer = by (comes t) refl where
          by : (b : Bool) → comes t ≡ b → Nearer
          by true is = told_or_nearer is
          by false is = nearer_later is

      -- ---- the next page begins

      module _ (e : rest_of ≡ []) where
        rising : IsStrictlySortedBy page_cmp (pages_of held)
        rising = (pages_of_history held).rising

        is_next : Contains (pages_of held) next × (is_between t.page to next ≡ true)
        is_next = next_page t.page to (pages_of held) rising (its_page held to source has)

        next_there : Contains (pages_of whole) next
        next_there =
            let some = ((pages_of_history held).members next).0 is_next.0 in
            let c = grows some.1 (some.0, some.2, some.3) in
            ((pages_of_history whole).members next).1 (c.0, some.1, c.1, c.2, some.4)

        abbrev first : List MarkValue
        first = slice None next

        -- the telling that ended did not come to the mark
        comes_not : comes t ≡ false
        comes_not = by (comes t) refl where
          empty : is_telling t.until t.last ≡ true → slice t.last t.page ≡ []
          empty on = sym (ap (λ (b : Bool). cond b (slice t.last t.page) []) on) ∙ e

          by : (b : Bool) → comes t ≡ b → b ≡ false
          by false is = refl
          by true is =
              let page = and_parts (same_page t.page to) _ is in
              let telling = and_parts (is_telling t.until t.last) _ page.1 in
              let untold = and_parts (is_untold t.last source) _ telling.1 in
              let none = empty telling.0 in
              absurd (⊎_elim
              (λ (c : Contains (slice t.last t.page) (top_mark held t.page source)). Contains-none (top_mark held t.page source) (subst (λ (ms : List MarkValue). Contains ms (top_mark held t.page source)) none c))
              (λ full. let long = full.0 in let short = ap (λ (ms : List MarkValue). length ms) none in omega (arith, long, short))
              (in_slice t.last t.page (top_mark held t.page source) (its_mark held t.page source (subst (λ (p : PageId). HasMark held p source) (sym (same_page-is t.page to page.0)) has)) untold.0))

        -- of the new page fewer slices are left, by one
        few_left : length first ≡ 64 → (above (last_source None first) next + 63) / 64 + 1 ≤ slices_on whole next
        few_left long =
            let few = fewer_left None next in
            let most = count_where (λ (m : MarkValue). is_untold None m.source) (report_of whole next) in
            fits (above (last_source None first) next) (length first) (above None next) (length (report_of whole next)) few most long where
              fits : (n l most all : ℕ) → n + l ≤ most → most ≤ all → l ≡ 64 → (n + 63) / 64 + 1 ≤ max 1 ((all + 63) / 64)
              fits n l most all le more e = omega (arith, le, more, e)

        begins_fewer : telling (then []) + 1 ≤ slices_on whole next
        begins_fewer = by (is_telling (until_in (report_of held next)) (last_source None first)) refl where
          least : (all : ℕ) → 0 + 1 ≤ max 1 ((all + 63) / 64)
          least all = omega arith

          by : (b : Bool) → is_telling (until_in (report_of held next)) (last_source None first) ≡ b → cond b ((above (last_source None first) next + 63) / 64) 0 + 1 ≤ slices_on whole next
          by false is = least (length (report_of whole next))
          by true is =
              let last = ends_there held next is in
              ⊎_elim
              (λ (c : Contains first last.0). absurd (true≢false (sym is ∙ ended (until_in (report_of held next)) (last_source None first) (ap (is_untold (last_source None first)) last.2 ∙ none_above None first last.0 (slice_rises None next) c))))
              (λ full. few_left full.0)
              (in_slice None next last.0 last.1 refl)

        -- it is the page of the mark
        told_first : next ≡ to → Nearer
        told_first same = ⊎_elim
            (λ (c : Contains first (top_mark held next source)). inl (
              ap (λ (ms : List MarkValue). where_left ms next t.page) e ∙ same,
              subst (λ (ms : List MarkValue). Contains ms (top_mark held to source)) (sym (ap (λ (ms : List MarkValue). where_left ms first ms) e))
                  (subst (λ (p : PageId). Contains first (top_mark held p source)) same c),
            ))
            (λ full. nearer_then [] e (comes_to full.0 full.1))
            (in_slice None next (top_mark held next source) mark_there refl) where
              mark_there : Contains (report_of held next) (top_mark held next source)
              mark_there = its_mark held next source (subst (λ (p : PageId). HasMark held p source) (sym same) has)

              below : source ≤ until_in (report_of held next)
              below = up_to_last (report_of held next) (top_mark held next source) (report_rises held next) mark_there

              goes : (marks : List MarkValue) → first ≡ marks → length first ≡ 64 → is_untold (last_source None first) source ≡ true → is_telling (until_in (report_of held next)) (last_source None first) ≡ true
              goes [] none long untold = absurd (let short = ap (λ (ms : List MarkValue). length ms) none in omega (arith, long, short))
              goes (m ∷ marks) some long untold =
                  subst (λ (ms : List MarkValue). is_telling (until_in (report_of held next)) (last_source None ms) ≡ true) (sym some)
                  (tells_on m marks source (until_in (report_of held next)) (ap (λ (ms : List MarkValue). is_untold (last_source None ms) source) (sym some) ∙ untold) below)

              fits : (b : Bool) (n slices more l : ℕ) → b ≡ true → n + 1 ≤ slices → slices ≤ more → n + cond b 0 l + 1 ≤ more
              fits true n slices more l is le few = omega (arith, le, few)
              fits false n slices more l is le few = absurd (true≢false (sym is))

              under : (n more o : ℕ) (b : Bool) → b ≡ false → n + 1 ≤ more → n + 1 ≤ o + cond b 0 more
              under n more o true is le = absurd (true≢false is)
              under n more o false is le = omega (arith, le)

              comes_to : length first ≡ 64 → is_untold (last_source None first) source ≡ true → left_in_turn (then []) + 1 ≤ left_in_turn t
              comes_to long untold =
                  let comes_then : comes (then []) ≡ true =
                  and_from (same_page next to) _ (same_page-here next to same)
                  (and_from (is_telling (until_in (report_of held next)) (last_source None first)) _ (goes first refl long untold)
                  (and_from (is_untold (last_source None first) source) _ untold (le-leb source (until_in (report_of held next)) below))) in
                  let one = one_where (slices_on whole) (is_between t.page to) (pages_of whole) next next_there is_next.1 in
                  let le = fits (comes (then [])) (telling (then [])) (slices_on whole next) (later t.page) (later next) comes_then begins_fewer one in
                  under (left_in_turn (then [])) (later t.page) (telling t) (comes t) comes_not le

        -- it is one before that
        page_nearer : (next ≡ to → ⊥) → Nearer
        page_nearer differ =
            let fewer = fewer_where (slices_on whole) (is_between t.page to) (is_between next to) (pages_of whole) next (goes_on t.page to next is_next.1 differ) next_there is_next.1 (begins_behind t.page to next is_next.1 differ) in
            let most = or_none (comes (then [])) (later next) in
            nearer_then [] e (under (comes t) (telling (then [])) (cond (comes (then [])) 0 (later next)) (later next) (later t.page) (slices_on whole next) (telling t) comes_not most begins_fewer fewer) where
              under : (b : Bool) (n l more all slices o : ℕ) → b ≡ false → l ≤ more → n + 1 ≤ slices → more + slices ≤ all → n + l + 1 ≤ o + cond b 0 all
              under true n l more all slices o is le few sum = absurd (true≢false is)
              under false n l more all slices o is le few sum = omega (arith, le, few, sum)

        begins_nearer : Nearer
        begins_nearer = by (same_page next to) refl where
          by : (b : Bool) → same_page next to ≡ b → Nearer
          by true is = told_first (same_page-is next to is)
          by false is = page_nearer (λ same. true≢false (sym (same_page-here next to same) ∙ is))

      -- a report tells the mark, or brings it nearer
      pub turn_nearer : EndsAtMark held t → Nearer
      turn_nearer ends = by rest_of refl where
        by : (marks : List MarkValue) → rest_of ≡ marks → Nearer
        by [] e = begins_nearer e
        by (m ∷ marks) e = goes_nearer ends m marks e

  -- ---- how many reports there may be at first

  module _ (t : Told) (has : HasMark whole to source) where
    page_is : Contains (pages_of whole) to
    page_is = its_page whole to source has

    one_slice : (n : ℕ) → 1 ≤ max 1 ((n + 63) / 64)
    one_slice n = omega arith

    -- one comes at least
    pub one_in_turn : 1 ≤ left_in_turn t
    one_in_turn = by (comes t) refl where
      under : (n more : ℕ) → 1 ≤ more → 1 ≤ n + more
      under n more le = omega (arith, le)

      first : (n : ℕ) → 1 ≤ n → 1 ≤ (n + 63) / 64 + 0
      first n le = omega (arith, le)

      by : (b : Bool) → comes t ≡ b → 1 ≤ telling t + cond b 0 (later t.page)
      by false is =
          let one = one_where (slices_on whole) (is_between t.page to) (pages_of whole) to page_is (reaches t.page to) in
          let least = one_slice (length (report_of whole to)) in
          under (telling t) (later t.page) (omega (arith, one, least))
      by true is =
          let page = and_parts (same_page t.page to) _ is in
          let goes = and_parts (is_telling t.until t.last) _ page.1 in
          let untold = and_parts (is_untold t.last source) _ goes.1 in
          let here = its_mark whole t.page source (subst (λ (p : PageId). HasMark whole p source) (sym (same_page-is t.page to page.0)) has) in
          let one = one_where (λ (m : MarkValue). 1) (λ m. is_untold t.last m.source) (report_of whole t.page) (top_mark whole t.page source) here untold.0 in
          subst (λ (b : Bool). 1 ≤ cond b ((above t.last t.page + 63) / 64) 0 + 0) (sym goes.0) (first (above t.last t.page) one)

    slices_within : (page : PageId) → Contains (pages_of whole) page → slices_on whole page ≤ slices_of whole
    slices_within page there =
        let one = one_where (slices_on whole) (λ q. true) (pages_of whole) page there refl in
        let all = all_where (slices_on whole) (λ q. true) (pages_of whole) in
        omega (arith, one, all)

    all_slices : slices_on whole to ≤ slices_of whole
    all_slices = slices_within to page_is

    -- a page has at most as many slices as the board
    few_slices : (page : PageId) → slices_on whole page ≤ slices_of whole
    few_slices page = by (report_of whole page) refl where
      none : (n all : ℕ) → n ≡ 0 → 1 ≤ all → max 1 ((n + 63) / 64) ≤ all
      none n all e le = omega (arith, e, le)

      by : (marks : List MarkValue) → report_of whole page ≡ marks → slices_on whole page ≤ slices_of whole
      by [] e = let le = all_slices in let least = one_slice (length (report_of whole to)) in none (length (report_of whole page)) (slices_of whole) (ap (λ (ms : List MarkValue). length ms) e) (omega (arith, le, least))
      by (m ∷ marks) e = slices_within page (its_page whole page m.source (has_mark whole page m (subst (λ (ms : List MarkValue). Contains ms m) (sym e) (Contains-here m marks))))

    pub few_in_turn : left_in_turn t ≤ 2 * slices_of whole
    few_in_turn =
        let few = few_slices t.page in
        let all = all_where (slices_on whole) (is_between t.page to) (pages_of whole) in
        let count = count_where (λ (m : MarkValue). is_untold t.last m.source) (report_of whole t.page) in
        let most = or_none (comes t) (later t.page) in
        fits (is_telling t.until t.last) (above t.last t.page) (length (report_of whole t.page)) (cond (comes t) 0 (later t.page)) (later t.page) (slices_of whole) count few most all where
          fits : (b : Bool) (n long l more all : ℕ) → n ≤ long → max 1 ((long + 63) / 64) ≤ all → l ≤ more → more ≤ all → cond b ((n + 63) / 64) 0 + l ≤ 2 * all
          fits true n long l more all le few one other = omega (arith, le, few, one, other)
          fits false n long l more all le few one other = omega (arith, le, few, one, other)

  -- ---- every second report tells what changed last

  -- two reports for each in turn that may come before, one less if the next is in turn
  abbrev pub left : Told → ℕ
  left t = 2 * left_in_turn t + cond t.in_turn 1 0 - 1

  -- the next report tells the mark
  abbrev pub TellsMark : List DrawopValue → Told → Type 0
  TellsMark held t = (page_reported held t ≡ to) × Contains (marks_reported held t) (top_mark held to source)

  two_nearer : (a b : ℕ) (turned : Bool) → a + 1 ≤ b → 2 * a + 1 - 1 + 1 ≤ 2 * b + cond turned 1 0 - 1
  two_nearer a b true le = omega (arith, le)
  two_nearer a b false le = omega (arith, le)

  one_nearer : (a : ℕ) (turned : Bool) → turned ≡ true → 1 ≤ a → 2 * a + 0 - 1 + 1 ≤ 2 * a + cond turned 1 0 - 1
  one_nearer a true is some = omega (arith, some)
  one_nearer a false is some = absurd (true≢false (sym is))

  module _ (held : List DrawopValue) (grows : GrowsTo held whole) (has : HasMark held to source) (t : Told) where
    abbrev told_next : Option NameValue → Told
    told_next name = where_newest name (after_telling held t) (λ name. told_newest t)

    was_turn : (turned : Bool) (name : NameValue) → cond turned (newest held) None ≡ Some name → turned ≡ true
    was_turn true name e = refl
    was_turn false name e = absurd (none-some name e)

    abbrev NearerNow : Type 0
    NearerNow = TellsMark held t ⊎ (left (after_reporting held t) + 1 ≤ left t)

    in_turn_now : newest_now held t ≡ None → TellsInTurn held t → TellsMark held t
    in_turn_now e tells = (
      ap (λ (name : Option NameValue). where_newest name (page_in_turn held t) (λ name. name.page)) e ∙ tells.0,
      subst (λ (ms : List MarkValue). Contains ms (top_mark held to source))
          (sym (ap (λ (name : Option NameValue). where_newest name (marks_in_turn held t) (λ name. slice_with name.source (report_of held name.page))) e)) tells.1,
    )

    pub comes_nearer : EndsAtMark held t → NearerNow
    comes_nearer ends = by (newest_now held t) refl where
      by : (name : Option NameValue) → newest_now held t ≡ name → NearerNow
      by None e = ⊎_elim
          (λ (tells : TellsInTurn held t). inl (in_turn_now e tells))
          (λ (less : left_in_turn (after_telling held t) + 1 ≤ left_in_turn t).
          inr (subst (λ (u : Told). left u + 1 ≤ left t) (sym (ap told_next e)) (two_nearer (left_in_turn (after_telling held t)) (left_in_turn t) t.in_turn less)))
          (turn_nearer held grows has t ends)
      by (Some name) e =
          inr (subst (λ (u : Told). left u + 1 ≤ left t) (sym (ap told_next e))
          (one_nearer (left_in_turn t) t.in_turn (was_turn t.in_turn name e) (one_in_turn t (mark_stays held whole to source grows has))))

  module _ (t : Told) (has : HasMark whole to source) where
    pub one_left : 1 ≤ left t
    one_left = some (left_in_turn t) (cond t.in_turn 1 0) (one_in_turn t has) where
      some : (a b : ℕ) → 1 ≤ a → 1 ≤ 2 * a + b - 1
      some a b le = omega (arith, le)

    pub few_left_at_first : left t ≤ 4 * slices_of whole
    few_left_at_first = few (left_in_turn t) (slices_of whole) t.in_turn (few_in_turn t has) where
      few : (a b : ℕ) (turned : Bool) → a ≤ 2 * b → 2 * a + cond turned 1 0 - 1 ≤ 4 * b
      few a b true le = omega (arith, le)
      few a b false le = omega (arith, le)

-- ---- reports one after the other, of boards that grow

module _ (boards : ℕ → List DrawopValue) (grow : AreGrowing boards) (t : Told) (page : PageId) (source : ℕ) (ends : EndsAtMark (boards 0) t) (has : HasMark (boards 0) page source) where
  abbrev told_after : ℕ → Told
  told_after count = after_growing boards count t

  grows_by : (more count : ℕ) → GrowsTo (boards count) (boards (more + count))
  grows_by zero count d c = subst (λ (n : ℕ). Contains (boards n) d) (omega arith) c
  grows_by (suc more) count d c = subst (λ (n : ℕ). Contains (boards n) d) (omega arith) (grow (more + count) d (grows_by more count d c))

  grows_up_to : (count last : ℕ) → count ≤ last → GrowsTo (boards count) (boards last)
  grows_up_to count last le d c = subst (λ (n : ℕ). Contains (boards n) d) (same count last le) (grows_by (last - count) count d c) where
    same : (count last : ℕ) → count ≤ last → last - count + count ≡ last
    same count last le = omega (arith, le)

  ends_after : (count : ℕ) → EndsAtMark (boards count) (told_after count)
  ends_after zero = ends
  ends_after (suc count) = ends_later (boards count) (boards (suc count)) (told_after (suc count)) (grow count) (ends_still (boards count) (told_after count) (ends_after count))

  abbrev IsToldBy : ℕ → ℕ → Type 0
  IsToldBy last most = (count : ℕ) × (count < most) × TellsMark (boards last) page source (boards count) (told_after count)

  told_by : (fewer count last : ℕ) → fewer + count ≤ last → left (boards last) page source (told_after count) ≤ fewer → IsToldBy last (fewer + count)
  told_by zero count last le few =
      let one = one_left (boards last) page source (told_after count) (mark_stays (boards 0) (boards last) page source (grows_up_to 0 last (omega arith)) has) in
      absurd (omega (arith, one, few))
  told_by (suc fewer) count last le few = next (λ le few. told_by fewer (suc count) last le few) where
    here : HasMark (boards count) page source
    here = mark_stays (boards 0) (boards count) page source (grows_up_to 0 count (omega arith)) has

    next : (fewer + suc count ≤ last → left (boards last) page source (told_after (suc count)) ≤ fewer → IsToldBy last (fewer + suc count)) → IsToldBy last (suc fewer + count)
    next rest = ⊎_elim
        (λ (told : TellsMark (boards last) page source (boards count) (told_after count)). (count, omega arith, told))
        (λ (less : left (boards last) page source (told_after (suc count)) + 1 ≤ left (boards last) page source (told_after count)).
        let later = rest (omega (arith, le)) (omega (arith, less, few)) in
        let lt = later.1 in
        (later.0, omega (arith, lt), later.2))
        (comes_nearer (boards last) page source (boards count) (grows_up_to count last (omega (arith, le))) here (told_after count) (ends_after count))

pub each_mark_is_told_of_growing : EachMarkIsToldOfGrowing
each_mark_is_told_of_growing boards t page source last grow ends has le =
    let most = few_left_at_first (boards last) page source t (mark_stays (boards 0) (boards last) page source (grows_up_to boards grow t page source ends has 0 last (omega arith)) has) in
    let told = told_by boards grow t page source ends has (4 * slices_of (boards last)) 0 last (omega (arith, le)) most in
    let lt = told.1 in
    (told.0, omega (arith, lt), told.2.0, told.2.1)
