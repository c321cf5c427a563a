-- Every second report tells what changed last, and the others tell in turn: each mark within twice as many reports, what changed last within two.
use Rattle.std.proofs.Common.{◌≡◌, ℕ, zero, suc, ◌+◌, ◌-◌, ◌*◌, ◌<◌, ◌≤◌, Bool, true, false, cond, List, [], ◌∷◌, ◌++◌, ◌∙◌, Option, Some, None, ap, arith, filter, inl, inr, length, length-append, refl, subst, sym, true≢false, ⊎_elim}
use Rattle.std.specs.Prelude.{◌⊎◌, Contains, nat_lt, slice_get, take}
use Rattle.std.specs.Option.{option_map}
use Rattle.std.proofs.lemmas.Bool.{lt-ltb, ltb-true}
use Rattle.std.proofs.lemmas.List.Elements.{Contains-append_right}
use Rattle.wb_names.specs.Values.{DrawopValue, MarkValue, NameValue}
use Rattle.wb_names.specs.declared.name.PageId.{PageId}
use Rattle.wb_names.proofs.Listings.{Contains-cases, Contains-filter, Contains-here, Contains-none, Contains-there}
use Rattle.wb_gaps.specs.Answers.{pages_of, report_of, top_mark}
use Rattle.wb_policy.specs.Choices.{last_source, newest}
use Rattle.wb_policy.specs.Fairness.{EachMarkIsTold, NewestIsTold, TellsSourceOf, Told, after_reporting, after_reports, after_telling, marks_in_turn, marks_reported, page_in_turn, page_reported, slices_of, slices_on, where_newest}
use Rattle.wb_policy.specs.Reports.{from_source, is_untold, newest_now, slice_after, slice_with, told_newest}
use Rattle.wb_policy.proofs.HeldTops.{top_told}
use Rattle.wb_policy.proofs.Slices.{Rise, all_above, first_or_above, report_rises, rise_untold}
use Rattle.wb_policy.proofs.ToldMarks.{after_tellings, has_its_turn}

-- ---- reports in turn among all

-- where tellings in turn stand, whatever the last report told
abbrev place : Told → Told
place t = record t { in_turn = true }

module _ (held : List DrawopValue) where
  -- a report in turn
  abbrev IsInTurn : Told → Type 0
  IsInTurn u = newest_now held u ≡ None

  goes_on : (u : Told) → IsInTurn u → after_reporting held u ≡ after_telling held u
  goes_on u now = ap (λ (o : Option NameValue). where_newest o (after_telling held u) (λ (name : NameValue). told_newest u)) now

  waits : (u : Told) (name : NameValue) → newest_now held u ≡ Some name → after_reporting held u ≡ told_newest u
  waits u name now = ap (λ (o : Option NameValue). where_newest o (after_telling held u) (λ (name : NameValue). told_newest u)) now

  module _ (t : Told) where
    -- what is in turn after this count of reports in turn has its turn after these reports
    record Reaches (turns most : ℕ) : Type 0 where
      count : ℕ
      few : count ≤ most
      now : IsInTurn (after_reports held count t)
      at : place (after_reports held count t) ≡ place (after_tellings held turns t)

    soon : (turns count : ℕ) → place (after_reports held count t) ≡ place (after_tellings held turns t) → Reaches turns (suc count)
    soon turns count at = by (newest_now held (after_reports held count t)) refl where
      u : Told
      u = after_reports held count t

      by : (o : Option NameValue) → newest_now held u ≡ o → Reaches turns (suc count)
      by None now = record { count = count; few = omega arith; now = now; at = at }
      by (Some name) now =
          let then = waits u name now in
          record { count = suc count; few = omega arith; now = ap (newest_now held) then; at = ap place then ∙ at }

    reach : (turns : ℕ) → Reaches turns (2 * turns + 1)
    reach zero = soon zero zero refl
    reach (suc turns) =
        let r = reach turns in
        let few = r.few in
        let next = soon (suc turns) (suc r.count) (ap place (goes_on (after_reports held r.count t) r.now) ∙ ap (after_telling held) r.at) in
        let less = next.few in
        record { count = next.count; few = omega (arith, few, less); now = next.now; at = next.at }

pub each_mark_is_told : EachMarkIsTold
each_mark_is_told held t page m page_there there = (r.count, under r.count turn.0 _ r.few turn.1, page_is, among) where
  turn : (count : ℕ) × (count < slices_of held + slices_on held t.page) × (page_in_turn held (after_tellings held count t) ≡ page) × Contains (marks_in_turn held (after_tellings held count t)) m
  turn = has_its_turn held t page m page_there there

  r : Reaches held t turn.0 (2 * turn.0 + 1)
  r = reach held t turn.0

  u : Told
  u = after_reports held r.count t

  under : (a b c : ℕ) → a ≤ 2 * b + 1 → b < c → a < 2 * c
  under a b c le lt = omega (arith, le, lt)

  page_is : page_reported held u ≡ page
  page_is = ap (λ (o : Option NameValue). where_newest o (page_in_turn held u) (λ (name : NameValue). name.page)) r.now ∙ ap (page_in_turn held) r.at ∙ turn.2

  marks_are : marks_reported held u ≡ marks_in_turn held (after_tellings held turn.0 t)
  marks_are =
      ap (λ (o : Option NameValue). where_newest o (marks_in_turn held u) (λ (name : NameValue). slice_with name.source (report_of held name.page))) r.now
      ∙ ap (marks_in_turn held) r.at

  among : Contains (marks_reported held u) m
  among = subst (λ (ms : List MarkValue). Contains ms m) (sym marks_are) turn.3

-- ---- the slice with a source

from_itself : (source : ℕ) → is_untold (from_source source) source ≡ true
from_itself zero = refl
from_itself (suc source) = lt-ltb source (suc source) (omega arith)

-- between a source and the one before it there is none
none_before : (source other : ℕ) → is_untold (from_source source) other ≡ true → nat_lt other source ≡ true → ⊥
none_before zero other e f = let lt = ltb-true other zero f in omega (arith, lt)
none_before (suc source) other e f = let gt = ltb-true source other e in let lt = ltb-true other (suc source) f in omega (arith, lt, gt)

is_first : (k : ℕ) (m : MarkValue) (marks : List MarkValue) → Rise (from_source m.source) marks → Contains marks m → Contains (take (suc k) marks) m
is_first k m [] rises c = absurd (Contains-none m c)
is_first k m (x ∷ marks) rises c = ⊎_elim
    (λ (e : x ≡ m). subst (λ (y : MarkValue). Contains (x ∷ take k marks) y) e (Contains-here x (take k marks)))
    (λ (c : Contains marks m). absurd (none_before m.source x.source rises.0 (all_above (Some x.source) marks m rises.1 c)))
    (Contains-cases x m marks c)

slice_has : (marks : List MarkValue) (m : MarkValue) → Rise None marks → Contains marks m → Contains (slice_with m.source marks) m
slice_has marks m rises c = by (is_untold (last_source None (slice_after None marks)) m.source) refl where
  untold : Option ℕ → List MarkValue
  untold told = filter (λ (x : MarkValue). is_untold told x.source) marks

  by : (b : Bool) → is_untold (last_source None (slice_after None marks)) m.source ≡ b → Contains (slice_after (cond b (from_source m.source) None) marks) m
  by true e =
      let told = from_source m.source in
      is_first 63 m (untold told) (rise_untold told marks rises) (Contains-filter (λ (x : MarkValue). is_untold told x.source) marks m c (from_itself m.source))
  by false e = ⊎_elim
      (λ (there : Contains (slice_after None marks) m). there)
      (λ (full : (length (slice_after None marks) ≡ 64) × (is_untold (last_source None (slice_after None marks)) m.source ≡ true)). absurd (true≢false (sym full.1 ∙ e)))
      (first_or_above 64 None (untold None) m (rise_untold None marks rises) (Contains-filter (λ (x : MarkValue). is_untold None x.source) marks m c refl))

-- ---- what changed last

newest_is : (older : List DrawopValue) (d : DrawopValue) → newest (older ++ d ∷ []) ≡ Some d.name
newest_is older d = ap (option_map (λ (x : DrawopValue). x.name)) (ap (λ (n : ℕ). slice_get (older ++ d ∷ []) (n - 1)) (length-append older (d ∷ [])) ∙ at older) where
  at : (ds : List DrawopValue) → slice_get (ds ++ d ∷ []) (length ds + 1 - 1) ≡ Some d
  at ds = ap (slice_get (ds ++ d ∷ [])) (omega arith) ∙ last ds where
    last : (ds : List DrawopValue) → slice_get (ds ++ d ∷ []) (length ds) ≡ Some d
    last [] = refl
    last (x ∷ ds) = last ds

pub newest_is_told : NewestIsTold
newest_is_told older d t counted = by t.in_turn refl where
  held : List DrawopValue
  held = older ++ d ∷ []

  there : Contains held d
  there = Contains-append_right older (d ∷ []) d (Contains-here d [])

  told_now : (u : Told) → u.in_turn ≡ true → TellsSourceOf d held u
  told_now u turned = (
    ap (λ (o : Option NameValue). where_newest o (page_in_turn held u) (λ (name : NameValue). name.page)) now,
    subst (λ (ms : List MarkValue). Contains ms (top_mark held d.name.page d.name.source))
        (sym (ap (λ (o : Option NameValue). where_newest o (marks_in_turn held u) (λ (name : NameValue). slice_with name.source (report_of held name.page))) now))
        (slice_has (report_of held d.name.page) (top_mark held d.name.page d.name.source) (report_rises held d.name.page) (top_told held d there counted)),
  ) where
    now : newest_now held u ≡ Some d.name
    now = ap (λ (b : Bool). cond b (newest held) None) turned ∙ newest_is older d

  by : (b : Bool) → t.in_turn ≡ b → TellsSourceOf d held t ⊎ TellsSourceOf d held (after_reporting held t)
  by true turned = inl (told_now t turned)
  by false not_turned =
      let now : newest_now held t ≡ None = ap (λ (b : Bool). cond b (newest held) None) not_turned in
      inr (told_now (after_reporting held t) (ap (λ (u : Told). u.in_turn) (goes_on held t now)))
