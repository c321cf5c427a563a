-- The marks of a page ascend, so a slice of them has each source up to its last.
use Rattle.std.proofs.Common.{◌≡◌, ℕ, zero, suc, ◌+◌, ◌≤◌, Bool, true, false, cond, List, [], ◌∷◌, ◌∙◌, Option, Some, None, ap, arith, inl, inr, length, map, refl, subst, sym, ⊎_elim}
use Rattle.std.specs.Prelude.{◌⊎◌, Contains, filter, nat_lt, take}
use Rattle.std.specs.Cmp.{nat_cmp_total}
use Rattle.std.specs.List.Sorted.{IsStrictlySortedBy}
use Rattle.std.specs.Ordering.{nat_cmp}
use Rattle.std.specs.declared.cmp.Ordering.TheVariants.{Less}
use Rattle.std.proofs.lemmas.Bool.{false_from_ne_true, ltb-true}
use Rattle.std.proofs.lemmas.Bool.Decides.{nat_tests}
use Rattle.std.proofs.lemmas.Grind.{common_steps}
use Rattle.std.proofs.lemmas.Map.Keys.{sorted_head, sorted_tail}
use Rattle.wb_names.specs.Orders.{same_page}
use Rattle.wb_names.specs.Values.{DrawopValue, MarkValue}
use Rattle.wb_names.specs.declared.name.PageId.{PageId}
use Rattle.wb_names.proofs.Listings.{Contains-cases, Contains-from_filter, Contains-here, Contains-none, Contains-there}
use Rattle.wb_gaps.specs.Answers.{report_of, sources_of, top_mark}
use Rattle.wb_gaps.proofs.Sorting.{sorted_rises}
use Rattle.wb_policy.specs.Choices.{last_source}
use Rattle.wb_policy.specs.Reports.{is_untold}
use Rattle.wb_policy.proofs.ToldMarks.{higher}

-- ---- marks that ascend from a source on

abbrev pub Rise : Option ℕ → List MarkValue → Type 0
Rise told [] = Unit {0}
Rise told (m ∷ marks) = (is_untold told m.source ≡ true) × Rise (Some m.source) marks

lower : (other told : Option ℕ) (marks : List MarkValue) → ((n : ℕ) → is_untold other n ≡ true → is_untold told n ≡ true) → Rise other marks → Rise told marks
lower other told [] less rises = tt
lower other told (m ∷ marks) less rises = (less m.source rises.0, rises.1)

rise_some : (p : MarkValue → Bool) (told : Option ℕ) (marks : List MarkValue) → Rise told marks → Rise told (filter p marks)
rise_some p told [] rises = tt
rise_some p told (m ∷ marks) rises = by (p m) (rise_some p (Some m.source) marks rises.1) where
  by : (b : Bool) → Rise (Some m.source) (filter p marks) → Rise told (cond b (m ∷ filter p marks) (filter p marks))
  by true rest = (rises.0, rest)
  by false rest = lower (Some m.source) told (filter p marks) (λ n e. higher told m.source n rises.0 e) rest

from_first : (told : Option ℕ) (marks : List MarkValue) → ((m : MarkValue) → Contains marks m → is_untold told m.source ≡ true) → Rise None marks → Rise told marks
from_first told [] all rises = tt
from_first told (m ∷ marks) all rises = (all m (Contains-here m marks), rises.1)

pub rise_untold : (told : Option ℕ) (marks : List MarkValue) → Rise None marks → Rise told (filter (λ m. is_untold told m.source) marks)
rise_untold told marks rises =
    from_first told (filter (λ m. is_untold told m.source) marks) (λ m c. (Contains-from_filter (λ m. is_untold told m.source) marks m c).1)
    (rise_some (λ m. is_untold told m.source) None marks rises)

pub rise_first : (k : ℕ) (told : Option ℕ) (marks : List MarkValue) → Rise told marks → Rise told (take k marks)
rise_first zero told [] rises = tt
rise_first zero told (m ∷ marks) rises = tt
rise_first (suc k) told [] rises = tt
rise_first (suc k) told (m ∷ marks) rises = (rises.0, rise_first k (Some m.source) marks rises.1)

-- the marks of a report do so
module _ (held : List DrawopValue) (page : PageId) where
  tops_rise : (sources : List ℕ) → IsStrictlySortedBy nat_cmp sources → Rise None (map (top_mark held page) sources)
  tops_rise [] rising = tt
  tops_rise (s ∷ []) rising = (refl, tt)
  tops_rise (s ∷ t ∷ sources) rising = (refl, (is_below s t (sorted_head nat_cmp s (t ∷ sources) rising).0, (tops_rise (t ∷ sources) (sorted_tail nat_cmp s (t ∷ sources) rising)).1)) where
    is_below : (a b : ℕ) → nat_cmp a b ≡ Less → nat_lt a b ≡ true
    is_below a b e = grind (arith, common_steps, nat_tests)

pub report_rises : (held : List DrawopValue) (page : PageId) → Rise None (report_of held page)
unfolding report_of
report_rises held page =
    rise_some (λ m. nat_lt 0 m.high) None (map (top_mark held page) (sources_of held page))
    (tops_rise held page (sources_of held page) (sorted_rises nat_cmp_total (map (λ (d : DrawopValue). d.name.source) (filter (λ (d : DrawopValue). same_page d.name.page page) held))))

-- ---- the last of them

pub all_above : (told : Option ℕ) (marks : List MarkValue) (m : MarkValue) → Rise told marks → Contains marks m → is_untold told m.source ≡ true
all_above told [] m rises c = absurd (Contains-none m c)
all_above told (x ∷ marks) m rises c = ⊎_elim
    (λ (e : x ≡ m). ap (λ (y : MarkValue). is_untold told y.source) (sym e) ∙ rises.0)
    (λ (c : Contains marks m). higher told x.source m.source rises.0 (all_above (Some x.source) marks m rises.1 c))
    (Contains-cases x m marks c)

not_below : (a n : ℕ) (marks : List MarkValue) → n ≤ a → Rise (Some a) marks → is_untold (last_source (Some a) marks) n ≡ false
not_below a n [] le rises = false_from_ne_true (nat_lt a n) (λ e. let lt = ltb-true a n e in omega (arith, le, lt))
not_below a n (m ∷ marks) le rises = let lt = ltb-true a m.source rises.0 in not_below m.source n marks (omega (arith, le, lt)) rises.1

-- none is above the last
pub none_above : (told : Option ℕ) (marks : List MarkValue) (m : MarkValue) → Rise told marks → Contains marks m → is_untold (last_source told marks) m.source ≡ false
none_above told [] m rises c = absurd (Contains-none m c)
none_above told (x ∷ marks) m rises c = ⊎_elim
    (λ (e : x ≡ m). not_below x.source m.source marks (same x.source m.source (ap (λ (y : MarkValue). y.source) e)) rises.1)
    (λ (c : Contains marks m). none_above (Some x.source) marks m rises.1 c)
    (Contains-cases x m marks c) where
      same : (a b : ℕ) → a ≡ b → b ≤ a
      same a b e = omega (arith, e)

-- the first of them have one, or are as many as they may be, and it is above their last
pub first_or_above : (k : ℕ) (told : Option ℕ) (marks : List MarkValue) (m : MarkValue) → Rise told marks → Contains marks m
    → Contains (take k marks) m ⊎ ((length (take k marks) ≡ k) × (is_untold (last_source told (take k marks)) m.source ≡ true))
first_or_above zero told [] m rises c = absurd (Contains-none m c)
first_or_above zero told (x ∷ marks) m rises c = inr (refl, all_above told (x ∷ marks) m rises c)
first_or_above (suc k) told [] m rises c = absurd (Contains-none m c)
first_or_above (suc k) told (x ∷ marks) m rises c = ⊎_elim
    (λ (e : x ≡ m). inl (subst (λ (y : MarkValue). Contains (x ∷ take k marks) y) e (Contains-here x (take k marks))))
    (λ (c : Contains marks m). ⊎_elim
    (λ (there : Contains (take k marks) m). inl (Contains-there x m (take k marks) there))
    (λ full. inr (ap suc full.0, full.1))
    (first_or_above k (Some x.source) marks m rises.1 c))
    (Contains-cases x m marks c)
