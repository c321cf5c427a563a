-- The holes of a board ascend, so that each is found behind the one before it.
use Rattle.std.proofs.Common.{◌≡◌, ℕ, suc, ◌+◌, ◌≤◌, ◌<◌, Bool, true, false, List, [], ◌∷◌, ◌++◌, ◌∙◌, Some, ap, arith, get_or, length, map, refl, subst, sym, true≢false, ⊎_elim}
use Rattle.std.specs.Prelude.{AllPairs, Contains}
use Rattle.std.specs.List.{find, flat_map}
use Rattle.std.specs.List.Sorted.{IsStrictlySortedBy}
use Rattle.std.specs.Ordering.{is_lt, nat_cmp, ordering_then}
use Rattle.std.specs.declared.cmp.Ordering.{Ordering}
use Rattle.std.specs.declared.cmp.Ordering.TheVariants.{Less, Equal, Greater}
use Rattle.std.proofs.lemmas.Bool.Decides.{nat_tests}
use Rattle.std.proofs.lemmas.Grind.{common_steps}
use Rattle.std.proofs.lemmas.Cmp.{ranked}
use Rattle.std.proofs.lemmas.List.Concat.{flat_map-cons}
use Rattle.std.proofs.lemmas.Map.Keys.{sorted_tail}
use Rattle.wb_names.specs.Orders.{page_cmp}
use Rattle.wb_names.specs.Values.{DrawopValue}
use Rattle.wb_names.specs.declared.gap.Gap.{Gap}
use Rattle.wb_names.specs.declared.name.PageId.{PageId}
use Rattle.wb_names.proofs.Listings.{below_all, Contains-here, Contains-there}
use Rattle.wb_names.proofs.Orders.{page_total}
use Rattle.wb_gaps.specs.Answers.{gaps_of, pages_of}
use Rattle.wb_gaps.specs.Gaps.{IsApart}
use Rattle.wb_gaps.specs.Holes.{begins_after, hole_on, holes_of, holes_on}
use Rattle.wb_gaps.specs.Starts.{start, start_cmp}
use Rattle.wb_gaps.specs.declared.holdings.Start.{Start}
use Rattle.wb_gaps.specs.declared.holes.Hole.{Hole}
use Rattle.wb_gaps.proofs.MissingRanges.{gaps_of_page}
use Rattle.wb_gaps.proofs.PageAnswers.{pages_of_history}
use Rattle.wb_gaps.proofs.Starts.{by_number, is_less, nat_itself, page_itself, start_total}
use Rattle.wb_policy.specs.Turns.{nowhere}
use Rattle.wb_policy.proofs.Cycle as cycle
use Rattle.wb_policy.proofs.FilledHoles.{AreFilled, IsFilled, gaps_filled}

abbrev pub first_of : Hole → Start
first_of h = start h.page h.gap.source h.gap.first

abbrev pub last_of : Hole → Start
last_of h = start h.page h.gap.source h.gap.last

-- one hole ends before the other begins
abbrev Precedes : Hole → Hole → Type 0
Precedes h g = start_cmp (last_of h) (first_of g) ≡ Less

abbrev AreBehind : Hole → List Hole → Type 0
AreBehind h [] = Unit {0}
AreBehind h (g ∷ holes) = Precedes h g × AreBehind h holes

abbrev pub Rise : List Hole → Type 0
Rise [] = Unit {0}
Rise (h ∷ holes) = IsFilled h.gap × AreBehind h holes × Rise holes

-- ---- of one page

nat_less : (a b : ℕ) → a < b → nat_cmp a b ≡ Less
nat_less a b lt = grind (arith, common_steps, nat_tests)

apart_precedes : (page : PageId) (g h : Gap) → IsApart g h → Precedes (hole_on page g) (hole_on page h)
apart_precedes page g h apart =
    ap (λ (r : Ordering). ordering_then r (ordering_then (nat_cmp g.source h.source) (nat_cmp g.last h.first))) (page_itself page)
    ∙ ⊎_elim (λ (lt : g.source < h.source). ap (λ (r : Ordering). ordering_then r (nat_cmp g.last h.first)) (nat_less g.source h.source lt))
    (λ (e : (g.source ≡ h.source) × (g.last + 1 < h.first)). ap (λ (s : ℕ). ordering_then (nat_cmp g.source s) (nat_cmp g.last h.first)) (sym e.0) ∙ ap (λ (r : Ordering). ordering_then r (nat_cmp g.last h.first)) (nat_itself g.source) ∙ nat_less g.last h.first (let lt = e.1 in omega (arith, lt))) apart

behind_gap : (page : PageId) (g : Gap) (gaps : List Gap) → ((j : ℕ) (d : Gap) → j < length gaps → IsApart g (get_or gaps j d)) → AreBehind (hole_on page g) (map (hole_on page) gaps)
behind_gap page g [] apart = tt
behind_gap page g (h ∷ gaps) apart = (apart_precedes page g h (apart 0 h (omega arith)), behind_gap page g gaps (λ j d lt. apart (suc j) d (omega (arith, lt))))

gaps_rise : (page : PageId) (gaps : List Gap) → AreFilled gaps → AllPairs IsApart gaps → Rise (map (hole_on page) gaps)
gaps_rise page [] filled apart = tt
gaps_rise page (g ∷ gaps) filled apart = (
  filled.0,
  behind_gap page g gaps (λ j d lt. apart 0 (suc j) d (omega arith) (omega (arith, lt))),
  gaps_rise page gaps filled.1 (λ i j d ij lt. apart (suc i) (suc j) d (omega (arith, ij)) (omega (arith, lt))),
)

-- ---- of all pages

behind_both : (h : Hole) (one other : List Hole) → AreBehind h one → AreBehind h other → AreBehind h (one ++ other)
behind_both h [] other a b = b
behind_both h (g ∷ one) other a b = (a.0, behind_both h one other a.1 b)

-- the holes of a page, and then those of later ones
rise_both : (page : PageId) (gaps : List Gap) (later : List Hole) → Rise (map (hole_on page) gaps) → Rise later → ((g : Gap) → AreBehind (hole_on page g) later) → Rise (map (hole_on page) gaps ++ later)
rise_both page [] later a b behind = b
rise_both page (g ∷ gaps) later a b behind = (a.0, behind_both (hole_on page g) (map (hole_on page) gaps) later a.1 (behind g), rise_both page gaps later a.2 b behind)

later_page : (page other : PageId) (g h : Gap) → page_cmp page other ≡ Less → Precedes (hole_on page g) (hole_on other h)
later_page page other g h less = ap (λ (r : Ordering). ordering_then r (ordering_then (nat_cmp g.source h.source) (nat_cmp g.last h.first))) less

behind_page : (page other : PageId) (g : Gap) (gaps : List Gap) → page_cmp page other ≡ Less → AreBehind (hole_on page g) (map (hole_on other) gaps)
behind_page page other g [] less = tt
behind_page page other g (h ∷ gaps) less = (later_page page other g h less, behind_page page other g gaps less)

behind_pages : (history : List DrawopValue) (page : PageId) (g : Gap) (pages : List PageId) → ((other : PageId) → Contains pages other → page_cmp page other ≡ Less) → AreBehind (hole_on page g) (flat_map (holes_on history) pages)
behind_pages history page g [] less = tt
behind_pages history page g (other ∷ pages) less =
    subst (AreBehind (hole_on page g)) (sym (flat_map-cons (holes_on history) other pages))
    (behind_both (hole_on page g) (holes_on history other) (flat_map (holes_on history) pages) (behind_page page other g (gaps_of history other []) (less other (Contains-here other pages))) (behind_pages history page g pages (λ q c. less q (Contains-there other q pages c))))

pages_rise : (history : List DrawopValue) (pages : List PageId) → IsStrictlySortedBy page_cmp pages → Rise (flat_map (holes_on history) pages)
pages_rise history [] rising = tt
pages_rise history (page ∷ pages) rising =
    let gaps = gaps_of history page [] in
    subst Rise (sym (flat_map-cons (holes_on history) page pages))
    (rise_both page gaps (flat_map (holes_on history) pages) (gaps_rise page gaps (gaps_filled history page) (gaps_of_page history page []).apart) (pages_rise history pages (sorted_tail page_cmp page pages rising)) (λ g. behind_pages history page g pages (λ other c. below_all page_total page other pages rising c)))

pub holes_rise : (history : List DrawopValue) → Rise (holes_of history)
holes_rise history = pages_rise history (pages_of history) (pages_of_history history).rising

-- ---- which is found behind a place

not_less : (a b : ℕ) → b ≤ a → is_lt (nat_cmp a b) ≡ false
not_less a b le = grind (arith, nat_tests)

-- no hole begins behind its own end
not_itself : (h : Hole) → IsFilled h.gap → begins_after (last_of h) h ≡ false
not_itself h filled = ap is_lt (by_number h.page h.gap.source h.gap.last h.gap.first) ∙ not_less h.gap.last h.gap.first filled.filled

-- what is below the beginning of a hole is below its end
up_to_last : (place : Start) (h : Hole) → IsFilled h.gap → start_cmp place (first_of h) ≡ Less → start_cmp place (last_of h) ≡ Less
up_to_last place h filled less = by (nat_cmp h.gap.first h.gap.last) refl where
  by : (o : Ordering) → nat_cmp h.gap.first h.gap.last ≡ o → start_cmp place (last_of h) ≡ Less
  by Less e = start_total.trans place (first_of h) (last_of h) less (by_number h.page h.gap.source h.gap.first h.gap.last ∙ e)
  by Equal e = subst (λ (n : ℕ). start_cmp place (start h.page h.gap.source n) ≡ Less) (ranked h.gap.first h.gap.last Equal (sym e)) less
  by Greater e = absurd (above h.gap.first h.gap.last filled.filled e) where
    above : (a b : ℕ) → a ≤ b → nat_cmp a b ≡ Greater → ⊥
    above a b le e = grind (arith, common_steps, nat_tests)

-- nor behind the end of a later one
not_before : (h g : Hole) → IsFilled h.gap → IsFilled g.gap → Precedes h g → begins_after (last_of g) h ≡ false
not_before h g filled other precedes = by (begins_after (last_of g) h) refl where
  by : (b : Bool) → begins_after (last_of g) h ≡ b → b ≡ false
  by false e = refl
  by true e =
      let down = up_to_last (last_of g) h filled (is_less (start_cmp (last_of g) (first_of h)) e) in
      let round = start_total.trans (last_of g) (last_of h) (first_of g) down precedes in
      absurd (true≢false (sym (ap is_lt round) ∙ not_itself g other))

-- ---- so each is found behind the one before it

abbrev pub is_behind : Hole → Hole → Bool
is_behind h g = begins_after (last_of h) g

behind_each : (h : Hole) (holes : List Hole) → IsFilled h.gap → AreBehind h holes → Rise holes → cycle.AreBehind is_behind h holes
behind_each h [] filled behind rise = tt
behind_each h (g ∷ holes) filled behind rise = ((ap is_lt behind.0, not_before h g filled rise.0 behind.0), behind_each h holes filled behind.1 rise.2)

ascend : (holes : List Hole) → Rise holes → cycle.Ascend is_behind holes
ascend [] rise = tt
ascend (h ∷ holes) rise = (not_itself h rise.0, behind_each h holes rise.0 rise.1 rise.2, ascend holes rise.2)

pub holes_ascend : (history : List DrawopValue) → cycle.Ascend is_behind (holes_of history)
holes_ascend history = ascend (holes_of history) (holes_rise history)

-- before all, the first
from_zero : (page : PageId) (source first : ℕ) → 1 ≤ first → is_lt (start_cmp (start nowhere 0 0) (start page source first)) ≡ true
from_zero page source first counted = grind (arith, common_steps, nat_tests)

pub found_first : (h : Hole) (holes : List Hole) → Rise (h ∷ holes) → find (begins_after (start nowhere 0 0)) (h ∷ holes) ≡ Some h
found_first h holes rise = cycle.taken is_behind (begins_after (start nowhere 0 0)) h holes (from_zero h.page h.gap.source h.gap.first rise.0.counted)
