-- No hole is without a number, and none has the number 0.
use Rattle.std.proofs.Common.{◌≡◌, ℕ, zero, suc, ◌+◌, ◌≤◌, Bool, true, false, cond, List, [], ◌∷◌, ◌++◌, Some, ap, arith, refl, subst, sym, ◌∙◌}
use Rattle.std.specs.Prelude.{map, nat_eq, ◌&&◌}
use Rattle.std.specs.List.{find, flat_map}
use Rattle.std.proofs.lemmas.Bool.{and_parts, eqb-true}
use Rattle.std.proofs.lemmas.List.Concat.{flat_map-cons}
use Rattle.wb_names.specs.Values.{DrawopValue}
use Rattle.wb_names.specs.declared.gap.Gap.{Gap}
use Rattle.wb_names.specs.declared.name.PageId.{PageId}
use Rattle.wb_gaps.specs.Answers.{gaps_of, is_held, known_sources, missing_before, missing_of, onto_gaps, pages_of}
use Rattle.wb_names.specs.Marks.{known}
use Rattle.wb_gaps.specs.Holes.{begins_after, hole_after, hole_on, holes_on}
use Rattle.wb_gaps.specs.Starts.{start}
use Rattle.wb_gaps.specs.declared.holes.Hole.{Hole}

pub record IsFilled (g : Gap) : Type 0 where
  pub counted : 1 ≤ g.first
  pub filled : g.first ≤ g.last

abbrev pub AreFilled : List Gap → Type 0
AreFilled [] = Unit {0}
AreFilled (g ∷ gaps) = IsFilled g × AreFilled gaps

one_gap : (source n : ℕ) → 1 ≤ n → IsFilled (record { source = source; first = n; last = n })
one_gap source n counted = record { counted = counted; filled = omega arith }

longer : (source n : ℕ) (g : Gap) → 1 ≤ n → g.first ≡ n + 1 → IsFilled g → IsFilled (record { source = source; first = n; last = g.last })
longer source n g counted next f = let a = f.filled in record { counted = counted; filled = omega arith }

onto : (source n : ℕ) (gaps : List Gap) → 1 ≤ n → AreFilled gaps → AreFilled (onto_gaps source n gaps)
onto source n [] counted all = (one_gap source n counted, tt)
onto source n (g ∷ gaps) counted all = by (nat_eq g.source source && nat_eq g.first (n + 1)) refl where
  by : (b : Bool) → (nat_eq g.source source && nat_eq g.first (n + 1)) ≡ b → AreFilled (cond b (record { source = source; first = n; last = g.last } ∷ gaps) (record { source = source; first = n; last = n } ∷ g ∷ gaps))
  by true e = (longer source n g counted (eqb-true _ _ (and_parts _ _ e).1) all.0, all.1)
  by false e = (one_gap source n counted, all)

before : (held : ℕ → Bool) (source n count : ℕ) (later : List Gap) → 1 ≤ n → AreFilled later → AreFilled (missing_before held source n count later)
before held source n zero later counted all = all
before held source n (suc count) later counted all = by (held n) (before held source (n + 1) count later (omega arith) all) where
  by : (b : Bool) → AreFilled (missing_before held source (n + 1) count later) → AreFilled (cond b (missing_before held source (n + 1) count later) (onto_gaps source n (missing_before held source (n + 1) count later)))
  by true rest = rest
  by false rest = onto source n (missing_before held source (n + 1) count later) counted rest

missing : (held : ℕ → ℕ → Bool) (top : ℕ → ℕ) (sources : List ℕ) → AreFilled (missing_of held top sources)
missing held top [] = tt
missing held top (source ∷ sources) = before (held source) source 1 (top source) (missing_of held top sources) (omega arith) (missing held top sources)

pub gaps_filled : (history : List DrawopValue) (page : PageId) → AreFilled (gaps_of history page [])
unfolding gaps_of
gaps_filled history page = missing (is_held history page) (known history page []) (known_sources history page [])

-- ---- holes

abbrev HaveNumbers : List Hole → Type 0
HaveNumbers [] = Unit {0}
HaveNumbers (h ∷ holes) = IsFilled h.gap × HaveNumbers holes

of_gaps : (page : PageId) (gaps : List Gap) → AreFilled gaps → HaveNumbers (map (hole_on page) gaps)
of_gaps page [] all = tt
of_gaps page (g ∷ gaps) all = (all.0, of_gaps page gaps all.1)

both : (one other : List Hole) → HaveNumbers one → HaveNumbers other → HaveNumbers (one ++ other)
both [] other a b = b
both (h ∷ one) other a b = (a.0, both one other a.1 b)

on_pages : (history : List DrawopValue) (pages : List PageId) → HaveNumbers (flat_map (holes_on history) pages)
on_pages history [] = tt
on_pages history (page ∷ pages) = subst HaveNumbers (sym (flat_map-cons (holes_on history) page pages)) (both (holes_on history page) (flat_map (holes_on history) pages) (of_gaps page (gaps_of history page []) (gaps_filled history page)) (on_pages history pages))

found_in : (p : Hole → Bool) (holes : List Hole) (h : Hole) → HaveNumbers holes → find p holes ≡ Some h → IsFilled h.gap
found_in p [] h all e = absurd (cc)
found_in p (one ∷ holes) h all e = by (p one) refl (λ (f : find p holes ≡ Some h). found_in p holes h all.1 f) where
  by : (b : Bool) → p one ≡ b → (find p holes ≡ Some h → IsFilled h.gap) → IsFilled h.gap
  by true t later = let same : one ≡ h = let there : Some one ≡ Some h = sym (ap (λ (b : Bool). cond b (Some one) (find p holes)) t) ∙ e in cc in subst (λ (h : Hole). IsFilled h.gap) same all.0
  by false f later = later (sym (ap (λ (b : Bool). cond b (Some one) (find p holes)) f) ∙ e)

pub hole_filled : (history : List DrawopValue) (page : PageId) (source number : ℕ) (h : Hole) → hole_after history page source number ≡ Some h → IsFilled h.gap
hole_filled history page source number h e = found_in (begins_after (start page source number)) (flat_map (holes_on history) (pages_of history)) h (on_pages history (pages_of history)) e
