-- While the telling of a page goes on, each report tells sources above those before.
use Rattle.std.proofs.Common.{◌≡◌, ℕ, zero, suc, ◌≤◌, Bool, true, false, cond, List, [], ◌∷◌, ◌∙◌, None, ap, arith, filter, inl, inr, length, refl, subst, sym, ⊎_elim}
use Rattle.std.specs.Prelude.{Contains, min, take}
use Rattle.std.proofs.lemmas.Bool.Decides.{leb_tells}
use Rattle.std.proofs.lemmas.List.{length-take, take_all}
use Rattle.wb_names.specs.Values.{DrawopValue, MarkValue}
use Rattle.wb_names.proofs.Listings.{Contains-cases, Contains-from_filter, Contains-here, Contains-none, Contains-there}
use Rattle.wb_gaps.specs.Answers.{pages_of, report_of}
use Rattle.wb_policy.specs.Fairness.{GoesOnTelling, TellingsRise, Told, left_to_tell, marks_in_turn, where_left}
use Rattle.wb_policy.specs.Choices.{until_in}
use Rattle.wb_policy.specs.Reports.{is_telling, is_untold, page_after, slice_after}

from_take : (k : ℕ) (xs : List MarkValue) (x : MarkValue) → Contains (take k xs) x → Contains xs x
from_take zero [] x c = c
from_take zero (y ∷ xs) x c = absurd (Contains-none x c)
from_take (suc k) [] x c = c
from_take (suc k) (y ∷ xs) x c = ⊎_elim (λ (e : y ≡ x). subst (λ (z : MarkValue). Contains (y ∷ xs) z) e (Contains-here y xs))
    (λ (d : Contains (take k xs) x). Contains-there y x xs (from_take k xs x d)) (Contains-cases y x (take k xs) c)

module _ (held : List DrawopValue) (t : Told) where
  abbrev next : List MarkValue
  next = report_of held (page_after t.page (pages_of held))

  abbrev untold : List MarkValue
  untold = filter (λ m. is_untold t.last m.source) (report_of held t.page)

  -- something is left
  module _ (m : MarkValue) (marks : List MarkValue) (e : left_to_tell held t ≡ m ∷ marks) where
    told_now : marks_in_turn held t ≡ left_to_tell held t
    told_now = ap (λ (ms : List MarkValue). where_left ms (slice_after None next) ms) e ∙ sym e

    slice : left_to_tell held t ≡ take 64 untold
    slice = by (is_telling t.until t.last) refl where
      nothing : is_telling t.until t.last ≡ false → [] ≡ m ∷ marks
      nothing is = ap (λ (c : Bool). cond c (slice_after t.last (report_of held t.page)) []) (sym is) ∙ e

      by : (b : Bool) → is_telling t.until t.last ≡ b → left_to_tell held t ≡ take 64 untold
      by true is = ap (λ (c : Bool). cond c (slice_after t.last (report_of held t.page)) []) is
      by false is = absurd (none (nothing is)) where
        none : [] ≡ m ∷ marks → ⊥
        none e = cc

    marks_are : marks_in_turn held t ≡ take 64 untold
    marks_are = told_now ∙ slice

    sixty_four : (k n : ℕ) → k ≡ min 64 n → 64 ≤ n → k ≡ 64
    sixty_four k n is le = omega (arith, is, le)

    goes_on : GoesOnTelling held t
    goes_on = record {
      page = ap (λ (ms : List MarkValue). where_left ms (page_after t.page (pages_of held)) t.page) e;
      until = ap (λ (ms : List MarkValue). where_left ms (until_in next) t.until) e;
      above = λ n c. (Contains-from_filter (λ m. is_untold t.last m.source) (report_of held t.page) n (from_take 64 untold n (subst (λ (ms : List MarkValue). Contains ms n) marks_are c))).1;
      many = ⊎_elim
          (λ many. inl (ap length marks_are ∙ sixty_four (length (take 64 untold)) (length untold) (length-take 64 untold) many.1))
          (λ few. let lt = few.1 in inr (marks_are ∙ take_all 64 untold (omega (arith, lt))))
          (leb_tells 64 (length untold));
    }

pub tellings_rise : TellingsRise
tellings_rise held t m c = by (left_to_tell held t) refl where
  by : (marks : List MarkValue) → left_to_tell held t ≡ marks → GoesOnTelling held t
  by [] e = absurd (Contains-none m (subst (λ (ms : List MarkValue). Contains ms m) e c))
  by (n ∷ marks) e = goes_on held t n marks e
