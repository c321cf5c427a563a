-- The example with a hole computes.
use Rattle.std.proofs.Common.{◌≡◌, ℕ, ◌+◌, ◌≤◌, Bool, true, not, ◌&&◌, ◌||◌, List, [], ◌∷◌, arith, leb-true, ltb-true, nat_lt, refl, subst, sym, ⊎_elim}
use Rattle.std.specs.Prelude.{Contains}
use Rattle.std.proofs.lemmas.Bool.{and_from, and_parts}
use Rattle.wb_gaps.specs.Answers.{gaps_of, pages_of, report_of}
use Rattle.wb_member.specs.Judged.{holds}
use Rattle.wb_member.specs.Random.{after_word, started, word_of}
use Rattle.wb_names.specs.Values.{NameValue}
use Rattle.wb_names.proofs.Listings.{Contains-here, Contains-there}
use Rattle.wb_policy.specs.Choices.{near_names}
use Rattle.wb_policy.specs.Words as words
use Rattle.wb_keeping.specs.Kept.{leaps_on, turns_on}
use Rattle.wb_kept_progress.specs.Holed.{HoledMeets, IsHoleAt, holed, holed_lines, numbered, seldom, unfilled_lines}
use Rattle.wb_kept_progress.specs.Timed.{At, time_of}
use Rattle.wb_kept_progress.specs.Whole.{there}
use Rattle.wb_kept_progress.proofs.CallsInTime.{always_short}
use Rattle.wb_kept_progress.proofs.HolesTested.{all_lack_few, all_wait_short, are_held, hole_so, holes_are_held, holes_held, is_held, is_hole, one_lacks, only_holes, only_holes_lacked, waits_for}
use Rattle.wb_kept_progress.proofs.ShortTested.{calls_near, go_by_short}
use Rattle.wb_kept_progress.proofs.Tested.{Begins, delivers, has_room, in_order, in_time, is_fresh, lines_keep, passes, session_of, taken}
use Rattle.wb_kept_progress.proofs.Testing.{each, each-at, halved, parts, splits, two_live}
use Rattle.wb_keeping.specs.Laws.{KeptLine}

-- ---- what computes

-- all that is held
abbrev three : List NameValue
three = numbered 1 ∷ (numbered 2 ∷ (numbered 3 ∷ []))

lines : (lines_keep seldom holed holed_lines && (in_order seldom holed holed_lines && taken seldom holed holed_lines)) ≡ true
unfolding started word_of after_word words.started report_of gaps_of pages_of near_names leaps_on turns_on
lines = refl

hosts_keep : (parts (in_time seldom holed) holed_lines && (parts (has_room seldom holed) holed_lines && parts (is_fresh seldom holed) holed_lines)) ≡ true
unfolding started word_of after_word words.started report_of gaps_of pages_of near_names leaps_on turns_on
hosts_keep = refl

-- what is sent, in three pieces
abbrev is_after : ℕ → At KeptLine → Bool
is_after time e = nat_lt time e.time

abbrev sends : List (At KeptLine) → At KeptLine → List (At KeptLine) → Bool
sends = delivers seldom holed (time_of holed_lines)

sent_first : splits (λ newer e older. is_after 45000000 e || sends newer e older) [] holed_lines ≡ true
unfolding started word_of after_word words.started report_of gaps_of pages_of near_names leaps_on turns_on
sent_first = refl

sent_then : splits (λ newer e older. not (is_after 45000000 e) || (is_after 80000000 e || sends newer e older)) [] holed_lines ≡ true
unfolding started word_of after_word words.started report_of gaps_of pages_of near_names leaps_on turns_on
sent_then = refl

sent_last : splits (λ newer e older. not (is_after 45000000 e) || (not (is_after 80000000 e) || sends newer e older)) [] holed_lines ≡ true
unfolding started word_of after_word words.started report_of gaps_of pages_of near_names leaps_on turns_on
sent_last = refl

near : calls_near seldom holed holed_lines ≡ true
unfolding started word_of after_word words.started report_of gaps_of pages_of near_names leaps_on turns_on
near = refl

are_three : are_held seldom holed holed_lines three ≡ true
unfolding started word_of after_word words.started report_of gaps_of pages_of near_names leaps_on turns_on
are_three = refl

few : (all_lack_few seldom holed holed_lines three 2 && all_wait_short seldom holed holed_lines three 0) ≡ true
unfolding started word_of after_word words.started report_of gaps_of pages_of near_names leaps_on turns_on
few = refl

holes : (parts (holes_held seldom holed holed_lines three) holed_lines && parts (only_holes seldom holed holed_lines three holed.quiet) holed_lines) ≡ true
unfolding started word_of after_word words.started report_of gaps_of pages_of near_names leaps_on turns_on
holes = refl

lacked : each (is_hole (there seldom unfilled_lines 1).host.is.held) (numbered 1 ∷ (numbered 2 ∷ [])) ≡ true
unfolding started word_of after_word words.started report_of gaps_of pages_of near_names leaps_on turns_on
lacked = refl

come : each (holds (there seldom holed_lines 1).host) three ≡ true
unfolding started word_of after_word words.started report_of gaps_of pages_of near_names leaps_on turns_on
come = refl

-- ---- so it meets all premises

sent : splits sends [] holed_lines ≡ true
sent = halved (is_after 45000000) sends [] holed_lines sent_first (halved (is_after 80000000) later [] holed_lines sent_then sent_last) where
  later : List (At KeptLine) → At KeptLine → List (At KeptLine) → Bool
  later newer e older = not (is_after 45000000 e) || sends newer e older

keeps : passes seldom holed holed_lines ≡ true
keeps =
    let a = and_parts (lines_keep seldom holed holed_lines) _ lines in
    let b = and_parts (in_order seldom holed holed_lines) _ a.1 in
    let c = and_parts (parts (in_time seldom holed) holed_lines) _ hosts_keep in
    let d = and_parts (parts (has_room seldom holed) holed_lines) _ c.1 in
    and_from _ _ a.0 (and_from _ _ b.0 (and_from _ _ b.1 (and_from _ _ c.0 (and_from _ _ d.0 (and_from _ _ sent d.1)))))

begins : Begins seldom holed
begins = record {
  moments = λ i. (omega arith, tt);
  begun = λ i live. ⊎_elim
      (λ (zero : i ≡ 0). subst (λ (j : ℕ). 1 + holed.lag j ≤ holed.quiet) (sym zero) (leb-true _ _ refl))
      (λ (one : i ≡ 1). subst (λ (j : ℕ). 1 + holed.lag j ≤ holed.quiet) (sym one) (leb-true _ _ refl))
      (two_live i live);
  distinct = λ i j same. by i j same;
  waits = λ i live. (leb-true _ _ refl, leb-true _ _ refl);
  covered = leb-true _ _ refl;
} where
  by : (i j : ℕ) → 10 + i ≡ 10 + j → i ≡ j
  by i j same = omega (arith, same)

hole_at : (n : NameValue) → Contains three n → Contains (numbered 1 ∷ (numbered 2 ∷ [])) n → IsHoleAt seldom holed holed_lines unfilled_lines 1 n
hole_at n named lacking = record {
  missing = hole_so (there seldom unfilled_lines 1).host.is.held n (each-at (is_hole (there seldom unfilled_lines 1).host.is.held) (numbered 1 ∷ (numbered 2 ∷ [])) n lacked lacking);
  held = is_held seldom holed holed_lines three are_three n named;
}

pub holed_meets : HoledMeets
holed_meets = record {
  session = always_short seldom holed holed_lines (session_of seldom holed holed_lines begins (go_by_short seldom holed (leb-true _ _ refl) holed_lines near) keeps);
  waits = waits_for seldom holed holed_lines three are_three 0 f.1;
  lacks = one_lacks seldom holed holed_lines three are_three 2 f.0;
  held = holes_are_held seldom holed holed_lines three are_three h.0;
  only = only_holes_lacked seldom holed holed_lines three are_three holed.quiet h.1;
  credit = leb-true _ _ refl;
  late = leb-true _ _ refl;
  first = hole_at (numbered 1) one (Contains-here (numbered 1) (numbered 2 ∷ []));
  second = hole_at (numbered 2) two (Contains-there (numbered 1) (numbered 2) (numbered 2 ∷ []) (Contains-here (numbered 2) []));
  first_comes = each-at (holds (there seldom holed_lines 1).host) three (numbered 1) come one;
  second_comes = each-at (holds (there seldom holed_lines 1).host) three (numbered 2) come two;
  goes_on = ltb-true _ _ refl;
} where
  f : (all_lack_few seldom holed holed_lines three 2 ≡ true) × (all_wait_short seldom holed holed_lines three 0 ≡ true)
  f = and_parts _ _ few

  h : (parts (holes_held seldom holed holed_lines three) holed_lines ≡ true) × (parts (only_holes seldom holed holed_lines three holed.quiet) holed_lines ≡ true)
  h = and_parts _ _ holes

  one : Contains three (numbered 1)
  one = Contains-here (numbered 1) (numbered 2 ∷ (numbered 3 ∷ []))

  two : Contains three (numbered 2)
  two = Contains-there (numbered 1) (numbered 2) (numbered 2 ∷ (numbered 3 ∷ [])) (Contains-here (numbered 2) (numbered 3 ∷ []))
