-- The times from one turn to the next, while turns bring nothing.
use Rattle.std.proofs.Common.{◌≡◌, ℕ, zero, suc, ◌+◌, ◌-◌, ◌*◌, ◌/◌, ◌≤◌, List, [], ◌∷◌, ◌∙◌, ap, arith, length, refl, subst, sym}
use Rattle.std.specs.Prelude.{min}
use Rattle.wb_policy.specs.Laws.{IdleTurnsAreRare, SuccessHurries, TurnsArePaced, pace_after}
use Rattle.wb_policy.specs.Pace.{gap_within}
use Rattle.wb_policy.specs.declared.pace.Pace.{Pace}

pub gap_least : (gap : ℕ) → 1000000 ≤ gap_within gap
gap_least gap = omega arith

pub gap_most : (gap : ℕ) → gap_within gap ≤ 16000000
gap_most gap = omega arith

pub turns_are_paced : TurnsArePaced
turns_are_paced now p =
    let least = gap_least p.gap in
    let most = gap_most p.gap in
    (omega (arith, least), omega (arith, most))

pub success_hurries : SuccessHurries
success_hurries now p = refl

-- ---- gaps after some turns

abbrev longer : ℕ → ℕ
longer gap = gap_within gap + gap_within gap / 128

gap_after : ℕ → ℕ → ℕ
gap_after gap zero = gap
gap_after gap (suc count) = longer (gap_after gap count)

both : (gap one other : ℕ) → gap_after gap (one + other) ≡ gap_after (gap_after gap other) one
unfolding gap_after
both gap zero other = let e : zero + other ≡ other = omega arith in ap (gap_after gap) e
both gap (suc one) other = let e : suc one + other ≡ suc (one + other) = omega arith in ap (gap_after gap) e ∙ ap longer (both gap one other)

same_gap : (p : Pace) (before : List ℕ) → (pace_after p before).gap ≡ gap_after p.gap (length before)
unfolding gap_after
same_gap p [] = refl
same_gap p (now ∷ before) = ap longer (same_gap p before)

-- each turn adds a 128th part of what the gap was at least
grows : (gap least part count : ℕ) → part ≤ least / 128 → least ≤ gap_within gap → min 16000000 (least + count * part) ≤ gap_within (gap_after gap count)
unfolding gap_after
grows gap least part zero few from = omega (arith, from)
grows gap least part (suc count) few from =
    let rest = grows gap least part count few from in
    one_more (gap_after gap count) rest where
      one_more : (g : ℕ) → min 16000000 (least + count * part) ≤ gap_within g → min 16000000 (least + suc count * part) ≤ gap_within (longer g)
      one_more g rest =
          let product : suc count * part ≡ count * part + part = omega arith in
          by (gap_within g) (count * part) (suc count * part) rest product where
            by : (w sum next : ℕ) → min 16000000 (least + sum) ≤ w → next ≡ sum + part → min 16000000 (least + next) ≤ gap_within (w + w / 128)
            by w sum next le is = omega (arith, le, is, few)

-- from one gap to twice as much
doubles : (gap least part turns : ℕ) → part ≤ least / 128 → least ≤ gap_within gap → (next : ℕ) → next ≤ 16000000 → next ≤ least + turns * part → next ≤ gap_within (gap_after gap turns)
doubles gap least part turns few from next fits le = let g = grows gap least part turns few from in omega (arith, g, fits, le)

from_one : (gap : ℕ) → 2000000 ≤ gap_within (gap_after gap 129)
from_one gap = doubles gap 1000000 7812 129 (omega arith) (gap_least gap) 2000000 (omega arith) (omega arith)

from_two : (gap : ℕ) → 2000000 ≤ gap_within gap → 4000000 ≤ gap_within (gap_after gap 128)
from_two gap from = doubles gap 2000000 15625 128 (omega arith) from 4000000 (omega arith) (omega arith)

from_four : (gap : ℕ) → 4000000 ≤ gap_within gap → 8000000 ≤ gap_within (gap_after gap 128)
from_four gap from = doubles gap 4000000 31250 128 (omega arith) from 8000000 (omega arith) (omega arith)

from_eight : (gap : ℕ) → 8000000 ≤ gap_within gap → 16000000 ≤ gap_within (gap_after gap 128)
from_eight gap from = doubles gap 8000000 62500 128 (omega arith) from 16000000 (omega arith) (omega arith)

many_turns : (gap count : ℕ) → 16000000 ≤ gap_within (gap_after gap (128 + (128 + (128 + (129 + count)))))
many_turns gap count =
    let a = gap_after gap count in
    let b = gap_after a 129 in
    let c = gap_after b 128 in
    let d = gap_after c 128 in
    let last = from_eight d (from_four c (from_two b (from_one a))) in
    let is : gap_after gap (128 + (128 + (128 + (129 + count)))) ≡ gap_after d 128 =
    both gap 128 (128 + (128 + (129 + count))) ∙ ap (λ (g : ℕ). gap_after g 128) (both gap 128 (128 + (129 + count)) ∙ ap (λ (g : ℕ). gap_after g 128) (both gap 128 (129 + count) ∙ ap (λ (g : ℕ). gap_after g 128) (both gap 129 count))) in
    subst (λ (g : ℕ). 16000000 ≤ gap_within g) (sym is) last

pub idle_turns_are_rare : IdleTurnsAreRare
idle_turns_are_rare p now before many =
    let count = length before - 513 in
    let is : length before ≡ 128 + (128 + (128 + (129 + count))) = omega (arith, many) in
    let long : 16000000 ≤ gap_within (pace_after p before).gap =
    subst (λ (g : ℕ). 16000000 ≤ gap_within g) (sym (same_gap p before ∙ ap (gap_after p.gap) is)) (many_turns p.gap count) in
    let most = gap_most (pace_after p before).gap in
    omega (arith, long, most)
