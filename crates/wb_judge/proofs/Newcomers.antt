-- There is room for an origin that has no number.
use Rattle.std.proofs.Common.{◌≡◌, ◌∙◌, ◌≤◌, ℕ, Bool, true, false, cond, ap, arith, max, refl}
use Rattle.std.specs.Prelude.{◌+◌, ◌-◌, ◌||◌, nat_le}
use Rattle.std.proofs.lemmas.Bool.Decides.{nat_tests}
use Rattle.std.proofs.lemmas.Bool.{or_right}
use Rattle.wb_judge.specs.Buckets.{has_room, paid_after}
use Rattle.wb_judge.specs.Judge.{Judge}
use Rattle.wb_judge.specs.Judging.{after_admitting, is_admitted, is_heard, new_ahead, paid_for, with_payment}
use Rattle.wb_judge.specs.Laws.{NewcomersHaveRoom}
use Rattle.wb_judge.specs.Others.{has_speaker, other_of}
use Rattle.wb_judge.specs.declared.limits.TheConstants.{NEW_AHEAD, NEW_OF_ONE, NEW_PAUSE}
use Rattle.wb_judge.specs.declared.origin.Origin.{Origin}

one_more : (paid now : ℕ) → has_room NEW_OF_ONE paid now ≡ true → has_room NEW_AHEAD (paid_after NEW_PAUSE paid now) now ≡ true
one_more paid now room = grind (arith, nat_tests)

-- with the payment the same numbers were heard
paid_then : (answer : Bool) (paid : ℕ) (j : Judge) → paid_for answer (with_payment answer paid j) ≡ paid
paid_then true paid j = refl
paid_then false paid j = refl

heard_then : (answer : Bool) (paid : ℕ) (j : Judge) → (with_payment answer paid j).others ≡ j.others
heard_then true paid j = refl
heard_then false paid j = refl

pub newcomers_have_room : NewcomersHaveRoom
unfolding is_admitted after_admitting
newcomers_have_room o p number other answer now j new some admitted none =
    let paid = paid_after NEW_PAUSE (paid_for answer j) now in
    let k = with_payment answer paid j in
    let room : has_room NEW_OF_ONE (paid_for answer j) now ≡ true = rw (new, some) at admitted in
    let there : (is_heard p answer (other_of other k.others) || has_room (new_ahead p k.others) (paid_for answer k) now) ≡ true =
    or_right (is_heard p answer (other_of other k.others)) (has_room (new_ahead p k.others) (paid_for answer k) now)
    (rw (heard_then answer paid j, none, paid_then answer paid j) (one_more (paid_for answer j) now room)) in
    ap (λ (b : Bool). let i : Judge = cond b j k in is_heard p answer (other_of other i.others) || has_room (new_ahead p i.others) (paid_for answer i) now) new ∙ there
