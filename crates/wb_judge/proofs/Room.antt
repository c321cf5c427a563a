-- Where a member's request has room.
use Rattle.std.proofs.Common.{◌≡◌, ◌≤◌, ◌+◌, ◌*◌, ℕ, Bool, true, false, cond, List, [], ◌∷◌, arith, inl, inr}
use Rattle.std.proofs.lemmas.Bool.Decides.{nat_tests}
use Rattle.std.proofs.Math.Nat.{add-mul}
use Rattle.wb_judge.specs.Buckets.{has_room}
use Rattle.wb_judge.specs.Judge.{Judge}
use Rattle.wb_judge.specs.Judging.{is_repaired}
use Rattle.wb_judge.specs.Laws.{AreFrom, Comes, Leaves, Recalls, Remembers, Reports, Step, Tells, after_step, after_steps, how_many, is_repaired_in, moments_of}
use Rattle.wb_judge.specs.Members.{RequestsArePaidFor, RequestsHaveRoom}
use Rattle.wb_judge.specs.Strange.{is_there}
use Rattle.wb_judge.specs.declared.limits.TheConstants.{REPAIRS_AHEAD, REPAIRS_OF_ONE, REPAIR_PAUSE}
use Rattle.wb_judge.proofs.Repairing.{MovesRepairs, came_repairs, rises}

-- ---- what one step pays

none_more : {paid : ℕ} (m count : ℕ) → paid ≤ m + count * REPAIR_PAUSE → paid ≤ m + (0 + count) * REPAIR_PAUSE
none_more m count few = omega (arith, few)

pays : (m now : ℕ) (some : Bool) (j k : Judge) → MovesRepairs some now j k → j.repairs ≤ m → now ≤ m → k.repairs ≤ m + cond some 1 0 * REPAIR_PAUSE
pays m now some j k (inl (none, same)) few late = omega (arith, same, few)
pays m now some j k (inr (one, room, paid)) few late = rw one (omega (arith, paid, few, late))

ahead : (m now : ℕ) (some : Bool) (j k : Judge) → MovesRepairs some now j k → j.repairs ≤ m + (REPAIRS_AHEAD + REPAIR_PAUSE) → m ≤ now → k.repairs ≤ now + (REPAIRS_AHEAD + REPAIR_PAUSE)
ahead m now some j k (inl (none, same)) few late = omega (arith, same, few, late)
ahead m now some j k (inr (one, room, more)) few late = let paid : j.repairs ≤ now + REPAIRS_AHEAD = in_room j.repairs now room in omega (arith, more, paid) where
  in_room : (paid now : ℕ) → has_room REPAIRS_AHEAD paid now ≡ true → paid ≤ now + REPAIRS_AHEAD
  in_room paid now room = grind (arith, nat_tests)

-- ---- what all steps pay

grows : (m start end : ℕ) (steps : List Step) (j : Judge) → AreFrom start end (moments_of steps) → j.repairs ≤ m → end ≤ m → (after_steps steps j).repairs ≤ m + how_many is_repaired_in steps j * REPAIR_PAUSE
grows m start end [] j from few late = omega (arith, few)
grows m start end (Comes o v f ∷ steps) j from few late =
    let some : ℕ = cond (is_repaired_in (Comes o v f) j) 1 0 in
    let k = after_step (Comes o v f) j in
    let r = rises f.at end (moments_of steps) from.1 in
    let here = pays m f.at (is_repaired_in (Comes o v f) j) j k (came_repairs o v f j) few (omega (arith, r, late)) in
    let rest = grows (m + some * REPAIR_PAUSE) f.at end steps k from.1 here (omega (arith, late)) in
    let sum = add-mul some (how_many is_repaired_in steps k) REPAIR_PAUSE in
    omega (arith, rest, sum)
grows m start end (Reports sent ∷ steps) j from few late = none_more m (how_many is_repaired_in steps (after_step (Reports sent) j)) (grows m start end steps (after_step (Reports sent) j) from few late)
grows m start end (Tells clock ∷ steps) j from few late = none_more m (how_many is_repaired_in steps (after_step (Tells clock) j)) (grows m start end steps (after_step (Tells clock) j) from few late)
grows m start end (Leaves o ∷ steps) j from few late = none_more m (how_many is_repaired_in steps (after_step (Leaves o) j)) (grows m start end steps (after_step (Leaves o) j) from few late)
grows m start end (Remembers name ∷ steps) j from few late = none_more m (how_many is_repaired_in steps (after_step (Remembers name) j)) (grows m start end steps (after_step (Remembers name) j) from few late)
grows m start end (Recalls number o ∷ steps) j from few late = none_more m (how_many is_repaired_in steps (after_step (Recalls number o) j)) (grows m start end steps (after_step (Recalls number o) j) from few late)

pub requests_are_paid_for : RequestsArePaidFor
requests_are_paid_for start end [] j from few = omega (arith, from, few)
requests_are_paid_for start end (Comes o v f ∷ steps) j from few =
    requests_are_paid_for f.at end steps (after_step (Comes o v f) j) from.1 (ahead start f.at (is_repaired_in (Comes o v f) j) j (after_step (Comes o v f) j) (came_repairs o v f j) few from.0)
requests_are_paid_for start end (Reports sent ∷ steps) j from few = requests_are_paid_for start end steps (after_step (Reports sent) j) from few
requests_are_paid_for start end (Tells clock ∷ steps) j from few = requests_are_paid_for start end steps (after_step (Tells clock) j) from few
requests_are_paid_for start end (Leaves o ∷ steps) j from few = requests_are_paid_for start end steps (after_step (Leaves o) j) from few
requests_are_paid_for start end (Remembers name ∷ steps) j from few = requests_are_paid_for start end steps (after_step (Remembers name) j) from few
requests_are_paid_for start end (Recalls number o ∷ steps) j from few = requests_are_paid_for start end steps (after_step (Recalls number o) j) from few

-- ---- one more

has_half : (paid now : ℕ) (b : Bool) → paid ≤ now + REPAIRS_OF_ONE → has_room (cond b REPAIRS_OF_ONE REPAIRS_AHEAD) paid now ≡ true
has_half paid now true few = grind (arith, nat_tests)
has_half paid now false few = grind (arith, nat_tests)

pub requests_have_room : RequestsHaveRoom
unfolding is_repaired
requests_have_room start end steps o j from few count =
    let paid = grows end start end steps j from few (omega arith) in
    has_half (after_steps steps j).repairs end (is_there o (after_steps steps j).served) (omega (arith, paid, count))
