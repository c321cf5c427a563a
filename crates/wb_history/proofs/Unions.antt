-- Two cursors, and two passes, that become one.
use Rattle.std.proofs.lemmas.Grind.{common_steps}
use Rattle.std.proofs.Common.{◌≡◌, ℕ, ◌+◌, List, ◌++◌, length, ap, ◌∙◌, subst, arith, length-append, ◌<◌}
use Rattle.std.specs.Prelude.{Contains}
use Rattle.atomic_table.proofs.Lists.{at_longer}
use Rattle.wb_history.proofs.Lists.{at_read, at_after}
use mathlib.Core.Option.{some, none}
use mathlib.Core.List.{IsPrefix}
use Rattle.wb_names.specs.Values.{DrawopValue}
use Rattle.wb_history.specs.declared.cursor.Cursor.{Cursor}
use Rattle.wb_history.specs.Lists.{Once, longer}
use Rattle.wb_history.specs.declared.knowledge.Knowledge.{Knowledge}
use Rattle.wb_history.specs.Plays.{confirmed}
use Rattle.wb_history.specs.Views.{united}
use Rattle.atomic_table.specs.Table.{Me, step}
use Rattle.wb_history.specs.Cursors.{MatchesSeat, United}
use Rattle.wb_history.specs.Sharing.{IsJoined}
use Rattle.wb_history.specs.Passes.{PassValue}
use Rattle.wb_history.specs.Shown.{view_of}

pub second_longer : {A : Type 0} (xs ys : List A) → length xs < length ys → longer xs ys ≡ ys
second_longer xs ys lt = grind (arith, common_steps)

-- the cursor after its seat took in the other, and a load told what the join did not
pub took_in : (h : Cursor) (w : Knowledge) (h' : Cursor) (u : Me DrawopValue Knowledge) (word found : ℕ) → MatchesSeat h → u.1 ≡ h.seat.me.1 → u.0 ≡ united h.seat.me.0 w → confirmed (step 0 word 0 0 none) u found h'.seat.me
    → h'.seat.table_id ≡ h.seat.table_id → h'.seat.id ≡ h.seat.id → h'.seen.items ≡ longer h.seen.items w.seen → h'.mine.items ≡ h.mine.items ++ w.mine → h'.free.items ≡ h.free.items ++ w.free → h'.steps ≡ h.steps → United h w h'
took_in h w h' u word found o slots is load table id seen mine free steps = grind (arith, common_steps)

-- where no element of two lists together stands twice, they share none
shared_none : (xs ys : List ℕ) → Once (xs ++ ys) → (i : ℕ) → Contains xs i → Contains ys i → ⊥
shared_none xs ys once i a b =
    let here = at_read xs a.0 i a.1 ∙ ap some a.2 in
    let there = at_read ys b.0 i b.1 ∙ ap some b.2 in
    let is = once a.0 (length xs + b.0) i (at_longer xs ys a.0 i here) (at_after xs ys b.0 i there) in
    let lt = a.1 in
    absurd (omega arith)

-- more capacity is not seen
pub same_view : (h k : Cursor) → h.seat ≡ k.seat → h.seen ≡ k.seen → h.mine.items ≡ k.mine.items → h.free.items ≡ k.free.items → h.steps ≡ k.steps → view_of h ≡ view_of k
same_view h k seat seen mine free steps = grind (arith, common_steps)

pub joined : (p q : PassValue) (h g h' : Cursor) → view_of h ≡ p → view_of g ≡ q → MatchesSeat g → United h g.seat.me.0 h' → IsJoined p q (view_of h')
joined p q h g h' is_p is_q o u = subst (λ (v : PassValue). IsJoined v q (view_of h')) is_p (subst (λ (v : PassValue). IsJoined (view_of h) v (view_of h')) is_q record {
  seen = u.seen ∙ ap (λ (l : List DrawopValue). longer h.seen.items l) o.seen;
  first = u.first;
  second = subst (λ (l : List DrawopValue). IsPrefix l h'.seen.items) o.seen u.second;
  mine = mine;
  free = ap length u.free ∙ long;
  apart = λ i a b. shared_none h.mine.items g.mine.items (subst Once (u.matches.mine ∙ mine) u.matches.consistent.mine_once) i a b;
})
  where
    mine : h'.mine.items ≡ h.mine.items ++ g.mine.items
    mine = u.mine ∙ ap (λ (l : List ℕ). h.mine.items ++ l) o.mine

    long : length (h.free.items ++ g.seat.me.0.free) ≡ length h.free.items + length g.free.items
    long = omega (arith, length-append h.free.items g.seat.me.0.free, ap length o.free)
