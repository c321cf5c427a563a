-- The cursors after a split, and after a join.
use Rattle.std.proofs.lemmas.Grind.{common_steps}
use Rattle.std.proofs.Common.{◌≡◌, ℕ, ◌-◌, ◌≤◌, List, [], length, take, drop, sym, ap, ◌∙◌, subst, arith, length-drop}
use Rattle.std.proofs.lemmas.List.{length-take}
use Rattle.atomic_table.specs.Table.{Me}
use Rattle.wb_names.specs.Values.{DrawopValue}
use Rattle.wb_history.specs.declared.knowledge.Knowledge.{Knowledge}
use Rattle.wb_history.specs.declared.cursor.Cursor.{Cursor}
use Rattle.wb_history.specs.Lawful.{IsConsistent}
use Rattle.wb_history.specs.Cursors.{MatchesSeat}
use Rattle.wb_history.specs.Views.{left_part, right_part}
use Rattle.wb_history.proofs.Lists.{at_take, at_drop, at_nothing, once_nothing}

take_few : (n : ℕ) (l : List ℕ) → length (take n l) ≤ length l
take_few n l = omega (arith, length-take n l)

consistent_left : (n : ℕ) (v : Knowledge) → IsConsistent v → IsConsistent (left_part n v)
consistent_left n v s = grind (arith, common_steps, take_few, at_take)

consistent_right : (n : ℕ) (v : Knowledge) → IsConsistent v → IsConsistent (right_part n v)
consistent_right n v s = grind (arith, common_steps, length-drop, at_drop, at_nothing, once_nothing)

pub left_matches : (h h' : Cursor) (n : ℕ) → MatchesSeat h → h'.seat.me.1 ≡ h.seat.me.1 → h'.seat.me.0 ≡ left_part n h.seat.me.0 → h'.seen.items ≡ h.seen.items → h'.mine.items ≡ h.mine.items → h'.free.items ≡ take (length h.free.items - n) h.free.items → MatchesSeat h'
left_matches h h' n o slots is seen mine free = record {
  slots = slots ∙ o.slots;
  seen = ap (λ (v : Knowledge). v.seen) is ∙ (o.seen ∙ sym seen);
  mine = ap (λ (v : Knowledge). v.mine) is ∙ (o.mine ∙ sym mine);
  free = ap (λ (v : Knowledge). v.free) is ∙ (ap (λ (l : List ℕ). take (length l - n) l) o.free ∙ sym free);
  consistent = subst IsConsistent (sym is) (consistent_left n h.seat.me.0 o.consistent);
}

pub right_matches : (h h' : Cursor) (n : ℕ) → MatchesSeat h → h'.seat.me ≡ (right_part n h.seat.me.0, []) → h'.seen.items ≡ h.seen.items → h'.mine.items ≡ [] → h'.free.items ≡ drop (length h.free.items - n) h.free.items → MatchesSeat h'
right_matches h h' n o is seen mine free = record {
  slots = ap (λ (m : Me DrawopValue Knowledge). m.1) is;
  seen = ap (λ (m : Me DrawopValue Knowledge). m.0.seen) is ∙ (o.seen ∙ sym seen);
  mine = ap (λ (m : Me DrawopValue Knowledge). m.0.mine) is ∙ sym mine;
  free = ap (λ (m : Me DrawopValue Knowledge). m.0.free) is ∙ (ap (λ (l : List ℕ). drop (length l - n) l) o.free ∙ sym free);
  consistent = subst (λ (m : Me DrawopValue Knowledge). IsConsistent m.0) (sym is) (consistent_right n h.seat.me.0 o.consistent);
}
