use Rattle.std.proofs.lemmas.Grind.{common_steps}
use Rattle.std.proofs.Common.{rules, ◌≡◌, ◌-◌, ◌<◌, List, [], ◌∷◌, ◌++◌, length, take, get_or, ap, ◌∙◌, subst, arith, sym}
use Rattle.std.specs.Prelude.{All}
use Rattle.wb_history.specs.declared.ranges.RowRange.{RowRange}
use Rattle.wb_history.specs.RowRanges.{RowsValue, rows_in, IsRange}
use Rattle.wb_history.proofs.RowLists.{parts_between, parts_inside}
use Rattle.wb_history.proofs.ranges.Rows.split_off.Goals as goal

pub invariant_of-result : goal.invariant_of-result
invariant_of-result c =
    let h = (parts_between _ _ _ _ (ap (λ (v : RowsValue). v.items) c.self.view_is) c.self.invariant c.requires _ _ _ c.as_slice.ensures.value c.place_of-at.ensures.before c.if-part-eq0.true).1 in
    subst (λ (l : List RowRange). (c.args.rows ≡ length (rows_in l)) × All IsRange l) (sym c.in_ok-ranges.ensures.tail) (h.many, h.ranges)

pub returns-then-part-eq0-clause-items : goal.returns-then-part-eq0-clause-items
returns-then-part-eq0-clause-items c = grind (arith, common_steps, parts_between)

pub returns-then-part-eq0-clause-tail : goal.returns-then-part-eq0-clause-tail
returns-then-part-eq0-clause-tail c = ap rows_in c.in_ok-ranges.ensures.tail ∙ (parts_between _ _ _ _ (ap (λ (v : RowsValue). v.items) c.self.view_is) c.self.invariant c.requires _ _ _ c.as_slice.ensures.value c.place_of-at.ensures.before c.if-part-eq0.true).1.last

pub overflow_sub-range : goal.overflow_sub-range
overflow_sub-range c =
    let low : 0 < c.place_of-at.result.1 = search rules in
    let read : c.index-range.result.now ≡ get_or c.in_ok-ranges.ranges.items 0 c.index-range.result.now = search rules in
    let h = parts_inside _ _ _ _ (ap (λ (v : RowsValue). v.items) c.self.view_is) c.self.invariant c.requires _ _ _ c.as_slice.ensures.value c.place_of-at.ensures.before _ _ c.place_of-at.ensures.inside.1 c.in_ok-ranges.ensures.tail low read in
    let high = h.1 in
    omega arith

pub overflow_add-range : goal.overflow_add-range
overflow_add-range c =
    let low : 0 < c.place_of-at.result.1 = search rules in
    let read : c.index-range.result.now ≡ get_or c.in_ok-ranges.ranges.items 0 c.index-range.result.now = search rules in
    let h = parts_inside _ _ _ _ (ap (λ (v : RowsValue). v.items) c.self.view_is) c.self.invariant c.requires _ _ _ c.as_slice.ensures.value c.place_of-at.ensures.before _ _ c.place_of-at.ensures.inside.1 c.in_ok-ranges.ensures.tail low read in
    let high = h.1 in
    let end = h.0.1 in
    omega arith

pub invariant_of-result-2 : goal.invariant_of-result-2
invariant_of-result-2 c =
    let low : 0 < c.place_of-at.result.1 = search rules in
    let read : c.index-range.result.now ≡ get_or c.in_ok-ranges.ranges.items 0 c.index-range.result.now = search rules in
    let h = parts_inside _ _ _ _ (ap (λ (v : RowsValue). v.items) c.self.view_is) c.self.invariant c.requires _ _ _ c.as_slice.ensures.value c.place_of-at.ensures.before _ _ c.place_of-at.ensures.inside.1 c.in_ok-ranges.ensures.tail low read in
    (h.3.many, h.3.ranges)

pub invariant_of-self-2 : goal.invariant_of-self-2
invariant_of-self-2 c =
    let low : 0 < c.place_of-at.result.1 = search rules in
    let read : c.index-range.result.now ≡ get_or c.in_ok-ranges.ranges.items 0 c.index-range.result.now = search rules in
    let h = parts_inside _ _ _ _ (ap (λ (v : RowsValue). v.items) c.self.view_is) c.self.invariant c.requires _ _ _ c.as_slice.ensures.value c.place_of-at.ensures.before _ _ c.place_of-at.ensures.inside.1 c.in_ok-ranges.ensures.tail low read in
    let is : c.push_reserved.new.self.items ≡ take c.place_of-at.result.0 c.self.inside.ranges.items ++ record { first = c.index-range.result.now.first; count = c.place_of-at.result.1 } ∷ [] = search rules in
    subst (λ (l : List RowRange). (c.self.inside.count - c.args.rows ≡ length (rows_in l)) × All IsRange l) (sym is) (h.2.many, h.2.ranges)

pub returns-clause-items : goal.returns-clause-items
returns-clause-items c = grind (arith, common_steps, parts_inside)

pub returns-clause-tail : goal.returns-clause-tail
returns-clause-tail c =
    let low : 0 < c.place_of-at.result.1 = search rules in
    let read : c.index-range.result.now ≡ get_or c.in_ok-ranges.ranges.items 0 c.index-range.result.now = search rules in
    let h = parts_inside _ _ _ _ (ap (λ (v : RowsValue). v.items) c.self.view_is) c.self.invariant c.requires _ _ _ c.as_slice.ensures.value c.place_of-at.ensures.before _ _ c.place_of-at.ensures.inside.1 c.in_ok-ranges.ensures.tail low read in
    h.3.last
