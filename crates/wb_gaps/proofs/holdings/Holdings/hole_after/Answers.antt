use Rattle.std.proofs.Common.{◌∙◌, List, subst, sym}
use Rattle.wb_gaps.specs.Holdings.{HeldRange, HoldNamesOf}
use Rattle.wb_gaps.specs.Starts.{start}
use Rattle.wb_gaps.proofs.NextHoles.{first_hole, no_hole, no_second, second_hole}
use Rattle.wb_gaps.proofs.holdings.Holdings.hole_after.Goals as goal

pub returns-in_err-start : goal.returns-in_err-start
returns-in_err-start c = λ history held.
    let here = subst (λ (rs : List HeldRange). HoldNamesOf history rs) (sym c.self.view_is) held in
    c.from_residual.ensures
    ∙ sym (no_hole c.self.inside.ranges c.self.inside.behind.keys c.self.invariant history here (start c.args.page c.args.source c.args.number) c.in_err-start.ensures.next)

pub returns-then-begins_after : goal.returns-then-begins_after
returns-then-begins_after c = λ history held.
    let here = subst (λ (rs : List HeldRange). HoldNamesOf history rs) (sym c.self.view_is) held in
    let at = c.hole_below-hole.ensures in
    sym (first_hole c.self.inside.ranges c.self.inside.behind.keys c.self.invariant history here (start c.args.page c.args.source c.args.number)
    c.in_ok-start.start c.hole_below-hole.result (record { page = at.place.0; source = at.place.1; last = at.last; hole = at.hole }) c.in_ok-start.ensures.next
    (sym c.begins_after.ensures ∙ c.if-begins_after.true))

pub returns-in_err-later : goal.returns-in_err-later
returns-in_err-later c = λ history held.
    let here = subst (λ (rs : List HeldRange). HoldNamesOf history rs) (sym c.self.view_is) held in
    let at = c.hole_below-hole.ensures in
    c.from_residual-in_err-later.ensures
    ∙ sym (no_second c.self.inside.ranges c.self.inside.behind.keys c.self.invariant history here (start c.args.page c.args.source c.args.number)
    c.in_ok-start.start c.hole_below-hole.result (record { page = at.place.0; source = at.place.1; last = at.last; hole = at.hole }) c.in_ok-start.ensures.next
    (sym c.begins_after.ensures ∙ c.if-begins_after.false)
    c.in_err-later.ensures.next)

pub returns : goal.returns
returns c = λ history held.
    let here = subst (λ (rs : List HeldRange). HoldNamesOf history rs) (sym c.self.view_is) held in
    let at = c.hole_below-hole.ensures in
    let below = c.hole_below.ensures in
    sym (second_hole c.self.inside.ranges c.self.inside.behind.keys c.self.invariant history here (start c.args.page c.args.source c.args.number)
    c.in_ok-start.start c.hole_below-hole.result (record { page = at.place.0; source = at.place.1; last = at.last; hole = at.hole }) c.in_ok-start.ensures.next
    (sym c.begins_after.ensures ∙ c.if-begins_after.false)
    c.in_ok-later.later c.hole_below.result (record { page = below.place.0; source = below.place.1; last = below.last; hole = below.hole }) c.in_ok-later.ensures.next)
