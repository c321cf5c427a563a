use Rattle.std.proofs.Common.{◌≡◌, ◌-◌, ℕ, Option, None, Some, arith, refl, subst, sym, true, true≢false}
use Rattle.std.specs.Prelude.{is_some}
use Rattle.wb_gaps.specs.Starts.{IsHole, last_at}
use Rattle.wb_gaps.proofs.HoleParts.{hole_between, hole_from_one}
use Rattle.wb_gaps.proofs.holes.hole_below.Goals as goal
use Rattle.wb_gaps.proofs.holes.hole_below.Goals.{in-Some, in-None}

some_at : (o : Option ℕ) → is_some o ≡ true → (l : ℕ) × (o ≡ Some l)
some_at None e = absurd (true≢false (sym e))
some_at (Some l) e = (l, refl)

pub overflow_add-first : goal.overflow_add-first
overflow_add-first c =
    let lasts = last_at c.args.ranges.now.entries c.args.start.page c.args.start.source in
    let b = c.in-Some.ensures.found in
    let top = some_at (lasts c.args.start.first) c.requires.there in
    let above = c.requires.behind in
    let low = b.2 in
    let apart = (c.requires.ranges.apart c.args.start.page c.args.start.source).apart c.in-Some.field-0-0.first c.in-Some.end c.args.start.first top.0 b.3 top.1 (omega arith) in
    omega arith

pub returns-clause-hole : goal.returns-clause-hole
returns-clause-hole c =
    let lasts = last_at c.args.ranges.now.entries c.args.start.page c.args.start.source in
    let a = c.requires.ranges.apart c.args.start.page c.args.start.source in
    let top = some_at (lasts c.args.start.first) c.requires.there in
    elim c.match-before.branch [
      | in-Some w ↦ let b = w.in-Some.ensures.found in subst (λ (n : ℕ). IsHole lasts n (c.args.start.first - 1)) (sym w.first-is) (hole_between lasts a c.args.start.first top.0 top.1 c.requires.behind w.in-Some.field-0-0.first w.in-Some.end b.3 b.2 b.4)
      | in-None w ↦ subst (λ (n : ℕ). IsHole lasts n (c.args.start.first - 1)) (sym w.first-is) (hole_from_one lasts a c.args.start.first top.0 top.1 c.requires.behind w.in-None.ensures.found)
    ]
