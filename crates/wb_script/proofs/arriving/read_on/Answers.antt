use Rattle.std.proofs.Common.{◌≡◌, ◌≤◌, ap, sym, subst, ◌∙◌, arith}
use Rattle.wb_lines.specs.Progress.{reached}
use Rattle.wb_script.specs.Script.{Nothing, part_of, part_in}
use Rattle.wb_script.specs.Inside.Parts.{IsPart}
use Rattle.wb_script.proofs.Reading.{Skips, skips_none, skips_one, arrives_one, skips_then, none_joins, skipped_so}
use Rattle.wb_script.proofs.arriving.read_on.Given.{Over}
use Rattle.wb_script.proofs.arriving.read_on.Goals as goal
use Rattle.wb_script.proofs.arriving.read_on.Goals.{In_default-part}

pub loop-said-init : goal.loop-said-init
loop-said-init g c = (omega arith, skips_none _)

-- A line that is no arrival is skipped.
skipped : (g : Over) (c : In_default-part g) → (c.args.progress.now.lines.done ≤ c.next_joined.new.self.lines.done)
    × Skips (reached g.R.Source g.W.Sink c.args.progress.now c.args.source.now c.args.sink.now) (reached g.R.Source g.W.Sink c.next_joined.new.self c.next_joined.new.source c.next_joined.new.sink)
skipped g c =
    let so_far = c.loop-said.invariant in
    let one = c.in-Some.ensures.joined in
    let part : part_in one.0 ≡ Nothing = skipped_so c.part.result (part_in one.0) (subst (IsPart c.part.result) (ap part_of one.1.0) c.part.ensures) one.2 c.in_default-part.not-Arrival in
    (omega (arith, so_far.0, one.3), skips_one _ _ _ one.0 so_far.1 one.4 part)

pub loop-said-preserved : goal.loop-said-preserved
loop-said-preserved g c = skipped g (goal.at.loop-said-preserved g c).In_default-part

pub loop-said-preserved-in_default-part-4 : goal.loop-said-preserved-in_default-part-4
loop-said-preserved-in_default-part-4 g c = skipped g (goal.at.loop-said-preserved-in_default-part-4 g c).In_default-part

pub loop-said-preserved-in_default-part-5 : goal.loop-said-preserved-in_default-part-5
loop-said-preserved-in_default-part-5 g c = skipped g (goal.at.loop-said-preserved-in_default-part-5 g c).In_default-part

pub loop-said-smaller : goal.loop-said-smaller
loop-said-smaller g c = omega (arith, c.in-Some.ensures.joined.3, c.in-Some.ensures.few)

pub returns-in-Arrival : goal.returns-in-Arrival
returns-in-Arrival g c =
    let so_far = c.loop-said.invariant in
    let one = c.in-Some.ensures.joined in
    let part = sym (ap part_of one.1.0) ∙ rw c.in-Arrival.is at c.part.ensures in
    (omega (arith, so_far.0, one.3), c.in-Some.ensures.few, arrives_one _ _ _ one.0 c.in-Arrival.drawop so_far.1 one.4 part)

pub returns : goal.returns
returns g c =
    let so_far = c.loop-said.invariant in
    let one = none_joins _ _ _ c.next_joined.result c.in_default.not-Some c.next_joined.ensures.joined in
    (omega (arith, so_far.0, one.0.moves.done), one.1, skips_then _ _ _ so_far.1 one.0)
