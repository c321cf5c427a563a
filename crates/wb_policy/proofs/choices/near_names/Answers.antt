use Rattle.std.proofs.Common.{◌≡◌, ℕ, ◌∙◌, ap, arith, map}
use Rattle.wb_names.specs.History.{name_of}
use Rattle.wb_policy.specs.Choices.{near_names, numbers_near}
use Rattle.wb_policy.proofs.choices.near_names.Goals as goal

pub returns : goal.returns
unfolding near_names
returns c =
    let end = c.loop-far.auto.far-end in
    let last = c.loop-far-test.false in
    let whole : c.loop-far.far ≡ 64 = omega (arith, end, last) in
    c.loop-far.invariant ∙ ap (λ (far : ℕ). map (name_of c.args.name.now.page c.args.name.now.source) (numbers_near c.args.name.now.seq c.args.top far)) whole
