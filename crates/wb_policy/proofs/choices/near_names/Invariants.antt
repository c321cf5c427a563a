use Rattle.std.proofs.Common.{◌≡◌, map}
use Rattle.wb_policy.specs.Choices.{numbers_near}
use Rattle.wb_names.specs.History.{name_of}
use Rattle.wb_policy.proofs.choices.near_names.Given as goal

abbrev pub invariant-loop-far : goal.invariant-loop-far
invariant-loop-far l = l.names.items ≡ map (name_of l.name.page l.name.source) (numbers_near l.name.seq l.top l.far)
