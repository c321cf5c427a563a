-- Where datagrams come from.
use Rattle.std.specs.Prelude.{ℕ, Bool, true, false, ◌&&◌, Option, Some, None, nat_eq}
use Rattle.wb_judge.specs.declared.origin.Origin.{Origin}

-- both have no owner, or the same
abbrev pub same_owner : Option ℕ → Option ℕ → Bool
same_owner None None = true
same_owner None (Some b) = false
same_owner (Some a) None = false
same_owner (Some a) (Some b) = nat_eq a b

abbrev pub same_origin : Origin → Origin → Bool
same_origin o p = nat_eq o.place p.place && same_owner o.owner p.owner
