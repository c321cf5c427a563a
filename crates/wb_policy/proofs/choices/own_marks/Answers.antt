use Rattle.std.proofs.Common.{◌∙◌, ◌≤◌, ◌&&◌, ap, nat_eq, nat_lt, subst, sym}
use Rattle.wb_names.specs.Ascending.{AreMarks}
use Rattle.wb_names.specs.Values.{MarkValue}
use Rattle.wb_policy.specs.Choices.{own_marks}
use Rattle.wb_policy.proofs.Parts.{filtered}
use Rattle.wb_policy.proofs.choices.own_marks.Goals as goal

pub from_ascending-requires : goal.from_ascending-requires
from_ascending-requires c =
    let all = c.args.marks.now in
    let same = c.in_ok-own.ensures ∙ ap (own_marks c.args.me c.args.listens) c.as_slice.ensures.entries in
    subst AreMarks (sym same) (filtered (λ (m : MarkValue). m.source) (λ (m : MarkValue). 1 ≤ m.high) all c.as_slice.ensures.lawful (λ (m : MarkValue). nat_eq m.source c.args.me && (c.args.listens && nat_lt m.high 2147483648)))
