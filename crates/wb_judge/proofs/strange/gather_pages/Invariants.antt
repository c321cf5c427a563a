use Rattle.std.proofs.Common.{◌≡◌, ◌≤◌, [], drop, vec_len}
use Rattle.std.specs.Prelude.{vec_capacity}
use Rattle.wb_judge.specs.Strange.{pages_in}
use Rattle.wb_judge.proofs.strange.gather_pages.Given as goal

abbrev pub invariant-loop-given : goal.invariant-loop-given
invariant-loop-given l = record {
  gathered : pages_in l.pages.items (drop l.given-index l.held) ≡ pages_in [] l.held;
  few : vec_len l.pages ≤ l.given-index;
  room : vec_capacity l.pages ≡ vec_capacity l.fn.pages;
}
