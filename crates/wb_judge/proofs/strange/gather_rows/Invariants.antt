use Rattle.std.proofs.Common.{◌≡◌, ◌≤◌, [], drop, vec_len}
use Rattle.std.specs.Prelude.{vec_capacity}
use Rattle.wb_judge.specs.Strange.{rows_in}
use Rattle.wb_judge.proofs.strange.gather_rows.Given as goal

abbrev pub invariant-loop-given : goal.invariant-loop-given
invariant-loop-given l = record {
  gathered : rows_in l.rows.items (drop l.given-index l.held) ≡ rows_in [] l.held;
  few : vec_len l.rows ≤ l.given-index;
  room : vec_capacity l.rows ≡ vec_capacity l.fn.rows;
}
