-- A batch at the board of a member: p is the desk that owns all rows of it before the batch, q the desk after it.
use Rattle.std.proofs.Common.{◌≡◌, ℕ, ◌<◌, ◌≤◌, Bool, true, false, List, refl, ap, ◌∙◌, arith, IsPermutation, nat_le, Some}
use Rattle.std.proofs.lemmas.Bool.Decides.{nat_tests}
use Rattle.std.proofs.lemmas.List.Sorted.{IsPermutation-refl}
use Rattle.wb_names.specs.Values.{DrawopValue}
use Rattle.wb_names.specs.Arrivals.{Counts, counts_of, outcomes_of}
use Rattle.wb_names.proofs.Arrivals.{batch_is}
use Rattle.wb_board.specs.Desks.{HistoryValue, PassValue, IsSound}
use Rattle.wb_feed.specs.declared.batch.Batch.{Batch}
use Rattle.wb_feed.specs.Accepts.{Keeps as DeskKeeps}
use Rattle.wb_feed.specs.Batches.{counts_in, IsInOrder, Takes}
use Rattle.wb_member.specs.Board.{Held, held_of, OwnsAll}
use Rattle.wb_member.specs.Holding.{board_after}
use Rattle.wb_script.specs.Script.{MayBeTaken}

-- A board has taken a batch by `workers` workers: it holds and counted what one thread makes of the batch in this order.
pub record TakenAt (board : Held) (workers : ℕ) (batch : List DrawopValue) (after : Held) (counted : Counts) : Type 0 where
  pub order : List DrawopValue
  pub may : MayBeTaken (Some workers) batch order
  pub held : after ≡ board_after board order
  pub counts : counted ≡ counts_of (outcomes_of board.cells board.drawops order)

-- one thread that takes it in this order
in_order : (p q : PassValue) (h : Held) (workers : ℕ) (batch order : List DrawopValue) (n : Batch) → held_of p ≡ h → IsSound p → q.cells ≡ p.cells → IsPermutation batch order → (workers ≤ 1 → order ≡ batch) → IsInOrder p order q n → TakenAt h workers batch (held_of q) (counts_in n)
in_order p q h workers batch order n view sound cells moved alone taken =
    let r = batch_is p.cells p.seen order q.seen (counts_in n) sound.history taken in
    record {
      order = order;
      may = record { moved = moved; alone = alone };
      held = ap (λ (c : ℕ). let k : Held = record { cells = c; drawops = q.seen } in k) cells ∙ ap (λ (ds : List DrawopValue). let k : Held = record { cells = p.cells; drawops = ds } in k) r.0 ∙ ap (λ (k : Held). board_after k order) view;
      counts = r.1 ∙ ap (λ (k : Held). counts_of (outcomes_of k.cells k.drawops order)) view;
    }

-- what a batch leads to
pub taken_at : (b : HistoryValue) (p q : PassValue) (h : Held) (workers : ℕ) (batch : List DrawopValue) (n : Batch) → held_of p ≡ h → OwnsAll b p → 0 < workers
    → DeskKeeps p q → Takes p batch workers q n → TakenAt h workers batch (held_of q) (counts_in n)
taken_at b p q h workers batch n view owns some keeps takes = at (nat_le workers 1) refl where
  at : (alone : Bool) → nat_le workers 1 ≡ alone → TakenAt h workers batch (held_of q) (counts_in n)
  at true e =
      let low : workers ≤ 1 = grind (arith, nat_tests, e) in
      let one : workers ≡ 1 = omega (arith, low, some) in
      in_order p q h workers batch batch n view owns.sound keeps.same.1 (IsPermutation-refl batch) (λ a. refl) (takes.in_order one owns.whole)
  at false e =
      let high : 1 < workers = grind (arith, nat_tests, e) in
      let settled = takes.settled owns.whole in
      in_order p q h workers batch settled.order n view owns.sound keeps.same.1 settled.moved (λ a. absurd (omega (arith, a, high))) settled.taken
