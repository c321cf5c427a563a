-- The host of a script, and what the end of a batch does to it. What a host is, and what each call does to it, is said where its
-- member is.
use Rattle.std.specs.Prelude.{ℕ, List, [], ◌∷◌}
use Rattle.wb_names.specs.Values.{DrawopValue}
use Rattle.wb_names.specs.Arrivals.{outcomes_of, counts_of}
use Rattle.wb_names.specs.Orders.{name_cmp}
use Rattle.wb_gaps.specs.Sorting.{sorted}
use Rattle.wb_recovery.specs.declared.tuning.Tuning.{Tuning}
use Rattle.wb_keeper.specs.Keeper.{KeeperCall, Arrive}
use Rattle.wb_member.specs.Board.{Held}
use Rattle.wb_member.specs.Opened.{Opened, opened_with, batched}
use Rattle.wb_commands.specs.Answers.{batch_line}

-- the constants of the timers of a script
abbrev pub script_constants : Tuning
script_constants = record { c1 = 2; c2 = 2; d1 = 1; d2 = 1 }

abbrev pub script_host : ℕ → ℕ → ℕ → Opened
script_host member cells seed = opened_with script_constants member cells seed

-- ---- the end of a batch, which is taken in some order

-- The keeper learns the names that arrived, in the order of the script, whatever the order in which they were taken. From a batch
-- with no arrivals it learns nothing.
abbrev pub calls_after : Opened → List DrawopValue → List DrawopValue → List KeeperCall
calls_after host [] order = host.is.calls
calls_after host (d ∷ ds) order = (batched (d ∷ ds) order host).is.calls

abbrev pub host_after_batch : Opened → List DrawopValue → List DrawopValue → Opened
host_after_batch host batch order = record { is = record (batched batch order host).is { calls = calls_after host batch order }; random = host.random }

-- A keeper holds the same in whatever order it learned names, and however often. So those of a batch are written ascending, each
-- once: hosts that took a batch in two orders, and hold the same names then, have the same calls.
abbrev pub ascending : List KeeperCall → List KeeperCall
ascending (Arrive now names ∷ calls) = Arrive now (sorted name_cmp names) ∷ calls
ascending calls = calls

abbrev pub calls_as_said : List DrawopValue → Opened → List KeeperCall
calls_as_said [] host = host.is.calls
calls_as_said (d ∷ ds) host = ascending (host_after_batch host (d ∷ ds) (d ∷ ds)).is.calls

-- The host once a batch was taken in this order: nothing in it says in which order the batch came.
abbrev pub taken : List DrawopValue → Opened → Opened
taken order host = record { is = record (host_after_batch host order order).is { calls = calls_as_said order host }; random = host.random }

-- What is printed. A batch with no arrivals prints nothing.
abbrev pub batch_text : Held → List DrawopValue → List ℕ
batch_text board [] = []
batch_text board (d ∷ ds) = batch_line (counts_of (outcomes_of board.cells board.drawops (d ∷ ds)))
