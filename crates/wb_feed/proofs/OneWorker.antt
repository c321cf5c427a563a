-- One worker takes the arrivals in the order in which they came: none of them is marked, and the desk takes them all.
use Rattle.std.proofs.Common.{◌≡◌, ℕ, zero, suc, ◌<◌, Bool, false, cond, List, [], ◌∷◌, ◌++◌, length, get_or, refl, ap, subst, ◌∙◌, arith}
use Rattle.wb_names.specs.Values.{DrawopValue}
use Rattle.wb_names.specs.Arrivals.{counts, IsBatch}
use Rattle.wb_board.specs.Desks.{PassValue, IsSound, IsWhole}
use Rattle.wb_feed.specs.Accepts.{Entry, drawops, outcomes, tally, Runs}
use Rattle.wb_feed.specs.declared.channel.Message.{Message}
use Rattle.wb_feed.specs.Served.{Spot, entries, accepted_at}
use Rattle.wb_feed.specs.Marks.{unmarked, Marks}
use Rattle.wb_feed.specs.Workers.{Workers, nobody}
use Rattle.wb_feed.proofs.OneThread.{counted_as, same_counts}
use Rattle.wb_feed.proofs.InOrder.{in_order}

all_unmarked : (ms : List Bool) (ds : List DrawopValue) → length ms ≡ length ds → ((j : ℕ) → j < length ms → get_or ms j false ≡ false) → unmarked ms ds ≡ ds
all_unmarked [] [] e h = refl
all_unmarked [] (d ∷ ds) e h = absurd (omega (arith, e))
all_unmarked (m ∷ ms) [] e h = absurd (omega (arith, e))
all_unmarked (m ∷ ms) (d ∷ ds) e h =
    let here : m ≡ false = h 0 (omega arith) in
    ap (λ b. cond b (unmarked ms ds) (d ∷ unmarked ms ds)) here ∙ ap (λ l. d ∷ l) (all_unmarked ms ds (omega (arith, e)) (λ j lt. h (suc j) (omega (arith, lt))))

pub nothing_marked : (ms : List Bool) (ds : List DrawopValue) → Marks [] (length ds) ms → unmarked ms ds ≡ ds
nothing_marked ms ds marks = all_unmarked ms ds marks.long (λ j lt. marks.each j (omega (arith, lt, marks.long)))

pub in_given_order : (rows : ℕ) (v w z : PassValue) (log : List Spot) (gots : List Message) (more : List Entry) (all : List DrawopValue) (ms : List Bool) → IsSound v → IsWhole v → Workers rows zero v log gots w → Runs w more z
    → drawops more ≡ unmarked ms all → Marks (accepted_at log) (length all) ms
    → IsBatch v.cells v.seen all z.seen (counts (tally (entries log ++ more)).fresh (tally (entries log ++ more)).again (tally (entries log ++ more)).clash (tally more).left)
in_given_order rows v w z log gots more all ms sound whole nobody run rest marks =
    let ordered : IsBatch v.cells v.seen (drawops more) z.seen (tally more) = (outcomes more, in_order v z more sound whole run, refl) in
    subst (λ l. IsBatch v.cells v.seen l z.seen (counts (tally more).fresh (tally more).again (tally more).clash (tally more).left)) (rest ∙ nothing_marked ms all marks)
    (counted_as v.cells v.seen z.seen (drawops more) (tally more) (counts (tally more).fresh (tally more).again (tally more).clash (tally more).left) (same_counts refl refl refl refl) ordered)
