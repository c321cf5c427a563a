use Rattle.std.proofs.Common.{◌∙◌, ◌++◌, ◌∷◌, [], List, map, take, sym, ap, ℕ, arith}
use Rattle.std.specs.Prelude.{slice_index}
use Rattle.std.proofs.lemmas.List.{map_more}
use Rattle.wb_recovery.specs.Timing.{fired_ask}
use Rattle.wb_recovery.specs.Values.{timers_at}
use Rattle.wb_recovery.specs.Firing.{with_ask_fired}
use Rattle.wb_recovery.specs.declared.timers.Timers.{Timers}
use Rattle.wb_recovery.proofs.NameRows.{smaller_here}
use Rattle.wb_recovery.proofs.firing.asked_after.Goals as goal

pub loop-count-preserved : goal.loop-count-preserved
loop-count-preserved c =
    let xs = c.args.asking.now in
    let i = c.loop-count.count in
    let a = c.index-asking-count.result in
    let f = timers_at c.args.records.now.entries in
    let g = with_ask_fired c.args.tuning c.args.now c.args.words.now xs f in
    let here = smaller_here xs i a c.requires.rising (omega arith) c.index-asking-count.is in
    let fires = c.ask_fired.ensures.timers
    ∙ ap (λ (s : Timers). record s { ask = fired_ask c.args.tuning c.args.now (slice_index c.args.words.now i) s.ask }) c.timers_of-before.ensures
    ∙ ap (λ (k : ℕ). record (f a) { ask = fired_ask c.args.tuning c.args.now (slice_index c.args.words.now k) (f a).ask }) (sym here) in
    c.in_ok-push.ensures.items ∙ ap (λ (rows : List Timers). rows ++ c.ask_fired.result ∷ []) c.loop-count.invariant
    ∙ ap (λ (s : Timers). map g (take i xs) ++ s ∷ []) (fires ∙ ap g c.index-asking-count.is) ∙ sym (map_more g xs i a (omega arith))
