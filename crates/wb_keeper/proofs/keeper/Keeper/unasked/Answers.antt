use Rattle.std.proofs.Common.{◌≡◌, ◌≤◌, ◌++◌, List, filter, subst, take}
use Rattle.std.specs.Prelude.{All}
use Rattle.std.proofs.lemmas.List.Elements.{All-tail}
use Rattle.wb_names.specs.declared.gap.Gap.{Gap}
use Rattle.wb_recovery.specs.Values.{timers_in}
use Rattle.wb_keeper.specs.Missing.{is_unasked, names_in_gaps}
use Rattle.wb_keeper.proofs.WantedNames.{few_taken, gap_taken}
use Rattle.wb_keeper.proofs.keeper.Keeper.unasked.Goals as goal

pub loop-gaps-preserved : goal.loop-gaps-preserved
loop-gaps-preserved c =
    let p = is_unasked (timers_in c.args.self.now.recovery) in
    let room = c.args.room in
    let page = c.args.page in
    let names = c.loop-gaps.names.items in
    let left = c.next.new.self in
    let is = c.in-Some.ensures.steps in
    let all = take room (filter p (names_in_gaps page c.args.gaps)) in
    record {
      few = few_taken room _ _ c.in_ok-add_unasked.ensures;
      taken = gap_taken p room page c.in-Some.gap left names _ all (subst (λ (gaps : List Gap). take room (names ++ filter p (names_in_gaps page gaps)) ≡ all) is c.loop-gaps.invariant.taken) c.in_ok-add_unasked.ensures;
      first = All-tail (λ (g : Gap). 1 ≤ g.first) c.in-Some.gap left (subst (All (λ (g : Gap). 1 ≤ g.first)) is c.loop-gaps.invariant.first);
      filled = All-tail (λ (g : Gap). g.first ≤ g.last) c.in-Some.gap left (subst (All (λ (g : Gap). g.first ≤ g.last)) is c.loop-gaps.invariant.filled);
    }
