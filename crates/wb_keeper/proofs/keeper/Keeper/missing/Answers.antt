use Rattle.std.proofs.Common.{◌∙◌, ap, sym, subst, List, filter, take}
use Rattle.std.proofs.lemmas.Result.{IfOk-weaker}
use Rattle.wb_names.specs.Values.{MarkValue}
use Rattle.wb_gaps.specs.Gaps.{AreGaps}
use Rattle.wb_board.specs.Desks.{PassValue}
use Rattle.wb_recovery.specs.Accepted as timers
use Rattle.wb_recovery.specs.Values.{timers_in}
use Rattle.wb_keeper.specs.Keeper.{events_of}
use Rattle.wb_keeper.specs.Keeping.{KeeperValue}
use Rattle.wb_keeper.specs.Missing.{is_unasked, names_in_gaps}
use Rattle.wb_keeper.proofs.KeeperAnswers.{only_wanted}
use Rattle.wb_keeper.proofs.WantedNames.{gaps_start, none_wanted, wanted_as}
use Rattle.wb_keeper.proofs.keeper.Keeper.missing.Goals as goal

-- where there is no room, nothing is wanted
pub returns-then-room-eq0-clause-value : goal.returns-then-room-eq0-clause-value
returns-then-room-eq0-clause-value c = λ me constants calls s.
    let events = events_of me calls in
    let stands = subst (λ (v : KeeperValue). timers.StandsFor constants events v.recovery) (sym c.self.view_is) s.recovery in
    none_wanted constants events c.asks.result c.saturating_sub-room.result _ c.new.result.items (c.asks.ensures.events constants events stands) c.saturating_sub-room.ensures c.if-room-eq0.true c.new.ensures.items

pub unasked-requires-clause-first : goal.unasked-requires-clause-first
unasked-requires-clause-first c = gaps_start c.refresh.new.desk.seen c.args.page c.marks.result.now c.missing-gaps.result (c.missing-gaps.ensures c.refresh.new.desk.seen c.in_ok-holdings.ensures.holds)

pub returns-clause-value : goal.returns-clause-value
returns-clause-value c = IfOk-weaker c.unasked.result _ _ (λ names is me constants calls s.
    let events = events_of me calls in
    let stands = subst (λ (v : KeeperValue). timers.StandsFor constants events v.recovery) (sym c.self.view_is) s.recovery in
    let gaps = c.missing-gaps.result in
    let history = c.holdings.follows.lender-at-none.seen in
    let read = c.missing-gaps.ensures c.refresh.new.desk.seen c.in_ok-holdings.ensures.holds in
    let here = subst (λ (v : PassValue). AreGaps v.seen c.args.page c.marks.result.now gaps) (sym c.holdings.follows.holds-at-none) read in
    only_wanted constants events history c.args.page _ _ (
      gaps,
      subst (λ (marks : List MarkValue). AreGaps history c.args.page marks gaps) (c.marks.ensures ∙ s.merged c.args.page) here,
      wanted_as c.self.inside.recovery constants events c.asks.result c.saturating_sub-room.result c.args.page gaps _ stands (c.asks.ensures.events constants events stands) c.saturating_sub-room.ensures
          (is ∙ ap (λ (v : KeeperValue). take c.saturating_sub-room.result (filter (is_unasked (timers_in v.recovery)) (names_in_gaps c.args.page gaps))) (sym c.self.view_is)),
    )) c.unasked.ensures
