use Rattle.std.proofs.Common.{◌≡◌, map, take}
use Rattle.wb_names.specs.History.{IsHistory}
use Rattle.wb_display.proofs.view.is_history.Given as goal

abbrev pub invariant-loop-drawop : goal.invariant-loop-drawop
invariant-loop-drawop l = record {
  once : IsHistory (take l.drawop-index l.list);
  names : l.names.keys ≡ map (λ d. d.name) (take l.drawop-index l.list);
}
