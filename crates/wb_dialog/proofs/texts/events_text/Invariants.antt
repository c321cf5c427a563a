use Rattle.std.proofs.Common.{◌≡◌, take, flat_map}
use Rattle.wb_dialog.specs.Texts.{event_line}
use Rattle.wb_dialog.proofs.texts.events_text.Given as goal

abbrev pub invariant-loop-event : goal.invariant-loop-event
invariant-loop-event l = l.text.items ≡ flat_map event_line (take l.event-index l.events)
