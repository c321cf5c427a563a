use Rattle.std.proofs.Common.{◌≡◌, ◌≤◌, List}
use Rattle.wb_display.specs.Canvas.{canvas_text}
use Rattle.wb_names.specs.Values.{DrawopValue}
use Rattle.wb_dialog.proofs.Rows.{ArePainted}
use Rattle.wb_dialog.proofs.texts.painted_rows.Given as goal

abbrev pub invariant-loop : goal.invariant-loop
invariant-loop l = record {
  within : l.counter ≤ l.height;
  rows : (shown : List DrawopValue) → l.fn.canvas ≡ canvas_text shown l.width l.height → ArePainted shown l.width l.height l.counter l.rest l.text.items;
}
