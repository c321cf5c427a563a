-- Which parts of a report are judged.
use Rattle.std.specs.Prelude.{ℕ, List, Option, Some, None, nat_eq}
use Rattle.std.specs.List.{find}
use Rattle.wb_names.specs.Values.{MarkValue}
use Rattle.wb_names.specs.declared.echo.Echo.{Echo}
use Rattle.wb_judge.specs.declared.report.Report.{Report}

abbrev pub echo_to : ℕ → List Echo → Option Echo
echo_to me echoes = find (λ e. nat_eq e.source me) echoes

abbrev pub high_of : Option MarkValue → ℕ
high_of None = 0
high_of (Some mark) = mark.high

abbrev pub mark_in : ℕ → List MarkValue → Option MarkValue
mark_in me marks = find (λ m. nat_eq m.source me) marks

-- the mark of a source, or 0
abbrev pub mark_of : ℕ → List MarkValue → ℕ
mark_of me marks = high_of (mark_in me marks)

abbrev pub report_of : ℕ → ℕ → List MarkValue → List Echo → Report
report_of me speaker marks echoes = record { speaker = speaker; echo = echo_to me echoes; own_mark = mark_of me marks }
