-- The gaps that a walk over ascending runs and marks finds, in its order.
use Rattle.std.specs.Prelude.{ℕ, ◌+◌, ◌-◌, Bool, false, List, [], ◌∷◌, Option, Some, None, map, nat_eq, nat_lt, if◌then◌else◌}
use Rattle.std.specs.List.{flat_map}
use Rattle.wb_names.specs.Values.{MarkValue}
use Rattle.wb_names.specs.declared.gap.Gap.{Gap}
use Rattle.wb_gaps.specs.Runs.{runs_left}
use Rattle.wb_gaps.specs.declared.run.Run.{Run}
use Rattle.wb_gaps.specs.declared.walk.Span.{Span}
use Rattle.wb_gaps.specs.declared.walk.Walk.{Walk}

-- up to which number a source is done, where this source is done up to `done` and no greater one at all
abbrev pub done_of : ℕ → ℕ → ℕ → ℕ
done_of at done source = if nat_eq source at then done else 0

-- the numbers of a run's source before it
abbrev pub before_run : ℕ → ℕ → Run → Span
before_run at done r = record { source = r.source; done = done_of at done r.source; last = r.first - 1 }

-- the numbers of a mark's source up to it
abbrev pub up_to_mark : ℕ → ℕ → MarkValue → Span
up_to_mark at done m = record { source = m.source; done = done_of at done m.source; last = m.high }

-- the first of these marks is of a source below this one
abbrev pub mark_below : ℕ → List MarkValue → Bool
mark_below source [] = false
mark_below source (m ∷ marks) = nat_lt m.source source

-- `spans` goes down the runs, and `spans_at` down the marks, at the first of the runs
abbrev pub spans_at : Run → (ℕ → ℕ → List MarkValue → List Span) → ℕ → ℕ → List MarkValue → List Span
spans_at r later at done [] = before_run at done r ∷ later r.source r.last []
spans_at r later at done (m ∷ marks) =
    if nat_lt m.source r.source then up_to_mark at done m ∷ spans_at r later at done marks
    else before_run at done r ∷ later r.source r.last (m ∷ marks)

abbrev pub spans : List Run → ℕ → ℕ → List MarkValue → List Span
spans [] at done marks = map (up_to_mark at done) marks
spans (r ∷ runs) at done marks = spans_at r (spans runs) at done marks

-- the gap that a span is, where it has numbers
abbrev pub gap_of : Span → List Gap
gap_of s = if nat_lt s.done s.last then record { source = s.source; first = s.done + 1; last = s.last } ∷ [] else []

-- the gaps of ascending runs and marks
abbrev pub walk_of : List Run → List MarkValue → List Gap
walk_of runs marks = flat_map gap_of (spans runs 0 0 marks)

-- ---- what a walk has left

abbrev pub ahead : Option Run → List Run → List Run
ahead None later = []
ahead (Some run) later = run ∷ later

abbrev pub spans_left : Walk → List Span
spans_left w = spans (ahead w.run (runs_left w.runs)) w.source w.done w.marks.now

abbrev pub gaps_left : Walk → List Gap
gaps_left w = flat_map gap_of (spans_left w)
