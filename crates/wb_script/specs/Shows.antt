-- What a script shows at its end, said of the bytes that go in and the characters that come out.
use Rattle.std.specs.Prelude.{◌≡◌, ℕ, List, [], ◌∷◌, ◌++◌, false, Option, Ok, IsPermutation}
use Rattle.std.specs.Str.Lines.{strip_carriage_return}
use Rattle.wb_names.specs.Values.{DrawopValue}
use Rattle.wb_names.specs.Arrivals.{history_after}
use Rattle.wb_names.specs.declared.name.PageId.{PageId}
use Rattle.wb_display.specs.Canvas.{canvas_text}
use Rattle.wb_commands.specs.declared.command.Command.TheVariants.{Question}
use Rattle.wb_member.specs.declared.questions.Query.TheVariants.{Canvas}
use Rattle.wb_script.specs.declared.running.Summary.{Summary}
use Rattle.wb_lines.specs.Ahead.{IsLine}
use Rattle.wb_script.specs.Laws.{NoneClash, HasCells}
use Rattle.wb_commands.specs.Parsing.{script_line_of}
use Rattle.wb_member.specs.Queries.{view_of}
use Rattle.wb_lines.specs.Input.{InputLine, input_lines}
use Rattle.wb_script.specs.Script.{Opens, Part, Arrival, End, part_in, prints, run_outcome}
use Rattle.wb_script.specs.ScriptLaws.{EachEnds}

-- the drawop that a line hands in
abbrev pub arrived_by : Part → List DrawopValue
arrived_by (Arrival d) = d ∷ []
arrived_by part = []

-- the arrivals of some lines, of whatever batches
abbrev pub arrivals_of : List InputLine → List DrawopValue
arrivals_of [] = []
arrivals_of (line ∷ lines) = arrived_by (part_in line) ++ arrivals_of lines

-- the cells that a line opens a board with; else those of what follows
abbrev pub cells_by : Part → ℕ → ℕ
cells_by (End (Opens member cells workers seed)) later = cells
cells_by part later = later

-- the cells of the first board that is opened, or 0
abbrev pub cells_of : List InputLine → ℕ
cells_of [] = 0
cells_of (line ∷ lines) = cells_by (part_in line) (cells_of lines)

-- a text ends with some characters
abbrev pub EndsWith : List ℕ → List ℕ → Type 0
EndsWith text end = (front : List ℕ) × (text ≡ front ++ end)

-- the canvas of a page that shows all arrivals of some whole lines
abbrev pub canvas_after : List ℕ → PageId → ℕ → ℕ → List ℕ
canvas_after lines page width height = canvas_text (view_of (history_after (cells_of (input_lines lines)) [] (arrivals_of (input_lines lines))) page) width height

-- A script that ends by showing a page, and is run to its end, ends with the canvas of all its arrivals, of whatever batches.
abbrev pub ShowsArrivals : Type 0
ShowsArrivals = (workers : Option ℕ) (front question text : List ℕ) (page : PageId) (width height : ℕ) (summary : Summary) → EachEnds (input_lines front) → IsLine question → script_line_of (strip_carriage_return question) ≡ Ok (Question (Canvas page width height))
    → run_outcome workers false (front ++ (question ++ 10 ∷ [])) ≡ prints text (Ok summary) → EndsWith text (canvas_after front page width height)

-- Two such scripts whose arrivals are rearrangements of one another and do not clash, with cells for all names, end with the same canvas.
abbrev pub ShowsAreFree : Type 0
ShowsAreFree = (workers : Option ℕ) (front other question text again : List ℕ) (page : PageId) (width height : ℕ) (summary summary' : Summary) → EachEnds (input_lines front) → EachEnds (input_lines other)
    → IsLine question → script_line_of (strip_carriage_return question) ≡ Ok (Question (Canvas page width height))
    → run_outcome workers false (front ++ (question ++ 10 ∷ [])) ≡ prints text (Ok summary) → run_outcome workers false (other ++ (question ++ 10 ∷ [])) ≡ prints again (Ok summary')
    → IsPermutation (arrivals_of (input_lines front)) (arrivals_of (input_lines other)) → NoneClash (arrivals_of (input_lines front))
    → HasCells (cells_of (input_lines front)) (arrivals_of (input_lines front)) → HasCells (cells_of (input_lines other)) (arrivals_of (input_lines front))
    → EndsWith text (canvas_after front page width height) × EndsWith again (canvas_after front page width height)
