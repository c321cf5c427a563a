-- Where a driver is: what was read, taken and written, and what follows.
use Rattle.std.specs.Prelude.{◌≡◌, ◌≢◌, ◌≤◌, ◌<◌, ◌+◌, ℕ, List, [], ◌∷◌, ◌++◌, length, Bool, true, false, Option, Some, None, Result, Ok, Err}
use Rattle.wb_names.specs.declared.stream.Sink.{Ghosts as SinkOf}
use Rattle.wb_names.specs.declared.stream.Source.{Ghosts as SourceOf}
use Rattle.wb_lines.specs.declared.fault.DriveFault.{DriveFault}
use Rattle.wb_lines.specs.declared.fault.DriveFault.TheVariants as faults
use Rattle.wb_lines.specs.declared.line_reader.Found.{Found}
use Rattle.wb_lines.specs.declared.line_reader.Found.TheVariants as founds
use Rattle.wb_lines.specs.declared.lines.First.{First}
use Rattle.wb_lines.specs.declared.lines.First.TheVariants as firsts
use Rattle.wb_lines.specs.declared.lines.Seen.{Seen}
use Rattle.wb_lines.specs.declared.lines.Seen.TheVariants as seens
use Rattle.wb_lines.specs.Ahead.{Ahead, ReadsAhead, IsLine, NoLineFeed}
use Rattle.wb_lines.specs.Output.{SendsOut}
use Rattle.wb_lines.specs.Input.{InputLine, input_lines, standing, MayFollow, most_bytes}
use Rattle.wb_lines.specs.Handling.{too_long}
use Rattle.wb_lines.specs.Items.{finished, unreadable, endless, Items, over, group, Grouping, Begun, begin, closed_group, items_from}

-- The lines of a driver: `done` of them were taken, of at most `most`. `line` was read last, and `seen` was found behind those that were taken.
pub record LinesValue (S : Type 0) : Type 0 where
  pub done : ℕ
  pub most : ℕ
  pub reader : Ahead
  pub line : InputLine
  pub seen : Seen S

-- the bytes of a line that make it too long
pub record StartsLong (front : List ℕ) : Type 0 where
  pub no_line_feed : NoLineFeed front
  pub long : length front ≡ most_bytes + 1

-- a line that was read, with what the reader has after it
pub record IsRead (line : InputLine) (reader : Ahead) : Type 0 where
  pub is_line : IsLine line.bytes
  pub last : line.ended ≡ false → (line.bytes ≢ []) × (reader.bytes ≡ []) × (reader.ended ≡ true)

-- What a driver knows of what it found, with what `says` tells of a line.
abbrev pub KnowsFound : {S : Type 0} → (InputLine → S → Type 0) → ℕ → ℕ → Ahead → InputLine → Seen S → Type 0
KnowsFound says done most reader line (seens.Line said) = (done < most) × IsRead line reader × says line said
KnowsFound says done most reader line seens.TooLong = (done < most) × StartsLong line.bytes
KnowsFound says done most reader line seen = done ≤ most

abbrev pub KnowsLines : {S : Type 0} → (InputLine → S → Type 0) → LinesValue S → Type 0
KnowsLines says v = KnowsFound says v.done v.most v.reader v.line v.seen

abbrev pub is_broken : {S : Type 0} → Seen S → Bool
is_broken seens.Unwritten = true
is_broken seens.Memory = true
is_broken seen = false

-- ---- what follows

-- the bytes that were read and not taken
abbrev pub held : {S : Type 0} → Seen S → InputLine → List ℕ
held (seens.Line said) line = standing line
held seens.TooLong line = line.bytes
held seen line = []

abbrev pub unread : {S : Type 0} → LinesValue S → List ℕ
unread v = held v.seen v.line ++ v.reader.bytes

-- These bytes may still come; if `cut`, reading fails behind them. Nothing comes after the end or a failure.
abbrev pub MayComeTo : {S : Type 0} → Seen S → Bool → List ℕ → Bool → Type 0
MayComeTo seens.Failed ended more cut = (more ≡ []) × (cut ≡ true)
MayComeTo seen ended more cut = MayFollow ended more cut

abbrev pub MayCome : {S : Type 0} → LinesValue S → List ℕ → Bool → Type 0
MayCome v more cut = MayComeTo v.seen v.reader.ended more cut

-- If these bytes still come, these items follow. If a group is begun, it is the first of them. After a failed write or allocation none follow.
abbrev pub RestBy : {S : Type 0} → Grouping → LinesValue S → Option Begun → List ℕ → Bool → Items → Seen S → Type 0
RestBy by v g more cut is seens.End = is ≡ closed_group g (over (finished v.done))
RestBy by v g more cut is seens.Failed = is ≡ closed_group g (over unreadable)
RestBy by v g more cut is seens.TooMany = is ≡ closed_group g (over endless)
RestBy by v g more cut is seens.Unwritten = ⊥
RestBy by v g more cut is seens.Memory = ⊥
RestBy by v g more cut is seen = is ≡ items_from by v.most cut v.done g (input_lines (unread v ++ more))

abbrev pub Rest : {S : Type 0} → Grouping → LinesValue S → Option Begun → List ℕ → Bool → Items → Type 0
Rest by v g more cut is = RestBy by v g more cut is v.seen

-- ---- from one moment to another

-- A driver between its source and its sink: its lines, and the output that is not written yet. `left` is in the source, which may have failed;
-- `taken` is in the sink, which is stuck if it failed.
pub record Moment (S : Type 0) : Type 0 where
  pub lines : LinesValue S
  pub output : List ℕ
  pub left : Option (List ℕ)
  pub failed : Bool
  pub taken : Option (List ℕ)
  pub stuck : Bool

abbrev pub moment : {S : Type 0} → LinesValue S → List ℕ → Option (List ℕ) → Bool → Option (List ℕ) → Bool → Moment S
moment lines output left failed taken stuck = record { lines = lines; output = output; left = left; failed = failed; taken = taken; stuck = stuck }

-- the moment of a driver with this source and this sink
abbrev pub driver_moment : {S R W : Type 0} → SourceOf R → SinkOf W → LinesValue S → List ℕ → R → W → Moment S
driver_moment R W lines output source sink = moment lines output (R.left source) (R.has_failed source) (W.taken sink) (W.has_failed sink)

-- Each failure that was found did happen.
pub record FailuresHappened {S : Type 0} (m : Moment S) : Type 0 where
  pub failed : m.lines.seen ≡ seens.Failed → m.failed ≡ true
  pub stuck : m.lines.seen ≡ seens.Unwritten → m.stuck ≡ true

-- The driver pulled `given` and printed `written`.
pub record Moves {S : Type 0} (old new : Moment S) (written : List ℕ) : Type 0 where
  pub given : List ℕ
  pub pulls : ReadsAhead old.lines.reader new.lines.reader old.left new.left old.failed new.failed given
  pub sends : SendsOut old.taken old.output new.taken new.output written
  pub most : new.lines.most ≡ old.lines.most
  pub done : old.lines.done ≤ new.lines.done
  pub true_still : FailuresHappened old → FailuresHappened new
  pub may : (more : List ℕ) (cut : Bool) → MayCome new.lines more cut → MayCome old.lines (given ++ more) cut

-- ---- lines that join a group

abbrev pub grown_by : Option Begun → List InputLine → Option Begun
grown_by None lines = None
grown_by (Some g) lines = Some (record { number = g.number; first = g.first; joined = g.joined ++ lines })

-- Lines join a first line only if it gathers others.
abbrev pub HasJoined : Grouping → InputLine → List InputLine → Type 0
HasJoined by first [] = Unit {0}
HasJoined by first (line ∷ lines) = by.gathers first ≡ true

abbrev pub Gathers : Grouping → Option Begun → List InputLine → Type 0
Gathers by None [] = Unit {0}
Gathers by None (line ∷ lines) = ⊥
Gathers by (Some g) lines = HasJoined by g.first lines

-- The items are the same, whether these lines are still to be read or have joined the group that is begun.
abbrev pub Joins : {S : Type 0} → Grouping → LinesValue S → LinesValue S → List ℕ → List InputLine → Type 0
Joins by old new given joined = (g : Option Begun) (more : List ℕ) (cut : Bool) (is : Items) → Gathers by g joined → MayCome new more cut
    → Rest by new (grown_by g joined) more cut is → Rest by old g (given ++ more) cut is

-- The driver took these lines into the group that is begun.
pub record Reads {S : Type 0} (by : Grouping) (old new : Moment S) (written : List ℕ) (joined : List InputLine) : Type 0 where
  pub moves : Moves old new written
  pub joins : Joins by old.lines new.lines moves.given joined

-- What was found does not join the group of this line.
abbrev pub IsBehind : {S : Type 0} → Grouping → InputLine → Seen S → Type 0
IsBehind by line (seens.Line said) = by.joins line ≡ false
IsBehind by line seens.Nothing = ⊥
IsBehind by line seen = Unit {0}

-- The group that begins with this line is complete.
abbrev pub IsGroupEnd : {S : Type 0} → Grouping → InputLine → LinesValue S → Type 0
IsGroupEnd by first v = by.gathers first ≡ true → IsBehind by v.line v.seen

-- ---- lines that are looked at, and taken

abbrev pub with_seen : {S : Type 0} → LinesValue S → Seen S → LinesValue S
with_seen v seen = record { done = v.done; most = v.most; reader = v.reader; line = v.line; seen = seen }

-- one line more was taken
abbrev pub with_one_taken : {S : Type 0} → LinesValue S → LinesValue S
with_one_taken v = record { done = v.done + 1; most = v.most; reader = v.reader; line = v.line; seen = seens.Nothing }

-- a line that was read, or memory ran out
abbrev pub IsLineOrMemory : {S : Type 0} → (InputLine → S → Type 0) → InputLine → Seen S → Type 0
IsLineOrMemory says line (seens.Line said) = says line said
IsLineOrMemory says line seens.Memory = Unit {0}
IsLineOrMemory says line seen = ⊥

abbrev pub IsLineSeen : {S : Type 0} → Seen S → Type 0
IsLineSeen (seens.Line said) = Unit {0}
IsLineSeen seen = ⊥

-- The line that was looked at is taken, if there is one.
abbrev pub TakesSeenLine : {S : Type 0} → (InputLine → S → Type 0) → LinesValue S → LinesValue S → Option S → Type 0
TakesSeenLine says old new (Some said) = (old.seen ≡ seens.Line said) × (new ≡ with_one_taken old) × (old.done < old.most) × IsRead old.line old.reader × says old.line said
TakesSeenLine says old new None = (IsLineSeen old.seen → ⊥) × (new ≡ old)

-- whether what was found joins the group of this line
abbrev pub IsJoining : {S : Type 0} → Grouping → InputLine → Seen S → Bool → Type 0
IsJoining by line (seens.Line said) joins = joins ≡ by.joins line
IsJoining by line seen joins = joins ≡ false

-- The next line is taken if it joins the group. Else the group is complete.
abbrev pub TakesJoined : {S : Type 0} → (InputLine → S → Type 0) → Grouping → Moment S → Moment S → Option S → Type 0
TakesJoined says by old new (Some said) = (line : InputLine) × says line said × (by.joins line ≡ true) × (old.lines.done < new.lines.done) × Reads by old new [] (line ∷ [])
TakesJoined says by old new None = Reads by old new [] [] × IsBehind by new.lines.line new.lines.seen

-- ---- what a driver takes next

-- How the driver ends if it found no line.
abbrev pub EndsBy : {S F : Type 0} → Seen S → Result (Option (First S)) (DriveFault F) → Type 0
EndsBy seens.End result = result ≡ Ok None
EndsBy seens.Failed result = result ≡ Err faults.Read
EndsBy seens.TooMany result = result ≡ Err faults.Endless
EndsBy seens.Unwritten result = result ≡ Err faults.Write
EndsBy seens.Memory result = result ≡ Err faults.Memory
EndsBy seen result = ⊥

-- A line that was found is taken. Else the driver ends.
abbrev pub TakesSeen : {S F : Type 0} → (InputLine → S → Type 0) → LinesValue S → LinesValue S → Result (Option (First S)) (DriveFault F) → Type 0
TakesSeen says old new (Ok (Some (firsts.Line said))) = TakesSeenLine says old new (Some said)
TakesSeen says old new (Ok (Some firsts.TooLong)) = (old.seen ≡ seens.TooLong) × (new ≡ with_one_taken old) × (old.done < old.most) × StartsLong old.line.bytes
TakesSeen says old new result = (new ≡ old) × EndsBy old.seen result

-- what is known of the first of a group
abbrev pub IsFirstLine : {S : Type 0} → (InputLine → S → Type 0) → First S → InputLine → Type 0
IsFirstLine says (firsts.Line said) line = says line said
IsFirstLine says firsts.TooLong line = StartsLong line.bytes

-- The items from this first line on: the group that it begins, or a line that is too long, of which the rest is still to be read.
abbrev pub RestOf : {S : Type 0} → Grouping → First S → ℕ → LinesValue S → List ℕ → Bool → Items → Type 0
RestOf by (firsts.Line said) n v more cut is = Rest by v (Some (begin v.done v.line)) more cut is
RestOf by firsts.TooLong n v more cut is = is ≡ items_from by v.most cut n None (input_lines (v.line.bytes ++ (v.reader.bytes ++ more)))

-- The first line of a group was taken. The items are the same as before.
pub record TakesFirst {S : Type 0} (says : InputLine → S → Type 0) (by : Grouping) (old new : LinesValue S) (given : List ℕ) (first : First S) : Type 0 where
  pub taken : new.seen ≡ seens.Nothing
  pub count : new.done ≡ old.done + 1
  pub few : old.done < new.most
  pub is_first : IsFirstLine says first new.line
  pub rest : (more : List ℕ) (cut : Bool) (is : Items) → MayCome new more cut → RestOf by first old.done new more cut is → Rest by old None (given ++ more) cut is

-- The next line is taken, or the driver ends.
abbrev pub TakesNext : {S F : Type 0} → (InputLine → S → Type 0) → Grouping → Moment S → Moment S → Result (Option (First S)) (DriveFault F) → Type 0
TakesNext says by old new (Ok (Some first)) = (moves : Moves old new []) × TakesFirst says by old.lines new.lines moves.given first
TakesNext says by old new result = Reads by old new [] [] × EndsBy new.lines.seen result

-- The rest of a line that is too long was passed over: the items are that line, and then those that follow now.
abbrev pub PassesLine : {S : Type 0} → Grouping → LinesValue S → LinesValue S → List ℕ → Type 0
PassesLine by old new given =
    (n : ℕ) → old.done ≡ n + 1 → StartsLong old.line.bytes → (more : List ℕ) (cut : Bool) (is : Items) → MayCome new more cut → Rest by new None more cut is
    → items_from by old.most cut n None (input_lines (old.line.bytes ++ (old.reader.bytes ++ (given ++ more)))) ≡ group (n + 1) too_long [] is

-- nothing was read
abbrev pub at_start : {S : Type 0} → ℕ → LinesValue S
at_start most = record { done = 0; most = most; reader = record { bytes = []; ended = false }; line = record { bytes = []; ended = false }; seen = seens.Nothing }

-- what was found while the rest of a line was passed over
abbrev pub found_over : {S : Type 0} → Found → Seen S
found_over founds.Failed = seens.Failed
found_over founds.TooLong = seens.TooMany
found_over founds.Unwritten = seens.Unwritten
found_over found = seens.Nothing
