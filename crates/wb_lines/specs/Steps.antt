-- How a driver takes lines: what a handler does with a group, what it came to, and how the driver ends.
use Rattle.std.specs.Prelude.{◌≡◌, ◌⊎◌, ℕ, List, [], ◌++◌, Bool, true, false, None, Result, Ok, Err, OnOk}
use Rattle.wb_lines.specs.declared.fault.DriveFault.{DriveFault}
use Rattle.wb_lines.specs.declared.fault.DriveFault.TheVariants as faults
use Rattle.wb_lines.specs.declared.lines.First.{First}
use Rattle.wb_lines.specs.declared.lines.First.TheVariants as firsts
use Rattle.wb_lines.specs.declared.handler.Stop.{Stop}
use Rattle.wb_lines.specs.declared.handler.Stop.TheVariants as handler_stops
use Rattle.wb_lines.specs.Input.{InputLine, BeginsWith}
use Rattle.wb_lines.specs.Handling.{whole, too_long, Step, goes, stops, ends, step_text}
use Rattle.wb_lines.specs.Items.{Items, Grouping}
use Rattle.wb_lines.specs.Driving.{Outcome, writes, before, stop, is_stop, IsStopped, Meets}
use Rattle.wb_lines.specs.Groups.{Steps, IsOutcomeOf}
use Rattle.wb_lines.specs.Moments.{LinesValue, MayCome, Rest, HasJoined, Joins, IsGroupEnd, is_broken, PassesLine, Moment, Moves}

-- why a driver stops when its handler does, at the line of this number
abbrev pub driver_fault : {F : Type 0} → ℕ → Stop F → DriveFault F
driver_fault number (handler_stops.Fault f) = faults.Line number f
driver_fault number handler_stops.Endless = faults.Endless
driver_fault number handler_stops.Memory = faults.Memory

-- ---- a handler

-- What the code did, if it may do some steps and is at some states afterwards: all of one; or memory ran out, and it printed a front of the text of one.
abbrev pub DoesOne : {S F U : Type 0} → (S → Type 0) → List ℕ → (Step S F → Type 0) → Result U (Stop F) → Type 0
DoesOne is_at printed May (Ok u) = (next : _) × is_at next × May (goes printed next)
DoesOne is_at printed May (Err (handler_stops.Fault f)) = May (stops printed f)
DoesOne is_at printed May (Err handler_stops.Endless) = May (ends printed)
DoesOne is_at printed May (Err handler_stops.Memory) = (step : _) × May step × BeginsWith (step_text step) printed

-- It took all of a group, or printed nothing if no more lines can be read.
abbrev pub TakesAll : {S F T : Type 0} → Bool → Grouping → (S → Type 0) → List ℕ → (List InputLine → Step S F → Type 0) → InputLine → List InputLine → LinesValue T → Type 0
TakesAll true by is_at printed May first joined v = printed ≡ []
TakesAll false by is_at printed May first joined v = HasJoined by first joined × IsGroupEnd by first v × ((next : _) × is_at next × May joined (goes printed next))

-- What it did with a group, of which these lines were taken after the first. If it stops, it does so whichever lines join it.
abbrev pub DoesGroup : {S F U T : Type 0} → Grouping → (S → Type 0) → List ℕ → (List InputLine → Step S F → Type 0) → InputLine → List InputLine → LinesValue T → Result U (Stop F) → Type 0
DoesGroup by is_at printed May first joined v (Ok u) = TakesAll (is_broken v.seen) by is_at printed May first joined v
DoesGroup by is_at printed May first joined v (Err e) = (all : List InputLine) → DoesOne {U = Unit {0}} is_at printed (May all) (Err e)

-- What it did with what was taken. If it went on after a line that is too long, the rest of that was passed over.
abbrev pub HandlesBy : {S F U T : Type 0} → Grouping → Steps S F → (S → Type 0) → (S → Type 0) → First T → LinesValue T → LinesValue T → List ℕ → List ℕ → Result U (Stop F) → Type 0
HandlesBy by Does was_at is_at (firsts.Line said) old new given printed result =
    (joined : List InputLine) × Joins by old new given joined
    × ((s : _) → was_at s → DoesGroup by is_at printed (Does s old.done (whole old.line)) old.line joined new result)
HandlesBy by Does was_at is_at firsts.TooLong old new given printed result =
    OnOk result (PassesLine by old new given) × ((s : _) → was_at s → DoesOne is_at printed (Does s old.done too_long []) result)

abbrev pub Handles : {S F U T : Type 0} → Grouping → Steps S F → (S → Type 0) → (S → Type 0) → First T → Moment T → Moment T → Result U (Stop F) → Type 0
Handles by Does was_at is_at first old new result =
    (printed : List ℕ) × (moves : Moves old new printed) × HandlesBy by Does was_at is_at first old.lines new.lines moves.given printed result

-- ---- what it comes to

-- The text of an outcome begins with what was written.
abbrev pub Begins : {F : Type 0} → Outcome F → List ℕ → Type 0
Begins (writes text end) written = BeginsWith text written

-- An outcome of the rest, after what was taken, from a state on.
abbrev pub OutcomeAt : {S F T : Type 0} → Grouping → Steps S F → LinesValue T → S → List ℕ → Bool → Outcome F → S → Type 0
OutcomeAt by Does v s more cut o t = (is : Items) × Rest by v None more cut is × IsOutcomeOf Does is s o t

-- After a text, the driver ends so: it is an outcome, or a front of the text of one if the driver has to stop.
abbrev pub Answers : {S F : Type 0} → (Outcome F → S → Type 0) → List ℕ → S → Result ℕ (DriveFault F) → Type 0
Answers Whole written t (Err faults.Memory) = (o : _) × (u : _) × Whole o u × Begins o written
Answers Whole written t (Err faults.Write) = (o : _) × (u : _) × Whole o u × Begins o written
Answers Whole written t result = Whole (before written (stop result)) t

-- The handler is at a state, unless the driver ends with a fault.
abbrev pub IsLeftAt : {S F : Type 0} → (S → Type 0) → S → Result ℕ (DriveFault F) → Type 0
IsLeftAt is_at t (Ok n) = is_at t
IsLeftAt is_at t (Err e) = Unit {0}

abbrev pub EndsSo : {S F : Type 0} → (S → Type 0) → (Outcome F → S → Type 0) → List ℕ → Result ℕ (DriveFault F) → Type 0
EndsSo is_at Whole written result = (t : _) × IsLeftAt is_at t result × Answers Whole written t result

-- All lines were taken, or the driver ended before.
abbrev pub DrivesAll : {S F T : Type 0} → Grouping → Steps S F → (S → Type 0) → (S → Type 0) → Moment T → Moment T → Result ℕ (DriveFault F) → Type 0
DrivesAll by Does was_at is_at old new result = (printed : List ℕ) × (moves : Moves old new printed)
    × ((s : _) → was_at s → (more : List ℕ) (cut : Bool) → MayCome new.lines more cut → EndsSo is_at (OutcomeAt by Does old.lines s (moves.given ++ more) cut) printed result)

-- ---- the end

-- Some text may wait to be written; none does if the end of the outcome is answered.
abbrev pub Settles : {F : Type 0} → Outcome F → List ℕ → List ℕ → Result ℕ (DriveFault F) → Type 0
Settles (writes text end) written waiting result = ((written ≡ text) × (waiting ≡ []) × (result ≡ end)) ⊎ (IsStopped result × BeginsWith text written)

-- What waits is written, unless the driver had to stop.
abbrev pub ClosesAfter : {F : Type 0} → Bool → DriveFault F → List ℕ → List ℕ → Result ℕ (DriveFault F) → Type 0
ClosesAfter true e written waiting result = (written ≡ []) × (result ≡ Err e)
ClosesAfter false e written waiting result = Settles (stop (Err e)) written waiting result

abbrev pub Closes : {F : Type 0} → Result ℕ (DriveFault F) → List ℕ → List ℕ → Result ℕ (DriveFault F) → Type 0
Closes (Ok m) written waiting result = Settles (stop (Ok m)) written waiting result
Closes (Err e) written waiting result = ClosesAfter (is_stop e) e written waiting result

-- One of some outcomes was met: its text was written, and its end answered.
abbrev pub MeetsOne : {S F : Type 0} → (Outcome F → S → Type 0) → (S → Type 0) → List ℕ → Result ℕ (DriveFault F) → Type 0
MeetsOne Whole is_at written result = (o : _) × (t : _) × Whole o t × IsLeftAt is_at t result × Meets o written result
