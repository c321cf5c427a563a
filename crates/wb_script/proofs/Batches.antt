-- The outcomes of a script, from what is done with its lines in batches.
use Rattle.std.proofs.Common.{◌≡◌, ℕ, ◌+◌, Bool, true, false, List, [], ◌∷◌, ◌++◌, Result, Ok, Err, refl, sym, ap, subst, ◌∙◌, append_assoc, append-nil, Option, Some, None, nat_lt, ◌&&◌, ◌||◌, not, if◌then◌else◌}
use Rattle.std.proofs.lemmas.List.Sorted.{length_permutation}
use Rattle.std.proofs.lemmas.Bool.{false≢true, true≢false}
use Rattle.wb_names.specs.Values.{DrawopValue}
use Rattle.wb_lines.specs.declared.fault.DriveFault.{DriveFault}
use Rattle.wb_lines.specs.declared.fault.DriveFault.TheVariants as drive_faults
use Rattle.wb_lines.specs.Input.{InputLine, content}
use Rattle.wb_lines.specs.Handling.{whole, Step as LineStep}
use Rattle.wb_lines.specs.Taking.{is_short, is_passed}
use Rattle.wb_lines.specs.Items.{finished, unreadable, endless, Items, over, group, Begun, begin, grown, closed_group, LineEntry, short, long, none as ends_as, entry, by_entry, items_from}
use Rattle.wb_lines.specs.Driving.{Outcome as LinesOutcome, writes, before as text_before, stop}
use Rattle.wb_lines.specs.Groups.{Proceeds as StepProceeds, IsOutcomeOf}
use Rattle.wb_lines.proofs.GroupedLines.{parted, first_parts, any_group}
use Rattle.wb_commands.specs.declared.fault.LineFault.{LineFault}
use Rattle.wb_commands.specs.declared.fault.LineFault.TheVariants as faults
use Rattle.wb_commands.specs.Parsing.{script_line_of}
use Rattle.wb_commands.specs.Acts.{Act, does, fails, act}
use Rattle.wb_member.specs.Opened.{Opened, board_of, by_host}
use Rattle.wb_script.specs.declared.fault.RunFault.{RunFault}
use Rattle.wb_script.specs.declared.fault.RunFault.TheVariants as run_faults
use Rattle.wb_script.specs.Hosts.{taken, batch_text}
use Rattle.wb_script.specs.Script.{RunState, MayBeTaken, closing_text, after_batch, Closing, Opens, Acts, Faulty, Part, Arrival, Nothing, End, part_of, part_in, RunStep, moves_on, refused, step_by, closing_step, part_step, RunOutcome, prints, printed_before, run_answer, finish, most_lines, fault_at, Finishes, Proceeds, Continues, IsOutcomeFrom}
use Rattle.wb_script.specs.Shows.{arrived_by, arrivals_of}
use Rattle.wb_script.specs.Inside.Parts.{is_arrival, joins_batch, by_batches}
use Rattle.wb_script.specs.Inside.Steps.{with_more, as_step, MayDo, MayTakeBatch, may_take_at, may_take}
use Rattle.wb_script.specs.Inside.Ending.{shown}
use Rattle.wb_script.proofs.Outcomes.{before-nil, before-before, as_it_came}

-- ---- where no arrivals wait

none_taken : (workers : Option ℕ) (order : List DrawopValue) → MayBeTaken workers [] order → order ≡ []
none_taken workers [] may = refl
none_taken workers (d ∷ order) may = let long = length_permutation [] (d ∷ order) may.moved in absurd cc

after_none : (t : RunState) → t.waiting ≡ [] → after_batch t [] ≡ t
after_none t none = go t.host t.waiting none where
  go : (host : Option Opened) (waiting : List DrawopValue) → waiting ≡ [] → after_batch (record { host = host; workers = t.workers; waiting = waiting }) [] ≡ record { host = host; workers = t.workers; waiting = waiting }
  go None [] none = refl
  go (Some host) [] none = refl
  go host (d ∷ ds) none = absurd cc

no_text : (host : Option Opened) → by_host {X = List ℕ} host [] (λ h. batch_text (board_of h) []) ≡ []
no_text None = refl
no_text (Some host) = refl

text_none : (t : RunState) → t.waiting ≡ [] → closing_text t t.waiting ≡ []
text_none t none = ap (λ (w : List DrawopValue). closing_text t w) none ∙ no_text t.host

finish_none : (t : RunState) (ending : Result ℕ RunFault) → t.waiting ≡ [] → finish t t.waiting ending ≡ prints [] (run_answer t ending)
finish_none t ending none =
    ap (λ (text : List ℕ). prints text (run_answer (after_batch t t.waiting) ending)) (text_none t none)
    ∙ ap (λ (w : List DrawopValue). prints [] (run_answer (after_batch t w) ending)) none
    ∙ ap (λ (u : RunState). prints [] (run_answer u ending)) (after_none t none)

-- the script ends there
pub finishes_none : (t : RunState) (ending : Result ℕ RunFault) → t.waiting ≡ [] → Finishes t ending (prints [] (run_answer t ending))
finishes_none t ending none = (t.waiting, as_it_came t.workers t.waiting, sym (finish_none t ending none))

finishes_so : (t : RunState) (ending : Result ℕ RunFault) (o : RunOutcome) → t.waiting ≡ [] → Finishes t ending o → o ≡ prints [] (run_answer t ending)
finishes_so t ending o none f =
    let order : f.0 ≡ t.waiting = none_taken t.workers f.0 (subst (λ (w : List DrawopValue). MayBeTaken t.workers w f.0) none f.1) ∙ sym none in
    f.2 ∙ ap (λ (l : List DrawopValue). finish t l ending) order ∙ finish_none t ending none

-- ---- a batch ends as soon as it is known that no arrival follows: what is printed then, and what follows, is the same

abbrev IsOpen : Option Opened → Type 0
IsOpen None = ⊥
IsOpen (Some host) = Unit {0}

-- the end, after the batch
finish_behind : (s : RunState) (order : List DrawopValue) (ending : Result ℕ RunFault) (o : RunOutcome) → MayBeTaken s.workers s.waiting order → Finishes (after_batch s order) ending o → Finishes s ending (printed_before (closing_text s order) o)
finish_behind s order ending o may f =
    let last = finishes_so (after_batch s order) ending o refl f in
    (order, may, ap (λ (p : RunOutcome). printed_before (closing_text s order) p) last ∙ ap (λ (text : List ℕ). prints text (run_answer (after_batch s order) ending)) (append-nil (closing_text s order)))

-- a refusal, and what a host does, behind a text
refused_behind : (number : ℕ) (Rest : RunState → RunOutcome → Type 0) (t : RunState) (text : List ℕ) (e : LineFault) (o : RunOutcome) → Proceeds number Rest o (refused t [] e) → Proceeds number Rest (printed_before text o) (refused t text e)
refused_behind number Rest t text e o q = (q.0, q.1, ap (λ (x : RunOutcome). printed_before text x) (q.2 ∙ before-nil q.0))

act_behind : (number : ℕ) (Rest : RunState → RunOutcome → Type 0) (k : Option ℕ) (text : List ℕ) (o : RunOutcome) (host : Opened) (a : Act) → Proceeds number Rest o (step_by k [] a host) → Proceeds number Rest (printed_before text o) (step_by k text a host)
act_behind number Rest k text o host (does next printed) q = (q.0, q.1, ap (λ (x : RunOutcome). printed_before text x) q.2 ∙ before-before text printed q.0)
act_behind number Rest k text o host (fails e) q = refused_behind number Rest (record { host = Some host; workers = k; waiting = [] }) text e o q

-- by the host
closes_behind : (number : ℕ) (Rest : RunState → RunOutcome → Type 0) (k : Option ℕ) (host : Option Opened) (text : List ℕ) (c : Closing) (o : RunOutcome) → IsOpen host
    → Proceeds number Rest o (closing_step (record { host = host; workers = k; waiting = [] }) [] c) → Proceeds number Rest (printed_before text o) (closing_step (record { host = host; workers = k; waiting = [] }) text c)
closes_behind number Rest k None text c o opened p = absurd opened
closes_behind number Rest k (Some host) text (Opens member cells workers seed) o opened p = refused_behind number Rest (record { host = Some host; workers = k; waiting = [] }) text faults.SecondBoard o p
closes_behind number Rest k (Some host) text (Acts line) o opened p = act_behind number Rest k text o host (act line host) p
closes_behind number Rest k (Some host) text (Faulty e) o opened p = refused_behind number Rest (record { host = Some host; workers = k; waiting = [] }) text e o p

opened_after : (s : RunState) (order : List DrawopValue) → IsOpen s.host → IsOpen (after_batch s order).host
opened_after s order opened = go s.host opened where
  go : (host : Option Opened) → IsOpen host → IsOpen (by_host {X = Option Opened} host None (λ h. Some (taken order h)))
  go None opened = absurd opened
  go (Some host) opened = tt

-- a line that ends a batch, after it
step_behind : (number : ℕ) (Rest : RunState → RunOutcome → Type 0) (s : RunState) (order : List DrawopValue) (c : Closing) (o : RunOutcome) → IsOpen s.host
    → Proceeds number Rest o (part_step (after_batch s order) [] (End c)) → Proceeds number Rest (printed_before (closing_text s order) o) (part_step s order (End c))
step_behind number Rest s order c o opened p =
    let t : RunState = after_batch s order in
    let here : Proceeds number Rest o (closing_step t (closing_text t []) c) = subst (λ (u : RunState). Proceeds number Rest o (closing_step u (closing_text t []) c)) (after_none t refl) p in
    closes_behind number Rest s.workers t.host (closing_text s order) c o (opened_after s order opened) (subst (λ (text : List ℕ). Proceeds number Rest o (closing_step t text c)) (no_text t.host) here)

-- No arrival follows: there is no line that is taken, or it ends the batch.
abbrev EndsAt : Option RunFault → Part → Type 0
EndsAt (Some e) part = Unit {0}
EndsAt None (End c) = Unit {0}
EndsAt None part = ⊥

abbrev EndsBatch : Bool → ℕ → List InputLine → Type 0
EndsBatch cut n [] = Unit {0}
EndsBatch cut n (line ∷ lines) = EndsAt (fault_at cut n line) (part_in line)

continues_behind : (fault : Option RunFault) (part : Part) (number : ℕ) (Rest : RunState → RunOutcome → Type 0) (s : RunState) (order : List DrawopValue) (bytes : List ℕ) (o : RunOutcome) → part_of (script_line_of bytes) ≡ part → IsOpen s.host → MayBeTaken s.workers s.waiting order → EndsAt fault part
    → Continues fault number (after_batch s order) bytes Rest o → Continues fault number s bytes Rest (printed_before (closing_text s order) o)
continues_behind (Some e) part number Rest s order bytes o is opened may ends p = finish_behind s order (Err e) o may p
continues_behind None (End c) number Rest s order bytes o is opened may ends p =
    let nothing : p.0 ≡ [] = none_taken s.workers p.0 p.1 in
    let here : Proceeds number Rest o (part_step (after_batch s order) [] (End c)) =
    subst (λ (x : Part). Proceeds number Rest o (part_step (after_batch s order) [] x)) is (subst (λ (l : List DrawopValue). Proceeds number Rest o (part_step (after_batch s order) l (part_of (script_line_of bytes)))) nothing p.2) in
    (order, may, subst (λ (x : Part). Proceeds number Rest (printed_before (closing_text s order) o) (part_step s order x)) (sym is) (step_behind number Rest s order c o opened here))
continues_behind None (Arrival d) number Rest s order bytes o is opened may ends p = absurd ends
continues_behind None Nothing number Rest s order bytes o is opened may ends p = absurd ends

early_end : (cut : Bool) (n : ℕ) (s : RunState) (order : List DrawopValue) (lines : List InputLine) (o : RunOutcome) → IsOpen s.host → MayBeTaken s.workers s.waiting order → EndsBatch cut n lines
    → IsOutcomeFrom cut n (after_batch s order) lines o → IsOutcomeFrom cut n s lines (printed_before (closing_text s order) o)
early_end cut n s order [] o opened may ends p = finish_behind s order (if cut then Err run_faults.Read else Ok n) o may p
early_end cut n s order (line ∷ lines) o opened may ends p =
    continues_behind (fault_at cut n line) (part_in line) (n + 1) (λ t next. IsOutcomeFrom cut (n + 1) t lines next) s order (content line) o refl opened may ends p

-- ---- one step

shown_before : (text : List ℕ) (o : LinesOutcome LineFault) (t : RunState) → shown (text_before text o) t ≡ printed_before text (shown o t)
shown_before text (writes rest end) t = refl

-- No arrivals wait after it, and a refusal prints no batch.
abbrev Settles : RunStep → Type 0
Settles (moves_on u text) = u.waiting ≡ []
Settles (refused u text e) = closing_text u u.waiting ≡ []

settles_part : (s : RunState) (order : List DrawopValue) (part : Part) → s.waiting ≡ [] → (is_arrival part ≡ true → s.host ≡ None) → Settles (part_step s order part)
settles_part s order (Arrival d) none closed_host = go s.host (closed_host refl) where
  go : (host : Option Opened) → host ≡ None → Settles (by_host host (refused s [] faults.NoBoard) (λ h. moves_on (record { host = s.host; workers = s.workers; waiting = s.waiting ++ d ∷ [] }) []))
  go None e = text_none s none
  go (Some host) e = absurd cc
settles_part s order Nothing none closed_host = none
settles_part s order (End c) none closed_host = go (after_batch s order).host c where
  at : (k : Option ℕ) (host : Option Opened) → RunState
  at k host = record { host = host; workers = k; waiting = [] }

  by_act : (k : Option ℕ) (text : List ℕ) (host : Opened) (a : Act) → Settles (step_by k text a host)
  by_act k text host (does next printed) = refl
  by_act k text host (fails e) = refl

  go : (host : Option Opened) (c : Closing) → Settles (closing_step (record { host = host; workers = s.workers; waiting = [] }) (closing_text s order) c)
  go None (Opens member cells workers seed) = refl
  go None (Acts line) = refl
  go None (Faulty e) = refl
  go (Some host) (Opens member cells workers seed) = refl
  go (Some host) (Acts line) = by_act s.workers (closing_text s order) host (act line host)
  go (Some host) (Faulty e) = refl

-- What may come of a step of the driver may come of that of the script.
proceeds : (number : ℕ) (A : RunState → LinesOutcome LineFault → RunState → Type 0) (B : RunState → RunOutcome → Type 0) (step : RunStep) (o : LinesOutcome LineFault) (t : RunState) → Settles step
    → ((u : RunState) (p : LinesOutcome LineFault) (v : RunState) → u.waiting ≡ [] → A u p v → B u (shown p v)) → StepProceeds number (as_step step) A o t → Proceeds number B (shown o t) step
proceeds number A B (moves_on u text) o t settled on p = (shown p.0 t, on u p.0 t settled p.1, ap (λ (x : LinesOutcome LineFault). shown x t) p.2 ∙ shown_before text p.0 t)
proceeds number A B (refused u text e) o t settled on p = (
  finish u u.waiting (Err (run_faults.Line number e)),
  (u.waiting, as_it_came u.workers u.waiting, refl),
  ap (λ (x : LinesOutcome LineFault). shown x t) p ∙ ap (λ (y : List ℕ). prints (text ++ y) (Err (run_faults.Line number e))) (sym settled),
)

-- ---- which line is taken

-- an end that comes of an entry
abbrev fault_by : LineEntry → Option RunFault
fault_by short = None
fault_by (long passed) = Some run_faults.Endless
fault_by (ends_as unreadable) = Some run_faults.Read
fault_by (ends_as end) = Some run_faults.Endless

fault_entry : (cut : Bool) (n : ℕ) (line : InputLine) → fault_at cut n line ≡ fault_by (entry most_lines cut n line)
fault_entry cut n line = go (nat_lt n most_lines) (is_short line) (line.ended || not cut) (is_passed line) where
  go : (a b c p : Bool) → (if a && b then (if c then None else Some run_faults.Read) else Some run_faults.Endless) ≡ fault_by (if a then (if b then (if c then short else ends_as unreadable) else long p) else ends_as endless)
  go true true true p = refl
  go true true false p = refl
  go true false c p = refl
  go false b c p = refl

never_finished : (cut : Bool) (n k : ℕ) (line : InputLine) → entry most_lines cut n line ≡ ends_as (finished k) → ⊥
never_finished cut n k line = go (nat_lt n most_lines) (is_short line) (line.ended || not cut) (is_passed line) where
  go : (a b c p : Bool) → (if a then (if b then (if c then short else ends_as unreadable) else long p) else ends_as endless) ≡ ends_as (finished k) → ⊥
  go true true true p e = absurd cc
  go true true false p e = absurd cc
  go true false c p e = absurd cc
  go false b c p e = absurd cc

by_fault : (cut : Bool) (n : ℕ) (s : RunState) (line : InputLine) (lines : List InputLine) (e : LineEntry) (o : RunOutcome) → entry most_lines cut n line ≡ e
    → Continues (fault_by e) (n + 1) s (content line) (λ t next. IsOutcomeFrom cut (n + 1) t lines next) o → IsOutcomeFrom cut n s (line ∷ lines) o
by_fault cut n s line lines e o is h = subst (λ (f : Option RunFault). Continues f (n + 1) s (content line) (λ t next. IsOutcomeFrom cut (n + 1) t lines next) o) (sym (fault_entry cut n line ∙ ap fault_by is)) h

-- the items from a line on, by its entry
items_by : (cut : Bool) (n : ℕ) (g : Option Begun) (line : InputLine) (lines : List InputLine) (e : LineEntry) → entry most_lines cut n line ≡ e
    → items_from by_batches most_lines cut n g (line ∷ lines) ≡ by_entry by_batches n g line (λ next. items_from by_batches most_lines cut (n + 1) next lines) e
items_by cut n g line lines e is = ap (by_entry by_batches n g line (λ next. items_from by_batches most_lines cut (n + 1) next lines)) is

-- ---- line after line

abbrev Of : Items → RunState → LinesOutcome LineFault → RunState → Type 0
Of is s o t = IsOutcomeOf may_take is s o t

-- What comes of the items of these lines is an outcome of them: where no batch is begun, and where one is, which waits.
record Bridges (cut : Bool) (lines : List InputLine) : Type 0 where
  none : (n : ℕ) (s : RunState) (o : LinesOutcome LineFault) (t : RunState) → s.waiting ≡ [] → Of (items_from by_batches most_lines cut n None lines) s o t → IsOutcomeFrom cut n s lines (shown o t)
  begun : (n : ℕ) (s : RunState) (g : Begun) (d : DrawopValue) (o : LinesOutcome LineFault) (t : RunState) → s.waiting ≡ [] → IsOpen s.host → part_in g.first ≡ Arrival d
      → Of (items_from by_batches most_lines cut n (Some g) lines) s o t → IsOutcomeFrom cut n (with_more s (d ∷ arrivals_of g.joined)) lines (shown o t)

-- a batch was taken, where an arrival begins one
batch_done : (s : RunState) (g : Begun) (d : DrawopValue) (step : LineStep RunState LineFault) → IsOpen s.host → part_in g.first ≡ Arrival d → may_take s g.number (whole g.first) g.joined step → MayTakeBatch s (d ∷ arrivals_of g.joined) step
batch_done s g d step opened is may = go s.host opened (subst (λ (part : Part). may_take_at s s.host part g.joined step) is may) where
  go : (host : Option Opened) → IsOpen host → may_take_at s host (Arrival d) g.joined step → MayTakeBatch s (d ∷ arrivals_of g.joined) step
  go None opened m = absurd opened
  go (Some host) opened m = m

-- where the batch ends before these lines
batch_behind : (cut : Bool) (n : ℕ) (s : RunState) (g : Begun) (d : DrawopValue) (rest : Items) (lines : List InputLine) (o : LinesOutcome LineFault) (t : RunState) → IsOpen s.host → part_in g.first ≡ Arrival d → EndsBatch cut n lines
    → ((u : RunState) (p : LinesOutcome LineFault) (v : RunState) → u.waiting ≡ [] → Of rest u p v → IsOutcomeFrom cut n u lines (shown p v))
    → Of (group g.number (whole g.first) g.joined rest) s o t → IsOutcomeFrom cut n (with_more s (d ∷ arrivals_of g.joined)) lines (shown o t)
batch_behind cut n s g d rest lines o t opened is ends_here on of =
    let m : RunState = with_more s (d ∷ arrivals_of g.joined) in
    let may = batch_done s g d of.0 opened is of.1 in
    let order = may.0 in
    let p = subst (λ (step : LineStep RunState LineFault). StepProceeds g.number step (λ next. Of rest next) o t) may.2 of.2 in
    let after = on (after_batch m order) p.0 t refl p.1 in
    subst (IsOutcomeFrom cut n m lines) (sym (ap (λ (x : LinesOutcome LineFault). shown x t) p.2 ∙ shown_before (closing_text m order) p.0 t))
    (early_end cut n m order lines (shown p.0 t) opened may.1 ends_here after)

bridges_end : (cut : Bool) (n : ℕ) (s : RunState) (o : LinesOutcome LineFault) (t : RunState) → s.waiting ≡ [] → Of (over (if cut then unreadable else finished n)) s o t → IsOutcomeFrom cut n s [] (shown o t)
bridges_end true n s o t none of = subst (Finishes s (Err run_faults.Read)) (sym (ap (λ (x : LinesOutcome LineFault). shown x t) of.0)) (finishes_none s (Err run_faults.Read) none)
bridges_end false n s o t none of =
    subst (Finishes s (Ok n)) (sym (ap (λ (x : LinesOutcome LineFault). shown x t) of.0 ∙ ap (λ (u : RunState). prints [] (run_answer u (Ok n))) of.1)) (finishes_none s (Ok n) none)

bridges_nil : (cut : Bool) → Bridges cut []
bridges_nil cut = record {
  none = λ n s o t none of. bridges_end cut n s o t none of;
  begun = λ n s g d o t none opened is of. batch_behind cut n s g d (over (if cut then unreadable else finished n)) [] o t opened is tt (λ u p v e h. bridges_end cut n u p v e h) of;
}

-- a line that begins a batch, or none
begins_line : (cut : Bool) (n : ℕ) (line : InputLine) (lines : List InputLine) (s : RunState) (o : LinesOutcome LineFault) (t : RunState) → Bridges cut lines → s.waiting ≡ []
    → Of (items_from by_batches most_lines cut (n + 1) (Some (begin (n + 1) line)) lines) s o t → Continues None (n + 1) s (content line) (λ u next. IsOutcomeFrom cut (n + 1) u lines next) (shown o t)
begins_line cut n line lines s o t ih none of = at s.host (part_in line) refl refl where
  Rest : RunState → RunOutcome → Type 0
  Rest u next = IsOutcomeFrom cut (n + 1) u lines next

  done : (rest : Items) (joined : List InputLine) (part : Part) → part_in line ≡ part → (is_arrival part ≡ true → s.host ≡ None) → ((u : RunState) (p : LinesOutcome LineFault) (v : RunState) → u.waiting ≡ [] → Of rest u p v → Rest u (shown p v))
      → (step : LineStep RunState LineFault) → MayDo s part step → StepProceeds (n + 1) step (λ next. Of rest next) o t → Continues None (n + 1) s (content line) Rest (shown o t)
  done rest joined part is closed_host on step may p = (
    may.0,
    may.1,
    subst (λ (x : Part). Proceeds (n + 1) Rest (shown o t) (part_step s may.0 x)) (sym is)
        (proceeds (n + 1) (λ next. Of rest next) Rest (part_step s may.0 part) o t (settles_part s may.0 part none closed_host) on (subst (λ (x : LineStep RunState LineFault). StepProceeds (n + 1) x (λ next. Of rest next) o t) may.2 p)),
  )

  -- it is alone
  alone : (part : Part) → part_in line ≡ part → is_arrival part ≡ false → ((joined : List InputLine) (step : LineStep RunState LineFault) → may_take_at s s.host part joined step → MayDo s part step) → Continues None (n + 1) s (content line) Rest (shown o t)
  alone part is apart plain =
      let parts = parted by_batches most_lines (n + 1) cut (begin (n + 1) line) lines (first_parts by_batches (begin (n + 1) line) lines (ap is_arrival is ∙ apart)) in
      let of' = subst (λ (x : Items). Of x s o t) parts of in
      done (items_from by_batches most_lines cut (n + 1) None lines) [] part is (λ e. absurd (false≢true (sym apart ∙ e))) (λ u p v w h. ih.none (n + 1) u p v w h) of'.0
      (plain [] of'.0 (subst (λ (x : Part). may_take_at s s.host x [] of'.0) is of'.1)) of'.2

  plain_host : (host : Option Opened) (part : Part) (joined : List InputLine) (step : LineStep RunState LineFault) → is_arrival part ≡ false → may_take_at s host part joined step → MayDo s part step
  plain_host None part joined step e may = may
  plain_host (Some host) Nothing joined step e may = may
  plain_host (Some host) (End c) joined step e may = may
  plain_host (Some host) (Arrival d) joined step e may = absurd (true≢false e)

  -- no board is open
  refuses : (d : DrawopValue) → s.host ≡ None → part_in line ≡ Arrival d → Continues None (n + 1) s (content line) Rest (shown o t)
  refuses d closed_host is =
      let any = any_group by_batches most_lines (n + 1) cut (begin (n + 1) line) lines in
      let of' = subst (λ (x : Items). Of x s o t) any.same of in
      let may : MayDo s (Arrival d) of'.0 = subst (λ (h : Option Opened). may_take_at s h (Arrival d) any.joined of'.0) closed_host (subst (λ (x : Part). may_take_at s s.host x any.joined of'.0) is of'.1) in
      let step : part_step s may.0 (Arrival d) ≡ refused s [] faults.NoBoard = ap (λ (h : Option Opened). by_host h (refused s [] faults.NoBoard) (λ h. moves_on (record { host = s.host; workers = s.workers; waiting = s.waiting ++ d ∷ [] }) [])) closed_host in
      let p = subst (λ (x : LineStep RunState LineFault). StepProceeds (n + 1) x (λ next. Of any.rest next) o t) (may.2 ∙ ap as_step step) of'.2 in (
        may.0,
        may.1,
        subst (λ (x : Part). Proceeds (n + 1) Rest (shown o t) (part_step s may.0 x)) (sym is)
            (subst (λ (x : RunStep). Proceeds (n + 1) Rest (shown o t) x) (sym step)
            (proceeds (n + 1) (λ next u v. ⊥) Rest (refused s [] faults.NoBoard) o t (text_none s none) (λ u p v w h. absurd h) p)),
      )

  -- a batch begins
  begins : (host : Opened) (d : DrawopValue) → s.host ≡ Some host → part_in line ≡ Arrival d → Continues None (n + 1) s (content line) Rest (shown o t)
  begins host d there is =
      let opened : IsOpen s.host = subst IsOpen (sym there) tt in
      let on = ih.begun (n + 1) s (begin (n + 1) line) d o t none opened is of in
      let step : part_step s s.waiting (Arrival d) ≡ moves_on (with_more s (d ∷ [])) [] = ap (λ (h : Option Opened). by_host h (refused s [] faults.NoBoard) (λ h. moves_on (record { host = s.host; workers = s.workers; waiting = s.waiting ++ d ∷ [] }) [])) there in (
        s.waiting,
        as_it_came s.workers s.waiting,
        subst (λ (x : Part). Proceeds (n + 1) Rest (shown o t) (part_step s s.waiting x)) (sym is)
            (subst (λ (x : RunStep). Proceeds (n + 1) Rest (shown o t) x) (sym step) (shown o t, on, sym (before-nil (shown o t)))),
      )

  at : (host : Option Opened) (part : Part) → s.host ≡ host → part_in line ≡ part → Continues None (n + 1) s (content line) Rest (shown o t)
  at host Nothing there is = alone Nothing is refl (λ joined step may. plain_host s.host Nothing joined step refl may)
  at host (End c) there is = alone (End c) is refl (λ joined step may. plain_host s.host (End c) joined step refl may)
  at None (Arrival d) there is = refuses d there is
  at (Some host) (Arrival d) there is = begins host d there is

-- where no batch is begun
none_line : (cut : Bool) (line : InputLine) (lines : List InputLine) → Bridges cut lines → (n : ℕ) (s : RunState) (o : LinesOutcome LineFault) (t : RunState) → s.waiting ≡ []
    → Of (items_from by_batches most_lines cut n None (line ∷ lines)) s o t → IsOutcomeFrom cut n s (line ∷ lines) (shown o t)
none_line cut line lines ih n s o t none of = at (entry most_lines cut n line) refl where
  Here : LineEntry → Type 0
  Here e = Of (by_entry by_batches n None line (λ next. items_from by_batches most_lines cut (n + 1) next lines) e) s o t

  stops_so : (end : DriveFault LineFault) (f : RunFault) → run_answer t (Err f) ≡ Err f → o ≡ stop (Err end) → shown (stop (Err end)) t ≡ prints [] (run_answer t (Err f)) → Finishes s (Err f) (shown o t)
  stops_so end f e is same = subst (Finishes s (Err f)) (sym (ap (λ (x : LinesOutcome LineFault). shown x t) is ∙ same)) (finishes_none s (Err f) none)

  at : (e : LineEntry) → entry most_lines cut n line ≡ e → IsOutcomeFrom cut n s (line ∷ lines) (shown o t)
  at short is = by_fault cut n s line lines short (shown o t) is (begins_line cut n line lines s o t ih none (subst (λ (x : Items). Of x s o t) (items_by cut n None line lines short is) of))
  at (long passed) is =
      let h : Here (long passed) = subst (λ (x : Items). Of x s o t) (items_by cut n None line lines (long passed) is) of in
      let p = subst (λ (x : LineStep RunState LineFault). StepProceeds (n + 1) x (λ next. Of (if passed then items_from by_batches most_lines cut (n + 1) None lines else over endless) next) o t) h.1 h.2 in
      by_fault cut n s line lines (long passed) (shown o t) is (stops_so drive_faults.Endless run_faults.Endless refl p refl)
  at (ends_as unreadable) is =
      let h : Here (ends_as unreadable) = subst (λ (x : Items). Of x s o t) (items_by cut n None line lines (ends_as unreadable) is) of in
      by_fault cut n s line lines (ends_as unreadable) (shown o t) is (stops_so drive_faults.Read run_faults.Read refl h.0 refl)
  at (ends_as endless) is =
      let h : Here (ends_as endless) = subst (λ (x : Items). Of x s o t) (items_by cut n None line lines (ends_as endless) is) of in
      by_fault cut n s line lines (ends_as endless) (shown o t) is (stops_so drive_faults.Endless run_faults.Endless refl h.0 refl)
  at (ends_as (finished k)) is = absurd (never_finished cut n k line is)

-- ---- a line after a batch

arrivals_more : (js : List InputLine) (line : InputLine) → arrivals_of (js ++ line ∷ []) ≡ arrivals_of js ++ arrived_by (part_in line)
arrivals_more [] line = append-nil (arrived_by (part_in line))
arrivals_more (j ∷ js) line = ap (λ (l : List DrawopValue). arrived_by (part_in j) ++ l) (arrivals_more js line) ∙ sym (append_assoc (arrived_by (part_in j)) (arrivals_of js) (arrived_by (part_in line)))

more_more : (s : RunState) (a b : List DrawopValue) → with_more s (a ++ b) ≡ with_more (with_more s a) b
more_more s a b = ap (λ (w : List DrawopValue). let u : RunState = record { host = s.host; workers = s.workers; waiting = w } in u) (sym (append_assoc s.waiting a b))

ends_at : (cut : Bool) (n : ℕ) (line : InputLine) (lines : List InputLine) (f : Option RunFault) (part : Part) → fault_at cut n line ≡ f → part_in line ≡ part → EndsAt f part → EndsBatch cut n (line ∷ lines)
ends_at cut n line lines f part e is ends_here = subst (λ (x : Option RunFault). EndsAt x (part_in line)) (sym e) (subst (EndsAt f) (sym is) ends_here)

begun_line : (cut : Bool) (line : InputLine) (lines : List InputLine) → Bridges cut lines → (n : ℕ) (s : RunState) (g : Begun) (d : DrawopValue) (o : LinesOutcome LineFault) (t : RunState) → s.waiting ≡ [] → IsOpen s.host → part_in g.first ≡ Arrival d
    → Of (items_from by_batches most_lines cut n (Some g) (line ∷ lines)) s o t → IsOutcomeFrom cut n (with_more s (d ∷ arrivals_of g.joined)) (line ∷ lines) (shown o t)
begun_line cut line lines ih n s g d o t none opened first of = at (entry most_lines cut n line) refl where
  m : RunState
  m = with_more s (d ∷ arrivals_of g.joined)

  Rest : RunState → RunOutcome → Type 0
  Rest u next = IsOutcomeFrom cut (n + 1) u lines next

  -- it ends the batch
  ended : (e : LineEntry) → entry most_lines cut n line ≡ e → EndsBatch cut n (line ∷ lines)
      → by_entry by_batches n (Some g) line (λ next. items_from by_batches most_lines cut (n + 1) next lines) e ≡ group g.number (whole g.first) g.joined (by_entry by_batches n None line (λ next. items_from by_batches most_lines cut (n + 1) next lines) e)
      → IsOutcomeFrom cut n m (line ∷ lines) (shown o t)
  ended e is ends_here same =
      let h = subst (λ (x : Items). Of x s o t) (items_by cut n (Some g) line lines e is ∙ same ∙ ap (group g.number (whole g.first) g.joined) (sym (items_by cut n None line lines e is))) of in
      batch_behind cut n s g d (items_from by_batches most_lines cut n None (line ∷ lines)) (line ∷ lines) o t opened first ends_here (λ u p v w h. none_line cut line lines ih n u p v w h) h

  -- it joins it
  joined_on : (part : Part) → part_in line ≡ part → joins_batch part ≡ true → entry most_lines cut n line ≡ short → Of (items_from by_batches most_lines cut (n + 1) (Some (grown g line)) lines) s o t
  joined_on part is joins e =
      let here = subst (λ (x : Items). Of x s o t) (items_by cut n (Some g) line lines short e) of in
      let gathers : (by_batches.gathers g.first && by_batches.joins line) ≡ true = ap (λ (p : Part). is_arrival p && joins_batch (part_in line)) first ∙ ap joins_batch is ∙ joins in
      subst (λ (x : Items). Of x s o t)
      (ap (λ (b : Bool). if b then items_from by_batches most_lines cut (n + 1) (Some (grown g line)) lines else closed_group (Some g) (items_from by_batches most_lines cut (n + 1) (Some (begin (n + 1) line)) lines)) gathers) here

  after : (part : Part) → part_in line ≡ part → joins_batch part ≡ true → entry most_lines cut n line ≡ short → Rest (with_more m (arrived_by part)) (shown o t)
  after part is joins e =
      let on = ih.begun (n + 1) s (grown g line) d o t none opened first (joined_on part is joins e) in
      let waits : d ∷ arrivals_of (g.joined ++ line ∷ []) ≡ (d ∷ arrivals_of g.joined) ++ arrived_by part = ap (λ (l : List DrawopValue). d ∷ l) (arrivals_more g.joined line ∙ ap (λ (p : Part). arrivals_of g.joined ++ arrived_by p) is) in
      subst (λ (u : RunState). Rest u (shown o t)) (ap (with_more s) waits ∙ more_more s (d ∷ arrivals_of g.joined) (arrived_by part)) on

  goes_to : (part : Part) (u : RunState) → part_in line ≡ part → part_step m m.waiting part ≡ moves_on u [] → Rest u (shown o t) → Continues None (n + 1) m (content line) Rest (shown o t)
  goes_to part u is step on = (
    m.waiting,
    as_it_came m.workers m.waiting,
    subst (λ (x : Part). Proceeds (n + 1) Rest (shown o t) (part_step m m.waiting x)) (sym is)
        (subst (λ (x : RunStep). Proceeds (n + 1) Rest (shown o t) x) (sym step) (shown o t, on, sym (before-nil (shown o t)))),
  )

  arrives : (d' : DrawopValue) (host : Option Opened) → s.host ≡ host → IsOpen host → part_step m m.waiting (Arrival d') ≡ moves_on (with_more m (d' ∷ [])) []
  arrives d' None there is_open = absurd is_open
  arrives d' (Some host) there is_open = ap (λ (h : Option Opened). by_host h (refused m [] faults.NoBoard) (λ h. moves_on (record { host = m.host; workers = m.workers; waiting = m.waiting ++ d' ∷ [] }) [])) there

  taken_line : (part : Part) → part_in line ≡ part → entry most_lines cut n line ≡ short → IsOutcomeFrom cut n m (line ∷ lines) (shown o t)
  taken_line (Arrival d') is e = by_fault cut n m line lines short (shown o t) e (goes_to (Arrival d') (with_more m (d' ∷ [])) is (arrives d' s.host refl opened) (after (Arrival d') is refl e))
  taken_line Nothing is e =
      by_fault cut n m line lines short (shown o t) e
      (goes_to Nothing m is refl (subst (λ (u : RunState). Rest u (shown o t)) (ap (λ (w : List DrawopValue). let u : RunState = record { host = s.host; workers = s.workers; waiting = w } in u) (append-nil m.waiting)) (after Nothing is refl e)))
  taken_line (End c) is e =
      let apart : (by_batches.gathers g.first && by_batches.joins line) ≡ false = ap (λ (p : Part). is_arrival p && joins_batch (part_in line)) first ∙ ap joins_batch is in
      ended short e (ends_at cut n line lines None (End c) (fault_entry cut n line ∙ ap fault_by e) is tt)
      (ap (λ (b : Bool). if b then items_from by_batches most_lines cut (n + 1) (Some (grown g line)) lines else closed_group (Some g) (items_from by_batches most_lines cut (n + 1) (Some (begin (n + 1) line)) lines)) apart)

  at : (e : LineEntry) → entry most_lines cut n line ≡ e → IsOutcomeFrom cut n m (line ∷ lines) (shown o t)
  at short e = taken_line (part_in line) refl e
  at (long passed) e = ended (long passed) e (ends_at cut n line lines (Some run_faults.Endless) (part_in line) (fault_entry cut n line ∙ ap fault_by e) refl tt) refl
  at (ends_as unreadable) e = ended (ends_as unreadable) e (ends_at cut n line lines (Some run_faults.Read) (part_in line) (fault_entry cut n line ∙ ap fault_by e) refl tt) refl
  at (ends_as endless) e = ended (ends_as endless) e (ends_at cut n line lines (Some run_faults.Endless) (part_in line) (fault_entry cut n line ∙ ap fault_by e) refl tt) refl
  at (ends_as (finished k)) e = absurd (never_finished cut n k line e)

bridges : (cut : Bool) (lines : List InputLine) → Bridges cut lines
bridges cut [] = bridges_nil cut
bridges cut (line ∷ lines) =
    let ih = bridges cut lines in
    record {
      none = λ n s o t none of. none_line cut line lines ih n s o t none of;
      begun = λ n s g d o t none opened first of. begun_line cut line lines ih n s g d o t none opened first of;
    }

-- What comes of the batches of a script is an outcome of it.
pub batches_are_outcomes : (cut : Bool) (s : RunState) (lines : List InputLine) (o : LinesOutcome LineFault) (t : RunState) → s.waiting ≡ [] → IsOutcomeOf may_take (items_from by_batches most_lines cut 0 None lines) s o t → IsOutcomeFrom cut 0 s lines (shown o t)
batches_are_outcomes cut s lines o t none of = (bridges cut lines).none 0 s o t none of
