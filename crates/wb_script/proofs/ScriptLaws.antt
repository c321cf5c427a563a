-- What whole lines print, whatever follows them.
use Rattle.std.proofs.Common.{◌≡◌, ℕ, ◌+◌, ◌<◌, Bool, true, false, cond, List, [], ◌∷◌, ◌++◌, length, Result, Ok, Err, inl, inr, ⊎_elim, ◌⊎◌, refl, sym, ap, subst, ◌∙◌, arith, Option, Some, None, nat_eq, nat_le, nat_lt, ◌&&◌, unwrap_or, true≢false, append-nil, length-append}
use Rattle.std.specs.Str.Lines.{strip_carriage_return}
use Rattle.wb_commands.specs.declared.fault.LineFault.{LineFault}
use Rattle.wb_script.specs.declared.fault.RunFault.{RunFault}
use Rattle.wb_script.specs.declared.fault.RunFault.TheVariants as run_faults
use Rattle.wb_commands.specs.declared.command.Command.{Command}
use Rattle.wb_commands.specs.declared.command.Command.TheVariants.{Skip}
use Rattle.wb_script.specs.declared.running.Summary.{Summary}
use Rattle.wb_lines.specs.Ahead.{IsLine}
use Rattle.wb_member.specs.Opened.{Opened}
use Rattle.wb_script.specs.Hosts.{script_host}
use Rattle.wb_commands.specs.Acts.{Act, does, fails, act}
use Rattle.wb_commands.specs.Parsing.{script_line_of}
use Rattle.wb_script.specs.Script.{Begins, RunState, run_start, closing_text, after_batch, Closing, Opens, Acts, Part, Arrival, Nothing, End, part_of, part_in, RunStep, moves_on, refused, step_by, closing_step, part_step, step_of, RunOutcome, prints, printed_before, run_answer, finish, follow_step, continue, most_lines, run_outcome_from, run_outcome}
use Rattle.wb_lines.specs.Input.{InputLine, onto_first, input_lines, content, most_bytes}
use Rattle.wb_script.specs.ScriptLaws.{EachEnds, waits_after, waits_at_end, outcome_text, RefusedScriptStays, PrintedStays, SkippedPrintsNothing}
use Rattle.wb_lines.proofs.Outcomes.{few_lines}
use Rattle.wb_lines.proofs.InputLines.{input_lines-whole, whole_line, fits}
use Rattle.wb_script.proofs.Outcomes.{before-nil, before-before, too_many, text_of as same_text, end_of}

-- ---- whole lines, and what follows them

onto_whole : (b : ℕ) (lines rest : List InputLine) → EachEnds (onto_first b lines) → onto_first b (lines ++ rest) ≡ onto_first b lines ++ rest
onto_whole b [] rest all = absurd (true≢false (sym all.0))
onto_whole b (line ∷ lines) rest all = refl

onto_ends : (b : ℕ) (lines : List InputLine) → EachEnds (onto_first b lines) → EachEnds lines
onto_ends b [] all = tt
onto_ends b (line ∷ lines) all = (all.0, all.1)

pub input_lines-after : (front more : List ℕ) → EachEnds (input_lines front) → input_lines (front ++ more) ≡ input_lines front ++ input_lines more
input_lines-after [] more all = refl
input_lines-after (b ∷ front) more all = at (nat_eq b 10) all (input_lines-after front more) where
  at : (feed : Bool) → EachEnds (cond feed (record { bytes = []; ended = true } ∷ input_lines front) (onto_first b (input_lines front)))
      → (EachEnds (input_lines front) → input_lines (front ++ more) ≡ input_lines front ++ input_lines more)
      → cond feed (record { bytes = []; ended = true } ∷ input_lines (front ++ more)) (onto_first b (input_lines (front ++ more)))
      ≡ cond feed (record { bytes = []; ended = true } ∷ input_lines front) (onto_first b (input_lines front)) ++ input_lines more
  at true ends rest = ap (λ (l : List InputLine). record { bytes = []; ended = true } ∷ l) (rest ends.1)
  at false ends rest = ap (onto_first b) (rest (onto_ends b (input_lines front) ends)) ∙ onto_whole b (input_lines front) (input_lines more) ends

-- ---- a step, and whether arrivals wait after it

pub state_of : (s t : RunState) (x y : List ℕ) → moves_on s x ≡ moves_on t y → s ≡ t
state_of s t x y e = cc

-- what the end of the present batch prints, taken as it came
abbrev pub closing : RunState → List ℕ
closing s = closing_text s s.waiting

-- nothing waits after a line that ended the batch
quiet_act : (k : Option ℕ) (text : List ℕ) (a : Act) (host : Opened) (t : RunState) (y : List ℕ) → step_by k text a host ≡ moves_on t y → closing t ≡ []
quiet_act k text (does next printed) host t y e = let u : RunState = record { host = Some next; workers = k; waiting = [] } in ap closing (sym (state_of u t (text ++ printed) y e))
quiet_act k text (fails f) host t y e = absurd cc

-- by the host
quiet_after : (k : Option ℕ) (host : Option Opened) (text : List ℕ) (c : Closing) (t : RunState) (y : List ℕ) → closing_step (record { host = host; workers = k; waiting = [] }) text c ≡ moves_on t y → closing t ≡ []
quiet_after k None text (Opens member cells workers seed) t y e = let u : RunState = record { host = Some (script_host member cells seed); workers = Some (unwrap_or k workers); waiting = [] } in ap closing (sym (state_of u t text y e))
quiet_after k (Some host) text (Acts line) t y e = quiet_act k text (act line host) host t y e
quiet_after k host text c t y e = absurd cc

quiet_line : (s t : RunState) (part : Part) (y : List ℕ) (waits : Bool) → (waits ≡ false → closing s ≡ []) → part_step s s.waiting part ≡ moves_on t y → waits_after waits part ≡ false → closing t ≡ []
quiet_line s t Nothing y waits quiet e calm = ap closing (sym (state_of s t [] y e)) ∙ quiet calm
quiet_line s t (Arrival d) y waits quiet e calm = absurd (true≢false calm)
quiet_line s t (End c) y waits quiet e calm = quiet_after s.workers (after_batch s s.waiting).host (closing s) c t y e

-- ---- the course of whole lines: they are run through, or end with a fault, whatever follows

record GoesOn (n : ℕ) (s : RunState) (waits : Bool) (lines : List InputLine) : Type 0 where
  done : ℕ
  count : done ≡ n + length lines
  state : RunState
  written : List ℕ
  on : (cut : Bool) (more : List InputLine) → run_outcome_from cut n s (lines ++ more) ≡ printed_before written (run_outcome_from cut done state more)
  quiet : waits_at_end waits lines ≡ false → closing state ≡ []

record EndsWithin (n : ℕ) (s : RunState) (lines : List InputLine) : Type 0 where
  last : RunState
  fault : RunFault
  written : List ℕ
  is : (cut : Bool) (more : List InputLine) → run_outcome_from cut n s (lines ++ more) ≡ printed_before written (finish last last.waiting (Err fault))

abbrev Course : ℕ → RunState → Bool → List InputLine → Type 0
Course n s waits lines = GoesOn n s waits lines ⊎ EndsWithin n s lines

abbrev pub fit : ℕ → InputLine → Bool
fit n line = nat_lt n most_lines && nat_le (length line.bytes) most_bytes

pub one_line : (cut : Bool) (n : ℕ) (s : RunState) (line : InputLine) (more : List InputLine) → line.ended ≡ true → fit n line ≡ true
    → run_outcome_from cut n s (line ∷ more) ≡ follow_step (n + 1) (step_of s s.waiting (content line)) (λ t. run_outcome_from cut (n + 1) t more)
one_line cut n s line more ended e = rw (e, ended) refl

-- a line that is taken, before the course of the others
course_after : (n : ℕ) (s t : RunState) (text : List ℕ) (waits waits' : Bool) (line : InputLine) (lines : List InputLine)
    → ((cut : Bool) (more : List InputLine) → run_outcome_from cut n s (line ∷ more) ≡ printed_before text (run_outcome_from cut (n + 1) t more))
    → waits_at_end waits (line ∷ lines) ≡ waits_at_end waits' lines → Course (n + 1) t waits' lines → Course n s waits (line ∷ lines)
course_after n s t text waits waits' line lines first same (inl g) = inl (record {
  done = g.done;
  count = omega (arith, g.count);
  state = g.state;
  written = text ++ g.written;
  on = λ cut more. first cut (lines ++ more) ∙ ap (printed_before text) (g.on cut more) ∙ before-before text g.written (run_outcome_from cut g.done g.state more);
  quiet = λ calm. g.quiet (sym same ∙ calm);
})
course_after n s t text waits waits' line lines first same (inr g) = inr (record {
  last = g.last;
  fault = g.fault;
  written = text ++ g.written;
  is = λ cut more. first cut (lines ++ more) ∙ ap (printed_before text) (g.is cut more) ∙ before-before text g.written (finish g.last g.last.waiting (Err g.fault));
})

course_line : (n : ℕ) (s : RunState) (waits : Bool) (line : InputLine) (lines : List InputLine) (fits' : Bool) (step : RunStep) → line.ended ≡ true → fit n line ≡ fits' → step_of s s.waiting (content line) ≡ step
    → ((t : RunState) (text : List ℕ) → step_of s s.waiting (content line) ≡ moves_on t text → Course (n + 1) t (waits_after waits (part_in line)) lines) → Course n s waits (line ∷ lines)
course_line n s waits line lines false step ended e is rest = inr (record {
  last = s;
  fault = run_faults.Endless;
  written = [];
  is = λ cut more. too_many cut n s line (lines ++ more) e ∙ sym (before-nil (finish s s.waiting (Err run_faults.Endless)));
})
course_line n s waits line lines true (refused t text f) ended e is rest = inr (record {
  last = t;
  fault = run_faults.Line (n + 1) f;
  written = text;
  is = λ cut more. one_line cut n s line (lines ++ more) ended e ∙ ap (λ (step : RunStep). follow_step (n + 1) step (λ t. run_outcome_from cut (n + 1) t (lines ++ more))) is;
})
course_line n s waits line lines true (moves_on t text) ended e is rest =
    course_after n s t text waits (waits_after waits (part_in line)) line lines
    (λ cut more. one_line cut n s line more ended e ∙ ap (λ (step : RunStep). follow_step (n + 1) step (λ t. run_outcome_from cut (n + 1) t more)) is)
    refl (rest t text is)

course : (n : ℕ) (s : RunState) (waits : Bool) (lines : List InputLine) → (waits ≡ false → closing s ≡ []) → EachEnds lines → Course n s waits lines
course n s waits [] quiet all = inl (record { done = n; count = omega arith; state = s; written = []; on = λ cut more. sym (before-nil (run_outcome_from cut n s more)); quiet = quiet })
course n s waits (line ∷ lines) quiet all =
    course_line n s waits line lines (fit n line) (step_of s s.waiting (content line)) all.0 refl refl
    (λ t text is. course (n + 1) t (waits_after waits (part_in line)) lines (quiet_line s t (part_in line) text waits quiet is) all.1)

course_of : (k : Option ℕ) (front : List ℕ) → EachEnds (input_lines front) → Course 0 (run_start k) false (input_lines front)
course_of k front all = course 0 (run_start k) false (input_lines front) (λ calm. refl) all

pub split : (k : Option ℕ) (front more : List ℕ) (cut : Bool) (o : RunOutcome) → EachEnds (input_lines front) → run_outcome_from cut 0 (run_start k) (input_lines front ++ input_lines more) ≡ o → run_outcome k cut (front ++ more) ≡ o
split k front more cut o all e = ap (run_outcome_from cut 0 (run_start k)) (input_lines-after front more all) ∙ e

alone : (k : Option ℕ) (front : List ℕ) (o : RunOutcome) → run_outcome_from false 0 (run_start k) (input_lines front ++ []) ≡ o → run_outcome k false front ≡ o
alone k front o e = ap (run_outcome_from false 0 (run_start k)) (sym (append-nil (input_lines front))) ∙ e

-- ---- what was printed stays

pub ok_end : (written text : List ℕ) (s : RunState) (n : ℕ) (fault : RunFault) → printed_before written (finish s s.waiting (Ok n)) ≡ prints text (Err fault) → ⊥
ok_end written text s n fault e = let ends = end_of (written ++ closing s) text (run_answer (after_batch s s.waiting) (Ok n)) (Err fault) e in absurd cc

pub err_end : (written text : List ℕ) (s : RunState) (sum : Summary) (fault : RunFault) → printed_before written (finish s s.waiting (Err fault)) ≡ prints text (Ok sum) → ⊥
err_end written text s sum fault e = let ends = end_of (written ++ closing s) text (Err fault) (Ok sum) e in absurd cc

pub refused_stays : RefusedScriptStays
refused_stays k front more text cut fault all e = ⊎_elim
    (λ (g : GoesOn 0 (run_start k) false (input_lines front)). absurd (ok_end g.written text g.state g.done fault (sym (alone k front (printed_before g.written (finish g.state g.state.waiting (Ok g.done))) (g.on false [])) ∙ e)))
    (λ (g : EndsWithin 0 (run_start k) (input_lines front)).
    let o : RunOutcome = printed_before g.written (finish g.last g.last.waiting (Err g.fault)) in
    split k front more cut o all (g.is cut (input_lines more)) ∙ sym (alone k front o (g.is false [])) ∙ e)
    (course_of k front all)

begins_before : (o rest : RunOutcome) (written text : List ℕ) → o ≡ printed_before written rest → written ≡ text → Begins o text
begins_before o (prints t end) written text e is = subst (λ (p : RunOutcome). Begins p text) (sym e) (t, ap (λ (w : List ℕ). w ++ t) is)

pub printed_stays : PrintedStays
printed_stays k front more text cut sum all calm e = ⊎_elim
    (λ (g : GoesOn 0 (run_start k) false (input_lines front)).
    let whole : printed_before g.written (finish g.state g.state.waiting (Ok g.done)) ≡ prints text (Ok sum) = sym (alone k front (printed_before g.written (finish g.state g.state.waiting (Ok g.done))) (g.on false [])) ∙ e in
    let is : g.written ≡ text = sym (append-nil g.written) ∙ ap (λ (w : List ℕ). g.written ++ w) (sym (g.quiet calm)) ∙ same_text (g.written ++ closing g.state) text (run_answer (after_batch g.state g.state.waiting) (Ok g.done)) (Ok sum) whole in
    begins_before (run_outcome k cut (front ++ more)) (run_outcome_from cut g.done g.state (input_lines more)) g.written text
    (split k front more cut (printed_before g.written (run_outcome_from cut g.done g.state (input_lines more))) all (g.on cut (input_lines more))) is)
    (λ (g : EndsWithin 0 (run_start k) (input_lines front)). absurd (err_end g.written text g.last sum g.fault (sym (alone k front (printed_before g.written (finish g.last g.last.waiting (Err g.fault))) (g.is false [])) ∙ e)))
    (course_of k front all)

-- ---- a skipped line

text_before : (text : List ℕ) (o p : RunOutcome) → outcome_text o ≡ outcome_text p → outcome_text (printed_before text o) ≡ outcome_text (printed_before text p)
text_before text (prints t e) (prints u f) same = ap (λ (w : List ℕ). text ++ w) same

text_proceed : (n m : ℕ) (step : RunStep) (a b : RunState → RunOutcome) → ((t : RunState) → outcome_text (a t) ≡ outcome_text (b t)) → outcome_text (follow_step n step a) ≡ outcome_text (follow_step m step b)
text_proceed n m (moves_on t text) a b same = text_before text (a t) (b t) (same t)
text_proceed n m (refused t text f) a b same = refl

text_continue : (fault : Option RunFault) (n m : ℕ) (s : RunState) (bytes : List ℕ) (a b : RunState → RunOutcome) → ((t : RunState) → outcome_text (a t) ≡ outcome_text (b t)) → outcome_text (continue fault n s bytes a) ≡ outcome_text (continue fault m s bytes b)
text_continue None n m s bytes a b same = text_proceed n m (step_of s s.waiting bytes) a b same
text_continue (Some e) n m s bytes a b same = refl

-- lines print the same behind one line more
text_later : (cut : Bool) (n : ℕ) (s : RunState) (lines : List InputLine) → n + length lines < most_lines → outcome_text (run_outcome_from cut (n + 1) s lines) ≡ outcome_text (run_outcome_from cut n s lines)
text_later cut n s [] few = refl
text_later cut n s (line ∷ lines) few =
    let later : nat_lt (n + 1) most_lines ≡ true = few_lines most_lines (n + 1) (omega arith) in
    let now : nat_lt n most_lines ≡ true = few_lines most_lines n (omega arith) in
    rw (later, now) (text_continue _ (n + 1 + 1) (n + 1) s (content line) (λ t. run_outcome_from cut (n + 1 + 1) t lines) (λ t. run_outcome_from cut (n + 1) t lines) (λ t. text_later cut (n + 1) t lines (omega arith)))

-- a skipped line, and then the others
skips : (cut : Bool) (n : ℕ) (s : RunState) (line : List ℕ) (lines : List InputLine) → IsLine line → script_line_of (strip_carriage_return line) ≡ Ok Skip → n + length lines < most_lines
    → outcome_text (run_outcome_from cut n s (whole_line line ∷ lines)) ≡ outcome_text (run_outcome_from cut n s lines)
skips cut n s line lines is skip few =
    let first : run_outcome_from cut n s (whole_line line ∷ lines) ≡ follow_step (n + 1) (step_of s s.waiting (strip_carriage_return line)) (λ t. run_outcome_from cut (n + 1) t lines) =
    one_line cut n s (whole_line line) lines refl (fits most_lines n line (omega arith) is.short) in
    let none : follow_step (n + 1) (step_of s s.waiting (strip_carriage_return line)) (λ t. run_outcome_from cut (n + 1) t lines) ≡ run_outcome_from cut (n + 1) s lines =
    ap (λ (said : Result Command LineFault). follow_step (n + 1) (part_step s s.waiting (part_of said)) (λ t. run_outcome_from cut (n + 1) t lines)) skip ∙ before-nil (run_outcome_from cut (n + 1) s lines) in
    ap outcome_text (first ∙ none) ∙ text_later cut n s lines few

pub skipped_prints_nothing : SkippedPrintsNothing
skipped_prints_nothing k front line more cut all is skip few =
    let lines : List InputLine = input_lines front in
    let rest : List InputLine = input_lines more in
    let many : length (input_lines (front ++ more)) ≡ length lines + length rest = ap (λ (l : List InputLine). length l) (input_lines-after front more all) ∙ length-append lines rest in
    let longer : run_outcome k cut (front ++ (line ++ 10 ∷ more)) ≡ run_outcome_from cut 0 (run_start k) (lines ++ (whole_line line ∷ rest)) =
    split k front (line ++ 10 ∷ more) cut _ all (ap (λ (l : List InputLine). run_outcome_from cut 0 (run_start k) (lines ++ l)) (input_lines-whole line more is.no_line_feed)) in
    let shorter : run_outcome k cut (front ++ more) ≡ run_outcome_from cut 0 (run_start k) (lines ++ rest) = split k front more cut _ all refl in
    ap outcome_text longer ∙ ⊎_elim
    (λ (g : GoesOn 0 (run_start k) false lines).
    ap outcome_text (g.on cut (whole_line line ∷ rest))
    ∙ text_before g.written _ _ (skips cut g.done g.state line rest is skip (omega (arith, g.count, many, few)))
    ∙ sym (ap outcome_text (g.on cut rest)))
    (λ (g : EndsWithin 0 (run_start k) lines). ap outcome_text (g.is cut (whole_line line ∷ rest) ∙ sym (g.is cut rest)))
    (course_of k front all) ∙ sym (ap outcome_text shorter)
