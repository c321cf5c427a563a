-- From the outcome of the driver to that of a run.
use Rattle.std.proofs.Common.{◌≡◌, ℕ, ◌+◌, ◌≤◌, Bool, true, false, List, [], ◌∷◌, Result, Ok, Err, inl, inr, refl, sym, ap, subst, ◌∙◌, append-nil, nat_lt, if◌then◌else◌, ◌||◌, not, Option, Some, None, ◌&&◌}
use Rattle.wb_lines.specs.declared.fault.DriveFault.{DriveFault}
use Rattle.wb_lines.specs.declared.fault.DriveFault.TheVariants as faults
use Rattle.wb_lines.specs.Input.{InputLine, input_lines, BeginsWith}
use Rattle.wb_lines.specs.Handling.{too_long, Step as LineStep, goes as goes_on, stops as stops_at, ends}
use Rattle.wb_lines.specs.Taking.{is_short, is_passed}
use Rattle.wb_lines.specs.Items.{finished, unreadable, endless, Items, over, group, Begun, begin, grown, closed_group, short, long, none as ends_as, by_entry, items_from}
use Rattle.wb_lines.specs.Driving.{Outcome as LinesOutcome, writes, Meets as LinesMeets}
use Rattle.wb_lines.specs.Groups.{group_rules, Proceeds as StepProceeds, IsOutcomeOf, IsOutcome as IsLinesOutcome}
use Rattle.wb_lines.specs.Steps.{MeetsOne}
use Rattle.wb_commands.specs.declared.fault.LineFault.{LineFault}
use Rattle.wb_script.specs.declared.fault.RunFault.{RunFault}
use Rattle.wb_script.specs.declared.fault.RunFault.TheVariants as run_faults
use Rattle.wb_script.specs.declared.running.Summary.{Summary}
use Rattle.wb_script.specs.Checking.{check_fault, check_answer, IsCounted}
use Rattle.wb_script.specs.Script.{RunState, run_start, RunOutcome, prints, run_answer, held_count, most_lines, IsOutcome, is_run_stop, RunMeets}
use Rattle.wb_script.specs.Runs.{RunsScript}
use Rattle.wb_script.specs.Inside.Parts.{by_batches}
use Rattle.wb_script.specs.Inside.Steps.{HostValue, IsRunAt, may_take}
use Rattle.wb_script.specs.Inside.Ending.{ended_by, ended_with, shown}
use Rattle.wb_script.proofs.Batches.{batches_are_outcomes}
use Rattle.wb_script.proofs.Counted.{EndsCounted, counted_before, few_after, meets_counted}
use Rattle.wb_script.proofs.OneWorker.{one_worker_is_one_thread}
use Rattle.wb_script.proofs.ReorderedScripts.{workers_are_one_thread}

-- ---- the number of a line that stops a run

-- all groups are of lines that are taken
abbrev Few : Items → Type 0
Few (over end) = Unit {0}
Few (group number met joined rest) = (number ≤ most_lines) × Few rest

abbrev FewBegun : Option Begun → Type 0
FewBegun None = Unit {0}
FewBegun (Some g) = g.number ≤ most_lines

few_closed : (g : Option Begun) (is : Items) → FewBegun g → Few is → Few (closed_group g is)
few_closed None is f h = h
few_closed (Some g) is f h = (f, h)

few_items : (cut : Bool) (n : ℕ) (g : Option Begun) (lines : List InputLine) → FewBegun g → Few (items_from by_batches most_lines cut n g lines)
few_items cut n g [] f = few_closed g (over (if cut then unreadable else finished n)) f tt
few_items cut n g (line ∷ lines) f = go (λ next h. few_items cut (n + 1) next lines h) (nat_lt n most_lines) (is_short line) (line.ended || not cut) (is_passed line) refl where
  joined : (on : (next : Option Begun) → FewBegun next → Few (items_from by_batches most_lines cut (n + 1) next lines)) (g : Option Begun) → FewBegun g → n + 1 ≤ most_lines → Few (by_entry by_batches n g line (λ next. items_from by_batches most_lines cut (n + 1) next lines) short)
  joined on None f few = on (Some (begin (n + 1) line)) few
  joined on (Some g) f few = at (by_batches.gathers g.first && by_batches.joins line) where
    at : (b : Bool) → Few (if b then items_from by_batches most_lines cut (n + 1) (Some (grown g line)) lines else closed_group (Some g) (items_from by_batches most_lines cut (n + 1) (Some (begin (n + 1) line)) lines))
    at true = on (Some (grown g line)) f
    at false = (f, on (Some (begin (n + 1) line)) few)

  passed : (on : (next : Option Begun) → FewBegun next → Few (items_from by_batches most_lines cut (n + 1) next lines)) (p : Bool) → Few (if p then items_from by_batches most_lines cut (n + 1) None lines else over endless)
  passed on true = on None tt
  passed on false = tt

  go : (on : (next : Option Begun) → FewBegun next → Few (items_from by_batches most_lines cut (n + 1) next lines)) (a b c p : Bool) → nat_lt n most_lines ≡ a
      → Few (by_entry by_batches n g line (λ next. items_from by_batches most_lines cut (n + 1) next lines) (if a then (if b then (if c then short else ends_as unreadable) else long p) else ends_as endless))
  go on true true true p e = joined on g f (few_after n e)
  go on true true false p e = few_closed g (over unreadable) f tt
  go on true false c p e = few_closed g (group (n + 1) too_long [] (if p then items_from by_batches most_lines cut (n + 1) None lines else over endless)) f (few_after n e, passed on p)
  go on false b c p e = few_closed g (over endless) f tt

ends_counted : (is : Items) (s : RunState) (o : LinesOutcome LineFault) (t : RunState) → Few is → IsOutcomeOf may_take is s o t → EndsCounted o
ends_counted (over (finished n)) s o t f h = subst EndsCounted (sym h.0) tt
ends_counted (over unreadable) s o t f h = subst EndsCounted (sym h.0) tt
ends_counted (over endless) s o t f h = subst EndsCounted (sym h.0) tt
ends_counted (group number met joined rest) s o t f h = go h.0 h.2 (λ u p v q. ends_counted rest u p v f.1 q) where
  go : (step : LineStep RunState LineFault) → StepProceeds number step (λ next. IsOutcomeOf may_take rest next) o t → ((u : RunState) (p : LinesOutcome LineFault) (v : RunState) → IsOutcomeOf may_take rest u p v → EndsCounted p) → EndsCounted o
  go (goes_on text next) q on = subst EndsCounted (sym q.2) (counted_before text q.0 (on next q.0 t q.1))
  go (stops_at text e) q on = subst EndsCounted (sym q) f.0
  go (ends text) q on = subst EndsCounted (sym q) tt

-- what a run's driver met
abbrev pub Met_of : HostValue → RunState → Bool → List ℕ → List ℕ → Result ℕ (DriveFault LineFault) → Type 0
Met_of h s cut input written result = MeetsOne (IsLinesOutcome (group_rules by_batches may_take most_lines) cut s input) (IsRunAt h) written result

pub run_counted : (h : HostValue) (s : RunState) (cut : Bool) (input written : List ℕ) (e : DriveFault LineFault) → Met_of h s cut input written (Err e) → IsCounted most_lines e
run_counted h s cut input written e m = meets_counted m.0 written e (ends_counted (items_from by_batches most_lines cut 0 None (input_lines input)) s m.0 m.1 (few_items cut 0 None (input_lines input) tt) m.2) m.4

-- ---- the outcome of a run

met_ok : (t : RunState) (o : LinesOutcome LineFault) (written : List ℕ) (n held : ℕ) → held ≡ held_count t → LinesMeets o written (Ok n) → RunMeets (shown o t) written (Ok (record { lines = n; held = held }))
met_ok t (writes text end) written n held count (inl m) = inl (m.0, ap (λ (h : ℕ). Ok (record { lines = n; held = h })) count ∙ ap (λ (r : Result ℕ (DriveFault LineFault)). run_answer t (check_answer r)) m.1)
met_ok t (writes text end) written n held count (inr m) = absurd m.0

begins_all : (text written : List ℕ) → written ≡ text → BeginsWith text written
begins_all text written e = ([], sym e ∙ sym (append-nil written))

stops_run : (t : RunState) (refused : Bool) (text written : List ℕ) (end : Result ℕ (DriveFault LineFault)) → BeginsWith text written → RunMeets (prints text (run_answer t (check_answer end))) written (Err (ended_by refused faults.Memory))
stops_run t true text written end b = inr (refl, b)
stops_run t false text written end b = inr (refl, b)

ended_same : (refused : Bool) (e : DriveFault LineFault) → (e ≡ faults.Memory → ⊥) → ended_by refused e ≡ check_fault e
ended_same refused (faults.Line number f) other = refl
ended_same refused faults.Read other = refl
ended_same refused faults.Write other = refl
ended_same refused faults.Memory other = absurd (other refl)
ended_same refused faults.Endless other = refl

met_end : (t : RunState) (refused : Bool) (text written : List ℕ) (end : Result ℕ (DriveFault LineFault)) (e : DriveFault LineFault) → (e ≡ faults.Memory → ⊥) → written ≡ text → Err e ≡ end → RunMeets (prints text (run_answer t (check_answer end))) written (Err (ended_by refused e))
met_end t refused text written end e other all is = inl (all, ap Err (ended_same refused e other) ∙ ap (λ (r : Result ℕ (DriveFault LineFault)). run_answer t (check_answer r)) is)

met_err : (t : RunState) (refused : Bool) (o : LinesOutcome LineFault) (written : List ℕ) (e : DriveFault LineFault) → LinesMeets o written (Err e) → RunMeets (shown o t) written (Err (ended_by refused e))
met_err t refused (writes text end) written faults.Memory (inl m) = stops_run t refused text written end (begins_all text written m.0)
met_err t refused (writes text end) written faults.Memory (inr m) = stops_run t refused text written end m.1
met_err t refused (writes text end) written faults.Write (inl m) = met_end t refused text written end faults.Write (λ e. cc) m.0 m.1
met_err t refused (writes text end) written faults.Write (inr m) = inr (ap is_run_stop (ended_same refused faults.Write (λ e. cc)), m.1)
met_err t refused (writes text end) written faults.Read (inl m) = met_end t refused text written end faults.Read (λ e. cc) m.0 m.1
met_err t refused (writes text end) written faults.Read (inr m) = absurd m.0
met_err t refused (writes text end) written faults.Endless (inl m) = met_end t refused text written end faults.Endless (λ e. cc) m.0 m.1
met_err t refused (writes text end) written faults.Endless (inr m) = absurd m.0
met_err t refused (writes text end) written (faults.Line number f) (inl m) = met_end t refused text written end (faults.Line number f) (λ e. cc) m.0 m.1
met_err t refused (writes text end) written (faults.Line number f) (inr m) = absurd m.0

-- ---- what it promises

runs_so : (k : Option ℕ) (cut : Bool) (input written : List ℕ) (result : Result Summary RunFault) (o : RunOutcome) → IsOutcome k cut input o → RunMeets o written result → RunsScript k cut input written result
runs_so k cut input written result o is meets =
    let Meeting : RunOutcome → Type 0 = λ x. RunMeets x written result in
    let other = workers_are_one_thread k cut input o is in
    record {
      some = (o, is, meets);
      alone = λ one. subst Meeting (one_worker_is_one_thread k cut input o one is) meets;
      reordered = (other.0, other.1, subst Meeting other.2 meets);
    }

runs_ok : (h : HostValue) (k : Option ℕ) (cut : Bool) (input written : List ℕ) (n held : ℕ) → Met_of h (run_start k) cut input written (Ok n) → ((s : RunState) → IsRunAt h s → held ≡ held_count s) → RunsScript k cut input written (Ok (record { lines = n; held = held }))
runs_ok h k cut input written n held m count =
    runs_so k cut input written (Ok (record { lines = n; held = held })) (shown m.0 m.1) (batches_are_outcomes cut (run_start k) (input_lines input) m.0 m.1 refl m.2) (met_ok m.1 m.0 written n held (count m.1 m.3) m.4)

runs_err : (h : HostValue) (k : Option ℕ) (cut : Bool) (input written : List ℕ) (e : DriveFault LineFault) (refused : Bool) → Met_of h (run_start k) cut input written (Err e) → RunsScript k cut input written (Err (ended_by refused e))
runs_err h k cut input written e refused m =
    runs_so k cut input written (Err (ended_by refused e)) (shown m.0 m.1) (batches_are_outcomes cut (run_start k) (input_lines input) m.0 m.1 refl m.2) (met_err m.1 refused m.0 written e m.4)

pub runs_end : (h : HostValue) (k : Option ℕ) (cut : Bool) (input written : List ℕ) (held : ℕ) (refused : Bool) (ending : Result ℕ (DriveFault LineFault))
    → Met_of h (run_start k) cut input written ending → ((s : RunState) → IsRunAt h s → held ≡ held_count s) → RunsScript k cut input written (ended_with held refused ending)
runs_end h k cut input written held refused (Ok n) m count = runs_ok h k cut input written n held m count
runs_end h k cut input written held refused (Err e) m count = runs_err h k cut input written e refused m

-- it fails to read, or to write, only where its driver does
ended_reads : (refused : Bool) (e : DriveFault LineFault) → ended_by refused e ≡ run_faults.Read → e ≡ faults.Read
ended_reads refused faults.Read h = refl
ended_reads refused (faults.Line number f) h = absurd cc
ended_reads refused faults.Write h = absurd cc
ended_reads true faults.Memory h = absurd cc
ended_reads false faults.Memory h = absurd cc
ended_reads refused faults.Endless h = absurd cc

ended_writes : (refused : Bool) (e : DriveFault LineFault) → ended_by refused e ≡ run_faults.Write → e ≡ faults.Write
ended_writes refused faults.Write h = refl
ended_writes refused (faults.Line number f) h = absurd cc
ended_writes refused faults.Read h = absurd cc
ended_writes true faults.Memory h = absurd cc
ended_writes false faults.Memory h = absurd cc
ended_writes refused faults.Endless h = absurd cc

pub ends_reads : (held : ℕ) (refused : Bool) (ending : Result ℕ (DriveFault LineFault)) → ended_with held refused ending ≡ Err run_faults.Read → ending ≡ Err faults.Read
ends_reads held refused (Ok n) h = absurd cc
ends_reads held refused (Err e) h = let is : ended_by refused e ≡ run_faults.Read = cc in ap Err (ended_reads refused e is)

pub ends_writes : (held : ℕ) (refused : Bool) (ending : Result ℕ (DriveFault LineFault)) → ended_with held refused ending ≡ Err run_faults.Write → ending ≡ Err faults.Write
ends_writes held refused (Ok n) h = absurd cc
ends_writes held refused (Err e) h = let is : ended_by refused e ≡ run_faults.Write = cc in ap Err (ended_writes refused e is)
