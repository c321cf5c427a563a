-- Two states whose hosts' keepers learned the same names in other orders: a script has the same outcomes from both.
use Rattle.std.proofs.Common.{◌≡◌, ℕ, ◌+◌, Bool, cond, List, [], ◌∷◌, ◌++◌, Result, Ok, Err, Option, Some, None, refl, sym, ap, subst, ◌∙◌, IsPermutation, arith}
use Rattle.std.proofs.lemmas.List.Sorted.{length_permutation}
use Rattle.std.specs.Prelude.{◌↔◌, filter}
use Rattle.wb_names.specs.Arrivals.{history_after}
use Rattle.wb_names.specs.Orders.{name_cmp}
use Rattle.wb_names.specs.Values.{NameValue, DrawopValue}
use Rattle.wb_gaps.specs.Sorting.{sorted}
use Rattle.wb_keeper.specs.Keeper.{KeeperCall, Arrive, holds}
use Rattle.wb_lines.specs.Input.{InputLine, content}
use Rattle.wb_commands.specs.Acts.{Act, does, fails, act}
use Rattle.wb_commands.specs.declared.command.Command.{Command}
use Rattle.wb_commands.specs.declared.fault.LineFault.{LineFault}
use Rattle.wb_member.specs.Holding.{MemberValue, IsOpenAt}
use Rattle.wb_member.specs.Members.{names_of}
use Rattle.wb_member.specs.Opened.{Opened, present, board_of, batched}
use Rattle.wb_script.specs.Hosts.{script_host, taken, calls_as_said, batch_text}
use Rattle.wb_script.specs.Laws.{BatchesAreToldAsSaid, GoOnAlike, at_host}
use Rattle.wb_script.specs.Script.{RunState, MayBeTaken, Closing, Opens, Acts, Faulty, Part, Arrival, Nothing, End, part_in, RunStep, moves_on, refused, step_by, closing_step, part_step, RunOutcome, printed_before, finish, Finishes, Proceeds, Continues, fault_at, IsOutcomeFrom}
use Rattle.wb_script.specs.declared.fault.RunFault.{RunFault}
use Rattle.wb_script.specs.declared.fault.RunFault.TheVariants as run_faults
use Rattle.wb_script.proofs.ReorderedLines.{state}
use Rattle.wb_script.proofs.Retold.{CallsAlike, calls_after, calls_back, calls_same, moment_alike, arrived_alike}
use Rattle.wb_script.proofs.RetoldActs.{HostsRetold, DoRetold, retold, act_retold}
use Rattle.wb_script.proofs.Telling.{names_told, opens_alike}

abbrev MayBeRetold : Option Opened → Option Opened → Type 0
MayBeRetold None None = Unit {0}
MayBeRetold (Some one) (Some other) = HostsRetold one other
MayBeRetold one other = ⊥

record StatesRetold (s t : RunState) : Type 0 where
  pub hosts : MayBeRetold s.host t.host
  pub workers : s.workers ≡ t.workers
  pub waiting : s.waiting ≡ t.waiting

abbrev StepsRetold : RunStep → RunStep → Type 0
StepsRetold (moves_on s text) (moves_on t text') = StatesRetold s t × (text ≡ text')
StepsRetold (refused s text e) (refused t text' e') = StatesRetold s t × (text ≡ text') × (e ≡ e')
StepsRetold one other = ⊥

by_states : (P : RunState → RunState → Type 0) → ((k : Option ℕ) (one other : Option Opened) (waiting : List DrawopValue) → MayBeRetold one other → P (state k one waiting) (state k other waiting)) → (s t : RunState) → StatesRetold s t → P s t
by_states P holds s t a =
    subst (λ (waiting : List DrawopValue). P s (state t.workers t.host waiting)) a.waiting
    (subst (λ (k : Option ℕ). P s (state k t.host s.waiting)) a.workers (holds s.workers s.host t.host s.waiting a.hosts))

by_host : (P : Opened → Type 0) (one other : Opened) (h : HostsRetold one other) → P (retold one h.calls) → P other
by_host P one other h p = subst P (sym h.is) p

-- ---- one line

module _ (k : Option ℕ) where
  stays : (one other : Option Opened) → MayBeRetold one other → StatesRetold (state k one []) (state k other [])
  stays one other h = record { hosts = h; workers = refl; waiting = refl }

  act_done : (text text' : List ℕ) (one other : Opened) (a b : Act) → HostsRetold one other → text ≡ text' → DoRetold a b → StepsRetold (step_by k text a one) (step_by k text' b other)
  act_done text text' one other (does next printed) (does next' printed') h same d =
      (stays (Some next) (Some next') d.0, ap (λ (t : List ℕ). t ++ printed) same ∙ ap (λ (t : List ℕ). text' ++ t) d.1)
  act_done text text' one other (fails e) (fails e') h same d = (stays (Some one) (Some other) h, same, d)
  act_done text text' one other (does next printed) (fails e) h same d = absurd d
  act_done text text' one other (fails e) (does next printed) h same d = absurd d

  line_done : (text text' : List ℕ) (line : Command) (one other : Opened) → HostsRetold one other → text ≡ text' → StepsRetold (step_by k text (act line one) one) (step_by k text' (act line other) other)
  line_done text text' line one other h same =
      act_done text text' one other (act line one) (act line other) h same
      (by_host (λ (o : Opened). DoRetold (act line one) (act line o)) one other h (act_retold one h.calls h.alike line))

  batch_done : (order : List DrawopValue) (one other : Opened) → HostsRetold one other → HostsRetold (taken order one) (taken order other)
  batch_done order one other h = by_host (λ (o : Opened). HostsRetold (taken order one) (taken order o)) one other h (at order) where
    at : (order : List DrawopValue) → HostsRetold (taken order one) (taken order (retold one h.calls))
    at [] = record { calls = h.calls; is = refl; alike = h.alike }
    at (d ∷ ds) = record {
      calls = calls_as_said (d ∷ ds) (retold one h.calls);
      is = refl;
      alike = subst (λ (now : ℕ). CallsAlike (calls_as_said (d ∷ ds) one) (Arrive now (sorted name_cmp (filter (holds (history_after one.is.cells one.is.held (d ∷ ds))) (names_of (d ∷ ds)))) ∷ h.calls)) (moment_alike one.is.calls h.calls h.alike)
          (calls_after (Arrive (present one) (sorted name_cmp (filter (holds (history_after one.is.cells one.is.held (d ∷ ds))) (names_of (d ∷ ds))))) one.is.calls h.calls h.alike);
    }

  same_text : (order : List DrawopValue) (one other : Opened) → HostsRetold one other → batch_text (board_of one) order ≡ batch_text (board_of other) order
  same_text order one other h = by_host (λ (o : Opened). batch_text (board_of one) order ≡ batch_text (board_of o) order) one other h refl

  fresh : (host : Opened) → HostsRetold host host
  fresh host = record { calls = host.is.calls; is = refl; alike = calls_same host.is.calls }

  closes : (one other : Option Opened) (text text' : List ℕ) (c : Closing) → MayBeRetold one other → text ≡ text' → StepsRetold (closing_step (state k one []) text c) (closing_step (state k other []) text' c)
  closes None None text text' (Opens member cells workers seed) h same = (record { hosts = fresh (script_host member cells seed); workers = refl; waiting = refl }, same)
  closes None None text text' (Acts line) h same = (stays None None tt, same, refl)
  closes None None text text' (Faulty e) h same = (stays None None tt, same, refl)
  closes (Some one) (Some other) text text' (Opens member cells workers seed) h same = (stays (Some one) (Some other) h, same, refl)
  closes (Some one) (Some other) text text' (Acts line) h same = line_done text text' line one other h same
  closes (Some one) (Some other) text text' (Faulty e) h same = (stays (Some one) (Some other) h, same, refl)
  closes None (Some other) text text' c h same = absurd h
  closes (Some one) None text text' c h same = absurd h

  part_done : (one other : Option Opened) (waiting order : List DrawopValue) (part : Part) → MayBeRetold one other → StepsRetold (part_step (state k one waiting) order part) (part_step (state k other waiting) order part)
  part_done None None waiting order (Arrival d) h = (record { hosts = tt; workers = refl; waiting = refl }, refl, refl)
  part_done (Some one) (Some other) waiting order (Arrival d) h = (record { hosts = h; workers = refl; waiting = refl }, refl)
  part_done None None waiting order Nothing h = (record { hosts = tt; workers = refl; waiting = refl }, refl)
  part_done (Some one) (Some other) waiting order Nothing h = (record { hosts = h; workers = refl; waiting = refl }, refl)
  part_done None None waiting order (End c) h = closes None None [] [] c tt refl
  part_done (Some one) (Some other) waiting order (End c) h =
      closes (Some (taken order one)) (Some (taken order other)) (batch_text (board_of one) order) (batch_text (board_of other) order) c (batch_done order one other h) (same_text order one other h)
  part_done None (Some other) waiting order part h = absurd h
  part_done (Some one) None waiting order part h = absurd h

  ends : (one other : Option Opened) (waiting order : List DrawopValue) (ending : Result ℕ RunFault) → MayBeRetold one other → finish (state k one waiting) order ending ≡ finish (state k other waiting) order ending
  ends None None waiting order ending h = refl
  ends (Some one) (Some other) waiting order (Ok n) h = by_host (λ (o : Opened). finish (state k (Some one) waiting) order (Ok n) ≡ finish (state k (Some o) waiting) order (Ok n)) one other h refl
  ends (Some one) (Some other) waiting order (Err e) h = by_host (λ (o : Opened). finish (state k (Some one) waiting) order (Err e) ≡ finish (state k (Some o) waiting) order (Err e)) one other h refl
  ends None (Some other) waiting order ending h = absurd h
  ends (Some one) None waiting order ending h = absurd h

-- ---- all lines

finishes : (ending : Result ℕ RunFault) (o : RunOutcome) (s t : RunState) → StatesRetold s t → Finishes s ending o → Finishes t ending o
finishes ending o = by_states (λ (s t : RunState). Finishes s ending o → Finishes t ending o) (λ k one other waiting h f. (f.0, f.1, f.2 ∙ ends k one other waiting f.0 ending h))

proceeds : (number : ℕ) (Rest : RunState → RunOutcome → Type 0) (o : RunOutcome) (one other : RunStep) → StepsRetold one other → ((s t : RunState) (next : RunOutcome) → StatesRetold s t → Rest s next → Rest t next) → Proceeds number Rest o one → Proceeds number Rest o other
proceeds number Rest o (moves_on s text) (moves_on t text') a on p = (p.0, on s t p.0 a.0 p.1, p.2 ∙ ap (λ (x : List ℕ). printed_before x p.0) a.1)
proceeds number Rest o (refused s text e) (refused t text' e') a on p =
    (p.0, subst (λ (f : LineFault). Finishes t (Err (run_faults.Line number f)) p.0) a.2 (finishes (Err (run_faults.Line number e)) p.0 s t a.0 p.1), p.2 ∙ ap (λ (x : List ℕ). printed_before x p.0) a.1)
proceeds number Rest o (moves_on s text) (refused t text' e) a on p = absurd a
proceeds number Rest o (refused s text e) (moves_on t text') a on p = absurd a

continues : (fault : Option RunFault) (number : ℕ) (line : InputLine) (Rest : RunState → RunOutcome → Type 0) (o : RunOutcome) → ((s t : RunState) (next : RunOutcome) → StatesRetold s t → Rest s next → Rest t next)
    → (s t : RunState) → StatesRetold s t → Continues fault number s (content line) Rest o → Continues fault number t (content line) Rest o
continues None number line Rest o on = by_states (λ (s t : RunState). Continues None number s (content line) Rest o → Continues None number t (content line) Rest o)
    (λ k one other waiting h c. (c.0, c.1, proceeds number Rest o (part_step (state k one waiting) c.0 (part_in line)) (part_step (state k other waiting) c.0 (part_in line)) (part_done k one other waiting c.0 (part_in line) h) on c.2))
continues (Some e) number line Rest o on = finishes (Err e) o

outcomes : (cut : Bool) (n : ℕ) (lines : List InputLine) (s t : RunState) (o : RunOutcome) → StatesRetold s t → IsOutcomeFrom cut n s lines o → IsOutcomeFrom cut n t lines o
outcomes cut n [] s t o a f = finishes (cond cut (Err run_faults.Read) (Ok n)) o s t a f
outcomes cut n (line ∷ lines) s t o a c =
    continues (fault_at cut n line) (n + 1) line (λ u next. IsOutcomeFrom cut (n + 1) u lines next) o (λ u v next b f. outcomes cut (n + 1) lines u v next b f) s t a c

back : (one other : Opened) → HostsRetold one other → HostsRetold other one
back one other h = by_host (λ (o : Opened). HostsRetold o one) one other h (record { calls = one.is.calls; is = refl; alike = calls_back one.is.calls h.calls h.alike })

go_on : (one other : Opened) → HostsRetold one other → GoOnAlike one other
go_on one other h = λ workers cut n lines o. (
  outcomes cut n lines (at_host workers one) (at_host workers other) o (record { hosts = h; workers = refl; waiting = refl }),
  outcomes cut n lines (at_host workers other) (at_host workers one) o (record { hosts = back one other h; workers = refl; waiting = refl }),
)

pub batches_are_told_as_said : BatchesAreToldAsSaid
batches_are_told_as_said host d ds [] moved = let long = length_permutation (d ∷ ds) [] moved in absurd (omega (arith, long))
batches_are_told_as_said host d ds (e ∷ es) moved =
    let names = names_told host (d ∷ ds) (e ∷ es) moved in
    let p : NameValue → Bool = holds (history_after host.is.cells host.is.held (e ∷ es)) in
    record {
      keeper = λ v. opens_alike host (e ∷ es) v (filter p (names_of (d ∷ ds))) (sorted name_cmp (filter p (names_of (e ∷ es)))) names.0 names.1;
      outcomes = go_on (batched (d ∷ ds) (e ∷ es) host) (taken (e ∷ es) host) (record {
        calls = calls_as_said (e ∷ es) host;
        is = refl;
        alike = arrived_alike (present host) (filter p (names_of (d ∷ ds))) (sorted name_cmp (filter p (names_of (e ∷ es)))) host.is.calls names.0 names.1;
      });
    }
