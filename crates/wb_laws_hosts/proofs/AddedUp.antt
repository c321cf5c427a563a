-- What one thread prints for a script is what a host prints for its lines, where what the arrivals of a batch count is added up.
use Rattle.std.proofs.Common.{◌≡◌, ℕ, ◌+◌, ◌-◌, Bool, true, false, cond, List, [], ◌∷◌, ◌++◌, length, take, Result, Ok, Err, refl, sym, ap, ap₂, subst, ◌∙◌, append_assoc, append-nil, arith, ◌||◌, ⊎_elim, Contains, filter, is_eq, true≢false}
use Rattle.std.specs.Prelude.{Option, Some, None, nat_le, nat_lt, ◌&&◌, not, if◌then◌else◌, ◌⊎◌}
use mathlib.Core.Logic.{inl, inr}
use Rattle.std.proofs.Math.Seq.{take-append_seam}
use Rattle.std.proofs.lemmas.Bool.{or_right}
use Rattle.std.proofs.lemmas.List.{map-append}
use Rattle.std.proofs.lemmas.List.Elements.{Contains-append_left, Contains-append_right, Contains-append_cases}
use Rattle.std.specs.Cmp.{second_so}
use Rattle.wb_names.specs.Values.{NameValue, DrawopValue}
use Rattle.wb_names.specs.Arrivals.{Outcome as Arrived, New, Again, Clash, Left, Counts, counts, counted, counts_of, history_with, history_after, outcome_of, outcomes_of}
use Rattle.wb_names.specs.Orders.{name_cmp, same_name}
use Rattle.wb_names.proofs.Listings.{Contains-here, Contains-filter, Contains-from_filter}
use Rattle.wb_names.proofs.Orders.{name_total, same_name-is}
use Rattle.wb_recovery.proofs.NameOrder.{name_ties}
use Rattle.wb_gaps.specs.Sorting.{sorted}
use Rattle.wb_gaps.proofs.Sorting.{Contains-from_sorted, Contains-sorted}
use Rattle.wb_lines.specs.Input.{InputLine, input_lines, content, most_bytes}
use Rattle.wb_lines.specs.Taking.{met, is_short, is_taken}
use Rattle.wb_commands.specs.Acts.{Act, does, fails, act}
use Rattle.wb_commands.specs.Answers.{batch_line}
use Rattle.wb_commands.specs.declared.command.Command.{Command}
use Rattle.wb_commands.specs.declared.command.Command.TheVariants as lines
use Rattle.wb_commands.specs.declared.fault.LineFault.{LineFault}
use Rattle.wb_commands.specs.Parsing.{script_line_of}
use Rattle.wb_keeper.specs.Keeper.{KeeperCall, Arrive, holds}
use Rattle.wb_keeper.proofs.KeptCalls.{holds_one_more}
use Rattle.wb_member.specs.Members.{names_of}
use Rattle.wb_member.specs.Opened.{Opened, opened_with, accepted, becomes, present}
use Rattle.wb_script.specs.Hosts.{taken, script_constants}
use Rattle.wb_script.specs.declared.fault.RunFault.TheVariants as run_faults
use Rattle.wb_script.specs.Script.{RunState as Board, run_start, after_batch, Closing, Acts, Part, Arrival, Nothing, End, part_of, part_in, RunStep, moves_on, refused, step_by, said_step, RunOutcome, prints, printed_before, finish, follow_step, continue, most_lines, run_outcome_from, run_outcome}
use Rattle.wb_script.proofs.FreeArrivals.{batches_are_one}
use Rattle.wb_script.proofs.ReorderedScripts.{workers_are_one_thread}
use Rattle.wb_script.proofs.Members.{Among}
use Rattle.wb_script.proofs.Retold.{CallsAlike, calls_after, calls_back, calls_same, calls_then, arrived_alike, arrived_apart, moment_alike}
use Rattle.wb_script.proofs.RetoldActs.{HostsRetold, DoRetold, retold, act_retold}
use Rattle.wb_script.proofs.Telling.{taken_alone}
use Rattle.wb_dialog.specs.declared.line.DriverLine.TheVariants.{Script}
use Rattle.wb_dialog.specs.Dialog.{State, Answer, gives, answered, arrives, answer_to, answer_of, block, state_after, blocks_from, answered_lines, due}
use Rattle.wb_dialog.proofs.DrivenHosts.{AreGiven, blocks_given}
use Rattle.wb_laws_hosts.specs.RunLaws.{IsAddedUp, AddsUp, counted_text, counted_with, PrintsAddedUp, IsRunTold, ThreadIsTold, RunIsTold}
use Rattle.wb_laws_hosts.proofs.RunTexts.{board, closing, answer_is, closing_again, neither}

-- ---- counts

counted_before : (p : Arrived) (m n : Counts) → counted p (counted_with (Some m) n) ≡ counted_with (Some (counted p m)) n
counted_before (New i) m n = let e : (m.fresh + n.fresh) + 1 ≡ (m.fresh + 1) + n.fresh = omega arith in ap (λ (k : ℕ). counts k (m.again + n.again) (m.clash + n.clash) (m.left + n.left)) e
counted_before (Again i) m n = let e : (m.again + n.again) + 1 ≡ (m.again + 1) + n.again = omega arith in ap (λ (k : ℕ). counts (m.fresh + n.fresh) k (m.clash + n.clash) (m.left + n.left)) e
counted_before (Clash i) m n = let e : (m.clash + n.clash) + 1 ≡ (m.clash + 1) + n.clash = omega arith in ap (λ (k : ℕ). counts (m.fresh + n.fresh) (m.again + n.again) k (m.left + n.left)) e
counted_before Left m n = let e : (m.left + n.left) + 1 ≡ (m.left + 1) + n.left = omega arith in ap (λ (k : ℕ). counts (m.fresh + n.fresh) (m.again + n.again) (m.clash + n.clash) k) e

one_more : (os : List Arrived) (o : Arrived) → counts_of (os ++ o ∷ []) ≡ counted_with (Some (counts_of os)) (counts_of (o ∷ []))
one_more [] (New i) = refl
one_more [] (Again i) = refl
one_more [] (Clash i) = refl
one_more [] Left = refl
one_more (p ∷ os) o = ap (counted p) (one_more os o) ∙ counted_before p (counts_of os) (counts_of (o ∷ []))

outcomes_then : (cells : ℕ) (held ds : List DrawopValue) (d : DrawopValue) → outcomes_of cells held (ds ++ d ∷ []) ≡ outcomes_of cells held ds ++ outcome_of cells (history_after cells held ds) d ∷ []
outcomes_then cells held [] d = refl
outcomes_then cells held (e ∷ ds) d = ap (λ (os : List Arrived). outcome_of cells held e ∷ os) (outcomes_then cells (history_with held e (outcome_of cells held e)) ds d)

-- what the present batch counted so far, if it has arrivals
abbrev so_far : Option Opened → List DrawopValue → Option Counts
so_far None waiting = None
so_far (Some host) [] = None
so_far (Some host) (d ∷ ds) = Some (counts_of (outcomes_of host.is.cells host.is.held (d ∷ ds)))

so_far_with : (host : Opened) (waiting : List DrawopValue) (d : DrawopValue) → so_far (Some host) (waiting ++ d ∷ []) ≡ Some (counted_with (so_far (Some host) waiting) (counts_of (becomes d (taken waiting host) ∷ [])))
so_far_with host [] d = refl
so_far_with host (e ∷ es) d =
    ap (λ (n : Counts). Some n) (ap counts_of (outcomes_then host.is.cells host.is.held (e ∷ es) d)
    ∙ one_more (outcomes_of host.is.cells host.is.held (e ∷ es)) (outcome_of host.is.cells (history_after host.is.cells host.is.held (e ∷ es)) d))

-- ---- names that are held

-- what is held after an arrival was held before, or is the arrival
held_or : (h : List DrawopValue) (d : DrawopValue) (o : Arrived) (n : NameValue) → holds (history_with h d o) n ≡ true → (holds h n ≡ true) ⊎ (n ≡ d.name)
held_or h d (New i) n is = at (holds h n) (same_name d.name n) (sym (holds_one_more h d n) ∙ is) refl refl where
  at : (a b : Bool) → (a || b) ≡ true → holds h n ≡ a → same_name d.name n ≡ b → (holds h n ≡ true) ⊎ (n ≡ d.name)
  at true b either p q = inl p
  at false true either p q = inr (sym (same_name-is d.name n q))
  at false false either p q = absurd (true≢false (sym either))
held_or h d (Again i) n is = inl is
held_or h d (Clash i) n is = inl is
held_or h d Left n is = inl is

held_still : (h : List DrawopValue) (d : DrawopValue) (o : Arrived) (n : NameValue) → holds h n ≡ true → holds (history_with h d o) n ≡ true
held_still h d (New i) n is = holds_one_more h d n ∙ ap (λ (b : Bool). b || same_name d.name n) is
held_still h d (Again i) n is = is
held_still h d (Clash i) n is = is
held_still h d Left n is = is

-- ---- hosts that are alike

fresh : (host : Opened) → HostsRetold host host
fresh host = record { calls = host.is.calls; is = refl; alike = calls_same host.is.calls }

hosts_then : (a b c : Opened) → HostsRetold a b → HostsRetold b c → HostsRetold a c
hosts_then a b c x y = record {
  calls = y.calls;
  is = y.is ∙ ap (λ (h : Opened). retold h y.calls) x.is;
  alike = calls_then a.is.calls x.calls y.calls x.alike (subst (λ (h : Opened). CallsAlike h.is.calls y.calls) x.is y.alike);
}

accepted_alike : (d : DrawopValue) (one other : Opened) → HostsRetold one other → HostsRetold (accepted d one) (accepted d other)
accepted_alike d one other h =
    let names : List NameValue = filter (holds (history_after one.is.cells one.is.held (d ∷ []))) (d.name ∷ []) in
    subst (λ (o : Opened). HostsRetold (accepted d one) (accepted d o)) (sym h.is) (record {
      calls = Arrive (present (retold one h.calls)) names ∷ h.calls;
      is = refl;
      alike = subst (λ (now : ℕ). CallsAlike (Arrive (present one) names ∷ one.is.calls) (Arrive now names ∷ h.calls)) (moment_alike one.is.calls h.calls h.alike)
          (calls_after (Arrive (present one) names) one.is.calls h.calls h.alike);
    })

-- ---- a batch with one arrival more

module _ (host : Opened) (e : DrawopValue) (es : List DrawopValue) (d : DrawopValue) where
  abbrev held : List DrawopValue
  held = history_after host.is.cells host.is.held (e ∷ es)

  abbrev held_then : List DrawopValue
  held_then = history_after host.is.cells held (d ∷ [])

  abbrev o : Arrived
  o = outcome_of host.is.cells held d

  abbrev batch : List DrawopValue
  batch = e ∷ (es ++ d ∷ [])

  abbrev some : List NameValue
  some = sorted name_cmp (filter (holds held) (names_of (e ∷ es)))

  abbrev more : List NameValue
  more = filter (holds held_then) (d.name ∷ [])

  abbrev all : List DrawopValue → List NameValue
  all history = sorted name_cmp (filter (holds history) (names_of batch))

  split : names_of batch ≡ names_of (e ∷ es) ++ d.name ∷ []
  split = map-append (λ (d : DrawopValue). d.name) (e ∷ es) (d ∷ [])

  into : (names : List NameValue) (n : NameValue) → Contains names n → Contains (sorted name_cmp names) n
  into names n c = Contains-sorted name_total names (λ m k _ _ tie. same_name-is m k (name_ties m k ∙ ap is_eq tie)) n c

  named : (n : NameValue) → Contains (names_of (e ∷ es) ++ d.name ∷ []) n → holds held_then n ≡ true → Contains (all held_then) n
  named n c is = into (filter (holds held_then) (names_of batch)) n (Contains-filter (holds held_then) (names_of batch) n (subst (λ (names : List NameValue). Contains names n) (sym split) c) is)

  up : Among (some ++ more) (all held_then)
  up n c = ⊎_elim first second (Contains-append_cases some more n c) where
    first : Contains some n → Contains (all held_then) n
    first c =
        let here = Contains-from_filter (holds held) (names_of (e ∷ es)) n (Contains-from_sorted name_cmp (filter (holds held) (names_of (e ∷ es))) n c) in
        named n (Contains-append_left (names_of (e ∷ es)) (d.name ∷ []) n here.0) (held_still held d o n here.1)

    second : Contains more n → Contains (all held_then) n
    second c =
        let here = Contains-from_filter (holds held_then) (d.name ∷ []) n c in
        named n (Contains-append_right (names_of (e ∷ es)) (d.name ∷ []) n here.0) here.1

  down : Among (all held_then) (some ++ more)
  down n c =
      let here = Contains-from_filter (holds held_then) (names_of batch) n (Contains-from_sorted name_cmp (filter (holds held_then) (names_of batch)) n c) in
      ⊎_elim
      (λ (is : holds held n ≡ true). ⊎_elim
      (λ (c : Contains (names_of (e ∷ es)) n). Contains-append_left some more n (into (filter (holds held) (names_of (e ∷ es))) n (Contains-filter (holds held) (names_of (e ∷ es)) n c is)))
      (λ (c : Contains (d.name ∷ []) n). Contains-append_right some more n (Contains-filter (holds held_then) (d.name ∷ []) n c here.1))
      (Contains-append_cases (names_of (e ∷ es)) (d.name ∷ []) n (subst (λ (names : List NameValue). Contains names n) split here.0)))
      (λ (is : n ≡ d.name). Contains-append_right some more n (Contains-filter (holds held_then) (d.name ∷ []) n (subst (Contains (d.name ∷ [])) (sym is) (Contains-here d.name [])) here.1))
      (held_or held d o n here.1)

  abbrev calls_apart : List KeeperCall
  calls_apart = Arrive (present host) more ∷ Arrive (present host) some ∷ host.is.calls

  abbrev holding : List DrawopValue → Opened
  holding history = record { is = record host.is { held = history; calls = calls_apart }; random = host.random }

  taken_more : HostsRetold (taken batch host) (accepted d (taken (e ∷ es) host))
  taken_more =
      let same = batches_are_one host.is.cells host.is.held (e ∷ es) (d ∷ []) in
      record {
        calls = calls_apart;
        is = ap holding (sym same);
        alike = subst (λ (history : List DrawopValue). CallsAlike (Arrive (present host) (all history) ∷ host.is.calls) calls_apart) (sym same)
            (calls_back calls_apart (Arrive (present host) (all held_then) ∷ host.is.calls)
            (calls_then calls_apart (Arrive (present host) (some ++ more) ∷ host.is.calls) (Arrive (present host) (all held_then) ∷ host.is.calls)
            (arrived_apart (present host) some more host.is.calls) (arrived_alike (present host) (some ++ more) (all held_then) host.is.calls up down)));
      }

taken_next : (host : Opened) (waiting : List DrawopValue) (d : DrawopValue) (other : Opened) → HostsRetold (taken waiting host) other → HostsRetold (taken (waiting ++ d ∷ []) host) (accepted d other)
taken_next host [] d other h = subst (λ (one : Opened). HostsRetold one (accepted d other)) (sym (taken_alone d host)) (accepted_alike d host other h)
taken_next host (e ∷ es) d other h = hosts_then (taken (e ∷ (es ++ d ∷ [])) host) (accepted d (taken (e ∷ es) host)) (accepted d other) (taken_more host e es d) (accepted_alike d (taken (e ∷ es) host) other h)

-- ---- one line

-- A host that took each arrival as it came stands beside that of a script, once the present batch has ended.
abbrev Beside : Option Opened → List DrawopValue → Option Opened → Type 0
Beside None waiting None = Unit {0}
Beside (Some host) waiting (Some other) = HostsRetold (taken waiting host) other
Beside one waiting other = ⊥

abbrev IsBeside : Board → Option Opened → Type 0
IsBeside s other = Beside s.host s.waiting other

abbrev driven : Option Opened → State
driven other = record { tuning = script_constants; host = other }

abbrev so_far_at : Board → Option Counts
so_far_at s = so_far s.host s.waiting

-- A step of a script at a line that is such a part of its batch does as the answer of that host.
abbrev DoesSo : Part → Board → Answer → RunStep → Type 0
DoesSo (Arrival d) s a (moves_on t text) = (other : Option Opened) × (n : Counts) × (a ≡ gives other (batch_line n)) × (text ≡ []) × (so_far_at t ≡ Some (counted_with (so_far_at s) n)) × IsBeside t other
DoesSo Nothing s a (moves_on t text) = (other : Option Opened) × (a ≡ gives other []) × (text ≡ []) × (so_far_at t ≡ so_far_at s) × IsBeside t other
DoesSo (End c) s a (moves_on t text) = (other : Option Opened) × (printed : List ℕ) × (a ≡ gives other printed) × (text ≡ counted_text (so_far_at s) ++ printed) × (so_far_at t ≡ None) × IsBeside t other
DoesSo part s a (refused t text e) = text ++ closing t ≡ counted_text (so_far_at s)

closing_is : (k : Option ℕ) (host : Option Opened) (waiting : List DrawopValue) → closing (board k host waiting) ≡ counted_text (so_far host waiting)
closing_is k None waiting = refl
closing_is k (Some host) [] = refl
closing_is k (Some host) (d ∷ ds) = refl

ended_is : (k : Option ℕ) (host : Opened) (waiting : List DrawopValue) → closing (board k (Some host) waiting) ++ [] ≡ counted_text (so_far (Some host) waiting)
ended_is k host waiting = append-nil (closing (board k (Some host) waiting)) ∙ closing_is k (Some host) waiting

done_so : (k : Option ℕ) (host : Opened) (waiting : List DrawopValue) (c : Closing) (a b : Act) → DoRetold a b → DoesSo (End c) (board k (Some host) waiting) (answered b) (step_by k (closing (board k (Some host) waiting)) a (taken waiting host))
done_so k host waiting c (does next printed) (does next' printed') d = (Some next', printed', refl, ap₂ (λ (x y : List ℕ). x ++ y) (closing_is k (Some host) waiting) d.1, refl, d.0)
done_so k host waiting c (fails e) (fails e') d = ended_is k host waiting
done_so k host waiting c (does next printed) (fails e) d = absurd d
done_so k host waiting c (fails e) (does next printed) d = absurd d

acts_so : (k : Option ℕ) (host : Opened) (waiting : List DrawopValue) (other : Opened) (c : Closing) (line : Command) → HostsRetold (taken waiting host) other
    → DoesSo (End c) (board k (Some host) waiting) (answered (act line other)) (step_by k (closing (board k (Some host) waiting)) (act line (taken waiting host)) (taken waiting host))
acts_so k host waiting other c line h =
    let next = taken waiting host in
    done_so k host waiting c (act line next) (act line other) (subst (λ (g : Opened). DoRetold (act line next) (act line g)) (sym h.is) (act_retold next h.calls h.alike line))

arrives_so : (k : Option ℕ) (host : Opened) (waiting : List DrawopValue) (other : Opened) (d : DrawopValue) → HostsRetold (taken waiting host) other
    → DoesSo (Arrival d) (board k (Some host) waiting) (arrives d other) (moves_on (board k (Some host) (waiting ++ d ∷ [])) [])
arrives_so k host waiting other d h = (
  Some (accepted d other),
  counts_of (becomes d other ∷ []),
  refl,
  refl,
  so_far_with host waiting d ∙ ap (λ (g : Opened). Some (counted_with (so_far (Some host) waiting) (counts_of (becomes d g ∷ [])))) (sym h.is),
  taken_next host waiting d other h,
)

-- by the hosts
line_so : (k : Option ℕ) (host : Option Opened) (waiting : List DrawopValue) (other : Option Opened) (line : Command) → Beside host waiting other
    → DoesSo (part_of (Ok line)) (board k host waiting) (answer_to script_constants other (Script line)) (said_step (board k host waiting) waiting (Ok line))
line_so k None waiting None lines.Skip b = (None, refl, refl, refl, tt)
line_so k None waiting None (lines.Board member cells workers seed) b = let next = opened_with script_constants member cells seed in (Some next, [], refl, refl, refl, fresh next)
line_so k None waiting None line b = refl
line_so k (Some host) waiting (Some other) lines.Skip b = (Some other, refl, refl, refl, b)
line_so k (Some host) waiting (Some other) (lines.Board member cells workers seed) b = ended_is k host waiting
line_so k (Some host) waiting (Some other) (lines.Arrive d) b = arrives_so k host waiting other d b
line_so k (Some host) waiting (Some other) line b = acts_so k host waiting other (Acts line) line b
line_so k None waiting (Some other) line b = absurd b
line_so k (Some host) waiting None line b = absurd b

-- ---- all lines

-- From the present batch on, a text is what the blocks of lines print, of which none is refused.
abbrev Follows : Board → Option Opened → List InputLine → List ℕ → Type 0
Follows s other lines text = IsAddedUp lines (blocks_from (driven other) lines) (so_far_at s) text × AreGiven (driven other) lines

-- what follows the line from this state followed before with it
record GoesOn (s t : Board) (other : Option Opened) (line : InputLine) (x : List ℕ) : Type 0 where
  pub next : Option Opened
  pub beside : IsBeside t next
  pub on : (lines : List InputLine) (text : List ℕ) → Follows t next lines text → Follows s other (line ∷ lines) (x ++ text)

module _ (s t : Board) (other : Option Opened) (line : InputLine) (x : List ℕ) where
  abbrev here : Answer
  here = answer_of (driven other) (met line)

  abbrev Rest : List InputLine → Answer → Option Counts → List ℕ → Type 0
  Rest lines a n rest = IsAddedUp lines (blocks_from (state_after (driven other) a) lines) n rest

  -- the block is of this answer, and the line is such a part
  follows : (next : Option Opened) (printed : List ℕ) (part : Part) (lines : List InputLine) (text : List ℕ) → part_in line ≡ part → here ≡ gives next printed
      → AddsUp part (block (gives next printed)) (so_far_at s) (x ++ text) (Rest lines (gives next printed)) → AreGiven (driven next) lines → Follows s other (line ∷ lines) (x ++ text)
  follows next printed part lines text part_is is adds given = (
    subst (λ (p : Part). AddsUp p (block here) (so_far_at s) (x ++ text) (Rest lines here)) (sym part_is)
        (subst (λ (a : Answer). AddsUp part (block a) (so_far_at s) (x ++ text) (Rest lines a)) (sym is) adds),
    ((next, printed, is), subst (λ (a : Answer). AreGiven (state_after (driven other) a) lines) (sym is) given),
  )

  goes_on : (part : Part) → part_in line ≡ part → DoesSo part s here (moves_on t x) → GoesOn s t other line x
  goes_on (Arrival d) part_is p = record {
    next = p.0;
    beside = p.5;
    on = λ lines text f. follows p.0 (batch_line p.1) (Arrival d) lines text part_is p.2 (
      p.1,
      (due p.0, refl),
      subst (λ (l : List ℕ). IsAddedUp lines (blocks_from (driven p.0) lines) (Some (counted_with (so_far_at s) p.1)) l) (ap (λ (l : List ℕ). l ++ text) (sym p.3))
          (subst (λ (n : Option Counts). IsAddedUp lines (blocks_from (driven p.0) lines) n text) p.4 f.0),
    ) f.1;
  }
  goes_on Nothing part_is p = record {
    next = p.0;
    beside = p.4;
    on = λ lines text f. follows p.0 [] Nothing lines text part_is p.1 (
      (due p.0, refl),
      subst (λ (l : List ℕ). IsAddedUp lines (blocks_from (driven p.0) lines) (so_far_at s) l) (ap (λ (l : List ℕ). l ++ text) (sym p.2))
          (subst (λ (n : Option Counts). IsAddedUp lines (blocks_from (driven p.0) lines) n text) p.3 f.0),
    ) f.1;
  }
  goes_on (End c) part_is p = record {
    next = p.0;
    beside = p.5;
    on = λ lines text f. follows p.0 p.1 (End c) lines text part_is p.2 (
      p.1,
      text,
      (due p.0, refl),
      ap (λ (l : List ℕ). l ++ text) p.3 ∙ append_assoc (counted_text (so_far_at s)) p.1 text,
      subst (λ (n : Option Counts). IsAddedUp lines (blocks_from (driven p.0) lines) n text) p.4 f.0,
    ) f.1;
  }

-- At the end of the lines, a text is what the blocks of all that are answered print; where a line is refused, what those before it print.
abbrev Agrees : Bool → ℕ → Board → Option Opened → List InputLine → RunOutcome → Type 0
Agrees cut n s other lines (prints text (Ok summary)) = Follows s other (answered_lines cut lines) text
Agrees cut n s other lines (prints text (Err run_faults.Read)) = Follows s other (answered_lines cut lines) text
Agrees cut n s other lines (prints text (Err (run_faults.Line number e))) = (front : List InputLine) × (behind : List InputLine) × (lines ≡ front ++ behind) × (number ≡ n + length front + 1) × Follows s other front text
Agrees cut n s other lines (prints text (Err run_faults.Write)) = Unit {0}
Agrees cut n s other lines (prints text (Err run_faults.Memory)) = Unit {0}
Agrees cut n s other lines (prints text (Err run_faults.Start)) = Unit {0}
Agrees cut n s other lines (prints text (Err run_faults.Endless)) = Unit {0}

module _ (s t : Board) (other : Option Opened) (line : InputLine) (x : List ℕ) (g : GoesOn s t other line x) where
  all_follow : (cut : Bool) (lines : List InputLine) (text : List ℕ) → is_taken cut line ≡ true → Follows t g.next (answered_lines cut lines) text → Follows s other (answered_lines cut (line ∷ lines)) (x ++ text)
  all_follow cut lines text taken f = subst (λ (b : Bool). Follows s other (if b then line ∷ answered_lines cut lines else []) (x ++ text)) (sym taken) (g.on (answered_lines cut lines) text f)

  agrees_on : (cut : Bool) (n : ℕ) (lines : List InputLine) (o : RunOutcome) → is_taken cut line ≡ true → Agrees cut (n + 1) t g.next lines o → Agrees cut n s other (line ∷ lines) (printed_before x o)
  agrees_on cut n lines (prints text (Ok summary)) taken f = all_follow cut lines text taken f
  agrees_on cut n lines (prints text (Err run_faults.Read)) taken f = all_follow cut lines text taken f
  agrees_on cut n lines (prints text (Err (run_faults.Line number e))) taken f = (
    line ∷ f.0,
    f.1,
    ap (λ (l : List InputLine). line ∷ l) f.2,
    let many = f.3 in omega arith,
    g.on f.0 text f.4,
  )
  agrees_on cut n lines (prints text (Err run_faults.Write)) taken f = tt
  agrees_on cut n lines (prints text (Err run_faults.Memory)) taken f = tt
  agrees_on cut n lines (prints text (Err run_faults.Start)) taken f = tt
  agrees_on cut n lines (prints text (Err run_faults.Endless)) taken f = tt

refused_here : (cut : Bool) (n : ℕ) (s t : Board) (other : Option Opened) (lines : List InputLine) (text : List ℕ) (e : LineFault) → text ++ closing t ≡ counted_text (so_far_at s)
    → Agrees cut n s other lines (printed_before text (finish t t.waiting (Err (run_faults.Line (n + 1) e))))
refused_here cut n s t other lines text e shift = ([], lines, refl, omega arith, (shift, tt))

none_follows : (s : Board) (other : Option Opened) → Follows s other [] (closing s)
none_follows s other = (closing_is s.workers s.host s.waiting, tt)

step_so : (cut : Bool) (n : ℕ) (s : Board) (other : Option Opened) (line : InputLine) (lines : List InputLine) (part : Part) (step : RunStep) (rest : Board → RunOutcome) → part_in line ≡ part → is_taken cut line ≡ true
    → DoesSo part s (answer_of (driven other) (met line)) step → ((t : Board) (next : Option Opened) → IsBeside t next → Agrees cut (n + 1) t next lines (rest t)) → Agrees cut n s other (line ∷ lines) (follow_step (n + 1) step rest)
step_so cut n s other line lines part (moves_on t x) rest part_is taken so on = let g = goes_on s t other line x part part_is so in agrees_on s t other line x g cut n lines (rest t) taken (on t g.next g.beside)
step_so cut n s other line lines (Arrival d) (refused t x e) rest part_is taken so on = refused_here cut n s t other (line ∷ lines) x e so
step_so cut n s other line lines Nothing (refused t x e) rest part_is taken so on = refused_here cut n s t other (line ∷ lines) x e so
step_so cut n s other line lines (End c) (refused t x e) rest part_is taken so on = refused_here cut n s t other (line ∷ lines) x e so

module _ (cut : Bool) (n : ℕ) (s : Board) (other : Option Opened) (line : InputLine) (lines : List InputLine) (rest : Board → RunOutcome) (beside : IsBeside s other)
    (on : (t : Board) (next : Option Opened) → IsBeside t next → Agrees cut (n + 1) t next lines (rest t)) where
  takes : (said : Result Command LineFault) → script_line_of (content line) ≡ said → is_short line ≡ true → is_taken cut line ≡ true → Agrees cut n s other (line ∷ lines) (follow_step (n + 1) (said_step s s.waiting said) rest)
  takes (Err e) is short taken = refused_here cut n s (after_batch s s.waiting) other (line ∷ lines) (closing s) e (closing_again s ∙ closing_is s.workers s.host s.waiting)
  takes (Ok said) is short taken =
      step_so cut n s other line lines (part_of (Ok said)) (said_step s s.waiting (Ok said)) rest (ap part_of is) taken
      (subst (λ (a : Answer). DoesSo (part_of (Ok said)) s a (said_step s s.waiting (Ok said))) (sym (answer_is (driven other) line said short is)) (line_so s.workers s.host s.waiting other said beside)) on

  agrees_line : (within complete : Bool) → (nat_lt n most_lines && nat_le (length line.bytes) most_bytes) ≡ within → (line.ended || not cut) ≡ complete
      → Agrees cut n s other (line ∷ lines) (continue (cond within (cond complete None (Some run_faults.Read)) (Some run_faults.Endless)) (n + 1) s (content line) rest)
  agrees_line true true few is = takes (script_line_of (content line)) refl (second_so (nat_lt n most_lines) (is_short line) few) (or_right (not (is_short line)) (line.ended || not cut) is)
  agrees_line true false few is =
      let left : is_taken cut line ≡ false = neither (is_short line) (line.ended || not cut) (second_so (nat_lt n most_lines) (is_short line) few) is in
      subst (λ (b : Bool). Follows s other (if b then line ∷ answered_lines cut lines else []) (closing s)) (sym left) (none_follows s other)
  agrees_line false complete few is = tt

at_end : (cut : Bool) (n : ℕ) (s : Board) (other : Option Opened) → Agrees cut n s other [] (finish s s.waiting (cond cut (Err run_faults.Read) (Ok n)))
at_end true n s other = none_follows s other
at_end false n s other = none_follows s other

agrees : (cut : Bool) (n : ℕ) (s : Board) (other : Option Opened) (lines : List InputLine) → IsBeside s other → Agrees cut n s other lines (run_outcome_from cut n s lines)
agrees cut n s other [] beside = at_end cut n s other
agrees cut n s other (line ∷ lines) beside =
    agrees_line cut n s other line lines (λ t. run_outcome_from cut (n + 1) t lines) beside (λ t next b. agrees cut (n + 1) t next lines b)
    (nat_lt n most_lines && nat_le (length line.bytes) most_bytes) (line.ended || not cut) refl refl

-- ---- whole scripts

-- what a host prints for lines that are not refused, from before its board is open
printed_whole : (lines : List InputLine) (text : List ℕ) → IsAddedUp lines (blocks_from (driven None) lines) None text → AreGiven (driven None) lines → PrintsAddedUp lines text
printed_whole lines text printed given = subst (λ (blocks : List (List ℕ)). IsAddedUp lines blocks None text) (blocks_given script_constants lines given) printed

refused_told : (input text : List ℕ) (number : ℕ) (front behind : List InputLine) → input_lines input ≡ front ++ behind → number ≡ 0 + length front + 1 → PrintsAddedUp front text → PrintsAddedUp (take (number - 1) (input_lines input)) text
refused_told input text number front behind is many told =
    let count : number - 1 ≡ length front = omega arith in
    let same : take (number - 1) (input_lines input) ≡ front = ap (λ (k : ℕ). take k (input_lines input)) count ∙ ap (take (length front)) is ∙ take-append_seam front behind in
    subst (λ (lines : List InputLine). PrintsAddedUp lines text) (sym same) told

told_so : (workers : Option ℕ) (cut : Bool) (input : List ℕ) (o : RunOutcome) → Agrees cut 0 (run_start workers) None (input_lines input) o → IsRunTold cut input o
told_so workers cut input (prints text (Ok summary)) f = printed_whole (answered_lines cut (input_lines input)) text f.0 f.1
told_so workers cut input (prints text (Err run_faults.Read)) f = printed_whole (answered_lines cut (input_lines input)) text f.0 f.1
told_so workers cut input (prints text (Err (run_faults.Line number e))) f = refused_told input text number f.0 f.1 f.2 f.3 (printed_whole f.0 text f.4.0 f.4.1)
told_so workers cut input (prints text (Err run_faults.Write)) f = tt
told_so workers cut input (prints text (Err run_faults.Memory)) f = tt
told_so workers cut input (prints text (Err run_faults.Start)) f = tt
told_so workers cut input (prints text (Err run_faults.Endless)) f = tt

pub thread_is_told : ThreadIsTold
thread_is_told workers cut input = told_so workers cut input (run_outcome workers cut input) (agrees cut 0 (run_start workers) None (input_lines input) tt)

pub run_is_told : RunIsTold
run_is_told workers cut input o h =
    let other = workers_are_one_thread workers cut input o h in
    (other.0, other.1, subst (IsRunTold cut other.0) (sym other.2) (thread_is_told workers cut other.0))
