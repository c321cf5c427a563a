-- What a line does, from what its parts do.
use Rattle.std.proofs.Common.{◌≡◌, ℕ, Bool, true, false, List, [], ◌∷◌, ◌++◌, Result, Ok, Err, refl, sym, ap, subst, ◌∙◌, append_assoc, arith, ◌≤◌, Option, Some, None, IsPermutation, unwrap_or, append-nil}
use Rattle.std.proofs.lemmas.Bool.{false≢true, true≢false}
use Rattle.std.proofs.lemmas.List.Sorted.{length_permutation}
use Rattle.wb_names.specs.Values.{DrawopValue}
use Rattle.wb_names.specs.Arrivals.{Counts, counts_of, outcomes_of}
use Rattle.wb_lines.specs.declared.handler.Stop.{Stop}
use Rattle.wb_lines.specs.declared.handler.Stop.TheVariants as stops
use Rattle.wb_lines.specs.declared.lines.Seen.TheVariants as seens
use Rattle.wb_lines.specs.Input.{InputLine, BeginsWith}
use Rattle.wb_lines.specs.Handling.{whole, Step as LineStep, goes as goes_on, stops as stops_at, ends as ends_at, step_text, Does}
use Rattle.wb_lines.specs.Moments.{LinesValue, HasJoined, is_broken}
use Rattle.wb_lines.specs.Steps.{DoesOne, TakesAll as TakesGroup, DoesGroup}
use Rattle.wb_commands.specs.declared.fault.LineFault.{LineFault}
use Rattle.wb_commands.specs.declared.fault.LineFault.TheVariants as faults
use Rattle.wb_commands.specs.declared.fault.Untaken.{Untaken}
use Rattle.wb_commands.specs.declared.fault.Untaken.TheVariants as untaken
use Rattle.wb_commands.specs.declared.command.Command.{Command}
use Rattle.wb_commands.specs.Answers.{batch_line}
use Rattle.wb_commands.specs.Acts.{Act, does, fails, act}
use Rattle.wb_commands.specs.Doing.{DoesAct}
use Rattle.wb_member.specs.Board.{Held}
use Rattle.wb_member.specs.Opened.{Opened, batched, board_of, by_host}
use Rattle.wb_member.specs.Holding.{MemberValue, IsOpenAt, MayBeOpenAt}
use Rattle.wb_script.specs.declared.said.Said.{Said}
use Rattle.wb_script.specs.Hosts.{script_host, taken as order_taken, batch_text}
use Rattle.wb_script.specs.Shows.{arrivals_of}
use Rattle.wb_script.specs.Script.{RunState, IsAlone, MayBeTaken, InSomeOrder, Opens, Acts, Faulty, Part, Arrival, Nothing, End, part_in, moves_on, refused, closing_text, after_batch, step_by, closing_step, part_step, RunStep}
use Rattle.wb_script.specs.Inside.Parts.{EndsBatchAt, is_arrival, by_batches}
use Rattle.wb_script.specs.Inside.Steps.{HostValue, IsRunAt, with_more, as_step, MayDo, may_take_at, may_take, MayDoStep, faulted}
use Rattle.wb_script.specs.Inside.Taking.{TakesLines, Prints}
use Rattle.wb_script.proofs.Telling.{settles}
use Rattle.wb_script.proofs.SomeSteps.{some_step}
use Rattle.wb_script.proofs.Outcomes.{as_it_came}

-- ---- what follows the end of a batch

-- no board is open
acts_nowhere : (k : Option ℕ) (refusal : Bool) (t : RunState) (text : List ℕ) (line : Command) → IsRunAt (record { member = None; workers = k; refused = refusal }) t
    → Does {U = Unit {0}} (IsRunAt (record { member = None; workers = k; refused = refusal })) text (Err (stops.Fault faults.NoBoard)) (as_step (closing_step t text (Acts line)))
acts_nowhere k refusal t text line is = at t.host is.member where
  at : (host : Option Opened) → MayBeOpenAt None host → Does {U = Unit {0}} (IsRunAt (record { member = None; workers = k; refused = refusal })) text (Err (stops.Fault faults.NoBoard)) (as_step (by_host host (refused t text faults.NoBoard) (λ host. step_by t.workers text (act line host) host)))
  at None o = (refl, refl)
  at (Some host) o = absurd o

-- a front of a text, behind another
begun_behind : (text more b : List ℕ) → BeginsWith more b → BeginsWith (text ++ more) (text ++ b)
begun_behind text more b d = (d.0, ap (λ (x : List ℕ). text ++ x) d.1 ∙ sym (append_assoc text b d.0))

-- the line was done
act_done : (k j : Option ℕ) (refusal : Bool) (host : Opened) (w : MemberValue) (text b : List ℕ) (r : Result (Unit {0}) Untaken) (a : Act) → k ≡ j → DoesAct host w b r a → Does (IsRunAt (record { member = Some w; workers = k; refused = refusal })) (text ++ b) (faulted r) (as_step (step_by j text a host))
act_done k j refusal host w text b (Ok u) (does next printed) same d = (ap (λ (x : List ℕ). text ++ x) d.1, record { member = d.0; workers = same; waiting = refl })
act_done k j refusal host w text b (Ok u) (fails e) same d = absurd d
act_done k j refusal host w text b (Err (untaken.Line f)) (does next printed) same d = absurd d
act_done k j refusal host w text b (Err (untaken.Line f)) (fails e) same d = (ap (λ (x : List ℕ). text ++ x) d.2 ∙ append-nil text, d.0)
act_done k j refusal host w text b (Err untaken.Memory) (does next printed) same d = begun_behind text printed b d
act_done k j refusal host w text b (Err untaken.Memory) (fails e) same d = subst (λ (t : List ℕ). BeginsWith t (text ++ b)) (append-nil text) (begun_behind text [] b d)

acts_done : (t : RunState) (k : Option ℕ) (refusal : Bool) (v w : MemberValue) (text b : List ℕ) (line : Command) (r : Result (Unit {0}) Untaken) → IsRunAt (record { member = Some v; workers = k; refused = refusal }) t
    → ((host : Opened) → IsOpenAt v host → DoesAct host w b r (act line host)) → Does (IsRunAt (record { member = Some w; workers = k; refused = refusal })) (text ++ b) (faulted r) (as_step (closing_step t text (Acts line)))
acts_done t k refusal v w text b line r is d = at t.host is.member where
  at : (host : Option Opened) → MayBeOpenAt (Some v) host → Does (IsRunAt (record { member = Some w; workers = k; refused = refusal })) (text ++ b) (faulted r) (as_step (by_host host (refused t text faults.NoBoard) (λ host. step_by t.workers text (act line host) host)))
  at None o = absurd o
  at (Some host) o = act_done k t.workers refusal host w text b r (act line host) is.workers (d host o)

-- ---- the same, at the end of a batch that has no arrivals

-- a host is there, and this is printed
pub record EndsEmpty (h : HostValue) (s : RunState) (order : List DrawopValue) : Type 0 where
  pub leads : IsRunAt h (after_batch s order)
  pub text : [] ≡ closing_text s order

pub ends_nowhere : (s : RunState) (order : List DrawopValue) (mid : HostValue) (v : Option MemberValue) (k : Option ℕ) (refusal : Bool) (line : Command) → record { member = v; workers = k; refused = refusal } ≡ mid → v ≡ None → EndsEmpty mid s order
    → Does {U = Unit {0}} (IsRunAt (record { member = v; workers = k; refused = refusal })) [] (Err (stops.Fault faults.NoBoard)) (as_step (closing_step (after_batch s order) (closing_text s order) (Acts line)))
ends_nowhere s order mid (Some v) k refusal line view none ends = absurd cc
ends_nowhere s order mid None k refusal line view none ends =
    subst (λ (x : List ℕ). Does {U = Unit {0}} (IsRunAt (record { member = None; workers = k; refused = refusal })) x (Err (stops.Fault faults.NoBoard)) (as_step (closing_step (after_batch s order) (closing_text s order) (Acts line)))) (sym ends.text)
    (acts_nowhere k refusal (after_batch s order) (closing_text s order) line (subst (λ (h : HostValue). IsRunAt h (after_batch s order)) (sym view) ends.leads))

pub ends_then : (s : RunState) (order : List DrawopValue) (mid : HostValue) (o : Option MemberValue) (v w : MemberValue) (k : Option ℕ) (refusal : Bool) (b : List ℕ) (line : Command) (r : Result (Unit {0}) Untaken) → record { member = o; workers = k; refused = refusal } ≡ mid → o ≡ Some v → EndsEmpty mid s order
    → ((host : Opened) → IsOpenAt v host → DoesAct host w b r (act line host)) → Does (IsRunAt (record { member = Some w; workers = k; refused = refusal })) b (faulted r) (as_step (closing_step (after_batch s order) (closing_text s order) (Acts line)))
ends_then s order mid o v w k refusal b line r view some ends d =
    let there : IsRunAt (record { member = o; workers = k; refused = refusal }) (after_batch s order) = subst (λ (h : HostValue). IsRunAt h (after_batch s order)) (sym view) ends.leads in
    let known : IsRunAt (record { member = Some v; workers = k; refused = refusal }) (after_batch s order) = subst (λ (p : Option MemberValue). IsRunAt (record { member = p; workers = k; refused = refusal }) (after_batch s order)) some there in
    subst (λ (x : List ℕ). Does (IsRunAt (record { member = Some w; workers = k; refused = refusal })) (x ++ b) (faulted r) (as_step (closing_step (after_batch s order) (closing_text s order) (Acts line)))) (sym ends.text)
    (acts_done (after_batch s order) k refusal v w (closing_text s order) b line r known d)

-- a board is opened
pub opens : (old new : HostValue) (s : RunState) (order : List DrawopValue) (v : MemberValue) (member cells workers seed : ℕ) → EndsEmpty old s order → old.member ≡ None → new.member ≡ Some v → new.workers ≡ Some (unwrap_or old.workers workers) → IsOpenAt v (script_host member cells seed)
    → Does {U = Unit {0}} (IsRunAt new) [] (Ok tt) (as_step (closing_step (after_batch s order) (closing_text s order) (Opens member cells workers seed)))
opens old new s order v member cells workers seed ends closed open_now known is = go (after_batch s order).host (subst (λ (x : Option MemberValue). MayBeOpenAt x (after_batch s order).host) closed ends.leads.member) where
  go : (host : Option Opened) → MayBeOpenAt None host
      → Does {U = Unit {0}} (IsRunAt new) [] (Ok tt) (as_step (by_host host (moves_on (record { host = Some (script_host member cells seed); workers = Some (unwrap_or s.workers workers); waiting = [] }) (closing_text s order)) (λ host. refused (after_batch s order) (closing_text s order) faults.SecondBoard)))
  go None o = (
    ends.text,
    record {
      member = subst (λ (x : Option MemberValue). MayBeOpenAt x (Some (script_host member cells seed))) (sym open_now) is;
      workers = known ∙ ap (λ (k : Option ℕ). Some (unwrap_or k workers)) ends.leads.workers;
      waiting = refl;
    },
  )
  go (Some host) o = absurd o

-- of a batch without arrivals
empty_member : (v : Option MemberValue) (host : Option Opened) → MayBeOpenAt v host → MayBeOpenAt v (by_host host None (λ host. Some (order_taken [] host)))
empty_member None None o = o
empty_member (Some v) (Some host) o = record { board = o.board; keeper = o.keeper; words = o.words }
empty_member v host o = absurd o

empty_text : (host : Option Opened) → [] ≡ by_host host [] (λ host. batch_text (board_of host) [])
empty_text None = refl
empty_text (Some host) = refl

-- what the end of a batch that is taken in this order leads to
abbrev after_order : RunState → List DrawopValue → RunState
after_order s order = record { host = by_host s.host None (λ host. Some (order_taken order host)); workers = s.workers; waiting = [] }

pub ends_empty : (h : HostValue) (s : RunState) → IsRunAt h s → InSomeOrder s (EndsEmpty h s)
ends_empty h s at =
    let there : IsRunAt h (after_order s []) = record { member = empty_member h.member s.host at.member; workers = at.workers; waiting = refl } in (
      s.waiting,
      as_it_came s.workers s.waiting,
      record {
        leads = subst (λ (l : List DrawopValue). IsRunAt h (after_order s l)) (sym at.waiting) there;
        text = subst (λ (l : List DrawopValue). [] ≡ by_host s.host [] (λ host. batch_text (board_of host) l)) (sym at.waiting) (empty_text s.host);
      },
    )

-- what memory stopped before it was printed
pub stopped : (new : HostValue) (s : RunState) (step : RunStep) → Does {U = Unit {0}} (IsRunAt new) [] (Err stops.Memory) (as_step step)
stopped new s (moves_on t text) = (text, refl)
stopped new s (refused t text e) = (text, refl)

-- a line with a fault
pub refuses : (new old : HostValue) (s : RunState) (e : LineFault) → IsRunAt old s → MayDoStep {U = Unit {0}} s new [] (Err (stops.Fault e)) (λ order. part_step s order (End (Faulty e)))
refuses new old s e at = let b = ends_empty old s at in (b.0, b.1, (b.2.text, refl))

-- one that is skipped
pub skips : (h : HostValue) (s : RunState) → IsRunAt h s → MayDoStep {U = Unit {0}} s h [] (Ok tt) (λ order. part_step s order Nothing)
skips h s at = (s.waiting, as_it_came s.workers s.waiting, (refl, at))

-- ---- a line of its own

pub ends_apart : (part : Part) → EndsBatchAt part → is_arrival part ≡ false
ends_apart (End c) e = refl
ends_apart Nothing e = absurd e
ends_apart (Arrival d) e = absurd e

abbrev StepOf : Type 0
StepOf = LineStep RunState LineFault

one_of : (May : StepOf → Type 0) (is_at : RunState → Type 0) (printed : List ℕ) (step : StepOf) (result : Result (Unit {0}) (Stop LineFault)) → May step → Does is_at printed result step → DoesOne is_at printed May result
one_of May is_at printed (goes_on text next) (Ok u) may d = (next, d.1, subst (λ (x : List ℕ). May (goes_on x next)) (sym d.0) may)
one_of May is_at printed (stops_at text e) (Err (stops.Fault f)) may d = rw (d.0, d.1) may
one_of May is_at printed (ends_at text) (Err stops.Endless) may d = rw d may
one_of May is_at printed step (Err stops.Memory) may d = (step, may, d)
one_of May is_at printed step result may d = absurd d

does_more : (A B : StepOf → Type 0) (is_at : RunState → Type 0) (printed : List ℕ) (result : Result (Unit {0}) (Stop LineFault)) → ((step : StepOf) → A step → B step) → DoesOne is_at printed A result → DoesOne is_at printed B result
does_more A B is_at printed (Ok u) on d = (d.0, d.1, on (goes_on printed d.0) d.2)
does_more A B is_at printed (Err (stops.Fault f)) on d = on (stops_at printed f) d
does_more A B is_at printed (Err stops.Endless) on d = on (ends_at printed) d
does_more A B is_at printed (Err stops.Memory) on d = (d.0, on d.0 d.1, d.2)

at_host : (s : RunState) (host : Option Opened) (part : Part) (joined : List InputLine) (step : StepOf) → is_arrival part ≡ false → MayDo s part step → may_take_at s host part joined step
at_host s None part joined step e may = may
at_host s (Some host) Nothing joined step e may = may
at_host s (Some host) (End c) joined step e may = may
at_host s (Some host) (Arrival d) joined step e may = absurd (true≢false e)

group_of : (first : InputLine) (v : LinesValue Said) (is_at : RunState → Type 0) (printed : List ℕ) (May : List InputLine → StepOf → Type 0) (result : Result (Unit {0}) (Stop LineFault)) → v.seen ≡ seens.Nothing → is_arrival (part_in first) ≡ false
    → ((joined : List InputLine) → DoesOne is_at printed (May joined) result) → DoesGroup by_batches is_at printed May first [] v result
group_of first v is_at printed May (Ok u) seen apart did = rw seen (tt, λ e. absurd (false≢true (sym apart ∙ e)), did [])
group_of first v is_at printed May (Err e) seen apart did = did

pub lone : (s : RunState) (number : ℕ) (part : Part) (first : InputLine) (v : LinesValue Said) (new : HostValue) (printed : List ℕ) (result : Result (Unit {0}) (Stop LineFault)) → v.seen ≡ seens.Nothing → part_in first ≡ part → is_arrival part ≡ false
    → MayDoStep s new printed result (λ order. part_step s order part) → DoesGroup by_batches (IsRunAt new) printed (may_take s number (whole first)) first [] v result
lone s number part first v new printed result seen is apart did =
    group_of first v (IsRunAt new) printed (may_take s number (whole first)) result seen (ap is_arrival is ∙ apart) (λ joined.
    subst (λ (x : Part). DoesOne (IsRunAt new) printed (may_take_at s s.host x joined) result) (sym is)
    (does_more (MayDo s part) (may_take_at s s.host part joined) (IsRunAt new) printed result (λ step may. at_host s s.host part joined step apart may)
    (one_of (MayDo s part) (IsRunAt new) printed (as_step (part_step s did.0 part)) result (did.0, did.1, refl) did.2)))

-- ---- a batch

-- no board is open
pub arrives_nowhere : (s : RunState) (number : ℕ) (h new : HostValue) (d : DrawopValue) (first : InputLine) (v : LinesValue Said) → IsRunAt h s → h.member ≡ None → part_in first ≡ Arrival d
    → DoesGroup {U = Unit {0}} by_batches (IsRunAt new) [] (may_take s number (whole first)) first [] v (Err (stops.Fault faults.NoBoard))
arrives_nowhere s number h new d first v at none is = λ all. subst (λ (part : Part). may_take_at s s.host part all (stops_at [] faults.NoBoard)) (sym is) (go s.host refl (subst (λ (x : Option MemberValue). MayBeOpenAt x s.host) none at.member) all) where
  go : (host : Option Opened) → s.host ≡ host → MayBeOpenAt None host → (all : List InputLine) → may_take_at s host (Arrival d) all (stops_at [] faults.NoBoard)
  go None there o all = (
    s.waiting,
    as_it_came s.workers s.waiting,
    sym (ap (λ (x : Option Opened). as_step (by_host x (refused s [] faults.NoBoard) (λ h. moves_on (record { host = s.host; workers = s.workers; waiting = s.waiting ++ d ∷ [] }) []))) there),
  )
  go (Some host) there o all = absurd o

-- it was not taken, or not printed
pub arrives_refused : (s : RunState) (number : ℕ) (new : HostValue) (first : InputLine) (joined : List InputLine) (v : LinesValue Said) (printed : List ℕ) → printed ≡ []
    → DoesGroup {U = Unit {0}} by_batches (IsRunAt new) printed (may_take s number (whole first)) first joined v (Err stops.Memory)
arrives_refused s number new first joined v printed none = λ all. let one = some_step s number (whole first) all in (one.0, one.1, (step_text one.0, ap (λ (t : List ℕ). t ++ step_text one.0) (sym none)))

-- it was taken in some order
taken_in : (old after : MemberValue) (d : DrawopValue) (ds order : List DrawopValue) (n : Counts) (host : Opened) → IsPermutation (d ∷ ds) order → IsOpenAt old host → IsOpenAt after (batched (d ∷ ds) order host)
    → n ≡ counts_of (outcomes_of old.board.cells old.board.drawops order) → IsOpenAt after (order_taken order host) × (batch_line n ≡ batch_text (board_of host) order)
taken_in old after d ds [] n host moved at leads counts = let long = length_permutation (d ∷ ds) [] moved in absurd (omega (arith, long))
taken_in old after d ds (e ∷ es) n host moved at leads counts = (
  settles host (d ∷ ds) (e ∷ es) after moved (record { board = leads.board; keeper = leads.keeper; words = leads.words }),
  ap batch_line counts ∙ ap (λ (h : Held). batch_line (counts_of (outcomes_of h.cells h.drawops (e ∷ es)))) at.board,
)

open_host : (s : RunState) (v : MemberValue) → MayBeOpenAt (Some v) s.host → (host : Opened) × (s.host ≡ Some host) × IsOpenAt v host
open_host s v o = go s.host o refl where
  go : (x : Option Opened) → MayBeOpenAt (Some v) x → s.host ≡ x → (host : Opened) × (s.host ≡ Some host) × IsOpenAt v host
  go None is e = absurd is
  go (Some host) is e = (host, e, is)

may_order : (s : RunState) (workers : ℕ) (batch order : List DrawopValue) → s.waiting ≡ [] → (IsAlone s.workers → workers ≤ 1) → MayBeTaken (Some workers) batch order → MayBeTaken s.workers (s.waiting ++ batch) order
may_order s workers batch order none few may =
    subst (λ (w : List DrawopValue). MayBeTaken s.workers (w ++ batch) order) (sym none) (record { moved = may.moved; alone = λ a. may.alone (few a) })

has_joined : (first : InputLine) (joined : List InputLine) → is_arrival (part_in first) ≡ true → HasJoined by_batches first joined
has_joined first [] e = tt
has_joined first (j ∷ js) e = e

pub arrives_open : (s : RunState) (number : ℕ) (old : HostValue) (v after : MemberValue) (k : Option ℕ) (refusal : Bool) (workers : ℕ) (d : DrawopValue) (first : InputLine) (joined : List InputLine) (lines : LinesValue Said) (counted : Counts) (printed : List ℕ)
    → IsRunAt old s → old.member ≡ Some v → k ≡ old.workers → (IsAlone k → workers ≤ 1) → part_in first ≡ Arrival d → TakesLines v workers d joined lines counted after → Prints (is_broken lines.seen) printed counted
    → DoesGroup {U = Unit {0}} by_batches (IsRunAt (record { member = Some after; workers = k; refused = refusal })) printed (may_take s number (whole first)) first joined lines (Ok tt)
arrives_open s number old v after k refusal workers d first joined lines counted printed at there same few is takes prints = go (is_broken lines.seen) prints where
  new : HostValue
  new = record { member = Some after; workers = k; refused = refusal }

  batch : List DrawopValue
  batch = d ∷ arrivals_of joined

  order : List DrawopValue
  order = takes.taken.order

  m : RunState
  m = with_more s batch

  o : (host : Opened) × (s.host ≡ Some host) × IsOpenAt v host
  o = open_host s v (subst (λ (x : Option MemberValue). MayBeOpenAt x s.host) there at.member)

  done : IsOpenAt after (order_taken order o.0) × (batch_line counted ≡ batch_text (board_of o.0) order)
  done = taken_in v after d (arrivals_of joined) order counted o.0 takes.taken.may.moved o.2 (takes.taken.leads o.0 o.2) takes.taken.counts

  is_at : IsRunAt new (after_batch m order)
  is_at = record {
    member = subst (λ (x : Option Opened). MayBeOpenAt (Some after) (by_host {X = Option Opened} x None (λ h. Some (order_taken order h)))) (sym o.1) done.0;
    workers = same ∙ at.workers;
    waiting = refl;
  }

  may : MayBeTaken m.workers m.waiting order
  may = may_order s workers batch order at.waiting (λ a. few (subst IsAlone (sym (same ∙ at.workers)) a)) takes.taken.may

  text : closing_text m order ≡ batch_line counted
  text = ap (λ (x : Option Opened). by_host {X = List ℕ} x [] (λ h. batch_text (board_of h) order)) o.1 ∙ sym done.1

  step : printed ≡ batch_line counted → may_take s number (whole first) joined (goes_on printed (after_batch m order))
  step e = subst (λ (part : Part). may_take_at s s.host part joined (goes_on printed (after_batch m order))) (sym is)
      (subst (λ (x : Option Opened). may_take_at s x (Arrival d) joined (goes_on printed (after_batch m order))) (sym o.1)
      (order, may, ap (λ (t : List ℕ). goes_on t (after_batch m order)) (e ∙ sym text)))

  go : (b : Bool) → Prints b printed counted → TakesGroup b by_batches (IsRunAt new) printed (may_take s number (whole first)) first joined lines
  go true p = p
  go false p = (has_joined first joined (ap is_arrival is), λ e. takes.behind, (after_batch m order, is_at, step p))
