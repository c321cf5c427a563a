-- A session of judged members keeps to the terms of one of self-managing members.
use Rattle.std.proofs.Common.{◌≡◌, ◌≤◌, ℕ, Bool, true, false, cond, List, [], ◌∷◌, ◌++◌, ◌∙◌, None, ap, eq-eqb, map, refl, subst, sym}
use Rattle.std.specs.Prelude.{Contains, Option, Some, nat_eq}
use Rattle.std.specs.Option.{option_map}
use Rattle.std.proofs.lemmas.List.Elements.{Contains-append_left, Contains-append_right}
use Rattle.wb_names.specs.Faults.{fault_unless, first_of}
use Rattle.wb_names.specs.Values.{DrawopValue}
use Rattle.wb_names.specs.declared.name.PageId.{PageId}
use Rattle.wb_names.specs.declared.parts.Op.{Op}
use Rattle.wb_names.proofs.Listings.{Contains-here, Contains-none}
use Rattle.wb_codec.specs.declared.datagram.Datagram.{Datagram}
use Rattle.wb_codec.specs.declared.datagram.Datagram.TheVariants.{Draw}
use Rattle.wb_recovery.specs.Timing.{are_constants}
use Rattle.wb_recovery.specs.declared.tuning.Tuning.{Tuning}
use Rattle.wb_member.specs.Opened.{Opened, last_number, present}
use Rattle.wb_keeper.specs.declared.keep_fault.KeepFault.TheVariants.{Range}
use Rattle.wb_judge.specs.Adding.{adding_fault}
use Rattle.wb_judge.specs.Days.{time_of_day}
use Rattle.wb_judge.specs.Judging.{draws}
use Rattle.wb_keeping.specs.Laws.{Added, AreTaken as AreKeptLinesTaken, Came, KeptLine, Ticked, Tuned, doing_of, fault_of}
use Rattle.wb_keeping.specs.Performing.{Keeping, after_doing}
use Rattle.wb_keeping.specs.Refusing.{add_fault}
use Rattle.wb_keeping.specs.declared.kept_fault.KeptFault.{KeptFault}
use Rattle.wb_keeping.specs.declared.kept_fault.KeptFault.TheVariants.{Host, Numbers}
use Rattle.wb_judging.specs.Handing.{handed, recalled, verdict_on}
use Rattle.wb_judging.specs.Judged.{Judged}
use Rattle.wb_judging.specs.declared.call.Call.{Call}
use Rattle.wb_judging.specs.declared.call.Call.TheVariants.{CameFrom, Held, Passed, UserDrew}
use Rattle.wb_judging.specs.Laws.{after_all, drawops_in, drawops_of, expanded}
use Rattle.wb_judging.specs.Performing.{after_judged, after_kept_line}
use Rattle.wb_judging.specs.Refusing.{has_number}
use Rattle.wb_judging.specs.declared.judged_fault.JudgedFault.{JudgedFault}
use Rattle.wb_judging.specs.declared.judged_fault.JudgedFault.TheVariants.{Judge as OfJudge, Kept as OfKept}
use Rattle.wb_judging.specs.declared.record.RecordLine.{RecordLine}
use Rattle.wb_judging.specs.declared.record.RecordLine.TheVariants.{Known, Mark, Owner, Said, Strange, Tick}
use Rattle.wb_judging.proofs.Followed.{the_network_refuses_nothing}
use Rattle.wb_judging.proofs.Numbers.{own_stays}
use Rattle.wb_laws_kept.specs.Openings.{Opening, opened}
use Rattle.wb_laws_kept.specs.Restarts.{KnowTheirOwn as KeptKnowTheirOwn, KnowsItsOwn as KeptKnowsItsOwn}
use Rattle.wb_laws_kept.specs.Sessions.{AreTaken as AreKeptTaken, At, DrawopsWereHeld as KeptDrawopsWereHeld, WereHeld, kept_at, steps_of}
use Rattle.wb_laws_kept.proofs.Agreeing.{steps_behind}
use Rattle.wb_laws_kept.proofs.Steps.{kept_is_session}
use Rattle.wb_laws_sessions.specs.Drawn.{WasHeld as HeldBySteps}
use Rattle.wb_laws_sessions.specs.Sessions.{host_at}
use Rattle.wb_laws_kept.specs.Kept.{gained_by_line}
use Rattle.wb_judged_sessions.specs.Laws.{JudgedKeepKeptTerms}
use Rattle.wb_judged_sessions.specs.Calls.{after_call, AreLinesTaken, brought_by, IsLineTaken, IsTaken, JudgedCall, plain_line, Start, started, Starts, Takes, Tunes}
use Rattle.wb_judged_sessions.specs.Sessions.{judged_at, kept_calls, kept_then, lines_then, WasHeld}
use Rattle.wb_judged_sessions.specs.Terms.{AreTaken, DrawopsWereHeld, KnowsItsOwn, KnowTheirOwn}
use Rattle.wb_judged_sessions.proofs.Drawn.{DrawNone, DrawsNone, came_draws, draws_as_kept, plain_draws, record_draws}
use Rattle.wb_judged_sessions.proofs.Kept.{at, calls_behind, judged_is_kept}
use Rattle.wb_judged_sessions.proofs.Listening.{not_begun}
use Rattle.wb_judged_sessions.proofs.Plain.{plain_came, plain_fault}
use Rattle.wb_laws_kept.specs.Calls.{Begins, Call as KeptCall, Handed}
use Rattle.wb_laws_machines.proofs.Traces.{held_later}
use Rattle.wb_laws_sessions.specs.Members.{member}
use Rattle.wb_laws_machines.specs.Machines.{part, whole}

-- ---- a judge has the number of its member

abbrev pub IsOwn : Judged → Type 0
IsOwn h = h.judge.me ≡ h.kept.host.is.number

own_through : (lines : List Call) (h : Judged) → IsOwn h → IsOwn (after_all lines h)
own_through [] h own = own
own_through (line ∷ lines) h own = own_through lines (after_judged line h) (own_stays line h own)

call_own : (call : JudgedCall) (h : Judged) → IsOwn h → IsOwn (after_call call h)
call_own (Starts start given) h own = own_through (map Held given) (started h.kept.host.is.number start) refl
call_own (Takes line) h own = own_stays line h own
call_own (Tunes constants) h own = own

own_if : (b : Bool) (one other : Judged) → IsOwn one → IsOwn other → IsOwn (cond b one other)
own_if true one other a c = a
own_if false one other a c = c

pub own_at : (numbers : ℕ → ℕ) (calls : List (At JudgedCall)) (i : ℕ) → IsOwn (judged_at numbers calls i)
own_at numbers [] i = refl
own_at numbers (e ∷ older) i =
    let own = own_at numbers older i in
    own_if (nat_eq e.place i) (after_call e.event (judged_at numbers older i)) (judged_at numbers older i) (call_own e.event (judged_at numbers older i) own) own

-- ---- no line is refused

last_none : (one mid : Option JudgedFault) (two : Option KeptFault) → first_of (one ∷ mid ∷ option_map OfKept two ∷ []) ≡ None → two ≡ None
last_none None None None e = refl
last_none None None (Some f) e = absurd cc
last_none None (Some f) two e = absurd cc
last_none (Some f) mid two e = absurd cc

pub fault_none : (line : Call) (h : Judged) → IsOwn h → IsLineTaken line h → fault_of (handed line h) h.kept ≡ None
fault_none (CameFrom now o v) h own le = the_network_refuses_nothing (CameFrom now o v) h own refl le
fault_none (Passed now news) h own le = the_network_refuses_nothing (Passed now news) h own refl le
fault_none (Held line) h own taken = taken
fault_none (UserDrew now page op) h own taken =
    last_none (option_map OfJudge (adding_fault (draws op) _ h.judge)) (fault_unless (has_number page h.kept.host) (OfKept Numbers)) (add_fault now page (time_of_day h.judge.clock now) op h.kept) taken

record_taken : (given : List RecordLine) (h : Judged) → AreLinesTaken (map Held given) h → AreKeptLinesTaken (expanded (map Held given) h) h.kept
unfolding after_kept_line
record_taken [] h taken = tt
record_taken (line ∷ given) h taken = (taken.0, record_taken given (after_judged (Held line) h) taken.1)

pub in_range : (constants : Tuning) (k : Keeping) → are_constants constants ≡ true → fault_of (Tuned constants) k ≡ None
in_range constants k is = ap (λ (b : Bool). fault_unless b (Host Range)) is

module _ (numbers : ℕ → ℕ) (time place : ℕ) where
  abbrev pub begins : Start → At KeptCall
  begins start = record { time = time; place = place; event = Begins start.opening [] }

  pub here : (line : KeptLine) (older : List (At KeptCall)) → kept_at numbers (at time place line ∷ older) place ≡ after_doing (doing_of line) (kept_at numbers older place)
  here line older = ap (λ (b : Bool). cond b (after_doing (doing_of line) (kept_at numbers older place)) (kept_at numbers older place)) (eq-eqb place place refl)

  lines_taken : (lines : List KeptLine) (older : List (At KeptCall)) → AreKeptLinesTaken lines (kept_at numbers older place) → AreKeptTaken numbers older
      → AreKeptTaken numbers (lines_then time place lines older)
  lines_taken [] older taken rest = rest
  lines_taken (line ∷ lines) older taken rest =
      lines_taken lines (at time place line ∷ older) (subst (λ (k : Keeping). AreKeptLinesTaken lines k) (sym (here line older)) taken.1) (taken.0, rest)

  pub started_is : (h : Judged) (older : List (At KeptCall)) (start : Start) → h.kept ≡ kept_at numbers older place
      → (started h.kept.host.is.number start).kept ≡ kept_at numbers (begins start ∷ older) place
  started_is h older start same =
      ap (λ (k : Keeping). opened k.host.is.number start.opening) same
      ∙ ap (λ (b : Bool). cond b (opened (kept_at numbers older place).host.is.number start.opening) (kept_at numbers older place)) (sym (eq-eqb place place refl))

  call_taken : (call : JudgedCall) (h : Judged) (older : List (At KeptCall)) → h.kept ≡ kept_at numbers older place → IsOwn h → IsTaken call h → AreKeptTaken numbers older
      → AreKeptTaken numbers (kept_then time place call h older)
  call_taken (Starts start given) h older same own taken rest =
      let first = started h.kept.host.is.number start in
      let lines = expanded (map Held given) first in
      lines_taken lines (begins start ∷ older) (subst (λ (k : Keeping). AreKeptLinesTaken lines k) (started_is h older start same) (record_taken given first taken.1)) ((taken.0, tt), rest)
  call_taken (Takes line) h older same own taken rest =
      lines_taken (plain_line (handed line h) ∷ []) older
      (plain_fault (handed line h) (kept_at numbers older place) ∙ subst (λ (k : Keeping). fault_of (handed line h) k ≡ None) same (fault_none line h own taken), tt) rest
  call_taken (Tunes constants) h older same own taken rest = lines_taken (Tuned constants ∷ []) older (in_range constants (kept_at numbers older place) taken, tt) rest

-- ---- what comes was held

module _ (numbers : ℕ → ℕ) where
  pub held_steps : (older : List (At JudgedCall)) (d : DrawopValue) → WasHeld numbers older d → HeldBySteps numbers (steps_of numbers (kept_calls numbers older)) d
  held_steps older d w =
      let is : (judged_at numbers w.older w.place).kept.host ≡ host_at numbers (steps_of numbers (kept_calls numbers w.older)) w.place =
      ap (λ (k : Keeping). k.host) (judged_is_kept numbers w.older w.place) ∙ sym (kept_is_session numbers (kept_calls numbers w.older) w.place) in
      record {
        older = steps_of numbers (kept_calls numbers w.older);
        behind = steps_behind numbers (calls_behind numbers w.behind);
        place = w.place;
        held = subst (λ (host : Opened). Contains host.is.held d) is w.held;
      }

  later : (e : At KeptCall) (older : List (At KeptCall)) (d : DrawopValue) → HeldBySteps numbers (steps_of numbers older) d → HeldBySteps numbers (steps_of numbers (e ∷ older)) d
  later e older d w = held_later member numbers d (steps_behind numbers (part {newer = older} {e = e} whole)) w

abbrev came_by : KeptCall → List DrawopValue
came_by (Handed line) = gained_by_line line
came_by (Begins o given) = []

abbrev all_came : List KeptLine → List DrawopValue
all_came [] = []
all_came (line ∷ lines) = gained_by_line line ++ all_came lines

not_handed : (start o : Opening) (given : List Datagram) (line : KeptLine) → Begins o given ≡ Handed line → ⊥
not_handed start o given line e = cc

pub recalled_came : (now : ℕ) (line : RecordLine) → gained_by_line (recalled now line) ≡ drawops_in line
recalled_came now (Tick past) = refl
recalled_came now (Said d) = refl
recalled_came now (Known d) = refl
recalled_came now (Strange d) = refl
recalled_came now (Mark speaker page mark) = refl
recalled_came now (Owner number place owner) = refl

record_came : (given : List RecordLine) (h : Judged) → all_came (expanded (map Held given) h) ≡ drawops_of given
record_came [] h = refl
record_came (line ∷ given) h =
    ap (λ (ds : List DrawopValue). ds ++ all_came (expanded (map Held given) (after_judged (Held line) h))) (recalled_came (present h.kept.host) line)
    ∙ ap (λ (ds : List DrawopValue). drawops_in line ++ ds) (record_came given (after_judged (Held line) h))

module _ (numbers : ℕ → ℕ) (time place : ℕ) where
  came_held : (line : KeptLine) (older : List (At KeptCall)) → ((d : DrawopValue) → Contains (gained_by_line line) d → HeldBySteps numbers (steps_of numbers older) d) → WereHeld numbers older (at time place line)
  came_held line older were = record {
    handed = λ now d e. were d (subst (λ (call : KeptCall). Contains (came_by call) d) (sym e) (Contains-here d []));
    given = λ o given d e c. absurd (not_begun line o given e);
  }

  begun_held : (start : Start) (older : List (At KeptCall)) → WereHeld numbers older (begins numbers time place start)
  begun_held start older = record {
    handed = λ now d e. absurd (not_handed start.opening start.opening [] (Came now (Draw d)) e);
    given = λ o given d e c. absurd (Contains-none (Draw d) (subst (λ (call : KeptCall). Contains (given_in call) (Draw d)) (sym e) c));
  } where
    given_in : KeptCall → List Datagram
    given_in (Begins o given) = given
    given_in (Handed line) = []

  lines_held : (lines : List KeptLine) (older : List (At KeptCall)) → ((d : DrawopValue) → Contains (all_came lines) d → HeldBySteps numbers (steps_of numbers older) d) → KeptDrawopsWereHeld numbers older
      → KeptDrawopsWereHeld numbers (lines_then time place lines older)
  lines_held [] older were rest = rest
  lines_held (line ∷ lines) older were rest =
      lines_held lines (at time place line ∷ older) (λ d c. later numbers (at time place line) older d (were d (Contains-append_right (gained_by_line line) (all_came lines) d c)))
      (came_held line older (λ d c. were d (Contains-append_left (gained_by_line line) (all_came lines) d c)), rest)

  call_held : (call : JudgedCall) (h : Judged) (older : List (At KeptCall)) → ((d : DrawopValue) → Contains (brought_by call h) d → HeldBySteps numbers (steps_of numbers older) d)
      → KeptDrawopsWereHeld numbers older
      → KeptDrawopsWereHeld numbers (kept_then time place call h older)
  call_held (Starts start given) h older were rest =
      let first = started h.kept.host.is.number start in
      lines_held (expanded (map Held given) first) (begins numbers time place start ∷ older)
      (λ d c. later numbers (begins numbers time place start) older d (were d (subst (λ (ds : List DrawopValue). Contains ds d) (record_came given first) c)))
      (begun_held start older, rest)
  call_held (Takes line) h older were rest =
      (came_held (plain_line (handed line h)) older (λ d c. were d (subst (λ (ds : List DrawopValue). Contains ds d) (plain_came (handed line h)) c)), rest)
  call_held (Tunes constants) h older were rest = (came_held (Tuned constants) older were, rest)

  -- ---- members know their own numbers

  abbrev KnowsFor : List (At KeptCall) → KeptCall → Type 0
  KnowsFor older (Handed (Added now page told op)) = KeptKnowsItsOwn numbers older place page
  KnowsFor older (Handed (Came now v)) = Unit {0}
  KnowsFor older (Handed (Ticked now)) = Unit {0}
  KnowsFor older (Handed (Tuned constants)) = Unit {0}
  KnowsFor older (Begins o given) = Unit {0}

  knows_for : (call : KeptCall) (older : List (At KeptCall)) → KnowsFor older call → (now : ℕ) (page : PageId) (told : ℕ) (op : Op) → call ≡ Handed (Added now page told op)
      → KeptKnowsItsOwn numbers older place page
  knows_for call older knows now page told op e = subst (λ (c : KeptCall). KnowsFor older c) e knows

  none_for : (line : KeptLine) (older : List (At KeptCall)) → DrawsNone line → KnowsFor older (Handed line)
  none_for (Came now v) older is = tt
  none_for (Ticked now) older is = tt
  none_for (Added now page told op) older is = absurd is
  none_for (Tuned constants) older is = tt

  lines_know : (lines : List KeptLine) (older : List (At KeptCall)) → DrawNone lines → KeptKnowTheirOwn numbers older → KeptKnowTheirOwn numbers (lines_then time place lines older)
  lines_know [] older none rest = rest
  lines_know (line ∷ lines) older none rest =
      lines_know lines (at time place line ∷ older) none.1 (knows_for (Handed line) older (none_for line older none.0), rest)

  line_know : (line : Call) (h : Judged) (older : List (At KeptCall))
      → ((now : ℕ) (page : PageId) (op : Op) → Takes line ≡ Takes (UserDrew now page op) → KeptKnowsItsOwn numbers older place page) → KnowsFor older (Handed (plain_line (handed line h)))
  line_know (CameFrom now o v) h older knows = none_for (plain_line (handed (CameFrom now o v) h)) older (came_draws now v (verdict_on now o v h).why)
  line_know (Passed now news) h older knows = tt
  line_know (Held line) h older knows = none_for (plain_line (handed (Held line) h)) older (plain_draws (handed (Held line) h) (record_draws (line ∷ []) h).0)
  line_know (UserDrew now page op) h older knows = knows now page op refl

  call_know : (call : JudgedCall) (h : Judged) (older : List (At KeptCall)) → ((now : ℕ) (page : PageId) (op : Op) → call ≡ Takes (UserDrew now page op) → KeptKnowsItsOwn numbers older place page)
      → KeptKnowTheirOwn numbers older
      → KeptKnowTheirOwn numbers (kept_then time place call h older)
  call_know (Starts start given) h older knows rest =
      let first = started h.kept.host.is.number start in
      lines_know (expanded (map Held given) first) (begins numbers time place start ∷ older) (record_draws given first) (knows_for (Begins start.opening []) older tt, rest)
  call_know (Takes line) h older knows rest =
      (knows_for (Handed (plain_line (handed line h))) older (line_know line h older knows), rest)
  call_know (Tunes constants) h older knows rest = (knows_for (Handed (Tuned constants)) older tt, rest)

module _ (numbers : ℕ → ℕ) where
  pub knows_kept : (older : List (At JudgedCall)) (place : ℕ) (page : PageId) → KnowsItsOwn numbers older place page → KeptKnowsItsOwn numbers (kept_calls numbers older) place page
  knows_kept older place page knows d c on =
      subst (λ (k : Keeping). d.name.seq ≤ last_number page k.host) (judged_is_kept numbers older place)
      (knows d (subst (λ (ds : List DrawopValue). Contains ds d) (sym (draws_as_kept numbers older place)) c) on)

  pub taken_kept : (calls : List (At JudgedCall)) → AreTaken numbers calls → AreKeptTaken numbers (kept_calls numbers calls)
  taken_kept [] taken = tt
  taken_kept (e ∷ older) taken =
      call_taken numbers e.time e.place e.event (judged_at numbers older e.place) (kept_calls numbers older)
      (judged_is_kept numbers older e.place) (own_at numbers older e.place) taken.0 (taken_kept older taken.1)

  pub held_kept : (calls : List (At JudgedCall)) → DrawopsWereHeld numbers calls → KeptDrawopsWereHeld numbers (kept_calls numbers calls)
  held_kept [] were = tt
  held_kept (e ∷ older) were =
      call_held numbers e.time e.place e.event (judged_at numbers older e.place) (kept_calls numbers older) (λ d c. held_steps numbers older d (were.0 d c)) (held_kept older were.1)

  pub know_kept : (calls : List (At JudgedCall)) → KnowTheirOwn numbers calls → KeptKnowTheirOwn numbers (kept_calls numbers calls)
  know_kept [] know = tt
  know_kept (e ∷ older) know =
      call_know numbers e.time e.place e.event (judged_at numbers older e.place) (kept_calls numbers older)
      (λ now page op is. knows_kept older e.place page (know.0 now page op is)) (know_kept older know.1)

pub judged_keep_kept_terms : JudgedKeepKeptTerms
judged_keep_kept_terms numbers calls s = record { taken = taken_kept numbers calls s.taken; held = held_kept numbers calls s.held; know = know_kept numbers calls s.know }
