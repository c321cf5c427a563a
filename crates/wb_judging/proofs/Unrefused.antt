-- A member refuses no line of a record of its number.
use Rattle.std.proofs.Common.{◌≡◌, ◌∙◌, ℕ, ◌+◌, ◌<◌, Bool, true, false, cond, List, [], ◌∷◌, ◌++◌, None, ap, append-nil, arith, drop, length, map, refl, subst, sym, true≢false}
use Rattle.std.specs.Prelude.{All, ◌&&◌, ◌||◌, Option, Some, nat_eq, nat_le, nat_lt, not, suc, zero}
use Rattle.std.specs.Option.{option_map}
use Rattle.std.proofs.lemmas.Bool.Decides.{nat_tests}
use Rattle.wb_names.specs.Arrivals.{Clash, New, Again, Left, Outcome, history_after, history_with, outcome_of}
use Rattle.wb_names.specs.Faults.{fault_unless, first_of}
use Rattle.wb_names.specs.Orders.{same_name}
use Rattle.wb_names.specs.Values.{DrawopValue, NameValue}
use Rattle.wb_names.specs.declared.name.PageId.{PageId}
use Rattle.wb_names.specs.declared.name.TheConstants.{FIRST_FORGED}
use Rattle.wb_names.specs.declared.parts.Op.{Op}
use Rattle.wb_names.proofs.Orders.{same_name-is}
use Rattle.wb_codec.specs.declared.datagram.Datagram.{Datagram}
use Rattle.wb_codec.specs.declared.datagram.Datagram.TheVariants.{AskPages, Draw, PageState, Request, Session}
use Rattle.wb_judge.specs.Adding.{adding_fault}
use Rattle.wb_judge.specs.Days.{time_of_day}
use Rattle.wb_judge.specs.Judging.{draws}
use Rattle.wb_judge.specs.declared.origin.Origin.{Origin}
use Rattle.wb_judge.specs.declared.verdict.Why.{Why}
use Rattle.wb_keeper.specs.Keeper.{holds}
use Rattle.wb_member.specs.Opened.{last_number, present, ticked}
use Rattle.wb_keeping.specs.Laws.{Added, Came, Ticked, fault_of}
use Rattle.wb_keeping.specs.Performing.{Keeping}
use Rattle.wb_keeper.specs.declared.keep_fault.KeepFault.TheVariants.{BackInTime}
use Rattle.wb_keeping.specs.Refusing.{add_fault, back_in_time, came_fault, is_unknown}
use Rattle.wb_keeping.specs.declared.kept_fault.KeptFault.{KeptFault}
use Rattle.wb_keeping.specs.declared.kept_fault.KeptFault.TheVariants.{Host, Numbers, Ours}
use Rattle.wb_judging.specs.Calling.{call_fault}
use Rattle.wb_judging.specs.Handing.{handed, handed_for, recalled, verdict_on}
use Rattle.wb_judging.specs.Judged.{Call, CameFrom, Held, Judged, Passed, UserDrew, giver_of, moment_of}
use Rattle.wb_judging.specs.Laws.{AreCalled, IsInReach, RecordLinesAreTaken, drawops_in, drawops_of, is_in_reach, record_by, record_of}
use Rattle.wb_judging.specs.Performing.{after_judged, after_kept_line, first_lines, gained, judging, lines_of}
use Rattle.wb_judging.specs.Recording.{gain_lines}
use Rattle.wb_judging.specs.Refusing.{draw_fault, has_number, held_fault}
use Rattle.wb_judging.specs.declared.judged_fault.JudgedFault.{JudgedFault}
use Rattle.wb_judging.specs.declared.judged_fault.JudgedFault.TheVariants.{Judge as OfJudge, Kept as OfKept}
use Rattle.wb_judging.specs.declared.record.RecordLine.{RecordLine}
use Rattle.wb_judging.specs.declared.record.RecordLine.TheVariants.{Known, Mark, Owner, Said, Strange, Tick}
use Rattle.wb_judging.proofs.Again.{drawops_both, drawops_given, drawops_noted, drawops_said, first_held, held_by}
use Rattle.wb_judging.proofs.Boards.{held_added, held_drawn, held_heard, held_recalled, held_ticked, its}
use Rattle.wb_judging.proofs.Handed.{state_fault, unknown_not}
use Rattle.wb_judging.proofs.Histories.{Of, of_both}
use Rattle.wb_judging.proofs.Numbers.{number_kept, own_stays}
use Rattle.wb_judging.proofs.Recorded.{line_recorded, noted}
use Rattle.wb_judging.proofs.Taken.{now_is_time}

-- ---- drawops in reach

abbrev Low : ℕ → DrawopValue → Type 0
Low number d = is_in_reach number d ≡ true

abbrev AreLow : ℕ → List DrawopValue → Type 0
AreLow number ds = Of (Low number) ds

-- it is the name that counts
low_same : (number : ℕ) (d : DrawopValue) (n : NameValue) → d.name ≡ n → Low number d → not (nat_eq n.source number && nat_le FIRST_FORGED n.seq) ≡ true
low_same number d n same low = subst (λ (m : NameValue). not (nat_eq m.source number && nat_le FIRST_FORGED m.seq) ≡ true) same low

low_held : (number : ℕ) (held : List DrawopValue) (n : NameValue) → AreLow number held → holds held n ≡ true → not (nat_eq n.source number && nat_le FIRST_FORGED n.seq) ≡ true
low_held number [] n each is = absurd (true≢false (sym is))
low_held number (e ∷ held) n each is = by (same_name e.name n) refl is (low_held number held n each.1) where
  by : (b : Bool) → same_name e.name n ≡ b → (b || holds held n) ≡ true → (holds held n ≡ true → not (nat_eq n.source number && nat_le FIRST_FORGED n.seq) ≡ true)
      → not (nat_eq n.source number && nat_le FIRST_FORGED n.seq) ≡ true
  by true same here rest = low_same number e n (same_name-is e.name n same) each.0
  by false other there rest = rest there

low_names : (number : ℕ) (held ds : List DrawopValue) → AreLow number held → Of (λ (d : DrawopValue). holds held d.name ≡ true) ds → AreLow number ds
low_names number held [] each there = tt
low_names number held (d ∷ ds) each there = (low_held number held d.name each there.0, low_names number held ds each there.1)

low_drop : (number n : ℕ) (ds : List DrawopValue) → AreLow number ds → AreLow number (drop n ds)
low_drop number zero ds each = each
low_drop number (suc n) [] each = tt
low_drop number (suc n) (d ∷ ds) each = low_drop number n ds each.1

low_with : (number : ℕ) (held : List DrawopValue) (d : DrawopValue) (o : Outcome) → AreLow number held → Low number d → AreLow number (history_with held d o)
low_with number held d (New place) each low = of_both (Low number) held (d ∷ []) each (low, tt)
low_with number held d (Again place) each low = each
low_with number held d (Clash place) each low = each
low_with number held d Left each low = each

low_all : (number : ℕ) (held : List DrawopValue) → All (λ (d : DrawopValue). is_in_reach number d ≡ true) held → AreLow number held
low_all number [] all = tt
low_all number (d ∷ held) all = (all 0 d (omega arith), low_all number held (λ k e within. all (suc k) e (omega arith)))

-- ---- what comes

-- one that is known, or is not ours from there on
low_known : (number : ℕ) (held : List DrawopValue) (d : DrawopValue) → AreLow number held → (nat_eq d.name.source number && (nat_le FIRST_FORGED d.name.seq && not (holds held d.name))) ≡ false → Low number d
low_known number held d each known = by (holds held d.name) refl known where
  far : (own high : Bool) → (own && (high && true)) ≡ false → not (own && high) ≡ true
  far true true e = absurd (true≢false e)
  far true false e = refl
  far false high e = refl

  by : (b : Bool) → holds held d.name ≡ b → (nat_eq d.name.source number && (nat_le FIRST_FORGED d.name.seq && not b)) ≡ false → Low number d
  by true is e = low_held number held d.name each is
  by false is e = far (nat_eq d.name.source number) (nat_le FIRST_FORGED d.name.seq) e

low_drawn : (number now : ℕ) (d : DrawopValue) (k : Keeping) → AreLow number k.host.is.held → Low number d → AreLow number (after_kept_line (Came now (Draw d)) k).host.is.held
low_drawn number now d k each low = subst (AreLow number) (sym (held_drawn now d k)) (low_with number k.host.is.held d (outcome_of k.host.is.cells k.host.is.held d) each low)

low_ticked : (number now : ℕ) (k : Keeping) → AreLow number k.host.is.held → AreLow number (after_kept_line (Ticked now) k).host.is.held
low_ticked number now k each = subst (AreLow number) (sym (held_ticked now k)) each

low_handed : (number now : ℕ) (v : Datagram) (why : Option Why) (k : Keeping) → AreLow number k.host.is.held → ((d : DrawopValue) → v ≡ Draw d → why ≡ None → Low number d) → AreLow number (after_kept_line (handed_for now v why) k).host.is.held
low_handed number now v (Some why) k each low = low_ticked number now k each
low_handed number now (Draw d) None k each low = low_drawn number now d k each (low d refl refl)
low_handed number now (Session s sent page marks echoes) None k each low = subst (AreLow number) (sym (held_heard now (Session s sent page marks echoes) k (λ d is. absurd cc))) each
low_handed number now (Request asker name) None k each low = subst (AreLow number) (sym (held_heard now (Request asker name) k (λ d is. absurd cc))) each
low_handed number now (AskPages asker) None k each low = subst (AreLow number) (sym (held_heard now (AskPages asker) k (λ d is. absurd cc))) each
low_handed number now (PageState s page marks) None k each low = subst (AreLow number) (sym (held_heard now (PageState s page marks) k (λ d is. absurd cc))) each

low_came : (number now : ℕ) (o : Origin) (h : Judged) → h.judge.me ≡ h.kept.host.is.number → h.kept.host.is.number ≡ number → AreLow number (held_by h)
    → (v : Datagram) → (d : DrawopValue) → v ≡ Draw d → (verdict_on now o v h).why ≡ None → Low number d
low_came number now o h own is each (Draw e) d same none =
    let known : Low number e = low_known number (held_by h) e each (subst (λ (n : ℕ). (nat_eq e.name.source n && (nat_le FIRST_FORGED e.name.seq && not (holds (held_by h) e.name))) ≡ false) is (unknown_not now o (Draw e) h own none)) in
    let equal : e ≡ d = cc in
    subst (Low number) equal known
low_came number now o h own is each (Session s sent page marks echoes) d same none = absurd cc
low_came number now o h own is each (Request asker name) d same none = absurd cc
low_came number now o h own is each (AskPages asker) d same none = absurd cc
low_came number now o h own is each (PageState s page marks) d same none = absurd cc

-- ---- what the user draws

third : (one two three : Option JudgedFault) → first_of (one ∷ two ∷ three ∷ []) ≡ None → two ≡ None
third None None three e = refl
third None (Some f) three e = absurd cc
third (Some f) two three e = absurd cc

unless : (b : Bool) (f : JudgedFault) → fault_unless b f ≡ None → b ≡ true
unless true f e = refl
unless false f e = absurd cc

low_next : (last number : ℕ) (own : Bool) → nat_lt (last + 1) FIRST_FORGED ≡ true → not (own && nat_le FIRST_FORGED (last + 1)) ≡ true
low_next last number true few = ap not below where
  below : nat_le FIRST_FORGED (last + 1) ≡ false
  below = grind (arith, nat_tests)
low_next last number false few = refl

low_added : (number now : ℕ) (page : PageId) (time : ℕ) (op : Op) (k : Keeping) → AreLow number k.host.is.held → has_number page k.host ≡ true → AreLow number (after_kept_line (Added now page time op) k).host.is.held
low_added number now page time op k each few =
    let d = its now page time op k in
    subst (AreLow number) (sym (held_added now page time op k))
    (low_with number k.host.is.held d (outcome_of k.host.is.cells k.host.is.held d) each (low_next (last_number page k.host) number (nat_eq k.host.is.number number) few))

-- ---- a line of a record

low_arrived : (number cells : ℕ) (held ds : List DrawopValue) → AreLow number held → AreLow number ds → AreLow number (history_after cells held ds)
low_arrived number cells held [] each low = each
low_arrived number cells held (d ∷ ds) each low = low_arrived number cells (history_with held d (outcome_of cells held d)) ds (low_with number held d (outcome_of cells held d) each low.0) low.1

of_parts : {X : Type 0} (P : X → Type 0) (one other : List X) → Of P (one ++ other) → Of P one × Of P other
of_parts P [] other each = (tt, each)
of_parts P (x ∷ one) other each = let rest = of_parts P one other each.1 in ((each.0, rest.0), rest.1)

some_kept : (f : Option KeptFault) → option_map OfKept f ≡ None → f ≡ None
some_kept None e = refl
some_kept (Some f) e = absurd cc

second : (one : Option KeptFault) (b : Bool) → first_of (one ∷ fault_unless (not b) Ours ∷ []) ≡ None → b ≡ false
second None true e = absurd cc
second None false e = refl
second (Some f) b e = absurd cc

low_fault : (number now : ℕ) (d : DrawopValue) (k : Keeping) → k.host.is.number ≡ number → AreLow number k.host.is.held → came_fault now (Draw d) k ≡ None → Low number d
low_fault number now d k is each none =
    low_known number k.host.is.held d each (subst (λ (n : ℕ). (nat_eq d.name.source n && (nat_le FIRST_FORGED d.name.seq && not (holds k.host.is.held d.name))) ≡ false) is (second (back_in_time now k) (is_unknown d.name k.host) none))

low_recalled : (number now : ℕ) (line : RecordLine) (k : Keeping) → k.host.is.number ≡ number → AreLow number k.host.is.held → fault_of (recalled now line) k ≡ None → AreLow number (drawops_in line)
low_recalled number now (Tick past) k is each none = tt
low_recalled number now (Said d) k is each none = (low_fault number now d k is each none, tt)
low_recalled number now (Known d) k is each none = (low_fault number now d k is each none, tt)
low_recalled number now (Strange d) k is each none = (low_fault number now d k is each none, tt)
low_recalled number now (Mark speaker page mark) k is each none = tt
low_recalled number now (Owner n place owner) k is each none = tt

-- and such a line is refused by nobody
unknown_none : (own high held : Bool) → not (own && high) ≡ true → (own && (high && not held)) ≡ false
unknown_none true true held e = absurd (true≢false (sym e))
unknown_none true false held e = refl
unknown_none false high held e = refl

present_is : (k : Keeping) → nat_le (present k.host) (present k.host) ≡ true
present_is k = now_is_time k (present k.host) refl

drawop_taken : (d : DrawopValue) (k : Keeping) → Low k.host.is.number d → came_fault (present k.host) (Draw d) k ≡ None
drawop_taken d k low =
    ap (λ (b : Bool). first_of (fault_unless b (Host BackInTime) ∷ fault_unless (not (is_unknown d.name k.host)) Ours ∷ [])) (present_is k)
    ∙ ap (λ (b : Bool). first_of (None ∷ fault_unless (not b) Ours ∷ [])) (unknown_none (nat_eq d.name.source k.host.is.number) (nat_le FIRST_FORGED d.name.seq) (holds k.host.is.held d.name) low)

line_taken : (line : RecordLine) (k : Keeping) → AreLow k.host.is.number (drawops_in line) → fault_of (recalled (present k.host) line) k ≡ None
line_taken (Tick past) k low = ap (λ (b : Bool). first_of (fault_unless b (Host BackInTime) ∷ [])) (present_is k)
line_taken (Said d) k low = drawop_taken d k low.0
line_taken (Known d) k low = drawop_taken d k low.0
line_taken (Strange d) k low = drawop_taken d k low.0
line_taken (Mark speaker page mark) k low = state_fault (present k.host) speaker page (mark ∷ []) k (present_is k)
line_taken (Owner number place owner) k low = ap (λ (b : Bool). first_of (fault_unless b (Host BackInTime) ∷ [])) (present_is k)

-- ---- a call

-- what is held after it
low_after : (number : ℕ) (line : Call) (h : Judged) → h.judge.me ≡ h.kept.host.is.number → h.kept.host.is.number ≡ number → AreLow number (held_by h) → call_fault line h ≡ None → AreLow number (held_by (after_judged line h))
low_after number (CameFrom now o v) h own is each none =
    low_handed number now v (verdict_on now o v h).why h.kept each (λ d same why. low_came number now o h own is each v d same why)
low_after number (Passed now news) h own is each none = low_ticked number now h.kept each
low_after number (UserDrew now page op) h own is each none =
    low_added number now page (time_of_day h.judge.clock now) op h.kept each
    (unless (has_number page h.kept.host) (OfKept Numbers)
    (third (option_map OfJudge (adding_fault (draws op) (length h.kept.host.is.held) h.judge)) (fault_unless (has_number page h.kept.host) (OfKept Numbers))
    (option_map OfKept (add_fault now page (time_of_day h.judge.clock now) op h.kept)) none))
low_after number (Held line) h own is each none =
    let low = low_recalled number (present h.kept.host) line h.kept is each (some_kept (held_fault line h) none) in
    subst (AreLow number) (sym (held_recalled (present h.kept.host) line h.kept)) (low_arrived number h.kept.host.is.cells (held_by h) (drawops_in line) each low)

low_split : (number : ℕ) (one other : List DrawopValue) → AreLow number one → AreLow number other → AreLow number (one ++ other)
low_split number one other a b = of_both (Low number) one other a b

-- what it records
low_noted : (number : ℕ) (line : Call) (h : Judged) → AreLow number (held_by h) → AreLow number (held_by (after_judged line h))
    → drawops_of (gain_lines (giver_of line) (judging line h).strange.given (gained (handed line h) h.kept)) ≡ gained (handed line h) h.kept
    → (recorded : List RecordLine) → recorded ≡ noted (moment_of line h) (lines_of line h) → AreLow number (drawops_of recorded)
low_noted number line h each after all recorded is =
    let first = first_lines line h in
    let gain = gain_lines (giver_of line) (judging line h).strange.given (gained (handed line h) h.kept) in
    let same : drawops_of recorded ≡ drawops_of first ++ gained (handed line h) h.kept =
    ap (λ (ls : List RecordLine). drawops_of ls) is ∙ drawops_noted (moment_of line h) (first ++ gain) ∙ drawops_both first gain ∙ ap (λ (ds : List DrawopValue). drawops_of first ++ ds) all in
    subst (AreLow number) (sym same)
    (low_split number (drawops_of first) (gained (handed line h) h.kept) (low_names number (held_by h) (drawops_of first) each (first_held line h))
    (low_drop number (length (held_by h)) (held_by (after_judged line h)) after))

low_record : (number : ℕ) (line : Call) (h : Judged) → h.kept.host.is.number ≡ number → AreLow number (held_by h) → AreLow number (held_by (after_judged line h)) → call_fault line h ≡ None → AreLow number (drawops_of (record_of line h))
low_record number (CameFrom now o v) h is each after none =
    let l = CameFrom now o v in low_noted number l h each after (drawops_given (judging l h).strange.given (gained (handed l h) h.kept)) (record_of l h) (line_recorded l h)
low_record number (Passed now news) h is each after none =
    let l = Passed now news in low_noted number l h each after (drawops_given (judging l h).strange.given (gained (handed l h) h.kept)) (record_of l h) (line_recorded l h)
low_record number (UserDrew now page op) h is each after none =
    let l = UserDrew now page op in low_noted number l h each after (drawops_said (gained (handed l h) h.kept)) (record_of l h) (line_recorded l h)
low_record number (Held line) h is each after none =
    let low = low_recalled number (present h.kept.host) line h.kept is each (some_kept (held_fault line h) none) in
    low_split number (drawops_in line) [] low tt

-- ---- many

low_records : (number : ℕ) (lines : List Call) (h : Judged) → h.judge.me ≡ h.kept.host.is.number → h.kept.host.is.number ≡ number → AreLow number (held_by h) → AreCalled lines h → AreLow number (drawops_of (record_by lines h))
low_records number [] h own is each called = tt
low_records number (line ∷ lines) h own is each called =
    let next = after_judged line h in
    let after = low_after number line h own is each called.0 in
    let rest = low_records number lines next (own_stays line h own) (number_kept (handed line h) h.kept ∙ is) after called.1 in
    subst (AreLow number) (sym (drawops_both (record_of line h) (record_by lines next)))
    (low_split number (drawops_of (record_of line h)) (drawops_of (record_by lines next)) (low_record number line h is each after called.0) rest)

all_called : (number : ℕ) (recorded : List RecordLine) (anew : Judged) → anew.kept.host.is.number ≡ number → AreLow number (drawops_of recorded) → AreCalled (map Held recorded) anew
all_called number [] anew is low = tt
all_called number (line ∷ recorded) anew is low =
    let parts = of_parts (Low number) (drawops_in line) (drawops_of recorded) low in (
      ap (option_map OfKept) (line_taken line anew.kept (subst (λ (n : ℕ). AreLow n (drawops_in line)) (sym is) parts.0)),
      all_called number recorded (after_judged (Held line) anew) (number_kept (handed (Held line) anew) anew.kept ∙ is) parts.1,
    )

pub record_lines_are_taken : RecordLinesAreTaken
record_lines_are_taken lines h anew reach called same =
    let number = h.kept.host.is.number in
    all_called number (record_by lines h) anew same (low_records number lines h reach.own refl (low_all number (held_by h) reach.held) called)
