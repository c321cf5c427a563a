-- A judged member sends a drawop for a drawing, or once for a request that its judge let in; and a judge lets few in.
use Rattle.std.proofs.Common.{◌≡◌, ℕ, ◌+◌, ◌-◌, ◌≤◌, Bool, true, false, cond, List, [], ◌∷◌, ◌++◌, ◌∙◌, Option, Some, None, ap, append_assoc, arith, map, refl, subst, sym}
use Rattle.std.specs.Prelude.{◌&&◌, filter, is_none, not}
use Rattle.std.proofs.lemmas.Nat.{le-div}
use Rattle.std.proofs.Math.Bool.{and-false}
use Rattle.wb_names.specs.Arrivals.{Outcome, Clash, New, Again, Left}
use Rattle.wb_names.specs.Values.{DrawopValue}
use Rattle.wb_names.specs.declared.echo.Echo.{Echo}
use Rattle.wb_codec.specs.declared.datagram.Datagram.{Datagram}
use Rattle.wb_codec.specs.declared.datagram.Datagram.TheVariants.{AskPages, Draw, PageState, Request, Session}
use Rattle.wb_judge.specs.Judge.{Judge, after_taking, knows}
use Rattle.wb_judge.specs.Judging.{after_judging, verdict}
use Rattle.wb_judge.specs.Laws as judging_laws
use Rattle.wb_judge.specs.Laws.{AreFrom, Comes, Reports, Step, after_step, after_steps, is_asked_in, is_repaired_in, is_taken, moments_of}
use Rattle.wb_judge.specs.declared.facts.Facts.{Facts}
use Rattle.wb_judge.specs.declared.origin.Origin.{Origin}
use Rattle.wb_judge.specs.declared.verdict.Why.{Why}
use Rattle.wb_judge.proofs.Repairing.{repairs_are_few, strangers_are_few}
use Rattle.wb_member.specs.Judged.{holds}
use Rattle.wb_member.specs.Opened.{becomes}
use Rattle.wb_keeping.specs.Laws.{sent_by_kept}
use Rattle.wb_keeping.specs.Performing.{Keeping}
use Rattle.wb_judging.specs.Echoing.{echoing}
use Rattle.wb_judging.specs.Events.{fate_of, is_new}
use Rattle.wb_judging.specs.Handing.{facts_of, handed, handed_for, judge_after, verdict_on}
use Rattle.wb_judging.specs.Hearing.{after_fate, after_sending, after_sends}
use Rattle.wb_judging.specs.Judged.{Judged}
use Rattle.wb_judging.specs.declared.call.Call.{Call}
use Rattle.wb_judging.specs.declared.call.Call.TheVariants.{CameFrom, Held, Passed, UserDrew}
use Rattle.wb_judging.specs.Laws.{expanded, sends_in}
use Rattle.wb_judging.specs.Performing.{after_judged, after_kept_line, events_of, fate_by, judging, sent_by_kept_line}
use Rattle.wb_judging.proofs.AsKept.{sends_as_kept}
use Rattle.wb_judging.proofs.Histories.{fresh_is_new}
use Rattle.wb_judging.proofs.NewsTold.{news_judged, news_steps, nothing_comes}
use Rattle.wb_kept_progress.specs.Judged.{AreOfNow, JudgedMembersSendFewDrawops, came_at, drawing_count, sent_by_judged}
use Rattle.wb_kept_progress.specs.Timed.{is_drawop}
use Rattle.wb_kept_progress.specs.Traffic.{call_count, calls_for_drawop, how_many}
use Rattle.wb_kept_progress.proofs.FewDrawops.{drawops_are_called_for}
use Rattle.wb_kept_progress.proofs.Named.{more_if, one_if}
use Rattle.wb_kept_progress.proofs.SentKinds.{kind_both}

-- ---- the steps of its judge

-- it hears the reports that are sent
abbrev reports_in : List Datagram → List Step
reports_in [] = []
reports_in (Session sender sent page marks echoes ∷ rest) = Reports sent ∷ reports_in rest
reports_in (Draw d ∷ rest) = reports_in rest
reports_in (Request asker name ∷ rest) = reports_in rest
reports_in (AskPages asker ∷ rest) = reports_in rest
reports_in (PageState sender page marks ∷ rest) = reports_in rest

heard_by_judge : (sent : List Datagram) (j : Judge) → after_steps (reports_in sent) j ≡ after_sends sent j
heard_by_judge [] j = refl
heard_by_judge (Session sender sent page marks echoes ∷ rest) j = heard_by_judge rest (after_sending (Session sender sent page marks echoes) j)
heard_by_judge (Draw d ∷ rest) j = heard_by_judge rest j
heard_by_judge (Request asker name ∷ rest) j = heard_by_judge rest j
heard_by_judge (AskPages asker ∷ rest) j = heard_by_judge rest j
heard_by_judge (PageState sender page marks ∷ rest) j = heard_by_judge rest j

no_moments : (sent : List Datagram) (more : List Step) → moments_of (reports_in sent ++ more) ≡ moments_of more
no_moments [] more = refl
no_moments (Session sender sent page marks echoes ∷ rest) more = no_moments rest more
no_moments (Draw d ∷ rest) more = no_moments rest more
no_moments (Request asker name ∷ rest) more = no_moments rest more
no_moments (AskPages asker ∷ rest) more = no_moments rest more
no_moments (PageState sender page marks ∷ rest) more = no_moments rest more

-- A datagram comes to it. A drawop that the board does not take in is as one that it holds: so it counts for nobody.
abbrev coming : ℕ → Origin → Datagram → Judged → Step
coming now o (Draw d) h = Comes o (Draw d) (record (facts_of now (Draw d) h.kept) { holds = not (is_new (fate_by (handed (CameFrom now o (Draw d)) h) h.kept)) })
coming now o (Session sender sent page marks echoes) h = Comes o (Session sender sent page marks echoes) (facts_of now (Session sender sent page marks echoes) h.kept)
coming now o (Request asker name) h = Comes o (Request asker name) (facts_of now (Request asker name) h.kept)
coming now o (AskPages asker) h = Comes o (AskPages asker) (facts_of now (AskPages asker) h.kept)
coming now o (PageState sender page marks) h = Comes o (PageState sender page marks) (facts_of now (PageState sender page marks) h.kept)

abbrev first_steps : Call → Judged → List Step
first_steps (CameFrom now o v) h = coming now o v h ∷ []
first_steps (Passed now news) h = news_steps now news
first_steps (UserDrew now page op) h = []
first_steps (Held line) h = []

abbrev pub sent_then : Call → Judged → List Datagram
sent_then line h = sent_by_kept_line (handed line h) h.kept

abbrev steps_of : Call → Judged → List Step
steps_of line h = first_steps line h ++ reports_in (sent_then line h)

abbrev all_steps : List Call → Judged → List Step
all_steps [] h = []
all_steps (line ∷ lines) h = steps_of line h ++ all_steps lines (after_judged line h)

steps_both : (one other : List Step) (j : Judge) → after_steps (one ++ other) j ≡ after_steps other (after_steps one j)
steps_both [] other j = refl
steps_both (s ∷ one) other j = steps_both one other (after_step s j)

-- ---- they lead where its lines do

-- a drawop that the board takes in was handed in, and not held
drawop_taken : (now : ℕ) (o : Origin) (d : DrawopValue) (h : Judged)
    → let fate = fate_by (handed (CameFrom now o (Draw d)) h) h.kept in
    is_taken o d (record (facts_of now (Draw d) h.kept) { holds = not (is_new fate) }) h.judge ≡ is_new fate
unfolding verdict_on
drawop_taken now o d h = by (verdict o (Draw d) (facts_of now (Draw d) h.kept) h.judge).why refl (becomes d h.kept.host) refl where
  -- if it is not held, as the facts say
  as_facts : holds h.kept.host d.name ≡ false → record (facts_of now (Draw d) h.kept) { holds = false } ≡ facts_of now (Draw d) h.kept
  as_facts e = ap (λ (b : Bool). record (facts_of now (Draw d) h.kept) { holds = b }) (sym e)

  by : (why : Option Why) → (verdict o (Draw d) (facts_of now (Draw d) h.kept) h.judge).why ≡ why → (outcome : Outcome) → becomes d h.kept.host ≡ outcome
      → let new = is_new (fate_by (handed_for now (Draw d) why) h.kept) in is_taken o d (record (facts_of now (Draw d) h.kept) { holds = not new }) h.judge ≡ new
  by (Some why) e outcome f = and-false _
  by None e outcome f = fresh outcome f where
    fresh : (outcome : Outcome) → becomes d h.kept.host ≡ outcome
        → let new = is_new (Some (fate_of (becomes d h.kept.host))) in is_taken o d (record (facts_of now (Draw d) h.kept) { holds = not new }) h.judge ≡ new
    fresh (New place) f = subst (λ (o' : Outcome). let new = is_new (Some (fate_of o')) in is_taken o d (record (facts_of now (Draw d) h.kept) { holds = not new }) h.judge ≡ new) (sym f)
        (ap (λ (g : Facts). is_none (verdict o (Draw d) g h.judge).why && true) (as_facts (fresh_is_new h.kept.host.is.cells h.kept.host.is.held d place f)) ∙ ap (λ (w : Option Why). is_none w && true) e)
    fresh (Again place) f = subst (λ (o' : Outcome). let new = is_new (Some (fate_of o')) in is_taken o d (record (facts_of now (Draw d) h.kept) { holds = not new }) h.judge ≡ new) (sym f) (and-false _)
    fresh (Clash place) f = subst (λ (o' : Outcome). let new = is_new (Some (fate_of o')) in is_taken o d (record (facts_of now (Draw d) h.kept) { holds = not new }) h.judge ≡ new) (sym f) (and-false _)
    fresh Left f = subst (λ (o' : Outcome). let new = is_new (Some (fate_of o')) in is_taken o d (record (facts_of now (Draw d) h.kept) { holds = not new }) h.judge ≡ new) (sym f) (and-false _)

came_judged : (now : ℕ) (o : Origin) (v : Datagram) (h : Judged) → after_step (coming now o v h) h.judge ≡ after_fate now o v (fate_by (handed (CameFrom now o v) h) h.kept) (judge_after now o v h)
unfolding judge_after
came_judged now o (Draw d) h =
    let j = after_judging o (Draw d) (facts_of now (Draw d) h.kept) h.judge in
    ap (λ (b : Bool). cond b (after_taking (record { name = d.name; origin = Some o }) o now j) j) (drawop_taken now o d h)
came_judged now o (Session sender sent page marks echoes) h = refl
came_judged now o (Request asker name) h = refl
came_judged now o (AskPages asker) h = refl
came_judged now o (PageState sender page marks) h = refl

abbrev IsOfNow : Call → Type 0
IsOfNow line = AreOfNow (line ∷ [])

first_judged : (line : Call) (h : Judged) → IsOfNow line → after_steps (first_steps line h) h.judge ≡ judging line h
first_judged (CameFrom now o v) h fine = came_judged now o v h
first_judged (Passed now news) h fine = news_judged now news h.judge
first_judged (UserDrew now page op) h fine = refl
first_judged (Held line) h fine = absurd fine

line_judged : (line : Call) (h : Judged) → IsOfNow line → after_steps (steps_of line h) h.judge ≡ (after_judged line h).judge
line_judged line h fine =
    steps_both (first_steps line h) (reports_in (sent_then line h)) h.judge ∙ heard_by_judge (sent_then line h) (after_steps (first_steps line h) h.judge)
    ∙ ap (after_sends (sent_then line h)) (first_judged line h fine)

-- ---- what calls for a drawop is let in

abbrev many : (Step → Judge → Bool) → List Step → Judge → ℕ
many some steps j = judging_laws.how_many some steps j

many_both : (some : Step → Judge → Bool) (one other : List Step) (j : Judge) → many some (one ++ other) j ≡ many some one j + many some other (after_steps one j)
many_both some [] other j = omega arith
many_both some (s ∷ one) other j = let rest = many_both some one other (after_step s j) in omega (arith, rest)

handed_calls : (now : ℕ) (v : Datagram) (k : Keeping) (why : Option Why) → calls_for_drawop (handed_for now v why) k ≡ (is_none why && calls_for_drawop (handed_for now v None) k)
handed_calls now v k None = refl
handed_calls now v k (Some why) = refl

-- of a request
let_in : (held known taken : Bool) → cond (taken && held) 1 0 ≤ cond ((held && known) && taken) 1 0 + cond (not known && taken) 1 0
let_in true true true = omega arith
let_in true true false = omega arith
let_in true false true = omega arith
let_in true false false = omega arith
let_in false true true = omega arith
let_in false true false = omega arith
let_in false false true = omega arith
let_in false false false = omega arith

abbrev as_one : Bool → ℕ
as_one b = cond b 1 0

-- what a line calls for
abbrev called : Call → Judged → ℕ
called line h = cond (calls_for_drawop (handed line h) h.kept) 1 0

quiet_came : (now : ℕ) (v : Datagram) (k : Keeping) (why : Option Why) → calls_for_drawop (handed_for now v None) k ≡ false → as_one (calls_for_drawop (handed_for now v why) k) ≡ 0
quiet_came now v k why none = ap as_one (handed_calls now v k why ∙ ap (λ (b : Bool). is_none why && b) none ∙ and-false (is_none why))

first_called : (line : Call) (h : Judged) → IsOfNow line → called line h ≤ drawing_count (line ∷ []) + many is_repaired_in (first_steps line h) h.judge + many is_asked_in (first_steps line h) h.judge
unfolding verdict_on
first_called (CameFrom now o (Draw d)) h fine = let none = quiet_came now (Draw d) h.kept (verdict o (Draw d) (facts_of now (Draw d) h.kept) h.judge).why refl in omega (arith, none)
first_called (CameFrom now o (Session sender sent page marks echoes)) h fine =
    let v = Session sender sent page marks echoes in let none = quiet_came now v h.kept (verdict o v (facts_of now v h.kept) h.judge).why refl in omega (arith, none)
first_called (CameFrom now o (AskPages asker)) h fine = let none = quiet_came now (AskPages asker) h.kept (verdict o (AskPages asker) (facts_of now (AskPages asker) h.kept) h.judge).why refl in omega (arith, none)
first_called (CameFrom now o (PageState sender page marks)) h fine =
    let v = PageState sender page marks in let none = quiet_came now v h.kept (verdict o v (facts_of now v h.kept) h.judge).why refl in omega (arith, none)
first_called (CameFrom now o (Request asker name)) h fine =
    let v = Request asker name in
    let why = (verdict o v (facts_of now v h.kept) h.judge).why in
    let le = let_in (holds h.kept.host name) (knows o now h.judge) (is_none why) in
    let same = ap as_one (handed_calls now v h.kept why) in
    omega (arith, le, same)
first_called (Passed now news) h fine = omega arith
first_called (UserDrew now page op) h fine = omega arith
first_called (Held line) h fine = absurd fine

line_called : (line : Call) (h : Judged) → IsOfNow line → called line h ≤ drawing_count (line ∷ []) + many is_repaired_in (steps_of line h) h.judge + many is_asked_in (steps_of line h) h.judge
line_called line h fine =
    let le = first_called line h fine in
    let reports = reports_in (sent_then line h) in
    let one = many_both is_repaired_in (first_steps line h) reports h.judge in
    let other = many_both is_asked_in (first_steps line h) reports h.judge in
    omega (arith, le, one, other)

-- the first of some lines
of_now : (line : Call) (lines : List Call) → AreOfNow (line ∷ lines) → IsOfNow line × AreOfNow lines
of_now (CameFrom now o v) lines fine = (tt, fine)
of_now (Passed now news) lines fine = (tt, fine)
of_now (UserDrew now page op) lines fine = (tt, fine)
of_now (Held line) lines fine = absurd fine

drawings_more : (line : Call) (lines : List Call) → drawing_count (line ∷ lines) ≡ drawing_count (line ∷ []) + drawing_count lines
drawings_more (CameFrom now o v) lines = omega arith
drawings_more (Passed now news) lines = omega arith
drawings_more (UserDrew now page op) lines = omega arith
drawings_more (Held line) lines = omega arith

lines_called : (lines : List Call) (h : Judged) → AreOfNow lines → call_count (expanded lines h) h.kept ≤ drawing_count lines + many is_repaired_in (all_steps lines h) h.judge + many is_asked_in (all_steps lines h) h.judge
unfolding after_kept_line
lines_called [] h fine = omega arith
lines_called (line ∷ lines) h fine =
    let parts = of_now line lines fine in
    let next = after_judged line h in
    let le = line_called line h parts.0 in
    let rest = lines_called lines next parts.1 in
    let at = line_judged line h parts.0 in
    let one = many_both is_repaired_in (steps_of line h) (all_steps lines next) h.judge ∙ ap (λ (j : Judge). many is_repaired_in (steps_of line h) h.judge + many is_repaired_in (all_steps lines next) j) at in
    let other = many_both is_asked_in (steps_of line h) (all_steps lines next) h.judge ∙ ap (λ (j : Judge). many is_asked_in (steps_of line h) h.judge + many is_asked_in (all_steps lines next) j) at in
    let more = drawings_more line lines in
    omega (arith, le, rest, one, other, more)

-- ---- when they come

line_moments : (line : Call) (h : Judged) (lines : List Call) (more : List Step) → IsOfNow line → moments_of more ≡ came_at lines → moments_of (steps_of line h ++ more) ≡ came_at (line ∷ lines)
line_moments line h lines more fine same = by line fine where
  later : (sent : List Datagram) → moments_of (reports_in sent ++ more) ≡ came_at lines
  later sent = no_moments sent more ∙ same

  by : (line : Call) → IsOfNow line → moments_of (steps_of line h ++ more) ≡ came_at (line ∷ lines)
  by (CameFrom now o (Draw d)) fine = ap (λ (ms : List ℕ). now ∷ ms) (later (sent_then (CameFrom now o (Draw d)) h))
  by (CameFrom now o (Session sender sent page marks echoes)) fine = ap (λ (ms : List ℕ). now ∷ ms) (later (sent_then (CameFrom now o (Session sender sent page marks echoes)) h))
  by (CameFrom now o (Request asker name)) fine = ap (λ (ms : List ℕ). now ∷ ms) (later (sent_then (CameFrom now o (Request asker name)) h))
  by (CameFrom now o (AskPages asker)) fine = ap (λ (ms : List ℕ). now ∷ ms) (later (sent_then (CameFrom now o (AskPages asker)) h))
  by (CameFrom now o (PageState sender page marks)) fine = ap (λ (ms : List ℕ). now ∷ ms) (later (sent_then (CameFrom now o (PageState sender page marks)) h))
  by (Passed now news) fine =
      let reports = reports_in (sent_then (Passed now news) h) in
      ap moments_of (append_assoc (news_steps now news) reports more) ∙ nothing_comes now news (reports ++ more) ∙ later (sent_then (Passed now news) h)
  by (UserDrew now page op) fine = later (sent_then (UserDrew now page op) h)
  by (Held line) fine = absurd fine

all_moments : (lines : List Call) (h : Judged) → AreOfNow lines → moments_of (all_steps lines h) ≡ came_at lines
all_moments [] h fine = refl
all_moments (line ∷ lines) h fine =
    let parts = of_now line lines fine in
    line_moments line h lines (all_steps lines (after_judged line h)) parts.0 (all_moments lines (after_judged line h) parts.1)

-- ---- what is sent

-- of a kind that echoes do not change
module _ (kind : Datagram → Bool) (same : (echo : Option Echo) (v : Datagram) → kind (echoing echo v) ≡ kind v) where
  echoed_kind : (sent : List Datagram) (echo : Option Echo) → how_many kind (map (echoing echo) sent) ≡ how_many kind sent
  echoed_kind [] echo = refl
  echoed_kind (v ∷ sent) echo =
      let echoed = more_if (kind (echoing echo v)) (echoing echo v) (filter kind (map (echoing echo) sent)) in
      let plain = more_if (kind v) v (filter kind sent) in
      let one = ap one_if (same echo v) in
      let rest = echoed_kind sent echo in
      omega (arith, echoed, plain, one, rest)

  pub sent_as_kept : (lines : List Call) (h : Judged) → how_many kind (sent_by_judged lines h) ≡ how_many kind (sent_by_kept (expanded lines h) h.kept)
  unfolding after_kept_line sent_by_kept_line
  sent_as_kept [] h = refl
  sent_as_kept (line ∷ lines) h =
      let next = after_judged line h in
      let one = ap (how_many kind) (sends_as_kept line h) ∙ echoed_kind (sent_then line h) _ in
      let rest = sent_as_kept lines next in
      let judged = kind_both kind (sends_in (events_of line h)) (sent_by_judged lines next) in
      let kept = kind_both kind (sent_then line h) (sent_by_kept (expanded lines next) next.kept) in
      omega (arith, one, rest, judged, kept)

same_drawops : (echo : Option Echo) (v : Datagram) → is_drawop (echoing echo v) ≡ is_drawop v
same_drawops echo (Draw d) = refl
same_drawops echo (Session sender sent page marks echoes) = refl
same_drawops echo (Request asker name) = refl
same_drawops echo (AskPages asker) = refl
same_drawops echo (PageState sender page marks) = refl

-- ---- all of it

pub judged_members_send_few : JudgedMembersSendFewDrawops
judged_members_send_few start end lines h fine from =
    let steps = all_steps lines h in
    let when = subst (AreFrom start end) (sym (all_moments lines h fine)) from in
    let members = repairs_are_few start end steps h.judge when in
    let strangers = strangers_are_few start end steps h.judge when in
    let one = le-div (many is_repaired_in steps h.judge) (1022000 + 2000 + (end - start)) 2000 (omega arith) members in
    let other = le-div (many is_asked_in steps h.judge) (3937500 + 62500 + (end - start)) 62500 (omega arith) strangers in
    let sent = sent_as_kept is_drawop same_drawops lines h in
    let few = drawops_are_called_for (expanded lines h) h.kept in
    let called = lines_called lines h fine in
    omega (arith, one, other, sent, few, called)
