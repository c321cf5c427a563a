-- How many bytes a self-managing host sends.
use Rattle.std.proofs.Common.{◌≡◌, ℕ, ◌+◌, ◌*◌, ◌-◌, ◌≤◌, Bool, true, false, cond, List, [], ◌∷◌, Option, Some, None, arith, length, mul-le-mul, refl, subst}
use Rattle.std.proofs.Math.Nat.{le_refl}
use Rattle.std.specs.Prelude.{take}
use Rattle.std.specs.Option.{option_map}
use Rattle.wb_names.specs.Drawing.{op_fault}
use Rattle.wb_names.specs.Faults.{first_of}
use Rattle.wb_names.specs.Values.{DrawopValue, NameValue}
use Rattle.wb_names.specs.declared.fault.FieldFault.{FieldFault}
use Rattle.wb_codec.specs.Spelling.{spelling}
use Rattle.wb_codec.specs.declared.datagram.Datagram.{Datagram}
use Rattle.wb_codec.specs.declared.datagram.Datagram.TheVariants.{AskPages, Draw, PageState, Request, Session}
use Rattle.wb_codec.proofs.Lawful.{text_fits}
use Rattle.wb_gaps.specs.Answers.{pages_of, report_of}
use Rattle.wb_member.specs.Opened.{present}
use Rattle.wb_member.specs.declared.calls.Call.TheVariants.{Tick}
use Rattle.wb_policy.specs.Policy.{after_wanting}
use Rattle.wb_policy.proofs.Latest.{reports_are_small, slices_are_short}
use Rattle.wb_keeping.specs.Bounds.{is_request}
use Rattle.wb_keeping.specs.Kept.{Calls, Line, Says, drawing, ends_full, hears, still, timed, want, drew}
use Rattle.wb_keeping.specs.Laws.{Added, AreTaken, Came, KeptLine, Ticked, Tuned, after_kept, doing_of, expand, fault_of, sent_by_kept}
use Rattle.wb_keeping.specs.Performing.{Keeping, after_doing, after_line, sees, view_of}
use Rattle.wb_keeping.specs.declared.kept_fault.KeptFault.{KeptFault}
use Rattle.wb_keeping.specs.declared.kept_fault.KeptFault.TheVariants.{Operation}
use Rattle.wb_keeping.proofs.EachLine.{Each, OfPolicy, each_both, ends_each, hears_each, states_each, then_each, timed_each, wanted_each}
use Rattle.wb_keeping.proofs.EachStep.{HoldsOfSteps, all_hold}
use Rattle.wb_keeping.proofs.Wanted.{is_wanted_here, lines_wanted}
use Rattle.wb_kept_progress.specs.Bytes.{AreFewBytes, AreShortTexts, BringShortTexts, BringsShortText, DrawopsAreShort, FewBytesAreSent, HasShortText, ReportsAreReckoned, RequestsAreShort, byte_count}
use Rattle.wb_kept_progress.specs.Timed.{is_drawop}
use Rattle.wb_kept_progress.specs.Traffic.{IsLittle, how_many, is_page_question, is_page_state, is_session}
use Rattle.wb_kept_progress.proofs.Lengths.{Every, drawop_long, few_bytes, question_long, request_long, same_bytes, session_long, state_long}
use Rattle.wb_kept_progress.proofs.Pauses.{lawful_echoes}
use Rattle.wb_kept_progress.proofs.SentEach.{Tells, kept_sends}
use Rattle.wb_keeping.specs.Views.{is_known}
use Rattle.wb_kept_progress.proofs.SentKinds.{little_is_sent}

every_mapped : {P Q : Datagram → Type 0} → ((v : Datagram) → P v → Q v) → (sent : List Datagram) → Every P sent → Every Q sent
every_mapped f [] are = tt
every_mapped f (v ∷ sent) are = (f v are.0, every_mapped f sent are.1)

-- ---- reports, page states and questions

-- a report has no more bytes than `most`, and a page state no more marks than a slice
abbrev pub IsShort : ℕ → Datagram → Type 0
IsShort most (Draw d) = Unit {0}
IsShort most (Session sender sent page marks echoes) = 32 + 8 * length marks + 20 * length echoes ≤ most
IsShort most (Request asker name) = Unit {0}
IsShort most (AskPages asker) = Unit {0}
IsShort most (PageState sender page marks) = length marks ≤ 64

module _ (most : ℕ) where
  report_short : (v : Datagram) → IsShort most v → is_session v ≡ true → length (spelling v) ≤ most
  report_short (Draw d) short is = absurd cc
  report_short (Session sender sent page marks echoes) short is = let long = session_long sender sent page marks echoes in omega (arith, long, short)
  report_short (Request asker name) short is = absurd cc
  report_short (AskPages asker) short is = absurd cc
  report_short (PageState sender page marks) short is = absurd cc

  state_short : (v : Datagram) → IsShort most v → is_page_state v ≡ true → length (spelling v) ≤ 534
  state_short (Draw d) short is = absurd cc
  state_short (Session sender sent page marks echoes) short is = absurd cc
  state_short (Request asker name) short is = absurd cc
  state_short (AskPages asker) short is = absurd cc
  state_short (PageState sender page marks) short is = let long = state_long sender page marks in omega (arith, long, short)

  question_short : (v : Datagram) → IsShort most v → is_page_question v ≡ true → length (spelling v) ≤ 12
  question_short (Draw d) short is = absurd cc
  question_short (Session sender sent page marks echoes) short is = absurd cc
  question_short (Request asker name) short is = absurd cc
  question_short (AskPages asker) short is = let long = question_long asker in omega (arith, long)
  question_short (PageState sender page marks) short is = absurd cc

  -- few datagrams that are short have few bytes
  pub bytes_are_few : (sent : List Datagram) (micros : ℕ) → Every (IsShort most) sent → IsLittle sent micros → AreFewBytes most sent micros
  bytes_are_few sent micros short few = record {
    reports = reports _ _ (few_bytes is_session spelling most sent (every_mapped report_short sent short)) few.reports;
    states = states _ _ (few_bytes is_page_state spelling 534 sent (every_mapped state_short sent short)) few.states;
    questions = questions _ _ (few_bytes is_page_question spelling 12 sent (every_mapped question_short sent short)) few.questions;
  } where
    reports : (bytes n : ℕ) → bytes ≤ n * most → n * 1000000 ≤ 1000000 + micros → bytes * 1000000 ≤ most * (1000000 + micros)
    reports bytes n each few = let all : most * (n * 1000000) ≤ most * (1000000 + micros) = mul-le-mul (le_refl most) few in omega (arith, each, all)

    states : (bytes n : ℕ) → bytes ≤ n * 534 → n * 1000000 ≤ 64 * (1000000 + micros) → bytes * 1000000 ≤ 534 * (64 * (1000000 + micros))
    states bytes n each few = omega (arith, each, few)

    questions : (bytes n : ℕ) → bytes ≤ n * 12 → n * 500000 ≤ 500000 + micros → bytes * 500000 ≤ 12 * (500000 + micros)
    questions bytes n each few = omega (arith, each, few)

abbrev TellsShort : Line → Type 0
TellsShort = Tells (IsShort 1184)

abbrev AllTellShort : Keeping → List Line → Keeping → Type 0
AllTellShort k lines m = Each TellsShort lines

wants_short : (name : NameValue) (anew : Bool) (k : Keeping) → Each TellsShort (want name anew (sees k.host) k.policy).lines
wants_short name anew k = by (is_wanted_here name anew (sees k.host) k.policy) where
  by : (b : Bool) → Each TellsShort (cond b (record { policy = after_wanting (present k.host) k.policy; lines = lines_wanted name anew (sees k.host) k.policy }) (still (sees k.host) k.policy)).lines
  by true = wanted_each TellsShort (λ name. tt) name tt anew (sees k.host) k.policy tt tt
  by false = tt

steps_short : HoldsOfSteps AllTellShort
steps_short = record {
  due = record {
    nothing = λ k. tt;
    both = λ k m n one other a b. each_both TellsShort one other a b;
    wants = wants_short;
    turned = λ t l k. tt;
    beats = λ k due. tt;
    answers = λ k due. states_each TellsShort (view_of k.host) (λ page. slices_are_short None (report_of k.host.is.held page)) (take 64 (pages_of k.host.is.held));
    asks_pages = λ k due. (tt, tt);
    reports = λ page until told k due. (reports_are_small told (report_of k.host.is.held page) (is_known (view_of k.host)) k.policy.echoed (view_of k.host).echoes (lawful_echoes k.host.is.number k.host.is.calls (present k.host)), tt);
  };
  ticks = λ now k later. (tt, tt);
  arrives = λ d k free. (tt, tt);
  answered = λ d k lacks was. (tt, tt);
  hears = λ v k. (tt, tt);
  stops = λ name k full. (tt, tt);
  sets = λ source micros k. (tt, tt);
  lends = λ source k. (tt, tt);
  takes_back = λ source k. (tt, tt);
  tunes = λ constants k within. (tt, tt);
  draws = λ d k unasked. (tt, tt);
  drawn = λ d k asked. (tt, tt);
  measured = λ micros k. tt;
  told = λ k. tt;
  takes_up = λ k is. tt;
}

pub sent_short : (lines : List KeptLine) (k : Keeping) → AreTaken lines k → Every (IsShort 1184) (sent_by_kept lines k)
sent_short lines k taken = (kept_sends (IsShort 1184) (λ asker name. tt) lines k (all_hold AllTellShort steps_short lines k taken) (λ d c. tt)).0

pub few_bytes_are_sent : FewBytesAreSent
few_bytes_are_sent lines k wait taken =
    bytes_are_few 1184 (sent_by_kept lines k) (present (after_kept lines k).host - present k.host) (sent_short lines k taken) (little_is_sent lines k wait taken)

pub reports_are_reckoned : ReportsAreReckoned
reports_are_reckoned sender sent page marks echoes = session_long sender sent page marks echoes

-- ---- requests

a_request : (v : Datagram) → is_request v ≡ true → length (spelling v) ≡ 28
a_request (Draw d) is = absurd cc
a_request (Session sender sent page marks echoes) is = absurd cc
a_request (Request asker name) is = request_long asker name
a_request (AskPages asker) is = absurd cc
a_request (PageState sender page marks) is = absurd cc

pub requests_are_short : RequestsAreShort
requests_are_short sent = same_bytes is_request spelling 28 a_request sent

-- ---- drawops

abbrev pub IsShortDrawop : Datagram → Type 0
IsShortDrawop (Draw d) = HasShortText d
IsShortDrawop (Session sender sent page marks echoes) = Unit {0}
IsShortDrawop (Request asker name) = Unit {0}
IsShortDrawop (AskPages asker) = Unit {0}
IsShortDrawop (PageState sender page marks) = Unit {0}

abbrev TellsShortDrawop : Line → Type 0
TellsShortDrawop = Tells IsShortDrawop

of_policy : OfPolicy TellsShortDrawop
of_policy = record {
  asks = λ name. tt;
  stops = λ name. tt;
  sets = λ source micros. tt;
  states = λ v page. tt;
  asks_pages = λ asker. tt;
  reports = λ sender sent page marks echoes. tt;
}

none_left : (a b c : Option KeptFault) (f : Option FieldFault) → first_of (first_of (a ∷ b ∷ []) ∷ first_of (c ∷ option_map Operation f ∷ []) ∷ []) ≡ None → f ≡ None
none_left a b c None e = refl
none_left None None None (Some f) e = absurd cc
none_left None None (Some c) (Some f) e = absurd cc
none_left None (Some b) c (Some f) e = absurd cc
none_left (Some a) b c (Some f) e = absurd cc

came_short : (now : ℕ) (v : Datagram) → BringsShortText (Came now v) → (d : DrawopValue) → v ≡ Draw d → HasShortText d
came_short now v short d is = subst (λ (v : Datagram). IsShortDrawop v) is (by v short) where
  by : (v : Datagram) → BringsShortText (Came now v) → IsShortDrawop v
  by (Draw d) short = short
  by (Session sender sent page marks echoes) short = tt
  by (Request asker name) short = tt
  by (AskPages asker) short = tt
  by (PageState sender page marks) short = tt

call_short : (line : KeptLine) (k : Keeping) → fault_of line k ≡ None → BringsShortText line → Each TellsShortDrawop (doing_of line (sees k.host) k.policy).lines
call_short (Came now v) k none short =
    let host = after_line (Calls (Tick now)) k.host in
    (tt, then_each TellsShortDrawop (hears v) timed (hears_each TellsShortDrawop of_policy (λ v. tt) v (came_short now v short)) (timed_each TellsShortDrawop of_policy) (sees host) k.policy)
call_short (Ticked now) k none short = (tt, timed_each TellsShortDrawop of_policy (sees (after_line (Calls (Tick now)) k.host)) k.policy)
call_short (Added now page time op) k none short =
    let host = after_line (Calls (Tick now)) k.host in
    let d = drawing (view_of host) page time op in
    let drawn = after_line (Says (Draw d)) host in
    let fits = text_fits (drawing (view_of k.host) page time op).name op (none_left _ _ _ (op_fault (drawing (view_of k.host) page time op).name op) none) in
    (tt, (fits, then_each TellsShortDrawop ends_full timed (ends_each TellsShortDrawop of_policy) (timed_each TellsShortDrawop of_policy) (sees drawn) (drew d (view_of host) k.policy)))
call_short (Tuned constants) k none short = (tt, tt)

calls_short : (lines : List KeptLine) (k : Keeping) → BringShortTexts lines → AreTaken lines k → Each TellsShortDrawop (expand lines k)
calls_short [] k short taken = tt
calls_short (line ∷ lines) k short taken =
    let next = after_doing (doing_of line) k in
    each_both TellsShortDrawop (doing_of line (sees k.host) k.policy).lines (expand lines next) (call_short line k taken.0 short.0) (calls_short lines next short.1 taken.1)

drawop_short : (v : Datagram) → IsShortDrawop v → is_drawop v ≡ true → length (spelling v) ≤ 102
drawop_short (Draw d) short is = drawop_long d short
drawop_short (Session sender sent page marks echoes) short is = absurd cc
drawop_short (Request asker name) short is = absurd cc
drawop_short (AskPages asker) short is = absurd cc
drawop_short (PageState sender page marks) short is = absurd cc

pub drawops_few_bytes : (sent : List Datagram) → Every IsShortDrawop sent → byte_count is_drawop sent ≤ how_many is_drawop sent * 102
drawops_few_bytes sent are = few_bytes is_drawop spelling 102 sent (every_mapped drawop_short sent are)

pub drawops_sent : (lines : List KeptLine) (k : Keeping) → AreShortTexts k.host.is.held → BringShortTexts lines → AreTaken lines k → Every IsShortDrawop (sent_by_kept lines k) × AreShortTexts (after_kept lines k).host.is.held
drawops_sent lines k held short taken = kept_sends IsShortDrawop (λ asker name. tt) lines k (calls_short lines k short taken) held

pub drawops_are_short : DrawopsAreShort
drawops_are_short lines k held short taken = let all = drawops_sent lines k held short taken in (drawops_few_bytes (sent_by_kept lines k) all.0, all.1)
