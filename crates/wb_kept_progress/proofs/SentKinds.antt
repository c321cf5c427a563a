-- Of reports, page states and questions a self-managing host sends those that it says.
use Rattle.std.proofs.Common.{◌≡◌, ℕ, ◌+◌, ◌*◌, ◌-◌, ◌≤◌, Bool, true, false, cond, List, [], ◌∷◌, ◌++◌, ◌∙◌, Option, Some, None, ap, arith, length, length-append, refl, subst, sym}
use Rattle.std.specs.Prelude.{filter}
use Rattle.std.specs.List.{cons_option, filter_map}
use Rattle.std.specs.Option.{option_map}
use Rattle.std.proofs.lemmas.List.Elements.{filter-append}
use Rattle.wb_names.specs.Arrivals.{Outcome, New, Again, Clash, Left}
use Rattle.wb_names.specs.Values.{DrawopValue, NameValue}
use Rattle.wb_codec.specs.declared.datagram.Datagram.{Datagram}
use Rattle.wb_codec.specs.declared.datagram.Datagram.TheVariants.{AskPages, Draw, PageState, Request, Session}
use Rattle.wb_recovery.specs.declared.plan.Action.{Action}
use Rattle.wb_recovery.specs.declared.plan.Action.TheVariants.{Answer, Ask}
use Rattle.wb_keeper.specs.Ticks.{drawop_of, sent_for}
use Rattle.wb_member.specs.Opened.{Opened, becomes, has_room_for, present}
use Rattle.wb_member.specs.declared.calls.Call.TheVariants as calls
use Rattle.wb_member.proofs.PolicyCalls.{SendsNothing, nothing_sent}
use Rattle.wb_keeping.specs.Bounds.{is_question, is_report, is_state}
use Rattle.wb_keeping.specs.Kept.{Arrives, Calls, Line, Says}
use Rattle.wb_keeping.specs.Laws.{KeptLine, after_kept, doing_of, expand, sent_by_kept}
use Rattle.wb_keeping.specs.Performing.{Keeping, after_doing, after_line, said_where, sent_by_line, sent_by_lines}
use Rattle.wb_keeping.proofs.KeptHosts.{kept_hosts_are_hosts}
use Rattle.wb_keeping.proofs.LittleSaid.{little_is_said}
use Rattle.wb_kept_progress.specs.Traffic.{LittleIsSent, how_many, is_page_question, is_page_state, is_session}
use Rattle.wb_kept_progress.proofs.FirstLines.{AreLinesOf, IsLineOf, lines_of_call}
use Rattle.wb_kept_progress.proofs.Named.{more_if, one_if}

-- ---- lines that answer no question at once

-- of calls, ticks alone send anything
abbrev pub AnswersNot : Line → Type 0
AnswersNot (Calls (calls.Tick now)) = Unit {0}
AnswersNot (Calls (calls.Hear (AskPages asker))) = ⊥
AnswersNot (Calls (calls.Hear v)) = Unit {0}
AnswersNot (Calls call) = SendsNothing call
AnswersNot line = Unit {0}

abbrev pub AnswerNot : List Line → Type 0
AnswerNot [] = Unit {0}
AnswerNot (line ∷ lines) = AnswersNot line × AnswerNot lines

none_heard : (call : KeptLine) (start host : Opened) (line : Line) → IsLineOf call start host line → AnswersNot line
none_heard call start host (Calls (calls.Tick now)) is = tt
none_heard call start host (Calls (calls.Hear (AskPages asker))) is = is
none_heard call start host (Calls (calls.Hear v)) is = tt
none_heard call start host (Calls (calls.Tune constants)) is = tt
none_heard call start host (Calls made) is = is
none_heard call start host line is = tt

all_heard : (call : KeptLine) (start host : Opened) (lines : List Line) → AreLinesOf call start host lines → AnswerNot lines
all_heard call start host [] are = tt
all_heard call start host (line ∷ lines) are = (none_heard call start host line are.0, all_heard call start (after_line line host) lines are.1)

not_both : (one other : List Line) → AnswerNot one → AnswerNot other → AnswerNot (one ++ other)
not_both [] other a b = b
not_both (line ∷ one) other a b = (a.0, not_both one other a.1 b)

pub kept_answer_not : (lines : List KeptLine) (k : Keeping) → AnswerNot (expand lines k)
kept_answer_not [] k = tt
kept_answer_not (line ∷ lines) k =
    let next = after_doing (doing_of line) k in
    not_both _ (expand lines next) (all_heard line k.host k.host _ (lines_of_call line k)) (kept_answer_not lines next)

-- ---- how many of a kind

pub kind_both : (kind : Datagram → Bool) (one other : List Datagram) → how_many kind (one ++ other) ≡ how_many kind one + how_many kind other
kind_both kind one other = ap (λ (sent : List Datagram). length sent) (filter-append kind one other) ∙ length-append (filter kind one) (filter kind other)

abbrev says : (Datagram → Bool) → Line → Bool
says kind (Says v) = kind v
says kind line = false

-- a kind of what is neither a request nor a drawop
module _ (kind : Datagram → Bool) (requests : (asker : ℕ) (name : NameValue) → kind (Request asker name) ≡ false) (drawops : (d : DrawopValue) → kind (Draw d) ≡ false) where
  single : (v : Datagram) → how_many kind (v ∷ []) ≡ one_if (kind v)
  single v = by (kind v) where
    by : (b : Bool) → length (cond b (v ∷ []) []) ≡ one_if b
    by true = refl
    by false = refl

  not_this : (v : Datagram) (sent : List Datagram) → kind v ≡ false → how_many kind (v ∷ sent) ≡ how_many kind sent
  not_this v sent other = ap (λ (b : Bool). length (cond b (v ∷ filter kind sent) (filter kind sent))) other

  tick_kind : (me : ℕ) (held : List DrawopValue) (actions : List Action) → how_many kind (filter_map (sent_for me held) actions) ≡ 0
  tick_kind me held [] = refl
  tick_kind me held (Ask name ∷ actions) = not_this (Request me name) _ (requests me name) ∙ tick_kind me held actions
  tick_kind me held (Answer name ∷ actions) = by (drawop_of held name) (tick_kind me held actions) where
    by : (o : Option DrawopValue) → how_many kind (filter_map (sent_for me held) actions) ≡ 0 → how_many kind (cons_option (option_map {T = DrawopValue} {U = Datagram} Draw o) (filter_map (sent_for me held) actions)) ≡ 0
    by None rest = rest
    by (Some d) rest = not_this (Draw d) _ (drawops d) ∙ rest

  said_kind : (d : DrawopValue) (o : Outcome) → how_many kind (said_where d o) ≡ 0
  said_kind d (New place) = not_this (Draw d) [] (drawops d)
  said_kind d (Again place) = not_this (Draw d) [] (drawops d)
  said_kind d (Clash place) = refl
  said_kind d Left = refl

  no_answer : (room : Bool) → how_many kind (cond room [] []) ≡ 0
  no_answer true = refl
  no_answer false = refl

  line_kind : (line : Line) (host : Opened) → AnswersNot line → how_many kind (sent_by_line line host) ≡ one_if (says kind line)
  line_kind (Calls (calls.Tick now)) host not = tick_kind host.is.number host.is.held _
  line_kind (Calls (calls.Hear (AskPages asker))) host not = absurd not
  line_kind (Calls (calls.Hear v)) host not = no_answer (has_room_for v host)
  line_kind (Calls call) host not = ap (how_many kind) (nothing_sent call host not)
  line_kind (Says (Draw d)) host not = said_kind d (becomes d host) ∙ ap one_if (sym (drawops d))
  line_kind (Says v) host not = single v
  line_kind (Arrives d) host not = refl

  -- as many as lines that say one
  module _ (is_one : Line → Bool) (same : (line : Line) → is_one line ≡ says kind line) where
    lines_kind : (lines : List Line) (host : Opened) → AnswerNot lines → how_many kind (sent_by_lines lines host) ≡ length (filter is_one lines)
    lines_kind [] host not = refl
    lines_kind (line ∷ lines) host not =
        let both = kind_both kind (sent_by_line line host) (sent_by_lines lines (after_line line host)) in
        let one = line_kind line host not.0 ∙ ap one_if (sym (same line)) in
        let rest = lines_kind lines (after_line line host) not.1 in
        let more = more_if (is_one line) line (filter is_one lines) in
        omega (arith, both, one, rest, more)

    kept_kind : (lines : List KeptLine) (k : Keeping) → how_many kind (sent_by_kept lines k) ≡ length (filter is_one (expand lines k))
    kept_kind lines k = ap (how_many kind) (kept_hosts_are_hosts lines k).1 ∙ lines_kind (expand lines k) k.host (kept_answer_not lines k)

-- ---- reports, page states and questions

report_says : (line : Line) → is_report line ≡ says is_session line
report_says (Says (Session sender sent page marks echoes)) = refl
report_says line = refl

state_says : (line : Line) → is_state line ≡ says is_page_state line
state_says (Says (PageState sender page marks)) = refl
state_says line = refl

question_says : (line : Line) → is_question line ≡ says is_page_question line
question_says (Says (AskPages asker)) = refl
question_says line = refl

pub little_is_sent : LittleIsSent
little_is_sent lines k wait taken =
    let said = little_is_said lines k wait taken in
    let reports = kept_kind is_session (λ asker name. refl) (λ d. refl) is_report report_says lines k in
    let states = kept_kind is_page_state (λ asker name. refl) (λ d. refl) is_state state_says lines k in
    let questions = kept_kind is_page_question (λ asker name. refl) (λ d. refl) is_question question_says lines k in
    let micros = present (after_kept lines k).host - present k.host in
    record {
      reports = subst (λ (n : ℕ). n * 1000000 ≤ 1000000 + micros) (sym reports) said.reports;
      states = subst (λ (n : ℕ). n * 1000000 ≤ 64 * (1000000 + micros)) (sym states) said.states;
      questions = subst (λ (n : ℕ). n * 500000 ≤ 500000 + micros) (sym questions) said.questions;
    }
