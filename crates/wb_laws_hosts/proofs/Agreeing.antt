-- Hosts that print one report and no gaps print one canvas and one view, at any two points.
use Rattle.std.proofs.Common.{◌≡◌, ◌<◌, ◌≤◌, ◌^◌, ℕ, List, [], ◌++◌, length, Option, Some, None, Ok, Result, refl, sym, ap, ◌∙◌, subst, arith}
use Rattle.std.specs.Prelude.{All, unwrap_or}
use Rattle.std.proofs.lemmas.List.Elements.{All-weaker}
use Rattle.wb_names.specs.Values.{DrawopValue}
use Rattle.wb_names.specs.declared.name.PageId.{PageId}
use Rattle.wb_codec.specs.Ranges.{IsDrawop, IsMark}
use Rattle.wb_gaps.specs.Answers.{gaps_of, report_of}
use Rattle.wb_gaps.proofs.PageAnswers.{report_of_page}
use Rattle.wb_recovery.specs.declared.tuning.Tuning.{Tuning}
use Rattle.wb_keeper.specs.Hearing.{marks_heard}
use Rattle.wb_lines.specs.Input.{InputLine}
use Rattle.wb_lines.specs.Taking.{met}
use Rattle.wb_commands.specs.Acts.{tells}
use Rattle.wb_commands.specs.Answers.{answer_text, gaps_text, view_text}
use Rattle.wb_member.specs.Opened.{Opened, gaps_at}
use Rattle.wb_member.specs.Questions.{answer_to}
use Rattle.wb_member.specs.declared.questions.Query.{Query}
use Rattle.wb_member.specs.declared.questions.Query.TheVariants as queries
use Rattle.wb_keeping.specs.Performing.{Keeping}
use Rattle.wb_dialog.specs.Dialog.{answered, says_line}
use Rattle.wb_dialog.specs.declared.fault.Refusal.{Refusal}
use Rattle.wb_dialog.specs.declared.line.DriverLine.{DriverLine}
use Rattle.wb_dialog.specs.Doing.{text_in}
use Rattle.wb_dialog.specs.Boards.{BoardValue}
use Rattle.wb_dialog.specs.Hosting.{Host, Driven, Kept, as_driven, kept_shows, reply}
use Rattle.wb_dialog.specs.Lines.{asks}
use Rattle.wb_laws_machines.specs.Agreement.{Agree}
use Rattle.wb_laws_sessions.specs.Drawn.{AreHonest}
use Rattle.wb_laws_sessions.specs.Sessions.{Step, host_at}
use Rattle.wb_laws_machines.specs.Honest.{AreApart}
use Rattle.wb_laws_sessions.proofs.Agreeing.{fits, older_honest, reports_tell_agreement}
use Rattle.wb_laws_hosts.specs.Laws.{AskOf, IsOpenHost, ReportsTellShows, prints_at}
use Rattle.wb_laws_hosts.specs.Telling as telling
use Rattle.wb_laws_hosts.specs.Texts.{EventAt, HaveNumbers, IsMemberAt, hosting_at, steps_of_texts}
use Rattle.wb_laws_hosts.proofs.BoardRanges.{marks_fit}
use Rattle.wb_laws_hosts.proofs.Lines.{member_in}
use Rattle.wb_laws_hosts.proofs.Ranges.{boards_are_in_range}
use Rattle.wb_laws_hosts.proofs.ReportTexts.{IsSmall, report_once, some_printed, none_are_told}
use Rattle.wb_laws_hosts.proofs.TextSessions.{older_numbered, texts_are_sessions, texts_behind}
use Rattle.wb_board.specs.Counts.{MAX_CELLS}
use Rattle.wb_laws_machines.specs.Machines.{◌⊑◌}

-- ---- what is printed for a question

driven_text : (host : Opened) (board : Option BoardValue) (text : Option (List ℕ)) → text_in (as_driven board (answered (tells host text))) ≡ unwrap_or text []
driven_text host board (Some text) = refl
driven_text host board None = refl

kept_text : (k : Keeping) (text : Option (List ℕ)) → text_in (kept_shows k (answered (tells k.host text))) ≡ unwrap_or text []
kept_text k (Some text) = refl
kept_text k None = refl

asked_text : (tuning : Tuning) (h : Host) (query : Query) → text_in (reply tuning (Some h) (Ok (asks query))) ≡ telling.answered query (member_in h)
asked_text tuning (Driven host board) query = driven_text host board (answer_text (answer_to query host))
asked_text tuning (Kept k) query = kept_text k (answer_text (answer_to query k.host))

-- ---- reports in range

small : (held : List DrawopValue) → All IsDrawop held → (page : PageId) → All IsSmall (report_of held page)
small held fit page = All-weaker IsMark IsSmall (λ m f. let a = f.source in let b = f.high in record { source = omega arith; high = omega arith }) (report_of held page) (marks_fit held fit page)

few : (held : List DrawopValue) → length held ≤ MAX_CELLS → (page : PageId) → length (report_of held page) < 2 ^ 64
few held le page = let marks = (report_of_page held page le).0.few in omega arith

-- ---- a host that printed that there are no gaps is open

record IsAsked (s : Option Host) (member : Opened) : Type 0 where
  is : IsOpenHost s member
  prints : (tuning : Tuning) (query : Query) → text_in (reply tuning s (Ok (asks query))) ≡ telling.answered query member

is_asked : (tuning : Tuning) (s : Option Host) (member : Opened) (page : PageId) → IsMemberAt member s → text_in (reply tuning s (Ok (asks (queries.Gaps page)))) ≡ gaps_text [] → IsAsked s member
is_asked tuning None member page is none = absurd (some_printed none)
is_asked tuning (Some (Driven host board)) member page is none = record { is = is; prints = λ t query. asked_text t (Driven host board) query ∙ ap (telling.answered query) is }
is_asked tuning (Some (Kept k)) member page is none = record { is = is; prints = λ t query. asked_text t (Kept k) query ∙ ap (telling.answered query) is }

module _ (numbers : ℕ → ℕ) (events older older' : List EventAt) (i j : ℕ) (page : PageId) (width height : ℕ) (report gaps show view : InputLine)
    (apart : AreApart numbers) (numbered : HaveNumbers numbers events) (honest : AreHonest numbers (steps_of_texts events)) (behind : older ⊑ events) (behind' : older' ⊑ events)
    (ask : AskOf page width height report gaps show view) where
  abbrev one : Opened
  one = host_at numbers (steps_of_texts older) i

  abbrev other : Opened
  other = host_at numbers (steps_of_texts older') j

  abbrev said : List EventAt → ℕ → Result DriverLine Refusal → List ℕ
  said front k line = text_in (reply (hosting_at front k).tuning (hosting_at front k).host line)

  asked : (front : List EventAt) (k : ℕ) → front ⊑ events → prints_at front k gaps ≡ gaps_text [] → IsAsked (hosting_at front k).host (host_at numbers (steps_of_texts front) k)
  asked front k part none = is_asked (hosting_at front k).tuning (hosting_at front k).host (host_at numbers (steps_of_texts front) k) page
      (texts_are_sessions numbers front (older_numbered numbers part numbered) k) (sym (ap (said front k) ask.asks_gaps) ∙ none)

  few_held : (front : List EventAt) (k : ℕ) → front ⊑ events → length (host_at numbers (steps_of_texts front) k).is.held ≤ MAX_CELLS
  few_held front k part =
      let f = fits numbers (steps_of_texts front) (older_honest numbers (texts_behind part) honest) k in
      let a = f.few in
      let b = f.small in
      omega (arith, a, b)

  module _ (same : prints_at older i report ≡ prints_at older' j report) (none : prints_at older i gaps ≡ gaps_text []) (nothing : prints_at older' j gaps ≡ gaps_text []) where
    here : IsAsked (hosting_at older i).host one
    here = asked older i behind none

    there : IsAsked (hosting_at older' j).host other
    there = asked older' j behind' nothing

    -- what is printed for a question is what the member answers
    answers_here : (query : Query) (line : InputLine) → says_line (met line) ≡ Ok (asks query) → prints_at older i line ≡ telling.answered query one
    answers_here query line is = ap (said older i) is ∙ here.prints (hosting_at older i).tuning query

    answers_there : (query : Query) (line : InputLine) → says_line (met line) ≡ Ok (asks query) → prints_at older' j line ≡ telling.answered query other
    answers_there query line is = ap (said older' j) is ∙ there.prints (hosting_at older' j).tuning query

    reports : report_of one.is.held page ≡ report_of other.is.held page
    reports = report_once (report_of one.is.held page) (report_of other.is.held page)
        (small one.is.held (boards_are_in_range older i one here.is) page) (small other.is.held (boards_are_in_range older' j other there.is) page)
        (few one.is.held (few_held older i behind) page) (few other.is.held (few_held older' j behind') page)
        (sym (answers_here (queries.Report page) report ask.asks_report) ∙ same ∙ answers_there (queries.Report page) report ask.asks_report)

    none_here : gaps_at page one ≡ []
    none_here = none_are_told (gaps_of one.is.held page (marks_heard one.is.number one.is.calls page)) (sym (answers_here (queries.Gaps page) gaps ask.asks_gaps) ∙ none)

    none_there : gaps_at page other ≡ []
    none_there = none_are_told (gaps_of other.is.held page (marks_heard other.is.number other.is.calls page)) (sym (answers_there (queries.Gaps page) gaps ask.asks_gaps) ∙ nothing)

    agree : Agree one other page
    agree =
        reports_tell_agreement numbers (steps_of_texts events) (steps_of_texts older) (steps_of_texts older') i j page apart honest (texts_behind behind) (texts_behind behind') reports none_here none_there

    shows : prints_at older i show ≡ prints_at older' j show
    shows = answers_here (queries.Canvas page width height) show ask.asks_show ∙ agree.canvases width height ∙ sym (answers_there (queries.Canvas page width height) show ask.asks_show)

    views : prints_at older i view ≡ prints_at older' j view
    views = answers_here (queries.View page) view ask.asks_view ∙ ap view_text agree.views ∙ sym (answers_there (queries.View page) view ask.asks_view)

pub reports_tell_shows : ReportsTellShows
reports_tell_shows numbers events apart numbered honest older older' i j page width height report gaps show view behind behind' ask same none nothing = (
  shows numbers events older older' i j page width height report gaps show view apart numbered honest behind behind' ask same none nothing,
  views numbers events older older' i j page width height report gaps show view apart numbered honest behind behind' ask same none nothing,
)
