-- What a member echoes of another is the last report of it that it took in.
use Rattle.std.proofs.Common.{◌≡◌, ℕ, ◌+◌, Bool, true, false, cond, List, [], ◌∷◌, ◌∙◌, Option, Some, None, ap, arith, eqb-true, length, map, refl, subst, sym, ⊎_elim}
use Rattle.std.specs.Prelude.{◌≤◌, ◌-◌, Contains, filter, nat_eq, nat_lt}
use Rattle.std.specs.List.{find}
use Rattle.std.proofs.lemmas.Bool.{eq-eqb, false_from_ne_true}
use Rattle.std.proofs.lemmas.Bool.Decides.{nat_tests}
use Rattle.std.proofs.lemmas.List.Elements.{Contains-append_cases}
use Rattle.std.proofs.lemmas.Option.{none-some, same_Some}
use Rattle.wb_names.specs.Values.{MarkValue}
use Rattle.wb_names.specs.declared.echo.Echo.{Echo}
use Rattle.wb_names.specs.declared.entries.TheConstants.{MAX_ENTRIES}
use Rattle.wb_names.specs.declared.name.PageId.{PageId}
use Rattle.wb_names.proofs.Listings.{Any-from_map, Contains-cases, Contains-from_filter, Contains-here, Contains-there}
use Rattle.wb_codec.specs.declared.datagram.Datagram.{Datagram}
use Rattle.wb_codec.specs.declared.datagram.Datagram.TheVariants.{AskPages, Draw, PageState, Request, Session}
use Rattle.wb_keeper.specs.declared.keeper.Heard.{Heard}
use Rattle.wb_judge.specs.Aliens.{alien_at}
use Rattle.wb_judge.specs.Adding.{own_echo}
use Rattle.wb_member.specs.Judged.{echoes}
use Rattle.wb_member.specs.Opened.{Opened, opened_with, present}
use Rattle.wb_member.specs.declared.calls.Call.TheVariants as calls
use Rattle.wb_keeping.specs.Kept.{Calls, ticks_at}
use Rattle.wb_keeping.specs.Laws.{doing_of, fault_of}
use Rattle.wb_keeping.specs.Performing.{after_doing, after_line, after_lines, sees, sent_by_doing}
use Rattle.wb_judging.specs.Echoing.{echoing, placed, with_echo}
use Rattle.wb_judge.specs.declared.verdict.Why.{Why}
use Rattle.wb_judging.specs.Handing.{handed, handed_for, recalled, verdict_on}
use Rattle.wb_judging.specs.Judged.{Judged, moment_of}
use Rattle.wb_judging.specs.declared.call.Call.{Call}
use Rattle.wb_judging.specs.declared.call.Call.TheVariants.{CameFrom, Held, Passed, UserDrew}
use Rattle.wb_judging.specs.Laws.{after_all, sends_in}
use Rattle.wb_judging.specs.Performing.{after_judged, after_kept_line, events_of, judging, sent_by_kept_line}
use Rattle.wb_judging.specs.declared.record.RecordLine.{RecordLine}
use Rattle.wb_judging.specs.declared.record.RecordLine.TheVariants.{Known as KnownLine, Mark, Owner, Said, Strange, Tick}
use Rattle.wb_judging.proofs.AsKept.{sends_as_kept}
use Rattle.wb_judging.proofs.Numbers.{me_judging}
use Rattle.wb_kept_progress.proofs.Counted.{echoes_listed}
use Rattle.wb_kept_progress.proofs.FirstLines.{lines_of_call}
use Rattle.wb_judged_sessions.specs.Answering.{LastTakenIsEchoed, last_taken, taken_by}
use Rattle.wb_judged_sessions.specs.Calls.{after_call, IsTaken, JudgedCall, started, Starts, Takes, Tunes}
use Rattle.wb_judged_sessions.specs.Sessions.{At, judged_at}
use Rattle.wb_judged_sessions.specs.Terms.{AreTaken}
use Rattle.wb_judged_sessions.proofs.Records.{number_at}
use Rattle.wb_judged_sessions.proofs.Sent.{echo_mine}
use Rattle.wb_judged_sessions.proofs.TakenIn.{CallTells, IsQuiet, IsTimed, call_tells, lines_same, moment_in, newest_of, quiet_lines, senders, AreEchoedBy}
use Rattle.wb_policy.specs.Choices.{echoed}
use Rattle.wb_judged_sessions.proofs.Terms.{fault_none, own_at}

-- ---- a judged member

pub timed_line : (line : Call) (h : Judged) → IsTimed (handed line h) × (moment_in (handed line h) ≡ moment_of line h)
timed_line (CameFrom now o v) h = by (verdict_on now o v h).why where
  by : (why : Option Why) → IsTimed (handed_for now v why) × (moment_in (handed_for now v why) ≡ now)
  by None = (tt, refl)
  by (Some why) = (tt, refl)
timed_line (Passed now news) h = (tt, refl)
timed_line (UserDrew now page op) h = (tt, refl)
timed_line (Held (Tick past)) h = (tt, refl)
timed_line (Held (Said d)) h = (tt, refl)
timed_line (Held (KnownLine d)) h = (tt, refl)
timed_line (Held (Strange d)) h = (tt, refl)
timed_line (Held (Mark speaker page mark)) h = (tt, refl)
timed_line (Held (Owner number place owner)) h = (tt, refl)

module _ (number : ℕ) where
  recalled_quiet : (now : ℕ) (line : RecordLine) → IsQuiet number (recalled now line)
  recalled_quiet now (Tick past) = tt
  recalled_quiet now (Said d) = tt
  recalled_quiet now (KnownLine d) = tt
  recalled_quiet now (Strange d) = tt
  recalled_quiet now (Mark speaker page mark) = tt
  recalled_quiet now (Owner n place owner) = tt

  held_same : (line : RecordLine) (h : Judged) → newest_of number (after_judged (Held line) h).kept.host ≡ newest_of number h.kept.host
  unfolding after_kept_line
  held_same line h =
      let call = handed (Held line) h in
      lines_same number (doing_of call (sees h.kept.host) h.kept.policy).lines h.kept.host
      (quiet_lines number call h.kept.host h.kept.host (doing_of call (sees h.kept.host) h.kept.policy).lines (recalled_quiet (present h.kept.host) line) (lines_of_call call h.kept))

  given_same : (given : List RecordLine) (h : Judged) → newest_of number (after_all (map Held given) h).kept.host ≡ newest_of number h.kept.host
  given_same [] h = refl
  given_same (line ∷ given) h = given_same given (after_judged (Held line) h) ∙ held_same line h

  ticks_same : (moments : List ℕ) (host : Opened) → newest_of number (after_lines (ticks_at moments) host) ≡ newest_of number host
  ticks_same [] host = refl
  ticks_same (now ∷ moments) host = ticks_same moments (after_line (Calls (calls.Tick now)) host)

  call_newest : (call : JudgedCall) (h : Judged) → nat_eq number h.kept.host.is.number ≡ false → newest_of number (after_call call h).kept.host ≡ taken_by number call h (newest_of number h.kept.host)
  unfolding after_kept_line
  call_newest (Starts start given) h another =
      given_same given (started h.kept.host.is.number start)
      ∙ ticks_same start.opening.moments (opened_with start.opening.constants h.kept.host.is.number start.opening.cells start.opening.seed)
  call_newest (Takes line) h another = (call_tells number (handed line h) h.kept another (timed_line line h).0).newest_is
  call_newest (Tunes constants) h another = refl

  pub last_is : (numbers : ℕ → ℕ) (place : ℕ) (calls : List (At JudgedCall)) → nat_eq number (numbers place) ≡ false → newest_of number (judged_at numbers calls place).kept.host ≡ last_taken numbers number place calls
  last_is numbers place [] another = refl
  last_is numbers place (e ∷ older) another = by (nat_eq e.place place) (last_is numbers place older another) where
    h : Judged
    h = judged_at numbers older place

    by : (b : Bool) → newest_of number h.kept.host ≡ last_taken numbers number place older → newest_of number (let k : Judged = cond b (after_call e.event h) h in k.kept.host)
        ≡ cond b (taken_by number e.event h (last_taken numbers number place older)) (last_taken numbers number place older)
    by true rest = call_newest e.event h (ap (nat_eq number) (number_at numbers older place) ∙ another) ∙ ap (taken_by number e.event h) rest
    by false rest = rest

-- ---- the echo in what it sends

found_echo : (p : Echo → Bool) (es : List Echo) (e : Echo) → find p es ≡ Some e → Contains es e × (p e ≡ true)
found_echo p [] e found = absurd (none-some e found)
found_echo p (x ∷ es) e found = by (p x) refl found (found_echo p es e) where
  by : (b : Bool) → p x ≡ b → cond b (Some x) (find p es) ≡ Some e → (find p es ≡ Some e → Contains es e × (p e ≡ true)) → Contains (x ∷ es) e × (p e ≡ true)
  by true is found rest = let same = same_Some x e found in (subst (λ (y : Echo). Contains (x ∷ es) y) same (Contains-here x es), ap p (sym same) ∙ is)
  by false is found rest = let r = rest found in (Contains-there x e es r.0, r.1)

-- an echo of another is among those without the own one
unplaced : (number : ℕ) (own : Option Echo) (es : List Echo) (e : Echo) → ((x : Echo) → own ≡ Some x → x.source ≡ number → ⊥) → e.source ≡ number → Contains (with_echo own es) e → Contains es e
unplaced number None es e apart source c = c
unplaced number (Some x) es e apart source c = by (nat_lt (length es) MAX_ENTRIES) c where
  by : (b : Bool) → Contains (cond b (placed x es) es) e → Contains es e
  by false c = c
  by true c = ⊎_elim
      (λ (before : Contains (filter (λ (f : Echo). nat_lt f.source x.source) es) e). (Contains-from_filter (λ (f : Echo). nat_lt f.source x.source) es e before).0)
      (λ (rest : Contains (x ∷ filter (λ (f : Echo). nat_lt x.source f.source) es) e). ⊎_elim
      (λ (it : x ≡ e). absurd (apart x refl (ap (λ (y : Echo). y.source) it ∙ source)))
      (λ (later : Contains (filter (λ (f : Echo). nat_lt x.source f.source) es) e). (Contains-from_filter (λ (f : Echo). nat_lt x.source f.source) es e later).0)
      (Contains-cases x e _ rest))
      (Contains-append_cases (filter (λ (f : Echo). nat_lt f.source x.source) es) (x ∷ filter (λ (f : Echo). nat_lt x.source f.source) es) e c)

-- which report that was
record IsPlain (own : Option Echo) (w : Datagram) (s moment : ℕ) (page : PageId) (marks : List MarkValue) (es : List Echo) : Type 0 where
  plain : List Echo
  is : w ≡ Session s moment page marks plain
  echoed : es ≡ with_echo own plain

plain_of : (own : Option Echo) (w : Datagram) (s moment : ℕ) (page : PageId) (marks : List MarkValue) (es : List Echo) → echoing own w ≡ Session s moment page marks es → IsPlain own w s moment page marks es
plain_of own (Session t m p ms f) s moment page marks es e = record { plain = f; is = first; echoed = last } where
  first : Session t m p ms f ≡ Session s moment page marks f
  first = cc

  last : es ≡ with_echo own f
  last = cc
plain_of own (Draw d) s moment page marks es e = absurd cc
plain_of own (Request asker name) s moment page marks es e = absurd cc
plain_of own (AskPages asker) s moment page marks es e = absurd cc
plain_of own (PageState t p ms) s moment page marks es e = absurd cc

-- what an echo of a member says of another
remembered : (number : ℕ) (host : Opened) (known : ℕ → Bool) (from : ℕ) (e : Echo) → Contains (echoed known from (echoes host)) e → e.source ≡ number
    → (h : Heard) × (newest_of number host ≡ Some h) × (e.sent ≡ h.sent) × (e.held ≡ present host - h.at)
remembered number host known from e c source =
    let listed = echoes_listed host.is.number host.is.calls (present host) in
    let is = (listed.members e).0 (Contains-from_filter _ (echoes host) e c).0 in
    (is.0, subst (λ (n : ℕ). newest_of n host ≡ Some is.0) source (if_some _ (newest_of e.source host) is.0 is.1), is.2, is.3) where
      if_some : (b : Bool) (x : Option Heard) (h : Heard) → cond b x None ≡ Some h → x ≡ Some h
      if_some true x h e = e
      if_some false x h e = absurd (none-some h e)

-- the report of a line, without the own echo
pub record IsReported (line : Call) (h : Judged) (s moment : ℕ) (page : PageId) (marks : List MarkValue) (es : List Echo) : Type 0 where
  pub plain : List Echo
  pub among : Contains (sent_by_doing (doing_of (handed line h)) h.kept) (Session s moment page marks plain)
  pub echoed : es ≡ with_echo (own_echo (moment_of line h) (judging line h)) plain

pub reported : (line : Call) (h : Judged) (s moment : ℕ) (page : PageId) (marks : List MarkValue) (es : List Echo) → Contains (sends_in (events_of line h)) (Session s moment page marks es)
    → IsReported line h s moment page marks es
unfolding sent_by_kept_line
reported line h s moment page marks es c =
    let v = Session s moment page marks es in
    let echo = own_echo (moment_of line h) (judging line h) in
    let said = sent_by_doing (doing_of (handed line h)) h.kept in
    let r = Any-from_map (echoing echo) said v (subst (λ (vs : List Datagram). Contains vs v) (sends_as_kept line h) c) in
    let p = plain_of echo r.1 s moment page marks es r.4 in
    record { plain = p.plain; among = subst (λ (w : Datagram). Contains said w) p.is (r.0, r.2, r.3); echoed = p.echoed }

-- it names the moment of the line, and echoes senders that are remembered
module _ (line : Call) (h : Judged) (s moment : ℕ) (page : PageId) (marks : List MarkValue) (es : List Echo) (none : fault_of (handed line h) h.kept ≡ None) (r : IsReported line h s moment page marks es) where
  told : (there : Opened) × (moment ≡ moment_in (handed line h)) × AreEchoedBy there r.plain
  told = let t = (call_tells number (handed line h) h.kept (next h.kept.host.is.number) (timed_line line h).0).said s moment page marks r.plain none r.among in (t.0, t.1, t.2) where
    number : ℕ
    number = 1 + h.kept.host.is.number

    next : (n : ℕ) → nat_eq (1 + n) n ≡ false
    next n = grind (arith, nat_tests)

  pub report_moment : moment ≡ moment_of line h
  report_moment = told.1 ∙ (timed_line line h).1

  pub report_echoes : (there : Opened) × AreEchoedBy there r.plain
  report_echoes = (told.0, told.2)

pub taken_line : (numbers : ℕ → ℕ) (older : List (At JudgedCall)) (e : At JudgedCall) (line : Call) → AreTaken numbers (e ∷ older) → e.event ≡ Takes line
    → let h = judged_at numbers older e.place in fault_of (handed line h) h.kept ≡ None
taken_line numbers older e line taken takes =
    let h = judged_at numbers older e.place in
    fault_none line h (own_at numbers older e.place) (subst (λ (call : JudgedCall). IsTaken call h) takes taken.0)

pub last_taken_is_echoed : LastTakenIsEchoed
unfolding after_kept_line
last_taken_is_echoed numbers older e line number sender moment page marks es echo taken takes another sent found =
    (it.0, sym (last_is number numbers e.place (e ∷ older) apart) ∙ there_is ∙ it.1, it.2, it.3 ∙ ap (λ (n : ℕ). n - it.0.at) said.4) where
      h : Judged
      h = judged_at numbers older e.place

      own : Option Echo
      own = own_echo (moment_of line h) (judging line h)

      apart : nat_eq number (numbers e.place) ≡ false
      apart = false_from_ne_true (nat_eq number (numbers e.place)) (λ is. another (eqb-true number (numbers e.place) is))

      r : IsReported line h sender moment page marks es
      r = reported line h sender moment page marks es sent

      tells : CallTells number (handed line h) h.kept
      tells = call_tells number (handed line h) h.kept (ap (nat_eq number) (number_at numbers older e.place) ∙ apart) (timed_line line h).0

      said : (there : Opened) × (moment ≡ moment_in (handed line h)) × AreEchoedBy there r.plain × (newest_of number there ≡ newest_of number (after_doing (doing_of (handed line h)) h.kept).host) × (present there ≡ moment)
          × (length (senders there) ≤ length (senders (after_doing (doing_of (handed line h)) h.kept).host))
      said = tells.said sender moment page marks r.plain (taken_line numbers older e line taken takes) r.among

      f : Contains es echo × (nat_eq echo.source number ≡ true)
      f = found_echo (λ (x : Echo). nat_eq x.source number) es echo found

      mine : (x : Echo) → own ≡ Some x → x.source ≡ number → ⊥
      mine x is same =
          another (sym same ∙ echo_mine (judging line h).me (moment_of line h) (alien_at (moment_of line h) (judging line h).aliens) x is ∙ me_judging line h ∙ own_at numbers older e.place ∙ number_at numbers older e.place)

      among : Contains r.plain echo
      among = unplaced number own r.plain echo mine (eqb-true echo.source number f.1) (subst (λ (fs : List Echo). Contains fs echo) r.echoed f.0)

      it : (g : Heard) × (newest_of number said.0 ≡ Some g) × (echo.sent ≡ g.sent) × (echo.held ≡ present said.0 - g.at)
      it = remembered number said.0 said.2.known said.2.from echo (subst (λ (fs : List Echo). Contains fs echo) said.2.is among) (eqb-true echo.source number f.1)

      after : judged_at numbers (e ∷ older) e.place ≡ after_judged line h
      after = ap (λ (b : Bool). cond b (after_call e.event h) h) (eq-eqb e.place e.place refl) ∙ ap (λ (call : JudgedCall). after_call call h) takes

      there_is : newest_of number (judged_at numbers (e ∷ older) e.place).kept.host ≡ newest_of number said.0
      there_is = ap (λ (k : Judged). newest_of number k.kept.host) after ∙ sym said.3
