-- A member that remembers few senders echoes them all.
use Rattle.std.proofs.Common.{◌≡◌, ◌∙◌, ◌≤◌, ℕ, Bool, true, false, cond, List, [], ◌∷◌, ◌++◌, ap, arith, eqb-true, filter, length, refl, subst, sym, true≢false, ⊎_elim}
use Rattle.std.specs.Prelude.{◌-◌, ◌||◌, Contains, Option, None, Some, is_some, nat_eq, nat_le, nat_lt}
use Rattle.std.specs.List.{filter_map, find, list_any}
use Rattle.std.specs.Option.{option_or}
use Rattle.std.proofs.lemmas.Bool.{eq-eqb, false_from_ne_true, leb-true}
use Rattle.std.proofs.lemmas.Bool.Decides.{nat_tests}
use Rattle.std.proofs.lemmas.List.Elements.{Contains-append_left, Contains-append_right}
use Rattle.std.proofs.lemmas.Option.{none-some}
use Rattle.std.proofs.Math.Bool.{or-true}
use Rattle.wb_names.specs.declared.echo.Echo.{Echo}
use Rattle.wb_names.specs.declared.entries.TheConstants.{MAX_ENTRIES}
use Rattle.wb_names.proofs.Listings.{Contains-cases, Contains-filter, Contains-none, Contains-there}
use Rattle.wb_keeper.specs.Keeper.{KeeperCall, heard_by, newest, remember, senders_of, session_heard}
use Rattle.wb_keeper.specs.Sessions.{echo_to as echo_of_sender}
use Rattle.wb_keeper.specs.declared.keeper.Heard.{Heard}
use Rattle.wb_judge.specs.Aliens.{alien_at}
use Rattle.wb_judge.specs.Adding.{own_echo}
use Rattle.wb_judge.specs.Reports.{echo_to}
use Rattle.wb_member.specs.Judged.{echoes}
use Rattle.wb_member.specs.Opened.{Opened, present}
use Rattle.wb_policy.proofs.Echoing.{all_of_few}
use Rattle.wb_keeping.specs.Laws.{doing_of}
use Rattle.wb_keeping.specs.Performing.{Keeping, after_doing}
use Rattle.wb_judging.specs.Echoing.{placed, with_echo}
use Rattle.wb_judging.specs.Handing.{handed}
use Rattle.wb_judging.specs.Judged.{Judged, moment_of}
use Rattle.wb_judging.specs.Performing.{after_judged, after_kept_line, judging}
use Rattle.wb_judging.proofs.Numbers.{me_judging}
use Rattle.wb_kept_progress.proofs.Counted.{echoes_listed}
use Rattle.wb_kept_progress.proofs.Pauses.{mapped_few, sorted_few}
use Rattle.wb_judged_sessions.specs.Answering.{FewAreEchoed}
use Rattle.wb_judged_sessions.specs.Calls.{after_call, JudgedCall}
use Rattle.wb_judged_sessions.specs.Sessions.{judged_at}
use Rattle.wb_judged_sessions.proofs.Echoed.{IsReported, last_is, reported, taken_line, timed_line}
use Rattle.wb_judged_sessions.proofs.Records.{number_at}
use Rattle.wb_judged_sessions.proofs.Sent.{echo_mine}
use Rattle.wb_judged_sessions.proofs.TakenIn.{CallTells, call_tells, moment_in, newest_of, remember_grows, senders, AreEchoedBy}
use Rattle.wb_policy.specs.Choices.{echoed, firsts_of}
use Rattle.wb_judged_sessions.proofs.Terms.{own_at}

-- ---- whoever was heard is remembered

remembered : (me number : ℕ) (calls : List KeeperCall) (h : Heard) → length (senders_of me calls) ≤ 32 → newest (λ call. heard_by number (session_heard me call)) calls ≡ Some h
    → list_any (nat_eq number) (senders_of me calls) ≡ true
remembered me number [] h few e = absurd (none-some h e)
remembered me number (call ∷ calls) h few e = by (session_heard me call) few e (remembered me number calls h) where
  known : List ℕ
  known = senders_of me calls

  before : Option Heard
  before = newest (λ call. heard_by number (session_heard me call)) calls

  by : (told : Option (ℕ × Heard)) → length (remember told known) ≤ 32 → option_or (heard_by number told) before ≡ Some h → (length known ≤ 32 → before ≡ Some h → list_any (nat_eq number) known ≡ true)
      → list_any (nat_eq number) (remember told known) ≡ true
  by None few e rest = rest few e
  by (Some told) few e rest = choose (nat_eq told.0 number) refl e where
    small : length known ≤ 32
    small = let g = remember_grows (Some told) known in omega (arith, g, few)

    is_there : list_any (nat_eq number) known ≡ true → (b : Bool) → list_any (nat_eq number) (cond b known (told.0 ∷ known)) ≡ true
    is_there there true = there
    is_there there false = ap (λ (c : Bool). nat_eq number told.0 || c) there ∙ or-true (nat_eq number told.0)

    comes : told.0 ≡ number → (c : Bool) → list_any (nat_eq told.0) known ≡ c → (full : Bool) → nat_le MAX_ENTRIES (length known) ≡ full
        → list_any (nat_eq number) (cond (c || full) known (told.0 ∷ known)) ≡ true
    comes same true there full f = ap (λ (n : ℕ). list_any (nat_eq n) known) (sym same) ∙ there
    comes same false there true f = absurd (never (leb-true MAX_ENTRIES (length known) f)) where
      never : MAX_ENTRIES ≤ length known → ⊥
      never le = let s = small in omega (arith, le, s)
    comes same false there false f = ap (λ (b : Bool). b || list_any (nat_eq number) known) (eq-eqb number told.0 (sym same))

    choose : (b : Bool) → nat_eq told.0 number ≡ b → option_or (cond b (Some told.1) None) before ≡ Some h → list_any (nat_eq number) (remember (Some told) known) ≡ true
    choose true same e = comes (eqb-true told.0 number same) (list_any (nat_eq told.0) known) refl (nat_le MAX_ENTRIES (length known)) refl
    choose false other e = is_there (rest small e) (list_any (nat_eq told.0) known || nat_le MAX_ENTRIES (length known))

-- ---- each of few is echoed

echoed_of : (number : ℕ) (host : Opened) (known : ℕ → Bool) (from : ℕ) (h : Heard) → length (senders host) ≤ 32 → newest_of number host ≡ Some h → (e : Echo) × Contains (echoed known from (echoes host)) e × (e.source ≡ number)
echoed_of number host known from h few is =
    let e : Echo = record { source = number; sent = h.sent; held = present host - h.at } in
    let listed = echoes_listed host.is.number host.is.calls (present host) in
    let some = ap (λ (b : Bool). cond b (newest_of number host) None) (remembered host.is.number number host.is.calls h few is) ∙ is in
    let told = filter_map (echo_of_sender host.is.number host.is.calls (present host)) (senders host) in
    let short = sorted_few told in
    let less = mapped_few (echo_of_sender host.is.number host.is.calls (present host)) (senders host) in
    (e, all_of_few (firsts_of known from (echoes host)) from 32 (echoes host) e (omega (arith, short, less, few)) ((listed.members e).1 (h, some, refl, refl)), refl)

-- ---- with the own echo

find_some : (p : Echo → Bool) (es : List Echo) (e : Echo) → Contains es e → p e ≡ true → is_some (find p es) ≡ true
find_some p [] e c is = absurd (Contains-none e c)
find_some p (x ∷ es) e c is = by (p x) refl (find_some p es e) where
  by : (b : Bool) → p x ≡ b → (Contains es e → p e ≡ true → is_some (find p es) ≡ true) → is_some (cond b (Some x) (find p es)) ≡ true
  by true it rest = refl
  by false it rest = ⊎_elim
      (λ (same : x ≡ e). absurd (true≢false (sym is ∙ ap p (sym same) ∙ it)))
      (λ (later : Contains es e). rest later is)
      (Contains-cases x e es c)

placed_too : (x e : Echo) (es : List Echo) → (x.source ≡ e.source → ⊥) → Contains es e → Contains (placed x es) e
placed_too x e es apart c = by (nat_lt e.source x.source) refl where
  above : nat_lt e.source x.source ≡ false → nat_lt x.source e.source ≡ true
  above is = grind (arith, nat_tests)

  before : List Echo
  before = filter (λ (f : Echo). nat_lt f.source x.source) es

  later : List Echo
  later = filter (λ (f : Echo). nat_lt x.source f.source) es

  by : (b : Bool) → nat_lt e.source x.source ≡ b → Contains (before ++ x ∷ later) e
  by true is = Contains-append_left before (x ∷ later) e (Contains-filter (λ (f : Echo). nat_lt f.source x.source) es e c is)
  by false is = Contains-append_right before (x ∷ later) e (Contains-there x e later (Contains-filter (λ (f : Echo). nat_lt x.source f.source) es e c (above is)))

with_it : (own : Option Echo) (e : Echo) (es : List Echo) → ((x : Echo) → own ≡ Some x → x.source ≡ e.source → ⊥) → Contains es e → Contains (with_echo own es) e
with_it None e es apart c = c
with_it (Some x) e es apart c = by (nat_lt (length es) MAX_ENTRIES) where
  by : (b : Bool) → Contains (cond b (placed x es) es) e
  by true = placed_too x e es (apart x refl) c
  by false = c

pub few_are_echoed : FewAreEchoed
unfolding after_kept_line
few_are_echoed numbers older e line number sender moment page marks es heard taken takes another sent last few =
    subst (λ (fs : List Echo). is_some (echo_to number fs) ≡ true) (sym r.echoed)
    (find_some (λ (x : Echo). nat_eq x.source number) (with_echo own r.plain) it.0 (with_it own it.0 r.plain mine (subst (λ (fs : List Echo). Contains fs it.0) (sym said.2.is) it.1)) (eq-eqb it.0.source number it.2)) where
      h : Judged
      h = judged_at numbers older e.place

      own : Option Echo
      own = own_echo (moment_of line h) (judging line h)

      apart : nat_eq number (numbers e.place) ≡ false
      apart = false_from_ne_true (nat_eq number (numbers e.place)) (λ is. another (eqb-true number (numbers e.place) is))

      r : IsReported line h sender moment page marks es
      r = reported line h sender moment page marks es sent

      tells : CallTells number (handed line h) h.kept
      tells = call_tells number (handed line h) h.kept (ap (nat_eq number) (number_at numbers older e.place) ∙ apart) (timed_line line h).0

      k : Keeping
      k = after_doing (doing_of (handed line h)) h.kept

      said : (there : Opened) × (moment ≡ moment_in (handed line h)) × AreEchoedBy there r.plain × (newest_of number there ≡ newest_of number k.host) × (present there ≡ moment)
          × (length (senders there) ≤ length (senders k.host))
      said = tells.said sender moment page marks r.plain (taken_line numbers older e line taken takes) r.among

      after : judged_at numbers (e ∷ older) e.place ≡ after_judged line h
      after = ap (λ (b : Bool). cond b (after_call e.event h) h) (eq-eqb e.place e.place refl) ∙ ap (λ (call : JudgedCall). after_call call h) takes

      is : newest_of number said.0 ≡ Some heard
      is = said.3 ∙ sym (ap (λ (k : Judged). newest_of number k.kept.host) after) ∙ last_is number numbers e.place (e ∷ older) apart ∙ last

      small : length (senders said.0) ≤ 32
      small = let fewer = said.5 in let end = subst (λ (k : Judged). length (senders k.kept.host) ≤ 32) after few in omega (arith, fewer, end)

      it : (x : Echo) × Contains (echoed said.2.known said.2.from (echoes said.0)) x × (x.source ≡ number)
      it = echoed_of number said.0 said.2.known said.2.from heard small is

      mine : (x : Echo) → own ≡ Some x → x.source ≡ it.0.source → ⊥
      mine x is same =
          another (sym it.2 ∙ sym same ∙ echo_mine (judging line h).me (moment_of line h) (alien_at (moment_of line h) (judging line h).aliens) x is ∙ me_judging line h ∙ own_at numbers older e.place ∙ number_at numbers older e.place)
