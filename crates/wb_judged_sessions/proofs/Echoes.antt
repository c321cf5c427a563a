-- A self-managing member reports under its own number, and echoes others alone, in the order of their numbers.
use Rattle.std.proofs.Common.{◌≡◌, ℕ, Bool, true, false, cond, List, [], ◌∷◌, ◌++◌, ◌∙◌, Some, None, ap, arith, filter, length, refl, subst, sym}
use Rattle.std.specs.Prelude.{Contains, Option, nat_eq, nat_lt, not, take}
use Rattle.std.specs.List.Sorted.{IsStrictlySortedBy}
use Rattle.std.specs.declared.cmp.Ordering.TheVariants.{Less}
use Rattle.std.proofs.lemmas.Bool.Decides.{nat_tests}
use Rattle.std.proofs.lemmas.Grind.{common_steps}
use Rattle.std.proofs.lemmas.List.Elements.{filter-append}
use Rattle.std.proofs.lemmas.List.Kept.{IsStrictlySortedBy-filter}
use Rattle.std.proofs.lemmas.Map.Keys.{sorted_tail}
use Rattle.std.proofs.lemmas.Option.{none-some, same_Some}
use Rattle.wb_names.specs.declared.echo.Echo.{Echo}
use Rattle.wb_names.specs.declared.entries.TheConstants.{MAX_ENTRIES}
use Rattle.wb_names.proofs.Listings.{Contains-from_filter, Contains-here, Contains-there, below_all}
use Rattle.wb_codec.specs.declared.datagram.Datagram.{Datagram}
use Rattle.wb_codec.specs.declared.datagram.Datagram.TheVariants.{AskPages, Draw, PageState, Request, Session}
use Rattle.wb_gaps.specs.Answers.{pages_of}
use Rattle.wb_keeper.specs.Keeper.{Hear, KeeperCall, is_own, session_heard}
use Rattle.wb_keeper.specs.Sessions.{echo_cmp}
use Rattle.wb_keeper.specs.declared.keeper.Heard.{Heard}
use Rattle.wb_keeper.proofs.FirstSenders.{first_senders_are_echoed}
use Rattle.wb_keeper.proofs.OneMessage.{echo_total}
use Rattle.wb_member.specs.Judged.{echoes}
use Rattle.wb_member.specs.Opened.{Opened, present}
use Rattle.wb_policy.specs.Policy.{Policy}
use Rattle.wb_keeping.specs.Kept.{Line}
use Rattle.wb_keeping.specs.Laws.{KeptLine, doing_of, fault_of}
use Rattle.wb_keeping.specs.Performing.{Keeping, after_lines, sees, sent_by_doing, view_of}
use Rattle.wb_keeping.proofs.EachLine.{Each, each_both, states_each}
use Rattle.wb_keeping.proofs.EachStep.{HoldsOfSteps, line_holds}
use Rattle.wb_keeping.proofs.Performed.{after_both}
use Rattle.wb_judging.specs.Echoing.{echoing, placed, with_echo}
use Rattle.wb_kept_progress.proofs.Counted.{echoes_listed}
use Rattle.wb_kept_progress.proofs.Lines.{lines_of}
use Rattle.wb_laws_machines.specs.Maps.{plain}
use Rattle.wb_judged_sessions.proofs.Plain.{of_others}
use Rattle.wb_policy.specs.Choices.{echoed}
use Rattle.wb_keeping.specs.Views.{is_known}
use Rattle.wb_judged_sessions.proofs.SaidOnly.{SaysOnly, lines_send, want_says}

-- ---- lists of echoes of others, in order

filter_all : (p : Echo → Bool) (es : List Echo) → ((f : Echo) → Contains es f → p f ≡ true) → filter p es ≡ es
filter_all p [] each = refl
filter_all p (f ∷ es) each =
    ap (λ (b : Bool). cond b (f ∷ filter p es) (filter p es)) (each f (Contains-here f es))
    ∙ ap (λ (fs : List Echo). f ∷ fs) (filter_all p es (λ g c. each g (Contains-there f g es c)))

filter_none : (p : Echo → Bool) (es : List Echo) → ((f : Echo) → Contains es f → p f ≡ false) → filter p es ≡ []
filter_none p [] each = refl
filter_none p (f ∷ es) each =
    ap (λ (b : Bool). cond b (f ∷ filter p es) (filter p es)) (each f (Contains-here f es)) ∙ filter_none p es (λ g c. each g (Contains-there f g es c))

module _ (me : ℕ) where
  abbrev is_below : Echo → Bool
  is_below f = nat_lt f.source me

  abbrev is_above : Echo → Bool
  is_above f = nat_lt me f.source

  abbrev OfOthers : List Echo → Type 0
  OfOthers es = (f : Echo) → Contains es f → nat_eq f.source me ≡ false

  not_below : (f g : Echo) → is_below f ≡ false → echo_cmp f g ≡ Less → is_below g ≡ false
  not_below f g e less = grind (arith, common_steps, nat_tests)

  above_then : (f : Echo) → nat_eq f.source me ≡ false → is_below f ≡ false → is_above f ≡ true
  above_then f other e = grind (arith, nat_tests)

  not_above : (f : Echo) → is_below f ≡ true → is_above f ≡ false
  not_above f e = grind (arith, nat_tests)

  -- all that are below and all that are above are all
  parts : (es : List Echo) → IsStrictlySortedBy echo_cmp es → OfOthers es → filter is_below es ++ filter is_above es ≡ es
  parts [] rising others = refl
  parts (f ∷ es) rising others = by (is_below f) refl (parts es (sorted_tail echo_cmp f es rising) (λ g c. others g (Contains-there f g es c))) where
    by : (b : Bool) → is_below f ≡ b → filter is_below es ++ filter is_above es ≡ es
        → cond b (f ∷ filter is_below es) (filter is_below es) ++ cond (is_above f) (f ∷ filter is_above es) (filter is_above es) ≡ f ∷ es
    by true is rest =
        ap (λ (c : Bool). (f ∷ filter is_below es) ++ cond c (f ∷ filter is_above es) (filter is_above es)) (not_above f is) ∙ ap (λ (fs : List Echo). f ∷ fs) rest
    by false is rest =
        let none = filter_none is_below es (λ g c. not_below f g is (below_all echo_total f g es rising c)) in
        ap (λ (c : Bool). filter is_below es ++ cond c (f ∷ filter is_above es) (filter is_above es)) (above_then f (others f (Contains-here f es)) is)
        ∙ ap (λ (fs : List Echo). fs ++ (f ∷ filter is_above es)) none
        ∙ ap (λ (fs : List Echo). f ∷ fs) (ap (λ (fs : List Echo). fs ++ filter is_above es) (sym none) ∙ rest)

  abbrev is_other : Echo → Bool
  is_other f = not (nat_eq f.source me)

  some_others : (p : Echo → Bool) (es : List Echo) → OfOthers es → of_others me (filter p es) ≡ filter p es
  some_others p es others = filter_all is_other (filter p es) (λ f c. ap not (others f (Contains-from_filter p es f c).0))

  -- Without the echo under this number they are as they were.
  pub record AreOthers (es : List Echo) : Type 0 where
    pub alone : of_others me es ≡ es
    pub beside : (e : Echo) → e.source ≡ me → of_others me (placed e es) ≡ es

  is_mine : (e : Echo) → e.source ≡ me → is_other e ≡ false
  is_mine e mine = grind (arith, nat_tests)

  are_others : (es : List Echo) → IsStrictlySortedBy echo_cmp es → OfOthers es → AreOthers es
  are_others es rising others = record {
    alone = filter_all is_other es (λ f c. ap not (others f c));
    beside = λ e mine.
        let before : ℕ → List Echo = λ s. filter (λ (f : Echo). nat_lt f.source s) es in
        let behind : ℕ → List Echo = λ s. filter (λ (f : Echo). nat_lt s f.source) es in
        ap (λ (s : ℕ). of_others me (before s ++ e ∷ behind s)) mine
        ∙ filter-append is_other (filter is_below es) (e ∷ filter is_above es)
        ∙ ap (λ (b : Bool). of_others me (filter is_below es) ++ cond b (e ∷ of_others me (filter is_above es)) (of_others me (filter is_above es))) (is_mine e mine)
        ∙ ap (λ (fs : List Echo). fs ++ of_others me (filter is_above es)) (some_others is_below es others)
        ∙ ap (λ (fs : List Echo). filter is_below es ++ fs) (some_others is_above es others)
        ∙ parts es rising others;
  }

-- ---- the echoes of a member

abbrev Told : Type 0
Told = Option (ℕ × Heard)

none_if : (b : Bool) (told : ℕ × Heard) → cond {A = Told} b None None ≡ Some told → ⊥
none_if true told e = none-some told e
none_if false told e = none-some told e

heard_other : (me : ℕ) (call : KeeperCall) (source : ℕ) (h : Heard) → session_heard me call ≡ Some (source, h) → nat_eq source me ≡ false
heard_other me (Hear now (Session sender sent page marks es) word held) source h e = by (nat_eq sender me) refl e where
  told : ℕ × Heard
  told = (sender, record { sent = sent; at = now })

  by : (b : Bool) → nat_eq sender me ≡ b → cond {A = Told} b None (Some told) ≡ Some (source, h) → nat_eq source me ≡ false
  by true is e = absurd (none-some (source, h) e)
  by false is e = ap (λ (t : ℕ × Heard). nat_eq t.0 me) (sym (same_Some told (source, h) e)) ∙ is
heard_other me (Hear now v word held) source h e = absurd (none_if (is_own me v) (source, h) e)
heard_other me call source h e = absurd (none-some (source, h) e)

echoes_others : (host : Opened) (known : ℕ → Bool) (from : ℕ) → AreOthers host.is.number (echoed known from (echoes host))
echoes_others host known from =
    let listed = echoes_listed host.is.number host.is.calls (present host) in
    are_others host.is.number (echoed known from (echoes host)) (IsStrictlySortedBy-filter echo_cmp _ (echoes host) listed.rising)
    (λ e c.
    let r = (listed.members e).0 (Contains-from_filter _ (echoes host) e c).0 in
    let latest = ((first_senders_are_echoed host.is.number host.is.calls e.source r.0).0 r.1).1 in
    heard_other host.is.number latest.call e.source r.0 latest.heard)

-- ---- what a member says

-- of what says who sends it: it is of this member; and a report echoes others
abbrev pub IsOfMember : ℕ → Datagram → Type 0
IsOfMember me (Draw d) = Unit {0}
IsOfMember me (Session sender sent page marks es) = (sender ≡ me) × AreOthers me es
IsOfMember me (Request asker name) = asker ≡ me
IsOfMember me (AskPages asker) = asker ≡ me
IsOfMember me (PageState sender page marks) = sender ≡ me

-- with an echo of its own, or none, it is plainly what it was
pub plain_again : (me : ℕ) (echo : Option Echo) → ((e : Echo) → echo ≡ Some e → e.source ≡ me) → (v : Datagram) → IsOfMember me v → plain (echoing echo v) ≡ v
plain_again me echo mine (Session sender sent page marks es) is =
    ap (λ (fs : List Echo). Session sender sent page marks fs) (ap (λ (s : ℕ). of_others s (with_echo echo es)) is.0 ∙ by echo mine) where
      if_few : (b : Bool) (e : Echo) → e.source ≡ me → of_others me (cond b (placed e es) es) ≡ es
      if_few true e own = is.1.beside e own
      if_few false e own = is.1.alone

      by : (echo : Option Echo) → ((e : Echo) → echo ≡ Some e → e.source ≡ me) → of_others me (with_echo echo es) ≡ es
      by None mine = is.1.alone
      by (Some e) mine = if_few (nat_lt (length es) MAX_ENTRIES) e (mine e refl)
plain_again me echo mine v is = refl

-- a policy says only what is of its member
record SaysPlainly (k : Keeping) (lines : List Line) (m : Keeping) : Type 0 where
  at : m.host ≡ after_lines lines k.host
  said : Each (SaysOnly (IsOfMember k.host.is.number)) lines

plainly : (k : Keeping) (lines : List Line) (p : Policy) → Each (SaysOnly (IsOfMember k.host.is.number)) lines → SaysPlainly k lines (record { host = after_lines lines k.host; policy = p })
plainly k lines p said = record { at = refl; said = said }

both_say : (k m n : Keeping) (one other : List Line) → SaysPlainly k one m → SaysPlainly m other n → SaysPlainly k (one ++ other) n
both_say k m n one other a b = record {
  at = b.at ∙ ap (after_lines other) a.at ∙ sym (after_both one other k.host);
  said = each_both (SaysOnly (IsOfMember k.host.is.number)) one other a.said
      (subst (λ (me : ℕ). Each (SaysOnly (IsOfMember me)) other) (ap (λ (host : Opened). host.is.number) a.at ∙ (lines_of one k.host).number) b.said);
}

steps_say : HoldsOfSteps SaysPlainly
steps_say = record {
  due = record {
    nothing = λ k. plainly k [] k.policy tt;
    both = both_say;
    wants = λ name anew k. plainly k _ _ (want_says (IsOfMember k.host.is.number) name anew (sees k.host) k.policy);
    turned = λ t l k. plainly k [] _ tt;
    beats = λ k due. plainly k [] _ tt;
    answers = λ k is. plainly k _ _ (states_each (SaysOnly (IsOfMember k.host.is.number)) (view_of k.host) (λ page. refl) (take 64 (pages_of k.host.is.held)));
    asks_pages = λ k is. plainly k _ _ (refl, tt);
    reports = λ page until told k is. plainly k _ _ ((refl, echoes_others k.host (is_known (view_of k.host)) k.policy.echoed), tt);
  };
  ticks = λ now k later. plainly k _ k.policy (tt, tt);
  arrives = λ d k free. plainly k _ k.policy (tt, tt);
  answered = λ d k lacks asked. plainly k _ _ (tt, tt);
  hears = λ v k. plainly k _ k.policy (tt, tt);
  stops = λ name k full. plainly k _ k.policy (tt, tt);
  sets = λ source micros k. plainly k _ k.policy (tt, tt);
  lends = λ source k. plainly k _ k.policy (tt, tt);
  takes_back = λ source k. plainly k _ k.policy (tt, tt);
  tunes = λ constants k within. plainly k _ k.policy (tt, tt);
  draws = λ d k unasked. plainly k _ k.policy (tt, tt);
  drawn = λ d k asked. plainly k _ _ (tt, tt);
  measured = λ micros k. plainly k [] _ tt;
  told = λ k. plainly k [] _ tt;
  takes_up = λ k is. plainly k [] _ tt;
}

pub call_sends : (line : KeptLine) (k : Keeping) → fault_of line k ≡ None → (v : Datagram) → Contains (sent_by_doing (doing_of line) k) v → IsOfMember k.host.is.number v
call_sends line k none v c =
    lines_send IsOfMember (λ me d. tt) (λ me name. refl) (λ me page marks. refl) (doing_of line (sees k.host) k.policy).lines k.host (line_holds SaysPlainly steps_say line k none).said v c
