-- A host that asks for a name of some kind does so after each step of a policy that asks for names of that kind alone, or it holds more then.
use Rattle.std.proofs.Common.{◌≡◌, ℕ, ◌-◌, ◌<◌, ◌≤◌, Bool, true, false, cond, List, [], ◌∷◌, ◌++◌, ◌∙◌, None, ap, arith, inl, inr, length, refl, subst, sym, true≢false, ⊎_elim}
use Rattle.std.specs.Prelude.{◌⊎◌, Contains, not, take}
use Rattle.std.proofs.lemmas.Bool.{and_parts, false_from_ne_true, not-true}
use Rattle.std.proofs.lemmas.List.Elements.{Contains-append_cases, Contains-append_left, Contains-append_right}
use Rattle.std.proofs.Math.Nat.{le_refl}
use Rattle.wb_names.specs.Arrivals.{Outcome, New, Again, Clash, Left, history_with, outcome_of}
use Rattle.wb_names.specs.declared.name.PageId.{PageId}
use Rattle.wb_names.specs.declared.parts.Op.{Op}
use Rattle.wb_names.specs.Values.{DrawopValue, NameValue}
use Rattle.wb_names.proofs.Listings.{Contains-here, Contains-there}
use Rattle.wb_codec.specs.declared.datagram.Datagram.{Datagram}
use Rattle.wb_codec.specs.declared.datagram.Datagram.TheVariants.{Draw}
use Rattle.wb_gaps.specs.Answers.{pages_of}
use Rattle.wb_keeper.specs.Hearing.{asks_for_held}
use Rattle.wb_keeper.specs.Keeper.{delay_to, holds}
use Rattle.wb_member.specs.Judged.{is_full}
use Rattle.wb_member.specs.Opened.{Opened, asks_for, events, has_room_for, heard, present, word_at}
use Rattle.wb_member.specs.Lines.{IsOfPolicy}
use Rattle.wb_member.specs.declared.calls.Call.{Call}
use Rattle.wb_member.specs.declared.calls.Call.TheVariants.{Tick, Hear, Tune, Look, Ask}
use Rattle.wb_policy.specs.Policy.{Policy, after_came, after_drawing, after_wanting}
use Rattle.wb_keeping.specs.Bounds.{is_ask}
use Rattle.wb_keeping.specs.Fairness.{AnswersWhatIsHeld}
use Rattle.wb_keeping.specs.Kept.{Arrives, Calls, Doing, Line, Says, still, want}
use Rattle.wb_keeping.specs.Laws.{Added, Came, KeptLine, doing_of, fault_of}
use Rattle.wb_keeping.specs.Performing.{Keeping, after_doing, after_line, after_lines, sees, view_of}
use Rattle.wb_keeping.specs.Views.{holds as holds_by}
use Rattle.wb_keeping.proofs.EachLine.{states_each}
use Rattle.wb_keeping.proofs.EachStep.{HoldsOfSteps, having, having_done, line_holds, with_policy}
use Rattle.wb_keeping.proofs.Performed.{after_both}
use Rattle.wb_keeping.proofs.Saying.{says_after}
use Rattle.wb_keeping.proofs.StandingTimers.{keeps, missed_from, missed_to}
use Rattle.wb_keeping.proofs.Unlocked.{not_fresh}
use Rattle.wb_keeping.proofs.Wanted.{is_wanted_here, lines_wanted}
use Rattle.wb_keeping.proofs.WantedNames.{lines_answer_held}
use Rattle.wb_kept_progress.proofs.AskedInCalls.{AskFor, AskNothing, HasAsk, IsAskOf, IsMore, asked_is, longer_by_one, wanted_is_asked}
use Rattle.wb_kept_progress.proofs.FirstLines.{AreLinesOf, IsLineOf, lines_of_call, made_in_call}
use Rattle.wb_keeping.proofs.StayStanding.{arrival_stands, still_missed, ticked_stands}
use Rattle.wb_kept_progress.proofs.LeadingSteps.{want_holds, want_stands}
use Rattle.wb_kept_progress.proofs.Lines.{call_holds, lines_grow}
use Rattle.wb_kept_progress.proofs.StopCauses.{room_before}
use Rattle.wb_kept_progress.proofs.WantedIn.{IsAskedInCall}

-- ---- a name of a kind

module _ (P : NameValue → Type 0) where
  -- some name of the kind is lacked and asked for
  pub record AsksOne (k : Keeping) : Type 0 where
    pub name : NameValue
    pub is : P name
    pub lacks : holds k.host.is.held name ≡ false
    pub asked : asks_for name k.host ≡ true

  -- it answers for what it holds alone, has room afterwards, and asks for names of the kind alone
  pub record MayStay (k : Keeping) (lines : List Line) (m : Keeping) : Type 0 where
    pub answers_held : AnswersWhatIsHeld k.host
    pub room : is_full m.host ≡ false
    pub asks : AskFor P lines

  pub record StaysAsked (k : Keeping) (lines : List Line) (m : Keeping) : Type 0 where
    pub at : m.host ≡ after_lines lines k.host
    -- a host that asked for one does so afterwards, and so does one that begins to
    pub on : MayStay k lines m → AsksOne k → AsksOne m ⊎ IsMore k m
    pub begins : MayStay k lines m → HasAsk lines → AsksOne m ⊎ IsMore k m
    pub spent : HasAsk lines ⊎ (m.policy.owed ≤ k.policy.owed)

  with_other : (p : Policy) (k : Keeping) → AsksOne k → AsksOne (with_policy p k)
  with_other p k a = record { name = a.name; is = a.is; lacks = a.lacks; asked = a.asked }

  same_then : (k m : Keeping) → m.host ≡ k.host → AsksOne k → AsksOne m
  same_then k m same a = record {
    name = a.name;
    is = a.is;
    lacks = ap (λ (h : Opened). holds h.is.held a.name) same ∙ a.lacks;
    asked = ap (asks_for a.name) same ∙ a.asked;
  }

  -- a step that asks for nothing
  quiet : (k : Keeping) (lines : List Line) (m : Keeping) → m.host ≡ after_lines lines k.host → AskNothing lines → m.policy.owed ≤ k.policy.owed → (AsksOne k → AsksOne m ⊎ IsMore k m) → StaysAsked k lines m
  quiet k lines m at none le goes_on = record {
    at = at;
    on = λ may a. goes_on a;
    begins = λ may h. absurd (asked_is (λ n. ⊥) lines h.0 none h.1);
    spent = inr le;
  }

  -- ---- steps one after the other

  first_asks : (one other : List Line) → AskFor P (one ++ other) → AskFor P one
  first_asks [] other asks = tt
  first_asks (line ∷ one) other asks = (asks.0, first_asks one other asks.1)

  second_asks : (one other : List Line) → AskFor P (one ++ other) → AskFor P other
  second_asks [] other asks = asks
  second_asks (line ∷ one) other asks = second_asks one other asks.1

  module _ (k m l : Keeping) (one other : List Line) (a : StaysAsked k one m) (b : StaysAsked m other l) where
    at_end : l.host ≡ after_lines (one ++ other) k.host
    at_end = b.at ∙ ap (after_lines other) a.at ∙ sym (after_both one other k.host)

    longer : length k.host.is.held ≤ length m.host.is.held
    longer = subst (λ (h : Opened). length k.host.is.held ≤ length h.is.held) (sym a.at) (lines_grow one k.host).longer

    longer_then : length m.host.is.held ≤ length l.host.is.held
    longer_then = subst (λ (h : Opened). length m.host.is.held ≤ length h.is.held) (sym b.at) (lines_grow other m.host).longer

    more_first : IsMore k m → IsMore k l
    more_first more = let le = longer_then in omega (arith, more, le)

    more_second : IsMore m l → IsMore k l
    more_second more = let le = longer in omega (arith, more, le)

    module _ (may : MayStay k (one ++ other) l) where
      may_first : MayStay k one m
      may_first = record { answers_held = may.answers_held; room = room_before other m.host l.host b.at may.room; asks = first_asks one other may.asks }

      may_second : MayStay m other l
      may_second = record {
        answers_held = subst AnswersWhatIsHeld (sym a.at) (λ name. lines_answer_held name one k.host (may.answers_held name));
        room = may.room;
        asks = second_asks one other may.asks;
      }

      second_on : AsksOne m ⊎ IsMore k m → AsksOne l ⊎ IsMore k l
      second_on is = ⊎_elim
          (λ (asks : AsksOne m). ⊎_elim (λ (then : AsksOne l). inl then) (λ (more : IsMore m l). inr (more_second more)) (b.on may_second asks))
          (λ (more : IsMore k m). inr (more_first more))
          is

      second_begins : HasAsk other → AsksOne l ⊎ IsMore k l
      second_begins h = ⊎_elim (λ (then : AsksOne l). inl then) (λ (more : IsMore m l). inr (more_second more)) (b.begins may_second h)

    both_stay : StaysAsked k (one ++ other) l
    both_stay = record {
      at = at_end;
      on = λ may asks. second_on may (a.on (may_first may) asks);
      begins = λ may h. ⊎_elim
          (λ (here : Contains one (Calls (Ask h.0))). second_on may (a.begins (may_first may) (h.0, here)))
          (λ (there : Contains other (Calls (Ask h.0))). second_begins may (h.0, there))
          (Contains-append_cases one other (Calls (Ask h.0)) h.1);
      spent = ⊎_elim
          (λ (h : HasAsk one). inl (h.0, in_first h.0 h.1))
          (λ (le : m.policy.owed ≤ k.policy.owed). ⊎_elim
          (λ (h : HasAsk other). inl (h.0, in_second h.0 h.1))
          (λ (then : l.policy.owed ≤ m.policy.owed). inr (omega (arith, le, then)))
          b.spent)
          a.spent;
    } where
      in_first : (n : NameValue) → Contains one (Calls (Ask n)) → Contains (one ++ other) (Calls (Ask n))
      in_first n c = Contains-append_left one other (Calls (Ask n)) c

      in_second : (n : NameValue) → Contains other (Calls (Ask n)) → Contains (one ++ other) (Calls (Ask n))
      in_second n c = Contains-append_right one other (Calls (Ask n)) c

  -- ---- a name is wanted

  module _ (name : NameValue) (anew : Bool) (k : Keeping) where
    abbrev so : Bool
    so = is_wanted_here name anew (sees k.host) k.policy

    abbrev wanted : Bool → Doing
    wanted b = cond b (record { policy = after_wanting (present k.host) k.policy; lines = lines_wanted name anew (sees k.host) k.policy }) (still (sees k.host) k.policy)

    asks_then : so ≡ true → AnswersWhatIsHeld k.host → P name → AsksOne (having_done (wanted true) k)
    asks_then e answers_held is = subst (λ (b : Bool). AsksOne (having_done (wanted b) k)) e (record {
      name = name;
      is = is;
      lacks = ap (λ (held : List DrawopValue). holds held name) (want_holds name anew k) ∙ not-true (holds_by (view_of k.host) name) (and_parts (not (holds_by (view_of k.host) name)) _ e).0;
      asked = want_stands name anew k answers_held e;
    })

    wants_stay : StaysAsked k (want name anew (sees k.host) k.policy).lines (after_doing (want name anew) k)
    wants_stay = by so refl where
      its : (may : MayStay k (wanted true).lines (having_done (wanted true) k)) → P name
      its may = asked_is P (wanted true).lines name may.asks (wanted_is_asked name anew (sees k.host) k.policy)

      by : (b : Bool) → so ≡ b → StaysAsked k (wanted b).lines (having_done (wanted b) k)
      by false e = quiet k [] (having_done (wanted false) k) refl tt (le_refl k.policy.owed) (λ a. inl (with_other k.policy k a))
      by true e = record {
        at = refl;
        on = λ may a. inl (asks_then e may.answers_held (its may));
        begins = λ may h. inl (asks_then e may.answers_held (its may));
        spent = inl (name, wanted_is_asked name anew (sees k.host) k.policy);
      }

  -- ---- what comes

  arrived : (d : DrawopValue) (k : Keeping) (p : Policy) → AsksOne k → AsksOne (with_policy p (having (Arrives d) k)) ⊎ IsMore k (with_policy p (having (Arrives d) k))
  arrived d k p a = by (outcome_of k.host.is.cells k.host.is.held d) refl where
    then : Opened
    then = after_line (Arrives d) k.host

    same : (o : Outcome) → outcome_of k.host.is.cells k.host.is.held d ≡ o → history_with k.host.is.held d o ≡ k.host.is.held → AsksOne (with_policy p (having (Arrives d) k))
    same o e f =
        let held : then.is.held ≡ k.host.is.held = ap (history_with k.host.is.held d) e ∙ f in
        let lacks : holds then.is.held a.name ≡ false = ap (λ (h : List DrawopValue). holds h a.name) held ∙ a.lacks in
        record { name = a.name; is = a.is; lacks = lacks; asked = arrival_stands d k.host a.name lacks a.asked }

    by : (o : Outcome) → outcome_of k.host.is.cells k.host.is.held d ≡ o → AsksOne (with_policy p (having (Arrives d) k)) ⊎ IsMore k (with_policy p (having (Arrives d) k))
    by (New i) e = inr (subst (λ (h : List DrawopValue). length k.host.is.held < length h) (sym (ap (history_with k.host.is.held d) e)) (longer_by_one k.host.is.held d))
    by (Again i) e = inl (same (Again i) e refl)
    by (Clash i) e = inl (same (Clash i) e refl)
    by Left e = inl (same Left e refl)

  heard_on : (v : Datagram) (k : Keeping) → AsksOne k → AsksOne (having (Calls (Hear v)) k)
  heard_on v k a = by (has_room_for v k.host) where
    by : (b : Bool) → AsksOne (record { host = cond b (heard v k.host) k.host; policy = k.policy })
    by true = record {
      name = a.name;
      is = a.is;
      lacks = a.lacks;
      asked =
          missed_to (heard v k.host) a.name
          (still_missed a.name k.host.is.number (present k.host) (delay_to k.host.is.number k.host.is.calls) v (word_at v k.host.random) (asks_for_held k.host.is.held v) (events k.host) (missed_from k.host a.name a.asked));
    }
    by false = with_other k.policy k a

  repaid_less : (owed : ℕ) → owed - 500000 ≤ owed
  repaid_less owed = omega arith

  -- ---- each step of a policy

  steps_stay : HoldsOfSteps StaysAsked
  steps_stay = record {
    due = record {
      nothing = λ k. quiet k [] k refl tt (le_refl k.policy.owed) (λ a. inl a);
      both = both_stay;
      wants = wants_stay;
      turned = λ t l k. quiet k [] _ refl tt (le_refl k.policy.owed) (λ a. inl (with_other _ k a));
      beats = λ k due. quiet k [] _ refl tt (le_refl k.policy.owed) (λ a. inl (with_other _ k a));
      answers = λ k is. quiet k _ _ refl (states_each (IsAskOf (λ n. ⊥)) (view_of k.host) (λ page. tt) (take 64 (pages_of k.host.is.held))) (le_refl k.policy.owed)
          (λ a. inl (same_then k _ (says_after (view_of k.host) (take 64 (pages_of k.host.is.held)) k.host) a));
      asks_pages = λ k is. quiet k _ _ refl (tt, tt) (le_refl k.policy.owed) (λ a. inl (with_other _ k a));
      reports = λ page until told k is. quiet k _ _ refl (tt, tt) (le_refl k.policy.owed) (λ a. inl (same_then k _ refl a));
    };
    ticks = λ now k later. quiet k (Calls (Tick now) ∷ []) _ refl (tt, tt) (le_refl k.policy.owed)
        (λ a. inl (record { name = a.name; is = a.is; lacks = a.lacks; asked = ticked_stands now k.host a.name a.lacks a.asked }));
    arrives = λ d k free. quiet k (Arrives d ∷ []) _ refl (tt, tt) (le_refl k.policy.owed) (λ a. arrived d k k.policy a);
    answered = λ d k lacks asked. quiet k (Arrives d ∷ []) _ refl (tt, tt) (repaid_less k.policy.owed) (λ a. arrived d k (after_came k.policy) a);
    hears = λ v k. quiet k (Calls (Hear v) ∷ []) _ refl (tt, tt) (le_refl k.policy.owed) (λ a. inl (heard_on v k a));
    stops = λ name k full. record {
      at = refl;
      on = λ may a. absurd (true≢false (sym full ∙ may.room));
      begins = λ may h. absurd (true≢false (sym full ∙ may.room));
      spent = inr (le_refl k.policy.owed);
    };
    sets = λ source micros k. quiet k _ _ refl (tt, tt) (le_refl k.policy.owed) (λ a. inl (record { name = a.name; is = a.is; lacks = a.lacks; asked = a.asked }));
    lends = λ source k. quiet k _ _ refl (tt, tt) (le_refl k.policy.owed) (λ a. inl (record { name = a.name; is = a.is; lacks = a.lacks; asked = a.asked }));
    takes_back = λ source k. quiet k _ _ refl (tt, tt) (le_refl k.policy.owed) (λ a. inl (record { name = a.name; is = a.is; lacks = a.lacks; asked = a.asked }));
    tunes = λ constants k within. quiet k (Calls (Tune constants) ∷ []) _ refl (tt, tt) (le_refl k.policy.owed) (λ a. inl (record { name = a.name; is = a.is; lacks = a.lacks; asked = a.asked }));
    draws = λ d k unasked. quiet k _ _ refl (tt, tt) (le_refl k.policy.owed) (λ a. arrived d k k.policy a);
    drawn = λ d k asked. quiet k _ _ refl (tt, tt) (repaid_less k.policy.owed) (λ a. arrived d k (after_drawing k.policy) a);
    measured = λ micros k. quiet k [] _ refl tt (le_refl k.policy.owed) (λ a. inl (with_other _ k a));
    told = λ k. quiet k [] _ refl tt (le_refl k.policy.owed) (λ a. inl (with_other _ k a));
    takes_up = λ k is. quiet k [] _ refl tt (le_refl k.policy.owed) (λ a. inl (with_other _ k a));
  }

  -- ---- a call

  pub stays_asked : (line : KeptLine) (k : Keeping) → fault_of line k ≡ None → StaysAsked k (doing_of line (sees k.host) k.policy).lines (after_doing (doing_of line) k)
  stays_asked line k none = line_holds StaysAsked steps_stay line k none

-- ---- a timer within a call

-- a policy makes each call of these lines
abbrev pub AreMade : List Line → Type 0
AreMade lines = (call : Call) → Contains lines (Calls call) → IsOfPolicy call

-- so one that asks for names asks for one
pub asks_one : (lines : List Line) (line : Line) → AreMade lines → Contains lines line → is_ask line ≡ true → HasAsk lines
asks_one lines (Calls (Ask name)) made c e = (name, c)
asks_one lines (Calls (Look page)) made c e = absurd (made (Look page) c)
asks_one lines line made c e = absurd (true≢false (sym e))

-- it stood before, or the lines ask for something
stood_or_asks : (n : NameValue) (lines : List Line) (host : Opened) → AreMade lines → asks_for n (after_lines lines host) ≡ true → (asks_for n host ≡ true) ⊎ HasAsk lines
stood_or_asks n [] host made stands = inl stands
stood_or_asks n (line ∷ lines) host made stands = ⊎_elim
    (λ (stood : asks_for n (after_line line host) ≡ true). by stood (is_ask line) refl)
    (λ (h : HasAsk lines). inr (h.0, Contains-there line (Calls (Ask h.0)) lines h.1))
    (stood_or_asks n lines (after_line line host) (λ call c. made call (Contains-there line (Calls call) lines c)) stands) where
      by : asks_for n (after_line line host) ≡ true → (b : Bool) → is_ask line ≡ b → (asks_for n host ≡ true) ⊎ HasAsk (line ∷ lines)
      by stood false e = inl (keeps line host e n stood)
      by stood true e = inr (asks_one (line ∷ lines) line made (Contains-here line lines) e)

-- of a name that is asked for in a call
pub stood_or_calls : (n : NameValue) (line : KeptLine) (k : Keeping) → IsAskedInCall n (doing_of line) k → (asks_for n k.host ≡ true) ⊎ HasAsk (doing_of line (sees k.host) k.policy).lines
stood_or_calls n line k a = ⊎_elim
    (λ (stood : asks_for n k.host ≡ true). inl stood)
    (λ (h : HasAsk (a.first ∷ a.before)). inr (h.0, all (Calls (Ask h.0)) h.1))
    (stood_or_asks n (a.first ∷ a.before) k.host (λ call c. made_in_call line k call (all (Calls call) c)) a.stands) where
      all : (x : Line) → Contains (a.first ∷ a.before) x → Contains (doing_of line (sees k.host) k.policy).lines x
      all x c = subst (λ (ls : List Line). Contains ls x) (sym a.lines) (Contains-append_left (a.first ∷ a.before) a.later x c)

-- ---- a drawop that is new

-- what is held stays, or a line brings a drawop whose name was lacked
abbrev Brings : Line → DrawopValue → Type 0
Brings line d = (line ≡ Arrives d) ⊎ (line ≡ Says (Draw d))

taken : (d : DrawopValue) (host : Opened) → ((after_line (Arrives d) host).is.held ≡ host.is.held) ⊎ (holds host.is.held d.name ≡ false)
taken d host = by (outcome_of host.is.cells host.is.held d) refl where
  by : (o : Outcome) → outcome_of host.is.cells host.is.held d ≡ o → ((after_line (Arrives d) host).is.held ≡ host.is.held) ⊎ (holds host.is.held d.name ≡ false)
  by (New i) e = inr (false_from_ne_true (holds host.is.held d.name) (λ held. not_fresh host.is.cells 0 host.is.held d i held e))
  by (Again i) e = inl (ap (history_with host.is.held d) e)
  by (Clash i) e = inl (ap (history_with host.is.held d) e)
  by Left e = inl (ap (history_with host.is.held d) e)

line_brings_new : (line : Line) (host : Opened) → ((after_line line host).is.held ≡ host.is.held) ⊎ ((d : DrawopValue) × Brings line d × (holds host.is.held d.name ≡ false))
line_brings_new (Arrives d) host = ⊎_elim (λ (same : (after_line (Arrives d) host).is.held ≡ host.is.held). inl same) (λ (lacks : holds host.is.held d.name ≡ false). inr (d, inl refl, lacks)) (taken d host)
line_brings_new (Says (Draw d)) host = ⊎_elim (λ (same : (after_line (Arrives d) host).is.held ≡ host.is.held). inl same) (λ (lacks : holds host.is.held d.name ≡ false). inr (d, inr refl, lacks)) (taken d host)
line_brings_new (Calls call) host = inl (call_holds call host)
line_brings_new (Says v) host = inl refl

-- a call that brings more is of a drawop that is new, or draws
pub record IsOfNew (line : KeptLine) (host : Opened) : Type 0 where
  pub now : ℕ
  pub d : DrawopValue
  pub is : line ≡ Came now (Draw d)
  pub lacks : holds host.is.held d.name ≡ false

abbrev pub IsDrawing : KeptLine → Type 0
IsDrawing line = (now : ℕ) × (page : PageId) × (time : ℕ) × (op : Op) × (line ≡ Added now page time op)

lines_bring_new : (call : KeptLine) (start host : Opened) (lines : List Line) → AreLinesOf call start host lines → length host.is.held < length (after_lines lines host).is.held → IsOfNew call host ⊎ IsDrawing call
lines_bring_new call start host [] all more = absurd (omega (arith, more))
lines_bring_new call start host (line ∷ lines) all more = ⊎_elim
    (λ (same : (after_line line host).is.held ≡ host.is.held). ⊎_elim
    (λ (n : IsOfNew call (after_line line host)). inl (record { now = n.now; d = n.d; is = n.is; lacks = ap (λ (h : List DrawopValue). holds h n.d.name) (sym same) ∙ n.lacks }))
    (λ (drawn : IsDrawing call). inr drawn)
    (lines_bring_new call start (after_line line host) lines all.1 (subst (λ (h : List DrawopValue). length h < length (after_lines lines (after_line line host)).is.held) (sym same) more)))
    (λ (n : (d : DrawopValue) × Brings line d × (holds host.is.held d.name ≡ false)). ⊎_elim
    (λ (arrives : line ≡ Arrives n.0). let a : IsLineOf call start host (Arrives n.0) = subst (IsLineOf call start host) arrives all.0 in inl (record { now = a.0.0; d = n.0; is = a.0.1; lacks = n.2 }))
    (λ (says : line ≡ Says (Draw n.0)). let a : IsLineOf call start host (Says (Draw n.0)) = subst (IsLineOf call start host) says all.0 in inr (a.0, a.1, a.2, a.3, a.4))
    n.1)
    (line_brings_new line host)

pub more_is_new : (line : KeptLine) (k : Keeping) → IsMore k (after_doing (doing_of line) k) → IsOfNew line k.host ⊎ IsDrawing line
more_is_new line k more = lines_bring_new line k.host k.host (doing_of line (sees k.host) k.policy).lines (lines_of_call line k) more
