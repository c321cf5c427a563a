-- What a call leads to at a live host that lacks nothing but missing numbers, each of which another holds: it goes on asking for one; and if it asks for
-- none, it spends nothing, and no turn was due while there was credit.
use Rattle.std.proofs.Common.{◌≡◌, ℕ, ◌+◌, ◌<◌, ◌≤◌, Bool, true, false, List, [], ◌∷◌, ◌++◌, ◌∙◌, Some, None, ap, append_assoc, arith, inl, inr, refl, subst, sym, ⊎_elim}
use Rattle.std.specs.Prelude.{◌⊎◌, Contains}
use Rattle.std.proofs.lemmas.Bool.Decides.{leb_tells}
use Rattle.std.proofs.lemmas.Option.{same_Some}
use Rattle.wb_names.specs.Values.{DrawopValue, NameValue}
use Rattle.wb_codec.specs.declared.datagram.Datagram.TheVariants.{Draw}
use Rattle.wb_gaps.specs.Gaps.{IsMissing}
use Rattle.wb_progress.specs.Turns.{Terms, settled_by}
use Rattle.wb_keeper.specs.Keeper.{holds}
use Rattle.wb_member.specs.Judged.{is_full}
use Rattle.wb_member.specs.Opened.{asks_for, present}
use Rattle.wb_member.specs.declared.calls.Call.TheVariants.{Tick}
use Rattle.wb_policy.specs.Credit.{has_credit}
use Rattle.wb_policy.specs.Fairness.{name_in_turn}
use Rattle.wb_policy.specs.Policy.{Policy}
use Rattle.wb_keeping.specs.Fairness.{AnswersWhatIsHeld}
use Rattle.wb_keeping.specs.Kept.{Arrives, Calls, Line, takes, timed}
use Rattle.wb_keeping.specs.Laws.{KeptLine, doing_of, fault_of}
use Rattle.wb_keeping.specs.Performing.{Keeping, after_doing, sees}
use Rattle.wb_keeping.proofs.EachStep.{having}
use Rattle.wb_kept_progress.specs.Filling.{OnlyHolesAreLacked}
use Rattle.wb_kept_progress.specs.LeadsOn.{AsksForMissing, IsMissingAt, IsNew, with_drawop}
use Rattle.wb_kept_progress.specs.Sessions.{AreTaken, At, Opening, at, kept_at}
use Rattle.wb_kept_progress.specs.Timed.{AreInOrder, time_of}
use Rattle.wb_kept_progress.specs.Whole.{HolesAreHeld, IsHeldBySome, IsTimelySession, there}
use Rattle.wb_kept_progress.proofs.AskedInCalls.{HasAsk, IsMore, asks_as, more_differs}
use Rattle.wb_kept_progress.proofs.AskedStays.{AsksOne, IsDrawing, IsOfNew, MayStay, StaysAsked, more_is_new, stays_asked, stood_or_calls}
use Rattle.wb_kept_progress.proofs.Becoming.{lacked_before}
use Rattle.wb_kept_progress.proofs.Causes.{goes}
use Rattle.wb_kept_progress.proofs.Courses.{IsCourse}
use Rattle.wb_kept_progress.proofs.InTurn.{IsIdle, IsTimedCall, IsTurning, idle_due, idle_or_turning, timed_now, turned_later, turned_soon}
use Rattle.wb_kept_progress.proofs.Leaving.{hears_tells}
use Rattle.wb_kept_progress.proofs.LeadsOn.{asked_before, before_due, goes_on, held_is, leads_on, spends, turned_so, was}
use Rattle.wb_kept_progress.proofs.Moments.{moment_of, told_itself}
use Rattle.wb_kept_progress.proofs.NothingNew.{held_was_held}
use Rattle.wb_kept_progress.proofs.OwedAndDue.{taken_of}
use Rattle.wb_kept_progress.proofs.Repairs.{came_after, moved}
use Rattle.wb_kept_progress.proofs.StillCalls.{IsTuning, came_now, still_call}
use Rattle.wb_kept_progress.proofs.TurnNames.{turn_names}
use Rattle.wb_kept_progress.proofs.Turning.{answers_at, in_hole, missing_is_lacked}
use Rattle.wb_kept_progress.proofs.WantedIn.{IsAskedInCall, LacksCredit, no_credit_then}
use Rattle.wb_kept_progress.proofs.WholeParts.{HasTurn, does}
use Rattle.wb_progress.proofs.Parts.{order_of}

module _ (hosts : ℕ → Opening) (terms : Terms) (trace : List (At KeptLine)) (since : ℕ) (session : IsTimelySession hosts terms trace) (holes_held : HolesAreHeld hosts terms trace) (only : OnlyHolesAreLacked hosts terms trace since) where
  abbrev IsSome : NameValue → Type 0
  IsSome n = IsHeldBySome hosts terms trace n

  -- it asks for a name that it lacks and another holds
  abbrev pub IsAwake : Keeping → Type 0
  IsAwake k = AsksOne IsSome k

  -- it has a turn, and asks for such a name afterwards, or had no credit
  pub record TakesTurn (k next : Keeping) (now : ℕ) : Type 0 where
    pub now_is : present next.host ≡ now
    pub late : k.policy.pace.due ≤ now
    pub least : now + 1000000 ≤ next.policy.pace.due
    pub most : next.policy.pace.due ≤ now + 16000000
    pub awake : IsAwake next ⊎ (has_credit k.policy.owed now ≡ false)

  pub record GoesOn (k next : Keeping) (now : ℕ) : Type 0 where
    pub on : IsAwake k → IsAwake next
    pub spent : IsAwake next ⊎ (next.policy.owed ≤ k.policy.owed)
    pub paced : (next.policy.pace.due ≡ k.policy.pace.due) ⊎ TakesTurn k next now

  module _ (newer older : List (At KeptLine)) (e : At KeptLine) (n : NameValue) (split : trace ≡ newer ++ e ∷ older) (live : Contains terms.live e.place) (settled : settled_by terms < time_of older) (from : since ≤ time_of older)
      (held : IsSome n) (lacks : holds (there hosts (e ∷ older) e.place).host.is.held n ≡ false) where
    abbrev i : ℕ
    i = e.place

    abbrev now : ℕ
    now = moment_of e.event

    abbrev k : Keeping
    k = there hosts older i

    abbrev next : Keeping
    next = there hosts (e ∷ older) i

    abbrev done : Keeping
    done = after_doing (doing_of e.event) k

    next_is : next ≡ done
    next_is = moved hosts older i e.event

    before_it : trace ≡ (newer ++ e ∷ []) ++ older
    before_it = split ∙ sym (append_assoc newer (e ∷ []) older)

    order : time_of older ≤ e.time
    order = (order_of newer (e ∷ older) (subst AreInOrder split session.order)).0

    settled_then : settled_by terms < e.time
    settled_then = let o = order in omega (arith, settled, o)

    from_then : since ≤ e.time
    from_then = let o = order in omega (arith, from, o)

    taken : AreTaken hosts (e ∷ older)
    taken = taken_of hosts newer (e ∷ older) (subst (λ (t : List (At KeptLine)). AreTaken hosts t) split session.taken)

    none : fault_of e.event k ≡ None
    none = taken.0

    answering : AnswersWhatIsHeld k.host
    answering = answers_at hosts older i

    room : is_full next.host ≡ false
    room = session.room newer (e ∷ older) i split live (let s = settled_then in omega (arith, s))

    lacks_before : holds k.host.is.held n ≡ false
    lacks_before = lacked_before hosts (e ∷ []) older i n lacks

    missing_before : IsMissingAt k n
    missing_before = only (newer ++ e ∷ []) older i n before_it live from held lacks_before

    missing_then : IsMissingAt next n
    missing_then = only newer (e ∷ older) i n split live from_then held lacks

    -- a missing number is one that another holds
    some_before : (x : NameValue) → IsMissingAt k x → IsSome x
    some_before x missing = holes_held (newer ++ e ∷ []) older i x before_it live settled missing

    awake_then : AsksForMissing next → IsAwake next
    awake_then a = record { name = a.name; is = holes_held newer (e ∷ older) i a.name split live settled_then a.missing; lacks = missing_is_lacked next.host.is.held a.name a.missing; asked = a.asked }

    -- ---- nothing new comes

    module _ (c : IsCourse IsSome k now (does hosts e older) next) where
      abbrev lines : List Line
      lines = does hosts e older

      -- the name in turn
      names : (y : NameValue) × (name_in_turn k.host.is.held k.policy.turns ≡ Some y) × IsMissing k.host.is.held y.page [] y.source y.seq
      names = turn_names k.host.is.held k.policy.turns _ (in_hole k.host.is.held n missing_before).there

      in_turn : (x : NameValue) → IsSome x ⊎ HasTurn k now x → IsSome x
      in_turn x is = ⊎_elim
          (λ (some : IsSome x). some)
          (λ (turn : HasTurn k now x). subst IsSome (same_Some names.0 x (sym names.1 ∙ turn.named)) (some_before names.0 names.2))
          is

      may : MayStay IsSome k lines done
      may = record { answers_held = answering; room = subst (λ (x : Keeping). is_full x.host ≡ false) next_is room; asks = asks_as (λ x. IsSome x ⊎ HasTurn k now x) IsSome in_turn lines c.asks }

      stays : StaysAsked IsSome k lines done
      stays = stays_asked IsSome e.event k none

      awake_at : IsAwake done ⊎ IsMore k done → IsAwake next
      awake_at is = ⊎_elim
          (λ (awake : IsAwake done). subst IsAwake (sym next_is) awake)
          (λ (more : IsMore k done). absurd (more_differs k next (subst (IsMore k) (sym next_is) more) c.held))
          is

      begins : HasAsk lines → IsAwake next
      begins h = awake_at (stays.begins may h)

      spent : IsAwake next ⊎ (next.policy.owed ≤ k.policy.owed)
      spent = ⊎_elim (λ (h : HasAsk lines). inl (begins h)) (λ (le : done.policy.owed ≤ k.policy.owed). inr (subst (λ (x : Keeping). x.policy.owed ≤ k.policy.owed) (sym next_is) le)) stays.spent

      asked_in_turn : IsAskedInCall names.0 (doing_of e.event) k → IsAwake next
      asked_in_turn a = ⊎_elim
          (λ (stood : asks_for names.0 k.host ≡ true).
          awake_at (stays.on may (record { name = names.0; is = some_before names.0 names.2; lacks = missing_is_lacked k.host.is.held names.0 names.2; asked = stood })))
          begins
          (stood_or_calls names.0 e.event k a)

      turns : IsTurning (doing_of e.event) k now → TakesTurn k next now
      turns t =
          let due = ap (λ (x : Keeping). x.policy.pace.due) next_is in
          let least = t.least in
          let most = t.most in
          record {
            now_is = ap (λ (x : Keeping). present x.host) next_is ∙ t.now_is;
            late = t.late;
            least = omega (arith, due, least);
            most = omega (arith, due, most);
            awake = ⊎_elim
                (λ (a : IsAskedInCall names.0 (doing_of e.event) k). inl (asked_in_turn a))
                (λ (without : LacksCredit done). ⊎_elim
                (λ (awake : IsAwake next). inl awake)
                (λ (le : next.policy.owed ≤ k.policy.owed).
                inr (no_credit_then next.policy.owed k.policy.owed now le
                (ap (λ (x : Keeping). has_credit x.policy.owed now) next_is ∙ ap (λ (t : ℕ). has_credit done.policy.owed t) (sym t.now_is) ∙ without)))
                spent)
                (t.wants names.0 (missing_is_lacked k.host.is.held names.0 names.2) (session.room (newer ++ e ∷ []) older i before_it live (omega (arith, settled))) names.1);
          }

      timed_paced : IsTimedCall (doing_of e.event) k now → (next.policy.pace.due ≡ k.policy.pace.due) ⊎ TakesTurn k next now
      timed_paced call = ⊎_elim
          (λ (idle : IsIdle (doing_of e.event) k now). inl (ap (λ (x : Keeping). x.policy.pace.due) next_is ∙ idle.due))
          (λ (t : IsTurning (doing_of e.event) k now). inr (turns t))
          (idle_or_turning (doing_of e.event) k now call)

      still_goes_on : GoesOn k next now
      still_goes_on = record {
        on = λ a. awake_at (stays.on may a);
        spent = spent;
        paced = ⊎_elim
            (λ (t : IsTuning (doing_of e.event) k). inl (ap (λ (x : Keeping). x.policy.pace.due) next_is ∙ ap (λ (p : Policy). p.pace.due) t.policy))
            timed_paced
            (still_call e.event k now (told_itself e.event)
            (λ now page time op is. session.drawn newer older e now page time op split (let s = settled_then in omega (arith, s)) is) answering
            (ap (λ (x : Keeping). x.host.is.held) (sym next_is) ∙ c.held));
      }

    -- ---- a drawop that is new

    module _ (w : IsOfNew e.event k.host) where
      abbrev m : Keeping
      m = kept_at hosts (with_drawop i w.now w.d older) i

      m_is : m ≡ next
      m_is = ap (λ (line : KeptLine). kept_at hosts (at i line ∷ older) i) (sym w.is)

      new : IsNew hosts older i w.now w.d
      new = record { taken = subst (λ (line : KeptLine). AreTaken hosts (at i line ∷ older)) w.is taken; lacked = w.lacks; room = subst (λ (x : Keeping). is_full x.host ≡ false) (sym m_is) room }

      missing_m : IsMissingAt m n
      missing_m = subst (λ (x : Keeping). IsMissingAt x n) (sym m_is) missing_then

      awake_m : AsksForMissing m → IsAwake next
      awake_m a = awake_then (subst AsksForMissing m_is a)

      abbrev ticked : Keeping
      ticked = having (Calls (Tick w.now)) k

      -- before what is due
      abbrev before : Keeping
      before = after_doing (takes w.d) ticked

      next_due : next ≡ after_doing timed before
      next_due = next_is ∙ ap (λ (line : KeptLine). after_doing (doing_of line) k) w.is ∙ came_after w.now (Draw w.d) k

      now_before : present before.host ≡ w.now
      now_before = sym (timed_now before) ∙ ap (λ (x : Keeping). present x.host) (sym (came_after w.now (Draw w.d) k)) ∙ came_now w.now (Draw w.d) k

      due_before : before.policy.pace.due ≡ k.policy.pace.due
      due_before = (hears_tells (Draw w.d) (sees ticked.host) ticked.policy).beat

      new_paced : (before.policy.pace.due ≤ present before.host → IsAwake next ⊎ (has_credit k.policy.owed w.now ≡ false)) → (next.policy.pace.due ≡ k.policy.pace.due) ⊎ TakesTurn k next w.now
      new_paced turned = ⊎_elim
          (λ yes.
          let is_now = now_before in
          let due = due_before in
          let then = ap (λ (x : Keeping). x.policy.pace.due) next_due in
          let late = yes.1 in
          let least = turned_later before late in
          let most = turned_soon before late in
          inr (record {
            now_is = ap (λ (x : Keeping). present x.host) next_due ∙ timed_now before ∙ now_before;
            late = omega (arith, late, is_now, due);
            least = omega (arith, least, is_now, then);
            most = omega (arith, most, is_now, then);
            awake = turned late;
          }))
          (λ no. inl (ap (λ (x : Keeping). x.policy.pace.due) next_due ∙ idle_due before no.1 ∙ due_before))
          (leb_tells before.policy.pace.due (present before.host))

      awake_new : IsAwake next → GoesOn k next w.now
      awake_new awake = record { on = λ a. awake; spent = inl awake; paced = new_paced (λ late. inl awake) }

      unasked_new : was hosts older i w.now w.d new ≡ false → GoesOn k next w.now
      unasked_new unasked = record {
        on = λ a. awake_m (goes_on hosts older i w.now w.d new unasked a.name a.lacks a.asked (missing_a a.name a.is));
        spent = ⊎_elim
            (λ (asks : AsksForMissing m). inl (awake_m asks))
            (λ (le : m.policy.owed ≤ k.policy.owed). inr (subst (λ (x : Keeping). x.policy.owed ≤ k.policy.owed) m_is le))
            (spends hosts older i w.now w.d new unasked);
        paced = new_paced (λ late. ⊎_elim
            (λ (asks : AsksForMissing m). inl (awake_m asks))
            (λ (none : has_credit k.policy.owed w.now ≡ false). inr none)
            (turned_so hosts older i w.now w.d new unasked n missing_m
            (subst (λ (x : Keeping). x.policy.pace.due ≤ present x.host) (before_due hosts older i w.now w.d new unasked) late)));
      } where
        -- what is held once it has come
        then : next.host.is.held ≡ (having (Arrives w.d) ticked).host.is.held
        then = ap (λ (x : Keeping). x.host.is.held) (sym m_is) ∙ held_is hosts older i w.now w.d new

        missing_a : (x : NameValue) → IsSome x → holds (having (Arrives w.d) ticked).host.is.held x ≡ false → IsMissingAt (having (Arrives w.d) ticked) x
        missing_a x some lacks_x =
            subst (λ (held : List DrawopValue). IsMissing held x.page [] x.source x.seq) then
            (only newer (e ∷ older) i x split live from_then some (ap (λ (held : List DrawopValue). holds held x) then ∙ lacks_x))

      new_goes_on : GoesOn k next now
      new_goes_on = subst (GoesOn k next) (sym (ap moment_of w.is)) (by (was hosts older i w.now w.d new) refl) where
        by : (b : Bool) → was hosts older i w.now w.d new ≡ b → GoesOn k next w.now
        by true e = awake_new (awake_m (leads_on hosts older i w.now w.d new (asked_before hosts older i w.now w.d new e) n missing_m))
        by false e = unasked_new e

    pub call_goes_on : GoesOn k next now
    call_goes_on = ⊎_elim
        (λ (more : IsMore k next). ⊎_elim
        new_goes_on
        (λ (drawn : IsDrawing e.event). absurd (session.drawn newer older e drawn.0 drawn.1 drawn.2 drawn.3 split (let s = settled_then in omega (arith, s)) drawn.4))
        (more_is_new e.event k (subst (IsMore k) next_is more)))
        still_goes_on
        (goes held_was_held hosts terms trace session newer older e split settled_then)
