-- What the turns of live places tell: who is quiet why, and what is then sent.
use Rattle.std.proofs.Common.{◌≡◌, ℕ, ◌+◌, ◌*◌, ◌-◌, ◌<◌, ◌≤◌, Bool, true, false, cond, List, [], ◌∷◌, ◌++◌, Option, Some, None, refl, sym, ap, ◌∙◌, subst, arith, ◌⊎◌, inl, inr, ⊎_elim, append_assoc, max, eqb-true, eq-eqb, true≢false}
use Rattle.std.specs.Prelude.{Contains, nat_eq, is_some, ◌||◌}
use Rattle.wb_names.specs.Values.{NameValue, DrawopValue}
use Rattle.wb_names.specs.Orders.{same_name}
use Rattle.wb_names.proofs.Orders.{same_name-is}
use Rattle.wb_names.proofs.Listings.{Contains-here, Contains-there, Contains-from_filter}
use Rattle.wb_codec.specs.declared.datagram.Datagram.TheVariants.{Draw}
use Rattle.wb_recovery.specs.Events.{names_of, timers_of, asking}
use Rattle.wb_recovery.specs.Timing.{is_answer_due}
use Rattle.wb_recovery.specs.declared.timers.AskTimer.{AskTimer}
use Rattle.wb_recovery.specs.declared.timers.AnswerTimer.{AnswerTimer}
use Rattle.wb_keeper.specs.Ticks.{sent_by_tick}
use Rattle.wb_keeper.specs.Keeper.{KeeperCall, SetDelay, SetConstants, Hear, Arrive, Miss, GoOn, Report, GiveUp, moment_at, events_of, holds}
use Rattle.wb_progress.specs.Calls.{Brings, Fires, Answers}
use Rattle.wb_progress.specs.Bounds.{AreAnswersNear}
use Rattle.wb_progress.specs.Keepers.{IsWithin}
use Rattle.wb_progress.specs.Repairs.{timers_at}
use Rattle.wb_progress.specs.Turns.{At, longest, Terms, settled_by, Turn, Places, desk_at, has, timers_there, time_of, AreInOrder, until, IsAnswerable, AllHoldBehind, Accepts, WasSent, IsOtherOrLacked, KeepTimeBut}
use Rattle.wb_progress.proofs.Calls.{quiet_begins_so}
use Rattle.wb_progress.proofs.KeeperBounds.{answers_stay_near}
use Rattle.wb_progress.proofs.OneCall.{ticks_answer}
use Rattle.wb_progress.proofs.Parts.{AreFrom, IsSince, before_end, order_of, goes_on, joined, since, split_at}
use Rattle.wb_progress.proofs.TimerBounds.{answers_later}
use Rattle.std.proofs.lemmas.Bool.{le-leb}

-- a name that is held is that of a drawop
pub held_as : (h : List DrawopValue) (n : NameValue) → holds h n ≡ true → (d : DrawopValue) × Contains h d × (d.name ≡ n)
held_as [] n e = absurd (true≢false (sym e))
held_as (x ∷ h) n e = from (held_as h n) (same_name x.name n) refl e where
  from : (holds h n ≡ true → (d : DrawopValue) × Contains h d × (d.name ≡ n)) → (b : Bool) → same_name x.name n ≡ b → (b || holds h n) ≡ true → (d : DrawopValue) × Contains (x ∷ h) d × (d.name ≡ n)
  from rest true f g = (x, Contains-here x h, same_name-is x.name n f)
  from rest false f g = let r = rest g in (r.0, Contains-there x r.0 h r.1, r.2)

pub desk_here : (places : Places) (older : List (At Turn)) (e : At Turn) (i : ℕ) → e.place ≡ i → desk_at places (e ∷ older) i ≡ e.event.desk
desk_here places older e i here = ap (λ (b : Bool). cond b e.event.desk (desk_at places older i)) (eq-eqb e.place i here)

-- a name is given up nowhere where it is held
abbrev pub Spares : Places → (List (At Turn) → At Turn → NameValue → Type 0) → NameValue → Type 0
Spares places MayStop n = (older : List (At Turn)) (e : At Turn) → has places older e.place n ≡ true → MayStop older e n → ⊥

pub spares_held : (places : Places) (n : NameValue) → Spares places (IsOtherOrLacked places n) n
spares_held places n older e held lacked = true≢false (sym held ∙ lacked refl)

module _ {MayStop : List (At Turn) → At Turn → NameValue → Type 0} (places : Places) (terms : Terms) (turns : List (At Turn)) (is : KeepTimeBut MayStop places terms turns) where
  abbrev Live : ℕ → Type 0
  Live i = Contains terms.live i

  pub order_at : (newer older : List (At Turn)) → turns ≡ newer ++ older → AreInOrder (newer ++ older)
  order_at newer older split = subst AreInOrder split is.order

  -- ---- one turn at a place

  -- the keeper there accepts a call by the turn
  pub record Called (older : List (At Turn)) (e : At Turn) (i : ℕ) : Type 0 where
    pub place : e.place ≡ i
    pub call : KeeperCall
    pub accepts : Accepts places older e call
    pub calls : (desk_at places (e ∷ older) i).calls ≡ call ∷ (desk_at places older i).calls

  pub changes : (newer older : List (At Turn)) (e : At Turn) (i : ℕ) → turns ≡ newer ++ e ∷ older → Live i → ((desk_at places (e ∷ older) i).calls ≡ (desk_at places older i).calls) ⊎ Called older e i
  changes newer older e i split live = from (nat_eq e.place i) refl where
    from : (b : Bool) → nat_eq e.place i ≡ b → ((desk_at places (e ∷ older) i).calls ≡ (desk_at places older i).calls) ⊎ Called older e i
    from false f = inl (ap (λ (b : Bool). (cond b e.event.desk (desk_at places older i)).calls) f)
    from true f =
        let here = eqb-true e.place i f in
        let desk = ap (λ d. d.calls) (desk_here places older e i here) in
        let there : (desk_at places older e.place).calls ≡ (desk_at places older i).calls = ap (λ (k : ℕ). (desk_at places older k).calls) here in
        ⊎_elim
        (λ (same : e.event.desk.calls ≡ (desk_at places older e.place).calls). inl (desk ∙ same ∙ there))
        (λ (c : (call : KeeperCall) × Accepts places older e call). inr (record { place = here; call = c.0; accepts = c.1; calls = desk ∙ c.1 ∙ ap (λ (calls : List KeeperCall). c.0 ∷ calls) there }))
        (is.are.turn newer older e split (subst (Contains terms.live) (sym here) live)).called

  -- what is held stays
  keeps_one : (newer older : List (At Turn)) (e : At Turn) (i : ℕ) (n : NameValue) → turns ≡ newer ++ e ∷ older → Live i → has places older i n ≡ true → has places (e ∷ older) i n ≡ true
  keeps_one newer older e i n split live h = from (nat_eq e.place i) refl where
    from : (b : Bool) → nat_eq e.place i ≡ b → holds (cond b e.event.desk (desk_at places older i)).held n ≡ true
    from false f = h
    from true f =
        let here = eqb-true e.place i f in
        (is.are.turn newer older e split (subst (Contains terms.live) (sym here) live)).kept n (subst (λ (k : ℕ). has places older k n ≡ true) (sym here) h)

  pub keeps : (front newer older : List (At Turn)) (i : ℕ) (n : NameValue) → turns ≡ front ++ (newer ++ older) → Live i → has places older i n ≡ true → has places (newer ++ older) i n ≡ true
  keeps front [] older i n split live h = h
  keeps front (e ∷ newer) older i n split live h = keeps_one front (newer ++ older) e i n split live (keeps (front ++ e ∷ []) newer older i n (split ∙ sym (append_assoc front (e ∷ []) (newer ++ older))) live h)

  -- what can be answered its holder holds before each turn behind that time
  pub held_before : (newer older : List (At Turn)) (e : At Turn) (n : NameValue) → turns ≡ newer ++ e ∷ older → settled_by terms < e.time → (a : IsAnswerable places terms turns n) → has places older a.0 n ≡ true
  held_before newer older e n split late a =
      let g = goes_on (settled_by terms) newer older e (order_at newer (e ∷ older) split) late in
      let same : until (settled_by terms) turns ≡ until (settled_by terms) (newer ++ e ∷ older) = ap (until (settled_by terms)) split in
      let part : older ≡ g.0 ++ until (settled_by terms) turns = g.1 ∙ ap (λ (t : List (At Turn)). g.0 ++ t) (sym same) in
      subst (λ (t : List (At Turn)). has places t a.0 n ≡ true) (sym part) (keeps (newer ++ e ∷ []) g.0 (until (settled_by terms) turns) a.0 n
      (split ∙ sym (append_assoc newer (e ∷ []) older) ∙ ap (λ (t : List (At Turn)). (newer ++ e ∷ []) ++ t) part) a.1 a.2)

  -- ---- from `quiet` on answers are near

  abbrev at_quiet : List (At Turn)
  at_quiet = until terms.quiet turns

  -- the time of a part, or `quiet`, as the clock of a place may tell it at the latest
  abbrev pub moment_there : List (At Turn) → ℕ → ℕ
  moment_there part i = max (time_of part) terms.quiet - terms.lag i

  abbrev pub NearAt : ℕ → NameValue → ℕ → List KeeperCall → Type 0
  NearAt i n moment calls = AreAnswersNear (longest terms) terms.far moment (timers_at (places.me i) (places.constants i) calls n)

  abbrev pub IsNearAt : ℕ → NameValue → List (At Turn) → Type 0
  IsNearAt i n part = NearAt i n (moment_there part i) (desk_at places part i).calls

  pub within_at : (newer older : List (At Turn)) (e : At Turn) (i : ℕ) → turns ≡ newer ++ e ∷ older → Live i → terms.quiet < e.time → (c : Called older e i)
      → IsWithin terms.far (longest terms) (places.me i) (places.constants i) c.call (desk_at places older i).calls
  within_at newer older e i split live late c = subst (λ (k : ℕ). IsWithin terms.far (longest terms) (places.me k) (places.constants k) c.call (desk_at places older k).calls) c.place
      (is.are.within newer older e c.call split (subst (Contains terms.live) (sym c.place) live) late c.accepts)

  -- a call is not after that moment
  called_by : (newer older : List (At Turn)) (e : At Turn) (i : ℕ) → turns ≡ newer ++ e ∷ older → Live i → (c : Called older e i) → moment_at (c.call ∷ (desk_at places older i).calls) ≤ moment_there (e ∷ older) i
  called_by newer older e i split live c = by (moment_at (desk_at places (e ∷ older) i).calls) (ap moment_at c.calls) (is.are.clock newer (e ∷ older) i split live) where
    by : (clock : ℕ) → clock ≡ moment_at (c.call ∷ (desk_at places older i).calls) → clock + terms.lag i ≤ max e.time terms.quiet → moment_at (c.call ∷ (desk_at places older i).calls) ≤ moment_there (e ∷ older) i
    by clock same le = omega (arith, same, le)

  near_before : (newer older : List (At Turn)) (e : At Turn) (i : ℕ) (n : NameValue) → turns ≡ newer ++ e ∷ older → IsNearAt i n older → NearAt i n (moment_there (e ∷ older) i) (desk_at places older i).calls
  near_before newer older e i n split near =
      let o = (order_of newer (e ∷ older) (order_at newer (e ∷ older) split)).0 in
      answers_later (longest terms) terms.far (moment_there older i) (moment_there (e ∷ older) i) (timers_there places older i n) (omega (arith, o)) near

  near_one : (newer older : List (At Turn)) (e : At Turn) (i : ℕ) (n : NameValue) → turns ≡ newer ++ e ∷ older → Live i → terms.quiet < e.time → IsNearAt i n older → IsNearAt i n (e ∷ older)
  near_one newer older e i n split live late near =
      let calls = (desk_at places older i).calls in
      let moment = moment_there (e ∷ older) i in
      let before = near_before newer older e i n split near in
      ⊎_elim
      (λ (same : (desk_at places (e ∷ older) i).calls ≡ calls). subst (NearAt i n moment) (sym same) before)
      (λ (c : Called older e i). subst (NearAt i n moment) (sym c.calls)
      (answers_stay_near terms.far (places.me i) (longest terms) (places.constants i) c.call calls moment n (within_at newer older e i split live late c) (called_by newer older e i split live c) before))
      (changes newer older e i split live)

  near_since : (newer middle : List (At Turn)) (i : ℕ) (n : NameValue) → turns ≡ newer ++ (middle ++ at_quiet) → AreFrom (terms.quiet + 1) middle → Live i → IsNearAt i n (middle ++ at_quiet)
  near_since newer [] i n split behind live = answers_later (longest terms) terms.far (terms.quiet - terms.lag i) (moment_there at_quiet i) (timers_there places at_quiet i n) (omega arith) (is.are.near i n live)
  near_since newer (e ∷ middle) i n split behind live =
      let late = behind.0 in
      near_one newer (middle ++ at_quiet) e i n split live (omega (arith, late)) (near_since (newer ++ e ∷ []) middle i n (split ∙ sym (append_assoc newer (e ∷ []) (middle ++ at_quiet))) behind.1 live)

  since_quiet : (newer part : List (At Turn)) → turns ≡ newer ++ part → terms.quiet < time_of part → IsSince terms.quiet turns part
  since_quiet newer part split late = since terms.quiet turns newer part is.order split late

  pub near_at : (newer part : List (At Turn)) (i : ℕ) (n : NameValue) → turns ≡ newer ++ part → terms.quiet < time_of part → Live i → IsNearAt i n part
  near_at newer part i n split late live =
      let p = since_quiet newer part split late in
      subst (IsNearAt i n) (sym p.split) (near_since newer p.middle i n (split ∙ ap (λ (t : List (At Turn)). newer ++ t) p.split) p.behind live)

  -- ---- why a name is quiet

  abbrev pub Gives : ℕ → NameValue → List (At Turn) → KeeperCall → Type 0
  Gives i n older call = Brings n call ⊎ Answers (places.me i) (places.constants i) (desk_at places older i).calls n call

  pub record Gave (i : ℕ) (n : NameValue) (part : List (At Turn)) (quiet : ℕ) : Type 0 where
    pub newer : List (At Turn)
    pub e : At Turn
    pub older : List (At Turn)
    pub split : part ≡ newer ++ e ∷ older
    pub called : Called older e i
    pub gives : Gives i n older called.call
    pub until : quiet + terms.lag i ≤ max e.time terms.quiet + 3 * terms.far

  -- it is quiet until three delays after `quiet` at most, or for a cause
  abbrev pub WhyQuiet : ℕ → NameValue → List (At Turn) → Type 0
  WhyQuiet i n part = ((timers_there places part i n).quiet + terms.lag i ≤ terms.quiet + 3 * terms.far) ⊎ Gave i n part (timers_there places part i n).quiet

  earlier : (i : ℕ) (n : NameValue) (e : At Turn) (older : List (At Turn)) (a b : ℕ) → a ≡ b → ((b + terms.lag i ≤ terms.quiet + 3 * terms.far) ⊎ Gave i n older b) → ((a + terms.lag i ≤ terms.quiet + 3 * terms.far) ⊎ Gave i n (e ∷ older) a)
  earlier i n e older a b same h = ⊎_elim
      (λ (z : b + terms.lag i ≤ terms.quiet + 3 * terms.far). inl (omega (arith, same, z)))
      (λ (g : Gave i n older b). inr (record { newer = e ∷ g.newer; e = g.e; older = g.older; split = ap (λ (t : List (At Turn)). e ∷ t) g.split; called = g.called; gives = g.gives; until = subst (λ (q : ℕ). q + terms.lag i ≤ max g.e.time terms.quiet + 3 * terms.far) (sym same) g.until }))
      h

  abbrev q : ℕ → NameValue → List KeeperCall → ℕ
  q i n calls = (timers_at (places.me i) (places.constants i) calls n).quiet

  at_time : (a quiet clock moment lag : ℕ) → a ≡ quiet → quiet ≤ (moment - lag) + 3 * terms.far → clock + lag ≤ moment → a + lag ≤ moment + 3 * terms.far
  at_time a quiet clock moment lag e le by = omega (arith, e, le, by)

  called_quiet : (newer older : List (At Turn)) (e : At Turn) (i : ℕ) (n : NameValue) → turns ≡ newer ++ e ∷ older → Live i → terms.quiet < e.time → IsNearAt i n older → WhyQuiet i n older → Called older e i → WhyQuiet i n (e ∷ older)
  called_quiet newer older e i n split live late near rest c =
      let calls : List KeeperCall = (desk_at places older i).calls in
      let moment : ℕ = moment_there (e ∷ older) i in
      ⊎_elim
      (λ (same : q i n (c.call ∷ calls) ≡ q i n calls). earlier i n e older _ _ (ap (q i n) c.calls ∙ same) rest)
      (λ (g : Gives i n older c.call × (q i n (c.call ∷ calls) ≤ moment + 3 * terms.far)). inr (record {
        newer = [];
        e = e;
        older = older;
        split = refl;
        called = c;
        gives = g.0;
        until = at_time _ _ _ (max e.time terms.quiet) _ (ap (q i n) c.calls) g.1 (is.are.clock newer (e ∷ older) i split live);
      }))
      (quiet_begins_so terms.far (places.me i) (longest terms) (places.constants i) c.call calls moment n (within_at newer older e i split live late c) (called_by newer older e i split live c) (near_before newer older e i n split near))

  quiet_since : (newer middle : List (At Turn)) (i : ℕ) (n : NameValue) → turns ≡ newer ++ (middle ++ at_quiet) → AreFrom (terms.quiet + 1) middle → Live i → WhyQuiet i n (middle ++ at_quiet)
  quiet_since newer [] i n split behind live =
      let near = (is.are.near i n live).quiet in
      let clock = is.are.clock newer at_quiet i split live in
      let by = (split_at terms.quiet turns).by in
      inl (omega (arith, near, clock, by))
  quiet_since newer (e ∷ middle) i n split behind live =
      let part = split ∙ sym (append_assoc newer (e ∷ []) (middle ++ at_quiet)) in
      let rest = quiet_since (newer ++ e ∷ []) middle i n part behind.1 live in
      let late = behind.0 in
      ⊎_elim
      (λ (same : (desk_at places (e ∷ (middle ++ at_quiet)) i).calls ≡ (desk_at places (middle ++ at_quiet) i).calls). earlier i n e (middle ++ at_quiet) _ _ (ap (q i n) same) rest)
      (λ (c : Called (middle ++ at_quiet) e i). called_quiet newer (middle ++ at_quiet) e i n split live (omega (arith, late)) (near_since (newer ++ e ∷ []) middle i n part behind.1 live) rest c)
      (changes newer (middle ++ at_quiet) e i split live)

  pub why_quiet : (newer part : List (At Turn)) (i : ℕ) (n : NameValue) → turns ≡ newer ++ part → terms.quiet < time_of part → Live i → WhyQuiet i n part
  why_quiet newer part i n split late live =
      let p = since_quiet newer part split late in
      subst (WhyQuiet i n) (sym p.split) (quiet_since newer p.middle i n (split ∙ ap (λ (t : List (At Turn)). newer ++ t) p.split) p.behind live)

  -- ---- what comes of a call that makes it so

  -- a drawop of the name was sent shortly before
  pub record Copy (n : NameValue) (by : ℕ) : Type 0 where
    pub newer : List (At Turn)
    pub e : At Turn
    pub older : List (At Turn)
    pub split : turns ≡ newer ++ e ∷ older
    pub d : DrawopValue
    pub named : d.name ≡ n
    pub sent : Contains e.event.sent (Draw d)
    pub soon : e.time ≤ by
    pub late : by ≤ e.time + terms.delivery

  from_fresh : (newer older : List (At Turn)) (e : At Turn) (n : NameValue) → turns ≡ newer ++ e ∷ older → (f : (d : DrawopValue) × (d.name ≡ n) × WasSent (e ∷ older) e.time terms.delivery (Draw d)) → Copy n e.time
  from_fresh newer older e n split (d, named, w) =
      let order = order_of newer (e ∷ older) (order_at newer (e ∷ older) split) in
      let whole = subst AreInOrder w.split order in
      let le : w.e.time ≤ time_of (w.newer ++ w.e ∷ w.older) = before_end w.newer (w.e ∷ w.older) whole in
      let at : e.time ≡ time_of (w.newer ++ w.e ∷ w.older) = ap time_of w.split in
      record {
        newer = newer ++ w.newer;
        e = w.e;
        older = w.older;
        split = joined newer w.newer w.older w.e turns (e ∷ older) split w.split;
        d = d;
        named = named;
        sent = w.sent;
        soon = omega (arith, le, at);
        late = w.soon;
      }

  none_some : (o : Option AskTimer) → o ≡ None → is_some o ≡ true → ⊥
  none_some None e f = absurd (true≢false (sym f))
  none_some (Some a) e f = absurd (other e) where
    other : Some a ≡ None → ⊥
    other e = cc

  -- the call gives up the name, for which a request timer stood
  abbrev pub IsGiven : NameValue → KeeperCall → Type 0
  IsGiven n call = (now : ℕ) × (call ≡ GiveUp now n true)

  -- it came, or was given up
  pub came_or_given : (newer older : List (At Turn)) (e : At Turn) (i : ℕ) (n : NameValue) → turns ≡ newer ++ e ∷ older → Live i → settled_by terms < e.time → (c : Called older e i) → Brings n c.call → Copy n e.time ⊎ IsGiven n c.call
  came_or_given newer older e i n split live late c brings = by c.call c.accepts brings where
    by : (call : KeeperCall) → Accepts places older e call → Brings n call → Copy n e.time ⊎ IsGiven n call
    by (Arrive now names) accepts named = inl (from_fresh newer older e n split (is.fresh.drawops newer older e now names n split late accepts named))
    by (GoOn now words stopped) accepts named =
        let here = c.place in
        let live' = subst (Contains terms.live) (sym here) live in
        let me = places.me e.place in
        let calls : List KeeperCall = (desk_at places older e.place).calls in
        let stops = (is.are.turn newer older e split live').stops now words stopped accepts in
        let both = Contains-from_filter (holds (desk_at places older e.place).held) (asking (names_of (events_of me calls)) (timers_of (places.constants e.place) (events_of me calls))) n (subst (λ (names : List NameValue). Contains names n) stops named) in
        let asks = Contains-from_filter (λ m. is_some (timers_of (places.constants e.place) (events_of me calls) m).ask) (names_of (events_of me calls)) n both.0 in
        absurd (none_some (timers_there places older e.place n).ask (is.are.lacking (newer ++ e ∷ []) older e.place n (split ∙ sym (append_assoc newer (e ∷ []) older)) live' both.1) asks.1)
    by (GiveUp now name asked) accepts named = inr (now, ap (λ (m : NameValue). GiveUp now m asked) named.0 ∙ ap (GiveUp now n) named.1)
    by (SetDelay source micros) accepts named = absurd named
    by (SetConstants constants) accepts named = absurd named
    by (Hear now v word held) accepts named = absurd named
    by (Miss now names words) accepts named = absurd named
    by (Report now) accepts named = absurd named

  -- it came, where it is not given up
  pub brought : (newer older : List (At Turn)) (e : At Turn) (i : ℕ) (n : NameValue) → turns ≡ newer ++ e ∷ older → Live i → settled_by terms < e.time → (c : Called older e i) → Brings n c.call → (MayStop older e n → ⊥) → Copy n e.time
  brought newer older e i n split live late c brings stays = ⊎_elim
      (λ (k : Copy n e.time). k)
      (λ (g : IsGiven n c.call). absurd (stays ((is.quiet newer older e split (omega (arith, late))).goes_on g.0 n (c.accepts ∙ ap (λ (k : KeeperCall). k ∷ (desk_at places older e.place).calls) g.1))))
      (came_or_given newer older e i n split live late c brings)

  -- it was answered
  pub answered : (newer older : List (At Turn)) (e : At Turn) (i : ℕ) (n : NameValue) (answer : AnswerTimer) → turns ≡ newer ++ e ∷ older → Live i → has places older i n ≡ true → (timers_there places older i n).answer ≡ Some answer → (c : Called older e i) → Fires answer.due c.call → Copy n e.time
  answered newer older e i n answer split live h stands c fires =
      let here = c.place in
      let live' = subst (Contains terms.live) (sym here) live in
      let d = held_as (desk_at places older i).held n h in
      let part : turns ≡ (newer ++ e ∷ []) ++ older = split ∙ sym (append_assoc newer (e ∷ []) older) in
      let none : (timers_there places older i d.0.name).ask ≡ None = subst (λ (m : NameValue). (timers_there places older i m).ask ≡ None) (sym d.2) (is.are.lacking (newer ++ e ∷ []) older i n part live h) in
      let due : is_answer_due fires.now (timers_there places older i d.0.name).answer ≡ true = subst (λ (m : NameValue). is_answer_due fires.now (timers_there places older i m).answer ≡ true) (sym d.2) (ap (is_answer_due fires.now) stands ∙ le-leb answer.due fires.now fires.due_by) in
      let sends = ticks_answer (places.me i) (places.constants i) (desk_at places older i).calls (desk_at places older i).held fires.now d.0 (is.are.history (newer ++ e ∷ []) older i part live) d.1 none due in
      let there = (is.are.turn newer older e split live').sends fires.now fires.words fires.stopped (c.accepts ∙ ap (λ (k : KeeperCall). k ∷ (desk_at places older e.place).calls) fires.is) (Draw d.0)
      (subst (λ (k : ℕ). Contains (sent_by_tick (places.me k) (places.constants k) (desk_at places older k).calls (desk_at places older k).held fires.now) (Draw d.0)) (sym here) sends) in
      record {
        newer = newer;
        e = e;
        older = older;
        split = split;
        d = d.0;
        named = d.2;
        sent = there;
        soon = omega arith;
        late = omega arith;
      }

  -- so all come to hold it
  pub copy_comes : (n : NameValue) (by : ℕ) → settled_by terms < by → Copy n by → AllHoldBehind places terms turns (by + terms.delivery) n
  copy_comes n by late copy newer later i split lt live =
      let soon = copy.soon in
      let quick = copy.late in
      subst (λ (m : NameValue). has places later i m ≡ true) copy.named (is.delivered.drawops copy.newer copy.older copy.e copy.d copy.split (omega (arith, late, quick)) copy.sent newer later i split (omega (arith, lt, soon)) live)
