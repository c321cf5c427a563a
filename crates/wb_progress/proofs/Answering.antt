-- A request that is sent late enough brings its drawop to all live places.
use Rattle.std.proofs.Common.{◌≡◌, ℕ, ◌+◌, ◌*◌, ◌<◌, ◌≤◌, Bool, true, false, List, [], ◌∷◌, ◌++◌, Some, sym, ap, ◌∙◌, subst, arith, ◌⊎◌, inl, inr, ⊎_elim, append_assoc, true≢false}
use Rattle.std.specs.Prelude.{Contains, IfSome}
use Rattle.std.proofs.Math.Nat.{mul-le-mul_right}
use Rattle.wb_names.specs.Values.{NameValue}
use Rattle.wb_codec.specs.declared.datagram.Datagram.TheVariants.{Request}
use Rattle.wb_recovery.specs.declared.timers.AnswerTimer.{AnswerTimer}
use Rattle.wb_keeper.specs.Keeper.{KeeperCall, Hear}
use Rattle.wb_progress.specs.Calls.{Brings, Fires, Answers}
use Rattle.wb_progress.specs.InTime.{answering_by, RequestIsAnsweredBut}
use Rattle.wb_progress.specs.Bounds.{AreAnswersNear}
use Rattle.wb_progress.specs.Keepers.{IsWithin}
use Rattle.wb_progress.specs.Repairs.{timers_at}
use Rattle.wb_progress.specs.Turns.{At, longest, Terms, quiet_span, settled_by, IsNowAt, Turn, Places, desk_at, has, timers_there, time_of, AreInOrder, IsAnswerable, AllHoldBehind, IsTurn, IsHeardAt, IsOtherOrLacked, KeepTimeBut}
use Rattle.wb_progress.proofs.Calls.{answers_go_on, requests_are_heard}
use Rattle.wb_progress.proofs.Giving.{Spares, spares_held, desk_here, Called, changes, keeps, held_before, Gave, moment_there, near_at, why_quiet, brought, answered, copy_comes}
use Rattle.wb_progress.proofs.Parts.{before_end, order_of, in_past, joined}
use Rattle.wb_progress.proofs.TimerBounds.{answers_later}

module _ {MayStop : List (At Turn) → At Turn → NameValue → Type 0} (places : Places) (terms : Terms) (turns : List (At Turn)) (is : KeepTimeBut MayStop places terms turns) where
  -- what all hold after one time they hold after each later one
  pub sooner : (a b : ℕ) (n : NameValue) → a ≤ b → AllHoldBehind places terms turns a n → AllHoldBehind places terms turns b n
  sooner a b n le all newer later i split lt live = all newer later i split (omega (arith, le, lt)) live

  -- a copy that was sent by one time, so that all hold the name soon behind it
  abbrev CopyBy : NameValue → ℕ → Type 0
  CopyBy n by = AllHoldBehind places terms turns (by + terms.delivery) n

  -- ---- an answer timer

  module _ (j : ℕ) (n : NameValue) (answer : AnswerTimer) (live : Contains terms.live j) (limit : ℕ) (soon : answer.due + terms.late + terms.lag j ≤ limit) (spares : Spares places MayStop n) where
    -- it stands as it was set, at a part that ends by the limit; or it ended by then
    abbrev Ends : List (At Turn) → Type 0
    Ends part = (((timers_there places part j n).answer ≡ Some answer) × (time_of part ≤ limit)) ⊎ CopyBy n limit

    one_turn : (newer older : List (At Turn)) (e : At Turn) → turns ≡ newer ++ e ∷ older → settled_by terms < e.time → has places older j n ≡ true → (timers_there places older j n).answer ≡ Some answer → Ends (e ∷ older)
    one_turn newer older e split late held stands = by_time (subst (λ o. IfSome o (λ (a : AnswerTimer). e.time ≤ a.due + (terms.lag j + terms.late))) stands (is.soon newer older e j n split live (omega (arith, late))).answer) where
      came : e.time ≤ limit → (c : Called places terms turns is older e j) → Brings n c.call ⊎ Fires answer.due c.call → Ends (e ∷ older)
      came le c gives = ⊎_elim
          (λ (b : Brings n c.call). inr (sooner (e.time + terms.delivery) (limit + terms.delivery) n (omega (arith, le)) (copy_comes places terms turns is n e.time late (brought places terms turns is newer older e j n split live late c b (spares older e (ap (λ (k : ℕ). has places older k n) c.place ∙ held))))))
          (λ (f : Fires answer.due c.call). inr (sooner (e.time + terms.delivery) (limit + terms.delivery) n (omega (arith, le)) (copy_comes places terms turns is n e.time late (answered places terms turns is newer older e j n answer split live held stands c f))))
          gives

      by_time : e.time ≤ answer.due + (terms.lag j + terms.late) → Ends (e ∷ older)
      by_time not_over =
          let le : e.time ≤ limit = omega (arith, not_over, soon) in
          ⊎_elim
          (λ (same : (desk_at places (e ∷ older) j).calls ≡ (desk_at places older j).calls). inl (ap (λ (calls : List KeeperCall). (timers_at (places.me j) (places.constants j) calls n).answer) same ∙ stands, le))
          (λ (c : Called places terms turns is older e j). ⊎_elim
          (λ (s : (timers_at (places.me j) (places.constants j) (c.call ∷ (desk_at places older j).calls) n).answer ≡ Some answer). inl (ap (λ (calls : List KeeperCall). (timers_at (places.me j) (places.constants j) calls n).answer) c.calls ∙ s, le))
          (λ (g : Brings n c.call ⊎ Fires answer.due c.call). came le c g)
          (answers_go_on (places.me j) (places.constants j) c.call (desk_at places older j).calls n answer stands))
          (changes places terms turns is newer older e j split live)

    pub ends : (front middle base : List (At Turn)) → turns ≡ front ++ (middle ++ base) → settled_by terms < time_of base → has places base j n ≡ true → (timers_there places base j n).answer ≡ Some answer → time_of base ≤ limit → Ends (middle ++ base)
    ends front [] base split late held stands le = inl (stands, le)
    ends front (e ∷ middle) base split late held stands le =
        let part : turns ≡ (front ++ e ∷ []) ++ (middle ++ base) = split ∙ sym (append_assoc front (e ∷ []) (middle ++ base)) in
        let order = order_of front (e ∷ (middle ++ base)) (subst AreInOrder split is.order) in
        let end = before_end middle base order.1 in
        let o = order.0 in
        let behind : settled_by terms < e.time = omega (arith, late, end, o) in
        ⊎_elim
        (λ (s : ((timers_there places (middle ++ base) j n).answer ≡ Some answer) × (time_of (middle ++ base) ≤ limit)).
        one_turn front (middle ++ base) e split behind (keeps places terms turns is (front ++ e ∷ []) middle base j n part live held) s.0)
        (λ (c : CopyBy n limit). inr c)
        (ends (front ++ e ∷ []) middle base part late held stands le)

  -- ---- a request that is heard

  module _ (newer older : List (At Turn)) (e : At Turn) (asker : ℕ) (n : NameValue) (split : turns ≡ newer ++ e ∷ older) (late : settled_by terms < e.time) (later_yet : settled_by terms + quiet_span terms ≤ e.time) (sent : Contains e.event.sent (Request asker n)) (a : IsAnswerable places terms turns n) (spares : Spares places MayStop n) where
    abbrev j : ℕ
    j = a.0

    quiet_time : terms.quiet < e.time
    quiet_time = omega (arith, late)

    lone : Contains terms.live e.place
    lone = is.alone newer older e split quiet_time

    who : (asker ≡ places.me e.place) × (has places older e.place n ≡ false)
    who = (is.quiet newer older e split quiet_time).asked asker n sent

    holds_it : has places older j n ≡ true
    holds_it = held_before places terms turns is newer older e n split late a

    -- it is another place that holds it
    differ : e.place ≡ j → ⊥
    differ same = true≢false (sym holds_it ∙ ap (λ (k : ℕ). has places older k n) (sym same) ∙ who.1)

    module _ (h : IsHeardAt places newer e older j terms.delivery asker n) where
      abbrev before : List (At Turn)
      before = h.between ++ e ∷ older

      abbrev x : At Turn
      x = h.arrival

      whole : turns ≡ h.later ++ x ∷ before
      whole = split ∙ ap (λ (t : List (At Turn)). t ++ e ∷ older) h.split ∙ append_assoc h.later (x ∷ h.between) (e ∷ older)

      order : AreInOrder (x ∷ before)
      order = order_of h.later (x ∷ before) (subst AreInOrder whole is.order)

      not_sooner : e.time ≤ x.time
      not_sooner = let b = before_end h.between (e ∷ older) order.1 in let o = order.0 in omega (arith, b, o)

      held : has places before j n ≡ true
      held = held_before places terms turns is h.later before x n whole (omega (arith, late, not_sooner)) a

      called : IsTurn places terms before x
      called = is.are.turn h.later before x whole (subst (Contains terms.live) (sym h.place) a.1)

      there : h.held ≡ true
      there = (called.heard h.now asker h.word n h.held h.heard).1 ∙ ap (λ (k : ℕ). has places before k n) h.place ∙ held

      at_j : (desk_at places (x ∷ before) j).calls ≡ Hear h.now (Request asker n) h.word true ∷ (desk_at places before j).calls
      at_j =
          ap (λ d. d.calls) (desk_here places before x j h.place) ∙ h.heard ∙ ap (λ (b : Bool). Hear h.now (Request asker n) h.word b ∷ (desk_at places before x.place).calls) there ∙ ap (λ (k : ℕ). Hear h.now (Request asker n) h.word true ∷ (desk_at places before k).calls) h.place

      moment : IsNowAt terms x.time j h.now
      moment = subst (λ (k : ℕ). IsNowAt terms x.time k h.now) h.place (called.heard h.now asker h.word n h.held h.heard).0

      other : asker ≡ places.me j → ⊥
      other same = differ (is.are.apart e.place j lone a.1 (sym who.0 ∙ same))

      -- it is heard with near answers
      abbrev call : KeeperCall
      call = Hear h.now (Request asker n) h.word true

      abbrev moment_then : ℕ
      moment_then = moment_there places terms turns is (x ∷ before) j

      live_there : Contains terms.live x.place
      live_there = subst (Contains terms.live) (sym h.place) a.1

      before_late : terms.quiet < time_of before
      before_late = let b = before_end h.between (e ∷ older) order.1 in omega (arith, b, quiet_time)

      behind : terms.quiet < x.time
      behind = omega (arith, not_sooner, quiet_time)

      within : IsWithin terms.far (longest terms) (places.me j) (places.constants j) call (desk_at places before j).calls
      within = subst (λ (k : ℕ). IsWithin terms.far (longest terms) (places.me k) (places.constants k) call (desk_at places before k).calls) h.place
          (is.are.within h.later before x call whole live_there behind (h.heard ∙ ap (λ (b : Bool). Hear h.now (Request asker n) h.word b ∷ (desk_at places before x.place).calls) there))

      now_then : h.now ≤ moment_then
      now_then = let m = moment.not_ahead in omega (arith, m, behind)

      near_then : AreAnswersNear (longest terms) terms.far moment_then (timers_there places before j n)
      near_then =
          let b = order.0 in
          answers_later (longest terms) terms.far (moment_there places terms turns is before j) moment_then (timers_there places before j n) (omega (arith, b))
          (near_at places terms turns is (h.later ++ x ∷ []) before j n (whole ∙ sym (append_assoc h.later (x ∷ []) before)) before_late a.1)

      part_before : turns ≡ (h.later ++ x ∷ []) ++ before
      part_before = whole ∙ sym (append_assoc h.later (x ∷ []) before)

      abbrev end : ℕ
      end = e.time + answering_by terms

      -- the name came or was answered a little before
      from_quiet : h.now < (timers_there places before j n).quiet → AllHoldBehind places terms turns end n
      from_quiet lt = ⊎_elim
          (λ (z : (timers_there places before j n).quiet + terms.lag j ≤ terms.quiet + 3 * terms.far). absurd (never (timers_there places before j n).quiet z lt))
          gave
          (why_quiet places terms turns is (h.later ++ x ∷ []) before j n part_before before_late a.1) where
            never : (q : ℕ) → q + terms.lag j ≤ terms.quiet + 3 * terms.far → h.now < q → ⊥
            never q z lt = let m = moment.not_behind in omega (arith, z, lt, m, not_sooner, later_yet)

            gave : Gave places terms turns is j n before (timers_there places before j n).quiet → AllHoldBehind places terms turns end n
            gave g =
                let u = g.until in
                let m = moment.not_behind in
                let recent : settled_by terms < g.e.time = omega (arith, u, m, lt, not_sooner, later_yet) in
                let at = joined (h.later ++ x ∷ []) g.newer g.older g.e turns before part_before g.split in
                let past : g.e.time ≤ x.time =
                let order' = subst AreInOrder g.split order.1 in
                let le : g.e.time ≤ time_of (g.newer ++ g.e ∷ g.older) = before_end g.newer (g.e ∷ g.older) order' in
                let top : time_of before ≡ time_of (g.newer ++ g.e ∷ g.older) = ap time_of g.split in
                let o = order.0 in
                omega (arith, le, top, o) in
                let soon = h.soon in
                let held_then : has places g.older j n ≡ true = held_before places terms turns is ((h.later ++ x ∷ []) ++ g.newer) g.older g.e n at recent a in
                let reach : g.e.time + terms.delivery ≤ end = omega (arith, past, soon) in
                ⊎_elim
                (λ (b : Brings n g.called.call). sooner (g.e.time + terms.delivery) end n reach (copy_comes places terms turns is n g.e.time recent (brought places terms turns is ((h.later ++ x ∷ []) ++ g.newer) g.older g.e j n at a.1 recent g.called b (spares g.older g.e (ap (λ (k : ℕ). has places g.older k n) g.called.place ∙ held_then)))))
                (λ (f : Answers (places.me j) (places.constants j) (desk_at places g.older j).calls n g.called.call). sooner (g.e.time + terms.delivery) end n reach (copy_comes places terms turns is n g.e.time recent
                (answered places terms turns is ((h.later ++ x ∷ []) ++ g.newer) g.older g.e j n f.0 at a.1 held_then f.1 g.called f.2)))
                g.gives

      -- an answer timer stands after it
      from_timer : (answer : AnswerTimer) → (timers_at (places.me j) (places.constants j) (Hear h.now (Request asker n) h.word true ∷ (desk_at places before j).calls) n).answer ≡ Some answer → answer.due ≤ moment_then + ((longest terms).d1 + (longest terms).d2) * terms.far → AllHoldBehind places terms turns end n
      from_timer answer stands due newest later i is_part lt live =
          let limit : ℕ = e.time + terms.delivery + terms.answering * terms.far + terms.late in
          let wait : ((longest terms).d1 + (longest terms).d2) * terms.far ≤ terms.answering * terms.far = mul-le-mul_right terms.far (omega arith) in
          let m = moment.not_ahead in
          let soon = h.soon in
          let top : time_of (x ∷ before) < time_of later = omega (arith, soon, lt) in
          let same : newest ++ later ≡ h.later ++ (x ∷ before) = sym is_part ∙ whole in
          let p = in_past newest later h.later (x ∷ before) same (subst AreInOrder is_part is.order) top in
          let stands' : (timers_there places (x ∷ before) j n).answer ≡ Some answer = ap (λ (calls : List KeeperCall). (timers_at (places.me j) (places.constants j) calls n).answer) at_j ∙ stands in
          let has_it : has places (x ∷ before) j n ≡ true = keeps places terms turns is h.later (x ∷ []) before j n whole a.1 held in
          let split_at : turns ≡ newest ++ (p.0 ++ (x ∷ before)) = is_part ∙ ap (λ (t : List (At Turn)). newest ++ t) p.1 in
          let top_is : time_of later ≡ time_of (p.0 ++ (x ∷ before)) = ap time_of p.1 in
          ⊎_elim
          (λ (s : ((timers_there places (p.0 ++ (x ∷ before)) j n).answer ≡ Some answer) × (time_of (p.0 ++ (x ∷ before)) ≤ limit)). let le = s.1 in absurd (omega (arith, lt, le, top_is)))
          (λ (c : CopyBy n limit). c newest later i is_part (omega (arith, lt)) live)
          (ends j n answer a.1 limit (omega (arith, due, wait, m, soon, behind)) spares newest p.0 (x ∷ before) split_at (omega (arith, late, not_sooner)) has_it stands' (omega (arith, soon)))

      pub all_hold : AllHoldBehind places terms turns end n
      all_hold = ⊎_elim
          from_quiet
          (λ (r : (answer : AnswerTimer) × ((timers_at (places.me j) (places.constants j) (Hear h.now (Request asker n) h.word true ∷ (desk_at places before j).calls) n).answer ≡ Some answer) × (answer.due ≤ moment_then + ((longest terms).d1 + (longest terms).d2) * terms.far)). from_timer r.0 r.1 r.2)
          (requests_are_heard terms.far (places.me j) (longest terms) (places.constants j) (desk_at places before j).calls h.now asker h.word moment_then n other within now_then near_then)

    pub answered_to_all : AllHoldBehind places terms turns (e.time + answering_by terms) n
    answered_to_all newest later i is_part lt live =
        let end = before_end newest later (subst AreInOrder is_part is.order) in
        let same : time_of turns ≡ time_of (newest ++ later) = ap time_of is_part in
        all_hold (is.delivered.requests newer older e asker n j split quiet_time sent a.1 differ holds_it (omega (arith, lt, end, same))) newest later i is_part lt live

pub request_is_answered_but : (MayStop : List (At Turn) → At Turn → NameValue → Type 0) (places : Places) (terms : Terms) (turns newer older : List (At Turn)) (e : At Turn) (asker : ℕ) (n : NameValue) → KeepTimeBut MayStop places terms turns → Spares places MayStop n → turns ≡ newer ++ e ∷ older
    → settled_by terms < e.time → settled_by terms + quiet_span terms ≤ e.time → Contains e.event.sent (Request asker n) → IsAnswerable places terms turns n → AllHoldBehind places terms turns (e.time + answering_by terms) n
request_is_answered_but MayStop places terms turns newer older e asker n is spares split late later_yet sent a = answered_to_all places terms turns is newer older e asker n split late later_yet sent a spares

pub request_is_answered_other : RequestIsAnsweredBut
request_is_answered_other places terms turns newer older e asker n is split late later_yet sent a = request_is_answered_but (IsOtherOrLacked places n) places terms turns newer older e asker n is (spares_held places n) split late later_yet sent a
