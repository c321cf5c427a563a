-- Where there is no credit behind a call, what another holds was asked for in the last 21 seconds: what is owed is at most 16 seconds ahead of the present
-- moment, and turns, which are a second apart or more, cost a quarter of a second a second at most.
use Rattle.std.proofs.Common.{◌≡◌, ℕ, ◌+◌, ◌-◌, ◌*◌, ◌<◌, ◌≤◌, Bool, true, false, List, [], ◌∷◌, ◌++◌, ◌∙◌, None, ap, append_assoc, arith, eqb-true, inl, inr, max, refl, subst, sym, true≢false, ⊎_elim}
use Rattle.std.specs.Prelude.{◌≢◌, ◌⊎◌, Contains, min, nat_eq}
use Rattle.std.proofs.lemmas.Bool.Decides.{leb_tells}
use Rattle.wb_names.specs.Values.{NameValue}
use Rattle.wb_progress.specs.InTime.{known_from, repairing}
use Rattle.wb_progress.specs.Turns.{IsNowAt, Terms, settled_by}
use Rattle.wb_member.specs.Opened.{present}
use Rattle.wb_member.specs.declared.calls.Call.TheVariants.{Ask}
use Rattle.wb_policy.specs.Credit.{has_credit, spent}
use Rattle.wb_policy.specs.declared.limits.TheConstants.{COST}
use Rattle.wb_keeping.specs.Kept.{Calls}
use Rattle.wb_keeping.specs.Laws.{KeptLine, doing_of, fault_of}
use Rattle.wb_keeping.specs.Performing.{Keeping, after_doing, sees}
use Rattle.wb_policy.specs.Policy.{Policy}
use Rattle.wb_kept_progress.specs.Sessions.{AreTaken, Opening}
use Rattle.wb_kept_progress.specs.Timed.{At, time_of}
use Rattle.wb_kept_progress.specs.Whole.{IsHeldBySome, IsTimelySession, there}
use Rattle.wb_kept_progress.proofs.AsksStand.{asks_stand}
use Rattle.wb_kept_progress.proofs.InTurn.{IsIdle, IsTimedCall, IsTurning, call_is_now, idle_or_turning}
use Rattle.wb_kept_progress.proofs.NextDue.{ordered, still_newer, there_here, there_other, window_call}
use Rattle.wb_kept_progress.proofs.OwedAndDue.{near_there, now_there, taken_of}
use Rattle.wb_kept_progress.proofs.Moments.{moment_of}
use Rattle.wb_kept_progress.proofs.Onward.{call_later}
use Rattle.wb_kept_progress.proofs.StillCalls.{IsTuning}
use Rattle.wb_kept_progress.proofs.Turning.{answers_at}
use Rattle.wb_kept_progress.proofs.WantingCalls.{asking_in_call}
use Rattle.wb_kept_progress.proofs.WholeParts.{CreditIsSpent, IsAsking, IsStill, NoCreditIsAsked, does}
use Rattle.std.proofs.lemmas.Bool.{le-leb}
use Rattle.wb_member.specs.Lines.{Line}
use Rattle.wb_progress.proofs.Parts.{before_end}

-- ---- what is owed at moments up to one, from 21 seconds before it on

-- at a moment, where a turn is due at one: a turn costs a quarter of a second, and the next comes a second later at least
abbrev IsCovered : ℕ → ℕ → ℕ → ℕ → Type 0
IsCovered owed due now last = 4 * owed ≤ 1000000 + 3 * last + max (min due (now + 1000000)) (last - 21000000)

covered_first : (owed due now moment last : ℕ) → owed ≤ moment + 16000000 → moment + 21000000 ≤ last → IsCovered owed due now last
covered_first owed due now moment last le before = omega (arith, le, before)

covered_on : (owed owes due later now then last : ℕ) → owes ≤ owed → due ≤ later → now ≤ then → IsCovered owed due now last → IsCovered owes later then last
covered_on owed owes due later now then last le rises goes covered = omega (arith, le, rises, goes, covered)

covered_turn : (owed owes due later now then last : ℕ) → owes ≤ max owed then + 250000 → due ≤ then → then + 1000000 ≤ later → last ≤ then + 21000000
    → then ≤ last → IsCovered owed due now last → IsCovered owes later then last
covered_turn owed owes due later now then last le due_then next after before covered = omega (arith, le, due_then, next, after, before, covered)

covered_last : (owed due last : ℕ) → 21000000 ≤ last → IsCovered owed due last last → has_credit owed last ≡ true
covered_last owed due last long covered = le-leb (max owed last - last) (63 * COST) (omega (arith, long, covered))

-- ---- in a window in which what is held stays

module _ (is_spent : CreditIsSpent) (hosts : ℕ → Opening) (terms : Terms) (trace newest window base : List (At KeptLine)) (s : IsTimelySession hosts terms trace)
    (still : IsStill hosts terms trace newest window base) (late : settled_by terms < time_of base)
    (i : ℕ) (live : Contains terms.live i) (last moment : ℕ) (at : IsNowAt terms last i moment) (long : time_of base + 21000000 + terms.drift ≤ last) where
  -- something that some hold was asked for lately
  abbrev IsFound : Type 0
  IsFound = (back : List (At Line)) × IsAsking hosts terms trace (window ++ base) i back × (last ≤ time_of back + 21000000 + terms.drift)

  abbrev IsPaid : Keeping → Type 0
  IsPaid k = IsCovered k.policy.owed k.policy.pace.due (present k.host) moment

  split_at : (front part : List (At KeptLine)) → window ≡ front ++ part → trace ≡ (newest ++ front) ++ (part ++ base)
  split_at front part split =
      still.split ∙ ap (λ (t : List (At KeptLine)). newest ++ (t ++ base)) split ∙ ap (λ (t : List (At KeptLine)). newest ++ t) (append_assoc front part base)
      ∙ sym (append_assoc newest front (part ++ base))

  paid_first : (front part : List (At KeptLine)) → window ≡ front ++ part → present (there hosts (part ++ base) i).host + 21000000 ≤ moment → IsPaid (there hosts (part ++ base) i)
  paid_first front part split before =
      let k = there hosts (part ++ base) i in
      let near = near_there hosts terms trace (newest ++ front) (part ++ base) i s (split_at front part split) live in
      covered_first k.policy.owed k.policy.pace.due (present k.host) (present k.host) moment near.owed before

  -- a call in the last 21 seconds
  module _ (front rest : List (At KeptLine)) (e : At KeptLine) (split : window ≡ front ++ e ∷ rest) (here : nat_eq e.place i ≡ true)
      (lately : moment < present (there hosts (e ∷ (rest ++ base)) i).host + 21000000) (by_moment : present (there hosts (e ∷ (rest ++ base)) i).host ≤ moment) where
    abbrev older : List (At KeptLine)
    older = rest ++ base

    abbrev k : Keeping
    k = there hosts older i

    abbrev next : Keeping
    next = there hosts (e ∷ older) i

    abbrev then : ℕ
    then = moment_of e.event

    at_i : e.place ≡ i
    at_i = eqb-true e.place i here

    whole : trace ≡ (newest ++ front) ++ e ∷ older
    whole = split_at front (e ∷ rest) split

    still_here : IsStill hosts terms trace (newest ++ front) (e ∷ rest) base
    still_here =
        still_newer hosts terms trace newest front (e ∷ rest) base (subst (λ (t : List (At KeptLine)). IsStill hosts terms trace newest t base) split still)

    settled : settled_by terms < e.time
    settled =
        let order = ordered hosts terms trace s (newest ++ front) (e ∷ older) whole in
        let end = before_end (e ∷ rest) base order in
        omega (arith, late, end)

    same_held : next.host.is.held ≡ k.host.is.held
    same_held = still_here.same [] (e ∷ rest) i refl live ∙ sym (still_here.same (e ∷ []) rest i refl live)

    not_refused : fault_of e.event k ≡ None
    not_refused =
        subst (λ (p : ℕ). fault_of e.event (there hosts older p) ≡ None) at_i
        (taken_of hosts (newest ++ front) (e ∷ older) (subst (λ (t : List (At KeptLine)). AreTaken hosts t) whole s.taken)).0

    goes_on : present k.host ≤ present next.host
    goes_on = subst (λ (x : Keeping). present k.host ≤ present x.host) (sym (there_here hosts e older i here)) (call_later e.event k not_refused)

    found : IsNowAt terms e.time i then → present next.host ≡ then → (n : NameValue) → Contains (does hosts e older) (Calls (Ask n)) → IsHeldBySome hosts terms trace n → IsFound
    found now is n c held =
        let asked = subst (λ (p : ℕ). let m = there hosts older p in Contains (doing_of e.event (sees m.host) m.policy).lines (Calls (Ask n))) at_i c in
        let a =
        asking_in_call hosts terms trace i n held window base front rest e split here
        (asks_stand e.event k n not_refused (answers_at hosts older i) asked) in
        let time = a.2 in
        let ahead = now.not_ahead in
        let behind = at.not_behind in
        (a.0, a.1, omega (arith, time, lately, is, ahead, behind))

    -- what it spends, as said of its place
    abbrev Spends : ℕ → Type 0
    Spends p =
        let k = there hosts older p in
        let next = there hosts (e ∷ older) p in
        ((n : NameValue) × Contains (does hosts e older) (Calls (Ask n)) × IsHeldBySome hosts terms trace n)
        ⊎ ((next.host.is.held ≢ k.host.is.held)
        ⊎ ((next.policy.owed ≤ k.policy.owed)
        ⊎ ((k.policy.pace.due ≤ then) × (next.policy.owed ≤ spent k.policy.owed then))))

    spends : Spends i
    spends = subst Spends at_i (is_spent hosts terms trace (newest ++ front) older e s whole settled)

    -- by what became of the moment and of the next turn
    record IsLater : Type 0 where
      now_is : present next.host ≡ then
      rises : k.policy.pace.due ≤ next.policy.pace.due
      turns : k.policy.pace.due ≤ then → then + 1000000 ≤ next.policy.pace.due

    module _ (call : IsTimedCall (doing_of e.event) k then) where
      now_next : present next.host ≡ then
      now_next = ap (λ (x : Keeping). present x.host) (there_here hosts e older i here) ∙ call_is_now (doing_of e.event) k then call

      idle_later : IsIdle (doing_of e.event) k then → IsLater
      idle_later idle =
          let due = ap (λ (x : Keeping). x.policy.pace.due) (there_here hosts e older i here) ∙ idle.due in
          let early = idle.early in
          record { now_is = now_next; rises = omega (arith, due); turns = λ le. absurd (omega (arith, early, le)) }

      turning_later : IsTurning (doing_of e.event) k then → IsLater
      turning_later turns =
          let due = ap (λ (x : Keeping). x.policy.pace.due) (there_here hosts e older i here) in
          let least = turns.least in
          let before = turns.late in
          record { now_is = now_next; rises = omega (arith, due, least, before); turns = λ le. omega (arith, due, least) }

    by_later : IsNowAt terms e.time i then → IsLater → IsPaid k → IsFound ⊎ IsPaid next
    by_later now later paid = ⊎_elim
        (λ (f : (n : NameValue) × Contains (does hosts e older) (Calls (Ask n)) × IsHeldBySome hosts terms trace n). inl (found now later.now_is f.0 f.1 f.2))
        (⊎_elim
        (λ (differs : next.host.is.held ≢ k.host.is.held). absurd (differs same_held))
        (⊎_elim
        (λ (le : next.policy.owed ≤ k.policy.owed). inr (covered_on k.policy.owed next.policy.owed k.policy.pace.due next.policy.pace.due (present k.host) (present next.host) moment le later.rises goes_on paid))
        (λ (r : (k.policy.pace.due ≤ then) × (next.policy.owed ≤ spent k.policy.owed then)).
        let is = later.now_is in
        inr (subst (λ (now : ℕ). IsCovered next.policy.owed next.policy.pace.due now moment) (sym is)
        (covered_turn k.policy.owed next.policy.owed k.policy.pace.due next.policy.pace.due (present k.host) then moment r.1 r.0 (later.turns r.0) (omega (arith, lately, is)) (omega (arith, by_moment, is)) paid)))))
        spends

    paid_next : IsPaid k → IsFound ⊎ IsPaid next
    paid_next paid = ⊎_elim
        (λ (t : IsTuning (doing_of e.event) k).
        let is = there_here hosts e older i here in
        inr (subst IsPaid (sym is) (subst (λ (p : Policy). IsCovered p.owed p.pace.due (present (after_doing (doing_of e.event) k).host) moment) (sym t.policy)
        (subst (λ (now : ℕ). IsCovered k.policy.owed k.policy.pace.due now moment) (sym t.now_is) paid))))
        (λ (c : IsTimedCall (doing_of e.event) k then × IsNowAt terms e.time i then). by_later c.1 (⊎_elim (idle_later c.0) (turning_later c.0) (idle_or_turning (doing_of e.event) k then c.0)) paid)
        (window_call hosts terms trace s i live (newest ++ front) rest base e still_here (omega (arith, late)) here)

  -- one call more, after those before it
  paid_on : (front rest : List (At KeptLine)) (e : At KeptLine) → window ≡ front ++ e ∷ rest → present (there hosts (e ∷ (rest ++ base)) i).host ≤ moment → moment < present (there hosts (e ∷ (rest ++ base)) i).host + 21000000
      → (present (there hosts (rest ++ base) i).host ≤ moment → IsFound ⊎ IsPaid (there hosts (rest ++ base) i)) → (b : Bool) → nat_eq e.place i ≡ b → IsFound ⊎ IsPaid (there hosts (e ∷ (rest ++ base)) i)
  paid_on front rest e split le lately before true here =
      let on = goes_on front rest e split here lately le in
      ⊎_elim (λ (f : IsFound). inl f) (λ (paid : IsPaid (there hosts (rest ++ base) i)). paid_next front rest e split here lately le paid) (before (omega (arith, on, le)))
  paid_on front rest e split le lately before false other =
      let same = there_other hosts e (rest ++ base) i other in
      ⊎_elim (λ (f : IsFound). inl f) (λ (paid : IsPaid (there hosts (rest ++ base) i)). inr (subst IsPaid (sym same) paid)) (before (subst (λ (x : Keeping). present x.host ≤ moment) same le))

  paid_at : (front part : List (At KeptLine)) → window ≡ front ++ part → present (there hosts (part ++ base) i).host ≤ moment → IsFound ⊎ IsPaid (there hosts (part ++ base) i)
  paid_at front [] split le = inr (paid_first front [] split (
      let now = now_there hosts terms trace (newest ++ front) base i s (split_at front [] split) live in
      let behind = at.not_behind in
      omega (arith, now, behind, long, late)
      ))
  paid_at front (e ∷ rest) split le = ⊎_elim
      (λ yes. inr (paid_first front (e ∷ rest) split yes.1))
      (λ no. paid_on front rest e split le no.1 (λ soon. paid_at (front ++ e ∷ []) rest (split ∙ sym (append_assoc front (e ∷ []) rest)) soon) (nat_eq e.place i) refl)
      (leb_tells (present (there hosts (e ∷ (rest ++ base)) i).host + 21000000) moment)

pub no_credit_is_asked : CreditIsSpent → NoCreditIsAsked
no_credit_is_asked is_spent hosts terms trace newest window base front part sizes wait most i all still late live split long none =
    let k = there hosts (part ++ base) i in
    let last = time_of (part ++ base) in
    let moment = present k.host in
    ⊎_elim
    (λ (f : (back : List (At Line)) × IsAsking hosts terms trace (window ++ base) i back × (last ≤ time_of back + 21000000 + terms.drift)). f)
    (λ (paid : IsCovered k.policy.owed k.policy.pace.due moment moment).
    let behind = none.0.not_behind in
    let began = all.session.begun i live in
    let after = settled terms (time_of base) wait late in
    let credit = covered_last k.policy.owed k.policy.pace.due moment (omega (arith, long, behind, began, after)) paid in
    absurd (true≢false (sym credit ∙ none.1)))
    (paid_at is_spent hosts terms trace newest window base all.session still (settled terms (time_of base) wait late) i live last moment none.0 (omega (arith, long)) front part split (omega arith)) where
      settled : (terms : Terms) (time wait : ℕ) → known_from terms + wait + repairing terms ≤ time → settled_by terms < time
      settled terms time wait le = omega (arith, le)
