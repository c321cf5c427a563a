-- Why a name is asked for.
use Rattle.std.proofs.Common.{◌≡◌, ℕ, ◌+◌, ◌<◌, ◌≤◌, Bool, true, List, ◌∷◌, ◌++◌, ◌∙◌, ap, append_assoc, arith, inl, inr, refl, subst, sym, ⊎_elim}
use Rattle.std.specs.Prelude.{◌⊎◌, ◌&&◌, Contains, filter, nat_eq, nat_le, not}
use Rattle.wb_names.specs.History.{name_of}
use Rattle.wb_names.specs.Values.{DrawopValue, MarkValue, NameValue}
use Rattle.wb_names.specs.declared.name.PageId.{PageId}
use Rattle.wb_names.proofs.Listings.{Any-from_map, Contains-from_filter}
use Rattle.wb_codec.specs.declared.datagram.Datagram.{Datagram}
use Rattle.wb_codec.specs.declared.datagram.Datagram.TheVariants.{Draw, Session, Request, AskPages, PageState}
use Rattle.wb_gaps.proofs.HeldNames.{held-from}
use Rattle.wb_progress.specs.Turns.{Terms, settled_by}
use Rattle.wb_keeper.specs.Keeper.{holds as history_holds}
use Rattle.wb_policy.specs.Choices.{told_names}
use Rattle.wb_keeping.specs.Laws.{Added, Came, KeptLine, Ticked, Tuned, doing_of}
use Rattle.wb_keeping.specs.Performing.{Keeping, after_doing}
use Rattle.wb_kept_progress.specs.Sessions.{AreTaken, Opening}
use Rattle.wb_kept_progress.specs.Timed.{At}
use Rattle.wb_kept_progress.proofs.Moments.{IsTold, moment_of, told_itself}
use Rattle.wb_kept_progress.specs.Whole.{IsHeldBySome, IsTimelySession, WasSentBy, there}
use Rattle.wb_kept_progress.proofs.AskedInCalls.{AreTold, IsMore, asked_is, lines_by, more_differs}
use Rattle.wb_kept_progress.proofs.Courses.{IsCourse, came_course, ticked_course}
use Rattle.wb_kept_progress.proofs.Repairs.{moved}
use Rattle.wb_kept_progress.proofs.StopCauses.{call_taken}
use Rattle.wb_kept_progress.proofs.ToldHeld.{AreHeld, TellsHeld, call_tells}
use Rattle.wb_kept_progress.proofs.WholeParts.{AsksHaveCause, HasTurn, HeldWasHeld, does}

-- ---- the names that marks tell

named_by : (held : List DrawopValue) (me : ℕ) (page : PageId) (marks : List MarkValue) (n : NameValue) → AreHeld held page marks
    → Contains (told_names me page marks) n → history_holds held n ≡ true
named_by held me page marks n are c =
    let p : MarkValue → Bool = λ m. not (nat_eq m.source me && nat_le 2147483648 m.high) in
    let r = Any-from_map (λ (m : MarkValue). name_of page m.source m.high) (filter p marks) n c in
    let m = Contains-from_filter p marks r.1 (r.0, r.2, r.3) in
    subst (λ (n : NameValue). history_holds held n ≡ true) r.4 (held-from held page r.1.source r.1.high (are r.1 m.0))

-- ---- a session

module _ (held_was : HeldWasHeld) (hosts : ℕ → Opening) (terms : Terms) (trace : List (At KeptLine)) (session : IsTimelySession hosts terms trace) where
  abbrev IsSome : NameValue → Type 0
  IsSome n = IsHeldBySome hosts terms trace n

  -- what comes tells names that a live host held
  module _ (newer older : List (At KeptLine)) (e : At KeptLine) (split : trace ≡ newer ++ e ∷ older) (late : settled_by terms < e.time) where
    abbrev k : Keeping
    k = there hosts older e.place

    abbrev next : Keeping
    next = there hosts (e ∷ older) e.place

    abbrev now : ℕ
    now = moment_of e.event

    next_is : next ≡ after_doing (doing_of e.event) k
    next_is = moved hosts older e.place e.event

    names_held : (v : Datagram) → WasSentBy hosts older e.time terms.delivery v → (page : PageId) (marks : List MarkValue) (me : ℕ)
        → ((number : ℕ) (held : List DrawopValue) → TellsHeld number held v → AreHeld held page marks) → (n : NameValue) → Contains (told_names me page marks) n
        → IsSome n
    names_held v was page marks me tells n c =
        let parted : trace ≡ (newer ++ e ∷ was.newer) ++ was.e ∷ was.before = split
        ∙ ap (λ (t : List (At KeptLine)). newer ++ e ∷ t) was.split ∙ sym (append_assoc newer (e ∷ was.newer) (was.e ∷ was.before)) in
        let sender = there hosts was.before was.e.place in
        let none = call_taken hosts (newer ++ e ∷ was.newer) was.before was.e (subst (λ (t : List (At KeptLine)). AreTaken hosts t) parted session.taken) in
        let told : TellsHeld sender.host.is.number (after_doing (doing_of was.e.event) sender).host.is.held v = call_tells was.e.event sender none v was.sent in
        let behind : TellsHeld sender.host.is.number (there hosts (was.e ∷ was.before) was.e.place).host.is.held v =
        subst (λ (m : Keeping). TellsHeld sender.host.is.number m.host.is.held v) (sym (moved hosts was.before was.e.place was.e.event)) told in
        let live = session.alone (newer ++ e ∷ was.newer) was.before was.e parted (after_quiet was.e.time was.soon) in
        held_was hosts terms trace (newer ++ e ∷ was.newer) (was.e ∷ was.before) was.e.place n session parted live
        (named_by (there hosts (was.e ∷ was.before) was.e.place).host.is.held me page marks n (tells _ _ behind) c) where
          after_quiet : (then : ℕ) → e.time ≤ then + terms.delivery → terms.quiet < then
          after_quiet then soon = omega (arith, late, soon)

    all_told : (v : Datagram) (me : ℕ) → WasSentBy hosts older e.time terms.delivery v → AreTold IsSome me v
    all_told (Draw d) me was = tt
    all_told (Session sender sent page marks echoes) me was = names_held (Session sender sent page marks echoes) was page marks me (λ number held tells. tells.1)
    all_told (Request asker name) me was = tt
    all_told (AskPages asker) me was = tt
    all_told (PageState sender page marks) me was = names_held (PageState sender page marks) was page marks me (λ number held tells. tells)

    -- What is held grows by a call, or it takes its course.
    abbrev pub Goes : Type 0
    Goes = IsMore k next ⊎ IsCourse IsSome k now (does hosts e older) next

    goes_by : (line : KeptLine) → e.event ≡ line → IsTold now line
        → IsMore k (after_doing (doing_of line) k) ⊎ IsCourse IsSome k now (lines_by (doing_of line) k) (after_doing (doing_of line) k)
    goes_by (Came moment v) is told =
        subst (λ (t : ℕ). IsMore k (after_doing (doing_of (Came moment v)) k)
        ⊎ IsCourse IsSome k t (lines_by (doing_of (Came moment v)) k) (after_doing (doing_of (Came moment v)) k)) told
        (came_course IsSome k moment v (all_told v k.host.is.number (session.fresh newer older e moment v split late is)))
    goes_by (Ticked moment) is told = inr (subst (λ (t : ℕ). IsCourse IsSome k t (lines_by (doing_of (Ticked moment)) k) (after_doing (doing_of (Ticked moment)) k)) told
        (ticked_course IsSome k moment))
    goes_by (Added moment page time op) is told = absurd (session.drawn newer older e moment page time op split (omega (arith, late)) is)
    goes_by (Tuned constants) is told = inr (record { held = refl; asks = (tt, tt); owed = inr (inl refl) })

    pub goes : Goes
    goes =
        let g = goes_by e.event refl (told_itself e.event) in
        subst (λ (m : Keeping). IsMore k m ⊎ IsCourse IsSome k now (does hosts e older) m) (sym next_is) g

pub asks_have_cause : HeldWasHeld → AsksHaveCause
asks_have_cause held_was hosts terms trace newer older e n session split late asked =
    let k = there hosts older e.place in
    let next = there hosts (e ∷ older) e.place in
    let now = moment_of e.event in
    ⊎_elim
    (λ (more : IsMore k next). inr (inr (more_differs k next more)))
    (λ (c : IsCourse (λ n. IsHeldBySome hosts terms trace n) k now (does hosts e older) next).
    ⊎_elim (λ (held : IsHeldBySome hosts terms trace n). inl held) (λ (turn : HasTurn k now n). inr (inl turn))
    (asked_is (λ n. IsHeldBySome hosts terms trace n ⊎ HasTurn k now n) (does hosts e older) n c.asks asked))
    (goes held_was hosts terms trace session newer older e split late)
