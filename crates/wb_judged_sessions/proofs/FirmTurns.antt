-- Each name has its turn at a member, and stays firm to the end of it.
use Rattle.std.proofs.Common.{◌≡◌, ◌≤◌, ◌<◌, ◌+◌, ◌*◌, ◌%◌, ℕ, true, List, [], ◌∷◌, ◌++◌, ◌∙◌, ap, arith, refl, subst, ⊎_elim}
use Rattle.std.specs.Prelude.{Contains, nat_eq}
use Rattle.std.proofs.Math.Nat.{div-eq_of_lt-le, div-mul-le_self}
use Rattle.wb_names.specs.Values.{NameValue}
use Rattle.wb_names.proofs.Listings.{Contains-cases, Contains-none}
use Rattle.wb_judge.specs.Firm.{is_firm_beside, turn_at, turns}
use Rattle.wb_judge.proofs.Firmness.{names_take_turns}
use Rattle.wb_member.specs.Opened.{present}
use Rattle.wb_judging.specs.Judged.{Judged}
use Rattle.wb_judging.specs.declared.call.Call.TheVariants.{CameFrom, Held, Passed, UserDrew}
use Rattle.wb_codec.specs.declared.datagram.Datagram.{Datagram}
use Rattle.wb_judge.specs.declared.origin.Origin.{Origin}
use Rattle.wb_judged_sessions.specs.Laws.{HasNotStarted}
use Rattle.wb_judged_sessions.specs.Calls.{IsTaken, JudgedCall, Starts, Takes, Tunes}
use Rattle.wb_judged_sessions.specs.Sessions.{At, judged_at}
use Rattle.wb_judged_sessions.specs.Terms.{AreTaken}
use Rattle.wb_judged_sessions.specs.Unhushed.{AllAre, AreBeside, ComesWhen, FirmForItsTurn, IsFirmAt, IsInTurn, StaysFirm, TurnsAreFirm}
use Rattle.wb_judged_sessions.proofs.Answered.{me_at}
use Rattle.wb_judged_sessions.proofs.Spaced.{calls_spaced}

-- what comes at some moments comes at others too
module _ (One Other : ℕ → Judged → Type 0) (until : ℕ) (n : NameValue) where
  comes_too : (call : JudgedCall) (h : Judged) → ((now : ℕ) (o : Origin) (v : Datagram) → call ≡ Takes (CameFrom now o v) → now < until → One now h → Other now h) → ComesWhen One until n call h → ComesWhen Other until n call h
  comes_too (Starts start given) h then is = is
  comes_too (Takes (CameFrom now o v)) h then is = λ lt. then now o v refl lt (is lt)
  comes_too (Takes (Passed now news)) h then is = tt
  comes_too (Takes (UserDrew now page op)) h then is = tt
  comes_too (Takes (Held line)) h then is = is
  comes_too (Tunes constants) h then is = tt

-- a name that is firm beside a number of others is firm at a member beside which they are
firm_beside : (numbers : ℕ → ℕ) (place : ℕ) (name : NameValue) (others at : ℕ) (calls : List (At JudgedCall)) → AreBeside others at (judged_at numbers calls place) → is_firm_beside others (numbers place) name at ≡ true
    → IsFirmAt name at (judged_at numbers calls place)
firm_beside numbers place name others at calls beside firm =
    ap (λ (count : ℕ). is_firm_beside count (judged_at numbers calls place).judge.me name at) beside
    ∙ ap (λ (me : ℕ). is_firm_beside others me name at) (me_at numbers calls place)
    ∙ firm

-- ---- each name has its turn

pub turns_are_firm : TurnsAreFirm
turns_are_firm numbers place name others now = (turn.0, turn.1, firm) where
  turn : (wait : ℕ) × (wait < turns others) × ((at : ℕ) → turn_at at ≡ turn_at now + wait → is_firm_beside others (numbers place) name at ≡ true)
  turn = names_take_turns others (numbers place) name now

  firm : (newer older : List (At JudgedCall)) (until : ℕ) → AllAre (ComesWhen (IsInTurn (turn_at now + turn.0) others) until name) numbers place newer older → StaysFirm until name numbers place newer older
  firm [] older until all = tt
  firm (e ∷ newer) older until all = (
    λ here. comes_too (IsInTurn (turn_at now + turn.0) others) (IsFirmAt name) until name e.event (judged_at numbers (newer ++ older) place)
        (λ at o v comes lt is. firm_beside numbers place name others at (newer ++ older) is.1 (turn.2 at is.0)) (all.0 here),
    firm newer older until all.1,
  )

-- ---- to the end of its turn

same_turn : (now at until : ℕ) → now ≤ at → at < until → until ≤ (turn_at now + 1) * 2000000 → turn_at at ≡ turn_at now
same_turn now at until le lt soon =
    let begins = div-mul-le_self now 2000000 in
    let from : turn_at now * 2000000 ≤ at = omega (arith, begins, le) in
    let to : at < (turn_at now + 1) * 2000000 = omega (arith, lt, soon) in
    div-eq_of_lt-le 2000000 from to

firm_in_turn : (others me now at : ℕ) (name : NameValue) → turn_at at ≡ turn_at now → is_firm_beside others me name now ≡ true → is_firm_beside others me name at ≡ true
unfolding is_firm_beside
firm_in_turn others me now at name same firm = ap (λ (turn : ℕ). nat_eq ((name.source + name.seq + me + turn) % turns others) 0) same ∙ firm

not_started : (When : ℕ → Judged → Type 0) (until : ℕ) (name : NameValue) (numbers : ℕ → ℕ) (place : ℕ) (newer older : List (At JudgedCall)) → AllAre (ComesWhen When until name) numbers place newer older → HasNotStarted newer place
not_started When until name numbers place [] older all e start given within here starts = absurd (Contains-none e within)
not_started When until name numbers place (x ∷ newer) older all e start given within here starts = ⊎_elim
    (λ (same : x ≡ e).
    subst (λ (call : JudgedCall). ComesWhen When until name call (judged_at numbers (newer ++ older) place)) (ap (λ (y : At JudgedCall). y.event) same ∙ starts) (all.0 (ap (λ (y : At JudgedCall). y.place) same ∙ here)))
    (λ (later : Contains newer e). not_started When until name numbers place newer older all.1 e start given later here starts)
    (Contains-cases x e newer within)

pub firm_for_its_turn : FirmForItsTurn
firm_for_its_turn numbers newer older place name others until taken firm soon all = go newer taken all where
  now : ℕ
  now = present (judged_at numbers older place).kept.host

  go : (newer : List (At JudgedCall)) → AreTaken numbers (newer ++ older) → AllAre (ComesWhen (AreBeside others) until name) numbers place newer older → StaysFirm until name numbers place newer older
  go [] taken all = tt
  go (e ∷ newer) taken all = (λ here. comes_too (AreBeside others) (IsFirmAt name) until name e.event h (λ at o v comes lt beside. at_call at o v comes here lt beside) (all.0 here), go newer taken.1 all.1) where
    h : Judged
    h = judged_at numbers (newer ++ older) place

    later : now ≤ present h.kept.host
    later = (calls_spaced numbers place newer older (not_started (AreBeside others) until name numbers place newer older all.1) taken.1).later

    at_call : (at : ℕ) (o : Origin) (v : Datagram) → e.event ≡ Takes (CameFrom at o v) → e.place ≡ place → at < until → AreBeside others at h → IsFirmAt name at h
    at_call at o v comes here lt beside =
        let fine : present h.kept.host ≤ at = subst (λ (call : JudgedCall). IsTaken call h) comes (subst (λ (p : ℕ). IsTaken e.event (judged_at numbers (newer ++ older) p)) here taken.0) in
        let le = later in
        firm_beside numbers place name others at (newer ++ older) beside (firm_in_turn others (numbers place) now at name (same_turn now at until (omega (arith, le, fine)) lt soon) firm)
