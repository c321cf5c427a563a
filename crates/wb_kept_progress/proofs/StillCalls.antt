-- A call behind which a host holds what it held: what it hears moves neither turns nor tellings, and it ends with what is due.
use Rattle.std.proofs.Common.{◌≡◌, ℕ, List, [], ◌∷◌, ◌∙◌, ap, inl, inr, refl, subst, sym, ⊎_elim}
use Rattle.std.specs.Prelude.{◌⊎◌, Contains}
use Rattle.std.proofs.lemmas.List.Elements.{Contains-append_right}
use Rattle.wb_names.specs.Values.{NameValue}
use Rattle.wb_names.specs.declared.name.PageId.{PageId}
use Rattle.wb_names.specs.declared.parts.Op.{Op}
use Rattle.wb_codec.specs.declared.datagram.Datagram.{Datagram}
use Rattle.wb_codec.specs.declared.datagram.Datagram.TheVariants.{Draw, Session, Request, AskPages, PageState}
use Rattle.wb_member.specs.Opened.{Opened, present}
use Rattle.wb_member.specs.declared.calls.Call.TheVariants.{Tick}
use Rattle.wb_keeping.specs.Fairness.{AnswersWhatIsHeld}
use Rattle.wb_keeping.specs.Kept.{Calls, Doing, Line, Transition, and_then, came, hears, performs, ticks, timed}
use Rattle.wb_keeping.specs.Laws.{KeptLine, Came, Ticked, Added, Tuned, doing_of}
use Rattle.wb_keeping.specs.Performing.{Keeping, after_doing, after_line, after_lines, sees, sent_by_doing}
use Rattle.wb_keeping.proofs.EachStep.{having}
use Rattle.wb_keeping.proofs.Performed.{then_after, then_sent}
use Rattle.wb_kept_progress.proofs.Moments.{IsTold, IsTuned}
use Rattle.wb_kept_progress.proofs.InTurn.{IsTimedCall, SamePolicy, same_policy}
use Rattle.wb_kept_progress.proofs.Lines.{line_of, lines_of, IsSmall, are_small, does_rest}
use Rattle.wb_kept_progress.proofs.Performed.{AreNoTicks, Begins, IsNoTick, adds_begin, came_begins, hears_none, ticks_begin}
use Rattle.wb_kept_progress.proofs.PerLine.{line_moment}
use Rattle.wb_kept_progress.proofs.Repairs.{came_after}
use Rattle.wb_kept_progress.proofs.WantedIn.{IsAskedIn, LacksCredit, asked_behind_tick, asked_second}
use Rattle.wb_keeping.proofs.EachLine.{timed_each}
use Rattle.wb_kept_progress.proofs.Leaving.{answers_on, hears_tells}
use Rattle.wb_kept_progress.proofs.AskedInCalls.{AreTold, AsksFor, IsMore, hears_asks, lines_by, more_differs}

-- ---- the moment of a call

pub line_now : (line : Line) (host : Opened) → IsNoTick line → present (after_line line host) ≡ present host
line_now line host none = ⊎_elim
    (λ (same : present (after_line line host) ≡ present host). same)
    (λ (t : (now : ℕ) × (line ≡ Calls (Tick now)) × (present (after_line line host) ≡ now)). absurd (subst IsNoTick t.1 none))
    (line_moment line host)

pub no_ticks_stand : (lines : List Line) (host : Opened) → AreNoTicks lines → present (after_lines lines host) ≡ present host
no_ticks_stand [] host none = refl
no_ticks_stand (line ∷ lines) host none = no_ticks_stand lines (after_line line host) none.1 ∙ line_now line host none.0

begun_now : (now : ℕ) (d : Doing) (host : Opened) → Begins now d → present (after_lines d.lines host) ≡ now
begun_now now d host b = ap (λ (lines : List Line). present (after_lines lines host)) b.is ∙ no_ticks_stand b.rest (after_line (Calls (Tick now)) host) b.none

pub came_now : (now : ℕ) (v : Datagram) (k : Keeping) → present (after_doing (came now v) k).host ≡ now
came_now now v k = begun_now now (came now v (sees k.host) k.policy) k.host (came_begins now v (sees k.host) k.policy)

-- it sets constants, and does nothing else
pub record IsTuning (does : Transition) (k : Keeping) : Type 0 where
  pub policy : (after_doing does k).policy ≡ k.policy
  pub now_is : present (after_doing does k).host ≡ present k.host

pub tuned_only : (line : KeptLine) (k : Keeping) → IsTuned line → IsTuning (doing_of line) k
tuned_only line k t = subst (λ (l : KeptLine). IsTuning (doing_of l) k) (sym t.1) (record { policy = refl; now_is = refl })

-- the moment behind a call is that of the call, unless it sets constants
pub call_now : (line : KeptLine) (k : Keeping) (moment : ℕ) → IsTold moment line
    → IsTuning (doing_of line) k ⊎ (present (after_doing (doing_of line) k).host ≡ moment)
call_now (Came now v) k moment told = inr (came_now now v k ∙ told)
call_now (Ticked now) k moment told = inr (begun_now now (ticks now (sees k.host) k.policy) k.host (ticks_begin now (sees k.host) k.policy) ∙ told)
call_now (Added now page time op) k moment told =
    inr (begun_now now (doing_of (Added now page time op) (sees k.host) k.policy) k.host (adds_begin now page time op (sees k.host) k.policy) ∙ told)
call_now (Tuned constants) k moment told = inl (record { policy = refl; now_is = refl })

-- ---- what is heard leaves turns and tellings, where what is held stays

abbrev Any : NameValue → Type 0
Any n = Unit {0}

any_told : (me : ℕ) (v : Datagram) → AreTold Any me v
any_told me (Draw d) = tt
any_told me (Session sender sent page marks echoes) = λ n c. tt
any_told me (Request asker name) = tt
any_told me (AskPages asker) = tt
any_told me (PageState sender page marks) = λ n c. tt

hears_leave : (v : Datagram) (k : Keeping) → (after_doing (hears v) k).host.is.held ≡ k.host.is.held → SamePolicy k.policy (after_doing (hears v) k).policy
hears_leave v k same =
    let m = after_doing (hears v) k in
    let reports = hears_tells v (sees k.host) k.policy in
    ⊎_elim
    (λ (more : IsMore k m). absurd (more_differs k m more same))
    (λ (a : AsksFor Any k (lines_by (hears v) k) m). record { turns = a.stays.turns; due = reports.due; beat = reports.beat; told = reports.told })
    (hears_asks Any v k (any_told k.host.is.number v))

-- ---- a call

pub ticked_call : (now : ℕ) (k : Keeping) → AnswersWhatIsHeld k.host → IsTimedCall (ticks now) k now
ticked_call now k answers_held =
    let first = performs (Calls (Tick now)) in
    let m = having (Calls (Tick now)) k in
    let behind : after_doing (ticks now) k ≡ after_doing timed m = then_after first timed k in
    record {
      m = m;
      behind = behind;
      sends = λ v c. subst (λ (s : List Datagram). Contains s v) (sym (then_sent first timed k)) (Contains-append_right (sent_by_doing first k) (sent_by_doing timed m) v c);
      wants = λ n is. ⊎_elim
          (λ (a : IsAskedIn n timed m). inl (asked_behind_tick n now timed k a))
          (λ (without : LacksCredit (after_doing timed m)). inr (subst LacksCredit (sym behind) without))
          is;
      policy = same_policy k.policy;
      held = refl;
      now_is = refl;
      of = line_of (Calls (Tick now)) k.host;
      answers_held = answers_on first k answers_held;
    }

came_call : (now : ℕ) (v : Datagram) (k : Keeping) → AnswersWhatIsHeld k.host
    → (after_doing (came now v) k).host.is.held ≡ k.host.is.held → IsTimedCall (came now v) k now
came_call now v k answers_held same =
    let first = performs (Calls (Tick now)) in
    let t = having (Calls (Tick now)) k in
    let m = after_doing (hears v) t in
    let lines = (hears v (sees t.host) t.policy).lines in
    let one = line_of (Calls (Tick now)) k.host in
    let more = lines_of lines t.host in
    record {
      m = m;
      behind = behind;
      sends = λ w c. subst (λ (s : List Datagram). Contains s w) (sym (then_sent first (and_then (hears v) timed) k)) (Contains-append_right (sent_by_doing first k) (sent_by_doing (and_then (hears v) timed) t) w
          (subst (λ (s : List Datagram). Contains s w) (sym (then_sent (hears v) timed t)) (Contains-append_right (sent_by_doing (hears v) t) (sent_by_doing timed m) w c)));
      wants = λ n is. ⊎_elim
          (λ (a : IsAskedIn n timed m). inl (asked_behind_tick n now (and_then (hears v) timed) k (asked_second n (hears v) timed t a)))
          (λ (without : LacksCredit (after_doing timed m)). inr (subst LacksCredit (sym behind) without))
          is;
      policy = hears_leave v t held;
      held = held;
      now_is = no_ticks_stand lines t.host (hears_none v (sees t.host) t.policy);
      of = record { number = more.number ∙ one.number; cells = more.cells ∙ one.cells; constants = more.constants ∙ one.constants };
      answers_held = answers_on (hears v) t (answers_on first k answers_held);
    } where
      behind : after_doing (came now v) k ≡ after_doing timed (after_doing (hears v) (having (Calls (Tick now)) k))
      behind = came_after now v k

      held : (after_doing (hears v) (having (Calls (Tick now)) k)).host.is.held ≡ k.host.is.held
      held =
          sym (ap (λ (x : Keeping). x.host.is.held) behind ∙ (does_rest timed (timed_each IsSmall are_small) (after_doing (hears v) (having (Calls (Tick now)) k))).held)
          ∙ same

-- Where nobody draws, and what is held stays: it sets constants, or ends with what is due at its moment.
pub still_call : (line : KeptLine) (k : Keeping) (moment : ℕ) → IsTold moment line
    → ((now : ℕ) (page : PageId) (time : ℕ) (op : Op) → line ≡ Added now page time op → ⊥) → AnswersWhatIsHeld k.host
    → (after_doing (doing_of line) k).host.is.held ≡ k.host.is.held → IsTuning (doing_of line) k ⊎ IsTimedCall (doing_of line) k moment
still_call (Came now v) k moment told drawn answers_held same = inr (subst (IsTimedCall (came now v) k) told (came_call now v k answers_held same))
still_call (Ticked now) k moment told drawn answers_held same = inr (subst (IsTimedCall (ticks now) k) told (ticked_call now k answers_held))
still_call (Added now page time op) k moment told drawn answers_held same = absurd (drawn now page time op refl)
still_call (Tuned constants) k moment told drawn answers_held same = inl (record { policy = refl; now_is = refl })
