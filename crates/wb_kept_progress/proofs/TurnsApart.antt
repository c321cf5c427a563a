-- Two turns of a host by the clock are a second apart or more: when the next one is due, behind a call.
use Rattle.std.proofs.Common.{◌≡◌, ℕ, ◌+◌, ◌<◌, ◌≤◌, true, false, inl, inr, refl, subst, sym, ⊎_elim}
use Rattle.std.specs.Prelude.{◌⊎◌, ◌≢◌, nat_le}
use Rattle.wb_names.specs.declared.name.PageId.{PageId}
use Rattle.wb_names.specs.declared.parts.Op.{Op}
use Rattle.wb_codec.specs.declared.datagram.Datagram.{Datagram}
use Rattle.wb_member.specs.Opened.{present}
use Rattle.wb_member.specs.declared.calls.Call.TheVariants.{Tick}
use Rattle.wb_keeping.specs.Kept.{Calls, came, hears, performs, ticks, timed}
use Rattle.wb_keeping.specs.Laws.{KeptLine, Came, Ticked, Added, Tuned, doing_of}
use Rattle.wb_keeping.specs.Performing.{Keeping, after_doing, sees}
use Rattle.wb_policy.specs.Policy.{draws}
use Rattle.wb_keeping.proofs.EachStep.{having}
use Rattle.wb_keeping.proofs.Performed.{then_after}
use Rattle.wb_kept_progress.proofs.Moments.{IsTold, IsTuned}
use Rattle.wb_kept_progress.proofs.Performed.{hears_none}
use Rattle.wb_kept_progress.proofs.Repairs.{came_after}
use Rattle.wb_kept_progress.proofs.Leaving.{hears_tells}
use Rattle.wb_kept_progress.proofs.InTurn.{idle_due, turned_later}
use Rattle.wb_kept_progress.proofs.StillCalls.{no_ticks_stand}
use Rattle.std.proofs.lemmas.Bool.Decides.{leb_tells}

-- ---- a call

-- The next turn is due as before, later than this moment; or one was due, and the next is a second later or more.
abbrev pub IsDueThen : (moment due next : ℕ) → Type 0
IsDueThen moment due next = ((moment < due) × (next ≡ due)) ⊎ ((due ≤ moment) × (moment + 1000000 ≤ next))

-- what is due at the moment of a host
timed_due : (k : Keeping) → IsDueThen (present k.host) k.policy.pace.due (after_doing timed k).policy.pace.due
timed_due k = ⊎_elim
    (λ (yes : (nat_le k.policy.pace.due (present k.host) ≡ true) × (k.policy.pace.due ≤ present k.host)). inr (yes.1, turned_later k yes.1))
    (λ (no : (nat_le k.policy.pace.due (present k.host) ≡ false) × (present k.host < k.policy.pace.due)). inl (no.1, idle_due k no.1))
    (leb_tells k.policy.pace.due (present k.host))

after_tick : (now : ℕ) (k : Keeping) → IsDueThen now k.policy.pace.due (after_doing (ticks now) k).policy.pace.due
after_tick now k = subst (λ (m : Keeping). IsDueThen now k.policy.pace.due m.policy.pace.due) (sym (then_after (performs (Calls (Tick now))) timed k)) (timed_due (having (Calls (Tick now)) k))

after_came : (now : ℕ) (v : Datagram) (k : Keeping) → IsDueThen now k.policy.pace.due (after_doing (came now v) k).policy.pace.due
after_came now v k =
    let t = having (Calls (Tick now)) k in
    let m = after_doing (hears v) t in
    let due : m.policy.pace.due ≡ k.policy.pace.due = (hears_tells v (sees t.host) t.policy).beat in
    let moment : present m.host ≡ now = no_ticks_stand (hears v (sees t.host) t.policy).lines t.host (hears_none v (sees t.host) t.policy) in
    subst (λ (n : Keeping). IsDueThen now k.policy.pace.due n.policy.pace.due) (sym (came_after now v k))
    (subst (λ (d : ℕ). IsDueThen now d (after_doing timed m).policy.pace.due) due
    (subst (λ (n : ℕ). IsDueThen n m.policy.pace.due (after_doing timed m).policy.pace.due) moment (timed_due m)))

abbrev pub DrawsNothing : KeptLine → Type 0
DrawsNothing line = (now : ℕ) (page : PageId) (time : ℕ) (op : Op) → line ≢ Added now page time op

-- when the next turn of a host is due after a call at a moment, if it draws nothing
pub call_due : (line : KeptLine) (moment : ℕ) (k : Keeping) → IsTold moment line → DrawsNothing line
    → IsDueThen moment k.policy.pace.due (after_doing (doing_of line) k).policy.pace.due ⊎ (IsTuned line × ((after_doing (doing_of line) k).policy.pace.due ≡ k.policy.pace.due))
call_due (Came now v) moment k told draws = inl (subst (λ (m : ℕ). IsDueThen m k.policy.pace.due (after_doing (came now v) k).policy.pace.due) told (after_came now v k))
call_due (Ticked now) moment k told draws = inl (subst (λ (m : ℕ). IsDueThen m k.policy.pace.due (after_doing (ticks now) k).policy.pace.due) told (after_tick now k))
call_due (Added now page time op) moment k told draws = absurd (draws now page time op refl)
call_due (Tuned constants) moment k told draws = inr ((constants, refl), refl)
