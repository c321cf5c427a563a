-- A host that hears a report of a number that it lacks wants it.
use Rattle.std.proofs.Common.{◌≡◌, ℕ, Bool, true, false, cond, List, ◌∙◌, ap, eqb-true, inl, inr, refl, subst, sym, ⊎_elim}
use Rattle.std.specs.Prelude.{◌⊎◌, Contains, nat_eq, nat_lt}
use Rattle.wb_names.specs.Values.{MarkValue, NameValue}
use Rattle.wb_names.specs.declared.echo.Echo.{Echo}
use Rattle.wb_names.specs.declared.name.PageId.{PageId}
use Rattle.wb_codec.specs.declared.datagram.Datagram.{Datagram}
use Rattle.wb_codec.specs.declared.datagram.Datagram.TheVariants.{Session}
use Rattle.wb_member.specs.Opened.{has_room_for, heard}
use Rattle.wb_member.specs.declared.calls.Call.TheVariants.{Tick, Hear}
use Rattle.wb_policy.specs.Choices.{echoed_delay, own_echo, own_marks, told_names}
use Rattle.wb_keeping.specs.Kept.{Calls, Doing, Transition, and_then, came, hears, hears_session, measures, performs, still, timed, want_told}
use Rattle.wb_keeping.specs.Performing.{Keeping, after_doing, after_lines, sees}
use Rattle.wb_keeping.proofs.EachStep.{having}
use Rattle.wb_keeping.proofs.Performed.{then_after}
use Rattle.wb_kept_progress.proofs.Lines.{IsSmall, are_small, does_rest}
use Rattle.wb_kept_progress.proofs.WantedIn.{IsAskedIn, IsAskedInCall, LacksCredit, IsWantedIn, MayBeWanted, asked_behind_tick, timed_costs, told_is_wanted, wanted_behind, wanted_later, same_may}
use Rattle.wb_keeping.proofs.EachLine.{measures_each}
use Rattle.std.proofs.lemmas.Bool.{false_from_ne_true}

hearing_holds : (v : Datagram) (k : Keeping) → (after_doing (performs (Calls (Hear v))) k).host.is.held ≡ k.host.is.held
hearing_holds v k = by (has_room_for v k.host) where
  by : (b : Bool) → (cond b (heard v k.host) k.host).is.held ≡ k.host.is.held
  by true = refl
  by false = refl

abbrev done : Keeping → Doing → Keeping
done k d = record { host = after_lines d.lines k.host; policy = d.policy }

module _ (k : Keeping) (now sender sent : ℕ) (page : PageId) (marks : List MarkValue) (echoes : List Echo) (other : sender ≡ k.host.is.number → ⊥)
    (n : NameValue) (told : Contains (told_names k.host.is.number page marks) n) (may : MayBeWanted k n) where
  abbrev v : Datagram
  v = Session sender sent page marks echoes

  abbrev t : Keeping
  t = having (Calls (Tick now)) k

  abbrev echo : List Echo
  echo = own_echo k.host.is.number echoes

  abbrev first : Transition
  first = performs (Calls (Hear (Session sender sent page (own_marks k.host.is.number (nat_lt now k.policy.ready) marks) echo)))

  abbrev second : Transition
  second = measures sender (echoed_delay now echo)

  abbrev third : Transition
  third = want_told (told_names k.host.is.number page marks)

  abbrev one : Keeping
  one = after_doing first t

  abbrev two : Keeping
  two = after_doing second one

  may_two : MayBeWanted two n
  may_two =
      same_may n second one
      (does_rest second (measures_each IsSmall are_small sender (echoed_delay now echo)) one).held
      (same_may n first t (hearing_holds (Session sender sent page (own_marks k.host.is.number (nat_lt now k.policy.ready) marks) echo) t) (same_may n (performs (Calls (Tick now))) k refl may))

  all_heard : IsWantedIn n (and_then first (and_then second third)) t
  all_heard =
      wanted_later n first (and_then second third) t
      (wanted_later n second third one (told_is_wanted (told_names k.host.is.number page marks) n two told may_two))

  of_another : nat_eq sender k.host.is.number ≡ false
  of_another = false_from_ne_true (nat_eq sender k.host.is.number) (λ same. other (eqb-true sender k.host.is.number same))

  abbrev by_sender : Bool → Doing
  by_sender b = cond b (still (sees t.host) t.policy) (hears_session sender sent page marks echoes (sees t.host) t.policy)

  heard_so : IsWantedIn n (hears v) t
  heard_so = ⊎_elim
      (λ (a : IsAskedIn n (and_then first (and_then second third)) t). inl (record { before = a.before; later = a.later; lines = ap (λ (b : Bool). (by_sender b).lines) of_another ∙ a.lines; stands = a.stands }))
      (λ (without : LacksCredit (after_doing (and_then first (and_then second third)) t)). inr (subst LacksCredit (sym (ap (λ (b : Bool). done t (by_sender b)) of_another)) without))
      all_heard

  pub told_wants : IsAskedInCall n (came now v) k ⊎ LacksCredit (after_doing (came now v) k)
  told_wants = ⊎_elim
      (λ (a : IsAskedIn n (and_then (hears v) timed) t). inl (asked_behind_tick n now (and_then (hears v) timed) k a))
      (λ (without : LacksCredit (after_doing (and_then (hears v) timed) t)). inr (subst LacksCredit (sym (then_after (performs (Calls (Tick now))) (and_then (hears v) timed) k)) without))
      (wanted_behind n (hears v) timed t (timed_costs (after_doing (hears v) t)) heard_so)
