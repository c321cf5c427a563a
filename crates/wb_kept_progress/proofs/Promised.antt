-- The policy of self-managing hosts keeps its promises, so that a session of them becomes whole.
use Rattle.std.proofs.Common.{◌+◌, ◌*◌, inl}
use Rattle.std.proofs.Math.Nat.{le_refl}
use Rattle.wb_kept_progress.specs.Promises.{Promises}
use Rattle.wb_kept_progress.specs.Whole.{AllAreSoon, AllAreSoonByRates, SessionsBecomeWhole, turn_span}
use Rattle.wb_kept_progress.proofs.Becoming.{promises_suffice}
use Rattle.wb_kept_progress.proofs.CallLines.{lines_have_calls}
use Rattle.wb_kept_progress.proofs.CallsInTime.{performed_is_timely}
use Rattle.wb_kept_progress.proofs.Causes.{asks_have_cause}
use Rattle.wb_kept_progress.proofs.LackAsked.{lack_is_asked}
use Rattle.wb_kept_progress.proofs.LackWanted.{lack_is_wanted}
use Rattle.wb_kept_progress.proofs.NoCredit.{no_credit_is_asked}
use Rattle.wb_kept_progress.proofs.NothingNew.{held_was_held}
use Rattle.wb_kept_progress.proofs.OwedAndDue.{reports_are_due}
use Rattle.wb_kept_progress.proofs.Pauses.{reports_go_by_rates}
use Rattle.wb_kept_progress.proofs.Spent.{credit_is_spent}
use Rattle.wb_kept_progress.proofs.Stillness.{gives_up_for_another}
use Rattle.wb_kept_progress.proofs.StopCauses.{stops_have_cause}

pub promises_are_kept : Promises
promises_are_kept = record {
  asks = lack_is_asked (lack_is_wanted held_was_held) (no_credit_is_asked (credit_is_spent held_was_held));
  keeps = gives_up_for_another performed_is_timely lines_have_calls (asks_have_cause held_was_held) (stops_have_cause lines_have_calls);
  reports = reports_are_due;
}

pub all_are_soon : AllAreSoon
all_are_soon hosts terms trace slices holes numbers most session = record {
  reports = reports_are_due hosts terms trace session;
  turns = inl (le_refl (2 * numbers * holes * (16000000 + terms.late)));
  gives = inl (le_refl most);
}

pub all_are_soon_by_rates : AllAreSoonByRates
all_are_soon_by_rates hosts terms trace rate slices holes numbers most session some slower =
    record { reports = reports_go_by_rates hosts terms trace rate session some slower; turns = inl (le_refl (2 * numbers * holes * turn_span terms)); gives = inl (le_refl most) }

pub sessions_become_whole : SessionsBecomeWhole
sessions_become_whole = promises_suffice promises_are_kept
