-- The function of a session message gives the message that a keeper sends.
use Rattle.std.proofs.Common.{◌≡◌, ℕ, ◌-◌, Bool, true, false, cond, List, Option, Some, None, refl, sym, ap, ◌∙◌, eqb-true}
use Rattle.std.specs.Prelude.{Contains, nat_eq}
use Rattle.std.specs.List.{filter_map, list_any}
use Rattle.std.specs.Option.{option_map}
use Rattle.std.specs.List.Sorted.{IsStrictlySortedBy}
use Rattle.std.specs.Map.{keys_of}
use Rattle.std.specs.Ordering.{is_eq, nat_cmp}
use Rattle.std.proofs.lemmas.Map.Views.{Contains-from_any}
use Rattle.std.proofs.lemmas.Option.{same_Some}
use Rattle.wb_board.specs.Desks.{PassValue, IsSound}
use Rattle.wb_names.specs.Listing.{Lists}
use Rattle.wb_names.specs.declared.echo.Echo.{Echo}
use Rattle.wb_names.specs.declared.name.PageId.{PageId}
use Rattle.wb_names.proofs.Listings.{lists_same, one_list}
use Rattle.wb_names.proofs.Orders.{nat_ties}
use Rattle.wb_codec.specs.declared.datagram.Datagram.{Datagram}
use Rattle.wb_gaps.specs.Answers.{report_of}
use Rattle.wb_gaps.proofs.PageAnswers.{report_of_page}
use Rattle.wb_gaps.proofs.Sorting.{lists_sorted}
use Rattle.wb_keeper.specs.Keeper.{KeeperCall, newest, session_heard, heard_by, senders_of, last_heard}
use Rattle.wb_keeper.specs.Keeping.{heard_at}
use Rattle.wb_keeper.specs.Sessions.{echo_cmp, IsEchoTo, IsSession, echo_to, echoes_at, echoes_of, message_of, MessageIsSession}
use Rattle.wb_keeper.specs.declared.keeper.Heard.{Heard}
use Rattle.wb_keeper.proofs.KeeperAnswers.{few_seen}
use Rattle.wb_keeper.proofs.OneMessage.{echo_total, one_session}
use Rattle.wb_keeper.proofs.SentEchoes.{echoes_heard, same_echo}
use Rattle.wb_keeper.proofs.TickSends.{sent_by, sent_from}

abbrev echo_as : ℕ → ℕ → Heard → Echo
echo_as now source h = record { source = source; sent = h.sent; held = now - h.at }

module _ (me : ℕ) (calls : List KeeperCall) (now : ℕ) where
  echo_told : (source : ℕ) (e : Echo) → echo_to me calls now source ≡ Some e → IsEchoTo me calls now e
  echo_told source e told = at (last_heard me calls source) refl told where
    at : (o : Option Heard) → last_heard me calls source ≡ o → option_map (echo_as now source) o ≡ Some e → IsEchoTo me calls now e
    at None l f = absurd cc
    at (Some h) l f =
        let is : echo_as now source h ≡ e = same_Some (echo_as now source h) e f in
        (h, ap (λ (x : Echo). last_heard me calls x.source) (sym is) ∙ l, ap (λ (x : Echo). x.sent) (sym is), ap (λ (x : Echo). x.held) (sym is))

  echo_there : (e : Echo) → IsEchoTo me calls now e → echo_to me calls now e.source ≡ Some e
  echo_there e (h, told, sent, held) = ap (option_map (echo_as now e.source)) told ∙ ap (λ (x : Echo). Some x) (same_echo e.source h.sent (now - h.at) e refl (sym sent) (sym held))

  is_sender : (source : ℕ) (h : Heard) → last_heard me calls source ≡ Some h → Contains (senders_of me calls) source
  is_sender source h e = at (list_any (nat_eq source) (senders_of me calls)) refl e where
    at : (b : Bool) → list_any (nat_eq source) (senders_of me calls) ≡ b → cond b (newest (λ call. heard_by source (session_heard me call)) calls) None ≡ Some h → Contains (senders_of me calls) source
    at true any f = Contains-from_any (λ a c e. eqb-true a c e) source (senders_of me calls) any
    at false any f = absurd cc

  abbrev told : List Echo
  told = filter_map (echo_to me calls now) (senders_of me calls)

  from : (e : Echo) → Contains told e → IsEchoTo me calls now e
  from e c = let s = sent_from (echo_to me calls now) (senders_of me calls) e c in echo_told s.0 e s.2

  echoes_listed : Lists echo_cmp (IsEchoTo me calls now) (echoes_of me calls now)
  echoes_listed = lists_same echo_total (Contains told) (IsEchoTo me calls now) (echoes_of me calls now) from
      (λ e is. sent_by (echo_to me calls now) (senders_of me calls) e.source e (is_sender e.source is.0 is.1) (echo_there e is))
      (lists_sorted echo_total told (λ x y cx cy tie.
      let same : x.source ≡ y.source = eqb-true x.source y.source (nat_ties x.source y.source ∙ ap is_eq tie) in
      same_Some x y (sym (echo_there x (from x cx)) ∙ ap (echo_to me calls now) same ∙ echo_there y (from y cy))))

-- what a keeper holds of its senders
pub only_echoes : (me : ℕ) (calls : List KeeperCall) (now : ℕ) (heard : List (ℕ × Heard)) → IsStrictlySortedBy nat_cmp (keys_of heard) → ((source : ℕ) → heard_at heard source ≡ last_heard me calls source) → echoes_at now heard ≡ echoes_of me calls now
only_echoes me calls now heard rises same =
    one_list echo_total (IsEchoTo me calls now) (echoes_at now heard) (echoes_of me calls now) (echoes_heard me now calls heard rises same) (echoes_listed me calls now)

pub message_is_session : MessageIsSession
message_is_session me calls now history page few = record {
  marks = report_of history page;
  echoes = echoes_of me calls now;
  report = report_of_page history page few;
  echoed = echoes_listed me calls now;
  is = refl;
}

pub only_message : (me : ℕ) (calls : List KeeperCall) (now : ℕ) (q : PassValue) (page : PageId) (message : Datagram) → IsSound q → IsSession me calls now q.seen page message → message ≡ message_of me calls now q.seen page
only_message me calls now q page message sound is = one_session me calls now q.seen page message (message_of me calls now q.seen page) is (message_is_session me calls now q.seen page (few_seen q sound))
