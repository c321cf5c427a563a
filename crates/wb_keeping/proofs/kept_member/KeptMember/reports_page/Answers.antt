use Rattle.std.proofs.Common.{◌≡◌, ◌+◌, List, [], ◌∷◌, ◌++◌, ◌∙◌, ap, length, refl}
use Rattle.std.specs.Prelude.{None}
use Rattle.wb_codec.specs.declared.datagram.Datagram.{Datagram}
use Rattle.wb_policy.specs.Choices.{firsts_of, last_source, next_turn, soonest}
use Rattle.wb_keeping.specs.Kept.{report_echoes, reports_page}
use Rattle.wb_keeping.specs.Performing.{KeptValue, sees, view_of}
use Rattle.wb_policy.specs.Policy.{Policy, after_echoing, after_report}
use Rattle.wb_keeping.specs.Views.{is_known}
use Rattle.wb_keeping.proofs.Performed.{at_inside, does_seen}
use Rattle.wb_keeping.proofs.LeftSome.{on_err, left_none}
use Rattle.std.proofs.Common.{◌*◌}
use Rattle.wb_names.specs.declared.echo.Echo.{Echo}
use Rattle.wb_codec.specs.declared.datagram.Datagram.TheVariants.{Session}
use Rattle.wb_policy.specs.Reports.{members_in}
use Rattle.wb_policy.specs.declared.limits.TheConstants.{MOST_ECHOES}
use Rattle.wb_keeping.proofs.kept_member.KeptMember.reports_page.Goals as goal

pub returns-clause-does : goal.returns-clause-does
returns-clause-does c = does_seen (reports_page c.args.page c.args.told c.args.marks) (λ k at.
    let v = view_of k.host in
    let inside = at_inside k c.self.view_is at in
    let now : c.moment-now.result ≡ v.now = c.moment-now.ensures.moment k.host inside.member in
    let me : c.me.result ≡ v.me = c.me.ensures k.host inside.member in
    let all : c.in_ok-all.all ≡ v.echoes = c.in_ok-all.ensures k.host inside.member in
    let from : c.echoed-from.result ≡ k.policy.echoed = c.echoed-from.ensures ∙ ap (λ (p : Policy). p.echoed) inside.policy in
    let firsts : c.in_ok-firsts.firsts.items ≡ firsts_of (is_known v) k.policy.echoed v.echoes = c.in_ok-firsts.ensures k at ∙ ap (firsts_of (is_known v) k.policy.echoed) (c.as_slice.ensures.entries ∙ all) in
    let echoes : c.in_ok-echoes.echoes ≡ report_echoes v k.policy = c.in_ok-echoes.ensures ∙ (λ i. soonest ((c.deref.ensures.value ∙ firsts) i) (from i) MOST_ECHOES (all i)) in
    let next : c.next_turn-next.result ≡ next_turn (firsts_of (is_known v) k.policy.echoed v.echoes) k.policy.echoed (report_echoes v k.policy) =
    c.next_turn-next.ensures ∙ (λ i. next_turn ((c.deref-2.ensures.value ∙ firsts) i) (from i) ((c.as_slice-2.ensures.entries ∙ echoes) i)) in
    let others : c.members-others.result ≡ members_in v.echoes = c.members-others.ensures.members ∙ ap members_in (c.as_slice-3.ensures.entries ∙ all) in
    let bytes : c.report_bytes-bytes.result ≡ 32 + 8 * length c.args.marks + 20 * length (report_echoes v k.policy) = c.report_bytes-bytes.ensures.bytes ∙ ap (λ (es : List Echo). 32 + 8 * length c.args.marks + 20 * length es) echoes in (
      reports_page c.args.page c.args.told c.args.marks (sees k.host) k.policy,
      refl,
      c.in_ok-send.ensures ∙ ap (λ (d : Datagram). c.args.sent.now.items ++ d ∷ []) (λ i. Session (me i) (now i) c.args.page c.args.marks (echoes i)),
      record {
        member = inside.member;
        policy = c.reported.ensures.after ∙ ap (after_report c.moment-now.result c.args.told c.members-others.result c.report_bytes-bytes.result) c.echoed_up_to.ensures
            ∙ (λ i. after_report (now i) c.args.told (others i) (bytes i) (after_echoing (next i) (inside.policy i)));
      },
    ))

pub returns-in_err-send-clause-left : goal.returns-in_err-send-clause-left
returns-in_err-send-clause-left c = on_err _ (left_none (reports_page c.args.page c.args.told c.args.marks) (ap (λ (v : KeptValue). v.member) c.self.view_is))
