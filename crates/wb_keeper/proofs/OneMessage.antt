-- There is one session message of a moment.
use Rattle.std.proofs.Common.{◌≡◌, List, ap, ◌∙◌, sym}
use Rattle.std.specs.Cmp.{IsTotalOrder, nat_cmp_total}
use Rattle.std.proofs.lemmas.Cmp.{on_total}
use Rattle.wb_names.specs.Values.{MarkValue}
use Rattle.wb_names.specs.declared.echo.Echo.{Echo}
use Rattle.wb_names.proofs.Listings.{one_list}
use Rattle.wb_names.proofs.MarkLists.{one_marks}
use Rattle.wb_codec.specs.declared.datagram.Datagram.TheVariants.{Session}
use Rattle.wb_keeper.specs.Sessions.{echo_cmp, IsEchoTo, OneSession}

pub echo_total : IsTotalOrder echo_cmp
echo_total = on_total (λ (e : Echo). e.source) nat_cmp_total

pub one_session : OneSession
one_session me calls now history page a b x y =
    let marks : x.marks ≡ y.marks = one_marks x.marks y.marks x.report.0 y.report.0 (λ s. x.report.1 s ∙ sym (y.report.1 s)) in
    let echoes : x.echoes ≡ y.echoes = one_list echo_total (IsEchoTo me calls now) x.echoes y.echoes x.echoed y.echoed in
    x.is ∙ ap (λ (ms : List MarkValue). Session me now page ms x.echoes) marks ∙ ap (λ (es : List Echo). Session me now page y.marks es) echoes ∙ sym y.is
