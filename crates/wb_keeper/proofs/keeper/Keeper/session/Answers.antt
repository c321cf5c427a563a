use Rattle.std.proofs.Common.{ℕ, ◌∙◌, sym, ap, subst, refl, List}
use Rattle.wb_names.specs.Listing.{Lists}
use Rattle.wb_names.specs.declared.echo.Echo.{Echo}
use Rattle.wb_codec.specs.declared.datagram.Datagram.TheVariants.{Session}
use Rattle.wb_keeper.specs.Keeper.{Report}
use Rattle.wb_keeper.specs.Keeping.{KeeperValue}
use Rattle.wb_keeper.specs.Sessions.{echo_cmp, IsEchoTo}
use Rattle.wb_keeper.proofs.KeptCalls.{keeps_inward}
use Rattle.wb_keeper.proofs.MessageValue.{only_message}
use Rattle.wb_keeper.proofs.SentEchoes.{echoes_heard}
use Rattle.wb_keeper.proofs.keeper.Keeper.session.Goals as goal

pub returns-clause-value : goal.returns-clause-value
returns-clause-value c = λ me constants calls s. only_message me calls c.args.now _ c.args.page _ c.report.ensures.desk.sound (record {
  marks = c.in_ok-marks.marks;
  echoes = c.in_ok-echoes.echoes;
  report = c.in_ok-marks.ensures.answer;
  echoed = subst (λ (es : List Echo). Lists echo_cmp (IsEchoTo me calls c.args.now) es) (sym c.in_ok-echoes.ensures.echoes) (echoes_heard me c.args.now calls c.args.self.now.heard c.echoes.ensures.ordered s.heard);
  is = ap (λ (k : ℕ). Session k c.args.now c.args.page c.in_ok-marks.marks c.in_ok-echoes.echoes) (ap (λ (v : KeeperValue). v.me) c.self.view_is ∙ s.me_is);
})

pub returns-clause-ok : goal.returns-clause-ok
returns-clause-ok c =
    keeps_inward (Report c.args.now) (record { delays = λ me source. refl; sessions = λ me. refl; marks = λ me page source. refl; merged = λ me page. refl }) c.args.self.now _ c.args.self.now.recovery c.args.now
    (ap (λ (v : KeeperValue). record v { moment = c.args.now }) c.self.view_is) (λ calls. refl) (λ me t calls s. s.recovery)
