-- No host can do without a report: each is handed in.
use Rattle.std.proofs.Common.{◌≡◌, ◌++◌, ◌∙◌, ℕ, true, List, refl, sym, true≢false, ⊎_elim}
use Rattle.std.specs.Prelude.{◌⊎◌}
use Rattle.wb_codec.specs.declared.datagram.Datagram.{Datagram}
use Rattle.wb_kept_progress.specs.Sessions.{Opening}
use Rattle.wb_kept_progress.specs.Timed.{At}
use Rattle.wb_kept_progress.specs.Traffic.{is_session}
use Rattle.wb_kept_progress.specs.Whole.{IsHandedIn, IsSpared, there}
use Rattle.wb_judging.specs.Members.{needs}
use Rattle.wb_member.specs.Opened.{Opened}
use Rattle.wb_codec.specs.declared.datagram.Datagram.TheVariants.{AskPages, Draw, PageState, Request, Session}
use Rattle.wb_keeping.specs.Laws.{KeptLine}

needs_reports : (v : Datagram) (host : Opened) → is_session v ≡ true → needs host v ≡ true
needs_reports (Draw d) host is = absurd (true≢false (sym is))
needs_reports (Session sender sent page marks echoes) host is = refl
needs_reports (Request asker name) host is = absurd (true≢false (sym is))
needs_reports (AskPages asker) host is = absurd (true≢false (sym is))
needs_reports (PageState sender page marks) host is = absurd (true≢false (sym is))

pub reports_come : (hosts : ℕ → Opening) (newer base : List (At KeptLine)) (j by : ℕ) (v : Datagram) → is_session v ≡ true → IsHandedIn newer j by v ⊎ IsSpared hosts newer base j by v → IsHandedIn newer j by v
reports_come hosts newer base j by v is delivered = ⊎_elim
    (λ (h : IsHandedIn newer j by v). h)
    (λ (p : IsSpared hosts newer base j by v). absurd (true≢false (sym (needs_reports v (there hosts (p.between ++ base) j).host is) ∙ p.spared)))
    delivered
