-- Equal reports and no gaps tell agreement of self-managing members.
use Rattle.std.proofs.Common.{◌≡◌, ℕ, List, ◌∙◌, ap, subst, sym}
use Rattle.std.specs.Prelude.{Contains}
use Rattle.wb_names.specs.Values.{DrawopValue}
use Rattle.wb_gaps.specs.Answers.{report_of}
use Rattle.wb_member.specs.Opened.{Opened, gaps_at}
use Rattle.wb_laws_machines.specs.Agreement.{Agree}
use Rattle.wb_laws_sessions.specs.Sessions.{host_at}
use Rattle.wb_laws_sessions.proofs.Agreeing.{reports_tell_agreement}
use Rattle.wb_laws_sessions.proofs.Drawn.{names_mean_one, once_held_was_drawn}
use Rattle.wb_laws_machines.proofs.Outcomes.{Found, found}
use Rattle.wb_laws_kept.specs.Restarts.{KeptNeverClash, KeptReportsTellAgreement}
use Rattle.wb_laws_kept.specs.Sessions.{At, kept_at, steps_of}
use Rattle.wb_laws_kept.proofs.Honest.{kept_are_honest}
use Rattle.wb_laws_kept.specs.Kept.{deeds_of}
use Rattle.wb_laws_kept.proofs.Steps.{kept_is_session}
use Rattle.wb_laws_kept.specs.Calls.{Call}
use Rattle.wb_laws_machines.proofs.Traces.{behind_both, happen_behind}
use Rattle.wb_laws_machines.specs.Machines.{part, whole, ◌⊑◌}

-- the steps of older calls come before those of all
pub steps_behind : (numbers : ℕ → ℕ) {older calls : List (At Call)} → older ⊑ calls → steps_of numbers older ⊑ steps_of numbers calls
steps_behind numbers whole = whole
steps_behind numbers (part {newer = newer} {e = e} behind) =
    behind_both (steps_behind numbers behind) (happen_behind e.time e.place (deeds_of e.event (kept_at numbers newer e.place)) (steps_of numbers newer))

pub kept_reports_tell_agreement : KeptReportsTellAgreement
kept_reports_tell_agreement numbers calls apart taken were know older older' i j page behind behind' same none nothing =
    let one : host_at numbers (steps_of numbers older) i ≡ (kept_at numbers older i).host = kept_is_session numbers older i in
    let other : host_at numbers (steps_of numbers older') j ≡ (kept_at numbers older' j).host = kept_is_session numbers older' j in
    let agree : Agree (host_at numbers (steps_of numbers older) i) (host_at numbers (steps_of numbers older') j) page =
    reports_tell_agreement numbers (steps_of numbers calls) (steps_of numbers older) (steps_of numbers older') i j page apart (kept_are_honest numbers calls taken were know)
    (steps_behind numbers behind) (steps_behind numbers behind')
    (ap (λ (h : Opened). report_of h.is.held page) one ∙ same ∙ ap (λ (h : Opened). report_of h.is.held page) (sym other))
    (ap (gaps_at page) one ∙ none) (ap (gaps_at page) other ∙ nothing) in
    subst (λ (h : Opened). Agree h (kept_at numbers older' j).host page) one (subst (λ (h : Opened). Agree (host_at numbers (steps_of numbers older) i) h page) other agree)

pub kept_never_clash : KeptNeverClash
kept_never_clash numbers calls older i d place apart taken were know behind was clashed =
    let steps = steps_of numbers calls in
    let honest = kept_are_honest numbers calls taken were know in
    let host = (kept_at numbers older i).host in
    let f : (x : DrawopValue) × Contains host.is.held x × (x.name ≡ d.name) × (x ≡ d → ⊥) = subst (Found host.is.held d) clashed (found host.is.cells 0 host.is.held d) in
    let there : Contains (host_at numbers (steps_of numbers older) i).is.held f.0 = subst (λ (h : Opened). Contains h.is.held f.0) (sym (kept_is_session numbers older i)) f.1 in
    f.3 (names_mean_one numbers steps apart honest f.0 d
    (once_held_was_drawn numbers steps honest f.0 (record { older = steps_of numbers older; behind = steps_behind numbers behind; place = i; held = there }))
    (once_held_was_drawn numbers steps honest d was) f.2)
