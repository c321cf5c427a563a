-- What of a member is handed in.
use Rattle.std.proofs.Common.{◌≡◌, ◌≤◌, ◌∙◌, ℕ, Bool, true, false, ap, refl, sym, true≢false}
use Rattle.std.proofs.lemmas.Bool.{le-ltb}
use Rattle.std.specs.Prelude.{Option, ◌&&◌, nat_lt, not}
use Rattle.wb_codec.specs.declared.datagram.Datagram.{Datagram}
use Rattle.wb_codec.specs.declared.datagram.Datagram.TheVariants.{AskPages, Draw, PageState, Request, Session}
use Rattle.wb_judge.specs.Judge.{is_firm, knows}
use Rattle.wb_judge.specs.Members.{is_hush}
use Rattle.wb_judge.specs.declared.verdict.Why.{Why}
use Rattle.wb_judge.proofs.Members.{forged_no}
use Rattle.wb_judge.proofs.MembersHeard.{members_are_heard}
use Rattle.wb_member.specs.Judged.{holds}
use Rattle.wb_judging.specs.Handing.{facts_of, handed_for, verdict_on}
use Rattle.wb_judging.specs.Judged.{Judged}
use Rattle.wb_judging.specs.Members.{EachKindIsHandedIn, NeededIsHandedIn, OthersDrawopsAreFit, ReportsAreFit, needs}
use Rattle.wb_judging.proofs.Followed.{at_now}

pub each_kind_is_handed_in : EachKindIsHandedIn
unfolding verdict_on
each_kind_is_handed_in now o v h m loose =
    let f = facts_of now v h.kept in
    ap (λ (why : Option Why). handed_for now v why)
    (members_are_heard o v f h.judge (ap (λ (at : ℕ). knows o at h.judge) (at_now now v h.kept) ∙ m.known) m.spoken m.fit loose)

-- what is needed hushes nobody
no_hush : (now : ℕ) (v : Datagram) (h : Judged) → needs h.kept.host v ≡ true → is_hush v (facts_of now v h.kept) h.judge ≡ false
no_hush now (Draw d) h need = by (holds h.kept.host d.name) (is_firm d.name now h.judge) need where
  by : (a b : Bool) → not a ≡ true → (a && b) ≡ false
  by true b e = absurd (true≢false (sym e))
  by false b e = refl
no_hush now (Session sender sent page marks echoes) h need = refl
no_hush now (Request asker name) h need = by (holds h.kept.host name) (is_firm name now h.judge) need where
  by : (a b : Bool) → a ≡ true → (not a && b) ≡ false
  by true b e = refl
  by false b e = absurd (true≢false (sym e))
no_hush now (AskPages asker) h need = refl
no_hush now (PageState sender page marks) h need = refl

pub needed_is_handed_in : NeededIsHandedIn
needed_is_handed_in now o v h m need = each_kind_is_handed_in now o v h m (no_hush now v h need)

-- ---- what is fit

pub others_drawops_are_fit : OthersDrawopsAreFit
others_drawops_are_fit now o d h other soon room = (forged_no true d (facts_of now (Draw d) h.kept) h.judge other, soon, room)

none_listens : (now ready : ℕ) (b : Bool) → ready ≤ now → (nat_lt now ready && b) ≡ false
none_listens now ready b late = ap (λ (c : Bool). c && b) (le-ltb now ready late)

pub reports_are_fit : ReportsAreFit
reports_are_fit now o h late = (
  λ sender sent page marks echoes. none_listens now h.kept.policy.ready _ late,
  λ sender page marks. none_listens now h.kept.policy.ready _ late,
)
