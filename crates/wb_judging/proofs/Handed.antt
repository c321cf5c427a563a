-- What the judge hands in is not refused but for its moment.
use Rattle.std.proofs.Common.{◌≡◌, ◌+◌, ℕ, Bool, true, false, cond, List, [], ◌∷◌, None, ap, refl, sym, true≢false}
use Rattle.std.specs.Prelude.{Option, Some, ◌&&◌, ◌||◌, nat_eq, nat_le, nat_lt, not}
use Rattle.wb_names.specs.Faults.{fault_unless, first_of}
use Rattle.wb_names.specs.Values.{DrawopValue, MarkValue}
use Rattle.wb_names.specs.declared.name.PageId.{PageId}
use Rattle.wb_codec.specs.declared.datagram.Datagram.{Datagram}
use Rattle.wb_codec.specs.declared.datagram.Datagram.TheVariants.{AskPages, Draw, PageState, Request, Session}
use Rattle.wb_judge.specs.Judge.{Judge, hushes, knows}
use Rattle.wb_judge.specs.Judging.{after_coming, drawop_verdict, is_forged_drawop}
use Rattle.wb_judge.specs.Verdicts.{dropped, taken}
use Rattle.wb_judge.specs.declared.facts.Facts.{Facts}
use Rattle.wb_names.specs.declared.name.TheConstants.{FIRST_FORGED}
use Rattle.wb_judge.specs.declared.origin.Origin.{Origin}
use Rattle.wb_judge.specs.declared.verdict.Verdict.{Verdict}
use Rattle.wb_judge.specs.declared.verdict.Why.{Why}
use Rattle.wb_judge.specs.declared.verdict.Why.TheVariants.{Again, Own}
use Rattle.wb_keeping.specs.Laws.{fault_of}
use Rattle.wb_keeper.specs.declared.keep_fault.KeepFault.TheVariants.{BackInTime}
use Rattle.wb_member.specs.Opened.{present}
use Rattle.wb_keeping.specs.Performing.{Keeping}
use Rattle.wb_keeping.specs.Refusing.{back_in_time, came_fault, is_unknown_of_ours}
use Rattle.wb_keeping.specs.declared.kept_fault.KeptFault.{KeptFault}
use Rattle.wb_keeping.specs.declared.kept_fault.KeptFault.TheVariants.{Host, Ours}
use Rattle.wb_judging.specs.Handing.{facts_of, handed_for, verdict_on}
use Rattle.wb_judging.specs.Judged.{Judged}

-- ---- a drawop of ours

not_forged : (may holds forged : Bool) (rest : Verdict) → (cond holds (cond may taken (dropped Again)) (cond forged (dropped Own) rest)).why ≡ None → holds ≡ false → forged ≡ false
not_forged may true forged rest e f = absurd (true≢false f)
not_forged may false true rest e f = absurd cc
not_forged may false false rest e f = refl

-- a number that we would never reach, of a drawop that is not held
in_reach : (own far more holds : Bool) → (holds ≡ false → (own && (far || more)) ≡ false) → (own && (far && not holds)) ≡ false
in_reach false far more holds e = refl
in_reach true false more holds e = refl
in_reach true true more true e = refl
in_reach true true more false e = absurd (true≢false (e refl))

reached : (o : Origin) (d : DrawopValue) (f : Facts) (j : Judge) → (drawop_verdict o d f j).why ≡ None → (nat_eq d.name.source j.me && (nat_le FIRST_FORGED d.name.seq && not f.holds)) ≡ false
unfolding drawop_verdict is_forged_drawop
reached o d f j e =
    in_reach (nat_eq d.name.source j.me) (nat_le FIRST_FORGED d.name.seq) (f.above || (f.listens || not (knows o f.at j))) f.holds
    (not_forged (hushes o d.name f.at j) f.holds (is_forged_drawop (knows o f.at j) d f j) _ e)

pub unknown_not : (now : ℕ) (o : Origin) (v : Datagram) (h : Judged) → h.judge.me ≡ h.kept.host.is.number → (verdict_on now o v h).why ≡ None → is_unknown_of_ours v h.kept.host ≡ false
unfolding verdict_on
unknown_not now o (Draw d) h own e = rw (sym own) (reached o d (facts_of now (Draw d) h.kept) (after_coming o now h.judge) e)
unknown_not now o (Session sender sent page marks echoes) h own e = refl
unknown_not now o (Request asker name) h own e = refl
unknown_not now o (AskPages asker) h own e = refl
unknown_not now o (PageState sender page marks) h own e = refl

-- ---- the fault of a line that is handed in

pub alone : {F : Type 0} (fault : Option F) → first_of (fault ∷ []) ≡ fault
alone None = refl
alone (Some fault) = refl

alone_else : (fault : Option KeptFault) (b : Bool) → b ≡ false → first_of (fault ∷ fault_unless (not b) Ours ∷ []) ≡ fault
alone_else None true e = absurd (true≢false e)
alone_else None false e = refl
alone_else (Some fault) b e = refl

by_why : (now : ℕ) (v : Datagram) (h : Judged) (why : Option Why) → (why ≡ None → is_unknown_of_ours v h.kept.host ≡ false) → fault_of (handed_for now v why) h.kept ≡ back_in_time now h.kept
by_why now v h None known = alone_else (back_in_time now h.kept) (is_unknown_of_ours v h.kept.host) (known refl)
by_why now v h (Some why) known = alone (back_in_time now h.kept)

pub handed_fault : (now : ℕ) (o : Origin) (v : Datagram) (h : Judged) → h.judge.me ≡ h.kept.host.is.number → fault_of (handed_for now v (verdict_on now o v h).why) h.kept ≡ back_in_time now h.kept
handed_fault now o v h own = by_why now v h (verdict_on now o v h).why (unknown_not now o v h own)

-- a page state is refused for its moment alone
pub state_fault : (now speaker : ℕ) (page : PageId) (marks : List MarkValue) (k : Keeping) → nat_le (present k.host) now ≡ true → came_fault now (PageState speaker page marks) k ≡ None
state_fault now speaker page marks k time = ap (λ (b : Bool). first_of (fault_unless b (Host BackInTime) ∷ fault_unless (not false) Ours ∷ [])) time
