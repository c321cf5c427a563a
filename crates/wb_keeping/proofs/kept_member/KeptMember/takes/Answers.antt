use Rattle.std.proofs.Common.{◌≡◌, Bool, true, false, cond, ◌∙◌, ap, refl, sym}
use Rattle.std.specs.Prelude.{◌||◌}
use Rattle.wb_names.specs.Arrivals.{Outcome}
use Rattle.wb_names.specs.Values.{DrawopValue, NameValue}
use Rattle.wb_member.specs.Holding.{IsOpenAt, MemberValue}
use Rattle.wb_member.specs.Opened.{Opened, accepted, becomes}
use Rattle.wb_keeping.specs.Kept.{Arrives, performs, and_then, learned, takes}
use Rattle.wb_keeping.specs.Performing.{DoesQuietly, IsKeptAt, Keeping, KeptValue, sees, view_of}
use Rattle.wb_keeping.specs.Views.{holds, is_asked, is_full}
use Rattle.wb_keeping.proofs.Performed.{at_inside, quiet_as, quiet_line, quiet_of, quiet_then}
use Rattle.wb_keeping.proofs.LeftSome.{on_err, left_as, left_later}
use Rattle.wb_keeping.proofs.kept_member.KeptMember.takes.Goals as goal
use Rattle.wb_keeping.proofs.kept_member.KeptMember.takes.Goals.{After-learned}

-- The drawop arrived: what the member says of that.
arrived : (d : DrawopValue) {o : Outcome} {v old : KeptValue} {member : MemberValue} → v ≡ old
    → ((host : Opened) → IsOpenAt v.member host → (o ≡ becomes d host) × IsOpenAt member (accepted d host)) → DoesQuietly (performs (Arrives d)) old (record { member = member; policy = v.policy })
arrived d is came = quiet_of is (quiet_line (Arrives d) refl (λ host at. (refl, (came host at).1)))

pub returns-then-is_no_news-clause-became : goal.returns-then-is_no_news-clause-became
returns-then-is_no_news-clause-became c = λ k at. (c.in_ok-became.ensures.accepted k.host (at_inside k c.self.view_is at).member).0

pub returns-clause-became : goal.returns-clause-became
returns-clause-became c = λ k at. (c.in_ok-became.ensures.accepted k.host (at_inside k c.self.view_is at).member).0

pub returns-then-is_no_news-clause-does : goal.returns-then-is_no_news-clause-does
returns-then-is_no_news-clause-does c =
    let d = c.args.drawop.now in
    let line = performs (Arrives d) in
    quiet_as (takes d) line (λ k at.
    let v = view_of k.host in
    let known : (holds v d.name || is_full v) ≡ true = ap (λ (n : NameValue). holds v n || is_full v) (sym c.name-name.ensures) ∙ sym (c.is_no_news-is_no_news.ensures k at) ∙ c.if-is_no_news.true in
    ap (λ (b : Bool). cond b (line (sees k.host) k.policy) (and_then line (learned d.name (is_asked v d.name)) (sees k.host) k.policy)) known) (arrived d c.self.view_is c.in_ok-became.ensures.accepted)

-- it is new, and learned
learns : (c : After-learned) (k : Keeping) → IsKeptAt c.args.self.now k
    → takes c.args.drawop.now (sees k.host) k.policy ≡ and_then (performs (Arrives c.args.drawop.now)) (learned c.name-name.result c.is_asked-was_asked.result) (sees k.host) k.policy
learns c k at =
    let d = c.args.drawop.now in
    let line = performs (Arrives d) in
    let was = c.is_asked-was_asked.result in
    let v = view_of k.host in
    let new : (holds v d.name || is_full v) ≡ false = ap (λ (n : NameValue). holds v n || is_full v) (sym c.name-name.ensures) ∙ sym (c.is_no_news-is_no_news.ensures k at) ∙ c.if-is_no_news.false in
    let asks : is_asked v d.name ≡ was = ap (is_asked v) (sym c.name-name.ensures) ∙ sym (c.is_asked-was_asked.ensures k at) in
    ap (λ (b : Bool). cond b (line (sees k.host) k.policy) (and_then line (learned d.name (is_asked v d.name)) (sees k.host) k.policy)) new
    ∙ ap (λ (b : Bool). and_then line (learned d.name b) (sees k.host) k.policy) asks
    ∙ ap (λ (m : NameValue). and_then line (learned m was) (sees k.host) k.policy) (sym c.name-name.ensures)

pub returns-clause-does : goal.returns-clause-does
returns-clause-does c =
    let line = performs (Arrives c.args.drawop.now) in
    let later = learned c.name-name.result c.is_asked-was_asked.result in
    quiet_as (takes c.args.drawop.now) (and_then line later) (learns (goal.at.returns-clause-does c).After-learned) (quiet_then line later (arrived c.args.drawop.now c.self.view_is c.in_ok-became.ensures.accepted) c.in_ok-learned.ensures.does)

pub returns-in_err-learned-clause-left : goal.returns-in_err-learned-clause-left
returns-in_err-learned-clause-left c = on_err _ (
    let line = performs (Arrives c.args.drawop.now) in
    let later = learned c.name-name.result c.is_asked-was_asked.result in
    left_as (takes c.args.drawop.now) (and_then line later) (learns (goal.at.returns-in_err-learned-clause-left c).After-learned) (left_later line later (arrived c.args.drawop.now c.self.view_is c.in_ok-became.ensures.accepted) c.in_err-learned.ensures.left))
