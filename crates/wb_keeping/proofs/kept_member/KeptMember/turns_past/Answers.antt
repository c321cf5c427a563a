use Rattle.std.proofs.Common.{◌≡◌, ℕ, Bool, true, cond, ◌∙◌, ap, sym}
use Rattle.wb_keeping.specs.Kept.{still, turns_on, turns_past}
use Rattle.wb_keeping.specs.Performing.{sees, view_of}
use Rattle.wb_policy.specs.Policy.{Policy}
use Rattle.wb_policy.specs.Wanting.{passes_on, young_count}
use Rattle.wb_keeping.proofs.Performed.{at_inside, quiet_as}
use Rattle.wb_keeping.proofs.LeftSome.{on_err, left_as}
use Rattle.wb_member.specs.Opened.{present}
use Rattle.wb_keeping.proofs.kept_member.KeptMember.turns_past.Goals as goal

pub returns-clause-does : goal.returns-clause-does
returns-clause-does c = quiet_as turns_past (turns_on 65)
    (λ k at.
    let inside = at_inside k c.self.view_is at in
    let now : c.moment-now.result ≡ present k.host = c.moment-now.ensures.moment k.host inside.member in
    let asked = (view_of k.host).asked in
    let count : c.young_count.result ≡ young_count asked = c.young_count.ensures ∙ ap young_count (c.deref.ensures.value ∙ c.in_ok-asked.ensures k at) in
    let on : passes_on (young_count asked) k.policy.owed (present k.host) ≡ true =
    ap (λ (p : Policy). passes_on (young_count asked) p.owed (present k.host)) (sym inside.policy) ∙ ap (passes_on (young_count asked) c.self.inside.policy.owed) (sym now) ∙ ap (λ (n : ℕ). passes_on n c.self.inside.policy.owed c.moment-now.result) (sym count) ∙ sym c.if-not-passes_on.ensures in
    ap (λ (b : Bool). cond b (turns_on 65 (sees k.host) k.policy) (still (sees k.host) k.policy)) on)
    c.in_ok-turns_on.ensures.does

pub returns-in_err-turns_on-clause-left : goal.returns-in_err-turns_on-clause-left
returns-in_err-turns_on-clause-left c = on_err _ (left_as turns_past (turns_on 65)
    (λ k at.
    let inside = at_inside k c.self.view_is at in
    let now : c.moment-now.result ≡ present k.host = c.moment-now.ensures.moment k.host inside.member in
    let asked = (view_of k.host).asked in
    let count : c.young_count.result ≡ young_count asked = c.young_count.ensures ∙ ap young_count (c.deref.ensures.value ∙ c.in_ok-asked.ensures k at) in
    let on : passes_on (young_count asked) k.policy.owed (present k.host) ≡ true =
    ap (λ (p : Policy). passes_on (young_count asked) p.owed (present k.host)) (sym inside.policy) ∙ ap (passes_on (young_count asked) c.self.inside.policy.owed) (sym now) ∙ ap (λ (n : ℕ). passes_on n c.self.inside.policy.owed c.moment-now.result) (sym count) ∙ sym c.if-not-passes_on.ensures in
    ap (λ (b : Bool). cond b (turns_on 65 (sees k.host) k.policy) (still (sees k.host) k.policy)) on)
    c.in_err-turns_on.ensures.left)
