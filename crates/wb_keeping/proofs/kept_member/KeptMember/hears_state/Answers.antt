use Rattle.std.proofs.Common.{◌≡◌, ℕ, Bool, cond, List, ◌∙◌, ap, refl, sym}
use Rattle.std.specs.Prelude.{nat_lt}
use Rattle.wb_names.specs.Values.{NameValue}
use Rattle.wb_policy.specs.Choices.{own_marks, told_names}
use Rattle.wb_keeping.specs.Kept.{Transition, still, and_then, want_told, hears_some, hears_state, of_other}
use Rattle.wb_keeping.specs.Performing.{IsKeptAt, Keeping, KeptValue, sees}
use Rattle.wb_policy.specs.Policy.{Policy, after_state}
use Rattle.wb_keeping.proofs.Performed.{at_inside, quiet_by, quiet_then}
use Rattle.wb_keeping.proofs.LeftSome.{on_err, left_by, left_later, left_none}
use Rattle.std.proofs.lemmas.Bool.{ne_eqb}
use Rattle.wb_member.specs.Opened.{present}
use Rattle.wb_keeping.proofs.kept_member.KeptMember.hears_state.Goals as goal
use Rattle.wb_keeping.proofs.kept_member.KeptMember.hears_state.Goals.{After-hears_some}

-- what it does of a state of another, where the code has the marks that are heard
abbrev hearing : After-hears_some → Transition
hearing c = hears_some c.args.sender c.args.page c.in_ok-own.own

abbrev whole : After-hears_some → Transition
whole c = of_other c.args.sender (hears_state c.args.sender c.args.page c.args.marks.now)

parts : (c : After-hears_some) (names : List NameValue) → names ≡ told_names c.me-me.result c.args.page c.args.marks.now → (k : Keeping) → IsKeptAt c.args.self.now k
    → (p : Policy) × (c.hear_state.new.self ≡ p) × (whole c (sees k.host) k.policy ≡ and_then (hearing c) (want_told names) (sees k.host) p)
parts c names are k at =
    let marks = c.args.marks.now in
    let inside = at_inside k c.self.view_is at in
    let me = c.me-me.ensures k.host inside.member in
    let now = c.moment-now.ensures.moment k.host inside.member in
    let p = after_state (present k.host) k.policy in
    let other = ne_eqb c.args.sender k.host.is.number (λ e. c.if-sender-me.false (e ∙ sym me)) in
    let listens = c.is_listening.ensures ∙ ap (λ (n : ℕ). nat_lt n c.self.inside.policy.ready) now ∙ ap (λ (p : Policy). nat_lt (present k.host) p.ready) inside.policy in
    let own = sym (c.in_ok-own.ensures ∙ ap (λ (m : ℕ). own_marks m c.is_listening.result marks) me ∙ ap (λ (b : Bool). own_marks k.host.is.number b marks) listens) in
    let told = sym (are ∙ ap (λ (m : ℕ). told_names m c.args.page marks) me) in (
      p,
      c.hear_state.ensures ∙ ap (λ (n : ℕ). after_state n c.self.inside.policy) now ∙ ap (after_state (present k.host)) inside.policy,
      ap (λ (b : Bool). cond b (still (sees k.host) k.policy) (hears_state c.args.sender c.args.page marks (sees k.host) k.policy)) other
          ∙ (λ i. and_then (hears_some c.args.sender c.args.page (own i)) (want_told (told i)) (sees k.host) p),
    )

pub returns-clause-does : goal.returns-clause-does
returns-clause-does c =
    let here = (goal.at.returns-clause-does c).After-hears_some in
    let second = want_told c.deref.result.now in
    quiet_by (whole here) (and_then (hearing here) second) (parts here c.deref.result.now (c.deref.ensures.value ∙ c.in_ok-told.ensures))
    (ap (λ (v : KeptValue). v.member) c.self.view_is) (quiet_then (hearing here) second c.in_ok-hears_some.ensures.does c.in_ok-want_told.ensures.does)

pub returns-in_err-told-clause-left : goal.returns-in_err-told-clause-left
returns-in_err-told-clause-left c = on_err _ (
    let here = (goal.at.returns-in_err-told-clause-left c).After-hears_some in
    let names = told_names c.me-me.result c.args.page c.args.marks.now in
    let second = want_told names in
    left_by (whole here) (and_then (hearing here) second) (parts here names refl)
    (ap (λ (v : KeptValue). v.member) c.self.view_is) (left_later (hearing here) second c.in_ok-hears_some.ensures.does (left_none second refl)))

pub returns-in_err-want_told-clause-left : goal.returns-in_err-want_told-clause-left
returns-in_err-want_told-clause-left c = on_err _ (
    let here = (goal.at.returns-in_err-want_told-clause-left c).After-hears_some in
    let second = want_told c.deref.result.now in
    left_by (whole here) (and_then (hearing here) second) (parts here c.deref.result.now (c.deref.ensures.value ∙ c.in_ok-told.ensures))
    (ap (λ (v : KeptValue). v.member) c.self.view_is) (left_later (hearing here) second c.in_ok-hears_some.ensures.does c.in_err-want_told.ensures.left))
