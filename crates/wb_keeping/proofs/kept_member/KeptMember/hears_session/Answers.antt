use Rattle.std.proofs.Common.{◌≡◌, ℕ, Bool, cond, List, ◌∙◌, ap, refl, sym}
use Rattle.std.specs.Prelude.{nat_lt}
use Rattle.wb_names.specs.Values.{NameValue}
use Rattle.wb_policy.specs.Choices.{own_marks, own_echo, told_names, echoed_delay}
use Rattle.wb_keeping.specs.Kept.{Transition, still, performs, and_then, want_told, measures, hears_session, of_other, Calls}
use Rattle.wb_keeping.specs.Performing.{IsKeptAt, Keeping, KeptValue, sees}
use Rattle.wb_policy.specs.Policy.{Policy}
use Rattle.wb_keeping.proofs.Performed.{at_inside, quiet_as, quiet_then}
use Rattle.wb_keeping.proofs.LeftSome.{on_err, left_as, left_first, left_later, left_none}
use Rattle.std.proofs.lemmas.Bool.{ne_eqb}
use Rattle.wb_member.specs.Opened.{present}
use Rattle.wb_member.specs.declared.calls.Call.TheVariants.{Hear}
use Rattle.wb_codec.specs.declared.datagram.Datagram.TheVariants.{Session}
use Rattle.wb_keeping.proofs.kept_member.KeptMember.hears_session.Goals as goal
use Rattle.wb_keeping.proofs.kept_member.KeptMember.hears_session.Goals.{After-hear}

-- what it does of a message of another, where the code has the marks and the echo that are heard
abbrev hearing : After-hear → Transition
hearing c = performs (Calls (Hear (Session c.args.sender c.args.sent c.args.page c.in_ok-own.own c.in_ok-echo.echo)))

abbrev measuring : After-hear → Transition
measuring c = measures c.args.sender c.echoed_delay-delay.result

abbrev whole : After-hear → Transition
whole c = of_other c.args.sender (hears_session c.args.sender c.args.sent c.args.page c.args.marks.now c.args.echoes.now)

parts : (c : After-hear) (names : List NameValue) → names ≡ told_names c.me-me.result c.args.page c.args.marks.now → (k : Keeping) → IsKeptAt c.args.self.now k
    → whole c (sees k.host) k.policy ≡ and_then (hearing c) (and_then (measuring c) (want_told names)) (sees k.host) k.policy
parts c names are k at =
    let marks = c.args.marks.now in
    let inside = at_inside k c.self.view_is at in
    let me = c.me-me.ensures k.host inside.member in
    let now = c.moment-now.ensures.moment k.host inside.member in
    let other = ne_eqb c.args.sender k.host.is.number (λ e. c.if-sender-me.false (e ∙ sym me)) in
    let listens = c.is_listening.ensures ∙ ap (λ (n : ℕ). nat_lt n c.self.inside.policy.ready) now ∙ ap (λ (p : Policy). nat_lt (present k.host) p.ready) inside.policy in
    let own = sym (c.in_ok-own.ensures ∙ ap (λ (m : ℕ). own_marks m c.is_listening.result marks) me ∙ ap (λ (b : Bool). own_marks k.host.is.number b marks) listens) in
    let told = sym (are ∙ ap (λ (m : ℕ). told_names m c.args.page marks) me) in
    let echo = sym (c.in_ok-echo.ensures ∙ ap (λ (m : ℕ). own_echo m c.args.echoes.now) me) in
    let away = sym (c.echoed_delay-delay.ensures ∙ ap (λ (n : ℕ). echoed_delay n c.as_slice.result.now) now ∙ ap (echoed_delay (present k.host)) (c.as_slice.ensures.entries ∙ sym echo)) in
    ap (λ (b : Bool). cond b (still (sees k.host) k.policy) (hears_session c.args.sender c.args.sent c.args.page marks c.args.echoes.now (sees k.host) k.policy)) other
    ∙ (λ i. and_then (performs (Calls (Hear (Session c.args.sender c.args.sent c.args.page (own i) (echo i))))) (and_then (measures c.args.sender (away i)) (want_told (told i))) (sees k.host) k.policy)

pub returns-clause-does : goal.returns-clause-does
returns-clause-does c =
    let here = (goal.at.returns-clause-does c).After-hear in
    let third = want_told c.deref.result.now in
    quiet_as (whole here) (and_then (hearing here) (and_then (measuring here) third)) (parts here c.deref.result.now (c.deref.ensures.value ∙ c.in_ok-told.ensures))
    (quiet_then (hearing here) (and_then (measuring here) third) c.in_ok-hear.ensures.does
    (quiet_then (measuring here) third c.in_ok-measures.ensures.does c.in_ok-want_told.ensures.does))

pub returns-in_err-hear-clause-left : goal.returns-in_err-hear-clause-left
returns-in_err-hear-clause-left c = on_err _ (left_none (of_other c.args.sender (hears_session c.args.sender c.args.sent c.args.page c.args.marks.now c.args.echoes.now)) (ap (λ (v : KeptValue). v.member) c.in_err-hear.ensures.err))

pub returns-in_err-measures-clause-left : goal.returns-in_err-measures-clause-left
returns-in_err-measures-clause-left c = on_err _ (
    let here = (goal.at.returns-in_err-measures-clause-left c).After-hear in
    let names = told_names c.me-me.result c.args.page c.args.marks.now in
    let third = want_told names in
    left_as (whole here) (and_then (hearing here) (and_then (measuring here) third)) (parts here names refl)
    (left_later (hearing here) (and_then (measuring here) third) c.in_ok-hear.ensures.does (left_first (measuring here) third c.in_err-measures.ensures.left)))

pub returns-in_err-told-clause-left : goal.returns-in_err-told-clause-left
returns-in_err-told-clause-left c = on_err _ (
    let here = (goal.at.returns-in_err-told-clause-left c).After-hear in
    let names = told_names c.me-me.result c.args.page c.args.marks.now in
    let third = want_told names in
    left_as (whole here) (and_then (hearing here) (and_then (measuring here) third)) (parts here names refl)
    (left_later (hearing here) (and_then (measuring here) third) c.in_ok-hear.ensures.does (left_later (measuring here) third c.in_ok-measures.ensures.does (left_none third refl))))

pub returns-in_err-want_told-clause-left : goal.returns-in_err-want_told-clause-left
returns-in_err-want_told-clause-left c = on_err _ (
    let here = (goal.at.returns-in_err-want_told-clause-left c).After-hear in
    let third = want_told c.deref.result.now in
    left_as (whole here) (and_then (hearing here) (and_then (measuring here) third)) (parts here c.deref.result.now (c.deref.ensures.value ∙ c.in_ok-told.ensures))
    (left_later (hearing here) (and_then (measuring here) third) c.in_ok-hear.ensures.does
    (left_later (measuring here) third c.in_ok-measures.ensures.does c.in_err-want_told.ensures.left)))
