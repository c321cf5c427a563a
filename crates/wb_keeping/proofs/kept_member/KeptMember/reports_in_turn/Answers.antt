use Rattle.std.proofs.Common.{◌≡◌, true, false, List, [], ◌∷◌, ◌∙◌, ap, arith, length, refl, sym}
use Rattle.std.specs.Prelude.{nat_eq}
use Rattle.wb_names.specs.Values.{MarkValue}
use Rattle.wb_gaps.specs.Answers.{report_of}
use Rattle.wb_keeping.specs.Kept.{Line, reports_in_turn, reports_next, reports_turn, reports_rest}
use Rattle.wb_keeping.specs.Performing.{KeptValue, sees}
use Rattle.wb_policy.specs.Policy.{Policy}
use Rattle.wb_keeping.specs.Views.{View}
use Rattle.wb_policy.specs.Reports.{rest_after}
use Rattle.wb_policy.specs.declared.reports.Told.{Told}
use Rattle.wb_keeping.proofs.LeftSome.{left_as, left_none, left_of, on_err}
use Rattle.wb_keeping.proofs.Performed.{at_inside}
use Rattle.std.proofs.lemmas.Bool.Decides.{nat_tests}
use Rattle.wb_keeping.proofs.kept_member.KeptMember.reports_in_turn.Goals as goal

rest_told : (marks : List MarkValue) (see : List Line → View) (p : Policy) → nat_eq (length marks) 0 ≡ false → reports_rest marks see p ≡ reports_turn p.told.page p.told.until marks see p
rest_told [] see p e = absurd cc
rest_told (m ∷ marks) see p e = refl

none_left : (marks : List MarkValue) (see : List Line → View) (p : Policy) → nat_eq (length marks) 0 ≡ true → reports_rest marks see p ≡ reports_next see p
none_left [] see p e = refl
none_left (m ∷ marks) see p e = let no : ⊥ = grind (arith, nat_tests, e) in absurd no

pub returns-in_err-rest-clause-left : goal.returns-in_err-rest-clause-left
returns-in_err-rest-clause-left c = on_err _ (left_none reports_in_turn (ap (λ (v : KeptValue). v.member) c.rest.ensures.same))

pub returns-in_err-reports_turn-clause-left : goal.returns-in_err-reports_turn-clause-left
returns-in_err-reports_turn-clause-left c = on_err _ (
    let rest = c.in_ok-rest.rest in
    let t = c.told-told.result in
    let some : nat_eq (length rest) 0 ≡ false = ap (λ (ms : List MarkValue). nat_eq (length ms) 0) (sym c.as_slice.ensures.entries) ∙ sym c.is_empty.ensures ∙ grind (arith, c.if-is_empty.false) in
    left_as reports_in_turn (reports_turn t.page t.until rest) (λ k at.
    let inside = at_inside k c.self.view_is at in
    let told : t ≡ k.policy.told = c.told-told.ensures ∙ ap (λ (p : Policy). p.told) inside.policy in
    let is : rest ≡ rest_after k.policy.told.until k.policy.told.last (report_of k.host.is.held k.policy.told.page) = c.in_ok-rest.ensures.rest k at in
    ap (λ (ms : List MarkValue). reports_rest ms (sees k.host) k.policy) (sym is)
    ∙ rest_told rest (sees k.host) k.policy some
    ∙ ap (λ (u : Told). reports_turn u.page u.until rest (sees k.host) k.policy) (sym told)) (left_of c.rest.ensures.same c.in_err-reports_turn.ensures.left))

pub returns-in_err-reports_next-clause-left : goal.returns-in_err-reports_next-clause-left
returns-in_err-reports_next-clause-left c = on_err _ (
    let rest = c.in_ok-rest.rest in
    let none : nat_eq (length rest) 0 ≡ true = ap (λ (ms : List MarkValue). nat_eq (length ms) 0) (sym c.as_slice.ensures.entries) ∙ sym c.is_empty.ensures ∙ grind (arith, c.if-is_empty.true) in
    left_as reports_in_turn reports_next (λ k at.
    let is : rest ≡ rest_after k.policy.told.until k.policy.told.last (report_of k.host.is.held k.policy.told.page) = c.in_ok-rest.ensures.rest k at in
    ap (λ (ms : List MarkValue). reports_rest ms (sees k.host) k.policy) (sym is) ∙ none_left rest (sees k.host) k.policy none)
    (left_of c.rest.ensures.same c.in_err-reports_next.ensures.left))
