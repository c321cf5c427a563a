use Rattle.std.proofs.Common.{◌≡◌, ℕ, false, List, [], ◌∷◌, ◌∙◌, ap, length, refl, sym}
use Rattle.std.specs.Prelude.{nat_eq}
use Rattle.wb_names.specs.Values.{MarkValue}
use Rattle.wb_names.specs.declared.name.PageId.{PageId}
use Rattle.wb_member.specs.declared.calls.Call.TheVariants.{Hear}
use Rattle.wb_keeping.specs.Kept.{Line, performs, hears_some, Calls}
use Rattle.wb_keeping.specs.Performing.{sees}
use Rattle.wb_policy.specs.Policy.{Policy}
use Rattle.wb_keeping.specs.Views.{View}
use Rattle.wb_keeping.proofs.Performed.{quiet_as}
use Rattle.wb_codec.specs.declared.datagram.Datagram.TheVariants.{PageState}
use Rattle.wb_keeping.proofs.kept_member.KeptMember.hears_some.Goals as goal

some_marks : (sender : ℕ) (page : PageId) (marks : List MarkValue) (see : List Line → View) (p : Policy) → nat_eq (length marks) 0 ≡ false → hears_some sender page marks see p ≡ performs (Calls (Hear (PageState sender page marks))) see p
some_marks sender page [] see p e = absurd cc
some_marks sender page (m ∷ marks) see p e = refl

pub returns-clause-does : goal.returns-clause-does
returns-clause-does c =
    let marks = c.args.marks in
    let some : nat_eq (length marks) 0 ≡ false = ap (λ (ms : List MarkValue). nat_eq (length ms) 0) (sym c.as_slice.ensures.entries) ∙ sym c.is_empty.ensures ∙ c.if-is_empty.false in
    quiet_as (hears_some c.args.sender c.args.page marks) (performs (Calls (Hear (PageState c.args.sender c.args.page marks)))) (λ k at. some_marks c.args.sender c.args.page marks (sees k.host) k.policy some) c.in_ok-hear.ensures.does
