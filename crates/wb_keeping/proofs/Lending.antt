-- The lines that lend a delay for a line, as they are performed one after the other.
use Rattle.std.proofs.Common.{◌≡◌, ℕ, Bool, true, false, cond, List, [], ◌∷◌, ◌++◌, ◌∙◌, Option, Some, None, ap, refl, sym}
use Rattle.std.specs.Prelude.{nat_eq}
use Rattle.wb_names.specs.Values.{NameValue}
use Rattle.wb_codec.specs.declared.datagram.Datagram.TheVariants.{Request}
use Rattle.wb_recovery.specs.declared.limits.TheConstants.{UNKNOWN_DELAY}
use Rattle.wb_member.specs.declared.calls.Call.TheVariants.{Hear, SetDelay}
use Rattle.wb_keeping.specs.Kept.{Calls, Doing, Line, hears_request, lending, of_other, still}
use Rattle.wb_keeping.specs.Performing.{Keeping, sees, view_of}
use Rattle.wb_keeping.specs.Views.{holds}
use Rattle.wb_keeping.specs.Steps.{back_lines, lends_for, lent_at, set_lines}

-- what is lent is what the lines say
pub lent_is : (source delay usual : ℕ) (line : Line) → set_lines source (lent_at delay usual) ++ (line ∷ back_lines source (lent_at delay usual)) ≡ lending source delay usual line
lent_is source delay usual line = by (nat_eq delay UNKNOWN_DELAY) where
  given : Bool → Option ℕ
  given b = cond b (Some usual) None

  by : (b : Bool) → set_lines source (given b) ++ (line ∷ back_lines source (given b)) ≡ cond b (Calls (SetDelay source usual) ∷ line ∷ Calls (SetDelay source UNKNOWN_DELAY) ∷ []) (line ∷ [])
  by true = refl
  by false = refl

pub lends_as : (source delay usual : ℕ) (line : Line) (given : Option ℕ) → given ≡ lent_at delay usual → set_lines source given ++ (line ∷ back_lines source given) ≡ lending source delay usual line
lends_as source delay usual line given is = ap (λ (o : Option ℕ). set_lines source o ++ (line ∷ back_lines source o)) is ∙ lent_is source delay usual line

-- what is heard of a request of another
pub heard_so : (asker source : ℕ) (name : NameValue) (given : Option ℕ) (k : Keeping) → nat_eq asker k.host.is.number ≡ false → source ≡ cond (holds (view_of k.host) name) asker name.source
    → given ≡ lent_at ((view_of k.host).delay source) k.policy.usual
    → of_other asker (hears_request asker name) (sees k.host) k.policy ≡ lends_for source given (Calls (Hear (Request asker name))) (sees k.host) k.policy
heard_so asker source name given k other is lent =
    let line : Line = Calls (Hear (Request asker name)) in
    ap (λ (b : Bool). cond b (still (sees k.host) k.policy) (hears_request asker name (sees k.host) k.policy)) other
    ∙ ap (λ (lines : List Line). let d : Doing = record { policy = k.policy; lines = lines } in d)
    (sym (lends_as source ((view_of k.host).delay source) k.policy.usual line given lent ∙ ap (λ (s : ℕ). lending s ((view_of k.host).delay s) k.policy.usual line) is))
