-- Which calls of a member its policy makes.
use Rattle.std.proofs.Common.{◌≡◌, ℕ, List, [], ◌∷◌, subst, ⊎_elim}
use Rattle.std.specs.Prelude.{Contains}
use Rattle.wb_names.proofs.Listings.{Contains-cases, Contains-none}
use Rattle.wb_codec.specs.declared.datagram.Datagram.TheVariants.{Draw}
use Rattle.wb_member.specs.Lines.{IsOfPolicy}
use Rattle.wb_member.specs.declared.calls.Call.{Call}
use Rattle.wb_member.specs.declared.calls.Call.TheVariants.{Tick}
use Rattle.wb_keeping.specs.Kept.{Arrives, Calls, Line, Says, drawing, drew, ends_full, hears, timed}
use Rattle.wb_keeping.specs.Laws.{Added, CallsAreOfPolicies, Came, KeptLine, Ticked, Tuned, doing_of, expand}
use Rattle.wb_keeping.specs.Performing.{Keeping, after_doing, sees}
use Rattle.wb_keeping.proofs.EachLine.{DoesEach, Each, OfPolicy, each_both, ends_each, hears_each, then_each, timed_each}

-- if it is a call, a policy makes it
abbrev IsMade : Line → Type 0
IsMade (Arrives d) = Unit {0}
IsMade (Says v) = Unit {0}
IsMade (Calls call) = IsOfPolicy call

of_policy : OfPolicy IsMade
of_policy = record {
  asks = λ name. tt;
  stops = λ name. tt;
  sets = λ source micros. tt;
  states = λ v page. tt;
  asks_pages = λ asker. tt;
  reports = λ sender sent page marks echoes. tt;
}

timed_made : DoesEach IsMade timed
timed_made = timed_each IsMade of_policy

does_made : (line : KeptLine) → DoesEach IsMade (doing_of line)
does_made (Came now v) see p = (tt, then_each IsMade (hears v) timed (hears_each IsMade of_policy (λ v. tt) v (λ d is. tt)) timed_made (λ (lines : List Line). see (Calls (Tick now) ∷ lines)) p)
does_made (Ticked now) see p = (tt, timed_made (λ (lines : List Line). see (Calls (Tick now) ∷ lines)) p)
does_made (Added now page time op) see p =
    let d = drawing (see (Calls (Tick now) ∷ [])) page time op in
    (tt, (tt, then_each IsMade ends_full timed (ends_each IsMade of_policy) timed_made (λ (lines : List Line). see (Calls (Tick now) ∷ (Says (Draw d) ∷ lines))) (drew d (see (Calls (Tick now) ∷ [])) p)))
does_made (Tuned constants) see p = (tt, tt)

all_made : (lines : List KeptLine) (k : Keeping) → Each IsMade (expand lines k)
all_made [] k = tt
all_made (line ∷ lines) k =
    let next = after_doing (doing_of line) k in
    each_both IsMade (doing_of line (sees k.host) k.policy).lines (expand lines next) (does_made line (sees k.host) k.policy) (all_made lines next)

made_in : (lines : List Line) (call : Call) → Each IsMade lines → Contains lines (Calls call) → IsOfPolicy call
made_in [] call each c = absurd (Contains-none (Calls call) c)
made_in (line ∷ lines) call each c = ⊎_elim
    (λ (is : line ≡ Calls call). subst IsMade is each.0)
    (λ (later : Contains lines (Calls call)). made_in lines call each.1 later)
    (Contains-cases line (Calls call) lines c)

pub calls_are_of_policies : CallsAreOfPolicies
calls_are_of_policies lines k call c = made_in (expand lines k) call (all_made lines k) c
