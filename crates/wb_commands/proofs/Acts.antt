-- What a host does and then is, from what its member answered, and what is printed of it.
use Rattle.std.proofs.Common.{◌≡◌, ℕ, List, [], ◌++◌, Option, Some, None, Result, Ok, Err, refl, sym, subst, ap, ◌∙◌, append-nil}
use Rattle.wb_keeper.specs.KeepFaults.{IsKeptBy}
use Rattle.wb_keeper.specs.declared.keep_fault.KeepFault.{KeepFault}
use Rattle.wb_keeper.specs.declared.keep_fault.KeepFault.TheVariants as keeping
use Rattle.wb_member.specs.Holding.{IsOpenAt, MemberValue}
use Rattle.wb_member.specs.Opened.{Opened}
use Rattle.wb_member.specs.Questions.{Told as Answered, answer_to, told}
use Rattle.wb_member.specs.declared.questions.Answer.{Answer}
use Rattle.wb_member.specs.declared.questions.Answer.TheVariants as answers
use Rattle.wb_member.specs.declared.questions.Query.{Query}
use Rattle.wb_commands.specs.declared.fault.LineFault.{LineFault}
use Rattle.wb_commands.specs.declared.fault.LineFault.TheVariants as faults
use Rattle.wb_commands.specs.declared.fault.Untaken.{Untaken}
use Rattle.wb_commands.specs.declared.fault.Untaken.TheVariants as untaken
use Rattle.wb_commands.specs.declared.told.Told.{Told}
use Rattle.wb_commands.specs.declared.told.Told.TheVariants as tolds
use Rattle.wb_commands.specs.Answers.{answer_text}
use Rattle.wb_commands.specs.Doing.{Comes, ComesFrom, DoesAct, DoesAt, Says, TellsAnswer, untaken_by, printed}
use Rattle.wb_commands.specs.Acts.{Act, question_act, does, fails, tells, unless}

-- ---- a question

-- an answer that tells no number has a text
pub told_answer : (a : Answer) → ((number : Option ℕ) → a ≡ answers.Next number → ⊥) → TellsAnswer (Ok (tolds.Answer a)) (answer_text (told a))
told_answer (answers.Next number) other = absurd (other number refl)
told_answer a other = refl

pub asked : (old new : MemberValue) (query : Query) (said : Answered) (result : Result Told Untaken) → new ≡ old → ((host : Opened) → IsOpenAt old host → said ≡ answer_to query host) → TellsAnswer result (answer_text said) → ComesFrom old new result (question_act query)
asked old new query said result same is reply host at =
    subst (λ (t : Answered). Comes host new result (tells host (answer_text t))) (is host at) (by result (answer_text said) reply) where
      by : (r : Result Told Untaken) (text : Option (List ℕ)) → TellsAnswer r text → Comes host new r (tells host text)
      by (Ok t) (Some text) says = (subst (λ (m : MemberValue). IsOpenAt m host) (sym same) at, says)
      by (Ok t) None says = absurd says
      by (Err e) (Some text) says = absurd says
      by (Err e) None says =
          subst (λ (f : Untaken). Comes host new (Err f) (fails faults.TooMany)) (sym says) (refl, subst (λ (m : MemberValue). IsOpenAt m host) (sym same) at)

-- ---- a call that a member may refuse

-- why it was refused
err_is : {X : Type 0} (f g : KeepFault) → (let r : Result X KeepFault = Err f in r) ≡ Err g → f ≡ g
err_is f g e = cc

-- the call ended only because an allocation failed
memory_alone : (host : Opened) (new : MemberValue) (a : Act) (f : KeepFault) → f ≡ keeping.Memory → Comes host new (Err (untaken_by f)) a
memory_alone host new a f is = subst (λ (g : KeepFault). Comes host new (Err (untaken_by g)) a) (sym is) tt

-- it was refused with the fault of the call, or an allocation failed
pub call_refused : {X : Type 0} (v w : MemberValue) (host : Opened) (fault : Option KeepFault) (a : Act) (r : Result X KeepFault) (f : KeepFault) → r ≡ Err f → IsKeptBy fault r → w ≡ v → IsOpenAt v host → Comes host w (Err (untaken_by f)) (unless fault a)
call_refused {X = X} v w host fault a r f is kept same at = by fault (subst (IsKeptBy fault) is kept) where
  refused_so : (g : KeepFault) (e : LineFault) → untaken_by g ≡ untaken.Line e → (let r : Result X KeepFault = Err f in r) ≡ Err g → Comes host w (Err (untaken_by f)) (fails e)
  refused_so g e faulted k = subst (λ (u : Untaken). Comes host w (Err u) (fails e)) (sym (ap untaken_by (err_is f g k) ∙ faulted)) (refl, subst (λ (m : MemberValue). IsOpenAt m host) (sym same) at)

  by : (fault : Option KeepFault) → IsKeptBy {X = X} fault (Err f) → Comes host w (Err (untaken_by f)) (unless fault a)
  by None k = memory_alone host w a f k
  by (Some keeping.BackInTime) k = refused_so keeping.BackInTime faults.BackInTime refl k
  by (Some keeping.Range) k = refused_so keeping.Range faults.Number refl k
  by (Some keeping.TooMany) k = refused_so keeping.TooMany faults.TooMany refl k
  by (Some keeping.Memory) k = memory_alone host w a f (err_is f keeping.Memory k)

-- ---- what is printed of it

-- Nothing is printed of a line that is not done.
not_done : (host : Opened) (new : MemberValue) (e : Untaken) (a : Act) → Comes host new (Err e) a → DoesAct {U = Unit {0}} host new [] (Err e) a
not_done host new (untaken.Line f) (does next text) comes = absurd comes
not_done host new (untaken.Line f) (fails e) comes = (comes.0, comes.1, refl)
not_done host new untaken.Memory a comes = (printed a, refl)

pub unprinted : (old new : MemberValue) (before : List ℕ) (e : Untaken) (act : Opened → Act) → ComesFrom old new (Err e) act → DoesAt {U = Unit {0}} old new before before (Err e) act
unprinted old new before e act comes = ([], sym (append-nil before), λ host at. not_done host new e (act host) (comes host at))

-- What it comes to was printed.
module _ (old new : MemberValue) (before after written : List ℕ) (said : Told) (is_text : (text : List ℕ) → Says said text → written ≡ text) where
  printed_at : (host : Opened) (a : Act) → Comes host new (Ok said) a → DoesAct {U = Unit {0}} host new written (Ok tt) a
  printed_at host (does next text) comes = (comes.0, is_text text comes.1)
  printed_at host (fails e) comes = absurd comes

  pub prints : (act : Opened → Act) → ComesFrom old new (Ok said) act → after ≡ before ++ written → DoesAt {U = Unit {0}} old new before after (Ok tt) act
  prints act comes is = (written, is, λ host at. printed_at host (act host) (comes host at))

-- Memory ran out before it was.
pub forgets : (old new : MemberValue) (before after : List ℕ) (act : Opened → Act) → after ≡ before → DoesAt {U = Unit {0}} old new before after (Err untaken.Memory) act
forgets old new before after act same = ([], same ∙ sym (append-nil before), λ host at. (printed (act host), refl))
