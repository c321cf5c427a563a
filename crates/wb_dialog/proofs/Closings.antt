-- A block is the text of what a line comes to, and the line that closes it.
use Rattle.std.proofs.Common.{◌≡◌, ℕ, List, ◌++◌, Option, Result, Ok, Err, ap, subst, ◌∙◌, append_assoc}
use Rattle.wb_dialog.proofs.Fronts.{begins_behind}
use Rattle.wb_dialog.specs.declared.fault.Refusal.{Refusal}
use Rattle.wb_dialog.specs.declared.fault.Unanswered.TheVariants as unanswered
use Rattle.wb_dialog.specs.declared.opened.Host.{Host as HostValue}
use Rattle.wb_dialog.specs.declared.told.Told.{Told}
use Rattle.wb_dialog.specs.Dialog.{ok_line}
use Rattle.wb_dialog.specs.Kinds.{Kind, Response, answers, rejects, kind_after, due_of}
use Rattle.wb_dialog.specs.Doing.{Adds, Leads, IsKindAt, Prints, Blocks}
use Rattle.wb_dialog.specs.Inside.Told.{Says}

-- ---- what is printed

-- The text was, and then the line that closes the block.
module _ {U E : Type 0} (before middle after text : List ℕ) (told : Told) (due : Option ℕ) (result : Result U E) where
  behind : (written : List ℕ) (r : Result U E) → Prints written r (ok_line due) → Prints (text ++ written) r (text ++ ok_line due)
  behind written (Ok u) p = ap (λ (x : List ℕ). text ++ x) p
  behind written (Err e) p = begins_behind text (ok_line due) written p

  pub closed : ((said : List ℕ) → Says told said → text ≡ said) → middle ≡ before ++ text → Adds middle after (λ written. Prints written result (ok_line due)) → Adds before after (λ written. (said : List ℕ) → Says told said → Prints written result (said ++ ok_line due))
  closed is first closing = (
    text ++ closing.0,
    closing.1 ∙ ap (λ (x : List ℕ). x ++ closing.0) first ∙ append_assoc before text closing.0,
    λ said says. subst (λ (x : List ℕ). Prints (text ++ closing.0) result (x ++ ok_line due)) (is said says) (behind closing.0 result closing.2),
  )

-- ---- of which host

-- A line did what it says, and its block was printed.
module _ {U E : Type 0} (new : Option HostValue) (written : List ℕ) (result : Result U E) where
  closes : (t : Kind) (text : List ℕ) (r : Result U E) → IsKindAt new t → Prints written r (text ++ ok_line (due_of t)) → Blocks new written r t (answers t text)
  closes t text (Ok u) at p = (at, p)
  closes t text (Err e) at p = p

  pub Blocks-closed : (s : Kind) (told : Told) (due : Option ℕ) (r : Response) → Leads s new (Ok told) r → ((t : Kind) → IsKindAt new t → due ≡ due_of t) → ((text : List ℕ) → Says told text → Prints written result (text ++ ok_line due))
      → Blocks new written result (kind_after s r) r
  Blocks-closed s told due (answers t text) does is prints =
      closes t text result does.0 (subst (λ (moment : Option ℕ). Prints written result (text ++ ok_line moment)) (is t does.0) (prints text does.1))
  Blocks-closed s told due (rejects e) does is prints = absurd does

-- A line was refused, and so is what it says.
pub Blocks-refused : {U E : Type 0} (s : Kind) (new new' : Option HostValue) (written : List ℕ) (f : Refusal) (result : Result U E) (r : Response) → Leads s new (Err (unanswered.Refused f)) r → (IsKindAt new s → Blocks new' written result s (rejects f)) → Blocks new' written result (kind_after s r) r
Blocks-refused s new new' written f result (answers t text) does blocks = absurd does
Blocks-refused s new new' written f result (rejects e) does blocks = subst (λ (x : Refusal). Blocks new' written result s (rejects x)) does.0 (blocks does.1)
