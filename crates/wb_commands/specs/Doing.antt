-- What the code does for a line at an open member, by what the line is to do.
use Rattle.std.specs.Prelude.{◌≡◌, List, ℕ, [], ◌++◌, Option, Some, None, Result, Ok, Err}
use Rattle.wb_lines.specs.Input.{BeginsWith}
use Rattle.wb_keeper.specs.declared.keep_fault.KeepFault.{KeepFault}
use Rattle.wb_keeper.specs.declared.keep_fault.KeepFault.TheVariants as keeping
use Rattle.wb_member.specs.Holding.{MemberValue, IsOpenAt}
use Rattle.wb_member.specs.Opened.{Opened}
use Rattle.wb_member.specs.Questions.{told}
use Rattle.wb_commands.specs.declared.fault.LineFault.TheVariants as faults
use Rattle.wb_commands.specs.declared.fault.Untaken.{Untaken}
use Rattle.wb_commands.specs.declared.fault.Untaken.TheVariants as untaken
use Rattle.wb_commands.specs.declared.told.Told.{Told}
use Rattle.wb_commands.specs.declared.told.Told.TheVariants.{Nothing, Done, Answer}
use Rattle.wb_commands.specs.Acts.{Act, does, fails}
use Rattle.wb_commands.specs.Answers.{answer_text}
use Rattle.wb_commands.specs.SentLines.{done_text}

-- the text of what a line comes to
abbrev pub Says : Told → List ℕ → Type 0
Says Nothing text = text ≡ []
Says (Done done) text = text ≡ done_text done.sent.items done.found
Says (Answer answer) text = answer_text (told answer) ≡ Some text

-- A question comes to this text; or it is refused, if it has none.
abbrev pub TellsAnswer : Result Told Untaken → Option (List ℕ) → Type 0
TellsAnswer (Ok said) (Some text) = Says said text
TellsAnswer (Ok said) None = ⊥
TellsAnswer (Err e) (Some text) = ⊥
TellsAnswer (Err e) None = e ≡ untaken.Line faults.TooMany

-- It does what a line is to do there, and answers what that is to print; it refuses the line, and stays; or memory ran out.
abbrev pub Comes : Opened → MemberValue → Result Told Untaken → Act → Type 0
Comes host new (Ok said) (does next text) = IsOpenAt new next × Says said text
Comes host new (Ok said) (fails e) = ⊥
Comes host new (Err (untaken.Line f)) (does next text) = ⊥
Comes host new (Err (untaken.Line f)) (fails e) = (f ≡ e) × IsOpenAt new host
Comes host new (Err untaken.Memory) a = Unit {0}

-- The same at each host at which a member was.
abbrev pub ComesFrom : MemberValue → MemberValue → Result Told Untaken → (Opened → Act) → Type 0
ComesFrom old new result act = (host : Opened) → IsOpenAt old host → Comes host new result (act host)

-- what is printed for a line
abbrev pub printed : Act → List ℕ
printed (does next text) = text
printed (fails e) = []

-- It does what a line is to do there, and prints its text; it refuses the line, and stays; or memory ran out within the text.
abbrev pub DoesAct : {U : Type 0} → Opened → MemberValue → List ℕ → Result U Untaken → Act → Type 0
DoesAct host new written (Ok u) (does next text) = IsOpenAt new next × (written ≡ text)
DoesAct host new written (Ok u) (fails e) = ⊥
DoesAct host new written (Err (untaken.Line f)) (does next text) = ⊥
DoesAct host new written (Err (untaken.Line f)) (fails e) = (f ≡ e) × IsOpenAt new host × (written ≡ [])
DoesAct host new written (Err untaken.Memory) a = BeginsWith (printed a) written

-- The same at each host at which a member was, of what is printed after a text that waits.
abbrev pub DoesAt : {U : Type 0} → MemberValue → MemberValue → List ℕ → List ℕ → Result U Untaken → (Opened → Act) → Type 0
DoesAt old new before after result act =
    (written : List ℕ) × (after ≡ before ++ written) × ((host : Opened) → IsOpenAt old host → DoesAct host new written result (act host))

-- why a line is not taken, if a member refuses it with a fault
abbrev pub untaken_by : KeepFault → Untaken
untaken_by keeping.BackInTime = untaken.Line faults.BackInTime
untaken_by keeping.Range = untaken.Line faults.Number
untaken_by keeping.TooMany = untaken.Line faults.TooMany
untaken_by keeping.Memory = untaken.Memory
