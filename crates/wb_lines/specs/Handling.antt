-- What a handler of lines is handed, and what it does with it.
use Rattle.std.specs.Prelude.{◌≡◌, ℕ, List, Result, Ok, Err}
use Rattle.wb_lines.specs.declared.handler.Stop.{Stop}
use Rattle.wb_lines.specs.declared.handler.Stop.TheVariants.{Fault, Endless, Memory}
use Rattle.wb_lines.specs.Input.{InputLine, BeginsWith}

-- A line as it stands in the input, or one that is too long.
pub data Met : Type 0 where
  whole : InputLine → Met
  too_long : Met

-- What a handler in a state of S does. It goes on, with a text and the state after it; or it stops after a text, with a fault of F in the line; or it ends after a text, and takes no more.
pub data Step (S F : Type 0) : Type 0 where
  goes : List ℕ → S → Step S F
  stops : List ℕ → F → Step S F
  ends : List ℕ → Step S F

abbrev pub step_text : {S F : Type 0} → Step S F → List ℕ
step_text (goes text next) = text
step_text (stops text e) = text
step_text (ends text) = text

-- What the code did for a step, if it is at some states afterwards: all of the step; or memory ran out, and it printed a front of the text.
abbrev pub Does : {S F U : Type 0} → (S → Type 0) → List ℕ → Result U (Stop F) → Step S F → Type 0
Does is_at printed (Ok u) (goes text next) = (printed ≡ text) × is_at next
Does is_at printed (Err (Fault f)) (stops text e) = (printed ≡ text) × (f ≡ e)
Does is_at printed (Err Endless) (ends text) = printed ≡ text
Does is_at printed (Err Memory) step = BeginsWith (step_text step) printed
Does is_at printed answer step = ⊥
