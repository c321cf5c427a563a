-- A host that its driver drives, beside one that may become self-managing: for lines of which none says `keep`, and for lines
-- that are not refused, they print the same.
use Rattle.std.proofs.Common.{◌≡◌, ℕ, List, [], ◌∷◌, ◌++◌, Result, Ok, Err, refl, sym, ap, subst, ◌∙◌}
use Rattle.std.specs.Prelude.{Bool, true, false, Option, Some, None, All, if◌then◌else◌}
use Rattle.std.specs.List.{concat}
use Rattle.std.proofs.lemmas.List.Elements.{All-head, All-tail}
use Rattle.wb_recovery.specs.declared.tuning.Tuning.{Tuning}
use Rattle.wb_member.specs.Opened.{Opened}
use Rattle.wb_lines.specs.Input.{InputLine, input_lines}
use Rattle.wb_lines.specs.Taking.{met, is_taken}
use Rattle.wb_dialog.specs.declared.fault.Refusal.{Refusal}
use Rattle.wb_dialog.specs.declared.line.DriverLine.{DriverLine}
use Rattle.wb_dialog.specs.declared.line.DriverLine.TheVariants.{Keep}
use Rattle.wb_dialog.specs.Boards.{BoardValue}
use Rattle.wb_dialog.specs.Dialog as plain
use Rattle.wb_dialog.specs.Dialog.{Answer, gives, refuses, answer, answer_of, block, says_line, answered_lines}
use Rattle.wb_dialog.specs.Hosting as hosting
use Rattle.wb_dialog.specs.Hosting.{Reply, as_driven, driven_host, reply, reply_of, block_of, board_after, board_in}
use Rattle.wb_dialog.specs.Laws.{BeginsNoKeep, DrivenAsBefore}

-- ---- one line

-- the host that its driver drives, with some board
abbrev pub with_board : Option BoardValue → plain.State → hosting.Hosting
with_board board s = record { tuning = s.tuning; host = driven_host board s.host }

-- It answers as before, and keeps some board.
abbrev AnswersAs : plain.State → Option BoardValue → Result DriverLine Refusal → Type 0
AnswersAs s board said = (later : Option BoardValue) × (reply s.tuning (driven_host board s.host) said ≡ as_driven later (answer s.tuning s.host said))

by_line : (tuning : Tuning) (host : Option Opened) (board : Option BoardValue) (line : DriverLine) → BeginsNoKeep (Ok line) → AnswersAs (record { tuning = tuning; host = host }) board (Ok line)
by_line tuning host board (Keep rate listen) plainly = absurd plainly
by_line tuning None board line plainly = (board_in line, refl)
by_line tuning (Some host) board line plainly = (board_after line board, refl)

answers_as : (s : plain.State) (board : Option BoardValue) (said : Result DriverLine Refusal) → BeginsNoKeep said → AnswersAs s board said
answers_as s board (Ok line) plainly = by_line s.tuning s.host board line plainly
answers_as s board (Err e) plainly = (board, refl)

-- ---- blocks

due_same : (board : Option BoardValue) (host : Option Opened) → hosting.due_at (driven_host board host) ≡ plain.due host
due_same board None = refl
due_same board (Some host) = refl

block_same : (board : Option BoardValue) (a : Answer) → block_of (as_driven board a) ≡ block a
block_same board (gives host text) = ap (λ (moment : Option ℕ). text ++ plain.ok_line moment) (due_same board host)
block_same board (refuses e) = refl

-- a host after a line is such a one
abbrev IsWithBoard : plain.State → hosting.Hosting → Type 0
IsWithBoard s h = (board : Option BoardValue) × (h ≡ with_board board s)

after_same : (s : plain.State) (board later : Option BoardValue) (a : Answer) → IsWithBoard (plain.state_after s a) (hosting.hosting_after (with_board board s) (as_driven later a))
after_same s board later (gives host text) = (later, refl)
after_same s board later (refuses e) = (board, refl)

abbrev NoneBegins : List InputLine → Type 0
NoneBegins [] = Unit {0}
NoneBegins (line ∷ lines) = BeginsNoKeep (says_line (met line)) × NoneBegins lines

blocks_same : (s : plain.State) (h : hosting.Hosting) (lines : List InputLine) → IsWithBoard s h → NoneBegins lines → hosting.blocks_from h lines ≡ plain.blocks_from s lines
blocks_same s h [] at plainly = refl
blocks_same s h (line ∷ lines) at plainly =
    let h' : hosting.Hosting = with_board at.0 s in
    let said = says_line (met line) in
    let it = answers_as s at.0 said plainly.0 in
    let a : Answer = answer_of s (met line) in
    let one : block_of (reply_of h' (met line)) ≡ block a = ap block_of it.1 ∙ block_same it.0 a in
    let next : IsWithBoard (plain.state_after s a) (hosting.hosting_after h' (reply_of h' (met line))) =
    subst (λ (r : Reply). IsWithBoard (plain.state_after s a) (hosting.hosting_after h' r)) (sym it.1) (after_same s at.0 it.0 a) in
    let rest = blocks_same (plain.state_after s a) (hosting.hosting_after h' (reply_of h' (met line))) lines next plainly.1 in
    ap (λ (t : hosting.Hosting). hosting.blocks_from t (line ∷ lines)) at.1
    ∙ ap (λ (b : List ℕ). b ∷ hosting.blocks_from (hosting.hosting_after h' (reply_of h' (met line))) lines) one
    ∙ ap (λ (blocks : List (List ℕ)). block a ∷ blocks) rest

-- ---- lines that are not refused

abbrev pub AreGiven : plain.State → List InputLine → Type 0
AreGiven s [] = Unit {0}
AreGiven s (line ∷ lines) = ((host : Option Opened) × (text : List ℕ) × (answer_of s (met line) ≡ gives host text)) × AreGiven (plain.state_after s (answer_of s (met line))) lines

-- `keep` is refused at a host that its driver drives.
no_keep : (s : plain.State) (said : Result DriverLine Refusal) (host : Option Opened) (text : List ℕ) → answer s.tuning s.host said ≡ gives host text → BeginsNoKeep said
no_keep s (Ok (Keep rate listen)) host text given = at s.host given where
  at : (h : Option Opened) → answer s.tuning h (Ok (Keep rate listen)) ≡ gives host text → ⊥
  at None given = absurd cc
  at (Some h) given = absurd cc
no_keep s said host text given = tt

none_begins : (s : plain.State) (lines : List InputLine) → AreGiven s lines → NoneBegins lines
none_begins s [] given = tt
none_begins s (line ∷ lines) given = (no_keep s (says_line (met line)) given.0.0 given.0.1 given.0.2, none_begins (plain.state_after s (answer_of s (met line))) lines given.1)

pub blocks_given : (tuning : Tuning) (lines : List InputLine) → AreGiven (plain.unopened tuning) lines → plain.blocks_from (plain.unopened tuning) lines ≡ hosting.blocks_from (hosting.unopened tuning) lines
blocks_given tuning lines given = sym (blocks_same (plain.unopened tuning) (hosting.unopened tuning) lines (None, refl) (none_begins (plain.unopened tuning) lines given))

-- ---- whole inputs

each_none : (lines : List InputLine) → All (λ line. BeginsNoKeep (says_line (met line))) lines → NoneBegins lines
each_none [] plainly = tt
each_none (line ∷ lines) plainly = (All-head (λ line. BeginsNoKeep (says_line (met line))) line lines plainly, each_none lines (All-tail (λ line. BeginsNoKeep (says_line (met line))) line lines plainly))

answered_none : (cut : Bool) (lines : List InputLine) → NoneBegins lines → NoneBegins (answered_lines cut lines)
answered_none cut [] plainly = tt
answered_none cut (line ∷ lines) plainly = at (answered_none cut lines plainly.1) (is_taken cut line) where
  at : NoneBegins (answered_lines cut lines) → (b : Bool) → NoneBegins (if b then line ∷ answered_lines cut lines else [])
  at rest true = (plainly.0, rest)
  at rest false = tt

pub driven_as_before : DrivenAsBefore
driven_as_before tuning cut input plainly =
    ap concat (blocks_same (plain.unopened tuning) (hosting.unopened tuning) (answered_lines cut (input_lines input)) (None, refl) (answered_none cut (input_lines input) (each_none (input_lines input) plainly)))
