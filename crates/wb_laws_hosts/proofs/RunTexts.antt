-- What one thread prints for a script in which each arrival is a batch of its own is what a host prints, without the lines that close its blocks.
use Rattle.std.proofs.Common.{◌≡◌, ℕ, ◌+◌, ◌-◌, Bool, true, false, cond, List, [], ◌∷◌, ◌++◌, length, take, Result, Ok, Err, refl, sym, ap, subst, ◌∙◌, append_assoc, append-nil, arith}
use Rattle.std.specs.Prelude.{Option, Some, None, nat_le, nat_lt, ◌&&◌, ◌||◌, not, if◌then◌else◌}
use Rattle.std.proofs.lemmas.List.{nil_from_length}
use Rattle.std.proofs.Math.Seq.{take-append_seam}
use Rattle.wb_names.specs.Values.{DrawopValue}
use Rattle.wb_lines.specs.Input.{InputLine, input_lines, content, most_bytes}
use Rattle.wb_lines.specs.Handling.{whole, too_long}
use Rattle.wb_lines.specs.Taking.{met, is_short, is_taken}
use Rattle.wb_commands.specs.declared.fault.LineFault.{LineFault}
use Rattle.wb_script.specs.declared.fault.RunFault.{RunFault}
use Rattle.wb_script.specs.declared.fault.RunFault.TheVariants as run_faults
use Rattle.wb_commands.specs.declared.command.Command.{Command}
use Rattle.wb_commands.specs.declared.command.Command.TheVariants as lines
use Rattle.wb_script.specs.declared.running.Summary.{Summary}
use Rattle.wb_member.specs.Opened.{Opened, becomes, board_of}
use Rattle.wb_script.specs.Hosts.{taken, batch_text, script_constants}
use Rattle.wb_commands.specs.Acts.{Act, does, fails, act}
use Rattle.wb_commands.specs.Parsing.{script_line_of}
use Rattle.wb_script.specs.Reordering.{part_unless, batches_with, batches_of}
use Rattle.wb_script.specs.Script.{RunState as Board, run_start, closing_text, after_batch, Part, Arrival, part_of, RunStep, moves_on, refused, step_by, part_step, said_step, RunOutcome, prints, printed_before, finish, follow_step, continue, most_lines, run_outcome_from, IsOutcome}
use Rattle.wb_dialog.specs.declared.line.DriverLine.TheVariants.{Script}
use Rattle.wb_dialog.specs.Dialog.{State, Answer, gives, answered, batch_of, arrives, answer_to, answer_of, block, state_after, blocks_from, answered_lines, answer, due}
use Rattle.wb_laws_hosts.specs.RunLaws.{ArriveAlone, IsWithoutOks, blocks_of, IsRunOut, RunIsWithoutOks, RefusedIsWithoutOks}
use Rattle.wb_dialog.proofs.DrivenHosts.{AreGiven, blocks_given}
use Rattle.wb_script.proofs.Telling.{taken_alone}
use Rattle.wb_laws_hosts.proofs.LoneArrivals.{Waits, step_waits, Batches, HasOne, has_batch, Fits, fits_all, fits_after, none_before, alone_is_one_order}
use Rattle.wb_dialog.proofs.ScriptLines.{script_lines_are_read}
use Rattle.std.proofs.lemmas.Bool.{or_right}
use Rattle.std.specs.Cmp.{second_so}

-- what the end of the present batch prints
abbrev pub closing : Board → List ℕ
closing s = closing_text s s.waiting

-- the host once the present batch has ended
abbrev host_of : Board → Option Opened
host_of s = (after_batch s s.waiting).host

-- A host that took each arrival as it came.
abbrev beside : Board → State
beside s = record { tuning = script_constants; host = host_of s }

abbrev pub board : Option ℕ → Option Opened → List DrawopValue → Board
board k host waiting = record { host = host; workers = k; waiting = waiting }

-- ---- one line

-- A step of a script does as the answer of such a host: it prints the same, but that a batch prints at its end.
abbrev DoesAs : Board → Answer → RunStep → Type 0
DoesAs s a (moves_on t text) = (printed : List ℕ) × (a ≡ gives (host_of t) printed) × (text ++ closing t ≡ closing s ++ printed)
DoesAs s a (refused t text e) = text ++ closing t ≡ closing s

arrives_as : (k : Option ℕ) (host : Opened) (d : DrawopValue) → DoesAs (board k (Some host) []) (arrives d host) (moves_on (board k (Some host) (d ∷ [])) [])
arrives_as k host d = (batch_of (becomes d host), ap (λ (next : Opened). gives (Some next) (batch_of (becomes d host))) (sym (taken_alone d host)), refl)

acts_as : (k : Option ℕ) (s : Board) (a : Act) (host : Opened) → DoesAs s (answered a) (step_by k (closing s) a host)
acts_as k s (does next printed) host = (printed, refl, append-nil (closing s ++ printed))
acts_as k s (fails e) host = append-nil (closing s)

-- by the host, and the arrivals that wait
line_as : (k : Option ℕ) (host : Option Opened) (waiting : List DrawopValue) (line : Command) → ((d : DrawopValue) → part_of (Ok line) ≡ Arrival d → waiting ≡ []) → DoesAs (board k host waiting) (answer_to script_constants (host_of (board k host waiting)) (Script line)) (said_step (board k host waiting) waiting (Ok line))
line_as k None waiting lines.Skip none = ([], refl, refl)
line_as k None waiting (lines.Board member cells workers seed) none = ([], refl, refl)
line_as k None waiting line none = refl
line_as k (Some host) waiting lines.Skip none = ([], refl, sym (append-nil (closing (board k (Some host) waiting))))
line_as k (Some host) waiting (lines.Board member cells workers seed) none = append-nil (closing (board k (Some host) waiting))
line_as k (Some host) waiting (lines.Arrive d) none =
    subst (λ (w : List DrawopValue). DoesAs (board k (Some host) w) (arrives d (taken w host)) (moves_on (board k (Some host) (w ++ d ∷ [])) [])) (sym (none d refl)) (arrives_as k host d)
line_as k (Some host) waiting line none = let next = taken waiting host in acts_as k (board k (Some host) waiting) (act line next) next

-- what a host answers to a line that is not too long, and that a script takes
pub answer_is : (s : State) (line : InputLine) (said : Command) → is_short line ≡ true → script_line_of (content line) ≡ Ok said → answer_of s (met line) ≡ answer_to s.tuning s.host (Script said)
answer_is s line said short is =
    ap (λ (t : Bool). answer_of s (if t then whole line else too_long)) short
    ∙ ap (answer s.tuning s.host) (script_lines_are_read (content line) said is)

-- ---- all lines

-- Behind the end of the present batch, a text is what the blocks of lines print, of which none is refused.
abbrev Follows : Board → List InputLine → List ℕ → Type 0
Follows s lines text = (rest : List ℕ) × (text ≡ closing s ++ rest) × IsWithoutOks (blocks_from (beside s) lines) rest × AreGiven (beside s) lines

-- At the end of the lines, a text is what the blocks of all that are answered print; where a line is refused, what those before it print.
abbrev Agrees : Bool → ℕ → Board → List InputLine → RunOutcome → Type 0
Agrees cut n s lines (prints text (Ok summary)) = Follows s (answered_lines cut lines) text
Agrees cut n s lines (prints text (Err run_faults.Read)) = Follows s (answered_lines cut lines) text
Agrees cut n s lines (prints text (Err (run_faults.Line number e))) = (front : List InputLine) × (behind : List InputLine) × (lines ≡ front ++ behind) × (number ≡ n + length front + 1) × Follows s front text
Agrees cut n s lines (prints text (Err run_faults.Write)) = Unit {0}
Agrees cut n s lines (prints text (Err run_faults.Memory)) = Unit {0}
Agrees cut n s lines (prints text (Err run_faults.Start)) = Unit {0}
Agrees cut n s lines (prints text (Err run_faults.Endless)) = Unit {0}

module _ (s t : Board) (line : InputLine) (x printed : List ℕ) (is : answer_of (beside s) (met line) ≡ gives (host_of t) printed) (shift : x ++ closing t ≡ closing s ++ printed) where
  follows_on : (lines : List InputLine) (text : List ℕ) → Follows t lines text → Follows s (line ∷ lines) (x ++ text)
  follows_on lines text f = (
    printed ++ f.0,
    ap (λ (l : List ℕ). x ++ l) f.1 ∙ sym (append_assoc x (closing t) f.0) ∙ ap (λ (l : List ℕ). l ++ f.0) shift ∙ append_assoc (closing s) printed f.0,
    (printed, f.0, due (host_of t), ap block is, refl, subst (λ (a : Answer). IsWithoutOks (blocks_from (state_after (beside s) a) lines) f.0) (sym is) f.2),
    ((host_of t, printed, is), subst (λ (a : Answer). AreGiven (state_after (beside s) a) lines) (sym is) f.3),
  )

  all_follow : (cut : Bool) (lines : List InputLine) (text : List ℕ) → is_taken cut line ≡ true → Follows t (answered_lines cut lines) text → Follows s (answered_lines cut (line ∷ lines)) (x ++ text)
  all_follow cut lines text taken f = subst (λ (b : Bool). Follows s (if b then line ∷ answered_lines cut lines else []) (x ++ text)) (sym taken) (follows_on (answered_lines cut lines) text f)

  agrees_on : (cut : Bool) (n : ℕ) (lines : List InputLine) (o : RunOutcome) → is_taken cut line ≡ true → Agrees cut (n + 1) t lines o → Agrees cut n s (line ∷ lines) (printed_before x o)
  agrees_on cut n lines (prints text (Ok summary)) taken f = all_follow cut lines text taken f
  agrees_on cut n lines (prints text (Err run_faults.Read)) taken f = all_follow cut lines text taken f
  agrees_on cut n lines (prints text (Err (run_faults.Line number e))) taken f = (
    line ∷ f.0,
    f.1,
    ap (λ (l : List InputLine). line ∷ l) f.2,
    let many = f.3 in omega arith,
    follows_on f.0 text f.4,
  )
  agrees_on cut n lines (prints text (Err run_faults.Write)) taken f = tt
  agrees_on cut n lines (prints text (Err run_faults.Memory)) taken f = tt
  agrees_on cut n lines (prints text (Err run_faults.Start)) taken f = tt
  agrees_on cut n lines (prints text (Err run_faults.Endless)) taken f = tt

-- nothing more is printed at the end of a batch that has ended
pub closing_again : (s : Board) → closing s ++ closing (after_batch s s.waiting) ≡ closing s
closing_again s = at s.host where
  at : (host : Option Opened) → closing (board s.workers host s.waiting) ++ closing (after_batch (board s.workers host s.waiting) s.waiting) ≡ closing (board s.workers host s.waiting)
  at None = refl
  at (Some host) = append-nil (batch_text (board_of host) s.waiting)

refused_here : (cut : Bool) (n : ℕ) (s t : Board) (lines : List InputLine) (text : List ℕ) (e : LineFault) → text ++ closing t ≡ closing s → Agrees cut n s lines (printed_before text (finish t t.waiting (Err (run_faults.Line (n + 1) e))))
refused_here cut n s t lines text e shift = ([], lines, refl, omega arith, ([], shift ∙ sym (append-nil (closing s)), refl, tt))

none_follows : (s : Board) → Follows s [] (closing s)
none_follows s = ([], sym (append-nil (closing s)), refl, tt)

step_agrees : (cut : Bool) (n : ℕ) (s : Board) (line : InputLine) (lines : List InputLine) (step : RunStep) (rest : Board → RunOutcome) → is_taken cut line ≡ true → DoesAs s (answer_of (beside s) (met line)) step
    → ((t : Board) (text : List ℕ) → step ≡ moves_on t text → Agrees cut (n + 1) t lines (rest t)) → Agrees cut n s (line ∷ lines) (follow_step (n + 1) step rest)
step_agrees cut n s line lines (moves_on t text) rest taken alike on = agrees_on s t line text alike.0 alike.1 alike.2 cut n lines (rest t) taken (on t text refl)
step_agrees cut n s line lines (refused t text e) rest taken alike on = refused_here cut n s t (line ∷ lines) text e alike

pub neither : (short complete : Bool) → short ≡ true → complete ≡ false → (not short || complete) ≡ false
neither true complete is off = off
neither false complete is off = absurd cc

module _ (cut : Bool) (n : ℕ) (s : Board) (line : InputLine) (lines : List InputLine) (batches : Batches) (some : HasOne batches) (rest : Board → RunOutcome)
    (on : (t : Board) → Fits (length t.waiting) batches → Agrees cut (n + 1) t lines (rest t)) where
  takes : (said : Result Command LineFault) → script_line_of (content line) ≡ said → is_short line ≡ true → is_taken cut line ≡ true → Fits (length s.waiting) (batches_with (Some (part_of said)) (content line) batches)
      → Agrees cut n s (line ∷ lines) (follow_step (n + 1) (said_step s s.waiting said) rest)
  takes (Err e) is short taken fit = refused_here cut n s (after_batch s s.waiting) (line ∷ lines) (closing s) e (closing_again s)
  takes (Ok said) is short taken fit =
      let part : Part = part_of (Ok said) in
      let none : (d : DrawopValue) → part ≡ Arrival d → s.waiting ≡ [] = λ d arrival. nil_from_length s.waiting (none_before d (content line) (length s.waiting) batches some (subst (λ p. Fits (length s.waiting) (batches_with (Some p) (content line) batches)) arrival fit)) in
      step_agrees cut n s line lines (part_step s s.waiting part) rest taken
      (subst (λ (a : Answer). DoesAs s a (part_step s s.waiting part)) (sym (answer_is (beside s) line said short is)) (line_as s.workers s.host s.waiting said none))
      (λ t text to. on t (subst (λ (m : ℕ). Fits m batches) (sym (subst (Waits part (length s.waiting)) to (step_waits s part))) (fits_after (Some part) (content line) (length s.waiting) batches some fit)))

  agrees_line : (within complete : Bool) → (nat_lt n most_lines && nat_le (length line.bytes) most_bytes) ≡ within → (line.ended || not cut) ≡ complete
      → Fits (length s.waiting) (batches_with (part_unless (cond within (cond complete None (Some run_faults.Read)) (Some run_faults.Endless)) line) (content line) batches)
      → Agrees cut n s (line ∷ lines) (continue (cond within (cond complete None (Some run_faults.Read)) (Some run_faults.Endless)) (n + 1) s (content line) rest)
  agrees_line true true few is fit =
      takes (script_line_of (content line)) refl (second_so (nat_lt n most_lines) (is_short line) few) (or_right (not (is_short line)) (line.ended || not cut) is) fit
  agrees_line true false few is fit =
      let left : is_taken cut line ≡ false = neither (is_short line) (line.ended || not cut) (second_so (nat_lt n most_lines) (is_short line) few) is in
      subst (λ (b : Bool). Follows s (if b then line ∷ answered_lines cut lines else []) (closing s)) (sym left) (none_follows s)
  agrees_line false complete few is fit = tt

at_end : (cut : Bool) (n : ℕ) (s : Board) → Agrees cut n s [] (finish s s.waiting (cond cut (Err run_faults.Read) (Ok n)))
at_end true n s = none_follows s
at_end false n s = none_follows s

agrees : (cut : Bool) (n : ℕ) (s : Board) (lines : List InputLine) → Fits (length s.waiting) (batches_of content cut n lines) → Agrees cut n s lines (run_outcome_from cut n s lines)
agrees cut n s [] fit = at_end cut n s
agrees cut n s (line ∷ lines) fit =
    agrees_line cut n s line lines (batches_of content cut (n + 1) lines) (has_batch cut (n + 1) lines) (λ t. run_outcome_from cut (n + 1) t lines) (λ t fit. agrees cut (n + 1) t lines fit)
    (nat_lt n most_lines && nat_le (length line.bytes) most_bytes) (line.ended || not cut) refl refl fit

-- ---- whole scripts

-- what a host prints for lines that are not refused, from before its board is open
printed_whole : (lines : List InputLine) (text : List ℕ) → IsWithoutOks (blocks_from (beside (run_start None)) lines) text → AreGiven (beside (run_start None)) lines → IsWithoutOks (blocks_of lines) text
printed_whole lines text printed given = subst (λ (blocks : List (List ℕ)). IsWithoutOks blocks text) (blocks_given script_constants lines given) printed

-- whatever the number of workers
ran : (workers : Option ℕ) (cut : Bool) (input : List ℕ) (o : RunOutcome) → ArriveAlone cut input → IsOutcome workers cut input o → Agrees cut 0 (run_start workers) (input_lines input) o
ran workers cut input o alone h =
    let lines : List InputLine = input_lines input in
    subst (Agrees cut 0 (run_start workers) lines) (sym (alone_is_one_order workers cut input o alone h)) (agrees cut 0 (run_start workers) lines (fits_all (batches_of content cut 0 lines) (has_batch cut 0 lines) alone))

all_printed : (cut : Bool) (s : Board) (lines : List InputLine) (text : List ℕ) (end : Result Summary RunFault) → IsRunOut end → Agrees cut 0 s lines (prints text end) → Follows s (answered_lines cut lines) text
all_printed cut s lines text (Ok summary) out f = f
all_printed cut s lines text (Err run_faults.Read) out f = f
all_printed cut s lines text (Err run_faults.Write) out f = absurd out
all_printed cut s lines text (Err run_faults.Memory) out f = absurd out
all_printed cut s lines text (Err run_faults.Start) out f = absurd out
all_printed cut s lines text (Err run_faults.Endless) out f = absurd out
all_printed cut s lines text (Err (run_faults.Line number e)) out f = absurd out

pub run_is_without_oks : RunIsWithoutOks
run_is_without_oks workers cut input text end out alone h =
    let lines : List InputLine = input_lines input in
    let follows = all_printed cut (run_start workers) lines text end out (ran workers cut input (prints text end) alone h) in
    subst (IsWithoutOks (blocks_of (answered_lines cut lines))) (sym follows.1) (printed_whole (answered_lines cut lines) follows.0 follows.2 follows.3)

pub refused_is_without_oks : RefusedIsWithoutOks
refused_is_without_oks workers cut input text number fault alone h =
    let at = ran workers cut input (prints text (Err (run_faults.Line number fault))) alone h in
    let many : number ≡ 0 + length at.0 + 1 = at.3 in
    let count : number - 1 ≡ length at.0 = omega arith in
    let front : take (number - 1) (input_lines input) ≡ at.0 = ap (λ (k : ℕ). take k (input_lines input)) count ∙ ap (take (length at.0)) at.2 ∙ take-append_seam at.0 at.1 in
    let follows = at.4 in
    subst (λ (l : List InputLine). IsWithoutOks (blocks_of l) text) (sym front) (subst (IsWithoutOks (blocks_of at.0)) (sym follows.1) (printed_whole at.0 follows.0 follows.2 follows.3))
