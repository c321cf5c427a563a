-- No drawing is refused since no number is left for it.
use Rattle.std.proofs.Common.{◌≡◌, ◌≤◌, ◌<◌, ◌∙◌, ℕ, Bool, true, false, cond, List, [], ◌∷◌, Option, Some, None, Result, Ok, Err, ap, arith, refl, subst, sym}
use Rattle.std.specs.Prelude.{nat_le, nat_lt, not}
use Rattle.std.specs.Option.{option_map}
use Rattle.std.proofs.lemmas.Bool.Decides.{nat_tests}
use Rattle.wb_names.specs.Drawing.{op_fault}
use Rattle.wb_names.specs.Faults.{fault_unless, first_of}
use Rattle.wb_names.specs.declared.fault.FieldFault.{FieldFault}
use Rattle.wb_codec.specs.declared.datagram.Datagram.TheVariants as datagrams
use Rattle.wb_recovery.specs.declared.tuning.Tuning.{Tuning}
use Rattle.wb_keeper.specs.declared.keep_fault.KeepFault.{KeepFault}
use Rattle.wb_keeper.specs.declared.keep_fault.KeepFault.TheVariants.{BackInTime, Memory}
use Rattle.wb_member.specs.Calls.{fault_of as call_fault}
use Rattle.wb_member.specs.Board.{Held}
use Rattle.wb_member.specs.Opened.{Opened, last_number, present, ticked}
use Rattle.wb_member.specs.Questions.{answer_to}
use Rattle.wb_member.specs.declared.calls.Call.TheVariants as calls
use Rattle.wb_member.proofs.KeptBoards.{calls_keep_boards}
use Rattle.wb_keeping.specs.Kept.{Line, Says, Transition, drawing, Calls}
use Rattle.wb_keeping.specs.Laws.{Added, Came as CameIn, KeptLine, Ticked, doing_of, fault_of}
use Rattle.wb_keeping.specs.Performing.{Keeping, after_line, after_lines, sees, view_of}
use Rattle.wb_keeping.specs.declared.kept_fault.KeptFault.{KeptFault}
use Rattle.wb_keeping.specs.declared.kept_fault.KeptFault.TheVariants as kept_faults
use Rattle.wb_keeping.proofs.Unlocked.{IsBounded, bounded_kept, bounded_line, bounded_open, number_left}
use Rattle.wb_lines.specs.Input.{InputLine}
use Rattle.wb_lines.specs.Taking.{met}
use Rattle.wb_commands.specs.Acts.{does, tells, unless}
use Rattle.wb_commands.specs.Answers.{answer_text}
use Rattle.wb_commands.specs.SentLines.{call_text}
use Rattle.wb_commands.specs.declared.command.Command.{Command}
use Rattle.wb_commands.specs.declared.command.Command.TheVariants as lines
use Rattle.wb_commands.specs.declared.fault.LineFault.TheVariants as faults
use Rattle.wb_dialog.specs.declared.fault.Refusal.{Refusal}
use Rattle.wb_dialog.specs.declared.fault.Refusal.TheVariants as refusals
use Rattle.wb_dialog.specs.declared.line.DriverLine.{DriverLine}
use Rattle.wb_dialog.specs.declared.line.DriverLine.TheVariants.{Script, Say, Keep, Came, Add}
use Rattle.wb_dialog.specs.Dialog.{Answer, answer_at, answered, gives, refuses, says_line}
use Rattle.wb_dialog.specs.Boards.{BoardValue}
use Rattle.wb_dialog.specs.Hosting.{Driven, Host, Hosting, Kept, Reply, as_driven, denies, host_after, hosting_after, hosting_from, is_acting, keep_reply, kept_does, kept_reply, kept_shows, reply, reply_of, reply_to, board_after, taken_reply, unopened}
use Rattle.wb_dialog.specs.KeptLaws.{AddIsNotTooMany}
use Rattle.wb_board.specs.Counts.{MAX_CELLS}

-- a host that may become self-managing, or is, on a board of at most 65,535 cells
abbrev MayCount : Opened → Type 0
MayCount host = host.is.cells ≤ MAX_CELLS → IsBounded host

abbrev Counts : Option Host → Type 0
Counts None = Unit {0}
Counts (Some (Driven host None)) = Unit {0}
Counts (Some (Driven host (Some board))) = MayCount host
Counts (Some (Kept k)) = MayCount k.host

-- ---- cells stay

cells_line : (line : Line) (host : Opened) → (after_line line host).is.cells ≡ host.is.cells
cells_line (Calls call) host = ap (λ (board : Held). board.cells) (calls_keep_boards call host).board
cells_line (Says (datagrams.Draw d)) host = refl
cells_line line host = refl

cells_lines : (ls : List Line) (host : Opened) → (after_lines ls host).is.cells ≡ host.is.cells
cells_lines [] host = refl
cells_lines (line ∷ ls) host = cells_lines ls (after_line line host) ∙ cells_line line host

-- ---- a self-managing host

does_count : (line : KeptLine) (text : List ℕ) (k : Keeping) (fault : Option KeptFault) → fault ≡ fault_of line k → MayCount k.host → Counts (host_after (Some (Kept k)) (kept_does fault (doing_of line) text k))
does_count line text k (Some f) e counts = counts
does_count line text k None e counts = λ few.
    bounded_kept line k (sym e) (counts (subst (λ (n : ℕ). n ≤ MAX_CELLS) (cells_lines (doing_of line (sees k.host) k.policy).lines k.host) few))

shows_count : (k : Keeping) (a : Answer) → MayCount k.host → Counts (host_after (Some (Kept k)) (kept_shows k a))
shows_count k (gives next text) counts = counts
shows_count k (refuses e) counts = counts

kept_counts : (line : DriverLine) (k : Keeping) → MayCount k.host → Counts (host_after (Some (Kept k)) (kept_reply line k))
kept_counts (Script (lines.Call (calls.Tick now))) k counts = does_count (Ticked now) [] k _ refl counts
kept_counts (Script (lines.Call (calls.Tune constants))) k counts = λ few. bounded_line (Calls (calls.Tune constants)) k.host (counts few) tt
kept_counts (Came now v) k counts = does_count (CameIn now v) _ k _ refl counts
kept_counts (Add a) k counts = does_count (Added a.moment a.page a.time a.op) _ k _ refl counts
kept_counts (Script (lines.Question query)) k counts = shows_count k (answer_at (Script (lines.Question query)) k.host) counts
kept_counts line k counts = counts

-- ---- a host that its driver drives

no_board : (host : Opened) (a : Answer) → Counts (host_after (Some (Driven host None)) (as_driven None a))
no_board host (gives None text) = tt
no_board host (gives (Some next) text) = tt
no_board host (refuses e) = tt

-- it may not become self-managing any more
acted : (host : Opened) (board : Option BoardValue) (a : Answer) → Counts (Some (Driven host board)) → Counts (host_after (Some (Driven host board)) (as_driven None a))
acted host board (gives None text) counts = tt
acted host board (gives (Some next) text) counts = tt
acted host board (refuses e) counts = counts

ticks_count : (now : ℕ) (board : BoardValue) (host : Opened) → MayCount host → Counts (host_after (Some (Driven host (Some board))) (as_driven (Some board) (answer_at (Script (lines.Call (calls.Tick now))) host)))
ticks_count now board host counts = by (call_fault (calls.Tick now) host) where
  ticked_too : MayCount (ticked now host)
  ticked_too few = bounded_line (Calls (calls.Tick now)) host (counts few) tt

  by : (fault : Option KeepFault) → Counts (host_after (Some (Driven host (Some board))) (as_driven (Some board) (answered (unless fault (does (ticked now host) (call_text (calls.Tick now) host))))))
  by None = ticked_too
  by (Some Memory) = ticked_too
  by (Some e) = counts

asks_count : (board : BoardValue) (host : Opened) (text : Option (List ℕ)) → MayCount host → Counts (host_after (Some (Driven host (Some board))) (as_driven (Some board) (answered (tells host text))))
asks_count board host None counts = counts
asks_count board host (Some text) counts = counts

either_board : (b : Bool) (board : Option BoardValue) → cond b board board ≡ board
either_board true board = refl
either_board false board = refl

script_counts : (line : Command) (host : Opened) (board : BoardValue) → MayCount host → Counts (host_after (Some (Driven host (Some board))) (as_driven (board_after (Script line) (Some board)) (answer_at (Script line) host)))
script_counts (lines.Call (calls.Tick now)) host board counts = ticks_count now board host counts
script_counts (lines.Question query) host board counts = asks_count board host (answer_text (answer_to query host)) counts
script_counts lines.Skip host board counts = counts
script_counts (lines.Board member cells workers s) host board counts = counts
script_counts line host board counts = acted host (Some board) (answer_at (Script line) host) counts

driven_counts : (line : DriverLine) (host : Opened) (board : Option BoardValue) → Counts (Some (Driven host board)) → Counts (host_after (Some (Driven host board)) (as_driven (board_after line board) (answer_at line host)))
driven_counts line host None counts = subst (λ (b : Option BoardValue). Counts (host_after (Some (Driven host None)) (as_driven b (answer_at line host)))) (sym (either_board (is_acting line) None)) (no_board host (answer_at line host))
driven_counts (Script line) host (Some board) counts = script_counts line host board counts
driven_counts (Say v) host (Some board) counts = acted host (Some board) (answer_at (Say v) host) counts
driven_counts (Keep rate listen) host (Some board) counts = acted host (Some board) (answer_at (Keep rate listen) host) counts
driven_counts line host (Some board) counts = counts

-- ---- the first line

opened_counts : (tuning : Tuning) (line : DriverLine) → Counts (host_after None (taken_reply tuning None line))
opened_counts tuning (Script (lines.Board member cells workers seed)) = λ few. bounded_open tuning member cells seed few
opened_counts tuning line = tt

-- ---- lines

keeps_counting : (rate listen : ℕ) (h : Option Host) → Counts h → Counts (host_after h (keep_reply rate listen h))
keeps_counting rate listen None counts = tt
keeps_counting rate listen (Some (Driven host None)) counts = tt
keeps_counting rate listen (Some (Driven host (Some board))) counts = counts
keeps_counting rate listen (Some (Kept k)) counts = counts

taken_counts : (tuning : Tuning) (h : Option Host) (line : DriverLine) → Counts h → Counts (host_after h (taken_reply tuning h line))
taken_counts tuning None line counts = opened_counts tuning line
taken_counts tuning (Some (Driven host board)) line counts = driven_counts line host board counts
taken_counts tuning (Some (Kept k)) line counts = kept_counts line k counts

line_counts : (tuning : Tuning) (h : Option Host) (line : DriverLine) → Counts h → Counts (host_after h (reply_to tuning h line))
line_counts tuning h (Keep rate listen) counts = keeps_counting rate listen h counts
line_counts tuning h line counts = taken_counts tuning h line counts

said_counts : (tuning : Tuning) (h : Option Host) (said : Result DriverLine Refusal) → Counts h → Counts (host_after h (reply tuning h said))
said_counts tuning h (Ok line) counts = line_counts tuning h line counts
said_counts tuning h (Err e) counts = counts

all_count : (s : Hosting) (before : List InputLine) → Counts s.host → Counts (hosting_from s before).host
all_count s [] counts = counts
all_count s (line ∷ before) counts = all_count (hosting_after s (reply_of s (met line))) before (said_counts s.tuning s.host (says_line (met line)) counts)

-- ---- a drawing

abbrev IsTooMany : Reply → Type 0
IsTooMany (denies (refusals.Line faults.TooMany)) = Unit {0}
IsTooMany r = ⊥

-- of the faults of a drawing, only the want of numbers is that
by_fault : (past waits : Bool) (left : Bool) (fault : Option FieldFault) (act : Transition) (text : List ℕ) (k : Keeping) → left ≡ true
    → IsTooMany (kept_does (first_of (first_of (fault_unless past (kept_faults.Host BackInTime) ∷ fault_unless (not waits) kept_faults.Listening ∷ []) ∷ first_of (fault_unless left kept_faults.Numbers ∷ option_map kept_faults.Operation fault ∷ []) ∷ [])) act text k) → ⊥
by_fault true false true None act text k e many = many
by_fault true false true (Some f) act text k e many = many
by_fault true true true fault act text k e many = many
by_fault false waits true fault act text k e many = many
by_fault past waits false fault act text k e many = absurd cc

pub add_is_not_too_many : AddIsNotTooMany
add_is_not_too_many tuning before adding k is few many =
    let counts = subst Counts is (all_count (unopened tuning) before tt) in
    let bounded = counts few in
    let left = number_left adding.page k.host bounded in
    let room = bounded.room in
    by_fault (nat_le (present k.host) adding.moment) (nat_lt adding.moment k.policy.ready) (nat_lt (last_number adding.page k.host) 4294967295) (op_fault (drawing (view_of k.host) adding.page adding.time adding.op).name adding.op) _ _ k (less (last_number adding.page k.host) (omega (arith, left, room, few))) (subst IsTooMany (sym many) tt) where
      less : (n : ℕ) → n < 4294967295 → nat_lt n 4294967295 ≡ true
      less n lt = grind (arith, nat_tests)
