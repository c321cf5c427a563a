-- What a driven or a self-managing host does for a line, by what its member did.
use Rattle.std.proofs.Common.{◌≡◌, ℕ, List, ◌++◌, Option, Some, None, Result, Ok, Err, Vec, Global, refl, sym, ap, subst, ◌∙◌}
use Rattle.std.specs.Prelude.{IsTrue, is_some}
use Rattle.wb_codec.specs.declared.datagram.Datagram.{Datagram}
use Rattle.wb_keeper.specs.declared.keep_fault.KeepFault.TheVariants as keep_faults
use Rattle.wb_member.specs.Holding.{IsOpenAt, MemberValue}
use Rattle.wb_member.specs.Opened.{Opened, present}
use Rattle.wb_keeping.specs.Kept.{Transition}
use Rattle.wb_keeping.specs.Performing.{IsKeptAt, Keeping, KeptValue, after_doing, sent_by_doing}
use Rattle.wb_policy.specs.Policy.{begun}
use Rattle.wb_keeping.specs.Refusing.{IsRefusedBy}
use Rattle.wb_keeping.specs.declared.kept_fault.KeptFault.{KeptFault}
use Rattle.wb_keeping.specs.declared.kept_fault.KeptFault.TheVariants as kept_faults
use Rattle.wb_member.specs.Questions.{Told as Answered, answer_to}
use Rattle.wb_member.specs.declared.questions.Query.{Query}
use Rattle.wb_commands.specs.Acts as acts
use Rattle.wb_commands.specs.Acts.{Act, tells}
use Rattle.wb_commands.specs.Answers.{answer_text}
use Rattle.wb_commands.specs.Doing.{Comes, ComesFrom, TellsAnswer}
use Rattle.wb_commands.specs.SentLines.{sends_text}
use Rattle.wb_commands.specs.declared.fault.LineFault.TheVariants as line_faults
use Rattle.wb_commands.specs.declared.fault.Untaken.{Untaken}
use Rattle.wb_commands.specs.declared.fault.Untaken.TheVariants as untaken
use Rattle.wb_commands.specs.declared.told.Told.{Told as MemberTold}
use Rattle.wb_dialog.specs.declared.fault.Refusal.TheVariants as refusals
use Rattle.wb_dialog.specs.declared.line.DriverLine.{DriverLine}
use Rattle.wb_dialog.specs.declared.fault.Unanswered.{Unanswered}
use Rattle.wb_dialog.specs.declared.fault.Unanswered.TheVariants as unanswered
use Rattle.wb_dialog.specs.declared.opened.Host.TheVariants as values
use Rattle.wb_dialog.specs.declared.told.Batch.{Batch}
use Rattle.wb_dialog.specs.declared.told.Told.{Told}
use Rattle.wb_dialog.specs.declared.told.Told.TheVariants as tolds
use Rattle.wb_dialog.specs.Dialog.{Answer, gives, refuses, answer_at, answered}
use Rattle.wb_dialog.specs.Lines.{asks, unanswered_by}
use Rattle.wb_dialog.specs.Boards.{BoardValue}
use Rattle.wb_dialog.specs.Hosting.{Host, Driven, Kept, denies, as_driven, board_after, keep_reply, kept_does, kept_refusal, kept_reply, kept_shows, taken_by, timed_target}
use Rattle.wb_dialog.specs.Doing.{DoesAnswer, DoesAt, DoesKept, DoesReply, IsHostAt, board_by, unanswered_of}
use Rattle.wb_dialog.specs.Inside.Told.{batch_text}

-- ---- a call of a self-managing member

abbrev fault_in : {X : Type 0} → KeptFault → Result X KeptFault → KeptFault
fault_in f (Ok x) = f
fault_in f (Err e) = e

module _ (X : Type 0) (old new : KeptValue) (k : Keeping) (does : Transition) (text : List ℕ) where
  -- It was refused, and the line is.
  pub refuses_line : (fault : Option KeptFault) (e : KeptFault) → IsRefusedBy {X = X} fault (Err e) → (IsTrue (is_some fault) → new ≡ old) → IsKeptAt old k
      → DoesReply (Some (Kept k)) (Some (values.Kept new)) (Err (unanswered_of timed_target e)) (kept_does fault does text k)
  refuses_line (Some f) e is same at = by e f (ap (fault_in {X = X} f) is) where
    stays : IsKeptAt new k
    stays = subst (λ (v : KeptValue). IsKeptAt v k) (sym (same refl)) at

    itself : (e : KeptFault) → DoesReply (Some (Kept k)) (Some (values.Kept new)) (Err (unanswered_of timed_target e)) (denies (kept_refusal timed_target e))
    itself (kept_faults.Host keep_faults.Memory) = tt
    itself (kept_faults.Host keep_faults.BackInTime) = (refl, stays)
    itself (kept_faults.Host keep_faults.Range) = (refl, stays)
    itself (kept_faults.Host keep_faults.TooMany) = (refl, stays)
    itself kept_faults.Listening = (refl, stays)
    itself kept_faults.Ours = (refl, stays)
    itself kept_faults.Numbers = (refl, stays)
    itself (kept_faults.Operation fault) = (refl, stays)

    by : (e f : KeptFault) → e ≡ f → DoesReply (Some (Kept k)) (Some (values.Kept new)) (Err (unanswered_of timed_target e)) (denies (kept_refusal timed_target f))
    by e f e-is = subst (λ (g : KeptFault). DoesReply (Some (Kept k)) (Some (values.Kept new)) (Err (unanswered_of timed_target e)) (denies (kept_refusal timed_target g))) e-is (itself e)
  refuses_line None e is same at = subst (λ (f : KeptFault). DoesReply (Some (Kept k)) (Some (values.Kept new)) (Err (unanswered_of timed_target f)) (kept_does None does text k)) (sym is) tt

module _ {X : Type 0} (old new : KeptValue) (k : Keeping) (does : Transition) (text : List ℕ) where
  -- It was done: what it sent, and then a batch, is what is to be printed.
  pub does_line : (fault : Option KeptFault) (x : X) (sent : Vec Datagram Global) (batch : Batch) → IsRefusedBy fault (Ok x) → sent.items ≡ sent_by_doing does k → batch_text batch ≡ text → IsKeptAt new (after_doing does k)
      → DoesReply (Some (Kept k)) (Some (values.Kept new)) (Ok (tolds.Sent sent batch)) (kept_does fault does text k)
  does_line (Some f) x sent batch is same and at = absurd cc
  does_line None x sent batch is same and at =
      (at, sym (ap (λ (ds : List Datagram). sends_text ds ++ batch_text batch) same ∙ ap (λ (t : List ℕ). sends_text (sent_by_doing does k) ++ t) and))

-- ---- a question

abbrev member_told : Result MemberTold Untaken → Result Told Unanswered
member_told (Ok told) = Ok (tolds.Member told)
member_told (Err e) = Err (unanswered_by e)

-- It is answered, or refused: a self-managing host stays as it is.
pub asks_line : (old new : KeptValue) (query : Query) (said : Answered) (r : Result MemberTold Untaken) → new ≡ old → ((k : Keeping) → IsKeptAt old k → said ≡ answer_to query k.host) → TellsAnswer r (answer_text said) → DoesKept old new (member_told r) (kept_reply (asks query))
asks_line old new query said r same is told k at =
    subst (λ (t : Answered). DoesReply (Some (Kept k)) (Some (values.Kept new)) (member_told r) (kept_shows k (answered (tells k.host (answer_text t))))) (is k at) (by r (answer_text said) told) where
      stays : IsKeptAt new k
      stays = subst (λ (v : KeptValue). IsKeptAt v k) (sym same) at

      by : (r : Result MemberTold Untaken) (text : Option (List ℕ)) → TellsAnswer r text → DoesReply (Some (Kept k)) (Some (values.Kept new)) (member_told r) (kept_shows k (answered (tells k.host text)))
      by (Ok t) (Some text) says = (stays, says)
      by (Ok t) None says = absurd says
      by (Err e) (Some text) says = absurd says
      by (Err e) None says = subst (λ (f : Untaken). DoesReply (Some (Kept k)) (Some (values.Kept new)) (Err (unanswered_by f)) (denies (refusals.Line line_faults.TooMany))) (sym says) (refl, stays)

-- ---- a host that its driver drives

-- What any member comes to, one that is driven does.
module _ (old new : MemberValue) (act : Opened → Act) where
  took : (r : Result MemberTold Untaken) (host : Opened) (a : Act) → Comes host new r a → DoesAnswer (Some host) (Some new) (member_told r) (answered a)
  took (Ok t) host (acts.does next text) comes = comes
  took (Ok t) host (acts.fails e) comes = comes
  took (Err (untaken.Line f)) host (acts.does next text) comes = comes
  took (Err (untaken.Line f)) host (acts.fails e) comes = (ap refusals.Line comes.0, comes.1)
  took (Err untaken.Memory) host a comes = tt

  pub takes : (r : Result MemberTold Untaken) → ComesFrom old new r act → DoesAt old new (member_told r) (λ host. answered (act host))
  takes r comes host at = took r host (act host) (comes host at)

-- What a member does for a line, a host does that it is, and keeps what is left of its board.
drives : (host : Opened) (new : MemberValue) (board left later : Option BoardValue) (result : Result Told Unanswered) (a : Answer) → DoesAnswer (Some host) (Some new) result a → left ≡ board_by result board later
    → DoesReply (Some (Driven host board)) (Some (values.Driven new left)) result (as_driven later a)
drives host new board left later (Ok told) (gives None text) does is = absurd does.0
drives host new board left later (Ok told) (gives (Some next) text) does is = ((does.0, is), does.1)
drives host new board left later (Ok told) (refuses e) does is = absurd does
drives host new board left later (Err (unanswered.Refused f)) (gives next text) does is = absurd does
drives host new board left later (Err (unanswered.Refused f)) (refuses e) does is = (does.0, (does.1, is))
drives host new board left later (Err unanswered.Memory) (gives next text) does is = tt
drives host new board left later (Err unanswered.Memory) (refuses e) does is = tt

pub taken_driven : (line : DriverLine) (old new : MemberValue) (board left : Option BoardValue) (result : Result Told Unanswered) → DoesAt old new result (answer_at line) → left ≡ board_by result board (board_after line board)
    → (h : Host) → IsHostAt (values.Driven old board) h → DoesReply (Some h) (Some (values.Driven new left)) result (taken_by line h)
taken_driven line old new board left result does is (Driven host own) at =
    subst (λ (b : Option BoardValue). DoesReply (Some (Driven host b)) (Some (values.Driven new left)) result (as_driven (board_after line b) (answer_at line host))) at.1
    (drives host new board left (board_after line board) result (answer_at line host) (does host at.0) is)
taken_driven line old new board left result does is (Kept k) at = absurd at

-- It becomes self-managing; or it is too late.
pub begins_kept : (member : MemberValue) (kept : KeptValue) (rate listen : ℕ) (board : BoardValue) → ((host : Opened) → IsOpenAt member host → IsKeptAt kept (record { host = host; policy = begun (present host) rate listen board.seed }))
    → (h : Host) → IsHostAt (values.Driven member (Some board)) h → DoesReply (Some h) (Some (values.Kept kept)) (Ok tolds.Nothing) (keep_reply rate listen (Some h))
begins_kept member kept rate listen board keeps (Driven host own) at =
    subst (λ (b : Option BoardValue). DoesReply (Some (Driven host b)) (Some (values.Kept kept)) (Ok tolds.Nothing) (keep_reply rate listen (Some (Driven host b)))) at.1 (keeps host at.0, refl)
begins_kept member kept rate listen board keeps (Kept k) at = absurd at

pub begins_late : (member : MemberValue) (rate listen : ℕ) (h : Host) → IsHostAt (values.Driven member None) h
    → DoesReply (Some h) (Some (values.Driven member None)) (Err (unanswered.Refused refusals.TooLate)) (keep_reply rate listen (Some h))
begins_late member rate listen (Driven host own) at =
    subst (λ (b : Option BoardValue). DoesReply (Some (Driven host b)) (Some (values.Driven member None)) (Err (unanswered.Refused refusals.TooLate)) (keep_reply rate listen (Some (Driven host b)))) at.1 (refl, (at.0, refl))
begins_late member rate listen (Kept k) at = absurd at
