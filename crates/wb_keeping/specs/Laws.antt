-- Laws of a policy.
use Rattle.std.specs.Prelude.{◌≡◌, ◌⊎◌, ℕ, ◌≤◌, ◌<◌, Bool, false, List, [], ◌∷◌, ◌++◌, Contains, IsTrue, None, map, nat_le, ◌||◌}
use Rattle.wb_names.specs.Drawing.{op_fault}
use Rattle.wb_names.specs.Values.{NameValue, greatest_number}
use Rattle.wb_names.specs.declared.name.PageId.{PageId}
use Rattle.wb_names.specs.declared.parts.Op.{Op}
use Rattle.wb_codec.specs.declared.datagram.Datagram.{Datagram}
use Rattle.wb_recovery.specs.declared.tuning.Tuning.{Tuning}
use Rattle.wb_board.specs.Counts.{MAX_CELLS}
use Rattle.wb_member.specs.Lines.{IsOfPolicy}
use Rattle.wb_member.specs.Opened.{last_number, opened_with, present}
use Rattle.wb_member.specs.declared.calls.Call.{Call}
use Rattle.wb_member.specs.declared.calls.Call.TheVariants.{Tick}
pub use Rattle.wb_keeping.specs.Calls.{KeptLine, Came, Ticked, Added, Tuned, doing_of, fault_of}
use Rattle.wb_keeping.specs.Kept.{Calls, Line, came, drawing, still, ticks, ticks_at, want}
use Rattle.wb_keeping.specs.Performing.{Keeping, after_doing, after_lines, sees, sent_by_doing, sent_by_lines, view_of}
use Rattle.wb_keeping.specs.Refusing.{add_fault}
use Rattle.wb_policy.specs.Policy.{Policy, after_wanting}
use Rattle.wb_keeping.specs.Views.{View, holds, is_known}
use Rattle.wb_policy.specs.Questions.{is_due}
use Rattle.wb_policy.specs.Wanting.{is_paid}

-- ---- a kept host

-- what comes in is first of all a moment, as when a driver ticks before each line
abbrev pub TimeComesFirst : Type 0
TimeComesFirst = (now : ℕ) (v : Datagram) (see : List Line → View) (p : Policy) → (later : List Line) × ((came now v see p).lines ≡ Calls (Tick now) ∷ later)

-- If neither an answer nor a question nor a report nor a turn is due, time goes on as at a host that its driver drives, and the policy stays.
abbrev pub NothingIsDue : Type 0
NothingIsDue = (now : ℕ) (see : List Line → View) (p : Policy)
    → is_due (see (Calls (Tick now) ∷ [])).now p.questions.answer ≡ false → is_due (see (Calls (Tick now) ∷ [])).now p.questions.ask ≡ false → nat_le p.reports.due (see (Calls (Tick now) ∷ [])).now ≡ false → nat_le p.pace.due (see (Calls (Tick now) ∷ [])).now ≡ false
    → ticks now see p ≡ record { policy = p; lines = Calls (Tick now) ∷ [] }

-- What is wanted is asked for only if it is not held and there is credit for it, and then it costs; else nothing is done.
abbrev pub WantedIsPaid : Type 0
WantedIsPaid = (name : NameValue) (anew : Bool) (see : List Line → View) (p : Policy)
    → (want name anew see p ≡ still see p) ⊎ (IsTrue (is_paid (anew || is_known (see []) name.source) p.owed (see []).now) × (holds (see []) name ≡ false) × ((want name anew see p).policy ≡ after_wanting (see []).now p))

-- ---- a kept host, line by line

-- each of these lines is taken, and none is refused
abbrev pub AreTaken : List KeptLine → Keeping → Type 0
AreTaken [] k = Unit {0}
AreTaken (line ∷ lines) k = (fault_of line k ≡ None) × AreTaken lines (after_doing (doing_of line) k)

abbrev pub after_kept : List KeptLine → Keeping → Keeping
after_kept [] k = k
after_kept (line ∷ lines) k = after_kept lines (after_doing (doing_of line) k)

abbrev pub sent_by_kept : List KeptLine → Keeping → List Datagram
sent_by_kept [] k = []
sent_by_kept (line ∷ lines) k = sent_by_doing (doing_of line) k ++ sent_by_kept lines (after_doing (doing_of line) k)

-- the lines that are performed, in their place
abbrev pub expand : List KeptLine → Keeping → List Line
expand [] k = []
expand (line ∷ lines) k = (doing_of line (sees k.host) k.policy).lines ++ expand lines (after_doing (doing_of line) k)

-- A kept host is a host whose driver hands in the expanded lines: it is what that host is, and sends what that sends, in order.
abbrev pub KeptHostsAreHosts : Type 0
KeptHostsAreHosts = (lines : List KeptLine) (k : Keeping)
    → ((after_kept lines k).host ≡ after_lines (expand lines k) k.host) × (sent_by_kept lines k ≡ sent_by_lines (expand lines k) k.host)

-- Of the calls of a member its policy makes these alone.
abbrev pub CallsAreOfPolicies : Type 0
CallsAreOfPolicies = (lines : List KeptLine) (k : Keeping) (call : Call) → Contains (expand lines k) (Calls call) → IsOfPolicy call

-- Whatever comes in, a member that is self-managing from its opening on, but for ticks, has a number left on each page.
abbrev pub ANumberIsLeft : Type 0
ANumberIsLeft = (constants : Tuning) (number cells seed : ℕ) (moments : List ℕ) (policy : Policy) (lines : List KeptLine)
    → let start : Keeping = record { host = after_lines (ticks_at moments) (opened_with constants number cells seed); policy = policy } in
    cells ≤ MAX_CELLS → AreTaken lines start → (page : PageId) → last_number page (after_kept lines start).host < greatest_number

-- So a drawing is refused before the present moment, while the member listens, and if its operation is none of a drawop under the
-- next number, and at no other time.
abbrev pub DrawingIsNotLocked : Type 0
DrawingIsNotLocked = (now : ℕ) (page : PageId) (time : ℕ) (op : Op) (k : Keeping)
    → last_number page k.host < greatest_number → present k.host ≤ now → k.policy.ready ≤ now → op_fault (drawing (view_of k.host) page time op).name op ≡ None
    → add_fault now page time op k ≡ None
