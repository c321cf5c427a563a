-- What a host of each kind did for a line, by what its member did.
use Rattle.std.proofs.Common.{◌≡◌, ℕ, List, Option, Some, None, Result, Ok, Err, refl, sym, ap, subst, ◌∙◌}
use Rattle.wb_recovery.specs.declared.tuning.Tuning.{Tuning}
use Rattle.wb_judge.specs.Judge.{Judge}
use Rattle.wb_judging.specs.Judged.{Judged}
use Rattle.wb_judging.specs.Performing.{IsJudgedAt, JudgedValue}
use Rattle.wb_keeping.specs.Performing.{IsKeptAt, Keeping, KeptValue, due as kept_due}
use Rattle.wb_member.specs.Holding.{IsOpenAt, MemberValue}
use Rattle.wb_member.specs.Opened.{Opened, next_due}
use Rattle.wb_commands.specs.declared.fault.LineFault.{LineFault}
use Rattle.wb_commands.specs.declared.fault.LineFault.TheVariants as faults
use Rattle.wb_dialog.specs.declared.fault.Refusal.{Refusal}
use Rattle.wb_dialog.specs.declared.fault.Refusal.TheVariants as refusals
use Rattle.wb_dialog.specs.declared.fault.Unanswered.{Unanswered}
use Rattle.wb_dialog.specs.declared.fault.Unanswered.TheVariants as unanswered
use Rattle.wb_dialog.specs.declared.judged_line.JudgeLine.{JudgeLine}
use Rattle.wb_judging.specs.declared.call.Call.TheVariants.{Passed}
use Rattle.wb_judging.specs.declared.news.News.TheVariants.{Nothing}
use Rattle.wb_dialog.specs.declared.judged_line.JudgedLine.{JudgedLine}
use Rattle.wb_dialog.specs.declared.judged_line.JudgedLine.TheVariants.{Call as Calls}
use Rattle.wb_dialog.specs.declared.line.DriverLine.{DriverLine}
use Rattle.wb_dialog.specs.declared.line.DriverLine.TheVariants.{Keep}
use Rattle.wb_dialog.specs.declared.said.Said.{Said}
use Rattle.wb_dialog.specs.declared.said.Said.TheVariants as saids
use Rattle.wb_dialog.specs.declared.told.Told.{Told}
use Rattle.wb_dialog.specs.declared.told.Told.TheVariants as tolds
use Rattle.wb_dialog.specs.declared.opened.Host.{Host as HostValue}
use Rattle.wb_dialog.specs.declared.opened.Host.TheVariants as values
use Rattle.wb_dialog.specs.Boards.{BoardValue}
use Rattle.wb_dialog.specs.Doing.{DoesAct, DoesJudged, DoesKept, DoesOpen, DoesReply, IsKindAt, Leads, LeadsFrom, LeadsJudged, LeadsOpen, kept_response, kept_said}
use Rattle.wb_dialog.specs.Hosting.{Host, Driven, Kept, Reply, prints, denies, in_time, kept_reply, reply, reply_to, taken_by}
use Rattle.wb_dialog.specs.Judged.{Act, does, fails, act, begun}
use Rattle.wb_dialog.specs.Kinds.{Kind, unjudged, judged, Response, rejects, as_judged, as_kept, as_unjudged, common_by, common_response, due_of, judge_response, judged_response, response_by, response_to, tick_of, unjudged_response}
use Rattle.wb_dialog.specs.Laws.{IsNoJudge}
use Rattle.wb_dialog.specs.Lines.{as_refusal, said_of, unjudged_line}
use Rattle.wb_dialog.proofs.Numbers.{IsKept, stays_kept}

-- Memory ran out.
pub forgets : (old new : Option HostValue) (response : Kind → Response) → LeadsFrom old new (Err unanswered.Memory) response
forgets old new response s at = tt

-- ---- when it is due

pub due_closed : (moment : Option ℕ) → moment ≡ None → (s : Kind) → IsKindAt None s → moment ≡ due_of s
due_closed moment is (unjudged None) at = is
due_closed moment is (unjudged (Some h)) at = absurd at
due_closed moment is (judged h) at = absurd at

pub due_driven : (member : MemberValue) (board : Option BoardValue) (moment : Option ℕ) → ((host : Opened) → IsOpenAt member host → moment ≡ next_due host) → (s : Kind) → IsKindAt (Some (values.Driven member board)) s → moment ≡ due_of s
due_driven member board moment due (unjudged (Some (Driven host left))) at = due host at.0
due_driven member board moment due (unjudged (Some (Kept k))) at = absurd at
due_driven member board moment due (unjudged None) at = absurd at
due_driven member board moment due (judged h) at = absurd at

pub due_kept : (kept : KeptValue) (moment : ℕ) → ((k : Keeping) → IsKeptAt kept k → moment ≡ kept_due k) → (s : Kind) → IsKindAt (Some (values.Kept kept)) s → in_time moment ≡ due_of s
due_kept kept moment due (unjudged (Some (Kept k))) at = ap in_time (due k at)
due_kept kept moment due (unjudged (Some (Driven host left))) at = absurd at
due_kept kept moment due (unjudged None) at = absurd at
due_kept kept moment due (judged h) at = absurd at

pub due_judged : (member : JudgedValue) (moment : ℕ) → ((h : Judged) → IsJudgedAt member h → moment ≡ kept_due h.kept) → (s : Kind) → IsKindAt (Some (values.Judged member)) s → in_time moment ≡ due_of s
due_judged member moment due (judged h) at = ap in_time (due h at)
due_judged member moment due (unjudged None) at = absurd at
due_judged member moment due (unjudged (Some h)) at = absurd at

-- ---- a host without a judge

-- What it replies is what a host of any kind does.
leads : (s : Option Host) (new : Option HostValue) (result : Result Told Unanswered) (r : Reply) → DoesReply s new result r → Leads (unjudged s) new result (as_unjudged r)
leads s new (Ok told) (prints t text) did = did
leads s new (Ok told) (denies e) did = did
leads s new (Err (unanswered.Refused f)) (prints t text) did = did
leads s new (Err (unanswered.Refused f)) (denies e) did = did
leads s new (Err unanswered.Memory) (prints t text) did = did
leads s new (Err unanswered.Memory) (denies e) did = did

-- a line that does not begin to judge
pub no_judge : (said : Said) → ((line : JudgeLine) → said ≡ saids.Judge line → ⊥) → IsNoJudge said
no_judge (saids.Judge line) none = absurd (none line refl)
no_judge said none = tt

pub as_replied : (tuning : Tuning) (s : Option Host) (said : Said) → IsNoJudge said → unjudged_response tuning said s ≡ as_unjudged (reply tuning s (as_refusal (unjudged_line said)))
as_replied tuning s (saids.Judge line) none = absurd none
as_replied tuning s said none = refl

module _ (tuning : Tuning) (said : Said) (read : Result DriverLine LineFault) (is : read ≡ unjudged_line said) (none : IsNoJudge said) where
  replied : (s : Option Host) (new : Option HostValue) (result : Result Told Unanswered) → DoesReply s new result (reply tuning s (as_refusal read)) → Leads (unjudged s) new result (unjudged_response tuning said s)
  replied s new result did =
      subst (Leads (unjudged s) new result) (ap (λ (r : Result DriverLine LineFault). as_unjudged (reply tuning s (as_refusal r))) is ∙ sym (as_replied tuning s said none)) (leads s new result (reply tuning s (as_refusal read)) did)

  pub leads_first : (new : Option HostValue) (result : Result Told Unanswered) → DoesReply None new result (reply tuning None (as_refusal read)) → LeadsFrom None new result (λ s. response_by tuning s said)
  leads_first new result did (unjudged None) at = replied None new result did
  leads_first new result did (unjudged (Some h)) at = absurd at
  leads_first new result did (judged h) at = absurd at

  pub leads_driven : (member : MemberValue) (board : Option BoardValue) (new : HostValue) (result : Result Told Unanswered) → DoesOpen (values.Driven member board) new result (λ h. reply tuning (Some h) (as_refusal read))
      → LeadsFrom (Some (values.Driven member board)) (Some new) result (λ s. response_by tuning s said)
  leads_driven member board new result did (unjudged (Some h)) at = replied (Some h) (Some new) result (did h at)
  leads_driven member board new result did (unjudged None) at = absurd at
  leads_driven member board new result did (judged h) at = absurd at

-- a line that does not begin to keep it
abbrev pub IsNoKeep : DriverLine → Type 0
IsNoKeep (Keep rate listen) = ⊥
IsNoKeep line = Unit {0}

pub no_keep : (line : DriverLine) → ((rate listen : ℕ) → line ≡ Keep rate listen → ⊥) → IsNoKeep line
no_keep (Keep rate listen) none = absurd (none rate listen refl)
no_keep line none = tt

is_taken : (tuning : Tuning) (h : Host) (line : DriverLine) → IsNoKeep line → taken_by line h ≡ reply_to tuning (Some h) line
is_taken tuning h (Keep rate listen) none = absurd none
is_taken tuning h line none = refl

pub drives_line : (old new : HostValue) (line : DriverLine) (result : Result Told Unanswered) → IsNoKeep line → DoesOpen old new result (taken_by line) → (tuning : Tuning) → DoesOpen old new result (λ h. reply_to tuning (Some h) line)
drives_line old new line result none did tuning h at = subst (DoesReply (Some h) (Some new) result) (is_taken tuning h line none) (did h at)

-- ---- a self-managing host

kept_read : (tuning : Tuning) (k : Keeping) (read : Result DriverLine LineFault) → as_unjudged (reply tuning (Some (Kept k)) (as_refusal read)) ≡ as_unjudged (kept_said read k)
kept_read tuning k (Ok (Keep rate listen)) = refl
kept_read tuning k (Ok line) = refl
kept_read tuning k (Err e) = refl

kept_replied : (tuning : Tuning) (k : Keeping) (said : Said) → unjudged_response tuning said (Some (Kept k)) ≡ as_unjudged (kept_response said k)
kept_replied tuning k (saids.Judge line) = refl
kept_replied tuning k (saids.Common read) = kept_read tuning k read
kept_replied tuning k (saids.Own read other) = refl
kept_replied tuning k (saids.Unjudged read other) = kept_read tuning k read

pub leads_kept : (old new : KeptValue) (said : Said) (result : Result Told Unanswered) → DoesKept old new result (kept_response said) → LeadsOpen (values.Kept old) (values.Kept new) result (λ tuning s. response_by tuning s said)
leads_kept old new said result did tuning (unjudged (Some (Kept k))) at =
    subst (Leads (unjudged (Some (Kept k))) (Some (values.Kept new)) result) (sym (kept_replied tuning k said)) (leads (Some (Kept k)) (Some (values.Kept new)) result (kept_response said k) (did k at))
leads_kept old new said result did tuning (unjudged (Some (Driven host left))) at = absurd at
leads_kept old new said result did tuning (unjudged None) at = absurd at
leads_kept old new said result did tuning (judged h) at = absurd at

-- what it replies to a line that does not begin to judge
kept_by : (said : Said) (read : Result DriverLine LineFault) → read ≡ unjudged_line said → IsNoJudge said → (k : Keeping) → kept_said read k ≡ kept_response said k
kept_by (saids.Judge line) read is none k = absurd none
kept_by said read is none k = ap (λ (r : Result DriverLine LineFault). kept_said r k) is

pub keeps : (said : Said) (read : Result DriverLine LineFault) (old new : KeptValue) (result : Result Told Unanswered) → read ≡ unjudged_line said → IsNoJudge said → DoesKept old new result (kept_said read) → DoesKept old new result (kept_response said)
keeps said read old new result is none did k at = subst (DoesReply (Some (Kept k)) (Some (values.Kept new)) result) (kept_by said read is none k) (did k at)

-- ---- a judged host

with_kept : KeptValue → JudgedValue → JudgedValue
with_kept kept m = record { kept = kept; judge = m.judge }

-- Its self-managing member did it, and has its number still.
by_member : (m : JudgedValue) (new : KeptValue) (h : Judged) (result : Result Told Unanswered) (r : Reply) → IsJudgedAt m h → IsKept h.kept.host.is.number r → DoesReply (Some (Kept h.kept)) (Some (values.Kept new)) result r
    → Leads (judged h) (Some (values.Judged (record { kept = new; judge = m.judge }))) result (as_kept h.judge r)
by_member m new h (Ok told) (prints (Some (Kept k)) text) at kept did = (record { kept = did.0; judge = at.judge; own = at.own ∙ sym kept }, did.1)
by_member m new h (Ok told) (prints (Some (Driven host board)) text) at kept did = absurd kept
by_member m new h (Ok told) (prints None text) at kept did = absurd kept
by_member m new h (Ok told) (denies e) at kept did = absurd did
by_member m new h (Err (unanswered.Refused f)) (prints next text) at kept did = absurd did
by_member m new h (Err (unanswered.Refused f)) (denies e) at kept did = (did.0, record { kept = did.1; judge = at.judge; own = at.own })
by_member m new h (Err unanswered.Memory) (prints (Some (Kept k)) text) at kept did = did
by_member m new h (Err unanswered.Memory) (prints (Some (Driven host board)) text) at kept did = absurd kept
by_member m new h (Err unanswered.Memory) (prints None text) at kept did = absurd kept
by_member m new h (Err unanswered.Memory) (denies e) at kept did = did

pub leads_common : (m : JudgedValue) (old new : KeptValue) (judge : Judge) (line : DriverLine) (result : Result Told Unanswered) → None ≡ tick_of line → old ≡ m.kept → judge ≡ m.judge → DoesKept old new result (kept_reply line)
    → LeadsJudged m (values.Judged (record { kept = new; judge = judge })) result (common_response line)
leads_common m old new judge line result none kept is did h at =
    subst (λ (j : Judge). Leads (judged h) (Some (values.Judged (record { kept = new; judge = j }))) result (common_response line h)) (sym is)
    (subst (λ (tick : Option ℕ). Leads (judged h) (Some (values.Judged (record { kept = new; judge = m.judge }))) result (common_by tick line h)) none
    (by_member m new h result (kept_reply line h.kept) at (stays_kept line h.kept) (did h.kept (subst (λ (v : KeptValue). IsKeptAt v h.kept) (sym kept) at.kept))))

-- It has a line for itself.
acts : (h : Judged) (new : JudgedValue) (result : Result Told Unanswered) (a : Act) → DoesAct h new result a → Leads (judged h) (Some (values.Judged new)) result (as_judged a)
acts h new (Ok told) (does next text) did = did
acts h new (Ok told) (fails e) did = did
acts h new (Err (unanswered.Refused f)) (does next text) did = did
acts h new (Err (unanswered.Refused f)) (fails e) did = did
acts h new (Err unanswered.Memory) (does next text) did = did
acts h new (Err unanswered.Memory) (fails e) did = did

pub leads_own : (m new : JudgedValue) (line : JudgedLine) (result : Result Told Unanswered) → DoesJudged m new result (act line) → LeadsJudged m (values.Judged new) result (λ h. as_judged (act line h))
leads_own m new line result did h at = acts h new result (act line h) (did h at)

-- Of a tick its judge hears too.
pub leads_tick : (m new : JudgedValue) (line : DriverLine) (now : ℕ) (result : Result Told Unanswered) → Some now ≡ tick_of line → DoesJudged m new result (act (Calls (Passed now Nothing)))
    → LeadsJudged m (values.Judged new) result (common_response line)
leads_tick m new line now result is did h at =
    subst (λ (tick : Option ℕ). Leads (judged h) (Some (values.Judged new)) result (common_by tick line h)) is (leads_own m new (Calls (Passed now Nothing)) result did h at)

-- It refuses a line.
pub leads_not : (m : JudgedValue) (e : Refusal) → LeadsJudged m (values.Judged m) (Err (unanswered.Refused e)) (λ h. rejects e)
leads_not m e h at = (refl, at)

pub leads_judged : (m : JudgedValue) (tuning : Tuning) (new : HostValue) (said : Said) (result : Result Told Unanswered) → LeadsJudged m new result (judged_response said) → LeadsFrom (Some (values.Judged m)) (Some new) result (λ s. response_by tuning s said)
leads_judged m tuning new said result did (judged h) at = did h at
leads_judged m tuning new said result did (unjudged None) at = absurd at
leads_judged m tuning new said result did (unjudged (Some h)) at = absurd at

-- ---- a line that begins to judge

pub begins_judged : (member : MemberValue) (m : JudgedValue) (tuning : Tuning) (line : JudgeLine) (board : BoardValue) → IsJudgedAt m (begun tuning line board)
    → LeadsFrom (Some (values.Driven member (Some board))) (Some (values.Judged m)) (Ok tolds.Nothing) (λ s. response_by tuning s (saids.Judge line))
begins_judged member m tuning line board begins (unjudged (Some (Driven host own))) at =
    subst (λ (b : Option BoardValue). Leads (unjudged (Some (Driven host b))) (Some (values.Judged m)) (Ok tolds.Nothing) (judge_response tuning line (Some (Driven host b)))) at.1 (begins, refl)
begins_judged member m tuning line board begins (unjudged (Some (Kept k))) at = absurd at
begins_judged member m tuning line board begins (unjudged None) at = absurd at
begins_judged member m tuning line board begins (judged h) at = absurd at

pub begins_late : (member : MemberValue) (tuning : Tuning) (line : JudgeLine)
    → LeadsFrom (Some (values.Driven member None)) (Some (values.Driven member None)) (Err (unanswered.Refused refusals.TooLate)) (λ s. response_by tuning s (saids.Judge line))
begins_late member tuning line (unjudged (Some (Driven host own))) at =
    subst (λ (b : Option BoardValue). Leads (unjudged (Some (Driven host b))) (Some (values.Driven member None)) (Err (unanswered.Refused refusals.TooLate)) (judge_response tuning line (Some (Driven host b)))) at.1 (refl, (at.0, refl))
begins_late member tuning line (unjudged (Some (Kept k))) at = absurd at
begins_late member tuning line (unjudged None) at = absurd at
begins_late member tuning line (judged h) at = absurd at

pub closed_judge : (tuning : Tuning) (line : JudgeLine) → LeadsFrom None None (Err (unanswered.Refused (refusals.Line faults.NoBoard))) (λ s. response_by tuning s (saids.Judge line))
closed_judge tuning line (unjudged None) at = (refl, tt)
closed_judge tuning line (unjudged (Some h)) at = absurd at
closed_judge tuning line (judged h) at = absurd at

-- ---- any line

pub reads : (old new : Option HostValue) (tuning : Tuning) (line : List ℕ) (said : Said) (result : Result Told Unanswered) → said ≡ said_of line → LeadsFrom old new result (λ s. response_by tuning s said) → LeadsFrom old new result (λ s. response_to tuning s line)
reads old new tuning line said result is did s at = subst (λ (r : Said). Leads s new result (response_by tuning s r)) is (did s at)
