-- A judge has the number of its kept member, whatever lines its host gets.
use Rattle.std.proofs.Common.{◌≡◌, ℕ, List, [], ◌∷◌, Option, Some, None, Ok, Err, refl, sym, subst, ◌∙◌}
use Rattle.wb_recovery.specs.declared.tuning.Tuning.{Tuning}
use Rattle.wb_judging.specs.Calling.{call_fault}
use Rattle.wb_judging.specs.Judged.{Judged}
use Rattle.wb_judging.specs.declared.call.Call.{Call}
use Rattle.wb_judging.specs.declared.judged_fault.JudgedFault.{JudgedFault}
use Rattle.wb_judging.proofs.Numbers.{own_stays}
use Rattle.wb_lines.specs.Handling.{Met, whole, too_long}
use Rattle.wb_lines.specs.Input.{InputLine, content}
use Rattle.wb_lines.specs.Taking.{met}
use Rattle.wb_judging.specs.declared.call.Call.TheVariants.{Passed}
use Rattle.wb_judging.specs.declared.news.News.TheVariants.{Nothing}
use Rattle.wb_dialog.specs.declared.judged_line.JudgedLine.{JudgedLine}
use Rattle.wb_dialog.specs.declared.judged_line.JudgedLine.TheVariants.{Call as Calls, Skip, Members, List as Lists, Lacks, Since, Paint, Words}
use Rattle.wb_dialog.specs.declared.line.DriverLine.{DriverLine}
use Rattle.wb_dialog.specs.declared.said.Said.{Said}
use Rattle.wb_dialog.specs.declared.said.Said.TheVariants as saids
use Rattle.wb_dialog.specs.Hosting.{Host, Driven, Kept, Reply, prints, denies, kept_reply, reply}
use Rattle.wb_dialog.specs.Judged.{Act, act, did, does, fails}
use Rattle.wb_dialog.specs.Kinds.{Kind, unjudged, judged, Response, Standing, after, as_judged, as_kept, as_unjudged, common_by, judged_response, kind_after, response_by, response_of, standing_from, tick_of, unjudged_response, unopened}
use Rattle.wb_dialog.specs.Lines.{as_refusal, said_of, unjudged_line}
use Rattle.wb_dialog.proofs.Numbers.{IsKept, stays_kept}

-- ---- a judged member

abbrev IsOwn : Judged → Type 0
IsOwn h = h.judge.me ≡ h.kept.host.is.number

-- what a line leads to
abbrev LeadsOwn : Act → Type 0
LeadsOwn (does next text) = IsOwn next
LeadsOwn (fails e) = Unit {0}

by_call : (fault : Option JudgedFault) (call : Call) (h : Judged) → IsOwn h → LeadsOwn (did fault call h)
by_call None call h own = own_stays call h own
by_call (Some fault) call h own = tt

leads_own : (said : JudgedLine) (h : Judged) → IsOwn h → LeadsOwn (act said h)
leads_own (Calls call) h own = by_call (call_fault call h) call h own
leads_own Skip h own = own
leads_own Members h own = own
leads_own (Lists most) h own = own
leads_own (Lacks page) h own = own
leads_own (Since page count) h own = own
leads_own (Paint page width height) h own = own
leads_own (Words v) h own = own

-- ---- a host

abbrev AreOwn : Kind → Type 0
AreOwn (unjudged s) = Unit {0}
AreOwn (judged h) = IsOwn h

-- what a line leads to, from a host on
abbrev Stays : Kind → Response → Type 0
Stays s r = AreOwn (kind_after s r)

by_act : (s : Kind) (a : Act) → AreOwn s → LeadsOwn a → Stays s (as_judged a)
by_act s (does next text) own leads = leads
by_act s (fails e) own leads = own

by_reply : (s : Option Host) (r : Reply) → Stays (unjudged s) (as_unjudged r)
by_reply s (prints next text) = tt
by_reply s (denies e) = tt

by_unjudged : (tuning : Tuning) (said : Said) (s : Option Host) → Stays (unjudged s) (unjudged_response tuning said s)
by_unjudged tuning (saids.Judge line) None = tt
by_unjudged tuning (saids.Judge line) (Some (Driven host None)) = tt
by_unjudged tuning (saids.Judge line) (Some (Driven host (Some board))) = refl
by_unjudged tuning (saids.Judge line) (Some (Kept k)) = tt
by_unjudged tuning said s = by_reply s (reply tuning s (as_refusal (unjudged_line said)))

by_kept : (h : Judged) (r : Reply) → IsOwn h → IsKept h.kept.host.is.number r → Stays (judged h) (as_kept h.judge r)
by_kept h (prints (Some (Kept k)) text) own kept = own ∙ sym kept
by_kept h (prints (Some (Driven host board)) text) own kept = absurd kept
by_kept h (prints None text) own kept = absurd kept
by_kept h (denies e) own kept = own

by_common : (tick : Option ℕ) (line : DriverLine) (h : Judged) → IsOwn h → Stays (judged h) (common_by tick line h)
by_common (Some now) line h own = by_act (judged h) (act (Calls (Passed now Nothing)) h) own (leads_own (Calls (Passed now Nothing)) h own)
by_common None line h own = by_kept h (kept_reply line h.kept) own (stays_kept line h.kept)

by_judged : (said : Said) (h : Judged) → IsOwn h → Stays (judged h) (judged_response said h)
by_judged (saids.Common (Ok line)) h own = by_common (tick_of line) line h own
by_judged (saids.Common (Err e)) h own = own
by_judged (saids.Own (Ok line) other) h own = by_act (judged h) (act line h) own (leads_own line h own)
by_judged (saids.Own (Err e) other) h own = own
by_judged (saids.Unjudged read other) h own = own
by_judged (saids.Judge line) h own = own

by_said : (tuning : Tuning) (s : Kind) (said : Said) → AreOwn s → Stays s (response_by tuning s said)
by_said tuning (unjudged s) said own = by_unjudged tuning said s
by_said tuning (judged h) said own = by_judged said h own

by_met : (s : Standing) (m : Met) → AreOwn s.kind → Stays s.kind (response_of s m)
by_met s (whole line) own = by_said s.tuning s.kind (said_of (content line)) own
by_met s too_long own = own

through : (s : Standing) (lines : List InputLine) → AreOwn s.kind → AreOwn (standing_from s lines).kind
through s [] own = own
through s (line ∷ lines) own = through (after s (response_of s (met line))) lines (by_met s (met line) own)

pub hosts_own : (tuning : Tuning) (lines : List InputLine) (h : Judged) → (standing_from (unopened tuning) lines).kind ≡ judged h → h.judge.me ≡ h.kept.host.is.number
hosts_own tuning lines h e = subst AreOwn e (through (unopened tuning) lines tt)
