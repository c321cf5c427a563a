-- What a line does at a judged member that is for it alone, and how such a member begins.
use Rattle.std.specs.Prelude.{ℕ, List, length, [], Option, Some, None}
use Rattle.wb_names.specs.Values.{DrawopValue}
use Rattle.wb_names.specs.declared.name.PageId.{PageId}
use Rattle.wb_member.specs.Opened.{opened_with, shown, ticked}
use Rattle.wb_recovery.specs.declared.tuning.Tuning.{Tuning}
use Rattle.wb_judging.specs.Asking.{members_of}
use Rattle.wb_judging.specs.Calling.{call_fault}
use Rattle.wb_judging.specs.Judged.{Judged}
use Rattle.wb_judging.specs.declared.call.Call.{Call}
use Rattle.wb_judging.specs.Opening.{opened}
use Rattle.wb_judging.specs.Performing.{after_judged, events_of}
use Rattle.wb_judging.specs.Missing.{missing_on}
use Rattle.wb_judging.specs.Since.{hidden_since, shown_since}
use Rattle.wb_judging.specs.declared.judged_fault.JudgedFault.{JudgedFault}
use Rattle.wb_judging.specs.declared.judged_fault.JudgedFault.TheVariants as judged_faults
use Rattle.wb_judge.specs.declared.judge.AddFault.TheVariants as add_faults
use Rattle.wb_judging.specs.declared.judged_member.Opening.{Opening}
use Rattle.wb_dialog.specs.Boards.{BoardValue}
use Rattle.wb_dialog.specs.declared.fault.Refusal.{Refusal}
use Rattle.wb_dialog.specs.declared.judged_line.JudgeLine.{JudgeLine}
use Rattle.wb_dialog.specs.declared.judged_line.JudgedLine.{JudgedLine}
use Rattle.wb_dialog.specs.declared.judged_line.JudgedLine.TheVariants.{Call as Calls, Skip, Members, List as Lists, Paint, Since, Lacks, Words}
use Rattle.wb_dialog.specs.Listing.{listed_first}
use Rattle.wb_dialog.specs.declared.fault.Refusal.TheVariants.{Twin, Full}
use Rattle.wb_dialog.specs.Hosting.{kept_refusal}
use Rattle.wb_dialog.specs.Texts.{events_text, lacks_line, list_text, members_text, paint_text, since_text, worded_line}

-- ---- a line

-- What a line does: it leads to a judged member, and a text is printed; or it is refused.
pub data Act : Type 0 where
  does : Judged → List ℕ → Act
  fails : Refusal → Act

-- where the target of a drawing stands whose time the host has
abbrev pub drawn_target : ℕ
drawn_target = 5

-- why a line is refused, by why a judged member refuses it
abbrev pub judged_refusal : JudgedFault → Refusal
judged_refusal (judged_faults.Judge add_faults.Twin) = Twin
judged_refusal (judged_faults.Judge add_faults.Full) = Full
judged_refusal (judged_faults.Kept fault) = kept_refusal drawn_target fault

-- It comes to where a call leads, and prints the events of that, unless the call is refused.
abbrev pub did : Option JudgedFault → Call → Judged → Act
did None call h = does (after_judged call h) (events_text (events_of call h))
did (Some fault) call h = fails (judged_refusal fault)

abbrev pub since_of : PageId → ℕ → List DrawopValue → List ℕ
since_of page count held = since_text (length held) (hidden_since page count held) (shown_since page count held)

-- what a line does that is for a judged member alone
abbrev pub act : JudgedLine → Judged → Act
act (Calls call) h = did (call_fault call h) call h
act Skip h = does h []
act Members h = does h (members_text (members_of h))
act (Lists most) h = does h (list_text (listed_first most h))
act (Paint page width height) h = does h (paint_text (shown page h.kept.host) width height)
act (Since page count) h = does h (since_of page count h.kept.host.is.held)
act (Lacks page) h = does h (lacks_line (missing_on page h.kept.host))
act (Words v) h = does h (worded_line v)

-- ---- its beginning

abbrev pub opening_of : JudgeLine → BoardValue → Opening
opening_of line b = record {
  cells = b.cells;
  wall = line.wall;
  here = line.here;
  strangers = line.strangers;
  rate = line.rate;
  listen = line.listen;
  seed = b.seed;
}

-- a judged member of an empty board, at a moment
abbrev pub begun : Tuning → JudgeLine → BoardValue → Judged
begun tuning line b = opened (opening_of line b) (ticked line.now (opened_with tuning b.member b.cells b.seed))
