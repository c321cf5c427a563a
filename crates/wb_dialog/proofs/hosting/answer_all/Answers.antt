use Rattle.std.proofs.Common.{Ok, Err, sym, ap, subst, ◌∙◌}
use Rattle.std.specs.declared.convert.Infallible.{Infallible}
use Rattle.wb_lines.specs.declared.fault.DriveFault.{DriveFault}
use Rattle.wb_lines.specs.Driving.{rules_of, outcome, Meets}
use Rattle.wb_dialog.specs.Kinds.{step, unopened}
use Rattle.wb_dialog.specs.declared.fault.HostFault.TheVariants as host_faults
use Rattle.wb_dialog.proofs.Transcripts.{begins_at, ends_well, hosts_transcript, host_endless, same_fault, fault_reads, fault_writes, fault_ends}
use Rattle.wb_dialog.proofs.hosting.answer_all.Goals as goal

pub returns-in-Ok-clause-text : goal.returns-in-Ok-clause-text
returns-in-Ok-clause-text g c =
    let l = c.in-Ok.ensures.lines in
    let at = begins_at c.args.dialog.now c.requires in (
      l.0,
      l.1,
      l.2,
      l.3,
      (hosts_transcript c.args.dialog.now.tuning 18446744073709551615 (g.R.Source.has_failed c.drive.new.source) l.0 l.1 (Ok c.in-Ok.field-0) (l.4 (unopened c.args.dialog.now.tuning) at)).0,
      ends_well host_faults.Endless,
    )

pub returns-in-Ok-clause-whole : goal.returns-in-Ok-clause-whole
returns-in-Ok-clause-whole g c =
    let l = c.in-Ok.ensures.lines in
    let at = begins_at c.args.dialog.now c.requires in
    (hosts_transcript c.args.dialog.now.tuning 18446744073709551615 (g.R.Source.has_failed c.drive.new.source) l.0 l.1 (Ok c.in-Ok.field-0) (l.4 (unopened c.args.dialog.now.tuning) at)).1

pub returns-in-Err-clause-text : goal.returns-in-Err-clause-text
returns-in-Err-clause-text g c =
    let l = c.in-Err.ensures.lines in
    let at = begins_at c.args.dialog.now c.requires in (
      l.0,
      l.1,
      l.2,
      l.3,
      rw c.fault_of.ensures (hosts_transcript c.args.dialog.now.tuning 18446744073709551615 (g.R.Source.has_failed c.drive.new.source) l.0 l.1 (Err c.in-Err.fault) (l.4 (unopened c.args.dialog.now.tuning) at)),
      λ e.
          let ends = fault_ends c.in-Err.fault (sym c.fault_of.ensures ∙ same_fault c.fault_of.result host_faults.Endless e) in
          host_endless c.args.dialog.now.tuning 18446744073709551615 (g.R.Source.has_failed c.drive.new.source) l.0 l.1
          (subst (λ (f : DriveFault Infallible). Meets (outcome (rules_of step 18446744073709551615) (g.R.Source.has_failed c.drive.new.source) (unopened c.args.dialog.now.tuning) l.0) l.1 (Err f)) ends (l.4 (unopened c.args.dialog.now.tuning) at)),
    )

pub returns-in-Err-clause-read : goal.returns-in-Err-clause-read
returns-in-Err-clause-read g c = λ e. c.in-Err.ensures.read (ap Err (fault_reads c.in-Err.fault (sym c.fault_of.ensures ∙ same_fault c.fault_of.result host_faults.Read e)))

pub returns-in-Err-clause-write : goal.returns-in-Err-clause-write
returns-in-Err-clause-write g c = λ e. c.in-Err.ensures.write (ap Err (fault_writes c.in-Err.fault (sym c.fault_of.ensures ∙ same_fault c.fault_of.result host_faults.Write e)))
