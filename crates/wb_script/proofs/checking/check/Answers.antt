use Rattle.std.proofs.Common.{Ok, Err, refl, sym, ap, ◌∙◌}
use Rattle.std.proofs.lemmas.Bool.{false≢true}
use Rattle.wb_script.specs.declared.fault.RunFault.TheVariants as run_faults
use Rattle.wb_script.proofs.CheckEnds.{checks, is_counted, same_fault, fault_reads, fault_writes}
use Rattle.wb_script.proofs.CountLaws.{counts_lines}
use Rattle.wb_script.proofs.checking.check.Goals as goal

pub fault_of-requires : goal.fault_of-requires
fault_of-requires g c =
    let l = rw c.from-most_lines.ensures at c.in-Err.ensures.lines in
    is_counted (g.R.Source.has_failed c.drive.new.source) l.0 l.1 c.in-Err.fault (l.4 tt tt)

pub returns-in-Ok-clause-script : goal.returns-in-Ok-clause-script
returns-in-Ok-clause-script g c =
    let l = rw c.from-most_lines.ensures at c.in-Ok.ensures.lines in
    (l.0, l.2, checks (g.R.Source.has_failed c.drive.new.source) l.0 l.1 (Ok c.in-Ok.lines) (λ e. false≢true (c.in-Ok.ensures.write e)) (l.4 tt tt))

pub returns-in-Err-clause-script : goal.returns-in-Err-clause-script
returns-in-Err-clause-script g c =
    let l = rw c.from-most_lines.ensures at c.in-Err.ensures.lines in
    (l.0, l.2, rw c.fault_of.ensures (checks (g.R.Source.has_failed c.drive.new.source) l.0 l.1 (Err c.in-Err.fault) (λ e. false≢true (c.in-Err.ensures.write e)) (l.4 tt tt)))

pub returns-in-Ok-clause-counts : goal.returns-in-Ok-clause-counts
returns-in-Ok-clause-counts g c = counts_lines

pub returns-in-Err-clause-counts : goal.returns-in-Err-clause-counts
returns-in-Err-clause-counts g c = counts_lines

pub returns-in-Err-clause-read : goal.returns-in-Err-clause-read
returns-in-Err-clause-read g c = λ e. c.in-Err.ensures.read (ap Err (fault_reads c.in-Err.fault (sym c.fault_of.ensures ∙ same_fault c.fault_of.result run_faults.Read (Err c.fault_of.result) (Err run_faults.Read) refl refl e)))

pub returns-in-Err-clause-write : goal.returns-in-Err-clause-write
returns-in-Err-clause-write g c =
    λ e. false≢true (c.in-Err.ensures.write (ap Err (fault_writes c.in-Err.fault (sym c.fault_of.ensures ∙ same_fault c.fault_of.result run_faults.Write (Err c.fault_of.result) (Err run_faults.Write) refl refl e))))
