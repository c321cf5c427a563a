use Rattle.std.proofs.Common.{◌∙◌, [], Ok, Err, ap, inl, inr, refl, sym}
use Rattle.std.proofs.lemmas.Result.{err_from_is_err_and}
use Rattle.wb_lines.proofs.KnownBytes.{Appends-none}
use Rattle.wb.proofs.Statuses.{run_lost, script_lost}
use Rattle.wb.proofs.serving.check_lines.Goals as goal

pub returns-in_err-lines : goal.returns-in_err-lines
returns-in_err-lines g c =
    let p = err_from_is_err_and c.from_residual.result c.from_residual.ensures.1 in
    let s = c.in_err-lines.ensures.script in
    rw p.1 (record {
      input = s.0;
      written = [];
      read = s.1;
      wrote = Appends-none (g.W.Sink.taken c.args.sink.now);
      answered = (Err p.0, rw p.2 s.2, (Err p.0, (refl, refl), refl));
      failed = λ e. elim (run_lost p.0 e) [
        | inl read ↦ inl (c.in_err-lines.ensures.read (ap Err (sym p.2 ∙ read)))
        | inr write ↦ absurd (c.in_err-lines.ensures.write (ap Err (sym p.2 ∙ write)))
      ];
    })

pub returns : goal.returns
returns g c =
    let s = c.in_ok-lines.ensures.script in
    let a = c.approve.ensures.text in
    record {
      input = s.0;
      written = a.0;
      read = s.1;
      wrote = a.1;
      answered = (Ok c.in_ok-lines.lines, s.2, (c.approve.result, a.2, refl));
      failed = λ e. elim (script_lost c.approve.result e) [
        | inl read ↦ absurd (c.approve.ensures.read read)
        | inr write ↦ inr (c.approve.ensures.write write)
      ];
    }
