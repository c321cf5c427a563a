use Rattle.std.proofs.Common.{Ok, Err, ap, arith, inl, inr, refl}
use Rattle.wb.proofs.Statuses.{filter_lost}
use Rattle.wb.proofs.serving.perform_turn.Goals as goal

pub returns-in-Ok : goal.returns-in-Ok
returns-in-Ok g c =
    let s = c.in-Ok.ensures.lines in
    record { input = s.0; written = s.1; read = s.2; wrote = s.3; answered = (Ok c.in-Ok.field-0, s.4, refl); failed = λ e. absurd (omega (arith, e)) }

pub returns-in-Err : goal.returns-in-Err
returns-in-Err g c =
    let s = c.in-Err.ensures.lines in
    record {
      input = s.0;
      written = s.1;
      read = s.2;
      wrote = s.3;
      answered = (Err c.in-Err.fault, s.4, refl);
      failed = λ e. elim (filter_lost c.in-Err.fault e) [
        | inl read ↦ inl (c.in-Err.ensures.read (ap Err read))
        | inr write ↦ inr (c.in-Err.ensures.write (ap Err write))
      ];
    }
