-- What becomes of a datagram.
use Rattle.std.specs.Prelude.{Some, None}
use Rattle.wb_judge.specs.declared.verdict.Verdict.{Verdict}
use Rattle.wb_judge.specs.declared.verdict.Warning.{Warning}
use Rattle.wb_judge.specs.declared.verdict.Why.{Why}

abbrev pub taken : Verdict
taken = record { why = None; warning = None; fetch = None }

abbrev pub dropped : Why → Verdict
dropped why = record { why = Some why; warning = None; fetch = None }

abbrev pub warned : Why → Warning → Verdict
warned why warning = record { why = Some why; warning = Some warning; fetch = None }
