-- How a judged member begins.
use Rattle.wb_judge.specs.Judge.{opened as opened_judge}
use Rattle.wb_member.specs.Opened.{Opened, present}
use Rattle.wb_policy.specs.Policy.{begun}
use Rattle.wb_judging.specs.Judged.{Judged}
use Rattle.wb_judging.specs.declared.judged_member.Opening.{Opening}

-- a member at its present moment, with a judge of its number, whom nobody has told anything
abbrev pub opened : Opening → Opened → Judged
opened opening host = record {
  kept = record { host = host; policy = begun (present host) opening.rate opening.listen opening.seed };
  judge = opened_judge host.is.number opening.cells (present host) opening.wall opening.here opening.strangers;
}
