use Rattle.std.proofs.Common.{◌∙◌, ℕ, ap, refl}
use Rattle.wb_judge.specs.Judge.{opened as opened_judge}
use Rattle.wb_judging.proofs.judged_member.JudgedMember.begin.Goals as goal

pub returns : goal.returns
returns c = λ host at.
    let o = c.args.opening.now in
    record {
      kept = c.keep-kept.ensures host at;
      judge = c.in_ok-judge.ensures
          ∙ ap (λ (n : ℕ). opened_judge n o.cells c.moment.result o.wall o.here o.strangers) (c.me.ensures host at)
          ∙ ap (λ (n : ℕ). opened_judge host.is.number o.cells n o.wall o.here o.strangers) (c.moment.ensures.moment host at);
      own = refl;
    }
