use Rattle.std.proofs.Common.{refl, arith}
use Rattle.wb_judging.specs.declared.call.Call.TheVariants.{Passed}
use Rattle.wb_judging.specs.declared.news.News.TheVariants.{Gone}
use Rattle.wb_c.specs.Serving.{AtJudged}
use Rattle.wb_c.proofs.Served.{all_in_time, not_in_time}
use Rattle.wb_c.proofs.room.Room.gone.Goals as goal

pub returns-then-now-ge-MOMENT_LIMIT : goal.returns-then-now-ge-MOMENT_LIMIT
returns-then-now-ge-MOMENT_LIMIT c = not_in_time (AtJudged (Passed c.args.now (Gone c.args.origin))) c.args.self.now c.args.self.now 8 c.args.now c.if-now-ge-MOMENT_LIMIT.true (refl, refl)

pub returns : goal.returns
returns c =
    all_in_time (AtJudged (Passed c.args.now (Gone c.args.origin))) c.args.self.now c.judge.new.self c.args.now c.judge.result (omega (arith, c.if-now-ge-MOMENT_LIMIT.false)) c.judge.ensures
