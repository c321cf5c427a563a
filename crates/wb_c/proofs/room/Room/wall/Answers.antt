use Rattle.std.proofs.Common.{refl, arith}
use Rattle.std.specs.Prelude.{nat_lt}
use Rattle.wb_judge.specs.declared.limits.TheConstants.{TIME_LIMIT}
use Rattle.wb_judging.specs.declared.call.Call.TheVariants.{Passed}
use Rattle.wb_judging.specs.declared.news.News.TheVariants.{Day}
use Rattle.wb_c.specs.Serving.{AtJudged, OfDay}
use Rattle.wb_c.proofs.Served.{all_in_time, all_of_day, in_time, not_in_time, not_of_day}
use Rattle.wb_c.proofs.room.Room.wall.Goals as goal

pub returns-then-now-ge-MOMENT_LIMIT : goal.returns-then-now-ge-MOMENT_LIMIT
returns-then-now-ge-MOMENT_LIMIT c =
    not_in_time (OfDay (nat_lt c.args.wall TIME_LIMIT) (AtJudged (Passed c.args.now (Day c.args.wall)))) c.args.self.now c.args.self.now 8 c.args.now c.if-now-ge-MOMENT_LIMIT.true (refl, refl)

pub returns-then-wall-ge-TIME_LIMIT : goal.returns-then-wall-ge-TIME_LIMIT
returns-then-wall-ge-TIME_LIMIT c =
    in_time (OfDay (nat_lt c.args.wall TIME_LIMIT) (AtJudged (Passed c.args.now (Day c.args.wall)))) c.args.self.now c.args.self.now 19 c.args.now (omega (arith, c.if-now-ge-MOMENT_LIMIT.false))
    (not_of_day (AtJudged (Passed c.args.now (Day c.args.wall))) c.args.self.now c.args.self.now c.args.wall TIME_LIMIT 19 c.if-wall-ge-TIME_LIMIT.true (refl, refl))

pub returns : goal.returns
returns c =
    all_in_time (OfDay (nat_lt c.args.wall TIME_LIMIT) (AtJudged (Passed c.args.now (Day c.args.wall)))) c.args.self.now c.judge.new.self c.args.now c.judge.result (omega (arith, c.if-now-ge-MOMENT_LIMIT.false))
    (all_of_day (AtJudged (Passed c.args.now (Day c.args.wall))) c.args.self.now c.judge.new.self c.judge.result c.args.wall TIME_LIMIT (omega (arith, c.if-wall-ge-TIME_LIMIT.false)) c.judge.ensures)
