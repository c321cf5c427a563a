use Rattle.std.proofs.Common.{refl, arith}
use Rattle.wb_keeping.specs.Laws.{Ticked}
use Rattle.wb_judging.specs.declared.call.Call.TheVariants.{Passed}
use Rattle.wb_judging.specs.declared.news.News.TheVariants.{Nothing}
use Rattle.wb_c.specs.Performing.{Performs}
use Rattle.wb_c.specs.Serving.{Ticks}
use Rattle.wb_c.proofs.Served.{all_in_time, either_judged, either_kept, not_in_time}
use Rattle.wb_c.proofs.room.Room.tick.Goals as goal

pub returns-then-now-ge-MOMENT_LIMIT : goal.returns-then-now-ge-MOMENT_LIMIT
returns-then-now-ge-MOMENT_LIMIT c = not_in_time (Ticks c.args.now) c.args.self.now c.args.self.now 8 c.args.now c.if-now-ge-MOMENT_LIMIT.true (refl, refl)

pub returns-then-is_judged : goal.returns-then-is_judged
returns-then-is_judged c =
    all_in_time (Ticks c.args.now) c.args.self.now c.judge.new.self c.args.now c.judge.result (omega (arith, c.if-now-ge-MOMENT_LIMIT.false))
    (either_judged (Passed c.args.now Nothing) (Performs (Ticked c.args.now)) c.args.self.now c.judge.new.self c.judge.result c.is_judged.result c.is_judged.ensures c.if-is_judged.true c.judge.ensures)

pub returns : goal.returns
returns c =
    all_in_time (Ticks c.args.now) c.args.self.now c.call_kept.new.self c.args.now c.call_kept.result (omega (arith, c.if-now-ge-MOMENT_LIMIT.false))
    (either_kept (Passed c.args.now Nothing) (Performs (Ticked c.args.now)) c.args.self.now c.call_kept.new.self c.call_kept.result c.is_judged.result c.is_judged.ensures c.if-is_judged.false c.call_kept.ensures)
