use Rattle.wb_progress.proofs.OneCall.{ticks_ask, ticks_answer, ticks_clear, ticks_end, ticks_leave, requests_set, misses_stand, given_up_is_idle}
use Rattle.wb_progress.proofs.laws.calls_tell_timers.Goals as goal

pub returns : goal.returns
returns c = record { asks = ticks_ask; answers = ticks_answer; clears = ticks_clear; ends = ticks_end; leaves = ticks_leave; sets = requests_set; stands = misses_stand; idle = given_up_is_idle }
