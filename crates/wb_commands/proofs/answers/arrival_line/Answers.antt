use Rattle.std.proofs.Common.{arith, rules}
use Rattle.wb_commands.proofs.Counts.{digits_line}
use Rattle.wb_commands.proofs.answers.arrival_line.Goals as goal

pub returns-in-Some-New : goal.returns-in-Some-New
returns-in-Some-New c = let line = digits_line 1 0 0 0 (omega arith) (omega arith) (omega arith) (omega arith) in search (rules, line)

pub returns-in-Some-Again : goal.returns-in-Some-Again
returns-in-Some-Again c = let line = digits_line 0 1 0 0 (omega arith) (omega arith) (omega arith) (omega arith) in search (rules, line)

pub returns-in-Some-Clash : goal.returns-in-Some-Clash
returns-in-Some-Clash c = let line = digits_line 0 0 1 0 (omega arith) (omega arith) (omega arith) (omega arith) in search (rules, line)

pub returns-in-None : goal.returns-in-None
returns-in-None c = let line = digits_line 0 0 0 1 (omega arith) (omega arith) (omega arith) (omega arith) in search (rules, line)
