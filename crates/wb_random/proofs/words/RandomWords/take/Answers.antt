use Rattle.std.proofs.Common.{arith}
use Rattle.wb_random.proofs.SeedWords.{one_more}
use Rattle.wb_random.proofs.words.RandomWords.take.Goals as goal

pub loop-preserved : goal.loop-preserved
loop-preserved c =
    let taken = c.loop.invariant in
    let more = one_more c.args.self.now c.loop.self c.loop.counter c.loop.words.items c.push_reserved.new.self.items c.next.result c.next.new.self taken.words taken.rest c.next.ensures.word c.next.ensures.rest c.push_reserved.ensures.items in
    record {
      len = omega (arith, c.push_reserved.ensures.len, taken.len);
      room = omega (arith, c.push_reserved.ensures.capacity, taken.room);
      words = more.words;
      rest = more.rest;
    }
