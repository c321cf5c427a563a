use Rattle.std.proofs.Common.{rules, ◌≡◌, ◌∙◌, ◌+◌, ◌++◌, [], ◌∷◌, true, false, sym, arith, vec_len}
use Rattle.wb_display.specs.Layer.{is_news, held_of}
use Rattle.wb_display.proofs.Layers.{touched_more, touched_alone, step_held, room_left, held_more_puts, held_not_more}
use Rattle.wb_display.proofs.layer.take_in_all.Goals as goal
use Rattle.wb_display.proofs.layer.take_in_all.Goals.{then-is_news+in-Some, then-is_news+in_default, else-is_news}

pub loop-drawop-preserved : goal.loop-drawop-preserved
loop-drawop-preserved c =
    let inv = c.loop-drawop.invariant in
    let d = c.drawop-item.result in
    let words = c.loop-drawop.words in
    let entries = c.loop-drawop.drawops.entries in
    let i = c.loop-drawop.drawop-index in
    let is = sym c.drawop-item.is in
    elim c.if-is_news.branch [
      | then-is_news+in-Some w ↦
          let news : is_news words.page (held_of entries) d ≡ true = sym (c.is_news.ensures inv.held.keys) ∙ w.if-is_news.true in
          let step = step_held words w.hold.new.words entries w.hold.new.drawops.entries c.args.list.now i d (omega arith) is news w.hold.ensures.page w.hold.ensures.held inv.held in
          let grown : w.push.new.self.items ≡ c.loop-drawop.touched.items ++ w.in-Some.affected ∷ [] = search rules in
          let len : vec_len w.push.new.self ≡ vec_len c.loop-drawop.touched + 1 = search rules in
          let capacity = w.push.ensures.capacity in
          let touches = touched_more words w.hold.new.words entries w.hold.new.drawops.entries d w.hold.ensures.page inv.held step.0 step.1 (held_of c.args.drawops.now.entries) c.loop-drawop.touched.items w.in-Some.affected (sym w.in-Some.ensures.affected) inv.touches in
          rw (w.words-is, w.drawops-is, w.touched-is) (record {
            page = w.hold.ensures.page ∙ inv.page;
            held = step.0;
            all = held_more_puts c.args.words.now.page words.page (held_of c.args.drawops.now.entries) (held_of entries) _ c.args.list.now i d (omega arith) is inv.page inv.all step.2;
            touches = rw (w.hold.ensures.page, grown) touches;
            room = (omega (arith, step.3), omega (arith, step.3), omega (arith, step.3));
            count = omega (arith, step.3);
          })
      | then-is_news+in_default w ↦
          let news : is_news words.page (held_of entries) d ≡ true = sym (c.is_news.ensures inv.held.keys) ∙ w.if-is_news.true in
          let step = step_held words w.hold.new.words entries w.hold.new.drawops.entries c.args.list.now i d (omega arith) is news w.hold.ensures.page w.hold.ensures.held inv.held in
          let touches = touched_alone words w.hold.new.words entries w.hold.new.drawops.entries d w.hold.ensures.page inv.held step.0 step.1 (held_of c.args.drawops.now.entries) c.loop-drawop.touched.items (sym w.in_default.ensures.affected) inv.touches in
          rw (w.words-is, w.drawops-is, w.touched-is) (record {
            page = w.hold.ensures.page ∙ inv.page;
            held = step.0;
            all = held_more_puts c.args.words.now.page words.page (held_of c.args.drawops.now.entries) (held_of entries) _ c.args.list.now i d (omega arith) is inv.page inv.all step.2;
            touches = rw w.hold.ensures.page touches;
            room = (omega (arith, step.3), omega (arith, step.3), omega (arith, step.3));
            count = omega (arith, step.3);
          })
      | else-is_news w ↦
          let known : is_news words.page (held_of entries) d ≡ false = sym (c.is_news.ensures inv.held.keys) ∙ w.if-is_news.false in
          let room = room_left words.page (held_of entries) c.args.list.now i d (omega arith) is known in
          rw (w.words-is, w.drawops-is, w.touched-is) (record {
            page = inv.page;
            held = inv.held;
            all = held_more_puts c.args.words.now.page words.page (held_of c.args.drawops.now.entries) (held_of entries) _ c.args.list.now i d (omega arith) is inv.page inv.all (held_not_more words.page (held_of entries) d known);
            touches = inv.touches;
            room = (omega (arith, room), omega (arith, room), omega (arith, room));
            count = omega (arith, room);
          })
    ]
