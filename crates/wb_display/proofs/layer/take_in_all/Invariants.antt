use Rattle.std.proofs.Common.{◌≡◌, ◌≤◌, ◌+◌, vec_len, vec_capacity, take, drop}
use Rattle.indexmap.specs.IndexMap.{spare}
use Rattle.wb_display.specs.TakingIn.{AreHeld, Touches}
use Rattle.wb_display.specs.Layer.{held_with_all, news_count, held_of}
use Rattle.wb_display.proofs.layer.take_in_all.Given as goal

abbrev pub invariant-loop-drawop : goal.invariant-loop-drawop
invariant-loop-drawop l = record {
  page : l.words.page ≡ l.fn.words.page;
  held : AreHeld l.words l.drawops.entries;
  all : held_of l.drawops.entries ≡ held_with_all l.fn.words.page (held_of l.fn.drawops.entries) (take l.drawop-index l.list);
  touches : Touches l.words.page (held_of l.fn.drawops.entries) (held_of l.drawops.entries) l.touched.items;
  room : (news_count l.words.page (held_of l.drawops.entries) (drop l.drawop-index l.list) ≤ spare l.words.latest) × (news_count l.words.page (held_of l.drawops.entries) (drop l.drawop-index l.list) ≤ spare l.drawops) × (vec_len l.touched + news_count l.words.page (held_of l.drawops.entries) (drop l.drawop-index l.list) ≤ vec_capacity l.touched);
  count : vec_len l.touched + news_count l.words.page (held_of l.drawops.entries) (drop l.drawop-index l.list) ≤ news_count l.fn.words.page (held_of l.fn.drawops.entries) l.list;
}
