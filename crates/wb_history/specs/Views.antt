-- What a pass knows after each kind of step.
use Rattle.wb_history.specs.Sizes.{row_words}
use Rattle.std.specs.Prelude.{◌≡◌, ℕ, ◌+◌, ◌-◌, List, [], ◌∷◌, ◌++◌, length, take, drop}
use Rattle.wb_history.specs.declared.knowledge.Knowledge.{Knowledge}
use Rattle.wb_names.specs.Values.{DrawopValue}
use Rattle.wb_history.specs.Lists.{longer, shorter}
use Rattle.std.specs.List.{range_with_len}

-- the first pass: it has seen nothing, and all rows are its own
abbrev pub whole_pass : ℕ → Knowledge
whole_pass cells = record { cells = cells; seen = []; joined = []; mine = []; free = range_with_len 0 cells; looking = 0; read = []; stored = []; made = 0; last_word = 0; last_found = 0 }

abbrev pub HasAllRows : Knowledge → Type 0
HasAllRows v = length v.free + length v.mine ≡ v.cells

-- a load that only confirms what the pass knows
abbrev pub after_confirm : Knowledge → ℕ → ℕ → Knowledge
after_confirm v word found = record v { joined = []; made = v.made + 1; last_word = word; last_found = found }

abbrev pub after_look : Knowledge → ℕ → ℕ → Knowledge
after_look v word found = record v { looking = found; read = []; stored = []; made = v.made + 1; last_word = word; last_found = found }

abbrev pub after_read : Knowledge → ℕ → ℕ → Knowledge
after_read v word found = record v { read = v.read ++ found ∷ []; made = v.made + 1; last_word = word; last_found = found }

abbrev pub after_drawop : Knowledge → DrawopValue → ℕ → ℕ → Knowledge
after_drawop v d word found = record v { seen = v.seen ++ d ∷ []; looking = 0; read = []; made = v.made + 1; last_word = word; last_found = found }

abbrev pub after_store : Knowledge → ℕ → ℕ → Knowledge
after_store v word n = record v { stored = v.stored ++ n ∷ []; made = v.made + 1; last_word = word; last_found = n }

abbrev pub after_win : Knowledge → DrawopValue → ℕ → Knowledge
after_win v d word = record v {
  seen = v.seen ++ d ∷ [];
  mine = v.mine ++ length v.seen ∷ [];
  free = take (length v.free - 1) v.free;
  looking = 0;
  read = [];
  stored = [];
  made = v.made + 1;
  last_word = word;
  last_found = 0;
}

abbrev pub after_loss : Knowledge → ℕ → ℕ → Knowledge
after_loss v word found = record v { looking = found; read = []; made = v.made + 1; last_word = word; last_found = found }

-- the view w after all words of the row of d were read
pub record IsRead (v : Knowledge) (d : DrawopValue) (w : Knowledge) : Type 0 where
  pub cells : w.cells ≡ v.cells
  pub seen : w.seen ≡ v.seen ++ d ∷ []
  pub mine : w.mine ≡ v.mine
  pub free : w.free ≡ v.free
  pub stored : w.stored ≡ v.stored
  pub made : w.made ≡ v.made + row_words

-- the view w after the record of d was stored into the last free row
pub record IsStored (v : Knowledge) (record_of : List ℕ) (w : Knowledge) : Type 0 where
  pub cells : w.cells ≡ v.cells
  pub seen : w.seen ≡ v.seen
  pub mine : w.mine ≡ v.mine
  pub free : w.free ≡ v.free
  pub stored : w.stored ≡ record_of
  pub made : w.made ≡ v.made + length record_of

-- the pass that is split keeps its first rows, and its last n go to the new pass
abbrev pub left_part : ℕ → Knowledge → Knowledge
left_part n v = record v { free = take (length v.free - n) v.free; looking = 0; read = []; stored = [] }

abbrev pub right_part : ℕ → Knowledge → Knowledge
right_part n v = record { cells = v.cells; seen = v.seen; joined = []; mine = []; free = drop (length v.free - n) v.free; looking = 0; read = []; stored = []; made = 0; last_word = 0; last_found = 0 }

abbrev pub united : Knowledge → Knowledge → Knowledge
united v w = record v { seen = longer v.seen w.seen; joined = shorter v.seen w.seen; mine = v.mine ++ w.mine; free = v.free ++ w.free; looking = 0; read = []; stored = [] }

-- a pass that was joined to another
abbrev pub spent : Knowledge
spent = record { cells = 0; seen = []; joined = []; mine = []; free = []; looking = 0; read = []; stored = []; made = 0; last_word = 0; last_found = 0 }
