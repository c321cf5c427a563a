-- How many words and steps there are.
use Rattle.std.specs.Prelude.{ℕ, ◌+◌}
pub use Rattle.wb_codec.specs.Rows.{row_words}

-- How many words a row has in the table, of which its record takes the first: as many as two lines of a processor's cache, so that
-- no two rows share a line
abbrev pub row_stride : ℕ
row_stride = 16

-- the steps that read one drawop: a load of its cell, and one of each word of its row
abbrev pub drawop_steps : ℕ
drawop_steps = row_words + 1
