-- Names, drawops and marks, as contracts see them.
use Rattle.std.specs.Prelude.{ℕ}
use Rattle.wb_names.specs.declared.name.PageId.{PageId}
use Rattle.wb_names.specs.declared.parts.Op.{Op}

-- the greatest source, creator, number of a page and sequence number: each has 32 bits
abbrev pub greatest_number : ℕ
greatest_number = 4294967295

-- the name of a drawop
pub record NameValue : Type 0 where
  pub source : ℕ
  pub page : PageId
  pub seq : ℕ

-- a drawop
pub record DrawopValue : Type 0 where
  pub name : NameValue
  pub time : ℕ
  pub op : Op

-- a source with the greatest number that is known of it
pub record MarkValue : Type 0 where
  pub source : ℕ
  pub high : ℕ
