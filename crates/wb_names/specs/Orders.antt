-- The orders of pages and names, the order of display, and equality as a test.
use Rattle.std.specs.Prelude.{◌≡◌, Bool, ◌&&◌, nat_eq}
use Rattle.std.specs.declared.cmp.Ordering.{Ordering}
use Rattle.std.specs.declared.cmp.Ordering.TheVariants.{Less}
use Rattle.std.specs.Ordering.{nat_cmp, ordering_then}
use Rattle.wb_names.specs.Values.{NameValue, DrawopValue}
use Rattle.wb_names.specs.declared.name.PageId.{PageId}

abbrev pub same_page : PageId → PageId → Bool
same_page p q = nat_eq p.creator q.creator && nat_eq p.number q.number

-- by creator, then by number
abbrev pub page_cmp : PageId → PageId → Ordering
page_cmp p q = ordering_then (nat_cmp p.creator q.creator) (nat_cmp p.number q.number)

abbrev pub same_name : NameValue → NameValue → Bool
same_name m n = (nat_eq m.source n.source && same_page m.page n.page) && nat_eq m.seq n.seq

-- by source, then by page, then by number
abbrev pub name_cmp : NameValue → NameValue → Ordering
name_cmp m n = ordering_then (nat_cmp m.source n.source) (ordering_then (page_cmp m.page n.page) (nat_cmp m.seq n.seq))

-- Drawops are displayed by time, then by source, then by number. Two of one page that tie have one name.
abbrev pub display_cmp : DrawopValue → DrawopValue → Ordering
display_cmp d e = ordering_then (nat_cmp d.time e.time) (ordering_then (nat_cmp d.name.source e.name.source) (nat_cmp d.name.seq e.name.seq))

-- d is displayed before e
abbrev pub IsBefore : DrawopValue → DrawopValue → Type 0
IsBefore d e = display_cmp d e ≡ Less
