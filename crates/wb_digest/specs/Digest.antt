-- The digest of a page.
use Rattle.std.specs.Prelude.{◌≡◌, ℕ, List, IsPermutation}
use Rattle.std.specs.List.{flat_map}
use Rattle.std.specs.List.Sorted.{IsSorted}
use Rattle.std.specs.declared.cmp.Ordering.{Ordering}
use Rattle.sha2.specs.Sha256.{sha256}
use Rattle.wb_names.specs.Values.{DrawopValue}
use Rattle.wb_names.specs.Orders.{name_cmp}
use Rattle.wb_names.specs.declared.name.PageId.{PageId}
use Rattle.wb_codec.specs.Spelling.{spelling}
use Rattle.wb_codec.specs.declared.datagram.Datagram.TheVariants.{Draw}
use Rattle.wb_display.specs.Laws.{on_page}
use Rattle.wb_gaps.specs.Sorting.{sorted}

-- by source, then by number, on one page
abbrev pub name_order : DrawopValue → DrawopValue → Ordering
name_order d e = name_cmp d.name e.name

-- the drawops of a page, deletes and restores with them, in ascending order of source and number
pub record ArePageInOrder (history : List DrawopValue) (page : PageId) (drawops : List DrawopValue) : Type 0 where
  pub all : IsPermutation (on_page page history) drawops
  pub ascending : IsSorted name_order drawops

-- each as its datagram, one behind the other
abbrev pub hashed_text : List DrawopValue → List ℕ
hashed_text drawops = flat_map (λ d. spelling (Draw d)) drawops

-- the SHA-256 of the page's drawops in order
pub record IsDigest (history : List DrawopValue) (page : PageId) (digest : List ℕ) : Type 0 where
  pub drawops : List DrawopValue
  pub in_order : ArePageInOrder history page drawops
  pub is : digest ≡ sha256 (hashed_text drawops)

-- it as a function of what is held, where no name stands twice
unfoldable pub digest_of : List DrawopValue → PageId → List ℕ
digest_of history page = sha256 (hashed_text (sorted name_order (on_page page history)))
