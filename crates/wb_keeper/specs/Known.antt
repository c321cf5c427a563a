-- Which pages and which numbers a member knows of, from what it holds and what it heard.
use Rattle.std.specs.Prelude.{◌≡◌, ◌≢◌, ◌⊎◌, ℕ, List, [], ◌∷◌, ◌++◌, Any, map, Option, Some, None, if◌then◌else◌}
use Rattle.std.specs.List.{filter_map}
use Rattle.wb_names.specs.Values.{DrawopValue, MarkValue}
use Rattle.wb_names.specs.Orders.{page_cmp}
use Rattle.wb_names.specs.Listing.{Lists}
use Rattle.wb_names.specs.Marks.{known}
use Rattle.wb_names.specs.declared.name.PageId.{PageId}
use Rattle.wb_codec.specs.declared.datagram.Datagram.{Datagram}
use Rattle.wb_codec.specs.declared.datagram.Datagram.TheVariants.{Draw, Session, Request, AskPages, PageState}
use Rattle.wb_gaps.specs.Sorting.{sorted}
use Rattle.wb_keeper.specs.Keeper.{KeeperCall, Hear, is_own}
use Rattle.wb_keeper.specs.Hearing.{marks_heard}

-- ---- pages

-- the pages that have a drawop or of which some mark was heard, ascending, each once
abbrev pub AreKnownPages : (PageId → List MarkValue) → List DrawopValue → List PageId → Type 0
AreKnownPages heard history pages = Lists page_cmp (λ page. Any (λ d. d.name.page ≡ page) history ⊎ (heard page ≢ [])) pages

-- ---- the same as a function of the accepted calls

-- a page, if there are marks of it
abbrev pub page_where : PageId → List MarkValue → Option PageId
page_where page [] = None
page_where page (m ∷ marks) = Some page

-- the page of which a datagram tells some mark
abbrev pub page_in : Datagram → Option PageId
page_in (Session sender sent page marks echoes) = page_where page marks
page_in (PageState sender page marks) = page_where page marks
page_in (Draw d) = None
page_in (Request asker name) = None
page_in (AskPages asker) = None

abbrev pub page_named : ℕ → KeeperCall → Option PageId
page_named me (Hear now datagram word held) = if is_own me datagram then None else page_in datagram
page_named me call = None

-- the pages of which others told some mark
abbrev pub pages_heard : ℕ → List KeeperCall → List PageId
pages_heard me calls = filter_map (page_named me) calls

abbrev pub known_pages : ℕ → List KeeperCall → List DrawopValue → List PageId
known_pages me calls history = sorted page_cmp (map (λ d. d.name.page) history ++ pages_heard me calls)

-- They are the pages that have a drawop or of which some mark was heard.
abbrev pub KnownPagesAreKnown : Type 0
KnownPagesAreKnown = (me : ℕ) (calls : List KeeperCall) (history : List DrawopValue) → AreKnownPages (marks_heard me calls) history (known_pages me calls history)

-- ---- numbers

-- the greatest number of a source on a page that is held or was heard of it, or 0
abbrev pub known_number : ℕ → List KeeperCall → List DrawopValue → PageId → ℕ → ℕ
known_number me calls history page source = known history page (marks_heard me calls page) source
