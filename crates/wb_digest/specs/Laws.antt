-- What digests tell of pages.
use Rattle.std.specs.Prelude.{◌≡◌, ◌≢◌, ℕ, ◌⊎◌, List, Contains, IsPermutation}
use Rattle.sha2.specs.Sha256.{sha256}
use Rattle.wb_names.specs.Values.{DrawopValue}
use Rattle.wb_names.specs.History.{IsHistory}
use Rattle.wb_names.specs.declared.name.PageId.{PageId}
use Rattle.wb_display.specs.Display.{IsView}
use Rattle.wb_display.specs.Laws.{on_page}
use Rattle.wb_digest.specs.Digest.{IsDigest, digest_of}

-- the same drawops of a page, and so the same view of it
pub record HoldOnePage (one other : List DrawopValue) (page : PageId) : Type 0 where
  pub held : IsPermutation (on_page page one) (on_page page other)
  pub shown : (view again : List DrawopValue) → IsView one page view → IsView other page again → view ≡ again

-- two texts that differ and have one SHA-256
pub record Collision : Type 0 where
  pub one : List ℕ
  pub other : List ℕ
  pub differ : one ≢ other
  pub same : sha256 one ≡ sha256 other

-- of two boards whose digests of a page are equal
abbrev pub TellPages : List DrawopValue → List DrawopValue → Type 0
TellPages one other = (page : PageId) (digest : List ℕ) → IsDigest one page digest → IsDigest other page digest → HoldOnePage one other page ⊎ Collision

-- what one holds of a page the other holds, too
abbrev pub HoldsPageOf : PageId → List DrawopValue → List DrawopValue → Type 0
HoldsPageOf page one other = (d : DrawopValue) → d.name.page ≡ page → Contains other d → Contains one d

-- boards that hold the same drawops of a page have one digest of it
abbrev pub DigestsAgree : Type 0
DigestsAgree = (one other : List DrawopValue) (page : PageId) (digest again : List ℕ) → IsHistory one → IsHistory other → HoldsPageOf page one other → HoldsPageOf page other one → IsDigest one page digest → IsDigest other page again → digest ≡ again

-- the function gives the digest of a page, and there is no other
pub record OneDigest (history : List DrawopValue) (page : PageId) : Type 0 where
  pub is : IsDigest history page (digest_of history page)
  pub only : (digest : List ℕ) → IsDigest history page digest → digest ≡ digest_of history page

abbrev pub DigestsAreOne : Type 0
DigestsAreOne = (history : List DrawopValue) (page : PageId) → IsHistory history → OneDigest history page
