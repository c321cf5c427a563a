-- Merged marks have the greatest numbers that were heard.
use Rattle.std.proofs.Common.{◌≡◌, ℕ, Bool, true, false, cond, max, List, [], ◌∷◌, refl, ap, ◌∙◌, arith}
use Rattle.wb_names.specs.Values.{MarkValue}
use Rattle.wb_names.specs.Ascending.{AreMarks}
use Rattle.wb_names.specs.Marks.{mark_of}
use Rattle.wb_names.specs.Orders.{same_page}
use Rattle.wb_names.specs.declared.name.PageId.{PageId}
use Rattle.wb_names.proofs.Listings.{Contains-here, Contains-there}
use Rattle.wb_codec.specs.declared.datagram.Datagram.{Datagram}
use Rattle.wb_codec.specs.declared.datagram.Datagram.TheVariants.{Session, PageState}
use Rattle.wb_gaps.specs.Joining.{joined}
use Rattle.wb_names.proofs.MarkLists.{Rises}
use Rattle.wb_gaps.proofs.JoinedMarks.{joins}
use Rattle.wb_keeper.specs.Hearing.{marks_in, marks_heard}
use Rattle.wb_keeper.specs.Keeper.{KeeperCall, Hear, is_own, high_in, high_heard}
use Rattle.wb_keeper.specs.KeeperLaws.{AreOrderly, MergedAreGreatest}

-- the mark that a datagram tells
pub high_is : (page : PageId) (source : ℕ) (datagram : Datagram) → mark_of (marks_in page datagram) source ≡ high_in page source datagram
high_is page source (Session sender sent p marks echoes) = where_told marks (same_page p page) where
  where_told : (marks : List MarkValue) (b : Bool) → mark_of (cond b marks []) source ≡ cond b (mark_of marks source) 0
  where_told marks true = refl
  where_told marks false = refl
high_is page source (PageState sender p marks) = where_told marks (same_page p page) where
  where_told : (marks : List MarkValue) (b : Bool) → mark_of (cond b marks []) source ≡ cond b (mark_of marks source) 0
  where_told marks true = refl
  where_told marks false = refl
high_is page source datagram = refl

module _ (me : ℕ) (page : PageId) where
  -- the marks of some calls ascend, and are the greatest
  record AreGreatest (calls : List KeeperCall) : Type 0 where
    rises : Rises (marks_heard me calls page)
    highs : (source : ℕ) → mark_of (marks_heard me calls page) source ≡ high_heard me calls page source

  reported : (calls : List KeeperCall) (datagram : Datagram) → AreMarks (marks_in page datagram) → AreGreatest calls → (b : Bool) →
      let old = marks_heard me calls page in
      let marks : List MarkValue = cond b [] (marks_in page datagram) in
      Rises (joined marks old) × ((source : ℕ) → mark_of (joined marks old) source ≡ max (cond b 0 (high_in page source datagram)) (high_heard me calls page source))
  reported calls datagram are rest true = (rest.rises, λ source. rest.highs source ∙ omega arith)
  reported calls datagram are rest false =
      let old = marks_heard me calls page in
      let j = joins (marks_in page datagram) are.ascending are.positive old rest.rises in
      (j.rises, λ source. j.highs source ∙ ap (λ (n : ℕ). max n (mark_of old source)) (high_is page source datagram) ∙ ap (max (high_in page source datagram)) (rest.highs source))

  step : (call : KeeperCall) (calls : List KeeperCall) → AreOrderly (call ∷ calls) page → AreGreatest calls → AreGreatest (call ∷ calls)
  step (Hear now datagram word held) calls all rest = let t = reported calls datagram (all now word datagram held (Contains-here _ calls)) rest (is_own me datagram) in record { rises = t.0; highs = t.1 }
  step call calls all rest = record { rises = rest.rises; highs = λ source. rest.highs source ∙ omega arith }

  are_greatest : (calls : List KeeperCall) → AreOrderly calls page → AreGreatest calls
  are_greatest [] all = record { rises = λ i j d ij jn. absurd (omega arith); highs = λ source. refl }
  are_greatest (call ∷ calls) all = step call calls all (are_greatest calls (λ now word datagram held c. all now word datagram held (Contains-there call _ calls c)))

pub merged_are_greatest : MergedAreGreatest
merged_are_greatest me calls page all = (are_greatest me page calls all).highs
