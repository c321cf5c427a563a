-- What the desk that owns all rows of a board is answered: p is the desk before the call, q the desk after it.
use Rattle.std.proofs.Common.{◌≡◌, ℕ, List, ap, ◌∙◌, ◌⊎◌, inl, inr}
use Rattle.wb_names.specs.Values.{DrawopValue, MarkValue}
use Rattle.wb_names.specs.declared.name.PageId.{PageId}
use Rattle.wb_board.specs.Desks.{HistoryValue, PassValue, IsSound, ReadsOn}
use Rattle.wb_names.specs.declared.gap.Gap.{Gap}
use Rattle.wb_names.specs.Marks.{IsReport}
use Rattle.wb_gaps.specs.Answers.{gaps_of, report_of, pages_of}
use Rattle.wb_gaps.specs.Gaps.{AreGaps}
use Rattle.wb_gaps.specs.Pages.{ArePages}
use Rattle.wb_gaps.proofs.MissingRanges.{only_gaps}
use Rattle.wb_gaps.proofs.PageAnswers.{only_report, only_pages}
use Rattle.wb_board.specs.Board.{IsAnswer, AskView, Shown}
use Rattle.wb_digest.specs.Digest.{IsDigest, digest_of}
use Rattle.wb_digest.proofs.Ordered.{digests_are_one}
use Rattle.wb_keeper.proofs.KeeperAnswers.{few_seen}
use Rattle.wb_member.specs.Board.{Held, held_of, OwnsAll}
use Rattle.wb_member.specs.Queries.{view_of}
use Rattle.wb_member.proofs.Queries.{only_view}

pub seen_here : (b : HistoryValue) (p q : PassValue) (h : Held) → held_of p ≡ h → OwnsAll b p → ReadsOn p q → q.seen ≡ h.drawops
seen_here b p q h view owns r = r.nothing.1 owns.whole ∙ ap (λ (k : Held). k.drawops) view

-- the answers of a board whose desk owns all rows
pub view_here : (b : HistoryValue) (p q : PassValue) (h : Held) (page : PageId) (shown : List DrawopValue) → held_of p ≡ h → OwnsAll b p → ReadsOn p q → IsAnswer q.seen (AskView page) (Shown shown) → shown ≡ view_of h.drawops page
view_here b p q h page shown view owns r answer = only_view q.seen page shown r.sound.history answer ∙ ap (λ (seen : List DrawopValue). view_of seen page) (seen_here b p q h view owns r)

pub gaps_here : (p : PassValue) (h : Held) (page : PageId) (marks told : List MarkValue) (gaps : List Gap) → held_of p ≡ h → marks ≡ told → AreGaps p.seen page marks gaps → gaps ≡ gaps_of h.drawops page told
gaps_here p h page marks told gaps view e are = only_gaps p.seen page marks gaps are ∙ ap (gaps_of p.seen page) e ∙ ap (λ (k : Held). gaps_of k.drawops page told) view

pub report_here : (p : PassValue) (h : Held) (page : PageId) (marks : List MarkValue) → held_of p ≡ h → IsSound p → IsReport p.seen page marks → marks ≡ report_of h.drawops page
report_here p h page marks view sound is = only_report p.seen page marks (few_seen p sound) is ∙ ap (λ (k : Held). report_of k.drawops page) view

pub pages_here : (p : PassValue) (h : Held) (pages : List PageId) → held_of p ≡ h → ArePages p.seen pages → pages ≡ pages_of h.drawops
pages_here p h pages view are = only_pages p.seen pages are ∙ ap (λ (k : Held). pages_of k.drawops) view

pub digest_here : (p : PassValue) (h : Held) (page : PageId) (digest : List ℕ) → held_of p ≡ h → IsSound p → IsDigest p.seen page digest → digest ≡ digest_of h.drawops page
digest_here p h page digest view sound is = (digests_are_one p.seen page sound.history).only digest is ∙ ap (λ (k : Held). digest_of k.drawops page) view

-- a call that read on, or was refused before
pub same_still : (b : HistoryValue) (p q : PassValue) → OwnsAll b p → (q ≡ p) ⊎ ReadsOn p q → held_of q ≡ held_of p
same_still b p q owns (inl e) = ap held_of e
same_still b p q owns (inr r) =
    ap (λ (n : ℕ). let k : Held = record { cells = n; drawops = q.seen } in k) r.same.1 ∙ ap (λ (ds : List DrawopValue). let k : Held = record { cells = p.cells; drawops = ds } in k) (r.nothing.1 owns.whole)

pub seen_still : (b : HistoryValue) (p q : PassValue) → OwnsAll b p → (q ≡ p) ⊎ ReadsOn p q → q.seen ≡ p.seen
seen_still b p q owns r = ap (λ (k : Held). k.drawops) (same_still b p q owns r)
