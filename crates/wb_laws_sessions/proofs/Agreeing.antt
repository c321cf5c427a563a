-- Equal reports and no gaps tell agreement, at any two moments.
use Rattle.std.proofs.Common.{◌≡◌, ℕ, ◌≤◌, Bool, true, false, cond, List, [], ◌∷◌, arith, refl}
use Rattle.std.specs.Prelude.{nat_eq}
use Rattle.wb_names.specs.declared.name.PageId.{PageId}
use Rattle.wb_gaps.specs.Answers.{report_of}
use Rattle.wb_member.specs.Opened.{gaps_at}
use Rattle.wb_recovery.specs.declared.tuning.Tuning.{Tuning}
use Rattle.wb_board.specs.Counts.{MAX_CELLS}
use Rattle.wb_laws_machines.specs.Agreement.{Agree}
use Rattle.wb_laws_machines.specs.Honest.{AnyName, AreApart, AreHonest as AreHonestOf, IsOn}
use Rattle.wb_laws_machines.specs.Laws.{HoldsAllDrawn}
use Rattle.wb_laws_machines.specs.Machines.{AreTaken, part, whole, ◌⊑◌}
use Rattle.wb_laws_machines.proofs.Agreeing as of
use Rattle.wb_laws_machines.proofs.Honest.{honest_of}
use Rattle.wb_laws_sessions.specs.Drawn.{AreHonest, StepsAreHonest}
use Rattle.wb_laws_sessions.specs.Members.{Deed, Does, IsSmall, Opens, after_deed, member}
use Rattle.wb_laws_sessions.specs.Sessions.{Step, host_at}
use Rattle.wb_laws_sessions.proofs.Deeds.{Fits, fits_after}
use Rattle.wb_laws_sessions.proofs.Drawn.{honest_is}
use Rattle.wb_laws_sessions.proofs.Members.{member_is_lawful, members_are_small}

module _ (numbers : ℕ → ℕ) where
  pub fits : (older : List Step) → AreHonest numbers older → (i : ℕ) → Fits (host_at numbers older i)
  fits [] honest i = record { few = omega arith; small = omega arith }
  fits (e ∷ older) honest i = by (fits older honest.1 i) (nat_eq e.place i) where
    by : Fits (host_at numbers older i) → (b : Bool) → Fits (cond b (after_deed e.event (host_at numbers older i)) (host_at numbers older i))
    by f true = fits_after e.event (host_at numbers older i) honest.0.small f
    by f false = f

  pub older_honest : {older steps : List Step} → older ⊑ steps → AreHonest numbers steps → AreHonest numbers older
  older_honest whole honest = honest
  older_honest (part behind) honest = older_honest behind honest.1

  pub taken : (steps : List Step) → AreHonest numbers steps → AreTaken member numbers steps
  taken [] honest = tt
  taken (e ∷ older) honest = (small e.event honest.0.small, taken older honest.1) where
    small : (deed : Deed) → ((constants : Tuning) (cells seed : ℕ) → deed ≡ Opens constants cells seed → cells ≤ MAX_CELLS) → IsSmall deed
    small (Does line) opens = tt
    small (Opens constants cells seed) opens = opens constants cells seed refl

pub steps_are_honest : StepsAreHonest
steps_are_honest numbers steps honest = (taken numbers steps honest, honest_is numbers steps honest)

of_page : (numbers : ℕ → ℕ) (steps : List Step) (page : PageId) → AreHonest numbers steps → AreHonestOf (IsOn page) member numbers steps
of_page numbers steps page honest = honest_of member numbers AnyName (IsOn page) (λ n is. tt) steps (honest_is numbers steps honest)

pub reports_tell_agreement : (numbers : ℕ → ℕ) (steps older older' : List Step) (i j : ℕ) (page : PageId)
    → AreApart numbers → AreHonest numbers steps → older ⊑ steps → older' ⊑ steps
    → report_of (host_at numbers older i).is.held page ≡ report_of (host_at numbers older' j).is.held page
    → gaps_at page (host_at numbers older i) ≡ [] → gaps_at page (host_at numbers older' j) ≡ [] → Agree (host_at numbers older i) (host_at numbers older' j) page
reports_tell_agreement numbers steps older older' i j page apart honest =
    of.reports_tell_agreement member member_is_lawful members_are_small numbers steps older older' i j page apart (taken numbers steps honest) (of_page numbers steps page honest)

pub whole_boards_agree : (numbers : ℕ → ℕ) (steps : List Step) (i j : ℕ) (page : PageId) → AreHonest numbers steps
    → HoldsAllDrawn member numbers steps page i → HoldsAllDrawn member numbers steps page j → Agree (host_at numbers steps i) (host_at numbers steps j) page
whole_boards_agree numbers steps i j page honest = of.whole_boards_agree member member_is_lawful numbers steps i j page (of_page numbers steps page honest)
