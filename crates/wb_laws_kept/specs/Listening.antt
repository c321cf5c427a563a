-- What a member hears of its own number while it listens, before it draws.
use Rattle.std.specs.Prelude.{◌≡◌, ◌≢◌, ℕ, ◌<◌, ◌≤◌, true, List, ◌∷◌, ◌++◌, Contains, nat_lt}
use Rattle.wb_names.specs.Ascending.{AreMarks}
use Rattle.wb_names.specs.Values.{MarkValue}
use Rattle.wb_names.specs.declared.name.PageId.{PageId}
use Rattle.wb_codec.specs.declared.datagram.Datagram.{Datagram}
use Rattle.wb_codec.specs.declared.datagram.Datagram.TheVariants.{Draw, Session, Request, AskPages, PageState}
use Rattle.wb_keeper.specs.Hearing.{marks_in}
use Rattle.wb_member.specs.Opened.{has_room_for, last_number, ticked}
use Rattle.wb_policy.specs.Choices.{own_echo, own_marks}
use Rattle.wb_names.specs.declared.name.TheConstants.{FIRST_FORGED}
use Rattle.wb_keeping.specs.Laws.{Came}
use Rattle.wb_keeping.specs.Performing.{Keeping}
use Rattle.wb_laws_kept.specs.Openings.{Opening}
use Rattle.wb_laws_kept.specs.Sessions.{At, kept_at}
use Rattle.wb_laws_kept.specs.Calls.{Begins, Call, Handed}

-- a session message or a page state of another has this mark of a page
abbrev pub TellsMark : Datagram → ℕ → PageId → MarkValue → Type 0
TellsMark (Draw d) me page m = ⊥
TellsMark (Session sender sent on marks echoes) me page m =
    (sender ≢ me) × (on ≡ page) × Contains marks m
TellsMark (Request asker name) me page m = ⊥
TellsMark (AskPages asker) me page m = ⊥
TellsMark (PageState sender on marks) me page m = (sender ≢ me) × (on ≡ page) × Contains marks m

-- what a self-managing member hears of a datagram that comes at a moment: of marks and echoes
-- its own alone, and of these marks those that it believes
abbrev pub heard_of : ℕ → Datagram → Keeping → Datagram
heard_of now (Draw d) k = Draw d
heard_of now (Session sender sent page marks echoes) k =
    let me = k.host.is.number in
    Session sender sent page (own_marks me (nat_lt now k.policy.ready) marks) (own_echo me echoes)
heard_of now (Request asker name) k = Request asker name
heard_of now (AskPages asker) k = AskPages asker
heard_of now (PageState sender page marks) k =
    PageState sender page (own_marks k.host.is.number (nat_lt now k.policy.ready) marks)

-- its marks have room beside those that were heard before
abbrev pub IsHeardWhole : ℕ → Datagram → Keeping → Type 0
IsHeardWhole now v k = has_room_for (heard_of now v k) (ticked now k.host) ≡ true

-- the program at a place did not start by these calls
abbrev pub HasNotBegun : List (At Call) → ℕ → Type 0
HasNotBegun calls i = (e : At Call) (o : Opening) (given : List Datagram) → Contains calls e
    → e.place ≡ i → e.event ≡ Begins o given → ⊥

-- A mark of its own number, below 2^31, that a member hears while it listens it knows until its
-- program starts anew. The marks are in order, as those of each datagram that was read: else an
-- earlier mark of the source could hide a greater one.
abbrev pub ListeningTells : Type 0
ListeningTells =
    (numbers : ℕ → ℕ) (newer older : List (At Call)) (e : At Call)
    (now : ℕ) (v : Datagram) (page : PageId) (m : MarkValue)
    → e.event ≡ Handed (Came now v) → now < (kept_at numbers older e.place).policy.ready
    → AreMarks (marks_in page v) → TellsMark v (numbers e.place) page m
    → m.source ≡ numbers e.place → m.high < FIRST_FORGED
    → IsHeardWhole now v (kept_at numbers older e.place) → HasNotBegun newer e.place
    → m.high ≤ last_number page (kept_at numbers (newer ++ e ∷ older) e.place).host
