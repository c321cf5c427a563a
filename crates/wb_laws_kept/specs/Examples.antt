-- A program that starts anew, as an example: it is given what it drew.
use Rattle.std.specs.Prelude.{◌≡◌, ℕ, ◌+◌, List, [], ◌∷◌}
use Rattle.wb_names.specs.History.{name_of}
use Rattle.wb_names.specs.Values.{DrawopValue}
use Rattle.wb_names.specs.declared.name.PageId.{PageId}
use Rattle.wb_names.specs.declared.parts.Change.TheVariants.{Delete}
use Rattle.wb_names.specs.declared.parts.Op.{Op}
use Rattle.wb_names.specs.declared.parts.Op.TheVariants.{Aimed}
use Rattle.wb_codec.specs.declared.datagram.Datagram.TheVariants.{Draw, Session}
use Rattle.wb_keeping.specs.Laws.{Added, Came}
use Rattle.wb_laws_kept.specs.Openings.{Opening}
use Rattle.wb_laws_sessions.specs.Drawn.{drawn_at}
use Rattle.wb_laws_kept.specs.Restarts.{KnowTheirOwn, RecordsAreWhole}
use Rattle.wb_laws_kept.specs.Sessions.{AreTaken, At, DrawopsWereHeld, steps_of}
use Rattle.wb_laws_kept.specs.Calls.{Begins, Call, Handed}

abbrev pub page : PageId
page = record { creator = 10; number = 1 }

abbrev pub numbers : ℕ → ℕ
numbers i = 10 + i

abbrev pub deletes : Op
deletes = Aimed Delete (record { source = 11; seq = 1 })

abbrev pub opening : ℕ → ℕ → Opening
opening seed moment = record {
  constants = record { c1 = 2; c2 = 2; d1 = 1; d2 = 1 };
  cells = 8;
  seed = seed;
  moments = moment ∷ [];
  rate = 4096;
  listen = 0;
}

abbrev pub at : ℕ → Call → At Call
at time call = record { time = time; place = 0; event = call }

abbrev pub first : DrawopValue
first = record { name = name_of page 10 1; time = 5; op = deletes }

abbrev pub second : DrawopValue
second = record { name = name_of page 10 2; time = 6; op = deletes }

-- It draws, starts anew with that in its record, and draws again. The newest is the first.
abbrev pub once : List (At Call)
once =
    at 2 (Handed (Added 2 page 5 deletes))
    ∷ at 1 (Begins (opening 1 1) [])
    ∷ []

abbrev pub restarted : List (At Call)
restarted =
    at 4 (Handed (Added 8 page 5 deletes))
    ∷ at 3 (Begins (opening 2 7) (Draw first ∷ []))
    ∷ once

-- Its numbers are 1 and 2.
pub record Restarts : Type 0 where
  pub taken : AreTaken numbers restarted
  pub held : DrawopsWereHeld numbers restarted
  pub whole : RecordsAreWhole numbers restarted
  pub drawn : drawn_at numbers (steps_of numbers restarted) 0 ≡ second ∷ first ∷ []

-- Without it, and without time to listen, its number is 1 again: it does not know its own.
abbrev pub again : DrawopValue
again = record { name = name_of page 10 1; time = 6; op = deletes }

abbrev pub forgotten : List (At Call)
forgotten =
    at 4 (Handed (Added 8 page 6 deletes))
    ∷ at 3 (Begins (opening 2 7) [])
    ∷ once

pub record Forgets : Type 0 where
  pub taken : AreTaken numbers forgotten
  pub held : DrawopsWereHeld numbers forgotten
  pub drawn : drawn_at numbers (steps_of numbers forgotten) 0 ≡ again ∷ first ∷ []
  pub unknown : KnowTheirOwn numbers forgotten → ⊥

-- Its record lost the tail, and another tells of it while it listens: its next number is 3.
abbrev pub after_first : DrawopValue
after_first = record { name = name_of page 10 2; time = 6; op = deletes }

abbrev pub third : DrawopValue
third = record { name = name_of page 10 3; time = 6; op = deletes }

abbrev pub listening : ℕ → ℕ → Opening
listening seed moment = record (opening seed moment) { listen = 6000000 }

abbrev pub twice : List (At Call)
twice = at 3 (Handed (Added 3 page 5 deletes)) ∷ once

abbrev pub cut_off : List (At Call)
cut_off =
    at 5 (Handed (Came 9 (Session 11 5 page (record { source = 10; high = 2 } ∷ []) [])))
    ∷ at 4 (Begins (listening 2 7) (Draw first ∷ []))
    ∷ twice

abbrev pub told : List (At Call)
told = at 6 (Handed (Added 6000008 page 5 deletes)) ∷ cut_off

pub record Listens : Type 0 where
  pub taken : AreTaken numbers told
  pub held : DrawopsWereHeld numbers told
  pub know : KnowTheirOwn numbers told
  pub drawn : drawn_at numbers (steps_of numbers told) 0 ≡ third ∷ after_first ∷ first ∷ []
