-- What one act of a member brings, and what is drawn by it.
use Rattle.std.proofs.Common.{◌≡◌, ℕ, List, [], ◌∷◌, subst, ◌⊎◌, inl, inr, ⊎_elim}
use Rattle.std.specs.Prelude.{Contains}
use Rattle.wb_names.specs.Values.{DrawopValue, MarkValue}
use Rattle.wb_names.specs.Arrivals.{outcome_of, history_with, history_after}
use Rattle.wb_names.specs.declared.echo.Echo.{Echo}
use Rattle.wb_names.specs.declared.name.PageId.{PageId}
use Rattle.wb_names.proofs.Listings.{Contains-here, Contains-there, Contains-none}
use Rattle.wb_codec.specs.declared.datagram.Datagram.TheVariants.{Draw, Session, AskPages}
use Rattle.wb_member.specs.Members.{Member, Act, Draws, Takes, Hears, Ticks, Reports, AsksForPages, next_drawop, after, sends}
use Rattle.wb_laws_machines.proofs.Outcomes.{with_more}
use Rattle.wb_laws_sessions.proofs.Sending.{answers_held, no_answer, one_draw, one_of}
use Rattle.wb_laws_sessions.proofs.Deeds.{arrival_brings}

-- an act takes this drawop
abbrev pub IsTaking : Act → DrawopValue → Type 0
IsTaking (Takes now batch order) x = Contains order x
IsTaking act x = ⊥

-- an act of the member draws this drawop
abbrev pub IsDrawing : Act → Member → DrawopValue → Type 0
IsDrawing (Draws page time op) m x = next_drawop m page time op ≡ x
IsDrawing act m x = ⊥

-- ---- what is held

with_batch : (cells : ℕ) (h batch : List DrawopValue) (x : DrawopValue) → Contains (history_after cells h batch) x → Contains h x ⊎ Contains batch x
with_batch cells h [] x c = inl c
with_batch cells h (d ∷ batch) x c = ⊎_elim
    (λ (g : Contains (history_with h d (outcome_of cells h d)) x). ⊎_elim
    (λ (k : Contains h x). inl k)
    (λ (e : d ≡ x). inr (subst (λ (y : DrawopValue). Contains (d ∷ batch) y) e (Contains-here d batch)))
    (arrival_brings h d x (outcome_of cells h d) g))
    (λ (g : Contains batch x). inr (Contains-there d x batch g))
    (with_batch cells (history_with h d (outcome_of cells h d)) batch x c)

pub held_after : (act : Act) (m : Member) (x : DrawopValue) → Contains (after act m).held x → Contains m.held x ⊎ IsTaking act x
held_after (Takes now batch order) m x c = with_batch m.cells m.held order x c
held_after act m x c = inl c

-- ---- what is sent

pub draws_sent : (act : Act) (m : Member) (d : DrawopValue) → Contains (sends act m) (Draw d) → Contains m.held d ⊎ IsDrawing act m d
draws_sent (Draws page time op) m d c = inr (one_draw (next_drawop m page time op) d (one_of _ _ c))
draws_sent (Hears now datagram word) m d c = absurd (no_answer m.number m.held datagram d c)
draws_sent (Ticks now words) m d c = inl (answers_held m.number m.held _ d c)
draws_sent (Reports now page) m d c = absurd (other m.number now page _ _ (one_of _ _ c)) where
  other : (sender now : ℕ) (page : PageId) (marks : List MarkValue) (echoes : List Echo) → Session sender now page marks echoes ≡ Draw d → ⊥
  other sender now page marks echoes e = cc
draws_sent AsksForPages m d c = absurd (other m.number (one_of _ _ c)) where
  other : (n : ℕ) → AskPages n ≡ Draw d → ⊥
  other n e = cc
draws_sent act m d c = absurd (Contains-none (Draw d) c)

-- ---- what stays

with_all_more : (cells : ℕ) (h batch : List DrawopValue) (x : DrawopValue) → Contains h x → Contains (history_after cells h batch) x
with_all_more cells h [] x c = c
with_all_more cells h (d ∷ batch) x c = with_all_more cells (history_with h d (outcome_of cells h d)) batch x (with_more h d x (outcome_of cells h d) c)

pub held_grows : (act : Act) (m : Member) (x : DrawopValue) → Contains m.held x → Contains (after act m).held x
held_grows (Takes now batch order) m x c = with_all_more m.cells m.held order x c
held_grows act m x c = c
