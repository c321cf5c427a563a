-- How a drawop comes onto a board: it arrives, or it is said.
use Rattle.std.proofs.Common.{◌≡◌, inl, inr, ⊎_elim}
use Rattle.std.specs.Prelude.{◌⊎◌, Contains}
use Rattle.wb_names.specs.Values.{DrawopValue}
use Rattle.wb_codec.specs.declared.datagram.Datagram.TheVariants.{Draw}
use Rattle.wb_member.specs.Opened.{Opened}
use Rattle.wb_keeping.specs.Kept.{Line, Arrives, Says}
use Rattle.wb_keeping.specs.Performing.{after_line}
use Rattle.wb_laws_sessions.specs.Members.{drawn_by, Does}
use Rattle.wb_laws_sessions.proofs.Deeds.{ComesBy, deed_brings, deed_draws, same_line}

-- it was held before, or comes by the line
abbrev pub WasHeldOrComes : Line → Opened → DrawopValue → Type 0
WasHeldOrComes line host d = Contains host.is.held d ⊎ ((line ≡ Arrives d) ⊎ (line ≡ Says (Draw d)))

pub line_brings : (line : Line) (host : Opened) (d : DrawopValue) → Contains (after_line line host).is.held d → WasHeldOrComes line host d
line_brings line host d c = ⊎_elim
    (λ (was : Contains host.is.held d). inl was)
    (λ (comes : ComesBy (Does line) host d). ⊎_elim
    (λ (arrives : Does line ≡ Does (Arrives d)). inr (inl (same_line line (Arrives d) arrives)))
    (λ (drawn : Contains (drawn_by (Does line) host) d). inr (inr (same_line line (Says (Draw d)) (deed_draws (Does line) host d drawn).said)))
    comes)
    (deed_brings (Does line) host d c)
