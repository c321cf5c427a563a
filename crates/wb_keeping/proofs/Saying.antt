-- Page states that a host says one after the other.
use Rattle.std.proofs.Common.{◌≡◌, List, [], ◌∷◌, ap, map, refl}
use Rattle.wb_codec.specs.declared.datagram.Datagram.{Datagram}
use Rattle.wb_member.specs.Opened.{Opened}
use Rattle.wb_names.specs.declared.name.PageId.{PageId}
use Rattle.wb_keeping.specs.Kept.{Line, Says, state_of}
use Rattle.wb_keeping.specs.Performing.{after_lines, sent_by_lines}
use Rattle.wb_keeping.specs.Views.{View}

abbrev pub says : View → List PageId → List Line
says v pages = map (λ (page : PageId). Says (state_of v page)) pages

pub says_after : (v : View) (pages : List PageId) (host : Opened) → after_lines (says v pages) host ≡ host
says_after v [] host = refl
says_after v (page ∷ pages) host = says_after v pages host

pub says_sent : (v : View) (pages : List PageId) (host : Opened) → sent_by_lines (says v pages) host ≡ map (state_of v) pages
says_sent v [] host = refl
says_sent v (page ∷ pages) host = ap (λ (ds : List Datagram). state_of v page ∷ ds) (says_sent v pages host)
