-- The session message that a keeper sends.
use Rattle.std.specs.Prelude.{◌≡◌, ℕ, ◌-◌, ◌≤◌, List, length, Option, Some, map}
use Rattle.std.specs.List.{filter_map}
use Rattle.std.specs.Option.{option_map}
use Rattle.std.specs.Ordering.{nat_cmp}
use Rattle.std.specs.declared.cmp.Ordering.{Ordering}
use Rattle.wb_names.specs.Values.{DrawopValue, MarkValue}
use Rattle.wb_names.specs.Listing.{Lists}
use Rattle.wb_names.specs.Marks.{IsReport}
use Rattle.wb_names.specs.declared.name.PageId.{PageId}
use Rattle.wb_names.specs.declared.echo.Echo.{Echo}
use Rattle.wb_codec.specs.declared.datagram.Datagram.{Datagram}
use Rattle.wb_codec.specs.declared.datagram.Datagram.TheVariants.{Session}
use Rattle.wb_gaps.specs.Answers.{report_of}
use Rattle.wb_gaps.specs.Sorting.{sorted}
use Rattle.wb_board.specs.Counts.{MAX_CELLS}
use Rattle.wb_keeper.specs.Keeper.{KeeperCall, senders_of, last_heard}
use Rattle.wb_keeper.specs.declared.keeper.Heard.{Heard}

abbrev pub echo_cmp : Echo → Echo → Ordering
echo_cmp a b = nat_cmp a.source b.source

-- the echo to a sender that is remembered: the moment that its last session message named, and how long ago that was heard
abbrev pub IsEchoTo : ℕ → List KeeperCall → ℕ → Echo → Type 0
IsEchoTo me calls now e = (h : Heard) × (last_heard me calls e.source ≡ Some h) × (e.sent ≡ h.sent) × (e.held ≡ now - h.at)

-- sent at this moment, with the report of the page and an echo to each such sender, ascending
pub record IsSession (me : ℕ) (calls : List KeeperCall) (now : ℕ) (history : List DrawopValue) (page : PageId) (message : Datagram) : Type 0 where
  pub marks : List MarkValue
  pub echoes : List Echo
  pub report : IsReport history page marks
  pub echoed : Lists echo_cmp (IsEchoTo me calls now) echoes
  pub is : message ≡ Session me now page marks echoes

-- the echoes at a moment, as a keeper holds them
abbrev pub echoes_at : ℕ → List (ℕ × Heard) → List Echo
echoes_at now heard = map (λ p. record { source = p.0; sent = p.1.sent; held = now - p.1.at }) heard

-- there is one such message
abbrev pub OneSession : Type 0
OneSession = (me : ℕ) (calls : List KeeperCall) (now : ℕ) (history : List DrawopValue) (page : PageId) (a b : Datagram) → IsSession me calls now history page a → IsSession me calls now history page b → a ≡ b

-- ---- the same as a function

-- the echo to a sender, if it is remembered
abbrev pub echo_to : ℕ → List KeeperCall → ℕ → ℕ → Option Echo
echo_to me calls now source = option_map (λ h. record { source = source; sent = h.sent; held = now - h.at }) (last_heard me calls source)

-- an echo to each sender that is remembered, ascending
abbrev pub echoes_of : ℕ → List KeeperCall → ℕ → List Echo
echoes_of me calls now = sorted echo_cmp (filter_map (echo_to me calls now) (senders_of me calls))

-- the session message of a page
abbrev pub message_of : ℕ → List KeeperCall → ℕ → List DrawopValue → PageId → Datagram
message_of me calls now history page = Session me now page (report_of history page) (echoes_of me calls now)

-- A history of at most 65,535 members has a report, and this is the one session message.
abbrev pub MessageIsSession : Type 0
MessageIsSession = (me : ℕ) (calls : List KeeperCall) (now : ℕ) (history : List DrawopValue) (page : PageId) → length history ≤ MAX_CELLS → IsSession me calls now history page (message_of me calls now history page)
