-- What a policy sees of its host.
use Rattle.std.specs.Prelude.{ℕ, Bool, List, Option, is_some, length, nat_eq, nat_le, not}
use Rattle.std.specs.List.{find, list_any}
use Rattle.std.specs.Option.{option_map}
use Rattle.wb_names.specs.Orders.{same_name}
use Rattle.wb_names.specs.Values.{NameValue, DrawopValue}
use Rattle.wb_names.specs.declared.echo.Echo.{Echo}
use Rattle.wb_names.specs.declared.name.PageId.{PageId}
use Rattle.wb_recovery.specs.declared.limits.TheConstants.{UNKNOWN_DELAY}
use Rattle.wb_policy.specs.declared.wanting.AskedName.{AskedName}

-- What it sees of a host: its number, the present moment, how many cells its board has and what it holds, the names with a
-- request timer, ascending, the delay to a source, an echo to each sender that is remembered, ascending, and the greatest of
-- its own numbers that is known on a page.
pub record View : Type 0 where
  pub me : ℕ
  pub now : ℕ
  pub cells : ℕ
  pub held : List DrawopValue
  pub asked : List AskedName
  pub delay : ℕ → ℕ
  pub echoes : List Echo
  pub known : PageId → ℕ

abbrev pub holds : View → NameValue → Bool
holds v name = list_any (λ d. same_name d.name name) v.held

abbrev pub is_full : View → Bool
is_full v = nat_le v.cells (length v.held)

-- a source told its delay
abbrev pub is_known : View → ℕ → Bool
is_known v source = not (nat_eq (v.delay source) UNKNOWN_DELAY)

-- how often the request timer of a name was backed off, if one stands
abbrev pub level : View → NameValue → Option ℕ
level v name = option_map (λ a. a.level) (find (λ a. same_name a.name name) v.asked)

abbrev pub is_asked : View → NameValue → Bool
is_asked v name = is_some (level v name)
