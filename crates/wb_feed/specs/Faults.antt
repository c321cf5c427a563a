-- The numbers of the faults.
use Rattle.std.specs.Prelude.{ℕ}
use Rattle.wb_feed.specs.declared.fault.FeedFault.{FeedFault}
use Rattle.wb_feed.specs.declared.fault.FeedFault.TheVariants as feeding
use Rattle.wb_feed.specs.declared.relays.RelayFault.{RelayFault}
use Rattle.wb_feed.specs.declared.relays.RelayFault.TheVariants as relaying

abbrev pub feed_code : FeedFault → ℕ
feed_code feeding.Workers = 1
feed_code feeding.Start = 2
feed_code (feeding.Memory lost) = 3

abbrev pub relay_code : RelayFault → ℕ
relay_code relaying.NoRow = 1
relay_code relaying.Memory = 2
