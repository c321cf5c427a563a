-- What a desk is, besides its answers: the pass that it holds of the history of its board. These are the words of wb_history that
-- speak of passes, for the crates above, which need not know that crate.
pub use Rattle.wb_history.specs.Passes.{HistoryValue, PassValue, IsPassOf, IsSamePass, IsSound, IsWhole, KeepsRows, AddsNothing, ReadsOn, IsCaughtUp}
pub use Rattle.wb_history.specs.Replies.{HasNoRow, Becomes}
pub use Rattle.wb_history.specs.Sharing.{IsSplit, IsJoined}
pub use Rattle.wb_history.specs.Lists.{longer}
