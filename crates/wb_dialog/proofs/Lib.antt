pub mod Fronts
pub mod Closings
pub mod Transcripts
pub mod DialogLaws
pub mod OwnNumbers
pub mod ScriptLines
pub mod DrivenHosts
pub mod KeptReplies
pub mod KeptHosts
pub mod NeverTooMany
pub mod VersionLines
pub mod Numbers
pub mod EachKind
mod UnjudgedHosts
mod OwnHosts
mod MemberLaws
mod RecordLines
pub mod ListedPages
pub mod Rows
pub mod Acts
pub mod Begun
