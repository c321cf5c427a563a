pub mod Telling
pub mod TurningLaws
pub mod Visible
pub mod InputText
pub mod WholeScripts
pub mod OtherLines
pub mod KeepingOn
