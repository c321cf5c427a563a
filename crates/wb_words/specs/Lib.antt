pub mod Words
pub mod Rests
pub mod Spelling
pub mod Reading
pub mod Adding
pub mod Grammar
pub mod Laws
pub mod FaultText
