pub mod Parsing
pub mod Faults
pub mod Answers
pub mod SentLines
pub mod Acts
pub mod Doing
