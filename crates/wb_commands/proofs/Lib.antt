pub mod Counts
pub mod FirstWords
pub mod Arrivals
pub mod Acts
pub mod SentDigits
