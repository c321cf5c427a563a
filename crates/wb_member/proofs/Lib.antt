pub mod Boards
pub mod Queries
pub mod Acts
pub mod HeardActs
pub mod OneArrival
pub mod NextNumbers
pub mod KeptBoards
pub mod PolicyCalls
