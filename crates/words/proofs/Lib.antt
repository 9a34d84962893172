pub mod Bytes
pub mod Shifts
pub mod Words
pub mod Turns
pub mod Rounds
pub mod Counts
pub mod Outcomes
pub mod Determined
