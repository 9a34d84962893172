pub mod Answers
pub mod State
pub mod Follows
pub mod Leading
pub mod Repeats
