pub mod Answers
pub mod Layer3
pub mod Layer4
pub mod State
pub mod Headers
