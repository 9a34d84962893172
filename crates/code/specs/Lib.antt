pub mod Code
pub mod Vote
