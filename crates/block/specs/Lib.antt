pub mod Told
pub mod Corrector
pub mod Blocks
pub mod Quotients
