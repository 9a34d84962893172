pub mod Turns
pub mod Blocks
pub mod Linear
pub mod Quotients
pub mod RoundTrip
pub mod Determined
pub mod Changed
