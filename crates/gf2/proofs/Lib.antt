pub mod Bits
pub mod Lists
pub mod Remainders
pub mod Tested
pub mod Turns
pub mod Determined
