pub mod Fields
pub mod Bits
pub mod Table
pub mod Sums
pub mod Determined
