pub mod Laws
pub mod Joining
pub mod Rule
pub mod Leading
pub mod Repeats
pub mod Determined
