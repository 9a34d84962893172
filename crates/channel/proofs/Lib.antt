pub mod Rows
pub mod Order
pub mod Laws
pub mod Headers
pub mod Messages
pub mod Steps
pub mod Rule
pub mod Determined
