pub mod Bytes
pub mod Words
pub mod Near
pub mod Circle
