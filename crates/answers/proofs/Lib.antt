pub mod Rules
pub mod Bytes
pub mod Runs
pub mod Determined
