pub mod Summary
pub mod Report
pub mod Export
pub mod Cells
pub mod Building
