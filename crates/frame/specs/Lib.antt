pub mod Frames
pub mod Tiles
