pub mod Ascii
pub mod Find
pub mod Fields
pub mod Numbers
pub mod Hexadecimal
