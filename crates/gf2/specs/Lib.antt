pub mod Poly
