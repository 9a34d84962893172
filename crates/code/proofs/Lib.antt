pub mod Sums
pub mod Computed
pub mod Orthogonal
pub mod Spanned
pub mod Majority
pub mod Accepted
pub mod Ones
pub mod Determined
