pub mod Exact
pub mod Operations
pub mod Comparison
pub mod Literals
pub mod Nearest
pub mod Rounding
pub mod Casts
pub mod Numbers
