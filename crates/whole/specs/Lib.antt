pub mod Parts
pub mod Floor
pub mod Clamp
pub mod Fraction
