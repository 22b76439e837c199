pub mod Logistic
pub mod Series
pub mod Exponential
pub mod Blend
pub mod Exact
pub mod BlendAt
pub mod Machine
