pub mod Difference
pub mod Direction
pub mod Fusion
pub mod Exact
pub mod GreenAt
pub mod Weights
pub mod Bounds
pub mod Machine
