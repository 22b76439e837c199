pub mod Directions
pub mod AlongAxis
pub mod GreenIn
pub mod Extended
pub mod Buffers
